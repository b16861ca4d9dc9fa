-- What is read of the whole: the counts, then the lists.
use Rattle.std.proofs.Common.{◌≡◌, ℕ, false, List, Result, Ok, Err, refl, sym, ◌∙◌}
use Rattle.slee_value.specs.declared.fault.PartFault.{PartFault}
use Rattle.slee_value.specs.declared.fault.PartFault.TheVariants as parts
use Rattle.slee_value.specs.Reading.{Fault, Part, ◌>>=◌, Fails}
use Rattle.script_types.specs.Program.{Program}
use Rattle.deploy_model.specs.Deployed.{Deployed}
use Rattle.router_state.specs.State.{State}
use Rattle.router_state.specs.Parsing.{list_at, u64_at, service_at, entity_at, activity_at, link_at, named_at, timer_at, row_at, suspensions_at}
use Rattle.router_state.specs.Restoring.{parsed}
use Rattle.snapshot_read.specs.declared.fault.ReadFault.TheVariants as faults
use Rattle.snapshot_read.specs.declared.reading.Counts.{Counts}
use Rattle.snapshot_read.specs.Faults.{fault_of}
use Rattle.snapshot_read.specs.Lists.{SpelledLists, counts_at, lists_at, state_in}
use Rattle.snapshot_read.specs.Names.{is_held}

-- a reading whose steps are grouped otherwise
then_then : {A B C : Type 0} (r : Result A Fault) (f : A → Result B Fault) (k : B → Result C Fault) (g : A → Result C Fault) → ((x : A) → (f x >>= k) ≡ g x) → ((r >>= f) >>= k) ≡ (r >>= g)
then_then (Ok x) f k g same = same x
then_then (Err e) f k g same = refl

-- the state, made of the lists after the counts
abbrev pub with_lists : ℕ → Deployed → Program → Counts → SpelledLists × List ℕ → Part State
with_lists format d p c l = Ok (state_in format d p c l.0, l.1)

abbrev pub with_counts : ℕ → Deployed → Program → Counts × List ℕ → Part State
with_counts format d p c = lists_at format d c.1 >>= with_lists format d p c.0

lists_first : (format : ℕ) (d : Deployed) (p : Program) (c : Counts) (bytes : List ℕ) → (lists_at format d bytes >>= with_lists format d p c) ≡
    (list_at service_at bytes >>= λ services. list_at (entity_at d) services.1 >>= λ entities. list_at (activity_at format d) entities.1 >>= λ activities. list_at link_at activities.1 >>= λ links.
    list_at named_at links.1 >>= λ names. list_at timer_at names.1 >>= λ timers. list_at (row_at d) timers.1 >>= λ rows. suspensions_at format rows.1 >>= λ suspensions.
    with_lists format d p c (record { services = services.0; entities = entities.0; activities = activities.0; links = links.0; names = names.0; timers = timers.0; rows = rows.0; suspensions = suspensions.0 }, suspensions.1))
lists_first format d p c bytes =
    let k = with_lists format d p c in
    then_then (list_at service_at bytes) _ k _ (λ services. then_then (list_at (entity_at d) services.1) _ k _ (λ entities. then_then (list_at (activity_at format d) entities.1) _ k _ (λ activities. then_then (list_at link_at activities.1) _ k _ (λ links.
    then_then (list_at named_at links.1) _ k _ (λ names. then_then (list_at timer_at names.1) _ k _ (λ timers. then_then (list_at (row_at d) timers.1) _ k _ (λ rows. then_then (suspensions_at format rows.1) _ k _ (λ suspensions. refl))))))))

-- what the definitions read
pub parsed_is : (format : ℕ) (d : Deployed) (p : Program) (bytes : List ℕ) → (counts_at bytes >>= with_counts format d p) ≡ parsed format d p bytes
parsed_is format d p bytes =
    let k = with_counts format d p in
    then_then (u64_at bytes) _ k _ (λ clock. then_then (u64_at clock.1) _ k _ (λ inputs. then_then (u64_at inputs.1) _ k _ (λ next_entity. then_then (u64_at next_entity.1) _ k _ (λ next_activity.
    then_then (u64_at next_activity.1) _ k _ (λ next_timer. then_then (u64_at next_timer.1) _ k _ (λ next_event. lists_first format d p _ next_event.1))))))

-- counts and lists that were read are a state
pub read_all : (format : ℕ) (d : Deployed) (p : Program) (bytes after rest : List ℕ) (c : Counts) (l : SpelledLists) → counts_at bytes ≡ Ok (c, after) → lists_at format d after ≡ Ok (l, rest) → parsed format d p bytes ≡ Ok (state_in format d p c l, rest)
read_all format d p bytes after rest c l counts lists = sym (parsed_is format d p bytes) ∙ rw (counts, lists) refl

-- a fault ends the reading
ended_held : {A : Type 0} (read : Part A) (k : A × List ℕ → Part State) (e : PartFault) → fault_of e ≡ faults.Bad → Fails e read → is_held (read >>= k) ≡ false
ended_held read k (parts.Bad left kind) bad fails = rw fails refl
ended_held read k parts.NoMemory bad fails = cc

pub no_counts : (format : ℕ) (d : Deployed) (p : Program) (bytes : List ℕ) (e : PartFault) → fault_of e ≡ faults.Bad → Fails e (counts_at bytes) → is_held (parsed format d p bytes) ≡ false
no_counts format d p bytes e bad fails = rw (← parsed_is format d p bytes) (ended_held (counts_at bytes) (with_counts format d p) e bad fails)

pub no_lists : (format : ℕ) (d : Deployed) (p : Program) (bytes after : List ℕ) (c : Counts) (e : PartFault) → fault_of e ≡ faults.Bad → counts_at bytes ≡ Ok (c, after) → Fails e (lists_at format d after) → is_held (parsed format d p bytes) ≡ false
no_lists format d p bytes after c e bad counts fails =
    let rest : is_held (with_counts format d p (c, after)) ≡ false = ended_held (lists_at format d after) (with_lists format d p c) e bad fails in
    rw (← parsed_is format d p bytes, counts) rest
