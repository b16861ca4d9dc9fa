-- How steps of a container end, by those of its router.
use Rattle.std.proofs.Common.{◌≡◌, ℕ, Bool, true, false, if◌then◌else◌, List, [], length, refl, arith, ◌+◌, sym, ◌∙◌, ap, subst, None, Some, Result, Ok, Err, IsTrue}
use Rattle.signal_script.specs.declared.signal.Signal.{Signal}
use Rattle.slee_disk.specs.Disk.{DiskState}
use Rattle.trace_history.specs.Histories.{input_of}
use Rattle.trace_history.specs.declared.choice.Choice.{Choice}
use Rattle.router_durable.specs.Core.{Flushes as FlushesInRouter, Held, Makes as MakesInRouter}
use Rattle.router_durable.specs.Facts.{IsCrashSafe, Origin}
use Rattle.router_durable.specs.declared.fault.StepFault.{StepFault}
use Rattle.router_durable.specs.declared.fault.StepFault.TheVariants as faults
use Rattle.router_durable.specs.declared.fault.Stop.TheVariants as stops
use Rattle.router_durable.proofs.Steps.{refused_makes}
use Rattle.tx_attempt.specs.declared.ticket.Ticket.{Ticket}
use Rattle.slee_container.specs.Container.{Setup, View, held_in, over_router}
use Rattle.slee_container.specs.Steps.{Ends, Flushes, Makes, MakesWith, claims_after, is_made, is_spent, taken_after}

-- the router says how it ends, where it isn't refused as spent
ends : {D : Type 0} (before after : DiskState) (v w : View D) (c : Choice) (r : Result ℕ StepFault) → MakesInRouter before after (held_in v) c r (held_in w) → Ends before after v c r w
ends before after v w c (Ok number) made = made
ends before after v w c (Err faults.DiskFault) made = made
ends before after v w c (Err (faults.Full size adding)) made = made
ends before after v w c (Err faults.NoMemory) made = made
ends before after v w c (Err faults.Spent) made = absurd made.step

not_spent : {D : Type 0} (before after : DiskState) (h k : Held D) (c : Choice) (r : Result ℕ StepFault) → MakesInRouter before after h c r k → r ≡ Err faults.Spent → ⊥
not_spent before after h k c (Ok number) made is = cc
not_spent before after h k c (Err faults.DiskFault) made is = cc
not_spent before after h k c (Err (faults.Full size adding)) made is = cc
not_spent before after h k c (Err faults.NoMemory) made is = cc
not_spent before after h k c (Err faults.Spent) made is = made.step

never : (b : Bool) → b ≡ false → b ≡ true → ⊥
never true not_it is = cc
never false not_it is = cc

-- a step of the router of a container that isn't spent
pub made_live : {D : Type 0} (before after : DiskState) (v w : View D) (c : Choice) (r : Result ℕ StepFault) → MakesInRouter before after (held_in v) c r (held_in w) → is_spent v ≡ false
    → w.taken ≡ taken_after v.taken c r → w.setup ≡ v.setup → Makes before after v c r w
made_live before after v w c r made fresh taken setup = record {
  step = ends before after v w c r made;
  taken = taken;
  setup = setup;
  any_moment = made.any_moment;
  refused = λ is. absurd (not_spent before after (held_in v) (held_in w) c r made is);
  spent = λ is. absurd (never (is_spent v) fresh is);
}

-- the setup, a step of the router on
setup_on : {D : Type 0} (before after : DiskState) (h k : Held D) (c : Choice) (r : Result ℕ StepFault) (lines : List Signal) (skipped taken more steps : ℕ) (xs ys : List Ticket)
    → MakesInRouter before after h c r k → (over_router k lines skipped more steps ys).setup ≡ (over_router h lines skipped taken steps xs).setup
setup_on before after h k c r lines skipped taken more steps xs ys made =
    let set : Origin → ℕ → Setup = λ origin journal. record { origin = origin; lines = lines; skipped = skipped; journal = journal; steps = steps } in
    ap (λ (o : Origin). set o k.limit) made.origin ∙ ap (λ (n : ℕ). set h.origin n) made.limit

-- the same of what is seen over a router
pub makes_over : {D : Type 0} (disk_of : D → DiskState) (h k : Held D) (c : Choice) (r : Result ℕ StepFault) (lines : List Signal) (skipped taken more steps : ℕ) (xs ys : List Ticket) (v : View D)
    → over_router h lines skipped taken steps xs ≡ v → is_spent v ≡ false → more ≡ taken_after taken c r → MakesInRouter (disk_of h.disk) (disk_of k.disk) h c r k
    → Makes (disk_of v.disk) (disk_of k.disk) v c r (over_router k lines skipped more steps ys)
makes_over {D = D} disk_of h k c r lines skipped taken more steps xs ys v is fresh grown made =
    subst (λ (u : View D). is_spent u ≡ false → Makes (disk_of u.disk) (disk_of k.disk) u c r (over_router k lines skipped more steps ys)) is
    (λ fresh_here. made_live (disk_of h.disk) (disk_of k.disk) (over_router h lines skipped taken steps xs) (over_router k lines skipped more steps ys) c r made fresh_here grown
    (setup_on (disk_of h.disk) (disk_of k.disk) h k c r lines skipped taken more steps xs ys made)) fresh

-- a choice that takes no line leaves their count
pub untaken : (taken : ℕ) (c : Choice) (r : Result ℕ StepFault) → input_of c ≡ [] → taken ≡ taken_after taken c r
untaken taken c r none = by (is_made r)
  where
    by : (b : Bool) → taken ≡ (if b then taken + length (input_of c) else taken)
    by true = rw none (omega arith)
    by false = refl

-- nothing is made
pub spent_makes : {D : Type 0} (disk : DiskState) (v : View D) (c : Choice) → v.stop ≡ None → IsTrue (is_spent v) → IsCrashSafe v.setup.origin v.history v.acked disk → (v.stop ≡ None → v.setup.origin.torn ≡ false)
    → Makes disk disk v c (Err faults.Spent) v
spent_makes disk v c live spent safe whole = record {
  step = refl;
  taken = refl;
  setup = refl;
  any_moment = (refused_makes (λ _. disk) (held_in v) c safe (whole live)).any_moment;
  refused = λ _. spent;
  spent = λ _. refl;
}

pub wanting_makes : {D : Type 0} (disk : DiskState) (v : View D) (c : Choice) → v.stop ≡ None → is_spent v ≡ false → IsCrashSafe v.setup.origin v.history v.acked disk → (v.stop ≡ None → v.setup.origin.torn ≡ false)
    → Makes disk disk v c (Err faults.NoMemory) v
wanting_makes disk v c live fresh safe whole = made_live disk disk v v c (Err faults.NoMemory) (refused_makes (λ _. disk) (held_in v) c safe (whole live)) fresh refl refl

-- ---- a step, and the claims behind it

-- a step, where then the claims are settled
pub settled : {D : Type 0} (disk_of : D → DiskState) (h k : Held D) (c : Choice) (r : Result ℕ StepFault) (lines : List Signal) (skipped taken steps : ℕ) (xs : List Ticket) (a : ℕ) (v w : View D)
    → over_router h lines skipped taken steps xs ≡ v → is_spent v ≡ false → input_of c ≡ [] → MakesInRouter (disk_of h.disk) (disk_of k.disk) h c r k
    → w ≡ record (over_router k lines skipped taken steps xs) { claims = claims_after xs a r } → MakesWith (disk_of v.disk) (disk_of w.disk) v c r (claims_after v.claims a r) w
settled {D = D} disk_of h k c r lines skipped taken steps xs a v w is fresh none made set =
    subst (λ (u : View D). is_spent u ≡ false → MakesWith (disk_of u.disk) (disk_of w.disk) u c r (claims_after u.claims a r) w) is
    (λ fresh_here. subst (λ (x : View D). MakesWith (disk_of h.disk) (disk_of x.disk) (over_router h lines skipped taken steps xs) c r (claims_after xs a r) x) (sym set) (record {
      made = makes_over disk_of h k c r lines skipped taken taken steps xs (claims_after xs a r) (over_router h lines skipped taken steps xs) refl fresh_here (untaken taken c r none) made;
      claims = refl;
    })) fresh

-- ---- a flush

-- what a flush of the router does is that of the container
pub flushed : {D T E : Type 0} (h k : Held D) (r : Result T E) (lines : List Signal) (skipped taken steps : ℕ) (claims : List Ticket) (v : View D) → over_router h lines skipped taken steps claims ≡ v
    → FlushesInRouter h r k → Flushes v r (over_router k lines skipped taken steps claims)
flushed {D = D} h k (Ok done) lines skipped taken steps claims v is f =
    subst (λ (u : View D). over_router k lines skipped taken steps claims ≡ record u { acked = length u.history; disk = k.disk }) is
    (ap (λ (x : Held D). over_router x lines skipped taken steps claims) f)
flushed {D = D} h k (Err fault) lines skipped taken steps claims v is f =
    subst (λ (u : View D). over_router k lines skipped taken steps claims ≡ record u { stop = Some stops.DiskFault; disk = k.disk }) is
    (ap (λ (x : Held D). over_router x lines skipped taken steps claims) f)
