-- Activities are read again, with all that belongs to them.
use Rattle.std.proofs.Common.{◌≡◌, ℕ, ◌==◌, ◌^◌, ◌<◌, true, false, List, ◌++◌, ap, length, refl, ◌∙◌, append_assoc, arith}
use Rattle.std.specs.Prelude.{Ok, Option, None, ⊤}
use Rattle.std.specs.List.{AllByRecursion}
use Rattle.slee_value.specs.Bytes.{spelled_u32, spelled_u64, spelled_text, spelled_flag, spelled_option, FitsOption, FitsText}
use Rattle.slee_value.specs.Reading.{Part, ◌>>=◌, flag_at, option_at, text_at}
use Rattle.slee_value.proofs.PartLemmas.{reads_u64, reads_flag}
use Rattle.slee_value.proofs.TextPartLemmas.{reads_text}
use Rattle.deploy_model.specs.Deployed.{Deployed, service_key, service_named, table_name, table_named}
use Rattle.router_state.specs.State.{State}
use Rattle.router_state.specs.Contexts.{attributes_of}
use Rattle.router_state.specs.Queues.{queue, done_on, delivered_on, suspended_until}
use Rattle.router_state.specs.Parsing.{ActivityPart, activity_at, event_at, kind_at, list_at, pairs_at, service_number_at, table_number_at, u32_at, u64_at, until_at}
use Rattle.router_state.specs.Snapshot.{listed, spelled_activity, spelled_activity_2, spelled_event, spelled_kind, spelled_pair}
use Rattle.router_state.specs.declared.rows.AcKind.{AcKind}
use Rattle.router_state.specs.declared.rows.AcKind.TheVariants as kinds
use Rattle.router_state.specs.declared.rows.Activity.{Activity}
use Rattle.router_state.specs.declared.rows.Event.{Event}
use Rattle.router_laws_snapshots.proofs.Again.{Again, again_items, again_u64, front, left_short, right_short, step}
use Rattle.router_laws_snapshots.proofs.Parts.{FitsPair, HasKey, again_pairs, again_u32, keyed_again, option_same}

-- ---- what activities stand for

abbrev pub FitsKind : Deployed → AcKind → Type 0
FitsKind d (kinds.External name) = FitsText name
FitsKind d kinds.Null = ⊤
FitsKind d (kinds.Service service) = HasKey (service_named d) (service_key d service) service
FitsKind d (kinds.Table table) = HasKey (table_named d) (table_name d table) table

kind_again : (d : Deployed) (kind : AcKind) (rest : List ℕ) → FitsKind d kind → kind_at d (spelled_kind d kind ++ rest) ≡ Ok (kind, rest)
kind_again d (kinds.External name) rest fit = front text_at _ (spelled_text name) rest name (λ more. reads_text.again name more fit)
kind_again d kinds.Null rest fit = refl
kind_again d (kinds.Service service) rest fit = front (service_number_at d) _ (spelled_text (service_key d service)) rest service (λ more. keyed_again (service_named d) (service_key d service) service more fit)
kind_again d (kinds.Table table) rest fit = front (table_number_at d) _ (spelled_text (table_name d table)) rest table (λ more. keyed_again (table_named d) (table_name d table) table more fit)

-- ---- events

pub record FitsEvent (d : Deployed) (event : Event) : Type 0 where
  pub id : event.id.0 < 2 ^ 64
  pub name : FitsText event.name
  pub target : FitsOption (λ service. HasKey (service_named d) (service_key d service) service) event.target
  pub fields : AllByRecursion FitsPair event.fields

event_back : (d : Deployed) (event : Event) (rest : List ℕ) → FitsEvent d event → length (spelled_event d event) < 2 ^ 64 → event_at d (spelled_event d event ++ rest) ≡ Ok (event, rest)
event_back d event rest fit short =
    let target = spelled_option (λ service. spelled_text (service_key d service)) event.target in
    let e3 = listed spelled_pair event.fields in
    let e2 = target ++ e3 in
    let e1 = spelled_text event.name ++ e2 in
    let short3 : length e3 < 2 ^ 64 = right_short target e3 (right_short (spelled_text event.name) e2 (right_short (spelled_u64 event.id.0) e1 short)) in
    step u64_at _ (spelled_u64 event.id.0) e1 rest event.id.0 (λ more. reads_u64.again event.id.0 more fit.id)
    ∙ step text_at _ (spelled_text event.name) e2 rest event.name (λ more. reads_text.again event.name more fit.name)
    ∙ step (option_at (service_number_at d)) _ target e3 rest event.target
    (λ more. option_same (λ service. spelled_text (service_key d service)) (λ service. HasKey (service_named d) (service_key d service) service) (service_number_at d) (λ service rest has. keyed_again (service_named d) (service_key d service) service rest has) event.target more fit.target)
    ∙ front pairs_at _ e3 rest event.fields (λ more. again_pairs.back event.fields more fit.fields short3)

again_event : (d : Deployed) → Again (spelled_event d) (FitsEvent d) (λ event. event) (event_at d)
again_event d = record { back = event_back d; some = λ event. omega arith }

-- ---- activities

pub record FitsActivity (s : State) (row : Activity) : Type 0 where
  pub number : row.number.0 < 2 ^ 64
  pub kind : FitsKind s.deployment row.kind
  pub attributes : AllByRecursion FitsPair (attributes_of s.attributes row.number.0)
  pub events : AllByRecursion (FitsEvent s.deployment) (queue s.events row.number.0)
  pub services_done : AllByRecursion (λ n. n < 2 ^ 32) (done_on s.services_done row.number.0)
  pub delivered : AllByRecursion (λ n. n < 2 ^ 64) (delivered_on s.delivered row.number.0)
  pub until : FitsOption (λ n. n < 2 ^ 64) (suspended_until s.suspensions row.number.0)

-- what an activity is read as, with what is read of its suspension
abbrev pub activity_part : State → Option ℕ → Activity → ActivityPart
activity_part s until row = record {
  number = row.number.0;
  kind = row.kind;
  ending = row.ending;
  attributes = attributes_of s.attributes row.number.0;
  events = queue s.events row.number.0;
  services_done = done_on s.services_done row.number.0;
  delivered = delivered_on s.delivered row.number.0;
  until = until;
}

-- the end of an activity that was read
abbrev with_until : State → Activity → Option ℕ × List ℕ → Part ActivityPart
with_until s row until = Ok (activity_part s until.0 row, until.1)

activity_back : (format : ℕ) (s : State) (row : Activity) (rest : List ℕ) → FitsActivity s row → length (spelled_activity s row) < 2 ^ 64 → activity_at format s.deployment (spelled_activity s row ++ rest) ≡ (until_at format rest >>= with_until s row)
activity_back format s row rest fit short =
    let d = s.deployment in
    let a = row.number.0 in
    let attributes = listed spelled_pair (attributes_of s.attributes a) in
    let events = listed (spelled_event d) (queue s.events a) in
    let done = listed spelled_u32 (done_on s.services_done a) in
    let e6 = listed spelled_u64 (delivered_on s.delivered a) in
    let e5 = done ++ e6 in
    let e4 = events ++ e5 in
    let e3 = attributes ++ e4 in
    let e2 = spelled_flag row.ending ++ e3 in
    let e1 = spelled_kind d row.kind ++ e2 in
    let short3 : length e3 < 2 ^ 64 = right_short (spelled_flag row.ending) e3 (right_short (spelled_kind d row.kind) e2 (right_short (spelled_u64 a) e1 short)) in
    let short4 : length e4 < 2 ^ 64 = right_short attributes e4 short3 in
    let short5 : length e5 < 2 ^ 64 = right_short events e5 short4 in
    step u64_at _ (spelled_u64 a) e1 rest a (λ more. reads_u64.again a more fit.number)
    ∙ step (kind_at d) _ (spelled_kind d row.kind) e2 rest row.kind (λ more. kind_again d row.kind more fit.kind)
    ∙ step flag_at _ (spelled_flag row.ending) e3 rest row.ending (λ more. reads_flag.again row.ending more tt)
    ∙ step pairs_at _ attributes e4 rest (attributes_of s.attributes a) (λ more. again_pairs.back (attributes_of s.attributes a) more fit.attributes (left_short attributes e4 short3))
    ∙ step (list_at (event_at d)) _ events e5 rest (queue s.events a) (λ more. (again_items (spelled_event d) (FitsEvent d) (event_at d) (again_event d)).back (queue s.events a) more fit.events (left_short events e5 short4))
    ∙ step (list_at u32_at) _ done e6 rest (done_on s.services_done a) (λ more. (again_items spelled_u32 (λ n. n < 2 ^ 32) u32_at again_u32).back (done_on s.services_done a) more fit.services_done (left_short done e6 short5))
    ∙ front (list_at u64_at) _ e6 rest (delivered_on s.delivered a) (λ more. (again_items spelled_u64 (λ n. n < 2 ^ 64) u64_at again_u64).back (delivered_on s.delivered a) more fit.delivered (right_short done e6 short5))

-- in format 1 without its suspension
pub again_activity_1 : (format : ℕ) (s : State) → (format == 2) ≡ false → Again (spelled_activity s) (FitsActivity s) (activity_part s None) (activity_at format s.deployment)
again_activity_1 format s one = record {
  back = λ row rest fit short. activity_back format s row rest fit short ∙ rw one refl;
  some = λ row. omega arith;
}

-- a suspension is read in format 2
until_again : (format : ℕ) (s : State) (row : Activity) (until : Option ℕ) (rest : List ℕ) → (format == 2) ≡ true → FitsOption (λ n. n < 2 ^ 64) until → (until_at format (spelled_option spelled_u64 until ++ rest) >>= with_until s row) ≡ with_until s row (until, rest)
until_again format s row until rest two fit = rw two (front (option_at u64_at) (with_until s row) (spelled_option spelled_u64 until) rest until (λ more. option_same spelled_u64 (λ n. n < 2 ^ 64) u64_at reads_u64.again until more fit))

activity_2 : (format : ℕ) (s : State) → (format == 2) ≡ true → (row : Activity) (rest : List ℕ) → FitsActivity s row → length (spelled_activity_2 s row) < 2 ^ 64
    → activity_at format s.deployment (spelled_activity_2 s row ++ rest) ≡ Ok (activity_part s (suspended_until s.suspensions row.number.0) row, rest)
activity_2 format s two row rest fit short =
    let until = suspended_until s.suspensions row.number.0 in
    let last = spelled_option spelled_u64 until in
    ap (activity_at format s.deployment) (append_assoc (spelled_activity s row) last rest)
    ∙ activity_back format s row (last ++ rest) fit (left_short (spelled_activity s row) last short)
    ∙ until_again format s row until rest two fit.until

-- in format 2 with its suspension
pub again_activity_2 : (format : ℕ) (s : State) → (format == 2) ≡ true → Again (spelled_activity_2 s) (FitsActivity s) (λ row. activity_part s (suspended_until s.suspensions row.number.0) row) (activity_at format s.deployment)
again_activity_2 format s two = record { back = activity_2 format s two; some = λ row. omega arith }
