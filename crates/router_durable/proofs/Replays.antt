-- Records that are replayed from the state for which a snapshot stands.
use Rattle.std.proofs.Common.{◌≡◌, ℕ, ◌+◌, ◌==◌, ◌<◌, List, [], ◌∷◌, length, map, get_or, drop, drop-cons, add-one, Bool, true, false, ◌&&◌, if◌then◌else◌, refl, sym, ◌∙◌, ap, subst, Option, Some, None, Result, Ok, Err, arith}
use Rattle.std.specs.Str.{bytes_eq}
use Rattle.std.proofs.lemmas.Bool.{and_parts, eqb-true}
use Rattle.std.proofs.lemmas.Slice.Eq.{bytes_eq-Decides}
use Rattle.slee_disk.specs.declared.side.Side.{Side}
use Rattle.commit_journal.specs.declared.record.Record.{Record}
use Rattle.commit_journal.specs.declared.fault.JournalBad.{JournalBad}
use Rattle.commit_journal.specs.declared.fault.JournalBad.TheVariants as kinds
use Rattle.commit_journal.specs.Reading.{Wrong, Bad}
use Rattle.commit_journal.specs.Spelling.{Head, format_number}
use Rattle.commit_journal.specs.Views.{payload_of}
use Rattle.deploy_model.specs.Deployed.{Deployed}
use Rattle.script_types.specs.Program.{Program}
use Rattle.trace_history.specs.declared.choice.Choice.{Choice}
use Rattle.router_laws.proofs.KeptLemmas.{deployment_kept, program_kept}
use Rattle.router_laws_kept.specs.Kept.{CanBeKept, IsKeepable}
use Rattle.router_laws_kept.proofs.Keeping.{kept_after, kept_snapshot, snapshot_deployed}
use Rattle.router_state.specs.Initial.{initial}
use Rattle.router_state.specs.Restoring.{restored, state_of_snapshot}
use Rattle.router_state.specs.State.{State}
use Rattle.router_steps.specs.Histories.{is_choice}
use Rattle.router_steps.specs.Payloads.{choice_in, payload, payloads}
use Rattle.router_steps.specs.Steps.{after, is_enabled}
use Rattle.router_durable.specs.declared.fault.OpenFault.{OpenFault}
use Rattle.router_durable.specs.declared.fault.OpenFault.TheVariants as faults
use Rattle.router_durable.specs.declared.replaying.PayloadFault.{PayloadFault}
use Rattle.router_durable.specs.declared.replaying.PayloadFault.TheVariants as payload_faults
use Rattle.router_durable.specs.declared.replaying.ReplayFault.{ReplayFault}
use Rattle.router_durable.specs.declared.replaying.ReplayFault.TheVariants as replay_faults
use Rattle.router_durable.specs.Choices.{after_all, AreEnabled, AreChoices, AreReadAgain, written_format}
use Rattle.router_durable.specs.Facts.{AreRead}
use Rattle.router_durable.specs.Opening.{IsReplayCause}
use Rattle.router_durable.specs.Recovery.{fits_here, wrong_by, wrong_at, after_if, Misfit, first_wrong, misfit, with_choice, choices_in, Past, unless_misfit, past_from, past_on}
use Rattle.router_durable.specs.Replaying.{IsWrong, IsMisfit, misfit_at, refusal_of, Replays}

-- ---- records without a misfit are those of choices that may be made

if_none : (b : Bool) (kind : JournalBad) → (if b then None else Some kind) ≡ None → b ≡ true
if_none true kind e = refl
if_none false kind e = absurd (cc e)

both_none : (at : ℕ) (wrong : Option JournalBad) (more : Option Misfit) → first_wrong at wrong more ≡ None → (wrong ≡ None) × (more ≡ None)
both_none at None more e = (refl, e)
both_none at (Some kind) more e = absurd (cc e)

record Fits (format : ℕ) (s : State) (p : List ℕ) (x : Option Choice) : Type 0 where
  c : Choice
  is : x ≡ Some c
  valid : is_choice c ≡ true
  enabled : is_enabled s c ≡ true
  spelled : p ≡ payload format s c

one_fits : (format : ℕ) (s : State) (p : List ℕ) (x : Option Choice) → wrong_by format s p x ≡ None → Fits format s p x
one_fits format s p None w = absurd (cc w)
one_fits format s p (Some c) w =
    let fits = and_parts (is_choice c) (is_enabled s c && bytes_eq p (payload format s c)) (if_none (fits_here format s p c) _ w) in
    let rest = and_parts (is_enabled s c) (bytes_eq p (payload format s c)) fits.1 in
    record { c = c; is = refl; valid = fits.0; enabled = rest.0; spelled = (bytes_eq-Decides p (payload format s c)).0 rest.1 }

pub read_from : (s : State) (rs : List Record) → misfit written_format s rs ≡ None → AreRead s (map payload_of rs)
read_from s [] none = record { given = tt; enabled = tt; again = tt; spelled = refl }
read_from s (r ∷ rs) none =
    let p : List ℕ = r.payload in
    let split = both_none r.at (wrong_at written_format s p) (misfit written_format (after_if s (choice_in written_format p)) rs) none in
    let one = one_fits written_format s p (choice_in written_format p) split.0 in
    let next : misfit written_format (after s one.c) rs ≡ None = ap (λ x. misfit written_format (after_if s x) rs) (sym one.is) ∙ split.1 in
    let rest = read_from (after s one.c) rs next in
    let again : choice_in written_format (payload written_format s one.c) ≡ Some one.c = ap (choice_in written_format) (sym one.spelled) ∙ one.is in
    let is : choices_in written_format (p ∷ map payload_of rs) ≡ one.c ∷ choices_in written_format (map payload_of rs) = ap (λ x. with_choice x (choices_in written_format (map payload_of rs))) one.is in
    record {
      given = subst AreChoices (sym is) (one.valid, rest.given);
      enabled = subst (AreEnabled s) (sym is) (one.enabled, rest.enabled);
      again = subst (AreReadAgain s) (sym is) (again, rest.again);
      spelled = ap (λ (q : List ℕ). q ∷ map payload_of rs) one.spelled ∙ ap (λ (l : List (List ℕ)). payload written_format s one.c ∷ l) rest.spelled ∙ ap (payloads written_format s) (sym is);
    }

-- the deployment and its scripts stay
deployment_all : (s : State) (cs : List Choice) → (after_all s cs).deployment ≡ s.deployment
deployment_all s [] = refl
deployment_all s (c ∷ cs) = deployment_all (after s c) cs ∙ deployment_kept s c

program_all : (s : State) (cs : List Choice) → (after_all s cs).program ≡ s.program
program_all s [] = refl
program_all s (c ∷ cs) = program_all (after s c) cs ∙ program_kept s c

-- the state behind choices that follow on the state of a snapshot is of that deployment
module _ (format : ℕ) (d : Deployed) (p : Program) (bytes : List ℕ) (start : State) (is : state_of_snapshot format d p bytes ≡ Some start) (cs : List Choice) (s : State) (behind : s ≡ after_all start cs) where
  pub behind_deployment : s.deployment ≡ d
  behind_deployment = ap (λ (t : State). t.deployment) behind ∙ deployment_all start cs ∙ (snapshot_deployed format d p bytes start is).0

  pub behind_program : s.program ≡ p
  behind_program = ap (λ (t : State). t.program) behind ∙ program_all start cs ∙ (snapshot_deployed format d p bytes start is).1

-- the state behind records that fit can be kept, where the one before them can
kept_behind : (format : ℕ) (s : State) (rs : List Record) → misfit format s rs ≡ None → CanBeKept s → CanBeKept (after_all s (choices_in format (map payload_of rs)))
kept_behind format s [] none kept = kept
kept_behind format s (r ∷ rs) none kept =
    let p : List ℕ = r.payload in
    let split = both_none r.at (wrong_at format s p) (misfit format (after_if s (choice_in format p)) rs) none in
    let one = one_fits format s p (choice_in format p) split.0 in
    let next : misfit format (after s one.c) rs ≡ None = ap (λ x. misfit format (after_if s x) rs) (sym one.is) ∙ split.1 in
    let rest = kept_behind format (after s one.c) rs next (kept_after s one.c kept one.valid one.enabled) in
    let is : choices_in format (p ∷ map payload_of rs) ≡ one.c ∷ choices_in format (map payload_of rs) = ap (λ x. with_choice x (choices_in format (map payload_of rs))) one.is in
    subst (λ (cs : List Choice). CanBeKept (after_all s cs)) (sym is) rest

-- of a side that was replayed
module _ (d : Deployed) (p : Program) (keepable : IsKeepable d p) (head : Head) (rs : List Record) (start s : State) (replays : Replays d p head rs start s) where
  pub replayed_kept : CanBeKept s
  replayed_kept =
      subst CanBeKept (sym replays.state)
      (kept_behind (format_number head.format) start rs replays.fits (kept_snapshot (format_number head.format) d p head.snapshot start keepable replays.started))

  pub replayed_deployment : s.deployment ≡ d
  replayed_deployment = behind_deployment (format_number head.format) d p head.snapshot start replays.started (choices_in (format_number head.format) (map payload_of rs)) s replays.state

  pub replayed_program : s.program ≡ p
  replayed_program = behind_program (format_number head.format) d p head.snapshot start replays.started (choices_in (format_number head.format) (map payload_of rs)) s replays.state

-- ---- one record more was replayed

record_at : (records : List Record) (i : ℕ) (r : Record) → i < length records → r ≡ get_or records i r → drop i records ≡ r ∷ drop (i + 1) records
record_at records i r lt is = rw (drop-cons records i r lt, ← is, add-one)

with_after : (s : State) (x : Option Choice) (cs : List Choice) → after_all s (with_choice x cs) ≡ after_all (after_if s x) cs
with_after s None cs = refl
with_after s (Some c) cs = refl

module _ (format : ℕ) (records : List Record) (i : ℕ) (r : Record) (bytes : List ℕ) (s t first : State) (lt : i < length records) (is : r ≡ get_or records i r) (paid : bytes ≡ r.payload)
    (fits : wrong_at format s bytes ≡ None) (moved : t ≡ after_if s (choice_in format bytes)) where
  abbrev left : List Record
  left = drop (i + 1) records

  fits_here_too : wrong_at format s r.payload ≡ None
  fits_here_too = ap (wrong_at format s) (sym paid) ∙ fits

  moved_so : t ≡ after_if s (choice_in format r.payload)
  moved_so = moved ∙ ap (λ (p : List ℕ). after_if s (choice_in format p)) paid

  pub next_misfit : misfit format s (drop i records) ≡ misfit format first records → misfit format t left ≡ misfit format first records
  next_misfit before =
      ap (λ (u : State). misfit format u left) moved_so
      ∙ sym (ap (λ (w : Option JournalBad). first_wrong r.at w (misfit format (after_if s (choice_in format r.payload)) left)) fits_here_too)
      ∙ sym (ap (misfit format s) (record_at records i r lt is))
      ∙ before

  pub next_state : after_all s (choices_in format (map payload_of (drop i records))) ≡ after_all first (choices_in format (map payload_of records))
      → after_all t (choices_in format (map payload_of left)) ≡ after_all first (choices_in format (map payload_of records))
  next_state before =
      ap (λ (u : State). after_all u (choices_in format (map payload_of left))) moved_so
      ∙ sym (with_after s (choice_in format r.payload) (choices_in format (map payload_of left)))
      ∙ sym (ap (λ (rs : List Record). after_all s (choices_in format (map payload_of rs))) (record_at records i r lt is))
      ∙ before

wrong_first : (at : ℕ) (fault : PayloadFault) (wrong : Option JournalBad) (more first : Option Misfit) → IsWrong fault wrong → first_wrong at wrong more ≡ first → IsMisfit (misfit_at at fault) first
wrong_first at (payload_faults.Wrong kind) wrong more first is same = sym same ∙ ap (λ (w : Option JournalBad). first_wrong at w more) is
wrong_first at payload_faults.NoMemory wrong more first is same = tt

-- the record is the first that doesn't fit
pub missed : (format : ℕ) (records : List Record) (i : ℕ) (r : Record) (bytes : List ℕ) (s start : State) → i < length records → r ≡ get_or records i r → bytes ≡ r.payload
    → (fault : PayloadFault) → IsWrong fault (wrong_at format s bytes) → misfit format s (drop i records) ≡ misfit format start records → IsMisfit (misfit_at r.at fault) (misfit format start records)
missed format records i r bytes s start lt is paid fault wrong before =
    wrong_first r.at fault (wrong_at format s r.payload) (misfit format (after_if s (choice_in format r.payload)) (drop (i + 1) records)) (misfit format start records)
    (subst (λ (p : List ℕ). IsWrong fault (wrong_at format s p)) paid wrong)
    (sym (ap (misfit format s) (record_at records i r lt is)) ∙ before)

cause_by : (side : Side) (fault : ReplayFault) (first : Option Misfit) (past : Past) → IsMisfit fault first → IsReplayCause (unless_misfit side first past) (refusal_of side fault)
cause_by side (replay_faults.Misfit at kind) first past is = ap (λ (x : Option Misfit). unless_misfit side x past) is
cause_by side replay_faults.NoMemory first past is = tt

-- why the records of a side aren't replayed
pub replay_cause : (first : State) (side which : Side) (head : Head) (n : ℕ) (rs list : List Record) (s : State) (fault : ReplayFault) (e : OpenFault) → which ≡ side → n ≡ format_number head.format → list ≡ rs
    → e ≡ refusal_of which fault → state_of_snapshot (format_number head.format) first.deployment first.program head.snapshot ≡ Some s → IsMisfit fault (misfit n s list) → IsReplayCause (past_on first side head rs) e
replay_cause first side which head n rs list s fault e is_side is_n is_list is_e started is =
    let past : Past = record { start = s; choices = choices_in (format_number head.format) (map payload_of rs) } in
    let missed_here : IsMisfit fault (misfit (format_number head.format) s rs) =
    subst (λ k. IsMisfit fault (misfit k s rs)) is_n (subst (λ (l : List Record). IsMisfit fault (misfit n s l)) is_list is) in
    let on : past_on first side head rs ≡ unless_misfit side (misfit (format_number head.format) s rs) past = ap (past_from side (format_number head.format) rs) started in
    subst (λ (x : OpenFault). IsReplayCause (past_on first side head rs) x) (sym (is_e ∙ ap (λ (x : Side). refusal_of x fault) is_side))
    (subst (λ (r : Result Past Wrong). IsReplayCause r (refusal_of side fault)) (sym on) (cause_by side fault (misfit (format_number head.format) s rs) past missed_here))

-- ---- the state for which a snapshot stands

no_bytes : (bytes : List ℕ) → (length bytes == 0) ≡ true → bytes ≡ []
no_bytes [] none = refl
no_bytes (b ∷ bs) none = absurd (omega (arith, eqb-true (length (b ∷ bs)) 0 none))

some_bytes : (format : ℕ) (d : Deployed) (p : Program) (bytes : List ℕ) → (length bytes == 0) ≡ false → state_of_snapshot format d p bytes ≡ restored format d p bytes
some_bytes format d p [] some = absurd (cc some)
some_bytes format d p (b ∷ bs) some = refl

module _ (format : ℕ) (d : Deployed) (p : Program) (snapshot read : List ℕ) (is_read : read ≡ snapshot) where
  pub first_stands : (length read == 0) ≡ true → (s : State) → s ≡ initial d p → state_of_snapshot format d p snapshot ≡ Some s
  first_stands none s is = ap (state_of_snapshot format d p) (sym is_read ∙ no_bytes read none) ∙ ap (λ (t : State). Some t) (sym is)

  pub snapshot_stands : (length read == 0) ≡ false → (n : ℕ) → n ≡ format → (x : Option State) → restored n d p read ≡ x → state_of_snapshot format d p snapshot ≡ x
  snapshot_stands some n is_n x is =
      ap (state_of_snapshot format d p) (sym is_read) ∙ some_bytes format d p read some ∙ ap (λ k. restored k d p read) (sym is_n) ∙ is

-- it stands for none
pub snapshot_cause : (first : State) (side which : Side) (head : Head) (rs : List Record) → which ≡ side → state_of_snapshot (format_number head.format) first.deployment first.program head.snapshot ≡ None
    → IsReplayCause (past_on first side head rs) (faults.BadJournal which 0 kinds.Snapshot)
snapshot_cause first side which head rs is_side none =
    ap (past_from side (format_number head.format) rs) none ∙ ap (λ (x : Side). Err (Bad x 0 kinds.Snapshot)) (sym is_side)

-- a side that was replayed
pub replays_on : (d : Deployed) (p : Program) (head : Head) (rs list : List Record) (n : ℕ) (s start t : State) → n ≡ format_number head.format → list ≡ rs → start ≡ s
    → state_of_snapshot (format_number head.format) d p head.snapshot ≡ Some s → misfit n s list ≡ None → t ≡ after_all s (choices_in n (map payload_of list)) → Replays d p head rs start t
replays_on d p head rs list n s start t is_n is_list is_start started fits state =
    subst (λ (u : State). Replays d p head rs u t) (sym is_start) (record {
      started = started;
      fits = ap (λ (l : List Record). misfit (format_number head.format) s l) (sym is_list) ∙ ap (λ k. misfit k s list) (sym is_n) ∙ fits;
      state = state ∙ ap (λ k. after_all s (choices_in k (map payload_of list))) is_n ∙ ap (λ (l : List Record). after_all s (choices_in (format_number head.format) (map payload_of l))) is_list;
    })
