-- What a restart gives is what a legal history leaves of the state for which a snapshot stands, so it is well formed.
use Rattle.std.proofs.Common.{◌≡◌, ℕ, ◌<◌, ◌^◌, Bool, true, List, [], ◌∷◌, length, map, refl, sym, subst, inl, inr, Option, Some, None}
use Rattle.std.specs.Prelude.{Err, IsTrue, Ok, Result}
use Rattle.std.proofs.lemmas.Bool.{and_parts, cases_Bool}
use Rattle.slee_disk.specs.Sides.{Sides}
use Rattle.slee_disk.specs.declared.side.Side.{Side}
use Rattle.commit_journal.specs.Reading.{Kept, Wrong, first_gate, recovered}
use Rattle.commit_journal.specs.Spelling.{format_number}
use Rattle.commit_journal.specs.Views.{located, payload_of}
use Rattle.commit_journal.specs.declared.fault.JournalBad.{JournalBad}
use Rattle.commit_journal.specs.declared.record.Record.{Record}
use Rattle.script_types.specs.Program.{Program}
use Rattle.script_types.specs.ProgramOf.{kept_program}
use Rattle.deploy_model.specs.Deployed.{Deployed}
use Rattle.deploy_model.specs.Resolving.{deployed_of}
use Rattle.slee_descriptor.specs.declared.deployment.Deployment.{Deployment}
use Rattle.deploy_json.specs.Checking.{read_as, reading_of}
use Rattle.trace_history.specs.declared.choice.Choice.{Choice}
use Rattle.trace_history.specs.declared.entry.Entry.{Entry}
use Rattle.router_state.specs.Initial.{initial}
use Rattle.router_state.specs.Restoring.{state_of_snapshot}
use Rattle.router_state.specs.State.{State}
use Rattle.router_state.specs.Well.{IsWell}
use Rattle.router_steps.specs.Histories.{Legal, is_choice, replay}
use Rattle.router_steps.specs.Payloads.{choice_in}
use Rattle.router_steps.specs.Steps.{after, is_enabled, step_entry}
use Rattle.router_laws_keepable.proofs.Keepable.{tables_read}
use Rattle.router_laws_kept.proofs.Keeping.{kept_replay, kept_snapshot, snapshot_deployed, snapshot_well}
use Rattle.router_laws_kept.specs.Kept.{CanBeKept, IsKeepable}
use Rattle.router_laws_read.proofs.WholeReadings.{reading_as_read}
use Rattle.router_laws_restarts.specs.Reached.{IsReached, IsRestarted}
use Rattle.router_laws_runs.proofs.Runs.{legal_as_read, legal_well}
use Rattle.router_laws_runs.specs.AsRead.{IsAsRead}
use Rattle.router_durable.specs.Choices.{after_all}
use Rattle.router_durable.specs.Facts.{initial_of}
use Rattle.router_durable.specs.Recovery.{Misfit, after_if, choices_in, end_of, first_wrong, fits_here, misfit, past_from, past_of, restart, unless_misfit, with_choice, wrong_at, wrong_by}

-- histories

-- the entries of choices that are made one after another
abbrev pub entries_from : State → List Choice → List Entry
entries_from s [] = []
entries_from s (c ∷ cs) = step_entry s c ∷ entries_from (after s c) cs

pub replayed : (s : State) (cs : List Choice) → replay s (entries_from s cs) ≡ after_all s cs
replayed s [] = refl
replayed s (c ∷ cs) = replayed (after s c) cs

-- nothing is wrong with a choice that may be made
fits : (format : ℕ) (s : State) (bytes : List ℕ) (c : Choice) → wrong_by format s bytes (Some c) ≡ None → fits_here format s bytes c ≡ true
fits format s bytes c none = elim (cases_Bool (fits_here format s bytes c)) [
  | inl is ↦ is
  | inr isnt ↦ (let other : None ≡ _ = rw isnt at (sym none) in absurd (cc))
]

none_first : (at : ℕ) (o : Option JournalBad) (more : Option Misfit) → first_wrong at o more ≡ None → (o ≡ None) × (more ≡ None)
none_first at None more none = (refl, none)
none_first at (Some kind) more none = absurd (cc)

is_true : (b : Bool) → b ≡ true → IsTrue b
is_true b is = subst IsTrue (sym is) refl

fitting_legal : (format : ℕ) (s : State) (rs : List Record) → misfit format s rs ≡ None → Legal s (entries_from s (choices_in format (map payload_of rs)))
fitting_legal format s [] none = tt
fitting_legal format s (r ∷ rs) none =
    let parts = none_first r.at (wrong_at format s r.payload) (misfit format (after_if s (choice_in format r.payload)) rs) none in
    by (λ c rest. fitting_legal format (after s c) rs rest) (choice_in format r.payload) parts.0 parts.1
  where
    by : ((c : Choice) → misfit format (after s c) rs ≡ None → Legal (after s c) (entries_from (after s c) (choices_in format (map payload_of rs))))
        → (o : Option Choice) → wrong_by format s r.payload o ≡ None → misfit format (after_if s o) rs ≡ None → Legal s (entries_from s (with_choice o (choices_in format (map payload_of rs))))
    by more None wrong rest = absurd (cc)
    by more (Some c) wrong rest =
        let here = and_parts (is_choice c) _ (fits format s r.payload c wrong) in
        let may = and_parts (is_enabled s c) _ here.1 in
        (is_true (is_choice c) here.0, is_true (is_enabled s c) may.0, refl, more c rest)

-- restarts

ended : (d : Deployed) (p : Program) (s : State) (format : ℕ) (text : List ℕ) (base : State) (cs : List Choice) → state_of_snapshot format d p text ≡ Some base → Legal base (entries_from base cs) → end_of (Ok (record { start = base; choices = cs })) ≡ Ok s → IsRestarted d p s
ended d p s format text base cs stands legal is = record {
  format = format;
  text = text;
  base = base;
  stands = stands;
  reached = record { history = entries_from base cs; legal = legal; leaves = subst (λ t. replay base (entries_from base cs) ≡ t) same (replayed base cs) };
}
  where
    same : after_all base cs ≡ s
    same = cc

pub history_restarted : (d : Deployed) (p : Program) (bytes : List ℕ) (sides : Sides) (s : State) → restart (initial d p) bytes sides ≡ Ok s → IsRestarted d p s
history_restarted d p bytes sides s is = by (recovered bytes sides) is
  where
    fitted : (side : Side) (format : ℕ) (text : List ℕ) (rs : List Record) (base : State) → state_of_snapshot format d p text ≡ Some base → (m : Option Misfit) → misfit format base rs ≡ m
        → end_of (unless_misfit side m (record { start = base; choices = choices_in format (map payload_of rs) })) ≡ Ok s → IsRestarted d p s
    fitted side format text rs base stands None none is = ended d p s format text base (choices_in format (map payload_of rs)) stands (fitting_legal format base rs none) is
    fitted side format text rs base stands (Some m) none is = absurd (cc)

    from : (side : Side) (format : ℕ) (text : List ℕ) (rs : List Record) (o : Option State) → state_of_snapshot format d p text ≡ o → end_of (past_from side format rs o) ≡ Ok s → IsRestarted d p s
    from side format text rs None stands is = absurd (cc)
    from side format text rs (Some base) stands is = fitted side format text rs base stands (misfit format base rs) refl is

    by : (r : Result (Option Kept) Wrong) → end_of (past_of (initial d p) r) ≡ Ok s → IsRestarted d p s
    by (Err wrong) is = absurd (cc)
    by (Ok None) is = ended d p s 2 [] (initial d p) [] refl tt is
    by (Ok (Some kept)) is =
        from kept.side (format_number kept.head.format) kept.head.snapshot (located (first_gate kept.head) kept.payloads) (state_of_snapshot (format_number kept.head.format) d p kept.head.snapshot) refl is

-- what holds of the deployment holds of that of a snapshot's state
same_read : (d e : Deployed) (p q : Program) → d ≡ e → p ≡ q → IsAsRead e q → IsAsRead d p
same_read d e p q one two read = rw (one, two) read

base_read : (d : Deployed) (p : Program) (s : State) (from : IsRestarted d p s) → IsAsRead d p → IsAsRead from.base.deployment from.base.program
base_read d p s from read =
    let same = snapshot_deployed from.format d p from.text from.base from.stands in
    same_read from.base.deployment d from.base.program p same.0 same.1 read

-- laws

pub kept_restarted : (d : Deployed) (p : Program) (bytes : List ℕ) (sides : Sides) (s : State) → IsKeepable d p → restart (initial d p) bytes sides ≡ Ok s → CanBeKept s
kept_restarted d p bytes sides s keepable found =
    let from = history_restarted d p bytes sides s found in
    subst CanBeKept from.reached.leaves (kept_replay from.base from.reached.history (kept_snapshot from.format d p from.text from.base keepable from.stands) from.reached.legal)

pub well_restarted : (bytes : List ℕ) (d : Deployment) (sides : Sides) (s : State) → length bytes < 2 ^ 63 → reading_of bytes ≡ Ok (read_as d) → restart (initial_of d.parts d.codes) bytes sides ≡ Ok s → IsWell s
well_restarted bytes d sides s short is found =
    let from = history_restarted (deployed_of d.parts) (kept_program d.codes) bytes sides s found in
    let well = snapshot_well from.format (deployed_of d.parts) (kept_program d.codes) from.text from.base (tables_read bytes d short is) from.stands in
    let read = base_read (deployed_of d.parts) (kept_program d.codes) s from (reading_as_read bytes d is) in
    subst IsWell from.reached.leaves (legal_well from.base from.reached.history well read from.reached.legal)

pub read_restarted : (bytes : List ℕ) (d : Deployment) (sides : Sides) (s : State) → reading_of bytes ≡ Ok (read_as d) → restart (initial_of d.parts d.codes) bytes sides ≡ Ok s → IsAsRead s.deployment s.program
read_restarted bytes d sides s is found =
    let from = history_restarted (deployed_of d.parts) (kept_program d.codes) bytes sides s found in
    let read = base_read (deployed_of d.parts) (kept_program d.codes) s from (reading_as_read bytes d is) in
    subst (λ (t : State). IsAsRead t.deployment t.program) from.reached.leaves (legal_as_read from.base from.reached.history read)
