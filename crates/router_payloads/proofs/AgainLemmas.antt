-- Payloads are read back.
use Rattle.std.proofs.Common.{◌≡◌, ℕ, ◌+◌, ◌^◌, ◌<◌, ◌≤◌, ◌==◌, nat_le, true, List, [], ◌∷◌, ◌++◌, length, take, refl, ap, subst, arith, inl, inr, Option, Ok, Some, None}
use Rattle.std.specs.Prelude.{option_map, option_and_then}
use Rattle.std.specs.Int.{w32, from_le_bytes}
use Rattle.std.proofs.lemmas.Bool.{cases_Bool, eq-eqb, le-leb, leb-true, and_parts}
use Rattle.std.proofs.lemmas.Nat.{from_le_bytes-to_le_bytes_4, from_le_bytes-to_le_bytes_8}
use Rattle.slee_value.specs.Bytes.{spelled_text, spelled_u64}
use Rattle.slee_value.specs.declared.ids.ActivityId.{ActivityId}
use Rattle.script_meaning.specs.declared.outcome.FailKind.{FailKind}
use Rattle.script_meaning.specs.declared.outcome.FailKind.TheVariants as failures
use Rattle.script_meaning.specs.declared.outcome.Outcome.{Outcome}
use Rattle.script_meaning.specs.declared.outcome.Outcome.TheVariants as outcomes
use Rattle.signal_script.specs.declared.signal.Signal.{Signal}
use Rattle.signal_script.specs.Signals.{spelled, signal_unbounded, is_signal, is_of_form}
use Rattle.signal_script.specs.Lines.{is_line}
use Rattle.signal_script.proofs.LawLemmas.{printed_unbounded}
use Rattle.slee_effect.specs.Bytes.{spelling_of_effects}
use Rattle.slee_effect.specs.Fitting.{FitEffects}
use Rattle.slee_effect.specs.Reading.{list_of}
use Rattle.slee_effect.specs.declared.effect.Effect.{Effect}
use Rattle.slee_effect.proofs.ListLemmas.{list_again}
use Rattle.trace_history.specs.declared.choice.Choice.{Choice}
use Rattle.trace_history.specs.declared.choice.Choice.TheVariants as choices
use Rattle.router_state.specs.State.{State}
use Rattle.router_steps.specs.Actions.{action_of}
use Rattle.router_steps.specs.Outcomes.{outcome_byte, failure_place}
use Rattle.router_steps.specs.Payloads.{activity_in, bytes_of_step, bytes_of_subject, choice_in, choice_of_bytes, input_in, is_read, payload}
use Rattle.router_steps.specs.Steps.{Subject, Taking, Selecting, Delivering, Finishing, Due, Finish, Receipt, subject_of, due_at, delivery_at, finish_at, delivery_to, root_selected}
use Rattle.router_steps.specs.Histories.{is_choice}
use Rattle.router_steps.specs.Scripts.{delivered_in}
use Rattle.router_state.specs.Next.{selects_at, receives_at}
use Rattle.router_state.specs.Queues.{head_event}
use Rattle.router_state.specs.declared.rows.Entity.{Entity}
use Rattle.router_state.specs.declared.rows.Event.{Event}
use Rattle.router_payloads.specs.Keeping.{HasBytes, HasNumber, IsSpelled}

-- a line that a signal is spelled by is short
short_line : (signal : Signal) → is_signal signal ≡ true → length (spelled signal) ≤ 4096
short_line signal is =
    let line = (and_parts (is_of_form signal) (is_line (spelled signal)) is).1 in
    leb-true (length (spelled signal)) 4096 (and_parts (nat_le (length (spelled signal)) 4096) _ line).0

activity_read : (a : ℕ) (rest : List ℕ) → a < 2 ^ 64 → ◌≡◌ {A = ActivityId} (activity_in (spelled_u64 a ++ rest)) (record { 0 = a })
activity_read a rest fits = ap (λ (n : ℕ). record { 0 = n }) (from_le_bytes-to_le_bytes_8 a fits)

input_read : (line : List ℕ) (signal : Signal) → length line ≤ 4096 → signal_unbounded line ≡ Ok signal → input_in (spelled_text line) ≡ Some (choices.Input signal)
input_read line signal short reads =
    let long : nat_le 4 (length (spelled_text line)) ≡ true = le-leb 4 (length (spelled_text line)) (omega arith) in
    let number : from_le_bytes w32 (take 4 (spelled_text line)) ≡ length line = from_le_bytes-to_le_bytes_4 (length line) (omega (arith, short)) in
    let same : (from_le_bytes w32 (take 4 (spelled_text line)) == length line) ≡ true = eq-eqb _ (length line) number in
    rw (long, same, reads) refl

-- an outcome's byte is one of those that are read
failure_known : (kind : FailKind) → nat_le (2 + failure_place kind) 17 ≡ true
failure_known failures.Thrown = refl
failure_known _ = refl

outcome_known : (outcome : Outcome) → nat_le (outcome_byte outcome) 17 ≡ true
outcome_known outcomes.Fine = refl
outcome_known outcomes.Asked = refl
outcome_known (outcomes.Broken kind) = failure_known kind

effects_read : (xs : List Effect) → FitEffects xs → is_read (list_of (spelling_of_effects xs)) ≡ true
effects_read xs fit = ap is_read (list_again xs fit)

-- what a choice is about has its line or its activity
abbrev IsAbout : Choice → Subject → Type 0
IsAbout (choices.Input signal) (Taking own action) = own ≡ signal
IsAbout (choices.Input signal) (Selecting x) = ⊥
IsAbout (choices.Input signal) (Delivering x) = ⊥
IsAbout (choices.Input signal) (Finishing x) = ⊥
IsAbout (choices.Initial a) (Taking own action) = ⊥
IsAbout (choices.Initial a) (Selecting x) = x.activity ≡ a.0
IsAbout (choices.Initial a) (Delivering x) = ⊥
IsAbout (choices.Initial a) (Finishing x) = ⊥
IsAbout (choices.Deliver a) (Taking own action) = ⊥
IsAbout (choices.Deliver a) (Selecting x) = ⊥
IsAbout (choices.Deliver a) (Delivering x) = x.activity ≡ a.0
IsAbout (choices.Deliver a) (Finishing x) = ⊥
IsAbout (choices.Finish a) (Taking own action) = ⊥
IsAbout (choices.Finish a) (Selecting x) = ⊥
IsAbout (choices.Finish a) (Delivering x) = ⊥
IsAbout (choices.Finish a) (Finishing x) = x.activity ≡ a.0

some_same : {A : Type 0} (x y : A) → Some x ≡ Some y → x ≡ y
some_same x y is = cc

about_made : {A : Type 0} (c : Choice) (f : A → Subject) (o : Option A) → ((x : A) → o ≡ Some x → IsAbout c (f x)) → (y : Subject) → option_map f o ≡ Some y → IsAbout c y
about_made c f None each y is = absurd cc
about_made c f (Some x) each y is = subst (IsAbout c) (some_same (f x) y is) (each x refl)

has_activity : {A B : Type 0} (number : B → ℕ) (a : ℕ) (f : A → B) → ((x : A) → number (f x) ≡ a) → (o : Option A) (y : B) → option_map f o ≡ Some y → number y ≡ a
has_activity number a f own None y is = absurd cc
has_activity number a f own (Some x) y is = subst (λ z. number z ≡ a) (some_same (f x) y is) (own x)

receipt_activity : (s : State) (a : ℕ) (o : Option (Event × Entity)) (y : Receipt) → option_and_then (delivery_to s a) o ≡ Some y → y.activity ≡ a
receipt_activity s a None y is = absurd cc
receipt_activity s a (Some x) y is =
    has_activity (λ (r : Receipt). r.activity) a (λ found. record { activity = a; event = x.0; entity = x.1; delivered = found }) (λ _. refl) (delivered_in s a x.0 x.1) y is

about : (s : State) (c : Choice) (x : Subject) → subject_of s c ≡ Some x → IsAbout c x
about s (choices.Input signal) x is = subst (IsAbout (choices.Input signal)) (some_same (Taking signal (action_of s signal)) x is) refl
about s (choices.Initial a) x is =
    about_made (choices.Initial a) Selecting (due_at s a.0) (λ d found. has_activity (λ (d : Due). d.activity) a.0 (λ y. record { activity = a.0; event = y.0; service = y.1; root = root_selected s y.1 a.0 y.0 }) (λ _. refl) (selects_at s a.0) d found) x is
about s (choices.Deliver a) x is =
    about_made (choices.Deliver a) Delivering (delivery_at s a.0) (λ d found. receipt_activity s a.0 (receives_at s a.0) d found) x is
about s (choices.Finish a) x is =
    about_made (choices.Finish a) Finishing (finish_at s a.0) (λ d found. has_activity (λ (d : Finish). d.activity) a.0 (λ v. record { activity = a.0; event = v }) (λ _. refl) (head_event s.events a.0) d found) x is

-- bytes of a kind and an activity, and those of a delivery
initial_again : (a : ActivityId) → a.0 < 2 ^ 64 → choice_of_bytes (2 ∷ spelled_u64 a.0) ≡ Some (choices.Initial a)
initial_again a fits = ap (λ (b : ActivityId). Some (choices.Initial b)) (activity_read a.0 [] fits)

finish_again : (a : ActivityId) → a.0 < 2 ^ 64 → choice_of_bytes (4 ∷ spelled_u64 a.0) ≡ Some (choices.Finish a)
finish_again a fits = ap (λ (b : ActivityId). Some (choices.Finish b)) (activity_read a.0 [] fits)

deliver_again : (a : ActivityId) (outcome : Outcome) (xs : List Effect) → a.0 < 2 ^ 64 → FitEffects xs
    → choice_of_bytes (3 ∷ (spelled_u64 a.0 ++ outcome_byte outcome ∷ spelling_of_effects xs)) ≡ Some (choices.Deliver a)
deliver_again a outcome xs fits bytes =
    let tail = outcome_byte outcome ∷ spelling_of_effects xs in
    let long : nat_le 8 (length (spelled_u64 a.0 ++ tail)) ≡ true = le-leb 8 (length (spelled_u64 a.0 ++ tail)) (omega arith) in
    rw (long, outcome_known outcome, effects_read xs bytes) (ap (λ (b : ActivityId). Some (choices.Deliver b)) (activity_read a.0 tail fits))

-- the bytes of what a choice is about are read as the choice
bytes_again : (c : Choice) (x : Subject) → IsAbout c x → is_choice c ≡ true → HasNumber c → HasBytes x → choice_of_bytes (bytes_of_subject x) ≡ Some c
bytes_again (choices.Input signal) (Taking own action) same valid number bytes =
    rw same (input_read (spelled signal) signal (short_line signal valid) (printed_unbounded signal valid))
bytes_again (choices.Input signal) (Selecting x) same valid number bytes = absurd same
bytes_again (choices.Input signal) (Delivering x) same valid number bytes = absurd same
bytes_again (choices.Input signal) (Finishing x) same valid number bytes = absurd same
bytes_again (choices.Initial a) (Taking own action) same valid number bytes = absurd same
bytes_again (choices.Initial a) (Selecting x) same valid number bytes = rw same (initial_again a number)
bytes_again (choices.Initial a) (Delivering x) same valid number bytes = absurd same
bytes_again (choices.Initial a) (Finishing x) same valid number bytes = absurd same
bytes_again (choices.Deliver a) (Taking own action) same valid number bytes = absurd same
bytes_again (choices.Deliver a) (Selecting x) same valid number bytes = absurd same
bytes_again (choices.Deliver a) (Delivering x) same valid number bytes = rw same (deliver_again a x.delivered.outcome x.delivered.effects number bytes)
bytes_again (choices.Deliver a) (Finishing x) same valid number bytes = absurd same
bytes_again (choices.Finish a) (Taking own action) same valid number bytes = absurd same
bytes_again (choices.Finish a) (Selecting x) same valid number bytes = absurd same
bytes_again (choices.Finish a) (Delivering x) same valid number bytes = absurd same
bytes_again (choices.Finish a) (Finishing x) same valid number bytes = rw same (finish_again a number)

step_again : (s : State) (c : Choice) (x : Subject) → IsSpelled s c x → choice_of_bytes (bytes_of_step s c) ≡ Some c
step_again s c x is = rw is.subject (bytes_again c x (about s c x is.subject) is.valid is.number is.bytes)

pub payload_again : (format : ℕ) (s : State) (c : Choice) (x : Subject) → IsSpelled s c x → choice_in format (payload format s c) ≡ Some c
payload_again format s c x is = elim (cases_Bool (format == 2)) [
  | inl two ↦
      let long : nat_le 8 (length (spelled_u64 s.clock ++ bytes_of_step s c)) ≡ true = le-leb 8 (length (spelled_u64 s.clock ++ bytes_of_step s c)) (omega arith) in
      rw (two, long) (step_again s c x is)
  | inr other ↦ rw other (step_again s c x is)
]
