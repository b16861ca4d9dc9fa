-- Numbers that come next after changes, and the clock.
use Rattle.std.proofs.Common.{◌≡◌, ℕ, ◌+◌, ◌-◌, ◌<◌, ◌≤◌, ◌^◌, Bool, List, [], ◌∷◌, refl, sym, arith, inl, inr, ◌∙◌, IsTrue}
use Rattle.std.specs.Prelude.{count_by, if◌then◌else◌}
use Rattle.std.specs.List.{fold}
use Rattle.std.proofs.lemmas.Bool.{cases_Bool}
use Rattle.std.proofs.lemmas.Bool.Decides.{nat_tests}
use Rattle.std.proofs.lemmas.List.Sums.{length-filter}
use Rattle.router_state.specs.Fits.{has_next}
use Rattle.router_state.specs.State.{State}
use Rattle.router_state.specs.Changes.{after_change, after_changes}
use Rattle.router_state.specs.declared.change.Change.{Change}
use Rattle.router_state.specs.declared.change.Change.TheVariants as changes
use Rattle.router_draft.proofs.ChangeLemmas.{through}
use Rattle.router_draft.specs.After.{clock_after, draws, next_of}
use Rattle.router_draft.specs.declared.after.Drawn.{Drawn}
use Rattle.router_draft.specs.declared.after.Drawn.TheVariants as kinds

abbrev pub one_if : Bool → ℕ
one_if b = if b then 1 else 0

next_is : (kind : Drawn) (c : Change) (s : State) → next_of kind (after_change c s) ≡ one_if (draws kind c) + next_of kind s
next_is kinds.Entity c s = by c
  where
    by : (c : Change) → next_of kinds.Entity (after_change c s) ≡ one_if (draws kinds.Entity c) + next_of kinds.Entity s
    by (changes.CreateRoot block service priority) = omega arith
    by (changes.CreateChild parent relation block priority) = omega arith
    by _ = omega arith
next_is kinds.Activity c s = by c
  where
    by : (c : Change) → next_of kinds.Activity (after_change c s) ≡ one_if (draws kinds.Activity c) + next_of kinds.Activity s
    by (changes.Start what) = omega arith
    by _ = omega arith
next_is kinds.Timer c s = by c
  where
    by : (c : Change) → next_of kinds.Timer (after_change c s) ≡ one_if (draws kinds.Timer c) + next_of kinds.Timer s
    by (changes.SetTimer spec) = omega arith
    by _ = omega arith
next_is kinds.Event c s = by c
  where
    by : (c : Change) → next_of kinds.Event (after_change c s) ≡ one_if (draws kinds.Event c) + next_of kinds.Event s
    by changes.NextEvent = omega arith
    by _ = omega arith
next_is kinds.Input c s = by c
  where
    by : (c : Change) → next_of kinds.Input (after_change c s) ≡ one_if (draws kinds.Input c) + next_of kinds.Input s
    by changes.Taken = omega arith
    by _ = omega arith

pub counted : {X : Type 0} (p : X → Bool) (x : X) (xs : List X) → count_by p (x ∷ xs) ≡ one_if (p x) + count_by p xs
counted p x xs = elim (cases_Bool (p x)) [
  | inl mine ↦ sym (length-filter p (x ∷ xs)) ∙ (rw mine (omega (arith, length-filter p xs)))
  | inr other ↦ sym (length-filter p (x ∷ xs)) ∙ (rw other (omega (arith, length-filter p xs)))
]

next_laid : (kind : Drawn) (cs : List Change) (s : State) → next_of kind (after_changes cs s) ≡ next_of kind s + count_by (draws kind) cs
next_laid kind [] s = omega arith
next_laid kind (c ∷ cs) s = omega (arith, next_laid kind cs (after_change c s), next_is kind c s, counted (draws kind) c cs)

pub entity_laid : (cs : List Change) (s : State) → (after_changes cs s).next_entity ≡ s.next_entity + count_by (draws kinds.Entity) cs
entity_laid cs s = next_laid kinds.Entity cs s

pub activity_laid : (cs : List Change) (s : State) → (after_changes cs s).next_activity ≡ s.next_activity + count_by (draws kinds.Activity) cs
activity_laid cs s = next_laid kinds.Activity cs s

pub timer_laid : (cs : List Change) (s : State) → (after_changes cs s).next_timer ≡ s.next_timer + count_by (draws kinds.Timer) cs
timer_laid cs s = next_laid kinds.Timer cs s

pub event_laid : (cs : List Change) (s : State) → (after_changes cs s).next_event ≡ s.next_event + count_by (draws kinds.Event) cs
event_laid cs s = next_laid kinds.Event cs s

pub inputs_laid : (cs : List Change) (s : State) → (after_changes cs s).inputs ≡ s.inputs + count_by (draws kinds.Input) cs
inputs_laid cs s = next_laid kinds.Input cs s

-- a number that isn't far above a low one goes on
pub goes_on : (base drawn n : ℕ) → n ≡ base + drawn → base ≤ 2 ^ 62 → drawn < 2 ^ 63 → IsTrue (has_next n)
goes_on base drawn n is low few = by n (omega (arith, is, low, few))
  where
    by : (m : ℕ) → m < 2 ^ 64 - 1 → IsTrue (has_next m)
    by m less = grind (arith, nat_tests, less)

clock_is : (c : Change) (s : State) → (after_change c s).clock ≡ clock_after c s.clock
clock_is (changes.Clock to) s = refl
clock_is _ s = refl

pub clock_laid : (cs : List Change) (s : State) → (after_changes cs s).clock ≡ fold (λ was c. clock_after c was) s.clock cs
clock_laid cs s = through (λ (t : State). t.clock) (λ was c. clock_after c was) clock_is cs s
