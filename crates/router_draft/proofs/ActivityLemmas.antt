-- Activities after changes: whether each is a null activity, and whether it is Ending.
use Rattle.std.proofs.Common.{◌≡◌, ℕ, ◌==◌, Bool, true, false, List, [], ◌∷◌, refl, sym, arith, inl, inr, ap, ◌∙◌}
use Rattle.std.specs.Prelude.{map, option_map, if◌then◌else◌, Option}
use Rattle.std.specs.List.{fold}
use Rattle.std.proofs.lemmas.Bool.{cases_Bool}
use Rattle.std.proofs.lemmas.Bool.Decides.{nat_tests}
use Rattle.router_state.specs.State.{State}
use Rattle.router_state.specs.Contexts.{activity_at, ends, is_null}
use Rattle.router_state.specs.Changes.{after_change, after_changes}
use Rattle.router_state.specs.declared.change.Change.{Change}
use Rattle.router_state.specs.declared.change.Change.TheVariants as changes
use Rattle.router_state.specs.declared.rows.Activity.{Activity}
use Rattle.router_draft.proofs.ChangeLemmas.{through}
use Rattle.router_draft.proofs.NumberedLemmas.{at_gone, new_seen}
use Rattle.router_draft.specs.After.{activity_after, ahead_of}

-- what is seen of an activity
abbrev sight : Activity → Bool × Bool
sight row = (is_null row.kind, row.ending)

abbrev number : Activity → ℕ
number row = row.number.0

-- what is seen of the activity of this number
abbrev pub sight_at : List Activity → ℕ → Option (Bool × Bool)
sight_at rows a = option_map (λ row. (is_null row.kind, row.ending)) (activity_at rows a)

-- the same with how many numbers are drawn before it
abbrev pub seen_activity : ℕ → State → Option ℕ × Option (Bool × Bool)
seen_activity a s = (ahead_of s.next_activity a, sight_at s.activities a)

-- an activity is Ending
ended_seen : (a a' : ℕ) (rows : List Activity) → sight_at (map (ends a') rows) a ≡ (if a' == a then option_map (λ x. (x.0, true)) (sight_at rows a) else sight_at rows a)
ended_seen a a' [] = elim (cases_Bool (a' == a)) [
  | inl same ↦ rw same refl
  | inr other ↦ rw other refl
]
ended_seen a a' (x ∷ xs) = elim (cases_Bool (x.number.0 == a)) [
  | inl mine ↦ elim (cases_Bool (a' == a)) [
    | inl same ↦ let ends_here = here x.number.0 mine same in rw (ends_here, mine, same) refl
    | inr other ↦ let stays = there x.number.0 mine other in rw (stays, mine, other) refl
  ]
  | inr foreign ↦ elim (cases_Bool (x.number.0 == a')) [
    | inl goes ↦ rw (goes, foreign) (ended_seen a a' xs)
    | inr stays ↦ rw (stays, foreign) (ended_seen a a' xs)
  ]
]
  where
    here : (n : ℕ) → (n == a) ≡ true → (a' == a) ≡ true → (n == a') ≡ true
    here n mine same = grind (arith, nat_tests)

    there : (n : ℕ) → (n == a) ≡ true → (a' == a) ≡ false → (n == a') ≡ false
    there n mine other = grind (arith, nat_tests)

activity_is : (a : ℕ) (c : Change) (s : State) → seen_activity a (after_change c s) ≡ activity_after c a (seen_activity a s)
activity_is a (changes.Start kind) s = new_seen number sight s.next_activity a (record { number = record { 0 = s.next_activity }; kind = kind; ending = false }) s.activities refl
activity_is a (changes.End a') s =
    let ended = ended_seen a a'.0 s.activities in
    elim (cases_Bool (a'.0 == a)) [
      | inl same ↦ rw (ended, same) refl
      | inr other ↦ rw (ended, other) refl
    ]
activity_is a (changes.DropContext a') s =
    let gone = at_gone number sight a a'.0 s.activities in
    elim (cases_Bool (a'.0 == a)) [
      | inl same ↦ rw (gone, same) refl
      | inr other ↦ rw (gone, other) refl
    ]
activity_is a _ s = refl

pub activity_laid : (cs : List Change) (s : State) (a : ℕ) → sight_at (after_changes cs s).activities a ≡ (fold (λ seen c. activity_after c a seen) (ahead_of s.next_activity a, sight_at s.activities a) cs).1
activity_laid cs s a = ap (λ (x : Option ℕ × Option (Bool × Bool)). x.1) (through (seen_activity a) (λ seen c. activity_after c a seen) (activity_is a) cs s)

-- as the code has it
pub activity_seen : (cs changes : List Change) (s : State) (a next : ℕ) (ahead : Option ℕ) (was : Option (Bool × Bool)) (seen : Option ℕ × Option (Bool × Bool))
    → next ≡ s.next_activity → ahead ≡ ahead_of next a → was ≡ sight_at s.activities a → changes ≡ cs → seen ≡ fold (λ seen c. activity_after c a seen) (ahead, was) changes
    → seen.1 ≡ sight_at (after_changes cs s).activities a
activity_seen cs changes s a next ahead was seen next_is ahead_is was_is changes_are seen_is =
    ap (λ (x : Option ℕ × Option (Bool × Bool)). x.1) seen_is
    ∙ ap (λ ds. (fold (λ seen c. activity_after c a seen) (ahead, was) ds).1) changes_are
    ∙ ap (λ o. (fold (λ seen c. activity_after c a seen) (o, was) cs).1) (ahead_is ∙ ap (λ n. ahead_of n a) next_is)
    ∙ ap (λ o. (fold (λ seen c. activity_after c a seen) (ahead_of s.next_activity a, o) cs).1) was_is
    ∙ sym (activity_laid cs s a)
