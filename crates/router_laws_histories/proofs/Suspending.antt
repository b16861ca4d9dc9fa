-- A suspended event waits, by what the lines say.
use Rattle.std.proofs.Common.{◌≡◌, ℕ, ◌^◌, ◌<◌, ◌==◌, Bool, true, false, not, List, [], ◌∷◌, ◌++◌, filter, refl, sym, ◌∙◌, ap, subst, inl, inr, arith, if◌then◌else◌, Option, Some, None}
use Rattle.std.specs.Prelude.{codes, decimal, nat_lt, find, is_some, option_map}
use Rattle.std.specs.Option.{option_map_or}
use Rattle.std.specs.Str.{bytes_eq}
use Rattle.std.proofs.lemmas.Bool.{cases_Bool, cond_both, eqb-true, eq-eqb, false≢true}
use Rattle.std.proofs.lemmas.Bool.Decides.{nat_tests}
use Rattle.router_laws_histories.proofs.Reading.{words_of_two, words_of_last_two, same_words}
use Rattle.router_laws_histories.specs.Suspended.{is_told_by, told_by, told_suspended}
use Rattle.router_state.specs.State.{State}
use Rattle.router_state.specs.Queues.{head_event, is_suspended, with_suspension, without_suspension, suspension_before}
use Rattle.router_state.specs.declared.rows.Event.{Event}
use Rattle.router_state.specs.declared.rows.Suspension.{Suspension}
use Rattle.router_steps.specs.Effects.{lines_of_suspended}
use Rattle.router_steps.specs.Lines.{suspended_line, resumed_line}
use Rattle.router_steps.specs.Moves.{resumed, lines_of_resumed}
use Rattle.trace_history.specs.Reading.{activity_word, event_word}
use Rattle.trace_history.specs.Words.{words_in}

-- lines one behind another
pub told_append : (a : ℕ) (was : Bool) (l k : List (List ℕ)) → told_suspended a was (l ++ k) ≡ told_suspended a (told_suspended a was l) k
told_append a was [] k = refl
told_append a was (line ∷ l) k = told_append a (told_by a was (words_in line)) l k

-- a line of another verb says nothing
pub plain_verb : (a : ℕ) (was : Bool) (verb : List ℕ) (words : List (List ℕ)) → bytes_eq verb (codes "suspended") ≡ false → bytes_eq verb (codes "resumed") ≡ false → told_by a was ([] ∷ [] ∷ verb ∷ words) ≡ was
plain_verb a was verb [] one two = refl
plain_verb a was verb (x ∷ []) one two = refl
plain_verb a was verb (x ∷ y ∷ words) one two = rw (one, two) refl

-- an activity whose head event is suspended
abbrev pub IsHeldBack : State → ℕ → Type 0
IsHeldBack s a = (is_suspended s.suspensions a ≡ true) × ((v : Event) × (head_event s.events a ≡ Some v))

-- where the lines say so at last, the activity is held back, if it was where they said so at first
abbrev pub Suspends : State → State → List (List ℕ) → Type 0
Suspends s t lines = (a : ℕ) (was : Bool) → a < 2 ^ 64 → (was ≡ true → IsHeldBack s a) → told_suspended a was lines ≡ true → IsHeldBack t a

pub suspends_then : (s t u : State) (l k : List (List ℕ)) → Suspends s t l → Suspends t u k → Suspends s u (l ++ k)
suspends_then s t u l k one two a was fits begins ends =
    two a (told_suspended a was l) fits (one a was fits begins) (sym (told_append a was l k) ∙ ends)

-- suspensions

found_front : (p : Suspension → Bool) (row : Suspension) (xs ys : List Suspension) → p row ≡ true → is_some (option_map (λ (r : Suspension). r.until) (find p (xs ++ row ∷ ys))) ≡ true
found_front p row [] ys is = rw is refl
found_front p row (x ∷ xs) ys is = elim (cases_Bool (p x)) [
  | inl here ↦ rw here refl
  | inr isnt ↦ rw isnt (found_front p row xs ys is)
]

held_now : (rows : List Suspension) (a until : ℕ) → is_suspended (with_suspension rows a until) a ≡ true
held_now rows a until = found_front (λ row. row.activity.0 == a) (record { activity = record { 0 = a }; until = until }) _ _ (eq-eqb a a refl)

-- a look-up that finds what stands before or behind
found_left : (p : Suspension → Bool) (xs ys : List Suspension) → is_some (option_map (λ (r : Suspension). r.until) (find p xs)) ≡ true → is_some (option_map (λ (r : Suspension). r.until) (find p (xs ++ ys))) ≡ true
found_left p [] ys is = absurd (cc)
found_left p (x ∷ xs) ys is = elim (cases_Bool (p x)) [
  | inl here ↦ rw here refl
  | inr isnt ↦ rw isnt (found_left p xs ys (rw isnt at is))
]

found_right : (p : Suspension → Bool) (xs ys : List Suspension) → is_some (option_map (λ (r : Suspension). r.until) (find p ys)) ≡ true → is_some (option_map (λ (r : Suspension). r.until) (find p (xs ++ ys))) ≡ true
found_right p [] ys is = is
found_right p (x ∷ xs) ys is = elim (cases_Bool (p x)) [
  | inl here ↦ rw here refl
  | inr isnt ↦ rw isnt (found_right p xs ys is)
]

found_kept : (p keep : Suspension → Bool) (xs : List Suspension) → ((x : Suspension) → p x ≡ true → keep x ≡ true) → is_some (option_map (λ (r : Suspension). r.until) (find p xs)) ≡ true
    → is_some (option_map (λ (r : Suspension). r.until) (find p (filter keep xs))) ≡ true
found_kept p keep [] kept is = absurd (cc)
found_kept p keep (x ∷ xs) kept is = elim (cases_Bool (p x)) [
  | inl here ↦ rw (kept x here, here) refl
  | inr isnt ↦ (let more = found_kept p keep xs kept (rw isnt at is) in cond_both (keep x) (x ∷ filter keep xs) (filter keep xs) (λ rows. is_some (option_map (λ (r : Suspension). r.until) (find p rows)) ≡ true) (λ _. rw isnt more) (λ _. more))
]

held_else : (rows : List Suspension) (b a until : ℕ) → (b == a) ≡ false → is_suspended rows a ≡ true → is_suspended (with_suspension rows b until) a ≡ true
held_else rows b a until other is =
    let row : Suspension = record { activity = record { 0 = b }; until = until } in
    elim (cases_Bool (nat_lt a b)) [
      | inl less ↦ found_left (λ r. r.activity.0 == a) (filter (λ r. suspension_before r row) rows) _ (found_kept (λ r. r.activity.0 == a) (λ r. suspension_before r row) rows (λ r own. ahead r.activity.0 a b own less) is)
      | inr isnt ↦ found_right (λ r. r.activity.0 == a) (filter (λ r. suspension_before r row) rows) _ (rw other (found_kept (λ r. r.activity.0 == a) (λ r. suspension_before row r) rows (λ r own. after r.activity.0 a b own isnt other) is))
    ]
  where
    ahead : (x a b : ℕ) → (x == a) ≡ true → nat_lt a b ≡ true → nat_lt x b ≡ true
    ahead x a b own less = grind (arith, nat_tests)

    after : (x a b : ℕ) → (x == a) ≡ true → nat_lt a b ≡ false → (b == a) ≡ false → nat_lt b x ≡ true
    after x a b own isnt other = grind (arith, nat_tests)

free_else : (rows : List Suspension) (b a : ℕ) → (b == a) ≡ false → is_suspended rows a ≡ true → is_suspended (without_suspension rows b) a ≡ true
free_else rows b a other is = found_kept (λ r. r.activity.0 == a) (λ r. not (r.activity.0 == b)) rows (λ r own. apart r.activity.0 a b own other) is
  where
    apart : (x a b : ℕ) → (x == a) ≡ true → (b == a) ≡ false → not (x == b) ≡ true
    apart x a b own other = grind (arith, nat_tests)

-- what the two lines say

told_line : (wanted : List ℕ) (a b : ℕ) (verb event : List ℕ) (words : List (List ℕ)) → a < 2 ^ 64 → b < 2 ^ 64 → bytes_eq verb wanted ≡ true → is_told_by wanted a ([] ∷ [] ∷ verb ∷ event ∷ activity_word b ∷ words) ≡ (b == a)
told_line wanted a b verb event words a_fits b_fits is = rw (is, same_words b a b_fits a_fits) refl

suspended_is_told : (a b v until : ℕ) (was : Bool) → a < 2 ^ 64 → b < 2 ^ 64 → v < 2 ^ 64 → told_by a was (words_in (suspended_line v b until)) ≡ (if b == a then true else was)
suspended_is_told a b v until was a_fits b_fits v_fits =
    let words : words_in (suspended_line v b until) ≡ [] ∷ [] ∷ codes "suspended" ∷ event_word v ∷ activity_word b ∷ words_in (codes "until " ++ decimal until) =
    ap (λ ws. [] ∷ [] ∷ codes "suspended" ∷ ws) (words_of_two v b (codes "until " ++ decimal until) v_fits b_fits) in
    rw words (rw (same_words b a b_fits a_fits) (cases (b == a)))
  where
    cases : (c : Bool) → (if c then true else was) ≡ (if c then true else was)
    cases c = refl

resumed_is_told : (a b v : ℕ) (was : Bool) → a < 2 ^ 64 → b < 2 ^ 64 → v < 2 ^ 64 → told_by a was (words_in (resumed_line v b)) ≡ (if b == a then false else was)
resumed_is_told a b v was a_fits b_fits v_fits =
    let words : words_in (resumed_line v b) ≡ [] ∷ [] ∷ codes "resumed" ∷ event_word v ∷ activity_word b ∷ [] =
    ap (λ ws. [] ∷ [] ∷ codes "resumed" ∷ ws) (words_of_last_two v b v_fits b_fits) in
    rw words (rw (same_words b a b_fits a_fits) refl)

-- an event is suspended
pub suspend_suspends : (s : State) (b until : ℕ) → b < 2 ^ 64 → ((v : Event) → head_event s.events b ≡ Some v → v.id.0 < 2 ^ 64)
    → Suspends s (record s { suspensions = with_suspension s.suspensions b until }) (lines_of_suspended s b until)
suspend_suspends s b until b_fits small a was fits begins ends = by_head (head_event s.events b) refl ends
  where
    kept : (b == a) ≡ false → IsHeldBack s a → IsHeldBack (record s { suspensions = with_suspension s.suspensions b until }) a
    kept other held = (held_else s.suspensions b a until other held.0, held.1)

    by_head : (o : Option Event) → head_event s.events b ≡ o → told_suspended a was (option_map_or (λ (v : Event). suspended_line v.id.0 b until ∷ []) o []) ≡ true → IsHeldBack (record s { suspensions = with_suspension s.suspensions b until }) a
    by_head None none told = elim (cases_Bool (b == a)) [
      | inl mine ↦ (let found = (begins told).1 in absurd (no_head (head_event s.events b) found.0 none (subst (λ c. head_event s.events c ≡ Some found.0) (sym (eqb-true b a mine)) found.1)))
      | inr other ↦ kept other (begins told)
    ]
      where
        no_head : (o : Option Event) (v : Event) → o ≡ None → o ≡ Some v → ⊥
        no_head o v one two = absurd (cc)
    by_head (Some v) is told = elim (cases_Bool (b == a)) [
      | inl mine ↦
          let same = eqb-true b a mine in
          subst (λ c. IsHeldBack (record s { suspensions = with_suspension s.suspensions b until }) c) same (held_now s.suspensions b until, (v, is))
      | inr other ↦ kept other (begins (was_told other (sym (suspended_is_told a b v.id.0 until was fits b_fits (small v is)) ∙ told)))
    ]
      where
        was_told : (b == a) ≡ false → (if b == a then true else was) ≡ true → was ≡ true
        was_told other is = rw other at is

-- a suspension ends
pub resume_suspends : (s : State) (b : ℕ) → b < 2 ^ 64 → ((v : Event) → head_event s.events b ≡ Some v → v.id.0 < 2 ^ 64) → Suspends s (resumed s b) (lines_of_resumed s b)
resume_suspends s b b_fits small a was fits begins ends = elim (cases_Bool (b == a)) [
  | inr other ↦ kept other (begins (others other (is_suspended s.suspensions b) (head_event s.events b) refl ends))
  | inl mine ↦ absurd (false≢true (sym (own mine) ∙ ends))
]
  where
    kept : (b == a) ≡ false → IsHeldBack s a → IsHeldBack (resumed s b) a
    kept other held = (free_else s.suspensions b a other held.0, held.1)

    others : (b == a) ≡ false → (c : Bool) (o : Option Event) → head_event s.events b ≡ o → told_suspended a was (if c then option_map_or (λ (v : Event). resumed_line v.id.0 b ∷ []) o [] else []) ≡ true → was ≡ true
    others other false o is told = told
    others other true None is told = told
    others other true (Some v) is told = was_told (sym (resumed_is_told a b v.id.0 was fits b_fits (small v is)) ∙ told)
      where
        was_told : (if b == a then false else was) ≡ true → was ≡ true
        was_told is = rw other at is

    own : (b == a) ≡ true → told_suspended a was (lines_of_resumed s b) ≡ false
    own mine = elim (cases_Bool was) [
      | inr wasnt ↦ not_told (is_suspended s.suspensions b) (head_event s.events b) refl wasnt
      | inl was_so ↦ (let held = begins was_so in let same = eqb-true b a mine in
          told_off (is_suspended s.suspensions b) (head_event s.events b) refl (subst (λ c. is_suspended s.suspensions c ≡ true) (sym same) held.0) held.1.0 (subst (λ c. head_event s.events c ≡ Some held.1.0) (sym same) held.1.1))
    ]
      where
        off : (v : Event) → head_event s.events b ≡ Some v → told_by a was (words_in (resumed_line v.id.0 b)) ≡ false
        off v is = resumed_is_told a b v.id.0 was fits b_fits (small v is) ∙ rw mine refl

        not_told : (c : Bool) (o : Option Event) → head_event s.events b ≡ o → was ≡ false → told_suspended a was (if c then option_map_or (λ (v : Event). resumed_line v.id.0 b ∷ []) o [] else []) ≡ false
        not_told false o is wasnt = wasnt
        not_told true None is wasnt = wasnt
        not_told true (Some v) is wasnt = off v is

        told_off : (c : Bool) (o : Option Event) → head_event s.events b ≡ o → c ≡ true → (v : Event) → o ≡ Some v → told_suspended a was (if c then option_map_or (λ (v : Event). resumed_line v.id.0 b ∷ []) o [] else []) ≡ false
        told_off false o is held v some = absurd (cc)
        told_off true None is held v some = absurd (cc)
        told_off true (Some w) is held v some = off w is
