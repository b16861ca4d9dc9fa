-- What no change touches is read as it was.
use Rattle.std.proofs.Common.{◌≡◌, ℕ, ◌+◌, ◌<◌, ◌^◌, ◌==◌, length, Bool, true, false, List, [], ◌∷◌, ◌++◌, refl, sym, ap, ◌∙◌, arith, inl, inr, Option, None, nat_lt}
use Rattle.std.specs.Prelude.{◌||◌, ◌&&◌, not, count_by, filter}
use Rattle.std.specs.List.{fold, list_any}
use Rattle.std.proofs.lemmas.Bool.{cases_Bool}
use Rattle.std.proofs.lemmas.Bool.Decides.{nat_tests}
use Rattle.std.proofs.lemmas.List.Sums.{count_by-le-length}
use Rattle.slee_value.specs.declared.value.Value.{Value}
use Rattle.rows_sorted.specs.Keys.{key_before}
use Rattle.rows_sorted.specs.Orders.{put, same_pair}
use Rattle.router_state.specs.State.{State}
use Rattle.router_state.specs.Contexts.{activities_of, is_linked}
use Rattle.router_state.specs.Fields.{field_at}
use Rattle.router_state.specs.Ordered.{IsOrdered}
use Rattle.router_state.specs.Changes.{after_changes}
use Rattle.router_state.specs.declared.change.Change.{Change}
use Rattle.router_state.specs.declared.change.Change.TheVariants as changes
use Rattle.router_laws.proofs.ListLemmas.{any_joined, any_put_own, any_put_other}
use Rattle.router_draft.proofs.ActivityLemmas.{activity_laid, sight_at}
use Rattle.router_draft.proofs.ChildLemmas.{kids_laid}
use Rattle.router_draft.proofs.EntityLemmas.{block_at, block_laid, parent_at, parent_laid}
use Rattle.router_draft.proofs.FieldLemmas.{field_laid}
use Rattle.router_draft.proofs.LinkLemmas.{linked_laid}
use Rattle.router_draft.proofs.LinkedLemmas.{activities_laid}
use Rattle.router_draft.proofs.NextLemmas.{counted, one_if}
use Rattle.router_draft.specs.After.{activities_after, activity_after, ahead_of, block_after, children_after, field_after, kids, linked_after, parent_after}
use Rattle.router_draft.specs.Touched.{drops, ends, is_it, is_listed, touched_key, touches}
use Rattle.router_draft.specs.declared.changes.Touched.{Touched}

-- lists of numbers

keys_apart : (n m e : ℕ) → (n == e) ≡ true → (m == e) ≡ false → (key_before (record { first = n; second = 0; text = [] }) (record { first = m; second = 0; text = [] }) || key_before (record { first = m; second = 0; text = [] }) (record { first = n; second = 0; text = [] })) ≡ true
keys_apart n m e own other = grind (arith, nat_tests)

-- a number more is listed
pub listed_more : (e n : ℕ) (rows : List Touched) → is_listed (put (λ x y. key_before (touched_key x) (touched_key y)) (record { number = n }) rows) e ≡ ((n == e) || is_listed rows e)
listed_more e n rows = elim (cases_Bool (n == e)) [
  | inl own ↦ any_put_own (λ (x y : Touched). key_before (touched_key x) (touched_key y)) (λ (t : Touched). t.number == e) (record { number = n }) rows own ∙ (rw own refl)
  | inr other ↦ any_put_other (λ (x y : Touched). key_before (touched_key x) (touched_key y)) (λ (t : Touched). t.number == e) (record { number = n }) rows other (λ (t : Touched) mine. keys_apart t.number n e mine other) ∙ (rw other refl)
]

one_only : {X : Type 0} (q : X → Bool) (x : X) → list_any q (x ∷ []) ≡ q x
one_only q x = elim (cases_Bool (q x)) [
  | inl goes ↦ rw goes refl
  | inr stays ↦ rw stays refl
]

turned : (a b : Bool) → (a || b) ≡ (b || a)
turned true true = refl
turned true false = refl
turned false true = refl
turned false false = refl

-- a change more, of which a number is listed where there is one
pub one_touched : (number : Change → Option ℕ) (n : ℕ) (c : Change) (cs : List Change) (was : Bool) → was ≡ list_any (λ c. is_it n (number c)) cs → (is_it n (number c) || was) ≡ list_any (λ c. is_it n (number c)) (cs ++ c ∷ [])
one_touched number n c cs was is =
    turned (is_it n (number c)) was ∙ ap (λ b. b || is_it n (number c)) is ∙ ap (λ b. list_any (λ c. is_it n (number c)) cs || b) (sym (one_only (λ c. is_it n (number c)) c)) ∙ sym (any_joined (λ c. is_it n (number c)) cs (c ∷ []))

-- the same of a count
pub one_counted : (p : Change → Bool) (c : Change) (cs : List Change) → count_by p (cs ++ c ∷ []) ≡ one_if (p c) + count_by p cs
one_counted p c [] = counted p c []
one_counted p c (d ∷ cs) = omega (arith, counted p d (cs ++ c ∷ []), counted p d cs, one_counted p c cs)

-- there are no more of some than there are in all
pub few_counted : (n : ℕ) (p : Change → Bool) (cs : List Change) → n ≡ count_by p cs → length cs < 2 ^ 63 → n < 2 ^ 63
few_counted n p cs is few = omega (arith, is, few, count_by-le-length p cs)

-- tests of all changes

any_first : {X : Type 0} (q : X → Bool) (x : X) (xs : List X) → list_any q (x ∷ xs) ≡ false → q x ≡ false
any_first q x xs none = elim (cases_Bool (q x)) [
  | inl hit ↦ absurd (let wrong : true ≡ false = rw hit at none in cc)
  | inr off ↦ off
]

any_rest : {X : Type 0} (q : X → Bool) (x : X) (xs : List X) → list_any q (x ∷ xs) ≡ false → list_any q xs ≡ false
any_rest q x xs none = let off = any_first q x xs none in rw off at none

-- what each of several changes leaves alone they leave alone
left_alone : {A : Type 0} (q : Change → Bool) (step : A → Change → A) (was : A) → ((c : Change) → q c ≡ false → step was c ≡ was) → (cs : List Change) → list_any q cs ≡ false → fold step was cs ≡ was
left_alone q step was one [] none = refl
left_alone q step was one (c ∷ cs) none = ap (λ now. fold step now cs) (one c (any_first q c cs none)) ∙ left_alone q step was one cs (any_rest q c cs none)

-- fields

still_field : (e : ℕ) (name : List ℕ) (was : Option Value) (c : Change) → touches e c ≡ false → field_after c e name was ≡ was
still_field e name was (changes.SetField e' name' value) free = rw free refl
still_field e name was (changes.ForgetFields e') free = rw free refl
still_field e name was _ free = refl

pub field_still : (cs : List Change) (s : State) (e : ℕ) (name : List ℕ) → list_any (touches e) cs ≡ false → field_at (after_changes cs s).fields e name ≡ field_at s.fields e name
field_still cs s e name free = field_laid cs s e name ∙ left_alone (touches e) (λ was c. field_after c e name was) (field_at s.fields e name) (still_field e name (field_at s.fields e name)) cs free

-- entities whose numbers were drawn

drawn_before : (next e : ℕ) → e < next → ahead_of next e ≡ None
drawn_before next e low = let is : nat_lt e next ≡ true = grind (arith, nat_tests, low) in rw is refl

still_block : (e : ℕ) (was : Option ℕ) (c : Change) → touches e c ≡ false → block_after c e (None, was) ≡ (None, was)
still_block e was (changes.CreateRoot block service priority) free = refl
still_block e was (changes.CreateChild parent relation block priority) free = refl
still_block e was (changes.Remove e') free = rw free refl
still_block e was _ free = refl

pub block_still : (cs : List Change) (s : State) (e : ℕ) → e < s.next_entity → list_any (touches e) cs ≡ false → block_at (after_changes cs s).entities e ≡ block_at s.entities e
block_still cs s e low free =
    block_laid cs s e ∙ ap (λ (first : Option ℕ). (fold (λ seen c. block_after c e seen) (first, block_at s.entities e) cs).1) (drawn_before s.next_entity e low)
    ∙ ap (λ (seen : Option ℕ × Option ℕ). seen.1) (left_alone (touches e) (λ seen c. block_after c e seen) (None, block_at s.entities e) (still_block e (block_at s.entities e)) cs free)

still_parent : (e : ℕ) (was : Option ℕ) (c : Change) → touches e c ≡ false → parent_after c e (None, was) ≡ (None, was)
still_parent e was (changes.CreateRoot block service priority) free = refl
still_parent e was (changes.CreateChild parent relation block priority) free = refl
still_parent e was (changes.Remove e') free = rw free refl
still_parent e was _ free = refl

pub parent_still : (cs : List Change) (s : State) (e : ℕ) → e < s.next_entity → list_any (touches e) cs ≡ false → parent_at (after_changes cs s).entities e ≡ parent_at s.entities e
parent_still cs s e low free =
    parent_laid cs s e ∙ ap (λ (first : Option ℕ). (fold (λ seen c. parent_after c e seen) (first, parent_at s.entities e) cs).1) (drawn_before s.next_entity e low)
    ∙ ap (λ (seen : Option ℕ × Option ℕ). seen.1) (left_alone (touches e) (λ seen c. parent_after c e seen) (None, parent_at s.entities e) (still_parent e (parent_at s.entities e)) cs free)

-- activities whose numbers were drawn

still_activity : (a : ℕ) (was : Option (Bool × Bool)) (c : Change) → ends a c ≡ false → activity_after c a (None, was) ≡ (None, was)
still_activity a was (changes.Start kind) free = refl
still_activity a was (changes.End a') free = rw free refl
still_activity a was (changes.DropContext a') free = rw free refl
still_activity a was _ free = refl

pub activity_still : (cs : List Change) (s : State) (a : ℕ) → a < s.next_activity → list_any (ends a) cs ≡ false → sight_at (after_changes cs s).activities a ≡ sight_at s.activities a
activity_still cs s a low free =
    activity_laid cs s a ∙ ap (λ (first : Option ℕ). (fold (λ seen c. activity_after c a seen) (first, sight_at s.activities a) cs).1) (drawn_before s.next_activity a low)
    ∙ ap (λ (seen : Option ℕ × Option (Bool × Bool)). seen.1) (left_alone (ends a) (λ seen c. activity_after c a seen) (None, sight_at s.activities a) (still_activity a (sight_at s.activities a)) cs free)

-- attachments of an entity: those to an activity that goes go with it

still_linked : (e a : ℕ) (was : Bool) (c : Change) → touches e c ≡ false → linked_after c e a was ≡ (not (drops a c) && was)
still_linked e a was (changes.Attach e' a') free = let other = apart e'.0 a'.0 free in rw other refl
  where
    apart : (n m : ℕ) → (n == e) ≡ false → same_pair n m e a ≡ false
    apart n m free = grind (arith, nat_tests)
still_linked e a was (changes.Detach e' a') free = let other = apart e'.0 a'.0 free in rw other refl
  where
    apart : (n m : ℕ) → (n == e) ≡ false → same_pair n m e a ≡ false
    apart n m free = grind (arith, nat_tests)
still_linked e a was (changes.DropContext a') free = refl
still_linked e a was _ free = refl

less_by : (was hit more : Bool) → (not hit && was && not more) ≡ (was && not (hit || more))
less_by was true more = elim (cases_Bool was) [
  | inl there ↦ rw there refl
  | inr gone ↦ rw gone refl
]
less_by was false more = refl

all_linked : (e a : ℕ) (cs : List Change) (was : Bool) → list_any (touches e) cs ≡ false → fold (λ was c. linked_after c e a was) was cs ≡ (was && not (list_any (drops a) cs))
all_linked e a [] was free = elim (cases_Bool was) [
  | inl there ↦ rw there refl
  | inr gone ↦ rw gone refl
]
all_linked e a (c ∷ cs) was free =
    ap (λ now. fold (λ was c. linked_after c e a was) now cs) (still_linked e a was c (any_first (touches e) c cs free))
    ∙ all_linked e a cs (not (drops a c) && was) (any_rest (touches e) c cs free) ∙ less_by was (drops a c) (list_any (drops a) cs)

pub linked_still : (cs : List Change) (s : State) (e a : ℕ) → list_any (touches e) cs ≡ false → is_linked (after_changes cs s).links e a ≡ (is_linked s.links e a && not (list_any (drops a) cs))
linked_still cs s e a free = linked_laid cs s e a ∙ all_linked e a cs (is_linked s.links e a) free

-- the activities that stay

all_stay : (xs : List ℕ) → filter (λ a. not false) xs ≡ xs
all_stay [] = refl
all_stay (x ∷ xs) = ap (λ more. x ∷ more) (all_stay xs)

same_tests : (p q : ℕ → Bool) → ((a : ℕ) → p a ≡ q a) → (xs : List ℕ) → filter p xs ≡ filter q xs
same_tests p q same [] = refl
same_tests p q same (x ∷ xs) = elim (cases_Bool (q x)) [
  | inl goes ↦ let also = same x ∙ goes in rw (also, goes) (ap (λ more. x ∷ more) (same_tests p q same xs))
  | inr stays ↦ let also = same x ∙ stays in rw (also, stays) (same_tests p q same xs)
]

filter_twice : (p q : ℕ → Bool) (xs : List ℕ) → filter (λ a. not (q a)) (filter (λ a. not (p a)) xs) ≡ filter (λ a. not (p a || q a)) xs
filter_twice p q [] = refl
filter_twice p q (x ∷ xs) = elim (cases_Bool (p x)) [
  | inl goes ↦ rw goes (filter_twice p q xs)
  | inr stays ↦ elim (cases_Bool (q x)) [
    | inl goes ↦ rw (stays, goes) (filter_twice p q xs)
    | inr too ↦ rw (stays, too) (ap (λ more. x ∷ more) (filter_twice p q xs))
  ]
]

still_activities : (e : ℕ) (was : List ℕ) (c : Change) → touches e c ≡ false → activities_after c e was ≡ filter (λ a. not (drops a c)) was
still_activities e was (changes.Attach e' a) free = rw free (sym (all_stay was))
still_activities e was (changes.Detach e' a) free = rw free (sym (all_stay was))
still_activities e was (changes.DropContext a') free = same_tests (λ a. not (a == a'.0)) (λ a. not (a'.0 == a)) (λ a. ap not (flipped a a'.0)) was
  where
    flipped : (n m : ℕ) → (n == m) ≡ (m == n)
    flipped n m = grind (arith, nat_tests)
still_activities e was _ free = sym (all_stay was)

all_activities : (e : ℕ) (cs : List Change) (was : List ℕ) → list_any (touches e) cs ≡ false → fold (λ was c. activities_after c e was) was cs ≡ filter (λ a. not (list_any (drops a) cs)) was
all_activities e [] was free = sym (all_stay was)
all_activities e (c ∷ cs) was free =
    ap (λ now. fold (λ was c. activities_after c e was) now cs) (still_activities e was c (any_first (touches e) c cs free))
    ∙ all_activities e cs (filter (λ a. not (drops a c)) was) (any_rest (touches e) c cs free) ∙ filter_twice (λ a. drops a c) (λ a. list_any (drops a) cs) was

pub activities_still : (cs : List Change) (s : State) (e : ℕ) → IsOrdered s → list_any (touches e) cs ≡ false → activities_of (after_changes cs s).links e ≡ filter (λ a. not (list_any (drops a) cs)) (activities_of s.links e)
activities_still cs s e order free = activities_laid cs s e order ∙ all_activities e cs (activities_of s.links e) free

-- children

none_left : (e : ℕ) (xs : List ℕ) → list_any (λ n. e == n) xs ≡ false → filter (λ n. not (n == e)) xs ≡ xs
none_left e [] free = refl
none_left e (x ∷ xs) free =
    let other : (e == x) ≡ false = any_first (λ n. e == n) x xs free in
    let stays : (x == e) ≡ false = flipped x other in
    rw stays (ap (λ more. x ∷ more) (none_left e xs (any_rest (λ n. e == n) x xs free)))
  where
    flipped : (n : ℕ) → (e == n) ≡ false → (n == e) ≡ false
    flipped n other = grind (arith, nat_tests)

-- a change that touches none of some entities
abbrev touches_one : List ℕ → Change → Bool
touches_one es c = list_any (λ e. touches e c) es

still_kids : (e : ℕ) (was : List ℕ) (next : ℕ) (c : Change) → touches e c ≡ false → touches_one was c ≡ false → (children_after c e (next, was)).1 ≡ was
still_kids e was next (changes.CreateRoot block service priority) free none = rw free refl
still_kids e was next (changes.CreateChild parent relation block priority) free none = rw free refl
still_kids e was next (changes.Remove e') free none = none_left e'.0 was none
still_kids e was next _ free none = refl

-- none of several changes touches one of some entities
none_first : (c : Change) (cs : List Change) (es : List ℕ) → list_any (λ e. list_any (touches e) (c ∷ cs)) es ≡ false → touches_one es c ≡ false
none_first c cs [] none = refl
none_first c cs (e ∷ es) none =
    let here = any_first (λ e. list_any (touches e) (c ∷ cs)) e es none in
    let first = any_first (touches e) c cs here in
    rw first (none_first c cs es (any_rest (λ e. list_any (touches e) (c ∷ cs)) e es none))

none_rest : (c : Change) (cs : List Change) (es : List ℕ) → list_any (λ e. list_any (touches e) (c ∷ cs)) es ≡ false → list_any (λ e. list_any (touches e) cs) es ≡ false
none_rest c cs [] none = refl
none_rest c cs (e ∷ es) none =
    let here = any_first (λ e. list_any (touches e) (c ∷ cs)) e es none in
    let rest = any_rest (touches e) c cs here in
    rw rest (none_rest c cs es (any_rest (λ e. list_any (touches e) (c ∷ cs)) e es none))

all_kids : (e : ℕ) (cs : List Change) (next : ℕ) (was : List ℕ) → list_any (touches e) cs ≡ false → list_any (λ e. list_any (touches e) cs) was ≡ false → (fold (λ seen c. children_after c e seen) (next, was) cs).1 ≡ was
all_kids e [] next was free none = refl
all_kids e (c ∷ cs) next was free none =
    let same = still_kids e was next c (any_first (touches e) c cs free) (none_first c cs was none) in
    ap (λ (now : List ℕ). (fold (λ seen c. children_after c e seen) ((children_after c e (next, was)).0, now) cs).1) same
    ∙ all_kids e cs (children_after c e (next, was)).0 was (any_rest (touches e) c cs free) (none_rest c cs was none)

pub kids_still : (cs : List Change) (s : State) (e : ℕ) → list_any (touches e) cs ≡ false → list_any (λ e. list_any (touches e) cs) (kids s.entities e) ≡ false → kids (after_changes cs s).entities e ≡ kids s.entities e
kids_still cs s e free none = kids_laid cs s e ∙ all_kids e cs s.next_entity (kids s.entities e) free none
