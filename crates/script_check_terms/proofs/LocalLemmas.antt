-- Variables by their names, with the places that are kept for them.
use Rattle.std.proofs.Common.{◌≡◌, ℕ, ◌+◌, ◌<◌, ◌≤◌, zero, suc, List, [], ◌∷◌, ◌++◌, Bool, true, false, Option, Some, None, refl, sym, ap, subst, ◌∙◌, cond, true≢false, position, find, slice_get, length, bytes_eq, take, drop, arith, is_some, nat_lt, inl, inr, ◌⊎◌, ⊎_elim}
use Rattle.std.specs.Option.{option_or, option_and_then, option_map}
use Rattle.std.specs.HashMap.{HashMap, get_by}
use Rattle.std.specs.List.{position_from, position_or_len}
use Rattle.std.proofs.lemmas.Iterator.Adapters.{position_from-zero}
use Rattle.std.proofs.lemmas.List.{take-append-drop}
use Rattle.std.proofs.lemmas.Option.{cond_some, slice_get_past}
use Rattle.std.proofs.lemmas.List.Folds.{find_at}
use Rattle.std.specs.Map.{update}
use Rattle.std.proofs.lemmas.Map.Text.{hash_map_updates_str}
use Rattle.std.specs.HashMap.{UpdatesBy}
use denote.Ref.{Bor}
use Rattle.std.proofs.lemmas.Slice.Eq.{bytes_eq-Decides}
use Rattle.script_tree.specs.Tree.{Bytes}
use Rattle.script_types.specs.Scopes.{Variable, visible}
use Rattle.script_check_terms.specs.KeptPlaces.{Finds, kept_place}

past : {A : Type 0} → (xs : List A) (n : ℕ) (b : Bool) → nat_lt n (length xs) ≡ b → slice_get xs n ≡ option_and_then (slice_get xs) (cond b (Some n) None)
past xs n true e = refl
past xs n false e = slice_get_past xs n (grind arith)

-- the first item is the one in the first place
item_at : {A : Type 0} → (p : A → Bool) (xs : List A) → find p xs ≡ option_and_then (slice_get xs) (position p xs)
item_at p xs = find_at p xs ∙ past xs (position_or_len p xs) _ refl

hit_or_later : {A : Type 0} → (p : A → Bool) (y : A) (ys : List A) (x : A) (b : Bool) → p y ≡ b → (find p ys ≡ Some x → p x ≡ true) → cond b (Some y) (find p ys) ≡ Some x → p x ≡ true
hit_or_later p y ys x true e later h = subst (λ o. p o ≡ true) (cond_some true y x h).1 e
hit_or_later p y ys x false e later h = later h

hits : {A : Type 0} → (p : A → Bool) (xs : List A) (x : A) → find p xs ≡ Some x → p x ≡ true
hits p [] x h = absurd cc
hits p (y ∷ ys) x h = hit_or_later p y ys x (p y) refl (hits p ys x) h

misses_at : {A : Type 0} → (p : A → Bool) (y : A) (ys : List A) (b : Bool) → p y ≡ b → cond b (Some y) (find p ys) ≡ None → (p y ≡ false) × (find p ys ≡ None)
misses_at p y ys true e h = absurd cc
misses_at p y ys false e h = (e, h)

misses : {A : Type 0} → (p : A → Bool) (xs : List A) (i : ℕ) (x : A) → find p xs ≡ None → slice_get xs i ≡ Some x → p x ≡ false
misses p [] i x n h = absurd cc
misses p (y ∷ ys) zero x n h = subst (λ o. p o ≡ false) (cond_some true y x h).1 (misses_at p y ys (p y) refl n).0
misses p (y ∷ ys) (suc i) x n h = misses p ys i x (misses_at p y ys (p y) refl n).1 h

kept_none : (locals : List Variable) (name : Bytes) (i : ℕ) (o : Option Variable) → slice_get locals i ≡ o → find (λ x. bytes_eq x.name name) locals ≡ None → None ≡ option_and_then (λ x. cond (bytes_eq x.name name) (Some i) None) o
kept_none locals name i None e n = refl
kept_none locals name i (Some x) e n = rw (misses (λ x. bytes_eq x.name name) locals i x n e) refl

found_or_later : {A : Type 0} → (p : A → Bool) (y : A) (ys : List A) (n i : ℕ) (b : Bool) → (position_from p (n + 1) ys ≡ Some i → is_some (find p ys) ≡ true) → cond b (Some n) (position_from p (n + 1) ys) ≡ Some i → is_some (cond b (Some y) (find p ys)) ≡ true
found_or_later p y ys n i true later h = refl
found_or_later p y ys n i false later h = later h

found_too : {A : Type 0} → (p : A → Bool) (n : ℕ) (xs : List A) (i : ℕ) → position_from p n xs ≡ Some i → is_some (find p xs) ≡ true
found_too p n [] i h = absurd cc
found_too p n (y ∷ ys) i h = found_or_later p y ys n i (p y) (found_too p (n + 1) ys i) h

kept_some : (locals : List Variable) (name : Bytes) (i : ℕ) (o : Option Variable) → find (λ x. bytes_eq x.name name) locals ≡ o → is_some o ≡ true → Some i ≡ option_and_then (λ x. cond (bytes_eq x.name name) (Some i) None) o
kept_some locals name i (Some x) e s = rw (hits (λ x. bytes_eq x.name name) locals x e) refl
kept_some locals name i None e s = absurd cc

kept_by : (locals : List Variable) (name : Bytes) (kept o : Option ℕ) → position (λ x. bytes_eq x.name name) locals ≡ o → ((i : ℕ) → o ≡ Some i → kept ≡ Some i) → o ≡ kept_place locals name kept
kept_by locals name None None e h = refl
kept_by locals name (Some i) None e h = kept_none locals name i _ refl (item_at (λ x. bytes_eq x.name name) locals ∙ ap (option_and_then (slice_get locals)) e)
kept_by locals name kept (Some i) e h =
    let at : find (λ x. bytes_eq x.name name) locals ≡ slice_get locals i = item_at (λ x. bytes_eq x.name name) locals ∙ ap (option_and_then (slice_get locals)) e in
    let some : is_some (find (λ x. bytes_eq x.name name) locals) ≡ true = found_too (λ x. bytes_eq x.name name) 0 locals i (sym (position_from-zero (λ x. bytes_eq x.name name) locals) ∙ e) in
    rw (h i refl) (kept_some locals name i (slice_get locals i) at (ap is_some (sym at) ∙ some))

-- a variable is in the place that is kept, if one of that name is there
pub place_found : {S : Type 0} → (places : HashMap (Bor (List ℕ)) ℕ S) (locals : List Variable) (name : Bytes) → Finds places locals → position (λ x. bytes_eq x.name name) locals ≡ kept_place locals name (get_by (λ k. bytes_eq name k.now) places)
place_found places locals name finds = kept_by locals name _ _ refl (finds name)

one_more_at : {A : Type 0} → (p : A → Bool) (x y : A) (xs : List A) (n : ℕ) (b : Bool) → position_from p (n + 1) (xs ++ y ∷ []) ≡ option_or (position_from p (n + 1) xs) (cond (p y) (Some (n + 1 + length xs)) None) → cond b (Some n) (position_from p (n + 1) (xs ++ y ∷ [])) ≡ option_or (cond b (Some n) (position_from p (n + 1) xs)) (cond (p y) (Some (n + suc (length xs))) None)
one_more_at p x y xs n true h = refl
one_more_at p x y xs n false h = let same : n + 1 + length xs ≡ n + suc (length xs) = omega arith in h ∙ ap (λ k. option_or (position_from p (n + 1) xs) (cond (p y) (Some k) None)) same

one_more : {A : Type 0} → (p : A → Bool) (n : ℕ) (xs : List A) (y : A) → position_from p n (xs ++ y ∷ []) ≡ option_or (position_from p n xs) (cond (p y) (Some (n + length xs)) None)
one_more p n [] y = let same : n ≡ n + 0 = omega arith in ap (λ k. cond (p y) (Some k) None) same
one_more p n (x ∷ xs) y = one_more_at p x y xs n (p x) (one_more p (n + 1) xs y)

in_front_at : {A : Type 0} → (p : A → Bool) (ys zs : List A) (n i : ℕ) (b : Bool) → (position_from p (n + 1) ys ≡ Some i → position_from p (n + 1) (ys ++ zs) ≡ Some i) → cond b (Some n) (position_from p (n + 1) ys) ≡ Some i → cond b (Some n) (position_from p (n + 1) (ys ++ zs)) ≡ Some i
in_front_at p ys zs n i true later h = h
in_front_at p ys zs n i false later h = later h

in_front : {A : Type 0} → (p : A → Bool) (n : ℕ) (ys zs : List A) (i : ℕ) → position_from p n ys ≡ Some i → position_from p n (ys ++ zs) ≡ Some i
in_front p n [] zs i h = absurd cc
in_front p n (y ∷ ys) zs i h = in_front_at p ys zs n i (p y) (in_front p (n + 1) ys zs i) h

-- the first of the variables are found as before
pub finds_first : {S : Type 0} → (places : HashMap (Bor (List ℕ)) ℕ S) (locals others : List Variable) → Finds places (locals ++ others) → Finds places locals
finds_first places locals others finds name place h =
    let p : Variable → Bool = λ x. bytes_eq x.name name in
    finds name place (position_from-zero p (locals ++ others) ∙ in_front p 0 locals others place (sym (position_from-zero p locals) ∙ h))

-- fewer variables are found as before
pub finds_fewer : {S : Type 0} → (places : HashMap (Bor (List ℕ)) ℕ S) (locals : List Variable) (n : ℕ) → Finds places locals → Finds places (take n locals)
finds_fewer places locals n finds = finds_first places (take n locals) (drop n locals) (subst (Finds places) (sym (take-append-drop n locals)) finds)

old_or_new : (old : Option ℕ) (b : Bool) (n place : ℕ) → option_or old (cond b (Some n) None) ≡ Some place → (old ≡ Some place) ⊎ ((old ≡ None) × (b ≡ true) × (n ≡ place))
old_or_new (Some i) b n place h = inl h
old_or_new None true n place h = inr (refl, refl, (cond_some true n place h).1)
old_or_new None false n place h = absurd cc

more_at : {A : Type 0} → (p : A → Bool) (xs : List A) (y : A) → position p (xs ++ y ∷ []) ≡ option_or (position p xs) (cond (p y) (Some (length xs)) None)
more_at p xs y =
    let same : 0 + length xs ≡ length xs = omega arith in
    position_from-zero p (xs ++ y ∷ []) ∙ one_more p 0 xs y
    ∙ ap (λ o. option_or o (cond (p y) (Some (0 + length xs)) None)) (sym (position_from-zero p xs))
    ∙ ap (λ k. option_or (position p xs) (cond (p y) (Some k) None)) same

same_place : (locals : List Variable) (one other : Bytes) → bytes_eq one other ≡ true → position (λ y. bytes_eq y.name one) locals ≡ position (λ y. bytes_eq y.name other) locals
same_place locals one other same = ap (λ q. position (λ y. bytes_eq y.name q) locals) ((bytes_eq-Decides one other).0 same)

-- a variable more, whose name was found already
pub finds_more : {S : Type 0} → (places : HashMap (Bor (List ℕ)) ℕ S) (locals : List Variable) (x : Variable) → Finds places locals → is_some (position (λ y. bytes_eq y.name x.name) locals) ≡ true → Finds places (locals ++ x ∷ [])
finds_more places locals x finds seen name place h =
    let p : Variable → Bool = λ y. bytes_eq y.name name in
    ⊎_elim
    (λ before. finds name place before)
    (λ behind. absurd (true≢false (sym seen ∙ ap is_some (same_place locals x.name name behind.1 ∙ behind.0))))
    (old_or_new (position p locals) (p x) (length locals) place (sym (more_at p locals x) ∙ h))

new_at : {S : Type 0} → (old : HashMap (Bor (List ℕ)) ℕ S) (locals : List Variable) (x : Variable) (name : Bytes) (place : ℕ) (b : Bool) → Finds old locals → position (λ y. bytes_eq y.name x.name) locals ≡ None → bytes_eq x.name name ≡ b
    → (position (λ y. bytes_eq y.name name) locals ≡ Some place) ⊎ ((position (λ y. bytes_eq y.name name) locals ≡ None) × (bytes_eq x.name name ≡ true) × (length locals ≡ place))
    → cond b (Some (length locals)) (get_by (λ k. bytes_eq name k.now) old) ≡ Some place
new_at old locals x name place true finds unseen e (inl before) = absurd (true≢false (ap is_some (sym before ∙ sym (same_place locals x.name name e) ∙ unseen)))
new_at old locals x name place true finds unseen e (inr behind) = ap Some behind.2
new_at old locals x name place false finds unseen e (inl before) = finds name place before
new_at old locals x name place false finds unseen e (inr behind) = absurd (true≢false (sym behind.1 ∙ e))

-- one whose name wasn't
pub finds_new : {S : Type 0} → (old new : HashMap (Bor (List ℕ)) ℕ S) (locals : List Variable) (x : Variable) → Finds old locals → position (λ y. bytes_eq y.name x.name) locals ≡ None
    → UpdatesBy (λ k l. bytes_eq k.now l.now) (λ k. bytes_eq x.name k.now) old new (Some (length locals)) → Finds new (locals ++ x ∷ [])
finds_new old new locals x finds unseen updates name place h =
    let p : Variable → Bool = λ y. bytes_eq y.name name in
    hash_map_updates_str x.name old new (Some (length locals)) updates name
    ∙ new_at old locals x name place (bytes_eq x.name name) finds unseen refl (old_or_new (position p locals) (p x) (length locals) place (sym (more_at p locals x) ∙ h))

none_since : {A : Type 0} → (o : Option A) → is_some o ≡ false → o ≡ None
none_since None h = refl
none_since (Some x) h = absurd cc

-- what the test before an insertion says
pub seen : {S : Type 0} → (places : HashMap (Bor (List ℕ)) ℕ S) (locals : List Variable) (name : Bytes) (kept place : Option ℕ) → Finds places locals → kept ≡ get_by (λ k. bytes_eq name k.now) places → place ≡ kept_place locals name kept → position (λ x. bytes_eq x.name name) locals ≡ place
seen places locals name kept place finds k p = place_found places locals name finds ∙ ap (kept_place locals name) (sym k) ∙ sym p

pub add_new : {S : Type 0} → (old new : HashMap (Bor (List ℕ)) ℕ S) (locals : List Variable) (name : Bytes) (place : Option ℕ) → Finds old locals → position (λ x. bytes_eq x.name name) locals ≡ place → is_some place ≡ false
    → UpdatesBy (λ k l. bytes_eq k.now l.now) (λ k. bytes_eq name k.now) old new (Some (length locals)) → (x : Variable) → x.name ≡ name → Finds new (locals ++ x ∷ [])
add_new old new locals name place finds p none updates x e = finds_new old new locals x finds (rw e (p ∙ none_since place none)) (rw e updates)

pub add_seen : {S : Type 0} → (places : HashMap (Bor (List ℕ)) ℕ S) (locals : List Variable) (name : Bytes) (place : Option ℕ) → Finds places locals → position (λ x. bytes_eq x.name name) locals ≡ place → is_some place ≡ true → (x : Variable) → x.name ≡ name → Finds places (locals ++ x ∷ [])
add_seen places locals name place finds p some x e = finds_more places locals x finds (rw e (ap is_some p ∙ some))

some_kind : (o : Option Variable) → is_some (option_map (λ v. v.holds) o) ≡ is_some o
some_kind None = refl
some_kind (Some v) = refl

some_place : (o : Option Variable) (locals : List Variable) (place : Option ℕ) → o ≡ option_and_then (slice_get locals) place → ((i : ℕ) → place ≡ Some i → is_some o ≡ true) → is_some o ≡ is_some place
some_place o locals None e h = ap is_some e
some_place o locals (Some i) e h = h i refl

-- a variable is visible if one of its name has a place
pub visible_is : (locals : List Variable) (name : Bytes) → is_some (visible locals name) ≡ is_some (position (λ x. bytes_eq x.name name) locals)
visible_is locals name =
    let p : Variable → Bool = λ x. bytes_eq x.name name in
    some_kind (find p locals) ∙ some_place (find p locals) locals (position p locals) (item_at p locals) (λ i e. found_too p 0 locals i (sym (position_from-zero p locals) ∙ e))
