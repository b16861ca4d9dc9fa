-- Something is attached in the tree of a root just where it is attached to an entity of which that is the root.
use Rattle.std.proofs.Common.{◌≡◌, ℕ, zero, suc, ◌+◌, ◌<◌, ◌≤◌, ◌==◌, Bool, true, false, List, [], ◌∷◌, ◌++◌, Option, Some, None, length, map, filter, sum, refl, sym, ap, ◌∙◌, arith, inl, inr}
use Rattle.std.specs.Prelude.{◌&&◌, ◌||◌, not, nat_le, nat_lt}
use Rattle.std.specs.List.{AllByRecursion, list_all, list_any}
use Rattle.std.proofs.lemmas.Bool.{cases_Bool}
use Rattle.std.proofs.lemmas.List.Sums.{sum_by-cons, sum-map}
use Rattle.std.proofs.lemmas.Bool.Decides.{nat_tests}
use Rattle.rows_sorted.specs.Keys.{Rises}
use Rattle.rows_sorted.proofs.OrderLemmas.{in_order}
use Rattle.router_state.specs.Closed.{are_roots_held, is_loose}
use Rattle.router_state.specs.Keys.{entity_key}
use Rattle.router_state.specs.Trees.{attachment_count, children, entity_at, links_of, parent_of, roots}
use Rattle.router_state.specs.declared.rows.Entity.{Entity}
use Rattle.router_state.specs.declared.rows.Link.{Link}
use Rattle.snapshot_check.specs.Tops.{is_lower, noted, parent_at, top_of, top_row}
use Rattle.snapshot_check.specs.declared.tops.Top.{Top}
use Rattle.snapshot_check.proofs.TopLemmas.{alike, each_found, found_holds, found_number, noted_is, parent_lower, parent_there, top_nowhere, top_root, top_step}

both_true : (a b : Bool) → (a && b) ≡ true → (a ≡ true) × (b ≡ true)
both_true true true passes = (refl, refl)
both_true true false passes = cc
both_true false b passes = cc

-- a sum is 0 just where all its parts are

sum_next : {X : Type 0} (f : X → ℕ) (x : X) (xs : List X) → sum (map f (x ∷ xs)) ≡ f x + sum (map f xs)
sum_next f x xs = sum-map f (x ∷ xs) ∙ sum_by-cons f x xs ∙ ap (λ n. f x + n) (sym (sum-map f xs))

sum_none : {X : Type 0} (f : X → ℕ) (xs : List X) → AllByRecursion (λ x. f x ≡ 0) xs → sum (map f xs) ≡ 0
sum_none f [] all = refl
sum_none f (x ∷ xs) all = let first = all.0 in let rest = sum_none f xs all.1 in let split = sum_next f x xs in omega (arith, first, rest, split)

parts_none : {X : Type 0} (f : X → ℕ) (xs : List X) → sum (map f xs) ≡ 0 → AllByRecursion (λ x. f x ≡ 0) xs
parts_none f [] none = tt
parts_none f (x ∷ xs) none =
    let both : f x + sum (map f xs) ≡ 0 = sym (sum_next f x xs) ∙ none in
    (omega (arith, both), parts_none f xs (omega (arith, both)))

all_from : {X : Type 0} (P Q : X → Type 0) → ((x : X) → P x → Q x) → (xs : List X) → AllByRecursion P xs → AllByRecursion Q xs
all_from P Q follows [] all = tt
all_from P Q follows (x ∷ xs) all = (follows x all.0, all_from P Q follows xs all.1)

-- of what passes a test, all that holds of what passes holds
all_kept : {X : Type 0} (P : X → Type 0) (p : X → Bool) → (xs : List X) → AllByRecursion (λ x. p x ≡ true → P x) xs → AllByRecursion P (filter p xs)
all_kept P p [] all = tt
all_kept P p (x ∷ xs) all = elim (cases_Bool (p x)) [
  | inl passes ↦ rw passes (all.0 passes, all_kept P p xs all.1)
  | inr fails ↦ rw fails (all_kept P p xs all.1)
]

kept_all : {X : Type 0} (P : X → Type 0) (p : X → Bool) (xs : List X) → AllByRecursion P (filter p xs) → AllByRecursion (λ x. p x ≡ true → P x) xs
kept_all P p [] all = tt
kept_all P p (x ∷ xs) all = elim (cases_Bool (p x)) [
  | inl passes ↦ let both : P x × AllByRecursion P (filter p xs) = rw passes at all in ((λ _. both.0), kept_all P p xs both.1)
  | inr fails ↦ let rest : AllByRecursion P (filter p xs) = rw fails at all in ((λ is. absurd (let wrong : true ≡ false = sym is ∙ fails in cc)), kept_all P p xs rest)
]

none_among : {X : Type 0} (p : X → Bool) (xs : List X) → AllByRecursion (λ x. p x ≡ false) xs → length (filter p xs) ≡ 0
none_among p [] all = refl
none_among p (x ∷ xs) all = let first = all.0 in rw first (none_among p xs all.1)

each_fails : {X : Type 0} (p : X → Bool) (xs : List X) → length (filter p xs) ≡ 0 → AllByRecursion (λ x. p x ≡ false) xs
each_fails p [] none = tt
each_fails p (x ∷ xs) none = elim (cases_Bool (p x)) [
  | inl passes ↦ absurd (let more : suc (length (filter p xs)) ≡ 0 = rw passes at none in omega (arith, more))
  | inr fails ↦ (fails, each_fails p xs (rw fails at none))
]

any_fails : {X : Type 0} (p : X → Bool) (xs : List X) → AllByRecursion (λ x. p x ≡ false) xs → list_any p xs ≡ false
any_fails p [] all = refl
any_fails p (x ∷ xs) all = let first = all.0 in rw first (any_fails p xs all.1)

fails_any : {X : Type 0} (p : X → Bool) (xs : List X) → list_any p xs ≡ false → AllByRecursion (λ x. p x ≡ false) xs
fails_any p [] none = tt
fails_any p (x ∷ xs) none = elim (cases_Bool (p x)) [
  | inl passes ↦ absurd (let wrong : true ≡ false = rw passes at none in cc)
  | inr fails ↦ (fails, fails_any p xs (rw fails at none))
]

number_is : (m n : ℕ) → (m == n) ≡ true → m ≡ n
number_is m n same = grind (arith, nat_tests, same)

is_number : (m n : ℕ) → m ≡ n → (m == n) ≡ true
is_number m n same = grind (arith, nat_tests, same)

over_none : (m n : ℕ) → m < n → (n == 0) ≡ false
over_none m n low = grind (arith, nat_tests, low)

positive : (row : Entity) → is_lower row ≡ true → 0 < row.number.0
positive row low =
    let parts = both_true (nat_lt 0 row.number.0) ((parent_of row == 0) || nat_lt (parent_of row) row.number.0) low in
    let some = parts.0 in
    grind (arith, nat_tests, some)

all_by : (p : Entity → Bool) (rows : List Entity) → list_all p rows ≡ true → AllByRecursion (λ row. p row ≡ true) rows
all_by p [] all = tt
all_by p (x ∷ xs) all = let parts = both_true (p x) (list_all p xs) all in (parts.0, all_by p xs parts.1)

more_links : (l : Link) (links : List Link) (x : ℕ) → links_of links x ≤ links_of (l ∷ links) x
more_links l links x = elim (cases_Bool (l.entity.0 == x)) [
  | inl is ↦ rw is (omega arith)
  | inr other ↦ rw other (omega arith)
]

-- an attachment that passes, to an entity that has one
witness : (p : Link → Bool) (links : List Link) → list_any p links ≡ true → (l : Link) × (p l ≡ true) × (1 ≤ links_of links l.entity.0)
witness p [] any = absurd (cc)
witness p (l ∷ links) any = elim (cases_Bool (p l)) [
  | inl passes ↦ (l, passes, (let own = alike l.entity.0 in rw own (omega arith)))
  | inr fails ↦ let more = witness p links (rw fails at any) in let few = more_links l links more.0.entity.0 in let some = more.2 in (more.0, more.1, omega (arith, few, some))
]

-- how many entities have this number or a higher one
abbrev from_number : List Entity → ℕ → ℕ
from_number rows x = length (filter (λ row. nat_le x row.number.0) rows)

at_most_all : (rows : List Entity) (x : ℕ) → from_number rows x ≤ length rows
at_most_all [] x = omega arith
at_most_all (row ∷ rows) x = let rest = at_most_all rows x in elim (cases_Bool (nat_le x row.number.0)) [
  | inl is ↦ rw is (omega (arith, rest))
  | inr other ↦ rw other (omega (arith, rest))
]

no_fewer : (rows : List Entity) (p x : ℕ) → p ≤ x → from_number rows x ≤ from_number rows p
no_fewer [] p x low = omega arith
no_fewer (row ∷ rows) p x low = let rest = no_fewer rows p x low in elim (cases_Bool (nat_le x row.number.0)) [
  | inl is ↦ let too : nat_le p row.number.0 ≡ true = grind (arith, nat_tests, is, low) in rw (is, too) (omega (arith, rest))
  | inr other ↦ elim (cases_Bool (nat_le p row.number.0)) [
    | inl is ↦ rw (other, is) (omega (arith, rest))
    | inr neither ↦ rw (other, neither) rest
  ]
]

-- the entity itself is one of them
some_there : (rows : List Entity) (x : ℕ) (row : Entity) → entity_at rows x ≡ Some row → 1 ≤ from_number rows x
some_there [] x row is = cc
some_there (first ∷ rows) x row is = elim (cases_Bool (first.number.0 == x)) [
  | inl mine ↦ let high : nat_le x first.number.0 ≡ true = grind (arith, nat_tests, mine) in rw high (omega arith)
  | inr other ↦ let rest = some_there rows x row (rw other at is) in elim (cases_Bool (nat_le x first.number.0)) [
    | inl high ↦ rw high (omega arith)
    | inr low ↦ rw low rest
  ]
]

-- a lower entity is one more
one_more : (rows : List Entity) (p x : ℕ) (row : Entity) → p < x → entity_at rows p ≡ Some row → from_number rows x + 1 ≤ from_number rows p
one_more [] p x row low is = cc
one_more (first ∷ rows) p x row low is = elim (cases_Bool (first.number.0 == p)) [
  | inl mine ↦
      let mine_too : nat_le p first.number.0 ≡ true = grind (arith, nat_tests, mine) in
      let not_high : nat_le x first.number.0 ≡ false = grind (arith, nat_tests, mine, low) in
      let rest = no_fewer rows p x (omega (arith, low)) in
      rw (mine_too, not_high) (omega (arith, rest))
  | inr other ↦ let rest = one_more rows p x row low (rw other at is) in elim (cases_Bool (nat_le x first.number.0)) [
    | inl high ↦ let high_too : nat_le p first.number.0 ≡ true = grind (arith, nat_tests, high, low) in rw (high, high_too) (omega (arith, rest))
    | inr low_too ↦ elim (cases_Bool (nat_le p first.number.0)) [
      | inl is_high ↦ rw (low_too, is_high) (omega (arith, rest))
      | inr neither ↦ rw (low_too, neither) rest
    ]
  ]
]

module _ (rows : List Entity) (links : List Link) where
  abbrev count : ℕ → ℕ → ℕ
  count n e = attachment_count n rows links e

  own_none : (n e : ℕ) → count (suc n) e ≡ 0 → links_of links e ≡ 0
  own_none n e none = let both : links_of links e + sum (map (λ row. count n row.number.0) (children rows e)) ≡ 0 = none in omega (arith, both)

  children_none : (n e : ℕ) → count (suc n) e ≡ 0 → AllByRecursion (λ row. (parent_of row == e) ≡ true → count n row.number.0 ≡ 0) rows
  children_none n e none =
      let both : links_of links e + sum (map (λ row. count n row.number.0) (children rows e)) ≡ 0 = none in
      kept_all (λ row. count n row.number.0 ≡ 0) (λ row. parent_of row == e) rows (parts_none (λ row. count n row.number.0) (children rows e) (omega (arith, both)))

  count_none : (n e : ℕ) → links_of links e ≡ 0 → AllByRecursion (λ row. (parent_of row == e) ≡ true → count n row.number.0 ≡ 0) rows → count (suc n) e ≡ 0
  count_none n e own below =
      let rest = sum_none (λ row. count n row.number.0) (children rows e) (all_kept (λ row. count n row.number.0 ≡ 0) (λ row. parent_of row == e) rows below) in
      omega (arith, own, rest)

  -- fewer generations have no more attachments
  fewer_none : (n m e : ℕ) → n ≤ m → count m e ≡ 0 → count n e ≡ 0
  fewer_none zero m e few none = refl
  fewer_none (suc n) zero e few none = absurd (omega (arith, few))
  fewer_none (suc n) (suc m) e few none =
      count_none n e (own_none m e none)
      (all_from (λ row. (parent_of row == e) ≡ true → count m row.number.0 ≡ 0) (λ row. (parent_of row == e) ≡ true → count n row.number.0 ≡ 0) (λ row known is. fewer_none n m row.number.0 (omega (arith, few)) (known is)) rows (children_none m e none))

  module _ (rises : Rises entity_key rows) (lower : list_all is_lower rows ≡ true) where
    found : AllByRecursion (λ row. entity_at rows row.number.0 ≡ Some row) rows
    found = each_found rows (in_order entity_key rows rises)

    -- a child has its parent's root
    same_top : (row : Entity) (e : ℕ) → entity_at rows row.number.0 ≡ Some row → (parent_of row == e) ≡ true → (e == 0) ≡ false → top_of rows row.number.0 ≡ top_of rows e
    same_top row e own is some =
        let parent : parent_at rows row.number.0 ≡ e = parent_there rows row.number.0 row own ∙ number_is (parent_of row) e is in
        top_step rows lower row.number.0 (ap (λ n. n == 0) parent ∙ some) ∙ ap (top_of rows) parent

    number_some : (row : Entity) (e : ℕ) → entity_at rows row.number.0 ≡ Some row → (parent_of row == e) ≡ true → (e == 0) ≡ false → (row.number.0 == 0) ≡ false
    number_some row e own is some =
        let parent : parent_at rows row.number.0 ≡ e = parent_there rows row.number.0 row own ∙ number_is (parent_of row) e is in
        let low = parent_lower rows lower row.number.0 (ap (λ n. n == 0) parent ∙ some) in
        over_none (parent_at rows row.number.0) row.number.0 low

    not_own : (e t : ℕ) (l : Link) → top_of rows e ≡ t → (top_of rows l.entity.0 == t) ≡ false → (l.entity.0 == e) ≡ false
    not_own e t l top other = elim (cases_Bool (l.entity.0 == e)) [
      | inl own ↦ absurd (let is = is_number (top_of rows l.entity.0) t (ap (top_of rows) (number_is l.entity.0 e own) ∙ top) in let wrong : true ≡ false = sym is ∙ other in cc)
      | inr apart ↦ apart
    ]

    -- where nothing is attached to an entity of this root, nothing is in any tree below it
    none_below : (n e t : ℕ) → (e == 0) ≡ false → top_of rows e ≡ t → list_any (λ l. top_of rows l.entity.0 == t) links ≡ false → count n e ≡ 0
    none_below zero e t some top none = refl
    none_below (suc n) e t some top none =
        count_none n e
        (none_among (λ l. l.entity.0 == e) links (all_from (λ l. (top_of rows l.entity.0 == t) ≡ false) (λ l. (l.entity.0 == e) ≡ false) (λ l other. not_own e t l top other) links (fails_any (λ l. top_of rows l.entity.0 == t) links none)))
        (all_from (λ row. entity_at rows row.number.0 ≡ Some row) (λ row. (parent_of row == e) ≡ true → count n row.number.0 ≡ 0)
        (λ row own is. none_below n row.number.0 t (number_some row e own is some) (same_top row e own is some ∙ top) none) rows found)

    -- what has no attachments in its parent's tree has none in its own
    below_child : (x p : ℕ) (row over : Entity) → entity_at rows x ≡ Some row → parent_at rows x ≡ p → entity_at rows p ≡ Some over → p < x → (m : ℕ) → from_number rows p ≡ m → count (from_number rows p) p ≡ 0 → count (from_number rows x) x ≡ 0
    below_child x p row over there parent placed low zero is known = absurd (let more = one_more rows p x over low placed in omega (arith, is, more))
    below_child x p row over there parent placed low (suc m) is known =
        let more = one_more rows p x over low placed in
        let of_parent : parent_of row ≡ p = sym (parent_there rows x row there) ∙ parent in
        let each = children_none m p (ap (λ n. count n p) (sym is) ∙ known) in
        let mine : count m row.number.0 ≡ 0 = found_holds (λ r. (parent_of r == p) ≡ true → count m r.number.0 ≡ 0) x row rows each there (is_number (parent_of row) p of_parent) in
        fewer_none (from_number rows x) m x (omega (arith, is, more)) (ap (count m) (sym (found_number x row rows there)) ∙ mine)

    over_step : (x e : ℕ) (row root : Entity) → entity_at rows x ≡ Some row → entity_at rows e ≡ Some root → (parent_at rows x == 0) ≡ false → top_of rows (parent_at rows x) ≡ e
        → (o : Option Entity) → entity_at rows (parent_at rows x) ≡ o → ((over : Entity) → entity_at rows (parent_at rows x) ≡ Some over → count (from_number rows (parent_at rows x)) (parent_at rows x) ≡ 0)
        → count (from_number rows x) x ≡ 0
    over_step x e row root there placed some up None nowhere known =
        absurd (let same : parent_at rows x ≡ e = sym (top_nowhere rows lower (parent_at rows x) nowhere) ∙ up in let wrong : Some root ≡ None = sym placed ∙ ap (entity_at rows) (sym same) ∙ nowhere in cc)
    over_step x e row root there placed some up (Some over) above known =
        below_child x (parent_at rows x) row over there refl above (parent_lower rows lower x some) (from_number rows (parent_at rows x)) refl (known over above)

    at_root : (x e : ℕ) → (parent_at rows x == 0) ≡ true → top_of rows x ≡ e → count (length rows) e ≡ 0 → count (from_number rows x) x ≡ 0
    at_root x e own top none =
        let same : x ≡ e = sym (top_root rows lower x own) ∙ top in
        fewer_none (from_number rows x) (length rows) x (at_most_all rows x) (ap (count (length rows)) same ∙ none)

    -- where nothing is in a root's tree, nothing is attached to an entity of that root
    none_above : (b x e : ℕ) (row root : Entity) → x ≤ b → entity_at rows x ≡ Some row → entity_at rows e ≡ Some root → top_of rows x ≡ e → count (length rows) e ≡ 0 → count (from_number rows x) x ≡ 0
    none_above zero x e row root few there placed top none = elim (cases_Bool (parent_at rows x == 0)) [
      | inl own ↦ at_root x e own top none
      | inr some ↦ absurd (let low = parent_lower rows lower x some in omega (arith, few, low))
    ]
    none_above (suc b) x e row root few there placed top none = elim (cases_Bool (parent_at rows x == 0)) [
      | inl own ↦ at_root x e own top none
      | inr some ↦
          let low = parent_lower rows lower x some in
          let up : top_of rows (parent_at rows x) ≡ e = sym (top_step rows lower x some) ∙ top in
          over_step x e row root there placed some up (entity_at rows (parent_at rows x)) refl (λ over is. none_above b (parent_at rows x) e over root (omega (arith, few, low)) is placed up none)
    ]

    not_attached : (x e : ℕ) (root : Entity) → entity_at rows e ≡ Some root → top_of rows x ≡ e → count (length rows) e ≡ 0 → (o : Option Entity) → entity_at rows x ≡ o → links_of links x ≡ 0
    not_attached x e root placed top none None nowhere =
        absurd (let same : x ≡ e = sym (top_nowhere rows lower x nowhere) ∙ top in let wrong : Some root ≡ None = sym placed ∙ ap (entity_at rows) (sym same) ∙ nowhere in cc)
    not_attached x e root placed top none (Some row) there =
        let mine = none_above x x e row root (omega arith) there placed top none in
        by (from_number rows x) refl (some_there rows x row there) mine
      where
        by : (m : ℕ) → from_number rows x ≡ m → 1 ≤ from_number rows x → count (from_number rows x) x ≡ 0 → links_of links x ≡ 0
        by zero is some mine = absurd (omega (arith, is, some))
        by (suc m) is some mine = own_none m x (ap (λ n. count n x) (sym is) ∙ mine)

    -- something is attached in the tree of a root where it is attached to an entity of that root
    root_held : (e : ℕ) (root : Entity) → entity_at rows e ≡ Some root → (parent_of root == 0) ≡ true → (e == 0) ≡ false → list_any (λ l. top_of rows l.entity.0 == e) links ≡ not (is_loose rows links e)
    root_held e root placed own some = elim (cases_Bool (list_any (λ l. top_of rows l.entity.0 == e) links)) [
      | inl any ↦ any ∙ sym (ap not (held any))
      | inr none ↦ none ∙ sym (ap not (is_number (count (length rows) e) 0 (none_below (length rows) e e some top none)))
    ]
      where
        top : top_of rows e ≡ e
        top = top_root rows lower e (rw placed own)

        held : list_any (λ l. top_of rows l.entity.0 == e) links ≡ true → is_loose rows links e ≡ false
        held any = elim (cases_Bool (is_loose rows links e)) [
          | inl loose ↦ absurd (
              let one = witness (λ l. top_of rows l.entity.0 == e) links any in
              let none = not_attached one.0.entity.0 e root placed (number_is (top_of rows one.0.entity.0) e one.1) (number_is (count (length rows) e) 0 loose) (entity_at rows one.0.entity.0) refl in
              let attached = one.2 in
              omega (arith, none, attached))
          | inr tight ↦ tight
        ]

any_map : {X : Type 0} (f : X → ℕ) (n : ℕ) (xs : List X) → list_any (λ x. x == n) (map f xs) ≡ list_any (λ x. f x == n) xs
any_map f n [] = refl
any_map f n (x ∷ xs) = ap (λ rest. (f x == n) || rest) (any_map f n xs)

all_roots : (p : ℕ → Bool) (rows : List Entity) → list_all p (roots rows) ≡ list_all (λ row. not (parent_of row == 0) || p row.number.0) rows
all_roots p [] = refl
all_roots p (row ∷ rows) = elim (cases_Bool (parent_of row == 0)) [
  | inl root ↦ rw root (ap (λ rest. p row.number.0 && rest) (all_roots p rows))
  | inr child ↦ rw child (all_roots p rows)
]

same_all : {X : Type 0} (p q : X → Bool) (xs : List X) → AllByRecursion (λ x. p x ≡ q x) xs → list_all p xs ≡ list_all q xs
same_all p q [] all = refl
same_all p q (x ∷ xs) all = (λ i. all.0 i && same_all p q xs all.1 i)

behind_none : (xs : List Entity) → xs ≡ xs ++ []
behind_none [] = refl
behind_none (x ∷ xs) = ap (λ (rest : List Entity). x ∷ rest) (behind_none xs)

all_and : {X : Type 0} (P Q : X → Type 0) (xs : List X) → AllByRecursion P xs → AllByRecursion Q xs → AllByRecursion (λ x. P x × Q x) xs
all_and P Q [] all also = tt
all_and P Q (x ∷ xs) all also = ((all.0, also.0), all_and P Q xs all.1 also.1)

pub held_is : (rows : List Entity) (links : List Link) (tops : List Top) (held : List ℕ) → Rises entity_key rows → list_all is_lower rows ≡ true → tops ≡ map (top_row rows) rows
    → ((n : ℕ) → list_any (λ x. x == n) held ≡ list_any (λ x. x == n) (map (λ (l : Link). noted tops l.entity.0) links))
    → list_all (λ row. not (parent_of row == 0) || list_any (λ x. x == row.number.0) held) rows ≡ are_roots_held rows links
held_is rows links tops held rises lower so same =
    same_all (λ row. not (parent_of row == 0) || list_any (λ x. x == row.number.0) held) (λ row. not (parent_of row == 0) || not (is_loose rows links row.number.0)) rows
    (all_from (λ row. (entity_at rows row.number.0 ≡ Some row) × (is_lower row ≡ true)) (λ row. (not (parent_of row == 0) || list_any (λ x. x == row.number.0) held) ≡ (not (parent_of row == 0) || not (is_loose rows links row.number.0))) each rows
    (all_and (λ row. entity_at rows row.number.0 ≡ Some row) (λ row. is_lower row ≡ true) rows (each_found rows (in_order entity_key rows rises)) (all_by is_lower rows lower)))
    ∙ sym (all_roots (λ e. not (is_loose rows links e)) rows)
  where
    noted_there : (l : Link) → noted tops l.entity.0 ≡ top_of rows l.entity.0
    noted_there l = ap (λ (ts : List Top). noted ts l.entity.0) so ∙ noted_is rows rows [] l.entity.0 lower (behind_none rows) refl

    any_is : (n : ℕ) → list_any (λ x. x == n) held ≡ list_any (λ (l : Link). top_of rows l.entity.0 == n) links
    any_is n = same n ∙ any_map (λ (l : Link). noted tops l.entity.0) n links ∙ (λ i. list_any (λ (l : Link). noted_there l i == n) links)

    each : (row : Entity) → (entity_at rows row.number.0 ≡ Some row) × (is_lower row ≡ true) → (not (parent_of row == 0) || list_any (λ x. x == row.number.0) held) ≡ (not (parent_of row == 0) || not (is_loose rows links row.number.0))
    each row both = elim (cases_Bool (parent_of row == 0)) [
      | inl root ↦ rw root (any_is row.number.0 ∙ root_held rows links rises lower row.number.0 row both.0 root (over_none 0 row.number.0 (positive row both.1)))
      | inr child ↦ rw child refl
    ]
