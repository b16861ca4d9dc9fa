-- Of a list that rises by path, the first entity that passes is the first of all eligible ones.
use Rattle.std.proofs.Common.{◌≡◌, ℕ, ℤ, ◌==◌, Bool, true, false, List, [], ◌∷◌, Option, Some, None, refl, sym, ap, subst, ◌∙◌, arith, inl, inr}
use Rattle.std.specs.Prelude.{◌&&◌, ◌||◌, nat_lt, option_map}
use Rattle.std.specs.Option.{option_map_or}
use Rattle.std.specs.Ordering.{is_lt}
use Rattle.std.specs.List.{AllByRecursion, filter, find, list_any}
use Rattle.std.proofs.lemmas.Bool.{cases_Bool, and_parts}
use Rattle.std.proofs.lemmas.Bool.Decides.{nat_tests}
use Rattle.std.proofs.lemmas.Cmp.{tied_itself}
use Rattle.router_state.specs.declared.rows.Entity.{Entity}
use Rattle.router_state.specs.declared.rows.Link.{Link}
use Rattle.router_state.specs.Trees.{entity_at}
use Rattle.router_state.specs.Paths.{earlier, least_path, path_before, path_of}
use Rattle.rows_sorted.specs.Keys.{Rises}
use Rattle.router_state.specs.Keys.{entity_key}
use Rattle.rows_sorted.proofs.OrderLemmas.{AllInOrder, all_from_all, in_order}
use Rattle.entity_tree.specs.Climbing.{path_at}
use Rattle.entity_tree.proofs.ListLemmas.{all_filtered, filter_none}
use Rattle.entity_tree.proofs.RowLemmas.{each_found, found_number}
use Rattle.router_order.specs.Asked.{passes}
use Rattle.router_order.specs.Listed.{listed_before}
use Rattle.router_order.proofs.PathOrder.{path_is, path_order, path_total, not_back}
use Rattle.router_order.proofs.LinkLemmas.{has}

itself : (p : List (ℤ × ℕ)) → path_before p p ≡ false
itself p = path_is p p ∙ ap is_lt (tied_itself path_total p)

path_not_back : (p q : List (ℤ × ℕ)) → path_before p q ≡ true → path_before q p ≡ false
path_not_back p q low = not_back path_before path_order path_total path_is p q low

-- attachments to one activity rise by path
abbrev pub IsAbove : List Entity → Link → Link → Type 0
IsAbove es x y = path_before (path_at es x.entity.0) (path_at es y.entity.0) ≡ true

abbrev pub IsListedBefore : List Entity → Link → Link → Type 0
IsListedBefore es x y = listed_before es x y ≡ true

module _ (es : List Entity) where
  one_activity : (a : ℕ) (l m : Link) → (l.activity.0 == a) ≡ true → (m.activity.0 == a) ≡ true → IsListedBefore es l m → IsAbove es l m
  one_activity a l m mine also low =
      let not_lower : nat_lt l.activity.0 m.activity.0 ≡ false = grind (arith, nat_tests, mine, also) in
      let same : (l.activity.0 == m.activity.0) ≡ true = grind (arith, nat_tests, mine, also) in
      rw (not_lower, same) at low

  all_above : (a : ℕ) (l : Link) (ls : List Link) → (l.activity.0 == a) ≡ true → AllByRecursion (λ m. (m.activity.0 == a) ≡ true) ls → AllByRecursion (IsListedBefore es l) ls → AllByRecursion (IsAbove es l) ls
  all_above a l [] mine all order = tt
  all_above a l (m ∷ ms) mine all order = (one_activity a l m mine all.0 order.0, all_above a l ms mine all.1 order.1)

  pub on_path : (a : ℕ) (ls : List Link) → AllByRecursion (λ m. (m.activity.0 == a) ≡ true) ls → AllInOrder (IsListedBefore es) ls → AllInOrder (IsAbove es) ls
  on_path a [] all order = tt
  on_path a (l ∷ ls) all order = (all_above a l ls all.0 all.1 order.0, on_path a ls all.1 order.1)

  stays : (x : Entity) (ys : List Entity) → AllByRecursion (λ y. path_before (path_of es y) (path_of es x) ≡ false) ys → least_path es (Some x) ys ≡ Some x
  stays x [] all = refl
  stays x (y ∷ ys) all = rw all.0 (stays x ys all.1)

  -- an entity is this one, or its path comes later
  abbrev IsLater : Entity → Entity → Type 0
  IsLater x y = ((y.number.0 == x.number.0) ≡ true → y ≡ x) × ((y.number.0 == x.number.0) ≡ false → path_before (path_of es x) (path_of es y) ≡ true)

  later_not_before : (x y : Entity) → IsLater x y → path_before (path_of es y) (path_of es x) ≡ false
  later_not_before x y later = elim (cases_Bool (y.number.0 == x.number.0)) [
    | inl mine ↦ ap (λ (e : Entity). path_before (path_of es e) (path_of es x)) (later.0 mine) ∙ itself (path_of es x)
    | inr other ↦ path_not_back (path_of es x) (path_of es y) (later.1 other)
  ]

  takes : (x : Entity) (best : Option Entity) → ((b : Entity) → best ≡ Some b → path_before (path_of es x) (path_of es b) ≡ true) → earlier es best x ≡ x
  takes x None low = refl
  takes x (Some b) low = rw (low b refl) refl

  still : (x y : Entity) (best : Option Entity) → ((b : Entity) → best ≡ Some b → path_before (path_of es x) (path_of es b) ≡ true) → path_before (path_of es x) (path_of es y) ≡ true
      → path_before (path_of es x) (path_of es (earlier es best y)) ≡ true
  still x y None low also = also
  still x y (Some b) low also = elim (cases_Bool (path_before (path_of es y) (path_of es b))) [
    | inl does ↦ rw does also
    | inr doesnt ↦ rw doesnt (low b refl)
  ]

  -- an entity before all others is the one of least path
  reaches : (x : Entity) (best : Option Entity) (ys : List Entity) → ((b : Entity) → best ≡ Some b → path_before (path_of es x) (path_of es b) ≡ true)
      → AllByRecursion (IsLater x) ys → list_any (λ y. y.number.0 == x.number.0) ys ≡ true → least_path es best ys ≡ Some x
  reaches x best [] low all any = absurd (cc)
  reaches x best (y ∷ ys) low all any = elim (cases_Bool (y.number.0 == x.number.0)) [
    | inl mine ↦
        let same = all.0.0 mine in
        let here : earlier es best y ≡ x = ap (earlier es best) same ∙ takes x best low in
        ap (λ (e : Entity). least_path es (Some e) ys) here ∙ stays x ys (all_from_all (IsLater x) (λ z. path_before (path_of es z) (path_of es x) ≡ false) (later_not_before x) ys all.1)
    | inr other ↦
        let next = still x y best low (all.0.1 other) in
        reaches x (Some (earlier es best y)) ys (λ b is. let one : earlier es best y ≡ b = cc in subst (λ (e : Entity). path_before (path_of es x) (path_of es e) ≡ true) one next) all.1 (rw other at any)
  ]

  -- an entity that is found and passes is among those that pass
  kept_any : (q : Entity → Bool) (e : ℕ) (x : Entity) (rows : List Entity) → entity_at rows e ≡ Some x → q x ≡ true → list_any (λ y. y.number.0 == e) (filter q rows) ≡ true
  kept_any q e x [] is does = absurd (cc)
  kept_any q e x (y ∷ ys) is does = elim (cases_Bool (y.number.0 == e)) [
    | inl mine ↦
        let first : Some y ≡ Some x = rw mine at is in
        let same : y ≡ x = cc in
        let goes : q y ≡ true = ap q same ∙ does in
        rw (goes, mine) refl
    | inr other ↦ elim (cases_Bool (q y)) [
      | inl goes ↦ rw (goes, other) (kept_any q e x ys (rw other at is) does)
      | inr doesnt ↦ rw doesnt (kept_any q e x ys (rw other at is) does)
    ]
  ]

  module _ (wanted : Entity → Bool) where
    abbrev wanted_at : ℕ → Bool
    wanted_at e = option_map_or wanted (entity_at es e) false

    passes_at : (l : Link) (e : ℕ) → (l.entity.0 == e) ≡ true → passes es wanted l ≡ wanted_at e
    passes_at l e same = let number : l.entity.0 ≡ e = grind (arith, nat_tests, same) in ap (λ n. wanted_at n) number

    absent : (ls : List Link) → find (passes es wanted) ls ≡ None → (e : ℕ) → has ls e ≡ true → wanted_at e ≡ false
    absent [] is e there = absurd (cc)
    absent (l ∷ ls) is e there = elim (cases_Bool (passes es wanted l)) [
      | inl does ↦ absurd (let wrong : Some l ≡ None = rw does at is in cc)
      | inr doesnt ↦ elim (cases_Bool (l.entity.0 == e)) [
        | inl same ↦ sym (passes_at l e same) ∙ doesnt
        | inr other ↦ absent ls (rw doesnt at is) e (rw other at there)
      ]
    ]

    pub found_passes : (l : Link) (ls : List Link) → find (passes es wanted) ls ≡ Some l → (passes es wanted l ≡ true) × (has ls l.entity.0 ≡ true)
    found_passes l [] is = absurd (cc)
    found_passes l (m ∷ ms) is = elim (cases_Bool (passes es wanted m)) [
      | inl does ↦
          let first : Some m ≡ Some l = rw does at is in
          let same : m ≡ l = cc in
          let mine : (m.entity.0 == l.entity.0) ≡ true = rw same (grind (arith, nat_tests)) in
          (ap (passes es wanted) (sym same) ∙ does, rw mine refl)
      | inr doesnt ↦
          let rest = found_passes l ms (rw doesnt at is) in
          (rest.0, rw rest.1 (either (m.entity.0 == l.entity.0)))
    ]
      where
        either : (b : Bool) → (b || true) ≡ true
        either true = refl
        either false = refl

    above_at : (p : List (ℤ × ℕ)) (ls : List Link) (e : ℕ) → AllByRecursion (λ m. path_before p (path_at es m.entity.0) ≡ true) ls → has ls e ≡ true → path_before p (path_at es e) ≡ true
    above_at p [] e all there = absurd (cc)
    above_at p (m ∷ ms) e all there = elim (cases_Bool (m.entity.0 == e)) [
      | inl same ↦ let number : m.entity.0 ≡ e = grind (arith, nat_tests, same) in subst (λ n. path_before p (path_at es n) ≡ true) number all.0
      | inr other ↦ above_at p ms e all.1 (rw other at there)
    ]

    -- the first one that passes comes before each other one that passes
    before_others : (l : Link) (ls : List Link) → AllInOrder (IsAbove es) ls → find (passes es wanted) ls ≡ Some l → (e : ℕ) → has ls e ≡ true → wanted_at e ≡ true → (l.entity.0 == e) ≡ false
        → path_before (path_at es l.entity.0) (path_at es e) ≡ true
    before_others l [] order is e there also apart = absurd (cc)
    before_others l (m ∷ ms) order is e there also apart = elim (cases_Bool (passes es wanted m)) [
      | inl does ↦
          let first : Some m ≡ Some l = rw does at is in
          let same : m ≡ l = cc in
          let other : (m.entity.0 == e) ≡ false = rw same apart in
          subst (λ (k : Link). path_before (path_at es k.entity.0) (path_at es e) ≡ true) same (above_at (path_at es m.entity.0) ms e order.0 (rw other at there))
      | inr doesnt ↦ elim (cases_Bool (m.entity.0 == e)) [
        | inl same ↦ absurd (let wrong = sym (passes_at m e same) ∙ doesnt in cc)
        | inr other ↦ before_others l ms order.1 (rw doesnt at is) e (rw other at there) also apart
      ]
    ]

    -- the number of the first one that passes is that of the least path of the eligible entities
    pub first_of : (q : Entity → Bool) (ls : List Link) → Rises entity_key es → AllInOrder (IsAbove es) ls → ((row : Entity) → q row ≡ (has ls row.number.0 && wanted row))
        → option_map (λ (l : Link). l.entity) (find (passes es wanted) ls) ≡ option_map (λ (row : Entity). row.number) (least_path es None (filter q es))
    first_of q ls rises order eligible = by (find (passes es wanted) ls) refl
      where
        each : AllByRecursion (λ row. entity_at es row.number.0 ≡ Some row) es
        each = each_found es (in_order entity_key es rises)

        none_eligible : find (passes es wanted) ls ≡ None → (row : Entity) → entity_at es row.number.0 ≡ Some row → q row ≡ false
        none_eligible is row read = elim (cases_Bool (has ls row.number.0)) [
          | inl there ↦
              let missed = absent ls is row.number.0 there in
              let doesnt : wanted row ≡ false = rw read at missed in
              eligible row ∙ (rw (there, doesnt) refl)
          | inr gone ↦ eligible row ∙ (rw gone refl)
        ]

        later : (l : Link) (x y : Entity) → find (passes es wanted) ls ≡ Some l → entity_at es l.entity.0 ≡ Some x → entity_at es y.number.0 ≡ Some y → q y ≡ true → IsLater x y
        later l x y is found read does =
            let parts = and_parts (has ls y.number.0) (wanted y) (sym (eligible y) ∙ does) in
            let number = found_number l.entity.0 x es found in
            let also : wanted_at y.number.0 ≡ true = rw read parts.1 in (
              (λ same. let equal : y.number.0 ≡ l.entity.0 = grind (arith, nat_tests, same, number) in let one : entity_at es l.entity.0 ≡ Some y = subst (λ n. entity_at es n ≡ Some y) equal read in let both : Some y ≡ Some x = sym one ∙ found in cc),
              (λ other. let apart : (l.entity.0 == y.number.0) ≡ false = grind (arith, nat_tests, other, number) in subst (λ n. path_before (path_at es n) (path_at es y.number.0) ≡ true) (sym number) (before_others l ls order is y.number.0 parts.0 also apart)),
            )

        some : (l : Link) → find (passes es wanted) ls ≡ Some l → (x : Entity) → entity_at es l.entity.0 ≡ Some x → least_path es None (filter q es) ≡ Some x
        some l is x found =
            let both = found_passes l ls is in
            let number = found_number l.entity.0 x es found in
            let passed = both.0 in
            let does : wanted x ≡ true = rw found at passed in
            let there : has ls x.number.0 ≡ true = subst (λ n. has ls n ≡ true) (sym number) both.1 in
            let mine : q x ≡ true = eligible x ∙ (rw (there, does) refl) in
            let all = all_filtered q (IsLater x) es (all_from_all (λ (row : Entity). entity_at es row.number.0 ≡ Some row) (λ row. q row ≡ true → IsLater x row) (λ row read goes. later l x row is found read goes) es each) in
            let at_number : entity_at es x.number.0 ≡ Some x = subst (λ n. entity_at es n ≡ Some x) (sym number) found in
            reaches x None (filter q es) (λ b wrong. absurd (cc)) all (kept_any q x.number.0 x es at_number mine)

        by : (found : Option Link) → find (passes es wanted) ls ≡ found → option_map (λ (l : Link). l.entity) found ≡ option_map (λ (row : Entity). row.number) (least_path es None (filter q es))
        by None is =
            let none = filter_none q es (all_from_all (λ (row : Entity). entity_at es row.number.0 ≡ Some row) (λ row. q row ≡ false) (none_eligible is) es each) in
            rw none refl
        by (Some l) is =
            let both = found_passes l ls is in
            let x = found_in l both.0 in
            let number = found_number l.entity.0 x.0 es x.1 in
            let ids : l.entity ≡ x.0.number = λ i. record { 0 = sym number i } in
            rw (some l is x.0 x.1) (ap Some ids)
          where
            found_in : (l : Link) → passes es wanted l ≡ true → (x : Entity) × (entity_at es l.entity.0 ≡ Some x)
            found_in l does = one (entity_at es l.entity.0) refl
              where
                one : (found : Option Entity) → entity_at es l.entity.0 ≡ found → (x : Entity) × (entity_at es l.entity.0 ≡ Some x)
                one None read = absurd (let wrong : false ≡ true = rw read at does in cc)
                one (Some x) read = (x, read)
