-- Going through the attachments of an activity finds the first of all eligible entities.
use Rattle.std.proofs.Common.{◌≡◌, ℕ, ◌<◌, ◌==◌, Bool, true, false, List, [], ◌∷◌, Option, Some, None, refl, sym, ap, ◌∙◌, arith, inl, inr}
use Rattle.std.specs.Prelude.{◌&&◌, nat_lt}
use Rattle.std.specs.List.{AllByRecursion, filter, cons_option}
use Rattle.std.proofs.lemmas.Bool.{cases_Bool}
use Rattle.std.proofs.lemmas.Bool.Decides.{nat_tests}
use Rattle.router_state.specs.declared.rows.Entity.{Entity}
use Rattle.router_state.specs.declared.rows.Event.{Event}
use Rattle.router_state.specs.declared.rows.Link.{Link}
use Rattle.router_state.specs.declared.rows.Mask.{Mask}
use Rattle.router_state.specs.State.{State}
use Rattle.router_state.specs.Trees.{entity_at}
use Rattle.router_state.specs.Paths.{earlier, least_path}
use Rattle.router_state.specs.Contexts.{is_linked, links_on}
use Rattle.router_state.specs.Next.{is_eligible, first}
use Rattle.rows_sorted.specs.Keys.{Rises}
use Rattle.router_state.specs.Keys.{entity_key, link_key}
use Rattle.rows_sorted.proofs.OrderLemmas.{AllInOrder, IsBefore, in_order, all_from_all, filter_rises}
use Rattle.entity_tree.proofs.ListLemmas.{filter_agree, filter_none, all_of_any}
use Rattle.entity_tree.proofs.RowLemmas.{none_there}
use Rattle.router_order.specs.Asked.{IsAbout, entities_of, is_wanted}
use Rattle.router_order.proofs.LinkLemmas.{all_on, has, linked_is}

-- one entity more is considered
one_more : (rows : List Entity) (wanted : Entity → Bool) (best : Option Entity) (l : Link) (ls : List Link)
    → least_path rows best (filter wanted (entities_of rows (l ∷ ls))) ≡ least_path rows (least_path rows best (filter wanted (cons_option (entity_at rows l.entity.0) []))) (filter wanted (entities_of rows ls))
one_more rows wanted best l ls = by (entity_at rows l.entity.0)
  where
    by : (found : Option Entity) → least_path rows best (filter wanted (cons_option found (entities_of rows ls))) ≡ least_path rows (least_path rows best (filter wanted (cons_option found []))) (filter wanted (entities_of rows ls))
    by None = refl
    by (Some row) = elim (cases_Bool (wanted row)) [
      | inl does ↦ rw does refl
      | inr doesnt ↦ rw doesnt refl
    ]

-- the entity that is considered passes, doesn't pass, or isn't there
pub considered_some : (rows : List Entity) (wanted : Entity → Bool) (best found : Option Entity) (row : Entity) → found ≡ Some row → wanted row ≡ true → least_path rows best (filter wanted (cons_option found [])) ≡ Some (earlier rows best row)
considered_some rows wanted best found row is passes = rw (is, passes) refl

pub considered_other : (rows : List Entity) (wanted : Entity → Bool) (best found : Option Entity) (row : Entity) → found ≡ Some row → wanted row ≡ false → least_path rows best (filter wanted (cons_option found [])) ≡ best
considered_other rows wanted best found row is fails = rw (is, fails) refl

-- one attachment more was gone through
pub next_considered : (rows : List Entity) (wanted : Entity → Bool) (best more total : Option Entity) (links rest : List Link) (l : Link) → links ≡ l ∷ rest
    → more ≡ least_path rows best (filter wanted (cons_option (entity_at rows l.entity.0) []))
    → least_path rows best (filter wanted (entities_of rows links)) ≡ total
    → least_path rows more (filter wanted (entities_of rows rest)) ≡ total
next_considered rows wanted best more total links rest l cut is same =
    ap (λ (b : Option Entity). least_path rows b (filter wanted (entities_of rows rest))) is
    ∙ sym (one_more rows wanted best l rest)
    ∙ ap (λ (ls : List Link). least_path rows best (filter wanted (entities_of rows ls))) (sym cut)
    ∙ same

-- attachments to one activity rise by entity
abbrev IsLower : Link → Link → Type 0
IsLower x y = x.entity.0 < y.entity.0

none_has : (e : ℕ) (links : List Link) → AllByRecursion (λ l. e < l.entity.0) links → has links e ≡ false
none_has e [] above = refl
none_has e (l ∷ ls) above = let other : (l.entity.0 == e) ≡ false = grind (arith, nat_tests, above.0) in rw other (none_has e ls above.1)

none_of_none : (links : List Link) → entities_of [] links ≡ []
none_of_none [] = refl
none_of_none (l ∷ ls) = none_of_none ls

-- an entity of a lower number than these isn't sought among them
skipped : (x : Entity) (xs : List Entity) (links : List Link) → AllByRecursion (λ l. x.number.0 < l.entity.0) links → entities_of (x ∷ xs) links ≡ entities_of xs links
skipped x xs [] above = refl
skipped x xs (l ∷ ls) above = let other : (x.number.0 == l.entity.0) ≡ false = grind (arith, nat_tests, above.0) in rw other (ap (cons_option (entity_at xs l.entity.0)) (skipped x xs ls above.1))

-- the entities that are attached are those of the attachments
merged : (rows : List Entity) (links : List Link) → AllInOrder (IsBefore entity_key) rows → AllInOrder IsLower links
    → filter (λ row. has links row.number.0) rows ≡ entities_of rows links
merged [] links order rising = sym (none_of_none links)
merged (x ∷ xs) [] order rising = filter_none (λ row. has [] row.number.0) (x ∷ xs) (all_of_any (λ row. has [] row.number.0 ≡ false) (λ row. refl) (x ∷ xs))
merged (x ∷ xs) (l ∷ ls) order rising = elim (cases_Bool (l.entity.0 == x.number.0)) [
  | inl same ↦
      let back : (x.number.0 == l.entity.0) ≡ true = grind (arith, nat_tests, same) in
      let above = all_from_all (λ m. l.entity.0 < m.entity.0) (λ m. x.number.0 < m.entity.0) (λ m less. grind (arith, nat_tests, same, less)) ls rising.0 in
      let others = all_from_all (IsBefore entity_key x) (λ row. has (l ∷ ls) row.number.0 ≡ has ls row.number.0) (λ row later. passed row later same) xs order.0 in
      rw (same, back, skipped x xs ls above) (ap (λ rest. x ∷ rest) (filter_agree (λ row. has (l ∷ ls) row.number.0) (λ row. has ls row.number.0) xs others ∙ merged xs ls order.1 rising.1))
  | inr apart ↦ elim (cases_Bool (nat_lt l.entity.0 x.number.0)) [
    | inl lower ↦
        let gone : (x.number.0 == l.entity.0) ≡ false = grind (arith, nat_tests, lower) in
        let none : entity_at xs l.entity.0 ≡ None = none_there l.entity.0 xs (all_from_all (IsBefore entity_key x) (λ row. (row.number.0 == l.entity.0) ≡ false) (λ row later. grind (arith, nat_tests, lower, later)) xs order.0) in
        let others : AllByRecursion (λ row. (l.entity.0 == row.number.0) ≡ false) (x ∷ xs) = (apart, all_from_all (IsBefore entity_key x) (λ row. (l.entity.0 == row.number.0) ≡ false) (λ row later. grind (arith, nat_tests, lower, later)) xs order.0) in
        rw (gone, none) (filter_agree (λ row. has (l ∷ ls) row.number.0) (λ row. has ls row.number.0) (x ∷ xs) (all_from_all (λ row. (l.entity.0 == row.number.0) ≡ false) (λ row. has (l ∷ ls) row.number.0 ≡ has ls row.number.0) (λ row other. rw other refl) (x ∷ xs) others) ∙ merged (x ∷ xs) ls order rising.1)
    | inr higher ↦
        let above : AllByRecursion (λ m. x.number.0 < m.entity.0) (l ∷ ls) = (above_first higher apart, all_from_all (λ m. l.entity.0 < m.entity.0) (λ m. x.number.0 < m.entity.0) (λ m less. grind (arith, nat_tests, higher, less)) ls rising.0) in
        rw (none_has x.number.0 (l ∷ ls) above, skipped x xs (l ∷ ls) above) (merged xs (l ∷ ls) order.1 rising)
  ]
]
  where
    above_first : nat_lt l.entity.0 x.number.0 ≡ false → (l.entity.0 == x.number.0) ≡ false → x.number.0 < l.entity.0
    above_first higher apart = grind (arith, nat_tests, higher, apart)

    passed : (row : Entity) → IsBefore entity_key x row → (l.entity.0 == x.number.0) ≡ true → has (l ∷ ls) row.number.0 ≡ has ls row.number.0
    passed row later same = let other : (l.entity.0 == row.number.0) ≡ false = grind (arith, nat_tests, later, same) in rw other refl

-- a filter by two tests
filter_both : (p q : Entity → Bool) (rows : List Entity) → filter (λ row. p row && q row) rows ≡ filter q (filter p rows)
filter_both p q [] = refl
filter_both p q (x ∷ xs) = elim (cases_Bool (p x)) [
  | inl does ↦ elim (cases_Bool (q x)) [
    | inl also ↦ rw (does, also) (ap (λ rest. x ∷ rest) (filter_both p q xs))
    | inr other ↦ rw (does, other) (filter_both p q xs)
  ]
  | inr doesnt ↦ rw doesnt (filter_both p q xs)
]

-- the attachments to one activity rise by entity
on_one : (a : ℕ) (links : List Link) → AllByRecursion (λ l. (l.activity.0 == a) ≡ true) links → AllInOrder (IsBefore link_key) links → AllInOrder IsLower links
on_one a [] mine order = tt
on_one a (l ∷ ls) mine order =
    (lower_all ls mine.1 order.0, on_one a ls mine.1 order.1)
  where
    lower_all : (some : List Link) → AllByRecursion (λ m. (m.activity.0 == a) ≡ true) some → AllByRecursion (IsBefore link_key l) some → AllByRecursion (IsLower l) some
    lower_all [] here before = tt
    lower_all (m ∷ ms) here before = (let one = mine.0 in let two = here.0 in let less = before.0 in grind (arith, nat_tests, one, two, less), lower_all ms here.1 before.1)

module _ (s : State) (a : ℕ) (v : Event) (es : List Entity) (ms : List Mask) (name bs : List ℕ) (service : Option ℕ) (ds : ℕ → Bool) (about : IsAbout s a v es ms name bs service ds) where
  abbrev wanted : Entity → Bool
  wanted = is_wanted es ms a name bs service ds

  -- an entity may receive the event just where it is attached and is wanted
  pub eligible_is : (row : Entity) → is_eligible s a v row ≡ (is_linked s.links row.number.0 a && is_wanted es ms a name bs service ds row)
  eligible_is row = sym (rw (about.blocks row.block, about.masks, about.event, about.delivered row.number.0, about.entities, about.target) refl)

  -- the first of the entities of the attachments is the first of all
  pub first_is : (links : List Link) → links ≡ s.links → Rises entity_key es → Rises link_key links → least_path es None (filter (is_wanted es ms a name bs service ds) (entities_of es (links_on links a))) ≡ first s a v
  first_is links same rises links_rise =
      let ls = links_on links a in
      let rising = on_one a ls (all_on a links) (in_order link_key ls (filter_rises link_key (λ l. l.activity.0 == a) links links_rise)) in
      let each = λ (row : Entity). eligible_is row ∙ ap (λ b. b && wanted row) (ap (λ (all : List Link). is_linked all row.number.0 a) (sym same) ∙ linked_is links row.number.0 a) in
      let two : filter (is_eligible s a v) es ≡ filter wanted (entities_of es ls) =
      (λ i. filter (λ row. each row i) es) ∙ filter_both (λ row. has ls row.number.0) wanted es ∙ ap (filter wanted) (merged es ls (in_order entity_key es rises) rising) in
      ap (least_path es None) (sym two) ∙ ap (λ (rows : List Entity). least_path rows None (filter (is_eligible s a v) rows)) about.entities
