-- Attachments stay listed where an entity comes that is below others, and where one goes that has no child and no attachment.
use Rattle.std.proofs.Common.{◌≡◌, ℕ, zero, suc, ℤ, ◌+◌, ◌<◌, ◌==◌, Bool, true, false, List, [], ◌∷◌, ◌++◌, Option, Some, None, refl, sym, ap, subst, ◌∙◌, arith, inl, inr}
use Rattle.std.specs.Prelude.{not, nat_lt, is_some, ◌&&◌}
use Rattle.std.specs.List.{AllByRecursion, filter, list_all, list_any}
use Rattle.std.proofs.lemmas.Bool.{cases_Bool, and_parts}
use Rattle.std.proofs.lemmas.Bool.Decides.{nat_tests}
use Rattle.router_state.specs.declared.rows.Entity.{Entity}
use Rattle.router_state.specs.declared.rows.Link.{Link}
use Rattle.rows_sorted.specs.Orders.{rises_by}
use Rattle.router_state.specs.Contexts.{is_link, is_linked}
use Rattle.router_state.specs.Trees.{children, entity_at, number_of, parent_of, without_entity}
use Rattle.router_state.specs.Fitting.{has_entity, is_childless, is_detached}
use Rattle.rows_sorted.proofs.OrderLemmas.{all_filter, all_from_all}
use Rattle.entity_tree.specs.Kept.{AreEntities, AreParents, is_entity}
use Rattle.entity_tree.specs.Climbing.{path_at, step_of}
use Rattle.entity_tree.proofs.ListLemmas.{all_joined, all_two, none_left}
use Rattle.entity_tree.proofs.NumberLemmas.{cut_other}
use Rattle.entity_tree.proofs.RowLemmas.{found_holds}
use Rattle.entity_tree.proofs.KeptLemmas.{added_keeps, next_is_childless, next_stands_last, there_is_drawn}
use Rattle.entity_tree.proofs.PathLemmas.{no_path, parent_lower, path_step}
use Rattle.router_order.specs.Listed.{Agrees, IsListing, listed_before}
use Rattle.router_order.proofs.ListingLemmas.{true_both}
use Rattle.router_order.proofs.MoveLemmas.{each_linked}
use Rattle.router_order.proofs.PriorityLemmas.{rises_alike}

-- the two lists of entities have the same ones but for one number, which is nobody's parent
module _ (es fs : List Entity) (parents : AreParents es) (also : AreParents fs) (n : ℕ) (none : children es n ≡ []) (same : (e : ℕ) → (n == e) ≡ false → entity_at fs e ≡ entity_at es e) where
  no_parent : (e : ℕ) (row : Entity) → entity_at es e ≡ Some row → (n == parent_of row) ≡ false
  no_parent e row is =
      let apart = found_holds (λ (row : Entity). (parent_of row == n) ≡ false) e row es (none_left (λ (row : Entity). parent_of row == n) es none) is in
      grind (arith, nat_tests, apart)

  path_same_from : (k e : ℕ) → e < k → (n == e) ≡ false → path_at fs e ≡ path_at es e
  path_same_from zero e few apart = absurd (omega (arith, few))
  path_same_from (suc k) e few apart =
      by e apart (entity_at es e) refl (λ row is. let lower = parent_lower es parents e row is in path_same_from k (parent_of row) (omega (arith, lower, few)) (no_parent e row is))
    where
      by : (e : ℕ) → (n == e) ≡ false → (found : Option Entity) → entity_at es e ≡ found → ((row : Entity) → entity_at es e ≡ Some row → path_at fs (parent_of row) ≡ path_at es (parent_of row)) → path_at fs e ≡ path_at es e
      by e apart None is up = no_path fs also e (same e apart ∙ is) ∙ sym (no_path es parents e is)
      by e apart (Some row) is up = path_step fs also e row (same e apart ∙ is) ∙ ap (λ p. p ++ step_of row ∷ []) (up row is) ∙ sym (path_step es parents e row is)

  -- attachments of the others stay listed
  listed_same : (links : List Link) → AllByRecursion (λ (l : Link). (n == l.entity.0) ≡ false) links → IsListing es links → IsListing fs links
  listed_same links apart listing = record {
    rises = rises_alike es fs links (all_from_all (λ (l : Link). (n == l.entity.0) ≡ false) (λ l. path_at fs l.entity.0 ≡ path_at es l.entity.0) (λ l other. path_same_from (suc l.entity.0) l.entity.0 (omega arith) other) links apart) listing.rises;
    there = all_two (λ (l : Link). (n == l.entity.0) ≡ false) (λ (l : Link). is_entity es l.entity.0 ≡ true) (λ (l : Link). is_entity fs l.entity.0 ≡ true) (λ l other there. ap is_some (same l.entity.0 other) ∙ there) links apart listing.there;
  }

added_other : (rows : List Entity) (row : Entity) (e : ℕ) → (row.number.0 == e) ≡ false → entity_at (rows ++ row ∷ []) e ≡ entity_at rows e
added_other [] row e apart = rw apart refl
added_other (x ∷ xs) row e apart = elim (cases_Bool (x.number.0 == e)) [
  | inl mine ↦ rw mine refl
  | inr other ↦ rw other (added_other xs row e apart)
]

-- an entity of the next number comes
pub created_agrees : (next : ℕ) (rows more : List Entity) (row : Entity) (links listed : List Link) → AreEntities next rows → more ≡ rows ++ row ∷ [] → row.number.0 ≡ next → parent_of row < next → Agrees rows links listed → Agrees more links listed
created_agrees next rows more row links listed kept is own lower agrees = record {
  listing = subst (λ (all : List Entity). IsListing all listed) (sym is) (listed_same rows (rows ++ row ∷ []) kept.parents parents row.number.0 none (added_other rows row) listed (all_from_all (λ (l : Link). is_entity rows l.entity.0 ≡ true) (λ l. (row.number.0 == l.entity.0) ≡ false) below listed agrees.listing.there) agrees.listing);
  members = agrees.members;
}
  where
    parents : AreParents (rows ++ row ∷ [])
    parents = all_joined (λ row. parent_of row < row.number.0) rows (row ∷ []) kept.parents (omega (arith, own, lower), tt)

    none : children rows row.number.0 ≡ []
    none = rw own (next_is_childless next rows kept)

    below : (l : Link) → is_entity rows l.entity.0 ≡ true → (row.number.0 == l.entity.0) ≡ false
    below l there = let drawn = there_is_drawn next l.entity.0 rows kept there in grind (arith, nat_tests, drawn, own)

pub created_keeps : (next later : ℕ) (rows more : List Entity) (row : Entity) → AreEntities next rows → later ≡ next + 1 → more ≡ rows ++ row ∷ [] → row.number.0 ≡ next → parent_of row < next → AreEntities later more
created_keeps next later rows more row kept after is own lower =
    added_keeps next later row rows more kept (omega (arith, after)) (omega (arith, after, own)) (omega (arith, own, lower)) (is ∙ sym (next_stands_last row rows (subst (λ n. AreEntities n rows) (sym own) kept)))

none_any : {X : Type 0} (p : X → Bool) (xs : List X) → list_any p xs ≡ false → filter p xs ≡ []
none_any p [] none = refl
none_any p (x ∷ xs) none = elim (cases_Bool (p x)) [
  | inl is ↦ absurd (let wrong : true ≡ false = rw is at none in cc)
  | inr isnt ↦ rw isnt (none_any p xs (rw isnt at none))
]

isnt_true : (b : Bool) → not b ≡ true → b ≡ false
isnt_true true is = absurd (cc)
isnt_true false is = refl

unlinked : (links : List Link) (n a : ℕ) → list_any (λ l. l.entity.0 == n) links ≡ false → is_linked links n a ≡ false
unlinked [] n a none = refl
unlinked (x ∷ xs) n a none = elim (cases_Bool (x.entity.0 == n)) [
  | inl is ↦ absurd (let wrong : true ≡ false = rw is at none in cc)
  | inr isnt ↦ rw isnt (unlinked xs n a (rw isnt at none))
]

pub is_bare : (rows : List Entity) (n : ℕ) → is_childless rows n ≡ true → children rows n ≡ []
is_bare rows n bare = none_any (λ row. parent_of row == n) rows (isnt_true _ bare)

pub may_go : (rows : List Entity) (links : List Link) (n : ℕ) → (has_entity rows n && (is_childless rows n && is_detached links n)) ≡ true → (is_childless rows n ≡ true) × (is_detached links n ≡ true)
may_go rows links n fits = and_parts (is_childless rows n) (is_detached links n) (and_parts (has_entity rows n) (is_childless rows n && is_detached links n) fits).1

-- an entity without children and attachments goes
pub removed_agrees : (next n : ℕ) (rows fewer : List Entity) (links listed : List Link) → AreEntities next rows → fewer ≡ without_entity rows n → is_childless rows n ≡ true → is_detached links n ≡ true → Agrees rows links listed → Agrees fewer links listed
removed_agrees next n rows fewer links listed kept is bare loose agrees = record {
  listing = subst (λ (all : List Entity). IsListing all listed) (sym is) (listed_same rows (without_entity rows n) kept.parents parents n none (λ e apart. cut_other number_of e n rows apart) listed (all_from_all (λ (l : Link). is_linked listed l.entity.0 l.activity.0 ≡ true) (λ l. (n == l.entity.0) ≡ false) others listed (each_linked listed)) agrees.listing);
  members = agrees.members;
}
  where
    parents : AreParents (without_entity rows n)
    parents = all_filter (λ row. parent_of row < row.number.0) _ rows kept.parents

    none : children rows n ≡ []
    none = none_any (λ row. parent_of row == n) rows (isnt_true _ bare)

    others : (l : Link) → is_linked listed l.entity.0 l.activity.0 ≡ true → (n == l.entity.0) ≡ false
    others l linked = elim (cases_Bool (n == l.entity.0)) [
      | inl mine ↦
          let own : n ≡ l.entity.0 = grind (arith, nat_tests, mine) in
          let no = unlinked links n l.activity.0 (isnt_true _ loose) in
          let yes : is_linked links n l.activity.0 ≡ true = rw own (sym (agrees.members l.entity.0 l.activity.0) ∙ linked) in
          absurd (let wrong = sym yes ∙ no in cc)
      | inr other ↦ other
    ]

-- numbers below the next one pass the test
pub below_is : (n : ℕ) (rows : List Entity) → AllByRecursion (λ row. row.number.0 < n) rows → list_all (λ row. nat_lt row.number.0 n) rows ≡ true
below_is n [] all = refl
below_is n (x ∷ xs) all =
    let less = all.0 in
    let one : nat_lt x.number.0 n ≡ true = grind (arith, nat_tests, less) in
    rw one (below_is n xs all.1)
