-- When roots go one after another, only those are looked at that may be loose.
use Rattle.std.proofs.Common.{◌≡◌, ℕ, zero, suc, ◌<◌, ◌≤◌, ◌==◌, ◌⊎◌, inl, inr, true, false, Bool, List, [], ◌∷◌, ◌++◌, length, filter, flat_map, refl, sym, ◌∙◌, ap, subst, arith, if◌then◌else◌}
use Rattle.std.specs.Prelude.{not}
use Rattle.std.specs.List.{AllByRecursion}
use Rattle.std.proofs.lemmas.Bool.{cases_Bool, cond_both}
use Rattle.std.proofs.lemmas.Bool.Decides.{nat_tests}
use Rattle.router_state.specs.State.{State}
use Rattle.router_state.specs.Closed.{is_loose}
use Rattle.router_state.specs.Changes.{after_changes}
use Rattle.router_state.specs.Trees.{count_of, links_of, parent_of, tree, tree_of, without_entity}
use Rattle.router_state.specs.declared.change.Change.TheVariants as changes
use Rattle.router_state.specs.declared.rows.Entity.{Entity}
use Rattle.router_state.specs.declared.rows.Link.{Link}
use Rattle.router_steps.specs.Closing.{close_root, close_roots, lines_of_root, lines_of_roots}
use Rattle.router_steps.specs.Going.{all_removed, removed, tree_removed}
use Rattle.router_steps.specs.Moves.{changes_of_detaching}
use Rattle.router_laws.proofs.ForestLemmas.{from_branches, in_either}
use Rattle.router_laws_closing.proofs.LooseLemmas.{below_left, from_member, left_of, none_attached, number_same, same_number, stays_held, still_in, was_in}
use Rattle.router_laws.specs.Forest.{IsIn, AreBelowChildren}
use Rattle.router_laws_closing.specs.Loose.{AreLooseAmong, IsForest, IsRoot, is_member}

-- an entity that is attached nowhere goes: its row goes, and no attachment

nothing : {X : Type 0} (xs : List X) → length xs ≡ 0 → xs ≡ []
nothing [] none = refl
nothing (x ∷ xs) none = absurd (omega (arith, none))

abbrev gone_by : List Link → ℕ → State → State
gone_by ls e s = after_changes (flat_map changes_of_detaching ls ++ changes.ForgetFields (record { 0 = e }) ∷ changes.Remove (record { 0 = e }) ∷ []) s

bare_entities : (s : State) (e : ℕ) → links_of s.links e ≡ 0 → (removed s e).entities ≡ without_entity s.entities e
bare_entities s e none = ap (λ ls. (gone_by ls e s).entities) (nothing (filter (λ (l : Link). l.entity.0 == e) s.links) none)

bare_links : (s : State) (e : ℕ) → links_of s.links e ≡ 0 → (removed s e).links ≡ s.links
bare_links s e none = ap (λ ls. (gone_by ls e s).links) (nothing (filter (λ (l : Link). l.entity.0 == e) s.links) none)

all_left : (rows : List Entity) → filter (λ row. not false) rows ≡ rows
all_left [] = refl
all_left (row ∷ rows) = ap (λ more. row ∷ more) (all_left rows)

left_twice : (e : ℕ) (es : List ℕ) (rows : List Entity) → left_of es (without_entity rows e) ≡ left_of (e ∷ es) rows
left_twice e es [] = refl
left_twice e es (row ∷ rows) = elim (cases_Bool (row.number.0 == e)) [
  | inl own ↦
      let turned : (e == row.number.0) ≡ true = grind (arith, nat_tests) in
      rw (own, turned) (left_twice e es rows)
  | inr other ↦
      let turned : (e == row.number.0) ≡ false = grind (arith, nat_tests) in
      elim (cases_Bool (is_member es row.number.0)) [
        | inl goes ↦ rw (other, turned, goes) (left_twice e es rows)
        | inr stays ↦ rw (other, turned, stays) (ap (λ more. row ∷ more) (left_twice e es rows))
      ]
]

bare_all : (es : List ℕ) (s : State) → ((m : ℕ) → IsIn m es → links_of s.links m ≡ 0) → ((all_removed es s).entities ≡ left_of es s.entities) × ((all_removed es s).links ≡ s.links)
bare_all [] s none = (sym (all_left s.entities), refl)
bare_all (e ∷ es) s none =
    let own = none e (inl refl) in
    let links : (removed s e).links ≡ s.links = bare_links s e own in
    let rest : ((all_removed es (removed s e)).entities ≡ left_of es (removed s e).entities) × ((all_removed es (removed s e)).links ≡ (removed s e).links) =
    bare_all es (removed s e) (λ m is. subst (λ ls. links_of ls m ≡ 0) (sym links) (none m (inr is))) in
    (rest.0 ∙ ap (left_of es) (bare_entities s e own) ∙ left_twice e es s.entities, rest.1 ∙ links)

-- a root is in no tree but its own

higher : (rows : List Entity) → AreBelowChildren rows → (k x m : ℕ) → IsIn m (tree k rows x) → (m ≡ x) ⊎ ((c : Entity) × IsIn c rows × (c.number.0 ≡ m) × (x ≤ parent_of c))
higher rows below zero x m is = elim is [ ]
higher rows below (suc k) x m is = elim (in_either m (flat_map (λ row. if parent_of row == x then tree k rows row.number.0 else []) rows) (x ∷ []) is) [
  | inl deep ↦
      let found = from_branches k rows rows x m deep in
      let lower : parent_of found.0 < found.0.number.0 = below found.0 found.1 in
      elim (higher rows below k found.0.number.0 m found.3) [
        | inl same ↦ inr (found.0, found.1, sym same, omega (arith, found.2))
        | inr more ↦ inr (more.0, more.1, more.2, omega (arith, more.3, lower, found.2))
      ]
  | inr top ↦ elim top [
    | inl same ↦ inl same
    | inr never ↦ absurd never
  ]
]

root_stays : (rows : List Entity) (gone top : Entity) → IsForest rows → IsIn gone rows → IsIn top rows → parent_of top ≡ 0 → (gone.number.0 == top.number.0) ≡ false → is_member (tree_of rows gone.number.0) top.number.0 ≡ false
root_stays rows gone top forest in_rows there root apart = elim (cases_Bool (is_member (tree_of rows gone.number.0) top.number.0)) [
  | inr stays ↦ stays
  | inl goes ↦ (elim (higher rows forest.below (length rows) gone.number.0 top.number.0 (from_member (tree_of rows gone.number.0) top.number.0 goes)) [
    | inl same ↦ let wrong : true ≡ false = sym (same_number gone.number.0 top.number.0 (sym same)) ∙ apart in absurd (cc)
    | inr found ↦
        let own : found.0 ≡ top = forest.once found.0 top found.1 there found.2 in
        let parent : parent_of found.0 ≡ 0 = subst (λ (x : Entity). parent_of x ≡ 0) (sym own) root in
        let low : parent_of gone < gone.number.0 = forest.below gone in_rows in
        absurd (omega (arith, parent, low, found.3))
  ])
]

forest_left : (es : List ℕ) (rows : List Entity) → IsForest rows → IsForest (left_of es rows)
forest_left es rows forest = record {
  below = below_left es rows forest.below;
  once = λ x y one two same. forest.once x y (was_in (λ row. not (is_member es row.number.0)) rows x one) (was_in (λ row. not (is_member es row.number.0)) rows y two) same;
}

-- where a loose root goes, the others are known as before

roots_left : (rows : List Entity) (gone : Entity) (es : List ℕ) → IsForest rows → IsIn gone rows → AllByRecursion (λ f. (gone.number.0 == f) ≡ false) es → AllByRecursion (IsRoot rows) es
    → AllByRecursion (IsRoot (left_of (tree_of rows gone.number.0) rows)) es
roots_left rows gone [] forest in_rows apart roots = tt
roots_left rows gone (e ∷ es) forest in_rows apart roots =
    let root = roots.0 in
    let differs : (gone.number.0 == root.0.number.0) ≡ false = subst (λ (n : ℕ). (gone.number.0 == n) ≡ false) (sym root.2) apart.0 in
    let stays = root_stays rows gone root.0 forest in_rows root.1 root.3 differs in
    ((root.0, still_in (λ row. not (is_member (tree_of rows gone.number.0) row.number.0)) rows root.0 root.1 (rw stays refl), root.2, root.3), roots_left rows gone es forest in_rows apart.1 roots.1)

known_left : (among : ℕ → Bool) (rows : List Entity) (links : List Link) (gone : Entity) (es : List ℕ) → IsForest rows → IsIn gone rows → count_of rows links gone.number.0 ≡ 0 → AllByRecursion (IsRoot rows) es
    → AllByRecursion (λ e. is_loose rows links e ≡ true → among e ≡ true) es → AllByRecursion (λ e. is_loose (left_of (tree_of rows gone.number.0) rows) links e ≡ true → among e ≡ true) es
known_left among rows links gone [] forest in_rows loose roots known = tt
known_left among rows links gone (e ∷ es) forest in_rows loose roots known =
    let root = roots.0 in
    let kept = left_of (tree_of rows gone.number.0) rows in (
      (λ after.
          let none : count_of kept links root.0.number.0 ≡ 0 = subst (λ (n : ℕ). count_of kept links n ≡ 0) (sym root.2) (number_same (count_of kept links e) 0 after) in
          let before : count_of rows links root.0.number.0 ≡ 0 = stays_held rows links gone root.0 forest.below in_rows root.1 loose none in
          known.0 (same_number (count_of rows links e) 0 (subst (λ (n : ℕ). count_of rows links n ≡ 0) root.2 before))),
      known_left among rows links gone es forest in_rows loose roots.1 known.1,
    )

known_gone : (among : ℕ → Bool) (s : State) (e : ℕ) (es : List ℕ) → AreLooseAmong among s.entities s.links (e ∷ es) → is_loose s.entities s.links e ≡ true
    → AreLooseAmong among (tree_removed s e).entities (tree_removed s e).links es
known_gone among s e es are loose =
    let root = are.roots.0 in
    let none : count_of s.entities s.links e ≡ 0 = number_same (count_of s.entities s.links e) 0 loose in
    let own : count_of s.entities s.links root.0.number.0 ≡ 0 = subst (λ (n : ℕ). count_of s.entities s.links n ≡ 0) (sym root.2) none in
    let after = bare_all (tree_of s.entities e) s (λ m is. none_attached (length s.entities) s.entities s.links e m none is) in
    let kept = left_of (tree_of s.entities e) s.entities in
    let named : left_of (tree_of s.entities root.0.number.0) s.entities ≡ kept = ap (λ n. left_of (tree_of s.entities n) s.entities) root.2 in
    let apart : AllByRecursion (λ f. (root.0.number.0 == f) ≡ false) es = subst (λ (n : ℕ). AllByRecursion (λ f. (n == f) ≡ false) es) (sym root.2) are.differ.0 in
    let here : AreLooseAmong among kept s.links es = record {
      forest = forest_left (tree_of s.entities e) s.entities are.forest;
      roots = subst (λ rows. AllByRecursion (IsRoot rows) es) named (roots_left s.entities root.0 es are.forest root.1 apart are.roots.1);
      differ = are.differ.1;
      known = subst (λ rows. AllByRecursion (λ f. is_loose rows s.links f ≡ true → among f ≡ true) es) named (known_left among s.entities s.links root.0 es are.forest root.1 own are.roots.1 are.known.1);
    } in
    subst (λ rows. AreLooseAmong among rows (tree_removed s e).links es) (sym after.0) (subst (λ ls. AreLooseAmong among kept ls es) (sym after.1) here)

pub known_closed : (among : ℕ → Bool) (s : State) (e : ℕ) (es : List ℕ) → AreLooseAmong among s.entities s.links (e ∷ es) → AreLooseAmong among (close_root e s).entities (close_root e s).links es
known_closed among s e es are =
    cond_both (is_loose s.entities s.links e) (tree_removed s e) s (λ (t : State). AreLooseAmong among t.entities t.links es)
    (λ loose. known_gone among s e es are loose)
    (λ held. record { forest = are.forest; roots = are.roots.1; differ = are.differ.1; known = are.known.1 })

kept_one : (among : ℕ → Bool) (e : ℕ) (es : List ℕ) → among e ≡ true → e ∷ filter among es ≡ filter among (e ∷ es)
kept_one among e es mine = rw mine refl

not_loose : (b t : Bool) → (b ≡ true → t ≡ true) → t ≡ false → b ≡ false
not_loose true t known is = sym (known refl) ∙ is
not_loose false t known is = refl

pub roots_skipped : (among : ℕ → Bool) (es : List ℕ) (s : State) → AreLooseAmong among s.entities s.links es → close_roots es s ≡ close_roots (filter among es) s
roots_skipped among [] s are = refl
roots_skipped among (e ∷ es) s are = elim (cases_Bool (among e)) [
  | inl mine ↦ roots_skipped among es (close_root e s) (known_closed among s e es are) ∙ ap (λ more. close_roots more s) (kept_one among e es mine)
  | inr other ↦
      let held : is_loose s.entities s.links e ≡ false = not_loose (is_loose s.entities s.links e) (among e) are.known.0 other in
      rw (other, held) (roots_skipped among es s (record { forest = are.forest; roots = are.roots.1; differ = are.differ.1; known = are.known.1 }))
]

pub roots_silent : (among : ℕ → Bool) (es : List ℕ) (s : State) → AreLooseAmong among s.entities s.links es → lines_of_roots es s ≡ lines_of_roots (filter among es) s
roots_silent among [] s are = refl
roots_silent among (e ∷ es) s are = elim (cases_Bool (among e)) [
  | inl mine ↦ ap (λ more. lines_of_root e s ++ more) (roots_silent among es (close_root e s) (known_closed among s e es are)) ∙ ap (λ more. lines_of_roots more s) (kept_one among e es mine)
  | inr other ↦
      let held : is_loose s.entities s.links e ≡ false = not_loose (is_loose s.entities s.links e) (among e) are.known.0 other in
      rw (other, held) (roots_silent among es s (record { forest = are.forest; roots = are.roots.1; differ = are.differ.1; known = are.known.1 }))
]

-- more may be known than what is loose
pub known_more : (among more : ℕ → Bool) (rows : List Entity) (links : List Link) (es : List ℕ) → ((e : ℕ) → IsIn e es → among e ≡ true → more e ≡ true) → AreLooseAmong among rows links es → AreLooseAmong more rows links es
known_more among more rows links es all are = record { forest = are.forest; roots = are.roots; differ = are.differ; known = by es all are.known }
  where
    by : (some : List ℕ) → ((e : ℕ) → IsIn e some → among e ≡ true → more e ≡ true) → AllByRecursion (λ e. is_loose rows links e ≡ true → among e ≡ true) some → AllByRecursion (λ e. is_loose rows links e ≡ true → more e ≡ true) some
    by [] each known = tt
    by (e ∷ rest) each known = ((λ loose. each e (inl refl) (known.0 loose)), by rest (λ x is. each x (inr is)) known.1)
