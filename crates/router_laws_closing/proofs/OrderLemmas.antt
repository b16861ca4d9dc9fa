-- A tree goes in order: nothing is below an entity when its turn comes.
use Rattle.std.proofs.Common.{◌≡◌, ℕ, zero, suc, ◌<◌, ◌==◌, inl, inr, true, false, Bool, List, [], ◌∷◌, ◌++◌, filter, flat_map, refl, ◌∙◌, ap, subst, arith, if◌then◌else◌}
use Rattle.std.specs.Prelude.{not, ◌||◌, ◌&&◌}
use Rattle.std.specs.List.{list_any}
use Rattle.std.proofs.lemmas.Bool.{cases_Bool}
use Rattle.std.proofs.lemmas.Bool.Decides.{nat_tests}
use Rattle.router_state.specs.State.{State}
use Rattle.router_state.specs.Contexts.{is_link}
use Rattle.router_state.specs.Fitting.{is_childless, is_detached}
use Rattle.router_state.specs.Changes.{after_change, after_changes}
use Rattle.router_state.specs.Trees.{parent_of, tree}
use Rattle.router_state.specs.declared.change.Change.{Change}
use Rattle.router_state.specs.declared.change.Change.TheVariants as changes
use Rattle.router_state.specs.declared.rows.Entity.{Entity}
use Rattle.router_state.specs.declared.rows.Link.{Link}
use Rattle.router_steps.specs.Going.{changes_of_removal}
use Rattle.router_steps.specs.Moves.{changes_of_detaching}
use Rattle.router_laws.proofs.ForestLemmas.{above_child, in_branches, tree_top}
use Rattle.router_laws_closing.proofs.LooseLemmas.{number_same}
use Rattle.router_laws.specs.Forest.{IsIn, AreBelowChildren, above}
use Rattle.router_laws_closing.specs.Keeping.{KeepsTrees, AllKeepTrees}

-- each of these, when its turn comes, has no child but those that were seen before
abbrev pub Bare : List Entity → List ℕ → List ℕ → Type 0
Bare rows seen [] = Unit {0}
Bare rows seen (m ∷ es) = ((c : Entity) → IsIn c rows → parent_of c ≡ m → IsIn c.number.0 seen) × Bare rows (m ∷ seen) es

-- what was seen behind these
abbrev behind : List ℕ → List ℕ → List ℕ
behind [] seen = seen
behind (m ∷ es) seen = behind es (m ∷ seen)

seen_before : (es seen : List ℕ) (m : ℕ) → IsIn m seen → IsIn m (behind es seen)
seen_before [] seen m is = is
seen_before (e ∷ es) seen m is = seen_before es (e ∷ seen) m (inr is)

seen_here : (es seen : List ℕ) (m : ℕ) → IsIn m es → IsIn m (behind es seen)
seen_here [] seen m is = elim is [ ]
seen_here (e ∷ es) seen m (inl same) = seen_before es (e ∷ seen) m (inl same)
seen_here (e ∷ es) seen m (inr more) = seen_here es (e ∷ seen) m more

bare_joined : (rows : List Entity) (xs ys seen : List ℕ) → Bare rows seen xs → Bare rows (behind xs seen) ys → Bare rows seen (xs ++ ys)
bare_joined rows [] ys seen one two = two
bare_joined rows (x ∷ xs) ys seen one two = (one.0, bare_joined rows xs ys (x ∷ seen) one.1 two)

bare_branches : (k : ℕ) (rows : List Entity) (e : ℕ) → ((row : Entity) → IsIn row rows → parent_of row ≡ e → (seen : List ℕ) → Bare rows seen (tree k rows row.number.0)) → (some : List Entity) → ((row : Entity) → IsIn row some → IsIn row rows)
    → (seen : List ℕ) → Bare rows seen (flat_map (λ row. if parent_of row == e then tree k rows row.number.0 else []) some)
bare_branches k rows e each [] part seen = tt
bare_branches k rows e each (r ∷ rs) part seen = elim (cases_Bool (parent_of r == e)) [
  | inl own ↦
      rw own (bare_joined rows (tree k rows r.number.0) (flat_map (λ row. if parent_of row == e then tree k rows row.number.0 else []) rs) seen
      (each r (part r (inl refl)) (number_same (parent_of r) e own) seen)
      (bare_branches k rows e each rs (λ row is. part row (inr is)) (behind (tree k rows r.number.0) seen)))
  | inr other ↦ rw other (bare_branches k rows e each rs (λ row is. part row (inr is)) seen)
]

pub bare_tree : (k : ℕ) (rows : List Entity) (e : ℕ) (seen : List ℕ) → AreBelowChildren rows → above rows e < k → Bare rows seen (tree k rows e)
bare_tree zero rows e seen below fits = absurd (omega (arith, fits))
bare_tree (suc k) rows e seen below fits =
    let branches = flat_map (λ (row : Entity). if parent_of row == e then tree k rows row.number.0 else []) rows in
    let less : (row : Entity) → IsIn row rows → parent_of row ≡ e → above rows row.number.0 < k = λ row is mine.
    let low = below row is in
    let higher = above_child rows e row is (omega (arith, low, mine)) in omega (arith, higher, fits) in
    bare_joined rows branches (e ∷ []) seen
    (bare_branches k rows e (λ row is mine more. bare_tree k rows row.number.0 more below (less row is mine)) rows (λ row is. is) seen) (
      (λ c is mine.
          let some = less c is mine in
          seen_here branches seen c.number.0 (in_branches k rows rows e c.number.0 c is mine (tree_top k rows c.number.0 (omega (arith, some))))),
      tt,
    )

-- attachments that are cut, one after another

pub keep_both : (cs ds : List Change) (s : State) → AllKeepTrees cs s → AllKeepTrees ds (after_changes cs s) → AllKeepTrees (cs ++ ds) s
keep_both [] ds s one two = two
keep_both (c ∷ cs) ds s one two = (one.0, keep_both cs ds (after_change c s) one.1 two)

abbrev pub cuts : List Link → List Change
cuts ls = flat_map changes_of_detaching ls

cuts_keep : (ls : List Link) (s : State) → AllKeepTrees (cuts ls) s
cuts_keep [] s = tt
cuts_keep (l ∷ ls) s = (refl, (refl, cuts_keep ls (after_changes (changes_of_detaching l) s)))

pub cut_entities : (ls : List Link) (s : State) → (after_changes (cuts ls) s).entities ≡ s.entities
cut_entities [] s = refl
cut_entities (l ∷ ls) s = cut_entities ls (after_changes (changes_of_detaching l) s)

pub cut_activities : (ls : List Link) (s : State) → (after_changes (cuts ls) s).activities ≡ s.activities
cut_activities [] s = refl
cut_activities (l ∷ ls) s = cut_activities ls (after_changes (changes_of_detaching l) s)

abbrev is_cut : List Link → Link → Bool
is_cut ls l = list_any (λ (k : Link). is_link k.entity.0 k.activity.0 l) ls

any_left : {X : Type 0} (q p : X → Bool) (xs : List X) → list_any q (filter p xs) ≡ list_any (λ x. p x && q x) xs
any_left q p [] = refl
any_left q p (x ∷ xs) = elim (cases_Bool (p x)) [
  | inl goes ↦ rw goes (ap (λ more. q x || more) (any_left q p xs))
  | inr stays ↦ rw stays (any_left q p xs)
]

any_same : {X : Type 0} (p q : X → Bool) → ((x : X) → p x ≡ q x) → (xs : List X) → list_any p xs ≡ list_any q xs
any_same p q same [] = refl
any_same p q same (x ∷ xs) = rw (same x) (ap (λ more. q x || more) (any_same p q same xs))

regroup : (one mine rest : Bool) → (not one && (mine && not rest)) ≡ (mine && not (one || rest))
regroup true true rest = refl
regroup true false rest = refl
regroup false true rest = refl
regroup false false rest = refl

-- where all attachments of the entity are cut, none is left
cut_links : (m : ℕ) (ls : List Link) (s : State) → list_any (λ (l : Link). (l.entity.0 == m) && not (is_cut ls l)) s.links ≡ false → list_any (λ (l : Link). l.entity.0 == m) (after_changes (cuts ls) s).links ≡ false
cut_links m [] s none = any_same (λ (l : Link). l.entity.0 == m) (λ l. (l.entity.0 == m) && true) (λ l. by (l.entity.0 == m)) s.links ∙ none
  where
    by : (b : Bool) → b ≡ (b && true)
    by true = refl
    by false = refl
cut_links m (k ∷ ks) s none =
    cut_links m ks (after_changes (changes_of_detaching k) s)
    (any_left (λ (l : Link). (l.entity.0 == m) && not (is_cut ks l)) (λ (l : Link). not (is_link k.entity.0 k.activity.0 l)) s.links
    ∙ any_same (λ (l : Link). not (is_link k.entity.0 k.activity.0 l) && ((l.entity.0 == m) && not (is_cut ks l))) (λ l. (l.entity.0 == m) && not (is_cut (k ∷ ks) l))
    (λ l. regroup (is_link k.entity.0 k.activity.0 l) (l.entity.0 == m) (is_cut ks l)) s.links
    ∙ none)

link_itself : (l : Link) → is_link l.entity.0 l.activity.0 l ≡ true
link_itself l = grind (arith, nat_tests)

own_cut : (m : ℕ) (links : List Link) (l : Link) → IsIn l links → (l.entity.0 == m) ≡ true → is_cut (filter (λ (k : Link). k.entity.0 == m) links) l ≡ true
own_cut m [] l is own = elim is [ ]
own_cut m (k ∷ ks) l (inl same) own =
    let mine : (k.entity.0 == m) ≡ true = subst (λ (x : Link). (x.entity.0 == m) ≡ true) same own in
    let here : is_link k.entity.0 k.activity.0 l ≡ true = subst (λ (x : Link). is_link x.entity.0 x.activity.0 l ≡ true) same (link_itself l) in
    rw (mine, here) refl
own_cut m (k ∷ ks) l (inr more) own = elim (cases_Bool (k.entity.0 == m)) [
  | inl mine ↦ rw mine (by (is_link k.entity.0 k.activity.0 l) (own_cut m ks l more own))
  | inr other ↦ rw other (own_cut m ks l more own)
]
  where
    by : (b : Bool) {c : Bool} → c ≡ true → (b || c) ≡ true
    by true is = refl
    by false is = is

all_cut : (m : ℕ) (links some : List Link) → ((l : Link) → IsIn l some → IsIn l links) → list_any (λ (l : Link). (l.entity.0 == m) && not (is_cut (filter (λ (k : Link). k.entity.0 == m) links) l)) some ≡ false
all_cut m links [] part = refl
all_cut m links (l ∷ ls) part = elim (cases_Bool (l.entity.0 == m)) [
  | inl own ↦ let gone = own_cut m links l (part l (inl refl)) own in rw (own, gone) (all_cut m links ls (λ k is. part k (inr is)))
  | inr other ↦ rw other (all_cut m links ls (λ k is. part k (inr is)))
]

-- an entity goes that has no child
pub removal_keeps : (m : ℕ) (s : State) → is_childless s.entities m ≡ true → AllKeepTrees (changes_of_removal s m) s
removal_keeps m s bare =
    let ls = filter (λ (l : Link). l.entity.0 == m) s.links in
    let t = after_changes (cuts ls) s in
    let none : list_any (λ (l : Link). l.entity.0 == m) t.links ≡ false = cut_links m ls s (all_cut m s.links s.links (λ l is. is)) in
    let childless : is_childless t.entities m ≡ true = ap (λ rows. is_childless rows m) (cut_entities ls s) ∙ bare in
    let detached : is_detached t.links m ≡ true = ap not none in
    let last : KeepsTrees (changes.Remove (record { 0 = m })) (after_change (changes.ForgetFields (record { 0 = m })) t) = rw (childless, detached) refl in
    keep_both (cuts ls) (changes.ForgetFields (record { 0 = m }) ∷ changes.Remove (record { 0 = m }) ∷ []) s (cuts_keep ls s) (refl, (last, tt))
