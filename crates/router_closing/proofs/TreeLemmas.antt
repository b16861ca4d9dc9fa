-- Whether a service has a tree after changes.
use Rattle.std.proofs.Common.{◌≡◌, ℕ, ◌+◌, ◌<◌, ◌==◌, ◌⊎◌, Bool, true, false, not, List, [], ◌∷◌, ◌++◌, flat_map, refl, sym, ◌∙◌, ap, subst, inl, inr, arith}
use Rattle.std.specs.Prelude.{◌||◌, ◌&&◌}
use Rattle.std.specs.List.{list_any}
use Rattle.std.proofs.lemmas.Bool.{cases_Bool, and_parts, cond_both, not-true, or_cases}
use Rattle.std.proofs.lemmas.Bool.Decides.{nat_tests}
use Rattle.router_state.specs.State.{State}
use Rattle.router_state.specs.Changes.{after_change, after_changes}
use Rattle.router_state.specs.Closed.{has_tree}
use Rattle.router_state.specs.Ordered.{IsOrdered}
use Rattle.router_state.specs.Trees.{has_priority, is_root_of, parent_in, with_priority}
use Rattle.router_state.specs.declared.change.Change.{Change}
use Rattle.router_state.specs.declared.change.Change.TheVariants as changes
use Rattle.router_state.specs.declared.rows.Entity.{Entity}
use Rattle.router_state.specs.declared.rows.Stem.{Stem}
use Rattle.router_state.specs.declared.rows.Stem.TheVariants as stems
use Rattle.router_laws.specs.Forest.{IsIn}
use Rattle.router_laws.proofs.ForestLemmas.{in_either, in_left}
use Rattle.router_laws.proofs.ListRules.{in_filter}
use Rattle.router_laws_closing.specs.Keeping.{AllKeepTrees}
use Rattle.router_laws_closing.specs.Loose.{IsForest, IsNumbered, is_member}
use Rattle.router_laws_closing.specs.TouchedRoots.{stands}
use Rattle.router_laws_closing.proofs.FreedLemmas.{numbered_after, once_in, only_one, prior_in, prior_number}
use Rattle.router_laws_closing.proofs.IdleLemmas.{or_left, or_right}
use Rattle.router_laws_closing.proofs.LooseLemmas.{still_in, was_in}
use Rattle.router_laws_closing.proofs.MemberLemmas.{some_passes}
use Rattle.router_laws_closing.proofs.TouchedRootLemmas.{numbered_through, ordered_through, root_at, stands_from}
use Rattle.router_closing.specs.Services.{has_new_root, makes, makes_root, removed_by}
use Rattle.router_closing.proofs.UseLemmas.{both_or_none, passes_some}

-- priorities change no stem

prior_stem : (e : ℕ) (priority : _) (row : Entity) → (has_priority e priority row).stem ≡ row.stem
prior_stem e priority row = cond_both (row.number.0 == e) (record row { priority = priority }) row (λ r. r.stem ≡ row.stem) (λ _. refl) (λ _. refl)

prior_there : (e : ℕ) (priority : _) (rows : List Entity) (row : Entity) → IsIn row rows → IsIn (has_priority e priority row) (with_priority rows e priority)
prior_there e priority [] row is = elim is [ ]
prior_there e priority (x ∷ xs) row (inl same) = inl (ap (has_priority e priority) same)
prior_there e priority (x ∷ xs) row (inr more) = inr (prior_there e priority xs row more)

next_made : (c : Change) (s : State) → (after_change c s).next_entity ≡ s.next_entity + makes c
next_made (changes.CreateRoot block service priority) s = refl
next_made (changes.CreateChild parent relation block priority) s = refl
next_made _ s = omega arith

-- a root that is there was there and stays, or is made

abbrev WasRoot : ℕ → List Entity → List ℕ → ℕ → Type 0
WasRoot n rows gone m = (old : Entity) × IsIn old rows × (old.number.0 ≡ m) × (is_root_of n old.stem ≡ true) × (is_member gone m ≡ false)

root_stem : (stem : Stem) (n : ℕ) → is_root_of n stem ≡ true → parent_in stem ≡ 0
root_stem (stems.Root own) n is = refl
root_stem (stems.Child parent relation) n is = absurd (cc)

from_change : (n : ℕ) (rows : List Entity) → IsForest rows → (c : Change) (cs : List Change) (u : State) (row : Entity) → IsIn row rows → is_root_of n row.stem ≡ true → WasRoot n (after_change c u).entities (flat_map removed_by cs) row.number.0
    → WasRoot n u.entities (flat_map removed_by (c ∷ cs)) row.number.0 ⊎ ((makes_root n c && stands rows u.next_entity) ≡ true)
from_change n rows forest (changes.CreateRoot block service priority) cs u row is rooted was =
    let new : Entity = record { number = record { 0 = u.next_entity }; block = block; stem = stems.Root service; priority = priority } in
    elim (in_either was.0 u.entities (new ∷ []) was.1) [
      | inl old ↦ inl (was.0, old, was.2, was.3, was.4)
      | inr fresh ↦
          let same : was.0 ≡ new = only_one was.0 new fresh in
          let own : (service == n) ≡ true = ap (λ (x : Entity). is_root_of n x.stem) (sym same) ∙ was.3 in
          let number : row.number.0 ≡ u.next_entity = sym was.2 ∙ ap (λ (x : Entity). x.number.0) same in
          let there : stands rows u.next_entity ≡ true = stands_from rows forest u.next_entity (row, is, number, root_stem row.stem n rooted) in
          inr (rw own there)
    ]
from_change n rows forest (changes.CreateChild parent relation block priority) cs u row is rooted was =
    let new : Entity = record { number = record { 0 = u.next_entity }; block = block; stem = stems.Child parent relation; priority = priority } in
    elim (in_either was.0 u.entities (new ∷ []) was.1) [
      | inl old ↦ inl (was.0, old, was.2, was.3, was.4)
      | inr fresh ↦
          let wrong : false ≡ true = ap (λ (x : Entity). is_root_of n x.stem) (sym (only_one was.0 new fresh)) ∙ was.3 in
          absurd (cc)
    ]
from_change n rows forest (changes.Remove e) cs u row is rooted was =
    let kept = in_filter (λ (x : Entity). not (x.number.0 == e.0)) was.0 u.entities was.1 in
    let stays : (e.0 == row.number.0) ≡ false = other was.0.number.0 e.0 row.number.0 was.2 kept.1 in
    inl (was.0, kept.0, was.2, was.3, rw stays was.4)
  where
    other : (a b c : ℕ) → a ≡ c → not (a == b) ≡ true → (b == c) ≡ false
    other a b c same kept = grind (arith, nat_tests)
from_change n rows forest (changes.SetPriority e priority) cs u row is rooted was =
    let found = prior_in e.0 priority u.entities was.0 was.1 in
    inl (found.0, found.1, sym (prior_number e.0 priority found.0) ∙ sym (ap (λ (x : Entity). x.number.0) found.2) ∙ was.2, ap (is_root_of n) (sym (prior_stem e.0 priority found.0) ∙ sym (ap (λ (x : Entity). x.stem) found.2)) ∙ was.3, was.4)
from_change n rows forest _ cs u row is rooted was = inl was

from_step : (n : ℕ) (rows : List Entity) → IsForest rows → (cs : List Change) (u : State) (row : Entity) → (after_changes cs u).entities ≡ rows → IsIn row rows → is_root_of n row.stem ≡ true
    → WasRoot n u.entities (flat_map removed_by cs) row.number.0 ⊎ (has_new_root rows n u.next_entity cs ≡ true)
from_step n rows forest [] u row same is rooted = inl (row, subst (λ rs. IsIn row rs) (sym same) is, refl, rooted, refl)
from_step n rows forest (c ∷ cs) u row same is rooted = elim (from_step n rows forest cs (after_change c u) row same is rooted) [
  | inr later ↦ inr (or_right (makes_root n c && stands rows u.next_entity) (has_new_root rows n (u.next_entity + makes c) cs) (ap (λ next. has_new_root rows n next cs) (sym (next_made c u)) ∙ later))
  | inl was ↦ (elim (from_change n rows forest c cs u row is rooted was) [
    | inl before ↦ inl before
    | inr made ↦ inr (or_left (makes_root n c && stands rows u.next_entity) (has_new_root rows n (u.next_entity + makes c) cs) made)
  ])
]

-- what was there stays where it isn't removed

abbrev Stays : ℕ → List Entity → ℕ → Type 0
Stays n rows m = (row : Entity) × IsIn row rows × (row.number.0 ≡ m) × (is_root_of n row.stem ≡ true)

stays_after : (n m : ℕ) (c : Change) (u : State) → is_member (removed_by c) m ≡ false → Stays n u.entities m → Stays n (after_change c u).entities m
stays_after n m (changes.CreateRoot block service priority) u kept stays = (stays.0, in_left stays.0 u.entities _ stays.1, stays.2, stays.3)
stays_after n m (changes.CreateChild parent relation block priority) u kept stays = (stays.0, in_left stays.0 u.entities _ stays.1, stays.2, stays.3)
stays_after n m (changes.Remove e) u kept stays =
    (stays.0, still_in (λ (row : Entity). not (row.number.0 == e.0)) u.entities stays.0 stays.1 (other stays.0.number.0 e.0 m stays.2 (plain (e.0 == m) kept)), stays.2, stays.3)
  where
    other : (a b c : ℕ) → a ≡ c → (b == c) ≡ false → not (a == b) ≡ true
    other a b c same kept = grind (arith, nat_tests)

    plain : (b : Bool) → (b || false) ≡ false → b ≡ false
    plain true is = is
    plain false is = refl
stays_after n m (changes.SetPriority e priority) u kept stays =
    (has_priority e.0 priority stays.0, prior_there e.0 priority u.entities stays.0 stays.1, prior_number e.0 priority stays.0 ∙ stays.2, ap (is_root_of n) (prior_stem e.0 priority stays.0) ∙ stays.3)
stays_after n m _ u kept stays = stays

either_gone : (xs ys : List ℕ) (m : ℕ) → is_member (xs ++ ys) m ≡ false → (is_member xs m ≡ false) × (is_member ys m ≡ false)
either_gone [] ys m none = (refl, none)
either_gone (x ∷ xs) ys m none = elim (cases_Bool (x == m)) [
  | inl own ↦ let wrong : true ≡ false = rw own at none in absurd (cc)
  | inr other ↦ let rest = either_gone xs ys m (rw other at none) in (rw other rest.0, rest.1)
]

stays_through : (n m : ℕ) (cs : List Change) (u : State) → is_member (flat_map removed_by cs) m ≡ false → Stays n u.entities m → Stays n (after_changes cs u).entities m
stays_through n m [] u kept stays = stays
stays_through n m (c ∷ cs) u kept stays =
    let parts = either_gone (removed_by c) (flat_map removed_by cs) m kept in
    stays_through n m cs (after_change c u) parts.1 (stays_after n m c u parts.0 stays)

-- what is made has its stem as long as it is there

abbrev AreOf : ℕ → ℕ → List Entity → Type 0
AreOf n m rows = (row : Entity) → IsIn row rows → row.number.0 ≡ m → is_root_of n row.stem ≡ true

of_after : (n m : ℕ) (c : Change) (u : State) → m < u.next_entity → AreOf n m u.entities → AreOf n m (after_change c u).entities
of_after n m (changes.CreateRoot block service priority) u low are = λ row is number.
    elim (in_either row u.entities (record { number = record { 0 = u.next_entity }; block = block; stem = stems.Root service; priority = priority } ∷ []) is) [
      | inl old ↦ are row old number
      | inr fresh ↦ let same : row.number.0 ≡ u.next_entity = ap (λ (x : Entity). x.number.0) (only_one row _ fresh) in absurd (omega (arith, low, same, number))
    ]
of_after n m (changes.CreateChild parent relation block priority) u low are = λ row is number.
    elim (in_either row u.entities (record { number = record { 0 = u.next_entity }; block = block; stem = stems.Child parent relation; priority = priority } ∷ []) is) [
      | inl old ↦ are row old number
      | inr fresh ↦ let same : row.number.0 ≡ u.next_entity = ap (λ (x : Entity). x.number.0) (only_one row _ fresh) in absurd (omega (arith, low, same, number))
    ]
of_after n m (changes.Remove e) u low are = λ row is number. are row (was_in (λ (x : Entity). not (x.number.0 == e.0)) u.entities row is) number
of_after n m (changes.SetPriority e priority) u low are = λ row is number.
    let found = prior_in e.0 priority u.entities row is in
    ap (λ (x : Entity). is_root_of n x.stem) found.2 ∙ ap (is_root_of n) (prior_stem e.0 priority found.0) ∙ are found.0 found.1 (sym (prior_number e.0 priority found.0) ∙ sym (ap (λ (x : Entity). x.number.0) found.2) ∙ number)
of_after n m _ u low are = are

of_through : (n m : ℕ) (cs : List Change) (u : State) → m < u.next_entity → AreOf n m u.entities → AreOf n m (after_changes cs u).entities
of_through n m [] u low are = are
of_through n m (c ∷ cs) u low are = of_through n m cs (after_change c u) (omega (arith, low, next_made c u)) (of_after n m c u low are)

new_of : (n : ℕ) (c : Change) (u : State) → IsNumbered u → makes_root n c ≡ true → AreOf n u.next_entity (after_change c u).entities × (u.next_entity < (after_change c u).next_entity)
new_of n (changes.CreateRoot block service priority) u numbered own = (
  (λ row is number. elim (in_either row u.entities (record { number = record { 0 = u.next_entity }; block = block; stem = stems.Root service; priority = priority } ∷ []) is) [
    | inl old ↦ let low = numbered.drawn row old in absurd (omega (arith, low, number))
    | inr fresh ↦ ap (λ (x : Entity). is_root_of n x.stem) (only_one row _ fresh) ∙ own
  ]),
  omega arith,
)
new_of n _ u numbered own = absurd (cc)

tree_of_new : (n : ℕ) (cs : List Change) (u : State) (rows : List Entity) → IsNumbered u → AllKeepTrees cs u → (after_changes cs u).entities ≡ rows → has_new_root rows n u.next_entity cs ≡ true → has_tree rows n ≡ true
tree_of_new n [] u rows numbered keep same is = absurd (cc)
tree_of_new n (c ∷ cs) u rows numbered keep same is = elim (cases_Bool (makes_root n c && stands rows u.next_entity)) [
  | inl made ↦
      let parts = and_parts (makes_root n c) (stands rows u.next_entity) made in
      let new = new_of n c u numbered parts.0 in
      let root = root_at rows u.next_entity parts.1 in
      let all = of_through n u.next_entity cs (after_change c u) new.1 new.0 in
      passes_some (λ (row : Entity). is_root_of n row.stem) root.0 rows root.1 (all root.0 (subst (λ rs. IsIn root.0 rs) (sym same) root.1) root.2)
  | inr other ↦
      tree_of_new n cs (after_change c u) rows (numbered_after c u keep.0 numbered) keep.1 same (ap (λ next. has_new_root rows n next cs) (next_made c u) ∙ rw other at is)
]

-- a service has a tree where a root of it stayed, or a new one stands

abbrev stayed : ℕ → List ℕ → Entity → Bool
stayed n gone row = is_root_of n row.stem && not (is_member gone row.number.0)

pub tree_is : (cs : List Change) (s : State) (n : ℕ) (gone : List ℕ) → IsOrdered s → IsNumbered s → AllKeepTrees cs s → ((m : ℕ) → is_member gone m ≡ is_member (flat_map removed_by cs) m)
    → (list_any (λ (row : Entity). is_root_of n row.stem && not (is_member gone row.number.0)) s.entities || has_new_root (after_changes cs s).entities n s.next_entity cs) ≡ has_tree (after_changes cs s).entities n
tree_is cs s n gone order numbered keep have =
    let t = after_changes cs s in
    let last = ordered_through cs s order in
    let forest : IsForest t.entities = record { below = (numbered_through cs s numbered keep).below; once = once_in t.entities last.entities } in
    both_or_none (list_any (stayed n gone) s.entities || has_new_root t.entities n s.next_entity cs) (has_tree t.entities n)
    (λ some. elim (or_cases (list_any (stayed n gone) s.entities) (has_new_root t.entities n s.next_entity cs) some) [
      | inl old ↦
          let found = some_passes (stayed n gone) s.entities old in
          let parts = and_parts (is_root_of n found.0.stem) (not (is_member gone found.0.number.0)) found.2 in
          let kept : is_member (flat_map removed_by cs) found.0.number.0 ≡ false = sym (have found.0.number.0) ∙ not-true (is_member gone found.0.number.0) parts.1 in
          let stays = stays_through n found.0.number.0 cs s kept (found.0, found.1, refl, parts.0) in
          passes_some (λ (row : Entity). is_root_of n row.stem) stays.0 t.entities stays.1 stays.3
      | inr new ↦ tree_of_new n cs s t.entities numbered keep refl new
    ])
    (λ some.
    let found = some_passes (λ (row : Entity). is_root_of n row.stem) t.entities some in
    elim (from_step n t.entities forest cs s found.0 refl found.1 found.2) [
      | inl was ↦
          let kept : not (is_member gone was.0.number.0) ≡ true = ap not (ap (is_member gone) was.2 ∙ have found.0.number.0 ∙ was.4) in
          or_left (list_any (stayed n gone) s.entities) (has_new_root t.entities n s.next_entity cs) (passes_some (stayed n gone) was.0 s.entities was.1 (rw (was.3, kept) refl))
      | inr new ↦ or_right (list_any (stayed n gone) s.entities) (has_new_root t.entities n s.next_entity cs) new
    ])
