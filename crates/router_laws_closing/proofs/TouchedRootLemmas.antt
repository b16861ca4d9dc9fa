-- Closing looks at touched roots alone.
use Rattle.std.proofs.Common.{◌≡◌, ℕ, ◌<◌, ◌≤◌, ◌==◌, ◌⊎◌, inl, inr, Bool, true, false, List, [], ◌∷◌, ◌++◌, filter, flat_map, map, refl, sym, ◌∙◌, ap, subst, arith, nat_lt, Some}
use Rattle.std.specs.Prelude.{not, ◌&&◌}
use Rattle.std.specs.List.{AllByRecursion}
use Rattle.std.proofs.lemmas.Bool.{cases_Bool, and_parts}
use Rattle.std.proofs.lemmas.Bool.Decides.{nat_tests}
use Rattle.rows_sorted.specs.Orders.{rises_by, rises_in}
use Rattle.router_state.specs.State.{State}
use Rattle.router_state.specs.Changes.{after_change, after_changes}
use Rattle.router_state.specs.Closed.{is_loose}
use Rattle.router_state.specs.Contexts.{links_on, link_before, is_link}
use Rattle.router_state.specs.Ordered.{IsOrdered}
use Rattle.router_state.specs.Trees.{children, entity_at, number_of, parent_of, roots, tree_of}
use Rattle.router_state.specs.Well.{IsClosed}
use Rattle.router_state.specs.declared.change.Change.{Change}
use Rattle.router_state.specs.declared.change.Change.TheVariants as changes
use Rattle.router_state.specs.declared.rows.Entity.{Entity}
use Rattle.router_state.specs.declared.rows.Link.{Link}
use Rattle.router_state.specs.declared.rows.Stem.TheVariants as stems
use Rattle.router_laws.specs.Forest.{IsIn, AreBelowChildren}
use Rattle.router_laws.proofs.ForestLemmas.{in_either, in_left, in_right}
use Rattle.router_laws.proofs.ListRules.{in_filter, filter_in}
use Rattle.router_laws.proofs.OrderedLemmas.{ordered_after}
use Rattle.router_laws.proofs.RisingLemmas.{Joins, filter_rises}
use Rattle.router_steps.specs.Closing.{close_root, close_roots, lines_of_root, lines_of_roots}
use Rattle.router_laws.proofs.ListRules.{all_filter}
use Rattle.router_laws_closing.specs.Keeping.{AllKeepTrees, KeepsTrees}
use Rattle.router_laws_closing.specs.Loose.{AreLooseAmong, DoDiffer, IsForest, IsNumbered, IsRoot, frees, freed_by, is_member}
use Rattle.router_laws_closing.proofs.AboveLemmas.{found_once}
use Rattle.router_laws_closing.proofs.ClosedLemmas.{list_of_root, root_of_list}
use Rattle.router_laws_closing.proofs.MeetingLemmas.{rising_meet}
use Rattle.router_laws_closing.proofs.RootLemmas.{known_closed, known_more, roots_silent, roots_skipped}
use Rattle.router_laws_closing.proofs.FreedLemmas.{only_freed, numbered_after, once_in, only_one, prior_in, prior_number, prior_parent}
use Rattle.router_laws_closing.proofs.LooseLemmas.{to_member, from_member, number_same, same_number, was_in}
use Rattle.router_laws_closing.specs.TouchedRoots.{attached_by, attached_to, births, climbed, close_standing, close_standings, cut_by, first_parent, lines_of_standing, lines_of_standings, numbers_between, stands, touched_roots}
use Rattle.router_laws_closing.proofs.ParentLemmas.{AreParents, AreParentsOfBorn, IsParentOfBorn, climbed_is, first_parents, parents_after}
use Rattle.router_laws_closing.proofs.MemberLemmas.{in_between, in_flat, in_map, in_put, some_passes}

-- an attachment was there before the step, or a change makes it

-- each attachment is among those that may have been
abbrev WereAttached : (ℕ → ℕ → Type 0) → List Link → Type 0
WereAttached attached links = (l : Link) → IsIn l links → attached l.entity.0 l.activity.0

-- and so is what the change attaches
abbrev IsAttachedBy : (ℕ → ℕ → Type 0) → Change → Type 0
IsAttachedBy attached (changes.Attach e a) = attached e.0 a.0
IsAttachedBy attached _ = Unit {0}

links_after : (attached : ℕ → ℕ → Type 0) (c : Change) (s : State) → IsAttachedBy attached c → WereAttached attached s.links → WereAttached attached (after_change c s).links
links_after attached (changes.Attach e a) s own all = λ l is.
    elim (in_put link_before (record { entity = record { 0 = e.0 }; activity = record { 0 = a.0 } }) l s.links is) [
      | inl same ↦ subst (λ (x : Link). attached x.entity.0 x.activity.0) (sym same) own
      | inr old ↦ all l old
    ]
links_after attached (changes.Detach e a) s own all = λ l is. all l (in_filter (λ x. not (is_link e.0 a.0 x)) l s.links is).0
links_after attached (changes.DropContext a) s own all = λ l is. all l (in_filter (λ x. not (x.activity.0 == a.0)) l s.links is).0
links_after attached _ s own all = all

attached_in : (s : State) (all : List Change) (l : Link) → IsIn l s.links → IsIn l.entity.0 (attached_to s all l.activity.0)
attached_in s all l is =
    in_left l.entity.0 (map (λ (x : Link). x.entity.0) (links_on s.links l.activity.0)) (flat_map (attached_by l.activity.0) all)
    (in_map (λ (x : Link). x.entity.0) l (links_on s.links l.activity.0) (filter_in (λ (x : Link). x.activity.0 == l.activity.0) l s.links is (same_number l.activity.0 l.activity.0 refl)))

-- what a change attaches is among these
attached_then : (s : State) (all : List Change) (c : Change) → IsIn c all → IsAttachedBy (λ e a. IsIn e (attached_to s all a)) c
attached_then s all (changes.Attach e a) is =
    in_right e.0 (map (λ (x : Link). x.entity.0) (links_on s.links a.0)) (flat_map (attached_by a.0) all)
    (in_flat (attached_by a.0) (changes.Attach e a) e.0 all is (own a.0 e.0))
  where
    own : (n m : ℕ) → IsIn m (attached_by n (changes.Attach (record { 0 = m }) (record { 0 = n })))
    own n m = rw (same_number n n refl) (inl refl)
attached_then s all _ is = tt

links_through : (s : State) (all cs : List Change) (t : State) → ((c : Change) → IsIn c cs → IsIn c all) → WereAttached (λ e a. IsIn e (attached_to s all a)) t.links → WereAttached (λ e a. IsIn e (attached_to s all a)) (after_changes cs t).links
links_through s all [] t part known = known
links_through s all (c ∷ cs) t part known =
    links_through s all cs (after_change c t) (λ d there. part d (inr there)) (links_after (λ e a. IsIn e (attached_to s all a)) c t (attached_then s all c (part c (inl refl))) known)

-- after changes an entity is attached only where it was before them, or one of them attached it
pub attached_through : (cs : List Change) (s : State) (l : Link) → IsIn l (after_changes cs s).links → IsIn l.entity.0 (attached_to s cs l.activity.0)
attached_through cs s = links_through s cs cs s (λ c there. there) (attached_in s cs)

-- a root that a change frees stands above an entity whose attachments it may cut, or is made by it

-- what is known of the parents and the attachments in the state where a change's turn comes
record IsSeen (parent : ℕ → ℕ) (attached : ℕ → ℕ → Type 0) (t : State) : Type 0 where
  numbered : IsNumbered t
  parents : AreParents parent t.entities
  links : WereAttached attached t.links

above_is : (parent : ℕ → ℕ) (rows : List Entity) (e m : ℕ) → AreBelowChildren rows → AreParents parent rows → IsRoot rows e → is_member (tree_of rows e) m ≡ true → climbed parent m m ≡ e
above_is parent rows e m below all root is =
    let there : IsIn m (tree_of rows root.0.number.0) = subst (λ (n : ℕ). IsIn m (tree_of rows n)) (sym root.2) (from_member (tree_of rows e) m is) in
    climbed_is parent rows root.0 below all root.1 root.3 m m (omega arith) there ∙ root.2

-- a root is made, or stands above
abbrev IsTouched : State → List Change → ℕ → Type 0
IsTouched s all e = IsIn e (touched_roots s all)

cut_touches : (s : State) (all : List Change) (c : Change) (m e : ℕ) → IsIn c all → IsIn m (cut_by s all c) → climbed (first_parent s (births all)) m m ≡ e → IsTouched s all e
cut_touches s all c m e is cut above =
    in_right e (numbers_between s.next_entity (after_changes all s).next_entity) (map (λ x. climbed (first_parent s (births all)) x x) (flat_map (cut_by s all) all))
    (subst (λ x. IsIn x (map (λ y. climbed (first_parent s (births all)) y y) (flat_map (cut_by s all) all))) above
    (in_map (λ x. climbed (first_parent s (births all)) x x) m (flat_map (cut_by s all) all) (in_flat (cut_by s all) c m all is cut)))

made_touches : (s : State) (all : List Change) (e : ℕ) → s.next_entity ≤ e → e < (after_changes all s).next_entity → IsTouched s all e
made_touches s all e low high =
    in_left e (numbers_between s.next_entity (after_changes all s).next_entity) (map (λ x. climbed (first_parent s (births all)) x x) (flat_map (cut_by s all) all)) (in_between s.next_entity (after_changes all s).next_entity e low high)

freed_one : (s : State) (all : List Change) (c : Change) (t : State) (e : ℕ) → IsIn c all → IsSeen (first_parent s (births all)) (λ x a. IsIn x (attached_to s all a)) t
    → s.next_entity ≤ t.next_entity → (after_change c t).next_entity ≤ (after_changes all s).next_entity → IsRoot t.entities e → frees c t e ≡ true → IsTouched s all e
freed_one s all (changes.CreateRoot block service priority) t e is seen low high root frees =
    let same = number_same t.next_entity e frees in made_touches s all e (omega (arith, low, same)) (omega (arith, high, same))
freed_one s all (changes.CreateChild parent relation block priority) t e is seen low high root frees =
    let same = number_same t.next_entity e frees in made_touches s all e (omega (arith, low, same)) (omega (arith, high, same))
freed_one s all (changes.Detach m a) t e is seen low high root frees =
    cut_touches s all (changes.Detach m a) m.0 e is (inl refl) (above_is (first_parent s (births all)) t.entities e m.0 seen.numbered.below seen.parents root frees)
freed_one s all (changes.DropContext a) t e is seen low high root frees =
    let found = some_passes (λ (l : Link). (l.activity.0 == a.0) && is_member (tree_of t.entities e) l.entity.0) t.links frees in
    let parts = and_parts (found.0.activity.0 == a.0) (is_member (tree_of t.entities e) found.0.entity.0) found.2 in
    let cut : IsIn found.0.entity.0 (attached_to s all a.0) = subst (λ (n : ℕ). IsIn found.0.entity.0 (attached_to s all n)) (number_same found.0.activity.0 a.0 parts.0) (seen.links found.0 found.1) in
    cut_touches s all (changes.DropContext a) found.0.entity.0 e is cut (above_is (first_parent s (births all)) t.entities e found.0.entity.0 seen.numbered.below seen.parents root parts.1)
freed_one s all _ t e is seen low high root frees = absurd (cc)

-- an entity that is a root after a change was one before it, or is made by it
old_root : (c : Change) (t : State) (e : ℕ) → IsRoot (after_change c t).entities e → IsRoot t.entities e ⊎ (e ≡ t.next_entity)
old_root (changes.CreateRoot block service priority) t e root = elim (in_either root.0 t.entities (record { number = record { 0 = t.next_entity }; block = block; stem = stems.Root service; priority = priority } ∷ []) root.1) [
  | inl old ↦ inl (root.0, old, root.2, root.3)
  | inr fresh ↦ inr (sym root.2 ∙ ap (λ (x : Entity). x.number.0) (only_one root.0 _ fresh))
]
old_root (changes.CreateChild parent relation block priority) t e root = elim (in_either root.0 t.entities (record { number = record { 0 = t.next_entity }; block = block; stem = stems.Child parent relation; priority = priority } ∷ []) root.1) [
  | inl old ↦ inl (root.0, old, root.2, root.3)
  | inr fresh ↦ inr (sym root.2 ∙ ap (λ (x : Entity). x.number.0) (only_one root.0 _ fresh))
]
old_root (changes.Remove e') t e root = inl (root.0, was_in (λ row. not (row.number.0 == e'.0)) t.entities root.0 root.1, root.2, root.3)
old_root (changes.SetPriority e' priority) t e root =
    let found = prior_in e'.0 priority t.entities root.0 root.1 in
    inl (found.0, found.1, sym (prior_number e'.0 priority found.0) ∙ sym (ap (λ (x : Entity). x.number.0) found.2) ∙ root.2, sym (prior_parent e'.0 priority found.0) ∙ sym (ap (λ (x : Entity). parent_of x) found.2) ∙ root.3)
old_root _ t e root = inl root

next_after : (c : Change) (t : State) → t.next_entity ≤ (after_change c t).next_entity
next_after (changes.CreateRoot block service priority) t = omega arith
next_after (changes.CreateChild parent relation block priority) t = omega arith
next_after _ t = omega arith

next_grows : (cs : List Change) (t : State) → t.next_entity ≤ (after_changes cs t).next_entity
next_grows [] t = omega arith
next_grows (c ∷ cs) t = omega (arith, next_after c t, next_grows cs (after_change c t))

root_through : (cs : List Change) (t : State) (e : ℕ) → IsRoot (after_changes cs t).entities e → IsRoot t.entities e ⊎ (t.next_entity ≤ e)
root_through [] t e root = inl root
root_through (c ∷ cs) t e root = elim (root_through cs (after_change c t) e root) [
  | inl later ↦ elim (old_root c t e later) [
    | inl before ↦ inl before
    | inr fresh ↦ inr (omega (arith, fresh))
  ]
  | inr high ↦ inr (omega (arith, high, next_after c t))
]

seen_after : (s : State) (all : List Change) (c : Change) (t : State) → IsIn c all → KeepsTrees c t → IsParentOfBorn (first_parent s (births all)) c t
    → IsSeen (first_parent s (births all)) (λ x a. IsIn x (attached_to s all a)) t → IsSeen (first_parent s (births all)) (λ x a. IsIn x (attached_to s all a)) (after_change c t)
seen_after s all c t is keeps born seen = record {
  numbered = numbered_after c t keeps seen.numbered;
  parents = parents_after (first_parent s (births all)) c t born seen.parents;
  links = links_after (λ x a. IsIn x (attached_to s all a)) c t (attached_then s all c is) seen.links;
}

pub numbered_through : (cs : List Change) (t : State) → IsNumbered t → AllKeepTrees cs t → IsNumbered (after_changes cs t)
numbered_through [] t numbered keep = numbered
numbered_through (c ∷ cs) t numbered keep = numbered_through cs (after_change c t) (numbered_after c t keep.0 numbered) keep.1

-- a root that changes freed was touched
touched_in : (s : State) (all cs : List Change) (t : State) (e : ℕ) → ((c : Change) → IsIn c cs → IsIn c all) → after_changes cs t ≡ after_changes all s
    → IsSeen (first_parent s (births all)) (λ x a. IsIn x (attached_to s all a)) t → AreParentsOfBorn (first_parent s (births all)) cs t → AllKeepTrees cs t → s.next_entity ≤ t.next_entity
    → IsRoot (after_changes cs t).entities e → freed_by cs t e ≡ true → IsTouched s all e
touched_in s all [] t e part same seen born keep low root is = absurd (cc)
touched_in s all (c ∷ cs) t e part same seen born keep low root is =
    let end : (after_changes cs (after_change c t)).next_entity ≡ (after_changes all s).next_entity = ap (λ (u : State). u.next_entity) same in
    elim (root_through (c ∷ cs) t e root) [
      | inr high ↦
          let last = numbered_through (c ∷ cs) t seen.numbered keep in
          let drawn = last.drawn root.0 root.1 in
          made_touches s all e (omega (arith, low, high)) (omega (arith, drawn, root.2, end))
      | inl before ↦ (elim (cases_Bool (frees c t e)) [
        | inl freed ↦ freed_one s all c t e (part c (inl refl)) seen low (omega (arith, next_grows cs (after_change c t), end)) before freed
        | inr still ↦
            touched_in s all cs (after_change c t) e (λ d there. part d (inr there)) same (seen_after s all c t (part c (inl refl)) keep.0 born.0 seen) born.1 keep.1 (omega (arith, low, next_after c t)) root (rw still at is)
      ])
    ]

pub ordered_through : (cs : List Change) (s : State) → IsOrdered s → IsOrdered (after_changes cs s)
ordered_through [] s order = order
ordered_through (c ∷ cs) s order = ordered_through cs (after_change c s) (ordered_after c s order)

freed_touched : (cs : List Change) (s : State) (e : ℕ) → IsOrdered s → IsNumbered s → AllKeepTrees cs s → IsRoot (after_changes cs s).entities e → freed_by cs s e ≡ true → IsTouched s cs e
freed_touched cs s e order numbered keep root is =
    let first = first_parents s cs numbered (once_in s.entities order.entities) in
    touched_in s cs cs s e (λ c there. there) refl (record { numbered = numbered; parents = first.0; links = attached_in s cs }) first.1 keep (omega arith) root is

-- closing looks at these alone

each_of : (P : ℕ → Type 0) (es : List ℕ) → AllByRecursion P es → (e : ℕ) → IsIn e es → P e
each_of P [] all e is = elim is [ ]
each_of P (f ∷ es) all e (inl same) = subst P (sym same) all.0
each_of P (f ∷ es) all e (inr more) = each_of P es all.1 e more

pub known_touched : (cs : List Change) (s : State) (ys : List ℕ) → IsClosed s → IsOrdered s → IsNumbered s → AllKeepTrees cs s → ((n : ℕ) → is_member ys n ≡ is_member (touched_roots s cs) n)
    → AreLooseAmong (is_member ys) (after_changes cs s).entities (after_changes cs s).links (roots (after_changes cs s).entities)
known_touched cs s ys closed order numbered keep have =
    let t = after_changes cs s in
    let known = only_freed cs s closed numbered keep (ordered_through cs s order).entities in
    known_more (freed_by cs s) (is_member ys) t.entities t.links (roots t.entities)
    (λ e there is. have e ∙ to_member (touched_roots s cs) e (freed_touched cs s e order numbered keep (each_of (IsRoot t.entities) (roots t.entities) known.roots e there) is))
    known

numbers_rise : (rows : List Entity) → rises_in number_of rows ≡ true → rises_by (λ (x y : ℕ). nat_lt x y) (map number_of rows) ≡ true
numbers_rise [] rises = refl
numbers_rise (x ∷ []) rises = refl
numbers_rise (x ∷ y ∷ rows) rises =
    let parts = and_parts (nat_lt x.number.0 y.number.0) (rises_in number_of (y ∷ rows)) rises in
    let more = numbers_rise (y ∷ rows) parts.1 in
    rw (parts.0, more) refl

low_joins : Joins (λ (x y : Entity). nat_lt (number_of x) (number_of y))
low_joins x y z one two = by x.number.0 y.number.0 z.number.0 one two
  where
    by : (a b c : ℕ) → nat_lt a b ≡ true → nat_lt b c ≡ true → nat_lt a c ≡ true
    by a b c one two = grind (arith, nat_tests)

roots_rise : (rows : List Entity) → rises_in number_of rows ≡ true → rises_by (λ (x y : ℕ). nat_lt x y) (roots rows) ≡ true
roots_rise rows rises = numbers_rise (children rows 0) (filter_rises (λ (x y : Entity). nat_lt (number_of x) (number_of y)) low_joins (λ row. parent_of row == 0) rows rises)

-- a number stands where it is that of a root

pub root_at : (rows : List Entity) (e : ℕ) → stands rows e ≡ true → IsRoot rows e
root_at [] e is = absurd (cc)
root_at (row ∷ rows) e is = elim (cases_Bool (row.number.0 == e)) [
  | inl own ↦ (row, inl refl, number_same row.number.0 e own, number_same (parent_of row) 0 (rw own at is))
  | inr other ↦ let found = root_at rows e (rw other at is) in (found.0, inr found.1, found.2, found.3)
]

pub stands_from : (rows : List Entity) → IsForest rows → (e : ℕ) → IsRoot rows e → stands rows e ≡ true
stands_from rows forest e root =
    let found = found_once rows root.0 forest.once root.1 in
    let there : entity_at rows e ≡ Some root.0 = ap (entity_at rows) (sym root.2) ∙ found in
    rw there (same_number (parent_of root.0) 0 root.3)

stands_is : (rows : List Entity) → IsForest rows → (e : ℕ) → stands rows e ≡ is_member (roots rows) e
stands_is rows forest e = elim (cases_Bool (stands rows e)) [
  | inl is ↦ is ∙ sym (to_member (roots rows) e (list_of_root rows e (root_at rows e is)))
  | inr isnt ↦ (elim (cases_Bool (is_member (roots rows) e)) [
    | inr other ↦ isnt ∙ sym other
    | inl own ↦ let wrong : true ≡ false = sym (stands_from rows forest e (root_of_list rows e (from_member (roots rows) e own))) ∙ isnt in absurd (cc)
  ])
]

same_filter : (p q : ℕ → Bool) → ((n : ℕ) → p n ≡ q n) → (xs : List ℕ) → filter p xs ≡ filter q xs
same_filter p q same [] = refl
same_filter p q same (x ∷ xs) = elim (cases_Bool (q x)) [
  | inl goes ↦ let mine = same x ∙ goes in rw (mine, goes) (ap (λ more. x ∷ more) (same_filter p q same xs))
  | inr stays ↦ let mine = same x ∙ stays in rw (mine, stays) (same_filter p q same xs)
]

differ_kept : (p : ℕ → Bool) (es : List ℕ) → DoDiffer es → DoDiffer (filter p es)
differ_kept p [] differ = tt
differ_kept p (e ∷ es) differ = elim (cases_Bool (p e)) [
  | inl goes ↦ rw goes (all_filter (λ f. (e == f) ≡ false) p es differ.0, differ_kept p es differ.1)
  | inr stays ↦ rw stays (differ_kept p es differ.1)
]

known_kept : (among p : ℕ → Bool) (rows : List Entity) (links : List Link) (es : List ℕ) → AreLooseAmong among rows links es → AreLooseAmong among rows links (filter p es)
known_kept among p rows links es are = record {
  forest = are.forest;
  roots = all_filter (IsRoot rows) p es are.roots;
  differ = differ_kept p es are.differ;
  known = all_filter (λ e. is_loose rows links e ≡ true → among e ≡ true) p es are.known;
}

-- roots are there when their turns come
all_stand : (among : ℕ → Bool) (es : List ℕ) (s : State) → AreLooseAmong among s.entities s.links es → close_standings es s ≡ close_roots es s
all_stand among [] s are = refl
all_stand among (e ∷ es) s are =
    let is = stands_from s.entities are.forest e are.roots.0 in
    let closed : close_standing e s ≡ close_root e s = rw is refl in
    ap (λ t. close_standings es t) closed ∙ all_stand among es (close_root e s) (known_closed among s e es are)

all_told : (among : ℕ → Bool) (es : List ℕ) (s : State) → AreLooseAmong among s.entities s.links es → lines_of_standings es s ≡ lines_of_roots es s
all_told among [] s are = refl
all_told among (e ∷ es) s are =
    let is = stands_from s.entities are.forest e are.roots.0 in
    let closed : close_standing e s ≡ close_root e s = rw is refl in
    let told : lines_of_standing e s ≡ lines_of_root e s = rw is refl in
    ap (λ lines. lines ++ lines_of_standings es (close_standing e s)) told
    ∙ ap (λ t. lines_of_root e s ++ lines_of_standings es t) closed
    ∙ ap (λ lines. lines_of_root e s ++ lines) (all_told among es (close_root e s) (known_closed among s e es are))

-- the touched roots that stand are those among all roots
touched_standing : (ys : List ℕ) (t : State) → IsOrdered t → IsForest t.entities → rises_by (λ (x y : ℕ). nat_lt x y) ys ≡ true → filter (stands t.entities) ys ≡ filter (is_member ys) (roots t.entities)
touched_standing ys t order forest rises =
    same_filter (stands t.entities) (is_member (roots t.entities)) (stands_is t.entities forest) ys ∙ sym (rising_meet (roots t.entities) ys (roots_rise t.entities order.entities) rises)

pub touched_roots_close : (cs : List Change) (s : State) (ys : List ℕ) → IsClosed s → IsOrdered s → IsNumbered s → AllKeepTrees cs s
    → rises_by (λ (x y : ℕ). nat_lt x y) ys ≡ true → ((n : ℕ) → is_member ys n ≡ is_member (touched_roots s cs) n)
    → close_standings (filter (stands (after_changes cs s).entities) ys) (after_changes cs s) ≡ close_roots (roots (after_changes cs s).entities) (after_changes cs s)
touched_roots_close cs s ys closed order numbered keep rises have =
    let t = after_changes cs s in
    let known = known_touched cs s ys closed order numbered keep have in
    ap (λ es. close_standings es t) (touched_standing ys t (ordered_through cs s order) known.forest rises)
    ∙ all_stand (is_member ys) (filter (is_member ys) (roots t.entities)) t (known_kept (is_member ys) (is_member ys) t.entities t.links (roots t.entities) known)
    ∙ sym (roots_skipped (is_member ys) (roots t.entities) t known)

pub touched_roots_tell : (cs : List Change) (s : State) (ys : List ℕ) → IsClosed s → IsOrdered s → IsNumbered s → AllKeepTrees cs s
    → rises_by (λ (x y : ℕ). nat_lt x y) ys ≡ true → ((n : ℕ) → is_member ys n ≡ is_member (touched_roots s cs) n)
    → lines_of_standings (filter (stands (after_changes cs s).entities) ys) (after_changes cs s) ≡ lines_of_roots (roots (after_changes cs s).entities) (after_changes cs s)
touched_roots_tell cs s ys closed order numbered keep rises have =
    let t = after_changes cs s in
    let known = known_touched cs s ys closed order numbered keep have in
    ap (λ es. lines_of_standings es t) (touched_standing ys t (ordered_through cs s order) known.forest rises)
    ∙ all_told (is_member ys) (filter (is_member ys) (roots t.entities)) t (known_kept (is_member ys) (is_member ys) t.entities t.links (roots t.entities) known)
    ∙ sym (roots_silent (is_member ys) (roots t.entities) t known)
