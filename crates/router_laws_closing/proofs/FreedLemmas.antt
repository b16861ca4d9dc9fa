-- Behind changes of a closed state only roots that were freed may be loose.
use Rattle.std.proofs.Common.{◌≡◌, ℕ, ℤ, zero, suc, ◌+◌, ◌<◌, ◌==◌, ◌⊎◌, inl, inr, true, false, Bool, List, [], ◌∷◌, ◌++◌, length, filter, map, flat_map, refl, sym, ◌∙◌, ap, subst, arith, if◌then◌else◌, nat_lt}
use Rattle.std.specs.Prelude.{not, ◌||◌, ◌&&◌, sum}
use Rattle.std.specs.List.{list_any, list_all, AllByRecursion}
use Rattle.std.proofs.lemmas.Bool.{cases_Bool, cond_both, and_parts, not-true}
use Rattle.std.proofs.lemmas.Bool.Decides.{nat_tests}
use Rattle.router_state.specs.State.{State}
use Rattle.router_state.specs.Closed.{is_loose}
use Rattle.router_state.specs.Fitting.{has_entity, is_childless, is_detached}
use Rattle.router_laws_closing.specs.Keeping.{KeepsTrees, AllKeepTrees}
use Rattle.rows_sorted.specs.Orders.{rises_in}
use Rattle.router_state.specs.Well.{IsClosed}
use Rattle.router_state.specs.Contexts.{is_link, link_before, with_link, without_link, without_links_on}
use Rattle.router_state.specs.Changes.{after_change, after_changes}
use Rattle.router_state.specs.Trees.{attachment_count, children, count_of, has_priority, links_of, number_of, parent_of, roots, tree, tree_of, with_priority, without_entity}
use Rattle.router_state.specs.declared.change.Change.{Change}
use Rattle.router_state.specs.declared.change.Change.TheVariants as changes
use Rattle.router_state.specs.declared.rows.Entity.{Entity}
use Rattle.router_state.specs.declared.rows.Stem.TheVariants as stems
use Rattle.router_state.specs.declared.rows.Link.{Link}
use Rattle.router_laws.proofs.ForestLemmas.{from_branches, in_either, in_left, tree_top, trees_whole}
use Rattle.router_laws.proofs.ListLemmas.{any_kept}
use Rattle.router_laws_closing.proofs.IdleLemmas.{any_more, filter_stays, or_left, or_right, put_stays}
use Rattle.router_laws_closing.proofs.LooseLemmas.{count_is_none, to_member, none_attached, number_same, same_number, some_rows, still_in, was_in}
use Rattle.router_laws.specs.Forest.{IsIn, AreBelowChildren, AreWhole}
use Rattle.router_laws_closing.specs.Loose.{AreLooseAmong, AreLooseRootsAmong, DoDiffer, IsNumbered, IsRoot, frees, freed_by, is_member}

-- nothing is attached where no attachment is found

abbrev attached_at : List Link → ℕ → Bool
attached_at links m = list_any (λ l. l.entity.0 == m) links

none_counted : (links : List Link) (m : ℕ) → attached_at links m ≡ false → links_of links m ≡ 0
none_counted [] m none = refl
none_counted (l ∷ ls) m none = elim (cases_Bool (l.entity.0 == m)) [
  | inl own ↦ let wrong : true ≡ false = rw own at none in absurd (cc)
  | inr other ↦ rw other (none_counted ls m (rw other at none))
]

none_found : (links : List Link) (m : ℕ) → links_of links m ≡ 0 → attached_at links m ≡ false
none_found [] m none = refl
none_found (l ∷ ls) m none = elim (cases_Bool (l.entity.0 == m)) [
  | inl own ↦ let wrong : length (l ∷ filter (λ (k : Link). k.entity.0 == m) ls) ≡ 0 = rw own at none in absurd (omega (arith, wrong))
  | inr other ↦ rw other (none_found ls m (rw other at none))
]

-- what is attached stays so, so that what isn't attached later wasn't before
turned : (b d : Bool) → (b ≡ true → d ≡ true) → d ≡ false → b ≡ false
turned true d up none = sym (up refl) ∙ none
turned false d up none = refl

unattached : (links more : List Link) (m : ℕ) → (attached_at links m ≡ true → attached_at more m ≡ true) → links_of more m ≡ 0 → links_of links m ≡ 0
unattached links more m up none = none_counted links m (turned (attached_at links m) (attached_at more m) up (none_found more m none))

attach_apart : (m e' a' : ℕ) (l : Link) → (l.entity.0 == m) ≡ true → (e' == m) ≡ false → (link_before l (record { entity = record { 0 = e' }; activity = record { 0 = a' } }) || link_before (record { entity = record { 0 = e' }; activity = record { 0 = a' } }) l) ≡ true
attach_apart m e' a' l mine other = grind (arith, nat_tests)

attach_keeps : (links : List Link) (e' a' m : ℕ) → attached_at links m ≡ true → attached_at (with_link links e' a') m ≡ true
attach_keeps links e' a' m is = put_stays link_before (λ (l : Link). l.entity.0 == m) (record { entity = record { 0 = e' }; activity = record { 0 = a' } }) links (λ l mine other. attach_apart m e' a' l mine other) is

detach_keeps : (links : List Link) (e' a' m : ℕ) → (e' == m) ≡ false → attached_at links m ≡ true → attached_at (without_link links e' a') m ≡ true
detach_keeps links e' a' m other is = any_kept (λ (l : Link). l.entity.0 == m) (λ l. not (is_link e' a' l)) (λ (l : Link) mine. by l.entity.0 l.activity.0 mine) links ∙ is
  where
    by : (b c : ℕ) → (b == m) ≡ true → not ((b == e') && (c == a')) ≡ true
    by b c mine = grind (arith, nat_tests)

drop_keeps : (links : List Link) (a' m : ℕ) → list_any (λ (l : Link). (l.activity.0 == a') && (l.entity.0 == m)) links ≡ false → attached_at links m ≡ true → attached_at (without_links_on links a') m ≡ true
drop_keeps links a' m none is = filter_stays (λ (l : Link). l.entity.0 == m) (λ (l : Link). l.activity.0 == a') links none is

-- links change, and entities don't

links_back : (rows : List Entity) (links more : List Link) (e : ℕ) → ((m : ℕ) → IsIn m (tree_of rows e) → attached_at links m ≡ true → attached_at more m ≡ true) → is_loose rows more e ≡ true → is_loose rows links e ≡ true
links_back rows links more e up loose =
    let none : count_of rows more e ≡ 0 = number_same (count_of rows more e) 0 loose in
    same_number (count_of rows links e) 0 (count_is_none (length rows) rows links e (λ m is. unattached links more m (up m is) (none_attached (length rows) rows more e m none is)))

not_member : (es : List ℕ) (e m : ℕ) → is_member es e ≡ false → IsIn m es → (e == m) ≡ false
not_member es e m none is = elim (cases_Bool (e == m)) [
  | inr other ↦ other
  | inl own ↦
      let there : is_member es m ≡ true = to_member es m is in
      let wrong : is_member es e ≡ true = subst (λ (n : ℕ). is_member es n ≡ true) (sym (number_same e m own)) there in
      let never : true ≡ false = sym wrong ∙ none in absurd (cc)
]

dropped_none : (es : List ℕ) (links : List Link) (a' m : ℕ) → list_any (λ (l : Link). (l.activity.0 == a') && is_member es l.entity.0) links ≡ false → IsIn m es → list_any (λ (l : Link). (l.activity.0 == a') && (l.entity.0 == m)) links ≡ false
dropped_none es links a' m none is =
    turned _ _ (any_more (λ (l : Link). (l.activity.0 == a') && (l.entity.0 == m)) (λ (l : Link). (l.activity.0 == a') && is_member es l.entity.0) (λ (l : Link) both. by l both) links) none
  where
    by : (l : Link) → ((l.activity.0 == a') && (l.entity.0 == m)) ≡ true → ((l.activity.0 == a') && is_member es l.entity.0) ≡ true
    by l both =
        let parts = and_parts (l.activity.0 == a') (l.entity.0 == m) both in
        let there : is_member es l.entity.0 ≡ true = subst (λ (n : ℕ). is_member es n ≡ true) (sym (number_same l.entity.0 m parts.1)) (to_member es m is) in
        rw (parts.0, there) refl

-- entities change, and links don't

-- what is in a tree of some rows is in that of others, where no row on the way is missing
abbrev IsThere : List Entity → List Entity → ℕ → Type 0
IsThere rows more m = (k : ℕ) (c : Entity) → IsIn c rows → IsIn m (tree k rows c.number.0) → IsIn c more

wider : (rows more : List Entity) (top : Entity) (m : ℕ) → AreWhole more → IsIn top more → IsThere rows more m → (k x : ℕ) → IsIn x (tree_of more top.number.0) → IsIn m (tree k rows x) → IsIn m (tree_of more top.number.0)
wider rows more top m whole there all zero x is deep = elim deep [ ]
wider rows more top m whole there all (suc k) x is deep = elim (in_either m (flat_map (λ row. if parent_of row == x then tree k rows row.number.0 else []) rows) (x ∷ []) deep) [
  | inl below ↦
      let found = from_branches k rows rows x m below in
      let parent : IsIn (parent_of found.0) (tree_of more top.number.0) = subst (λ (y : ℕ). IsIn y (tree_of more top.number.0)) (sym found.2) is in
      wider rows more top m whole there all k found.0.number.0 (whole top found.0 there (all k found.0 found.1 found.3) parent) found.3
  | inr own ↦ elim own [
    | inl same ↦ subst (λ (y : ℕ). IsIn y (tree_of more top.number.0)) (sym same) is
    | inr never ↦ absurd never
  ]
]

rows_back : (rows more : List Entity) (links : List Link) (top : Entity) → AreBelowChildren more → IsIn top more → ((m : ℕ) → IsIn m (tree_of rows top.number.0) → (links_of links m ≡ 0) ⊎ IsThere rows more m)
    → is_loose more links top.number.0 ≡ true → is_loose rows links top.number.0 ≡ true
rows_back rows more links top below there all loose =
    let none : count_of more links top.number.0 ≡ 0 = number_same (count_of more links top.number.0) 0 loose in
    same_number (count_of rows links top.number.0) 0 (count_is_none (length rows) rows links top.number.0 (λ m is.
    elim (all m is) [
      | inl bare ↦ bare
      | inr way ↦ none_attached (length more) more links top.number.0 m none
          (wider rows more top m (trees_whole more below) there way (length rows) top.number.0 (tree_top (length more) more top.number.0 (some_rows more top there)) is)
    ]))

-- a row more

created_back : (rows : List Entity) (links : List Link) (new top : Entity) → AreBelowChildren (rows ++ new ∷ []) → IsIn top rows → is_loose (rows ++ new ∷ []) links top.number.0 ≡ true → is_loose rows links top.number.0 ≡ true
created_back rows links new top below there loose =
    rows_back rows (rows ++ new ∷ []) links top below (in_left top rows (new ∷ []) there) (λ m is. inr (λ k c is_row deep. in_left c rows (new ∷ []) is_row)) loose

-- a row less, which has no child and is attached nowhere

no_branch : (rows : List Entity) (e m k : ℕ) → list_any (λ (row : Entity). parent_of row == e) rows ≡ false → IsIn m (tree k rows e) → m ≡ e
no_branch rows e m zero none is = elim is [ ]
no_branch rows e m (suc k) none is = elim (in_either m (flat_map (λ row. if parent_of row == e then tree k rows row.number.0 else []) rows) (e ∷ []) is) [
  | inl deep ↦
      let found = from_branches k rows rows e m deep in
      absurd (by rows found.0 found.1 found.2 none)
  | inr top ↦ elim top [
    | inl same ↦ same
    | inr never ↦ absurd never
  ]
]
  where
    by : (some : List Entity) (row : Entity) → IsIn row some → parent_of row ≡ e → list_any (λ (row : Entity). parent_of row == e) some ≡ false → ⊥
    by [] row is mine childless = elim is [ ]
    by (r ∷ rs) row is mine childless = elim (cases_Bool (parent_of r == e)) [
      | inl own ↦ let wrong : true ≡ false = rw own at childless in cc
      | inr other ↦ elim is [
        | inl same ↦ let own : (parent_of r == e) ≡ true = same_number (parent_of r) e (subst (λ (x : Entity). parent_of x ≡ e) same mine) in let wrong : true ≡ false = sym own ∙ other in cc
        | inr more ↦ by rs row more mine (rw other at childless)
      ]
    ]

below_cut : (p : Entity → Bool) (rows : List Entity) → AreBelowChildren rows → AreBelowChildren (filter p rows)
below_cut p rows below row is = below row (was_in p rows row is)

removed_back : (rows : List Entity) (links : List Link) (e : ℕ) (top : Entity) → AreBelowChildren rows → list_any (λ (row : Entity). parent_of row == e) rows ≡ false → attached_at links e ≡ false
    → IsIn top (without_entity rows e) → is_loose (without_entity rows e) links top.number.0 ≡ true → is_loose rows links top.number.0 ≡ true
removed_back rows links e top below childless detached there loose =
    rows_back rows (without_entity rows e) links top (below_cut (λ row. not (row.number.0 == e)) rows below) there
    (λ m is. elim (cases_Bool (m == e)) [
      | inl own ↦ inl (subst (λ (n : ℕ). links_of links n ≡ 0) (sym (number_same m e own)) (none_counted links e detached))
      | inr other ↦ inr (λ k c is_row deep. elim (cases_Bool (c.number.0 == e)) [
        | inl gone ↦
            let at_e : IsIn m (tree k rows e) = subst (λ (n : ℕ). IsIn m (tree k rows n)) (number_same c.number.0 e gone) deep in
            let wrong : true ≡ false = sym (same_number m e (no_branch rows e m k childless at_e)) ∙ other in absurd (cc)
        | inr stays ↦ still_in (λ row. not (row.number.0 == e)) rows c is_row (rw stays refl)
      ])
    ]) loose

-- another priority

abbrev prior : ℕ → ℤ → Entity → Entity
prior = has_priority

pub prior_number : (e : ℕ) (priority : ℤ) (row : Entity) → (prior e priority row).number.0 ≡ row.number.0
prior_number e priority row = cond_both (row.number.0 == e) (record row { priority = priority }) row (λ r. r.number.0 ≡ row.number.0) (λ _. refl) (λ _. refl)

pub prior_parent : (e : ℕ) (priority : ℤ) (row : Entity) → parent_of (prior e priority row) ≡ parent_of row
prior_parent e priority row = cond_both (row.number.0 == e) (record row { priority = priority }) row (λ r. parent_of r ≡ parent_of row) (λ _. refl) (λ _. refl)

prior_children : (e x : ℕ) (priority : ℤ) (rows : List Entity) → children (with_priority rows e priority) x ≡ map (prior e priority) (children rows x)
prior_children e x priority [] = refl
prior_children e x priority (row ∷ rows) = elim (cases_Bool (parent_of row == x)) [
  | inl own ↦
      let moved : (parent_of (prior e priority row) == x) ≡ true = rw (prior_parent e priority row) own in
      rw (moved, own) (ap (λ more. prior e priority row ∷ more) (prior_children e x priority rows))
  | inr other ↦
      let moved : (parent_of (prior e priority row) == x) ≡ false = rw (prior_parent e priority row) other in
      rw (moved, other) (prior_children e x priority rows)
]

prior_length : (e : ℕ) (priority : ℤ) (rows : List Entity) → length (with_priority rows e priority) ≡ length rows
prior_length e priority [] = refl
prior_length e priority (row ∷ rows) = ap suc (prior_length e priority rows)

prior_each : (count other : ℕ → ℕ) (e : ℕ) (priority : ℤ) → ((m : ℕ) → count m ≡ other m) → (some : List Entity)
    → map (λ (row : Entity). count row.number.0) (map (prior e priority) some) ≡ map (λ (row : Entity). other row.number.0) some
prior_each count other e priority same [] = refl
prior_each count other e priority same (row ∷ rest) =
    let one : count (prior e priority row).number.0 ≡ other row.number.0 = ap count (prior_number e priority row) ∙ same row.number.0 in
    rw one (ap (λ more. other row.number.0 ∷ more) (prior_each count other e priority same rest))

prior_counted : (n : ℕ) (e x : ℕ) (priority : ℤ) (rows : List Entity) (links : List Link) → attachment_count n (with_priority rows e priority) links x ≡ attachment_count n rows links x
prior_counted zero e x priority rows links = refl
prior_counted (suc n) e x priority rows links =
    ap (λ kids. links_of links x + sum (map (λ (row : Entity). attachment_count n (with_priority rows e priority) links row.number.0) kids)) (prior_children e x priority rows)
    ∙ ap (λ many. links_of links x + sum many)
    (prior_each (attachment_count n (with_priority rows e priority) links) (attachment_count n rows links) e priority (λ m. prior_counted n e m priority rows links) (children rows x))

prior_loose : (e x : ℕ) (priority : ℤ) (rows : List Entity) (links : List Link) → is_loose (with_priority rows e priority) links x ≡ is_loose rows links x
prior_loose e x priority rows links =
    ap (λ n. attachment_count n (with_priority rows e priority) links x == 0) (prior_length e priority rows) ∙ ap (λ n. n == 0) (prior_counted (length rows) e x priority rows links)

pub prior_in : (e : ℕ) (priority : ℤ) (rows : List Entity) (row : Entity) → IsIn row (with_priority rows e priority) → (x : Entity) × IsIn x rows × (row ≡ prior e priority x)
prior_in e priority [] row is = elim is [ ]
prior_in e priority (y ∷ ys) row (inl same) = (y, inl refl, same)
prior_in e priority (y ∷ ys) row (inr more) = let found = prior_in e priority ys row more in (found.0, inr found.1, found.2)

-- known roots behind one change

abbrev or_frees : (ℕ → Bool) → Change → State → ℕ → Bool
or_frees among c s e = among e || frees c s e

pub only_one : {X : Type 0} (x y : X) → IsIn x (y ∷ []) → x ≡ y
only_one x y (inl same) = same
only_one x y (inr never) = absurd never

tops_linked : (among : ℕ → Bool) (c : Change) (s : State) (more : List Link)
    → ((e m : ℕ) → frees c s e ≡ false → IsIn m (tree_of s.entities e) → attached_at s.links m ≡ true → attached_at more m ≡ true)
    → AreLooseRootsAmong among s.entities s.links → AreLooseRootsAmong (or_frees among c s) s.entities more
tops_linked among c s more up known row is top loose = elim (cases_Bool (frees c s row.number.0)) [
  | inl freed ↦ or_right (among row.number.0) (frees c s row.number.0) freed
  | inr still ↦ or_left (among row.number.0) (frees c s row.number.0) (known row is top (links_back s.entities s.links more row.number.0 (λ m deep. up row.number.0 m still deep) loose))
]

tops_created : (among : ℕ → Bool) (rows : List Entity) (links : List Link) (new : Entity) (next : ℕ) → new.number.0 ≡ next → AreBelowChildren (rows ++ new ∷ []) → AreLooseRootsAmong among rows links
    → AreLooseRootsAmong (λ e. among e || (next == e)) (rows ++ new ∷ []) links
tops_created among rows links new next number below known row is top loose = elim (in_either row rows (new ∷ []) is) [
  | inl old ↦ or_left (among row.number.0) (next == row.number.0) (known row old top (created_back rows links new row below old loose))
  | inr fresh ↦
      let same : row ≡ new = only_one row new fresh in
      or_right (among row.number.0) (next == row.number.0) (same_number next row.number.0 (sym (ap (λ (x : Entity). x.number.0) same ∙ number)))
]

tops_after : (among : ℕ → Bool) (c : Change) (s : State) → AreBelowChildren (after_change c s).entities → AreBelowChildren s.entities → KeepsTrees c s → AreLooseRootsAmong among s.entities s.links
    → AreLooseRootsAmong (or_frees among c s) (after_change c s).entities (after_change c s).links
tops_after among (changes.CreateRoot block service priority) s later below fits known =
    tops_created among s.entities s.links (record { number = record { 0 = s.next_entity }; block = block; stem = stems.Root service; priority = priority }) s.next_entity refl later known
tops_after among (changes.CreateChild parent relation block priority) s later below fits known =
    tops_created among s.entities s.links (record { number = record { 0 = s.next_entity }; block = block; stem = stems.Child parent relation; priority = priority }) s.next_entity refl later known
tops_after among (changes.Remove e) s later below fits known = λ row is top loose.
    let bare = and_parts (is_childless s.entities e.0) (is_detached s.links e.0) fits in
    or_left (among row.number.0) false (known row (was_in (λ row. not (row.number.0 == e.0)) s.entities row is) top (removed_back s.entities s.links e.0 row below (not-true _ bare.0) (not-true _ bare.1) is loose))
tops_after among (changes.SetPriority e priority) s later below fits known = λ row is top loose.
    let found = prior_in e.0 priority s.entities row is in
    let number : row.number.0 ≡ found.0.number.0 = ap (λ (x : Entity). x.number.0) found.2 ∙ prior_number e.0 priority found.0 in
    let parent : parent_of found.0 ≡ 0 = sym (prior_parent e.0 priority found.0) ∙ sym (ap (λ (x : Entity). parent_of x) found.2) ∙ top in
    let before : is_loose s.entities s.links found.0.number.0 ≡ true = ap (is_loose s.entities s.links) (sym number) ∙ sym (prior_loose e.0 row.number.0 priority s.entities s.links) ∙ loose in
    or_left (among row.number.0) false (ap among number ∙ known found.0 found.1 parent before)
tops_after among (changes.Attach e a) s later below fits known =
    tops_linked among (changes.Attach e a) s (with_link s.links e.0 a.0) (λ x m still deep is. attach_keeps s.links e.0 a.0 m is) known
tops_after among (changes.Detach e a) s later below fits known =
    tops_linked among (changes.Detach e a) s (without_link s.links e.0 a.0) (λ x m still deep is. detach_keeps s.links e.0 a.0 m (not_member (tree_of s.entities x) e.0 m still deep) is) known
tops_after among (changes.DropContext a) s later below fits known =
    tops_linked among (changes.DropContext a) s (without_links_on s.links a.0) (λ x m still deep is. drop_keeps s.links a.0 m (dropped_none (tree_of s.entities x) s.links a.0 m still deep) is) known
tops_after among _ s later below fits known = λ row is top loose. or_left (among row.number.0) false (known row is top loose)

-- what grows

pub found_in : (rows : List Entity) (e : ℕ) → has_entity rows e ≡ true → (x : Entity) × IsIn x rows × (x.number.0 ≡ e)
found_in [] e is = absurd (cc)
found_in (row ∷ rows) e is = elim (cases_Bool (row.number.0 == e)) [
  | inl own ↦ (row, inl refl, number_same row.number.0 e own)
  | inr other ↦ let found = found_in rows e (rw other at is) in (found.0, inr found.1, found.2)
]

numbered_created : (s : State) (new : Entity) → IsNumbered s → new.number.0 ≡ s.next_entity → parent_of new < s.next_entity → IsNumbered (record s { next_entity = s.next_entity + 1; entities = s.entities ++ new ∷ [] })
numbered_created s new numbered number parent = record {
  below = λ row is. elim (in_either row s.entities (new ∷ []) is) [
    | inl old ↦ numbered.below row old
    | inr fresh ↦ let same : row ≡ new = only_one row new fresh in subst (λ (x : Entity). parent_of x < x.number.0) (sym same) (omega (arith, number, parent))
  ];
  drawn = λ row is. elim (in_either row s.entities (new ∷ []) is) [
    | inl old ↦ let lower = numbered.drawn row old in omega (arith, lower)
    | inr fresh ↦ let same : row ≡ new = only_one row new fresh in subst (λ (x : Entity). x.number.0 < s.next_entity + 1) (sym same) (omega (arith, number))
  ];
  some = omega arith;
}

pub numbered_after : (c : Change) (s : State) → KeepsTrees c s → IsNumbered s → IsNumbered (after_change c s)
numbered_after (changes.CreateRoot block service priority) s fits numbered = numbered_created s (record { number = record { 0 = s.next_entity }; block = block; stem = stems.Root service; priority = priority }) numbered refl numbered.some
numbered_after (changes.CreateChild parent relation block priority) s fits numbered =
    let found = found_in s.entities parent.0 fits in
    let lower = numbered.drawn found.0 found.1 in
    numbered_created s (record { number = record { 0 = s.next_entity }; block = block; stem = stems.Child parent relation; priority = priority }) numbered refl (omega (arith, lower, found.2))
numbered_after (changes.Remove e) s fits numbered = record {
  below = below_cut (λ row. not (row.number.0 == e.0)) s.entities numbered.below;
  drawn = λ row is. numbered.drawn row (was_in (λ row. not (row.number.0 == e.0)) s.entities row is);
  some = numbered.some;
}
numbered_after (changes.SetPriority e priority) s fits numbered = record {
  below = λ row is. let found = prior_in e.0 priority s.entities row is in
      subst (λ (x : Entity). parent_of x < x.number.0) (sym found.2) (let low = numbered.below found.0 found.1 in omega (arith, low, prior_number e.0 priority found.0, prior_parent e.0 priority found.0));
  drawn = λ row is. let found = prior_in e.0 priority s.entities row is in
      subst (λ (x : Entity). x.number.0 < s.next_entity) (sym found.2) (let low = numbered.drawn found.0 found.1 in omega (arith, low, prior_number e.0 priority found.0));
  some = numbered.some;
}
numbered_after _ s fits numbered = record { below = numbered.below; drawn = numbered.drawn; some = numbered.some }

-- known roots behind changes

regroup : (a b c : Bool) → (a || (b || c)) ≡ ((a || b) || c)
regroup true b c = refl
regroup false b c = refl

freed_through : (cs : List Change) (among : ℕ → Bool) (s : State) → IsNumbered s → AllKeepTrees cs s → AreLooseRootsAmong among s.entities s.links
    → AreLooseRootsAmong (λ e. among e || freed_by cs s e) (after_changes cs s).entities (after_changes cs s).links
freed_through [] among s numbered fits known row is top loose = or_left (among row.number.0) false (known row is top loose)
freed_through (c ∷ cs) among s numbered fits known row is top loose =
    let later = numbered_after c s fits.0 numbered in
    let one = tops_after among c s later.below numbered.below fits.0 known in
    regroup (among row.number.0) (frees c s row.number.0) (freed_by cs (after_change c s) row.number.0)
    ∙ freed_through cs (or_frees among c s) (after_change c s) later fits.1 one row is top loose

numbered_through : (cs : List Change) (s : State) → IsNumbered s → AllKeepTrees cs s → IsNumbered (after_changes cs s)
numbered_through [] s numbered fits = numbered
numbered_through (c ∷ cs) s numbered fits = numbered_through cs (after_change c s) (numbered_after c s fits.0 numbered) fits.1

closed_tops : (all some : List Entity) (links : List Link) → list_all (λ e. not (is_loose all links e)) (map number_of (filter (λ row. parent_of row == 0) some)) ≡ true
    → (row : Entity) → IsIn row some → parent_of row ≡ 0 → is_loose all links row.number.0 ≡ true → false ≡ true
closed_tops all [] links held row is top loose = elim is [ ]
closed_tops all (y ∷ ys) links held row is top loose = elim (cases_Bool (parent_of y == 0)) [
  | inl own ↦
      let parts = and_parts (not (is_loose all links y.number.0)) (list_all (λ e. not (is_loose all links e)) (map number_of (filter (λ row. parent_of row == 0) ys))) (rw own at held) in
      elim is [
        | inl same ↦ sym (not-true _ parts.0) ∙ ap (λ (x : Entity). is_loose all links x.number.0) (sym same) ∙ loose
        | inr more ↦ closed_tops all ys links parts.1 row more top loose
      ]
  | inr other ↦ elim is [
    | inl same ↦
        let own : (parent_of y == 0) ≡ true = same_number (parent_of y) 0 (subst (λ (x : Entity). parent_of x ≡ 0) same top) in
        sym other ∙ own
    | inr more ↦ closed_tops all ys links (rw other at held) row more top loose
  ]
]

-- a list of rows that rise

pub low_head : (x y : Entity) (rows : List Entity) → rises_in number_of (x ∷ rows) ≡ true → IsIn y rows → x.number.0 < y.number.0
low_head x y [] rises is = elim is [ ]
low_head x y (z ∷ zs) rises is =
    let parts = and_parts (nat_lt x.number.0 z.number.0) (rises_in number_of (z ∷ zs)) rises in
    let low : x.number.0 < z.number.0 = grind (arith, nat_tests, parts.0) in
    elim is [
      | inl same ↦ subst (λ (w : Entity). x.number.0 < w.number.0) (sym same) low
      | inr more ↦ let high = low_head z y zs parts.1 more in omega (arith, low, high)
    ]

pub rises_on : (x : Entity) (rows : List Entity) → rises_in number_of (x ∷ rows) ≡ true → rises_in number_of rows ≡ true
rises_on x [] rises = refl
rises_on x (y ∷ ys) rises = (and_parts (nat_lt x.number.0 y.number.0) (rises_in number_of (y ∷ ys)) rises).1

pub once_in : (rows : List Entity) → rises_in number_of rows ≡ true → (x y : Entity) → IsIn x rows → IsIn y rows → x.number.0 ≡ y.number.0 → x ≡ y
once_in [] rises x y one two same = elim one [ ]
once_in (z ∷ zs) rises x y (inl here) (inl there) same = here ∙ sym there
once_in (z ∷ zs) rises x y (inl here) (inr more) same =
    let low = low_head z y zs rises more in
    let at_z : z.number.0 ≡ x.number.0 = ap (λ (w : Entity). w.number.0) (sym here) in
    absurd (omega (arith, low, at_z, same))
once_in (z ∷ zs) rises x y (inr more) (inl there) same =
    let low = low_head z x zs rises more in
    let at_z : z.number.0 ≡ y.number.0 = ap (λ (w : Entity). w.number.0) (sym there) in
    absurd (omega (arith, low, at_z, same))
once_in (z ∷ zs) rises x y (inr one) (inr two) same = once_in zs (rises_on z zs rises) x y one two same

each_top : (P : ℕ → Type 0) (some : List Entity) → ((row : Entity) → IsIn row some → parent_of row ≡ 0 → P row.number.0) → AllByRecursion P (map number_of (filter (λ row. parent_of row == 0) some))
each_top P [] each = tt
each_top P (row ∷ rows) each = elim (cases_Bool (parent_of row == 0)) [
  | inl own ↦ rw own (each row (inl refl) (number_same (parent_of row) 0 own), each_top P rows (λ x is top. each x (inr is) top))
  | inr other ↦ rw other (each_top P rows (λ x is top. each x (inr is) top))
]

pub tops_differ : (rows : List Entity) → rises_in number_of rows ≡ true → DoDiffer (map number_of (filter (λ row. parent_of row == 0) rows))
tops_differ [] rises = tt
tops_differ (row ∷ rows) rises = elim (cases_Bool (parent_of row == 0)) [
  | inl own ↦ rw own (each_top (λ f. (row.number.0 == f) ≡ false) rows (λ x is top. let low = low_head row x rows rises is in grind (arith, nat_tests, low)), tops_differ rows (rises_on row rows rises))
  | inr other ↦ rw other (tops_differ rows (rises_on row rows rises))
]

known_roots : (among : ℕ → Bool) (rows : List Entity) (links : List Link) → rises_in number_of rows ≡ true → AreBelowChildren rows → AreLooseRootsAmong among rows links → AreLooseAmong among rows links (roots rows)
known_roots among rows links rises below known = record {
  forest = record { below = below; once = once_in rows rises };
  roots = each_top (IsRoot rows) rows (λ row is top. (row, is, refl, top));
  differ = tops_differ rows rises;
  known = each_top (λ e. is_loose rows links e ≡ true → among e ≡ true) rows known;
}

-- behind changes of a closed state each loose root was freed
pub only_freed : (cs : List Change) (s : State) → IsClosed s → IsNumbered s → AllKeepTrees cs s → rises_in number_of (after_changes cs s).entities ≡ true
    → AreLooseAmong (freed_by cs s) (after_changes cs s).entities (after_changes cs s).links (roots (after_changes cs s).entities)
only_freed cs s closed numbered fits rises =
    known_roots (freed_by cs s) (after_changes cs s).entities (after_changes cs s).links rises (numbered_through cs s numbered fits).below
    (freed_through cs (λ _. false) s numbered fits (closed_tops s.entities s.entities s.links closed.roots))
