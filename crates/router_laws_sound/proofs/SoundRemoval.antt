-- A tree that goes, and a timer that is set, leave every part sound.
use Rattle.std.proofs.Common.{◌≡◌, ℕ, ◌==◌, Bool, true, false, not, List, [], ◌∷◌, ◌++◌, filter, refl, sym, ◌∙◌, subst, inl, inr, arith, nat_lt, flat_map}
use Rattle.std.specs.Prelude.{is_some, find}
use Rattle.std.specs.List.{list_all, list_any}
use Rattle.std.proofs.lemmas.Bool.{cases_Bool, cond_both, and_parts, and_from, or_cases, or_right, not-true, eqb-true, false≢true, false_from_ne_true}
use Rattle.std.proofs.lemmas.Bool.Decides.{nat_tests}
use Rattle.deploy_model.specs.Deployed.{Deployed, is_event}
use Rattle.router_laws.specs.Forest.{IsIn}
use Rattle.router_laws.proofs.Removal.{in_list, is_in_list, from_in_list, removed_links_are, filter_true, out_twice}
use Rattle.router_laws.proofs.RisingLemmas.{Joins, filter_rises}
use Rattle.router_laws_sound.proofs.SoundLinks.{link_joins, mask_joins}
use Rattle.router_laws.proofs.Tests.{tests_kept, any_filter}
use Rattle.router_state.specs.State.{State}
use Rattle.router_state.specs.Changes.{after_changes}
use Rattle.router_state.specs.Contexts.{activity_at, is_link, is_linked, link_before}
use Rattle.router_state.specs.Fits.{is_drawn, is_priority}
use Rattle.router_state.specs.Masks.{mask_before, is_mask_of}
use Rattle.rows_sorted.specs.Orders.{same_pair, rises_by}
use Rattle.rows_sorted.specs.Orders.{rises_in}
use Rattle.router_state.specs.Trees.{parent_of, parent_in, entity_at}
use Rattle.router_state.specs.WellContexts.{is_link_row, are_links, is_mask_row, are_masks}
use Rattle.router_state.specs.WellEntities.{is_stem, is_entity_row, are_entities}
use Rattle.router_state.specs.declared.change.Change.TheVariants as changes
use Rattle.router_state.specs.declared.rows.Activity.{Activity}
use Rattle.router_state.specs.declared.rows.Entity.{Entity}
use Rattle.router_state.specs.declared.rows.Link.{Link}
use Rattle.router_state.specs.declared.rows.Mask.{Mask}
use Rattle.router_state.specs.declared.rows.Stem.{Stem}
use Rattle.router_state.specs.declared.rows.Stem.TheVariants as stems
use Rattle.router_steps.specs.Going.{removed, all_removed}
use Rattle.router_steps.specs.Moves.{changes_of_detaching}

abbrev pub left_of : List ℕ → List Entity → List Entity
left_of gone rows = filter (λ row. not (in_list row.number.0 gone)) rows

-- a look-up by number among the rows that are left
pub found_left : {Row : Type 0} (number : Row → ℕ) (gone : List ℕ) (rows : List Row) (e : ℕ) → in_list e gone ≡ false
    → find (λ row. number row == e) (filter (λ row. not (in_list (number row) gone)) rows) ≡ find (λ row. number row == e) rows
found_left number gone [] e out = refl
found_left number gone (row ∷ rows) e out = elim (cases_Bool (number row == e)) [
  | inl is ↦
      let own : in_list (number row) gone ≡ false = subst (λ n. in_list n gone ≡ false) (sym (eqb-true (number row) e is)) out in
      rw (own, is) refl
  | inr isnt ↦ elim (cases_Bool (in_list (number row) gone)) [
    | inl away ↦ rw (away, isnt) (found_left number gone rows e out)
    | inr stays ↦ rw (stays, isnt) (found_left number gone rows e out)
  ]
]

pub entity_left : (gone : List ℕ) (rows : List Entity) (e : ℕ) → in_list e gone ≡ false → entity_at (left_of gone rows) e ≡ entity_at rows e
entity_left gone rows e out = found_left (λ (row : Entity). row.number.0) gone rows e out

-- tests of the rows that are kept, which may use where a row stands
kept_in : {Row : Type 0} (p q keep : Row → Bool) (xs : List Row) → ((x : Row) → IsIn x xs → keep x ≡ true → p x ≡ true → q x ≡ true) → list_all p xs ≡ true → list_all q (filter keep xs) ≡ true
kept_in p q keep [] follows all = refl
kept_in p q keep (x ∷ xs) follows all =
    let parts = and_parts (p x) (list_all p xs) all in
    cond_both (keep x) (x ∷ filter keep xs) (filter keep xs) (λ rows. list_all q rows ≡ true)
    (λ is. and_from (q x) (list_all q (filter keep xs)) (follows x (inl refl) is parts.0) (kept_in p q keep xs (λ y there. follows y (inr there)) parts.1))
    (λ _. kept_in p q keep xs (λ y there. follows y (inr there)) parts.1)

pub entity_joins : Joins (λ (x y : Entity). nat_lt x.number.0 y.number.0)
entity_joins x y z one two = lt x.number.0 y.number.0 z.number.0 one two
  where
    lt : (a b c : ℕ) → nat_lt a b ≡ true → nat_lt b c ≡ true → nat_lt a c ≡ true
    lt a b c one two = grind (arith, nat_tests)

-- what goes has with it all that is below it
abbrev pub IsWhole : List ℕ → List Entity → Type 0
IsWhole gone rows = (row : Entity) → IsIn row rows → IsIn (parent_of row) gone → IsIn row.number.0 gone

pub entities_left : (d : Deployed) (gone : List ℕ) (rows : List Entity) (next : ℕ) → IsWhole gone rows → are_entities d rows next ≡ true → are_entities d (left_of gone rows) next ≡ true
entities_left d gone rows next whole sound =
    let parts = and_parts (rises_in (λ (row : Entity). row.number.0) rows) (list_all (is_entity_row d rows next) rows) sound in
    and_from _ _ (filter_rises (λ (x y : Entity). nat_lt x.number.0 y.number.0) entity_joins (λ row. not (in_list row.number.0 gone)) rows parts.0)
    (kept_in (is_entity_row d rows next) (is_entity_row d (left_of gone rows) next) (λ row. not (in_list row.number.0 gone)) rows
    (λ row there keep is.
    let drawn = and_parts (is_drawn next row.number.0) _ is in
    let rank = and_parts (is_priority row.priority) (is_stem d rows row.number.0 row.block row.stem) drawn.1 in
    and_from (is_drawn next row.number.0) _ drawn.0 (and_from (is_priority row.priority) _ rank.0 (stem row row.stem (above row there keep) rank.1))) parts.1)
  where
    above : (row : Entity) → IsIn row rows → not (in_list row.number.0 gone) ≡ true → in_list (parent_of row) gone ≡ false
    above row there keep = false_from_ne_true (in_list (parent_of row) gone) (λ is. clash (in_list row.number.0 gone) keep (is_in_list row.number.0 gone (whole row there (from_in_list (parent_of row) gone is))))
      where
        clash : (b : Bool) → not b ≡ true → b ≡ true → ⊥
        clash true one two = absurd (cc)
        clash false one two = absurd (cc)

    stem : (row : Entity) (x : Stem) → in_list (parent_in x) gone ≡ false → is_stem d rows row.number.0 row.block x ≡ true → is_stem d (left_of gone rows) row.number.0 row.block x ≡ true
    stem row (stems.Root service) out is = is
    stem row (stems.Child parent relation) out is = rw (entity_left gone rows parent.0 out) is

pub links_removed : (gone : List ℕ) (rows : List Entity) (activities : List Activity) (links : List Link) → are_links rows activities links ≡ true
    → are_links (left_of gone rows) activities (filter (λ l. not (in_list l.entity.0 gone)) links) ≡ true
links_removed gone rows activities links sound =
    let parts = and_parts (rises_by link_before links) (list_all (is_link_row rows activities) links) sound in
    and_from _ _ (filter_rises link_before link_joins (λ l. not (in_list l.entity.0 gone)) links parts.0)
    (tests_kept (is_link_row rows activities) (is_link_row (left_of gone rows) activities) (λ l. not (in_list l.entity.0 gone))
    (λ l keep is. let both = and_parts (is_some (entity_at rows l.entity.0)) (is_some (activity_at activities l.activity.0)) is in
    and_from (is_some (entity_at (left_of gone rows) l.entity.0)) _ (rw (entity_left gone rows l.entity.0 (not-true (in_list l.entity.0 gone) keep)) both.0) both.1) links parts.1)

-- masks: each stands on an attachment, so those of an entity go with it

abbrev is_under : List Link → Mask → Bool
is_under links m = list_any (λ l. is_mask_of l.entity.0 l.activity.0 m) links

removed_masks : (links : List Link) (e : ℕ) (s : State)
    → (after_changes (flat_map changes_of_detaching links ++ changes.ForgetFields (record { 0 = e }) ∷ changes.Remove (record { 0 = e }) ∷ []) s).masks ≡ filter (λ m. not (is_under links m)) s.masks
removed_masks [] e s = sym (filter_true s.masks)
removed_masks (l ∷ links) e s = removed_masks links e (after_changes (changes_of_detaching l) s) ∙ out_twice (is_mask_of l.entity.0 l.activity.0) (is_under links) s.masks

-- a mask on an attachment of the entity is under one of the attachments that go
under_own : (e : ℕ) (m : Mask) (links : List Link) → (m.entity.0 == e) ≡ true → is_linked links m.entity.0 m.activity.0 ≡ true → is_under (filter (λ l. l.entity.0 == e) links) m ≡ true
under_own e m [] own linked = absurd (cc)
under_own e m (l ∷ links) own linked = elim (or_cases (is_link m.entity.0 m.activity.0 l) (is_linked links m.entity.0 m.activity.0) linked) [
  | inl here ↦
      let mine : (l.entity.0 == e) ≡ true = owned l.entity.0 l.activity.0 m.entity.0 m.activity.0 e here own in
      let under : is_mask_of l.entity.0 l.activity.0 m ≡ true = turned l.entity.0 l.activity.0 m.entity.0 m.activity.0 here in
      rw (mine, under) refl
  | inr there ↦ cond_both (l.entity.0 == e) (l ∷ filter (λ k. k.entity.0 == e) links) (filter (λ k. k.entity.0 == e) links) (λ ls. is_under ls m ≡ true)
      (λ _. or_right (is_mask_of l.entity.0 l.activity.0 m) _ (under_own e m links own there)) (λ _. under_own e m links own there)
]
  where
    owned : (x y a b e : ℕ) → same_pair x y a b ≡ true → (a == e) ≡ true → (x == e) ≡ true
    owned x y a b e same own = grind (arith, nat_tests)

    turned : (x y a b : ℕ) → same_pair x y a b ≡ true → same_pair a b x y ≡ true
    turned x y a b same = grind (arith, nat_tests)

masks_one : (d : Deployed) (e : ℕ) (s : State) → are_masks d s.links s.masks ≡ true → are_masks d (removed s e).links (removed s e).masks ≡ true
masks_one d e s sound =
    let own = filter (λ (l : Link). l.entity.0 == e) s.links in
    let parts = and_parts (rises_by mask_before s.masks) (list_all (is_mask_row d s.links) s.masks) sound in
    rw (removed_links_are e s, removed_masks own e s)
    (and_from _ _ (filter_rises mask_before mask_joins (λ m. not (is_under own m)) s.masks parts.0)
    (tests_kept (is_mask_row d s.links) (is_mask_row d (filter (λ (l : Link). not (l.entity.0 == e)) s.links)) (λ m. not (is_under own m))
    (λ m keep is. let both = and_parts (is_linked s.links m.entity.0 m.activity.0) (is_event d m.event) is in
    and_from _ _ (still m (not-true (is_under own m) keep) both.0) both.1) s.masks parts.1))
  where
    other : (m : Mask) → is_under (filter (λ (l : Link). l.entity.0 == e) s.links) m ≡ false → is_linked s.links m.entity.0 m.activity.0 ≡ true → (m.entity.0 == e) ≡ false
    other m out linked = false_from_ne_true (m.entity.0 == e) (λ own. false≢true (sym out ∙ under_own e m s.links own linked))

    apart : (x y a b e : ℕ) → same_pair x y a b ≡ true → (a == e) ≡ false → not (x == e) ≡ true
    apart x y a b e same isnt = grind (arith, nat_tests)

    still : (m : Mask) → is_under (filter (λ (l : Link). l.entity.0 == e) s.links) m ≡ false → is_linked s.links m.entity.0 m.activity.0 ≡ true → is_linked (filter (λ (l : Link). not (l.entity.0 == e)) s.links) m.entity.0 m.activity.0 ≡ true
    still m out linked = any_filter (is_link m.entity.0 m.activity.0) (λ l. not (l.entity.0 == e)) s.links (λ l same. apart l.entity.0 l.activity.0 m.entity.0 m.activity.0 e same (other m out linked)) linked

pub masks_removed : (d : Deployed) (es : List ℕ) (s : State) → are_masks d s.links s.masks ≡ true → are_masks d (all_removed es s).links (all_removed es s).masks ≡ true
masks_removed d [] s sound = sound
masks_removed d (e ∷ es) s sound = masks_removed d es (removed s e) (masks_one d e s sound)
