-- An effect that suits a delivery, and was guarded by what the run had seen, applies at its turn.
use Rattle.deploy_model.specs.Deployed.{Deployed, relation_of}
use Rattle.router_laws.specs.Forest.{IsIn}
use Rattle.router_laws_applying.proofs.Trees.{entity_found, kid_row, map_in, rise}
use Rattle.router_laws_applying.proofs.Behind.{kids_old}
use Rattle.router_laws_applying.specs.Behind.{IsBehind}
use Rattle.router_laws_applying.specs.Suited.{ChildrenAfter, FieldsSuit, Lives, ValueFits}
use Rattle.router_laws_effects.proofs.GuardLemmas.{told_by_state}
use Rattle.router_laws_effects.specs.Guards.{IsUsed, IsUsedActive, NameAfter, SeenAfter}
use Rattle.router_laws_effects.specs.Runs.{IsOld, activity_seen}
use Rattle.router_laws_sound.proofs.SoundEntities.{passes_in}
use Rattle.router_state.specs.Contexts.{activity_at, is_active, is_null, named_at}
use Rattle.router_state.specs.Fits.{are_declared, is_drawn, is_of_kind, is_priority, is_value}
use Rattle.router_state.specs.Fitting.{has_activity}
use Rattle.router_state.specs.Look.{seen_of}
use Rattle.router_state.specs.State.{State}
use Rattle.router_state.specs.Timers.{last_moment}
use Rattle.router_state.specs.Trees.{entity_at, is_child_of}
use Rattle.router_state.specs.Well.{IsSound}
use Rattle.router_state.specs.WellEntities.{is_entity_row, is_stem, leads_to}
use Rattle.router_state.specs.declared.rows.Activity.{Activity}
use Rattle.router_state.specs.declared.rows.Entity.{Entity}
use Rattle.router_state.specs.declared.rows.Stem.{Stem}
use Rattle.router_state.specs.declared.rows.Stem.TheVariants as stems
use Rattle.router_steps.specs.Effects.{next_in, number_in, plain, plain_field}
use Rattle.router_steps.specs.Scripts.{answers_in}
use Rattle.rows_sorted.specs.Orders.{rises_in}
use Rattle.script_meaning.specs.Answers.{is_of}
use Rattle.script_meaning.specs.Doing.{is_within, last_moment as latest}
use Rattle.script_meaning.specs.Overlay.{activities_by, activity_after, count_of, overlay, timers_by}
use Rattle.script_meaning.specs.declared.seen.AcSeen.{AcSeen}
use Rattle.script_types.specs.declared.codes.FieldCode.{FieldCode}
use Rattle.script_types.specs.declared.codes.RelationCode.{RelationCode}
use Rattle.slee_effect.specs.Resolving.{resolved_field, resolved_ref, resolved_val}
use Rattle.slee_effect.specs.declared.effect.Effect.{Effect}
use Rattle.slee_effect.specs.declared.next.Next.{Next}
use Rattle.slee_effect.specs.declared.reference.Ref.{Ref}
use Rattle.slee_effect.specs.declared.value.Val.{Val}
use Rattle.slee_effect.specs.declared.value.Val.TheVariants.{Plain, NewActivity, NewTimer}
use Rattle.slee_value.specs.declared.ids.ActivityId.{ActivityId}
use Rattle.slee_value.specs.declared.kind.Kind.{Kind}
use Rattle.slee_value.specs.declared.kind.Kind.TheVariants as kind
use Rattle.slee_value.specs.declared.value.Value.TheVariants as v
use Rattle.std.proofs.Common.{◌≡◌, Bool, true, false, ℕ, zero, suc, ℤ, ◌+◌, ◌<◌, ◌≤◌, ◌==◌, ◌&&◌, not, List, [], ◌∷◌, map, refl, sym, ap, subst, ◌∙◌, inl, inr, arith, Option, Some, None}
use Rattle.std.proofs.lemmas.Bool.{and_from, and_parts, eqb-true, lt-ltb, ltb-true}
use Rattle.std.proofs.lemmas.Bool.Decides.{nat_tests}
use Rattle.std.proofs.lemmas.Slice.Eq.{bytes_eq-Decides}
use Rattle.std.specs.List.{AllByRecursion, list_all}
use Rattle.std.specs.Option.{option_map_or}
use Rattle.std.specs.Prelude.{pos, negsuc, ◌+ℤ◌, int_le, unsigned_abs, is_none, is_some, nat_le, nat_lt, option_map}
use Rattle.std.specs.Str.{bytes_eq}

-- An entity that lives in a run is there, with its block; its number is so many above that of the entity that received the event.
pub record IsPresent (s t : State) (me depth block : ℕ) (e : Ref) : Type 0 where
  pub old : IsOld s.next_entity e
  pub row : Entity
  pub found : entity_at t.entities (number_in (resolved_ref s.next_entity e)) ≡ Some row
  pub same : row.block ≡ block
  pub deep : me + depth ≤ number_in (resolved_ref s.next_entity e)

pub there_of : {X : Type 0} (o : Option X) (x : X) → o ≡ Some x → is_some o ≡ true
there_of o x is = ap is_some is

old_in : (next : ℕ) (x : Ref) (xs : List Ref) → IsIn x xs → AllByRecursion (IsOld next) xs → IsOld next x
old_in next x [] there all = elim there [ ]
old_in next x (y ∷ xs) (inl same) all = subst (IsOld next) (sym same) all.0
old_in next x (y ∷ xs) (inr more) all = old_in next x xs more all.1

block_of : (o : Option Entity) (own : ℕ) → option_map (λ (row : Entity). row.block) o ≡ Some own → (row : Entity) × (o ≡ Some row) × (row.block ≡ own)
block_of None own is = absurd (cc)
block_of (Some row) own is = (row, refl, some_same is)
  where
    some_same : {x y : ℕ} → Some x ≡ Some y → x ≡ y
    some_same same = cc

-- a child of an entity that is there has the block to which its relation leads
kid_block : (d : Deployed) (rows : List Entity) (p : ℕ) (parent row : Entity) (relation : List ℕ) (r : RelationCode) → entity_at rows p ≡ Some parent → relation_of d parent.block relation ≡ Some r
    → is_stem d rows row.number.0 row.block row.stem ≡ true → is_child_of p relation row.stem ≡ true → (row.block ≡ r.block) × (p < row.number.0)
kid_block d rows p parent row relation r found leads stands child = by row.stem stands child
  where
    relates : (o : Option RelationCode) → o ≡ Some r → option_map_or (λ (c : RelationCode). c.block == row.block) o false ≡ true → row.block ≡ r.block
    relates None is leads = absurd (cc)
    relates (Some c) is leads = sym (eqb-true c.block row.block leads) ∙ ap (λ (x : RelationCode). x.block) (some_same is)
      where
        some_same : {x y : RelationCode} → Some x ≡ Some y → x ≡ y
        some_same same = cc

    by_parent : (o : Option Entity) (own : List ℕ) → o ≡ Some parent → own ≡ relation → option_map_or (λ (x : Entity). leads_to d x.block own row.block) o false ≡ true → row.block ≡ r.block
    by_parent None own is same leads = absurd (cc)
    by_parent (Some x) own is same to = relates (relation_of d x.block own) (ap (λ (y : Entity). relation_of d y.block own) (some_same is) ∙ ap (relation_of d parent.block) same ∙ leads) to
      where
        some_same : {y z : Entity} → Some y ≡ Some z → y ≡ z
        some_same same = cc

    by : (stem : Stem) → is_stem d rows row.number.0 row.block stem ≡ true → is_child_of p relation stem ≡ true → (row.block ≡ r.block) × (p < row.number.0)
    by (stems.Root service) stands child = absurd (cc)
    by (stems.Child above own) stands child =
        let both = and_parts (nat_lt above.0 row.number.0) _ stands in
        let mine = and_parts (above.0 == p) (bytes_eq own relation) child in
        let same = eqb-true above.0 p mine.0 in
        (by_parent (entity_at rows above.0) own (ap (entity_at rows) same ∙ found) ((bytes_eq-Decides own relation).0 mine.1) both.1, subst (λ k. k < row.number.0) same (ltb-true above.0 row.number.0 both.0))

pub present : (s : State) (me own a : ℕ) (before : List Effect) (t : State) → IsSound s → IsBehind s me own a before t → me < s.next_entity → (n block : ℕ) (e : Ref) → Lives s me own before n block e → IsPresent s t me n block e
present s me own a before t first was drawn zero block e lives =
    let found = block_of (entity_at t.entities me) own was.block in
    subst (λ r. IsPresent s t me 0 block r) (sym lives.0) (record { old = drawn; row = found.0; found = found.1; same = found.2 ∙ sym lives.1; deep = omega arith })
present s me own a before t first was drawn (suc n) block e (p, b, relation, r, lives, leads, to, there) =
    let parent = present s me own a before t first was drawn n b p lives in
    let number = number_in (resolved_ref s.next_entity p) in
    let told = was.kids p relation parent.old (inl (there_of (entity_at t.entities number) parent.row parent.found)) in
    let kid = kid_row t.entities number relation (number_in (resolved_ref s.next_entity e)) (subst (IsIn (number_in (resolved_ref s.next_entity e))) (sym told) (map_in (λ r. number_in (resolved_ref s.next_entity r)) e (ChildrenAfter s before p relation) there)) in
    let tests = and_parts (rises_in (λ (x : Entity). x.number.0) t.entities) (list_all (is_entity_row t.deployment t.entities t.next_entity) t.entities) was.sound.entities in
    let mine = passes_in (is_entity_row t.deployment t.entities t.next_entity) t.entities kid.0 kid.1 tests.1 in
    let stands = (and_parts (is_priority kid.0.priority) (is_stem t.deployment t.entities kid.0.number.0 kid.0.block kid.0.stem) (and_parts (is_drawn t.next_entity kid.0.number.0) _ mine).1).1 in
    let block_is = kid_block t.deployment t.entities number parent.row kid.0 relation r parent.found (ap (λ d. relation_of d parent.row.block relation) was.deployment ∙ ap (λ k. relation_of s.deployment k relation) parent.same ∙ leads) stands kid.3 in
    record {
      old = old_in s.next_entity e (ChildrenAfter s before p relation) there (kids_old s before p relation first);
      row = kid.0;
      found = subst (λ k. entity_at t.entities k ≡ Some kid.0) kid.2 (entity_found t.entities (rise t was.sound) kid.0 kid.1);
      same = block_is.0 ∙ to;
      deep = deeper number (number_in (resolved_ref s.next_entity e)) kid.0.number.0 parent.deep block_is.1 kid.2;
    }
  where
    deeper : (p e k : ℕ) → me + n ≤ p → p < k → k ≡ e → me + suc n ≤ e
    deeper p e k one two three = omega (arith, one, two, three)

-- what a run had seen is there

pub of_active : (o : Option Activity) (x : AcSeen) → option_map seen_of o ≡ Some x → x.ending ≡ false → option_map_or (λ (row : Activity). not row.ending) o false ≡ true
of_active None x is ending = absurd (cc)
of_active (Some row) x is ending = let same : row.ending ≡ false = ap (λ (y : AcSeen). y.ending) (some_same is) ∙ ending in rw same refl
  where
    some_same : {y z : AcSeen} → Some y ≡ Some z → y ≡ z
    some_same same = cc

pub of_there : (o : Option Activity) (x : AcSeen) → option_map seen_of o ≡ Some x → is_some o ≡ true
of_there None x is = absurd (cc)
of_there (Some row) x is = refl

pub of_null : (o : Option Activity) (x : AcSeen) → option_map seen_of o ≡ Some x → x.ending ≡ false → x.null ≡ true → option_map_or (λ (row : Activity). is_null row.kind && not row.ending) o false ≡ true
of_null None x is ending null = absurd (cc)
of_null (Some row) x is ending null =
    let same : row.ending ≡ false = ap (λ (y : AcSeen). y.ending) (some_same is) ∙ ending in
    let kind : is_null row.kind ≡ true = ap (λ (y : AcSeen). y.null) (some_same is) ∙ null in
    rw (kind, same) refl
  where
    some_same : {y z : AcSeen} → Some y ≡ Some z → y ≡ z
    some_same same = cc

pub seen_there : (s : State) (me own a : ℕ) (before : List Effect) (t : State) → IsBehind s me own a before t → AllByRecursion (λ row. row.number.0 < s.next_activity) s.activities → (r : Ref) (x : AcSeen) → IsOld s.next_activity r → SeenAfter (answers_in s) before r x → activity_seen (next_in s) t r ≡ Some x
seen_there s me own a before t was below r x old seen = was.seen r old ∙ ap (overlay activities_by (activity_after r) before) (sym (told_by_state s r below)) ∙ seen

pub active_there : (s : State) (me own a : ℕ) (before : List Effect) (t : State) → IsBehind s me own a before t → AllByRecursion (λ row. row.number.0 < s.next_activity) s.activities → (r : Ref) → IsOld s.next_activity r → IsUsedActive (answers_in s) before r → is_active t.activities (number_in (resolved_ref s.next_activity r)) ≡ true
active_there s me own a before t was below r old used = of_active (activity_at t.activities (number_in (resolved_ref s.next_activity r))) used.0 (seen_there s me own a before t was below r used.0 old used.1) used.2

pub used_there : (s : State) (me own a : ℕ) (before : List Effect) (t : State) → IsBehind s me own a before t → AllByRecursion (λ row. row.number.0 < s.next_activity) s.activities → (r : Ref) → IsOld s.next_activity r → IsUsed (answers_in s) before r → has_activity t.activities (number_in (resolved_ref s.next_activity r)) ≡ true
used_there s me own a before t was below r old used = of_there (activity_at t.activities (number_in (resolved_ref s.next_activity r))) used.0 (seen_there s me own a before t was below r used.0 old used.1)

-- names

none_mapped : {A B : Type 0} (f : A → B) (o : Option A) → is_none (option_map f o) ≡ is_none o
none_mapped f None = refl
none_mapped f (Some x) = refl

pub name_there : (s : State) (me own a : ℕ) (before : List Effect) (t : State) → IsBehind s me own a before t → (name : List ℕ) → is_none (named_at t.names name) ≡ is_none (NameAfter (answers_in s) before name)
name_there s me own a before t was name =
    sym (none_mapped (λ (x : ActivityId). x.0) (named_at t.names name)) ∙ ap is_none (was.names name) ∙ none_mapped (λ r. number_in (resolved_ref s.next_activity r)) (NameAfter (answers_in s) before name)

pub some_unless : {A : Type 0} (o : Option A) → is_none o ≡ false → is_some o ≡ true
some_unless None is = absurd (cc)
some_unless (Some x) is = refl

-- ranges

pub rank_fits : (z : ℤ) → is_within (negsuc 127) (pos 127) z ≡ true → is_priority z ≡ true
rank_fits (pos k) is = grind (arith, nat_tests, is)
rank_fits (negsuc k) is = grind (arith, nat_tests, is)

pub later_fits : (clock until : ℕ) (n : ℤ) → is_within (pos 1) latest n ≡ true → int_le (pos clock +ℤ n) latest ≡ true → until ≡ unsigned_abs (pos clock +ℤ n) → (nat_lt clock until && nat_le until last_moment) ≡ true
later_fits clock until (pos k) is most same = between clock until k (and_parts (nat_le 1 k) _ is).0 most same
  where
    between : (clock until k : ℕ) → nat_le 1 k ≡ true → nat_le (clock + k) last_moment ≡ true → until ≡ clock + k → (nat_lt clock until && nat_le until last_moment) ≡ true
    between clock until k some most same = grind (arith, nat_tests)
later_fits clock until (negsuc k) is most same = absurd (cc)

-- values

pub of_kind_now : (next : Next) (k : Kind) (x : Val) → is_of k x ≡ true → is_of_kind k (plain (resolved_val next x)) ≡ true
of_kind_now next kind.Int (Plain (v.Int n)) is = refl
of_kind_now next kind.Text (Plain (v.Text text)) is = refl
of_kind_now next kind.Bool (Plain (v.Bool b)) is = refl
of_kind_now next kind.Activity (Plain (v.Activity a)) is = refl
of_kind_now next kind.Timer (Plain (v.Timer t)) is = refl
of_kind_now next kind.Activity (NewActivity n) is = refl
of_kind_now next kind.Timer (NewTimer n) is = refl
of_kind_now next _ _ is = cc

pub value_fits : (next : Next) (before : List Effect) (n m : ℕ) (x : Val) → n ≡ next.activity + count_of activities_by before → m ≡ next.timer + count_of timers_by before → ValueFits next before x → is_value n m (plain (resolved_val next x)) ≡ true
value_fits next before n m (Plain (v.Int z)) one two fits = fits
value_fits next before n m (Plain (v.Text text)) one two fits = fits
value_fits next before n m (Plain (v.Bool b)) one two fits = refl
value_fits next before n m (Plain (v.Activity a)) one two fits = lt-ltb a.0 n (omega (arith, one, fits))
value_fits next before n m (Plain (v.Timer t)) one two fits = lt-ltb t.0 m (omega (arith, two, fits))
value_fits next before n m (NewActivity place) one two fits = lt-ltb (next.activity + place) n (omega (arith, one, fits))
value_fits next before n m (NewTimer place) one two fits = lt-ltb (next.timer + place) m (omega (arith, two, fits))

pub fields_fit : (next : Next) (before : List Effect) (n m : ℕ) (ds : List FieldCode) (fs : List (List ℕ × Val)) → n ≡ next.activity + count_of activities_by before → m ≡ next.timer + count_of timers_by before → FieldsSuit next before ds fs
    → (are_declared ds (map plain_field (map (resolved_field next) fs)) ≡ true) × (list_all (λ field. is_value n m (plain field.1)) (map (resolved_field next) fs) ≡ true)
fields_fit next before n m [] [] one two fit = (refl, refl)
fields_fit next before n m [] (f ∷ fs) one two fit = absurd fit
fields_fit next before n m (d ∷ ds) [] one two fit = absurd fit
fields_fit next before n m (d ∷ ds) (f ∷ fs) one two (name, sort, value, more) =
    let rest = fields_fit next before n m ds fs one two more in (
      and_from (bytes_eq d.name f.0) _ name (and_from (is_of_kind d.kind (plain (resolved_val next f.1))) _ (of_kind_now next d.kind f.1 sort) rest.0),
      and_from (is_value n m (plain (resolved_val next f.1))) _ (value_fits next before n m f.1 one two value) rest.1,
    )
