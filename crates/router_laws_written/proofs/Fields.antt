-- What a run reads of a field after its own effects is what is there once they are done, while the entity stays.
use Rattle.std.proofs.Common.{◌≡◌, ℕ, ℤ, ◌+◌, ◌<◌, ◌≤◌, ◌==◌, ◌&&◌, ◌||◌, Bool, true, false, List, [], ◌∷◌, ◌++◌, flat_map, refl, sym, ◌∙◌, ap, subst, inl, inr, arith, not, if◌then◌else◌, Some, None}
use Rattle.std.specs.Prelude.{is_some, nat_lt, option_map}
use Rattle.std.specs.List.{AllByRecursion, filter, find, list_all}
use Rattle.std.specs.Str.{bytes_eq}
use Rattle.std.proofs.lemmas.Bool.{and_parts, cases_Bool, cond_both, eqb-true, false_from_ne_true, false≢true, ltb-true}
use Rattle.std.proofs.lemmas.Bool.Decides.{nat_tests}
use Rattle.slee_value.specs.Order.{is_below}
use Rattle.slee_value.specs.declared.kind.Kind.{Kind}
use Rattle.slee_value.specs.declared.kind.Kind.TheVariants as kinds
use Rattle.slee_value.specs.declared.value.Value.{Value}
use Rattle.slee_effect.specs.Resolving.{resolved_effect, resolved_ref, resolved_val}
use Rattle.slee_effect.specs.declared.effect.Effect.{Effect}
use Rattle.slee_effect.specs.declared.effect.Effect.TheVariants as effects
use Rattle.slee_effect.specs.declared.next.Next.{Next}
use Rattle.slee_effect.specs.declared.reference.Ref.{Ref}
use Rattle.slee_effect.specs.declared.reference.Ref.TheVariants.{Known}
use Rattle.slee_effect.specs.declared.value.Val.{Val}
use Rattle.script_types.specs.Codes.{named}
use Rattle.script_types.specs.declared.codes.FieldCode.{FieldCode}
use Rattle.script_types.specs.declared.codes.RelationCode.{RelationCode}
use Rattle.script_meaning.specs.Answers.{initial}
use Rattle.script_meaning.specs.Overlay.{field_after, same_ref}
use Rattle.deploy_model.specs.Deployed.{Deployed, block_fields}
use Rattle.rows_sorted.specs.Orders.{rises_by, same_text, text_before}
use Rattle.router_laws.proofs.ListLemmas.{find_kept, find_put_other, find_put_own}
use Rattle.router_laws.proofs.OrderLemmas.{below_joins}
use Rattle.router_laws.proofs.Removal.{in_list}
use Rattle.router_laws.proofs.RisingLemmas.{InOrder, order_from_rises}
use Rattle.router_laws_applying.proofs.Frames.{child_is, child_state}
use Rattle.router_laws_applying.proofs.Kids.{made_rows}
use Rattle.router_laws_applying.proofs.References.{same_numbers}
use Rattle.router_laws_applying.specs.Behind.{IsHere}
use Rattle.router_laws_effects.specs.Runs.{IsOld}
use Rattle.router_laws_sound.proofs.SoundBase.{entities_drawn, there_below}
use Rattle.router_laws_sound.proofs.SoundCreated.{new_entity, new_found, with_fields}
use Rattle.router_laws_sound.proofs.SoundFields.{not_below_itself}
use Rattle.router_laws_written.proofs.Attributes.{key_level, key_sides, plain_held, texts_same}
use Rattle.router_laws_written.proofs.Blocks.{OfBlock, stays_out}
use Rattle.router_laws_written.specs.Held.{field_held, held}
use Rattle.router_state.specs.Changes.{after_changes}
use Rattle.router_state.specs.Contexts.{is_linked}
use Rattle.router_state.specs.Fields.{field_at, field_before, with_field, without_fields}
use Rattle.router_state.specs.Fits.{is_priority, is_value}
use Rattle.router_state.specs.State.{State}
use Rattle.router_state.specs.Trees.{entity_at, tree_of}
use Rattle.router_state.specs.Well.{IsSound}
use Rattle.router_state.specs.WellEntities.{is_field_row}
use Rattle.router_state.specs.declared.change.Change.TheVariants as changes
use Rattle.router_state.specs.declared.rows.Entity.{Entity}
use Rattle.router_state.specs.declared.rows.Field.{Field}
use Rattle.router_state.specs.declared.rows.Link.{Link}
use Rattle.router_state.specs.declared.rows.Stem.TheVariants as stems
use Rattle.router_steps.specs.Applying.{applies}
use Rattle.router_steps.specs.Effects.{after_effect, number_in, plain, relation_at}
use Rattle.router_steps.specs.Going.{all_removed, removed}
use Rattle.router_steps.specs.Moves.{attached, changes_of_detaching}
use Rattle.router_steps.specs.Values.{unset}

-- fields in their list

field_put : (rows : List Field) (b a : ℕ) (key other : List ℕ) (value : Value) → field_at (with_field rows b key value) a other ≡ (if (b == a) && bytes_eq key other then Some value else field_at rows a other)
field_put rows b a key other value = elim (cases_Bool ((b == a) && bytes_eq key other)) [
  | inl is ↦ rw is (ap (option_map (λ (row : Field). row.value)) (find_put_own field_before q new rows is (λ x mine. level x (parts x.entity.0 a x.name other mine) (parts b a key other is))))
  | inr isnt ↦ rw isnt (ap (option_map (λ (row : Field). row.value)) (find_put_other field_before q new rows (text_before a other b key) (text_before b key a other) isnt
      (key_sides a b other key isnt) (λ x mine. ahead x (parts x.entity.0 a x.name other mine)) (λ x mine. behind x (parts x.entity.0 a x.name other mine))))
]
  where
    new : Field
    new = record { entity = record { 0 = b }; name = key; value = value }

    q : Field → Bool
    q row = same_text row.entity.0 row.name a other

    parts : (m n : ℕ) (x y : List ℕ) → same_text m x n y ≡ true → (m ≡ n) × (x ≡ y)
    parts m n x y is = let both = and_parts (m == n) (bytes_eq x y) is in (eqb-true m n both.0, texts_same x y both.1)

    level : (x : Field) → (x.entity.0 ≡ a) × (x.name ≡ other) → (b ≡ a) × (key ≡ other) → text_before x.entity.0 x.name b key ≡ false
    level x one two = rw (one.0, one.1, two.0, two.1) (key_level a other)

    ahead : (x : Field) → (x.entity.0 ≡ a) × (x.name ≡ other) → text_before x.entity.0 x.name b key ≡ text_before a other b key
    ahead x one = rw (one.0, one.1) refl

    behind : (x : Field) → (x.entity.0 ≡ a) × (x.name ≡ other) → text_before b key x.entity.0 x.name ≡ text_before b key a other
    behind x one = rw (one.0, one.1) refl

-- the fields of a new entity hold the first values of their kinds

-- a field of this name is of this kind
abbrev pub AreOfKind : List ℕ → Kind → List FieldCode → Type 0
AreOfKind name kind fields = AllByRecursion (λ (f : FieldCode). bytes_eq f.name name ≡ true → f.kind ≡ kind) fields

first_held : (kind : Kind) → held kind (Some (unset kind)) ≡ initial kind
first_held kinds.Int = refl
first_held kinds.Text = refl
first_held kinds.Bool = refl
first_held kinds.Activity = refl
first_held kinds.Timer = refl

own_first : (fields : List FieldCode) (rows : List Field) (e : ℕ) (name : List ℕ) (kind : Kind) → AreOfKind name kind fields → held kind (field_at rows e name) ≡ initial kind → held kind (field_at (with_fields rows e fields) e name) ≡ initial kind
own_first [] rows e name kind of is = is
own_first (f ∷ fields) rows e name kind of is =
    own_first fields (with_field rows e f.name (unset f.kind)) e name kind of.1 (ap (held kind) (field_put rows e e f.name name (unset f.kind)) ∙ by (e == e) (bytes_eq f.name name) (λ own. of.0 own))
  where
    by : (b c : Bool) → (c ≡ true → f.kind ≡ kind) → held kind (if b && c then Some (unset f.kind) else field_at rows e name) ≡ initial kind
    by true true own = subst (λ k. held kind (Some (unset k)) ≡ initial kind) (sym (own refl)) (first_held kind)
    by true false own = is
    by false c own = is

other_first : (fields : List FieldCode) (rows : List Field) (e b : ℕ) (name : List ℕ) → (e == b) ≡ false → field_at (with_fields rows e fields) b name ≡ field_at rows b name
other_first [] rows e b name other = refl
other_first (f ∷ fields) rows e b name other =
    other_first fields (with_field rows e f.name (unset f.kind)) e b name other ∙ field_put rows e b f.name name (unset f.kind) ∙ rw other refl

-- an entity that isn't there yet has no field
pub none_new : (s : State) (k : ℕ) (name : List ℕ) → IsSound s → s.next_entity ≤ k → field_at s.fields k name ≡ None
none_new s k name sound le = ap (option_map (λ (row : Field). row.value)) (each s.fields (and_parts (list_all (is_field_row s.entities s.next_activity s.next_timer) s.fields) _ (and_parts (rises_by field_before s.fields) _ sound.fields).1).0)
  where
    differ : (x n : ℕ) → nat_lt x n ≡ true → n ≤ k → (x == k) ≡ false
    differ x n less le = false_from_ne_true (x == k) (λ is. clash (ltb-true x n less) (eqb-true x k is))
      where
        clash : x < n → x ≡ k → ⊥
        clash below same = absurd (omega (arith, le, below, same))

    each : (rows : List Field) → list_all (is_field_row s.entities s.next_activity s.next_timer) rows ≡ true → find (λ (row : Field). same_text row.entity.0 row.name k name) rows ≡ None
    each [] all = refl
    each (row ∷ rows) all =
        let parts = and_parts (is_field_row s.entities s.next_activity s.next_timer row) (list_all (is_field_row s.entities s.next_activity s.next_timer) rows) all in
        let there = (and_parts (is_some (entity_at s.entities row.entity.0)) (is_value s.next_activity s.next_timer row.value) parts.0).0 in
        let other = differ row.entity.0 s.next_entity (there_below (λ (r : Entity). r.number.0) s.next_entity row.entity.0 s.entities there (entities_drawn s.deployment s.entities s.next_entity sound.entities)) le in
        rw other (each rows parts.1)

-- the fields of what stays when several entities go

fields_gone : (links : List Link) (e : ℕ) (s : State)
    → (after_changes (flat_map changes_of_detaching links ++ changes.ForgetFields (record { 0 = e }) ∷ changes.Remove (record { 0 = e }) ∷ []) s).fields ≡ without_fields s.fields e
fields_gone [] e s = refl
fields_gone (l ∷ links) e s = fields_gone links e (after_changes (changes_of_detaching l) s)

field_left : (gone : List ℕ) (s : State) (e : ℕ) (name : List ℕ) → in_list e gone ≡ false → field_at (all_removed gone s).fields e name ≡ field_at s.fields e name
field_left [] s e name out = refl
field_left (g ∷ gone) s e name out =
    let parts = or_false (g == e) (in_list e gone) out in
    field_left gone (removed s g) e name parts.1 ∙ ap (λ rows. field_at rows e name) (fields_gone (filter (λ (l : Link). l.entity.0 == g) s.links) g s)
    ∙ ap (option_map (λ (row : Field). row.value)) (find_kept (λ (row : Field). same_text row.entity.0 row.name e name) (λ (row : Field). not (row.entity.0 == g)) (λ x mine. stays x.entity.0 g e (bytes_eq x.name name) mine parts.0) s.fields)
  where
    or_false : (b c : Bool) → (b || c) ≡ false → (b ≡ false) × (c ≡ false)
    or_false true c is = absurd (cc)
    or_false false c is = (refl, is)

    stays : (x g e : ℕ) (c : Bool) → ((x == e) && c) ≡ true → (g == e) ≡ false → not (x == g) ≡ true
    stays x g e c mine other = grind (arith, nat_tests)

-- what effects leave

linked : (s : State) (e a : ℕ) → (attached s e a).fields ≡ s.fields
linked s e a = cond_both (is_linked s.links e a) s _ (λ (t : State). t.fields ≡ s.fields) (λ _. refl) (λ _. refl)

left : (next : Next) (kind : Kind) (s t : State) (e : Ref) (name : List ℕ) (base : Val) → t.fields ≡ s.fields → field_held next kind s e name ≡ resolved_val next base → field_held next kind t e name ≡ resolved_val next base
left next kind s t e name base same is = ap (λ rows. held kind (field_at rows (number_in (resolved_ref next.entity e)) name)) same ∙ is

-- a field whose entity is set was drawn before the run, or is made by it
abbrev pub FieldsOld : ℕ → Effect → Type 0
FieldsOld next (effects.SetField entity field value) = IsOld next entity
FieldsOld next _ = Unit {0}

-- the block of an entity that is there declares a field of this name with this kind, if it declares it
abbrev pub HasKind : State → ℕ → List ℕ → Kind → Type 0
HasKind s e name kind = OfBlock (λ block. AreOfKind name kind (block_fields s.deployment block)) s e

created : (next : Next) (n : ℕ) (s : State) (parent : ℕ) (under : List ℕ) (priority : ℤ) (e : Ref) (name : List ℕ) (kind : Kind) (base : Val) → IsSound s → is_some (relation_at s parent under) ≡ true → s.next_entity ≡ next.entity + n → IsOld next.entity e
    → OfBlock (λ block. AreOfKind name kind (block_fields s.deployment block)) (after_effect (effects.Create (Known parent) under priority) s) (number_in (resolved_ref next.entity e))
    → field_held next kind s e name ≡ resolved_val next base → field_held next kind (after_effect (effects.Create (Known parent) under priority) s) e name ≡ resolved_val next base
created next n s parent under priority e name kind base sound some drawn mine kinds is =
    let made = made_rows s parent under priority (relation_at s parent under) some in
    let k = number_in (resolved_ref next.entity e) in
    let new = new_entity s.next_entity made.0.block (stems.Child (record { 0 = parent }) under) priority in
    ap (λ (t : State). held kind (field_at t.fields k name)) (child_made made.0 made.1) ∙ elim (cases_Bool (s.next_entity == k)) [
      | inl own ↦ (let same = eqb-true s.next_entity k own in
          let found : entity_at (after_effect (effects.Create (Known parent) under priority) s).entities k ≡ Some new =
          ap (λ rows. entity_at rows k) made.2 ∙ subst (λ i. entity_at (s.entities ++ new ∷ []) i ≡ Some new) same (new_found s.entities s.next_entity made.0.block (stems.Child (record { 0 = parent }) under) priority (entities_drawn s.deployment s.entities s.next_entity sound.entities)) in
          let none : held kind (field_at s.fields k name) ≡ initial kind = ap (held kind) (subst (λ i. field_at s.fields i name ≡ None) same (none_new s s.next_entity name sound (omega arith))) in
          subst (λ i. held kind (field_at (with_fields s.fields i (block_fields s.deployment made.0.block)) k name) ≡ initial kind) (sym same) (own_first (block_fields s.deployment made.0.block) s.fields k name kind (kinds new found) none) ∙ sym none ∙ is)
      | inr other ↦ ap (held kind) (other_first (block_fields s.deployment made.0.block) s.fields s.next_entity k name other) ∙ is
    ]
  where
    child_made : (r : RelationCode) → relation_at s parent under ≡ Some r → after_effect (effects.Create (Known parent) under priority) s ≡ child_state s parent under r.block priority
    child_made r found = rw found (child_is s parent under r.block priority)

-- one effect that applies does to a field what the overlay does, while the entity stays
pub field_step : (me : ℕ) (next : Next) (n : ℕ) (x : Effect) (s : State) (e : Ref) (name : List ℕ) (kind : Kind) (base : Val) → IsSound s → applies me (resolved_effect next x) s ≡ true → s.next_entity ≡ next.entity + n → FieldsOld next.entity x → IsOld next.entity e
    → IsHere (after_effect (resolved_effect next x) s) (number_in (resolved_ref next.entity e))
    → OfBlock (λ block. AreOfKind name kind (block_fields s.deployment block)) (after_effect (resolved_effect next x) s) (number_in (resolved_ref next.entity e))
    → field_held next kind s e name ≡ resolved_val next base → field_held next kind (after_effect (resolved_effect next x) s) e name ≡ resolved_val next (field_after e name n x base)
field_step me next n (effects.SetField entity field value) s e name kind base sound apply drawn old mine here kinds is =
    ap (held kind) (field_put s.fields (number_in (resolved_ref next.entity entity)) (number_in (resolved_ref next.entity e)) field name (plain (resolved_val next value)))
    ∙ rw (same_numbers next.entity entity e old mine) (cases (same_ref entity e && bytes_eq field name))
  where
    cases : (b : Bool) → held kind (if b then Some (plain (resolved_val next value)) else field_at s.fields (number_in (resolved_ref next.entity e)) name) ≡ resolved_val next (if b then value else base)
    cases true = plain_held next kind value
    cases false = is
field_step me next n (effects.SetAttr activity key value) s e name kind base sound apply drawn old mine here kinds is = is
field_step me next n (effects.Create parent under priority) s e name kind base sound apply drawn old mine here kinds is =
    created next n s (number_in (resolved_ref next.entity parent)) under priority e name kind base sound (and_parts (is_some (relation_at s (number_in (resolved_ref next.entity parent)) under)) (is_priority priority) apply).0 drawn mine kinds is
field_step me next n (effects.Remove entity) s e name kind base sound apply drawn old mine here kinds is =
    let k = number_in (resolved_ref next.entity e) in
    ap (held kind) (field_left (tree_of s.entities (number_in (resolved_ref next.entity entity))) s k name (stays_out me next entity s k sound apply here)) ∙ is
field_step me next n (effects.SetPriority entity priority) s e name kind base sound apply drawn old mine here kinds is = is
field_step me next n (effects.Attach entity activity) s e name kind base sound apply drawn old mine here kinds is =
    left next kind s (after_effect (resolved_effect next (effects.Attach entity activity)) s) e name base (linked s (number_in (resolved_ref next.entity entity)) (number_in (resolved_ref next.activity activity))) is
field_step me next n (effects.Detach entity activity) s e name kind base sound apply drawn old mine here kinds is = is
field_step me next n (effects.SetMask entity activity event on) s e name kind base sound apply drawn old mine here kinds is = is
field_step me next n (effects.Fire activity event service fields) s e name kind base sound apply drawn old mine here kinds is = is
field_step me next n effects.NewNull s e name kind base sound apply drawn old mine here kinds is = is
field_step me next n (effects.EndNull activity) s e name kind base sound apply drawn old mine here kinds is = is
field_step me next n (effects.SetTimer activity start period times keep) s e name kind base sound apply drawn old mine here kinds is = is
field_step me next n (effects.CancelTimer timer) s e name kind base sound apply drawn old mine here kinds is = is
field_step me next n (effects.Bind word activity) s e name kind base sound apply drawn old mine here kinds is = is
field_step me next n (effects.Unbind word) s e name kind base sound apply drawn old mine here kinds is = is
field_step me next n (effects.Emit entity text) s e name kind base sound apply drawn old mine here kinds is = is
field_step me next n (effects.Usage entity usage amount) s e name kind base sound apply drawn old mine here kinds is = is
field_step me next n (effects.Suspend activity until) s e name kind base sound apply drawn old mine here kinds is = is
field_step me next n (effects.Resume activity) s e name kind base sound apply drawn old mine here kinds is = is

-- in a block whose fields rise, those of a name are the one that is found by it

kind_of_named : (name : List ℕ) (f : FieldCode) (fields : List FieldCode) → InOrder (λ (x y : FieldCode). is_below x.name y.name) fields → named (λ (f : FieldCode). f.name) name fields ≡ Some f → AreOfKind name f.kind fields
kind_of_named name f [] order found = tt
kind_of_named name f (g ∷ fields) order found = elim (cases_Bool (bytes_eq g.name name)) [
  | inl own ↦ ((λ _. ap (λ (x : FieldCode). x.kind) (some_same (rw own at found))), later g fields own order.0)
  | inr other ↦ ((λ own. absurd (false≢true (sym other ∙ own))), kind_of_named name f fields order.1 (rw other at found))
]
  where
    some_same : {x y : FieldCode} → Some x ≡ Some y → x ≡ y
    some_same same = cc

    later : (g : FieldCode) (rest : List FieldCode) → bytes_eq g.name name ≡ true → AllByRecursion (λ (y : FieldCode). is_below g.name y.name ≡ true) rest → AreOfKind name f.kind rest
    later g [] own all = tt
    later g (h ∷ rest) own all = ((λ too. absurd (false≢true (sym (not_below_itself g.name) ∙ subst (λ y. is_below g.name y ≡ true) (texts_same h.name name too ∙ sym (texts_same g.name name own)) all.0))), later g rest own all.1)

pub kinds_of_block : (d : Deployed) (block : ℕ) (name : List ℕ) (f : FieldCode) → rises_by (λ (x y : FieldCode). is_below x.name y.name) (block_fields d block) ≡ true → named (λ (f : FieldCode). f.name) name (block_fields d block) ≡ Some f → AreOfKind name f.kind (block_fields d block)
kinds_of_block d block name f rises found =
    kind_of_named name f (block_fields d block) (order_from_rises (λ (x y : FieldCode). is_below x.name y.name) (λ x y z. below_joins x.name y.name z.name) (block_fields d block) rises) found
