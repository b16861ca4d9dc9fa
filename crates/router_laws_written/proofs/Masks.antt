-- What a run reads of masks after its own effects is what is there once they are done, while the entity stays.
use Rattle.std.proofs.Common.{◌≡◌, ℕ, ℤ, ◌==◌, ◌&&◌, ◌||◌, Bool, true, false, List, refl, sym, ◌∙◌, ap, subst, inl, inr, not, if◌then◌else◌, Option, Some, None, [], ◌∷◌}
use Rattle.std.specs.List.{filter, list_any}
use Rattle.std.specs.Option.{option_map_or}
use Rattle.std.specs.Str.{bytes_eq}
use Rattle.std.proofs.lemmas.Bool.{and_parts, cases_Bool, cond_both, eqb-true}
use Rattle.slee_effect.specs.Resolving.{resolved_effect, resolved_ref}
use Rattle.slee_effect.specs.declared.effect.Effect.{Effect}
use Rattle.slee_effect.specs.declared.effect.Effect.TheVariants as effects
use Rattle.slee_effect.specs.declared.next.Next.{Next}
use Rattle.slee_effect.specs.declared.reference.Ref.{Ref}
use Rattle.script_meaning.specs.Overlay.{mask_set, masks_after, or_masks, same_ref}
use Rattle.script_types.specs.declared.codes.RelationCode.{RelationCode}
use Rattle.deploy_model.specs.Deployed.{masked_on_attach}
use Rattle.rows_sorted.specs.Orders.{same_pair}
use Rattle.router_laws_applying.proofs.Frames.{child_is}
use Rattle.router_laws_applying.proofs.Links.{LinksOld, link_step}
use Rattle.router_laws_applying.proofs.References.{same_numbers}
use Rattle.router_laws_applying.specs.Behind.{IsHere}
use Rattle.router_laws_effects.specs.Runs.{IsOld}
use Rattle.router_laws_sound.proofs.SoundBase.{some_there}
use Rattle.router_laws_written.proofs.Attributes.{texts_same}
use Rattle.router_laws_written.proofs.Blocks.{OfBlock, stays_out}
use Rattle.router_laws_written.proofs.MaskRows.{first_other, first_own, forgotten_other, forgotten_own, mask_seen, masked_other, masked_own, masks_left, unmasked_other, unmasked_own}
use Rattle.router_laws_written.specs.Held.{BeginsWith, has_mask}
use Rattle.router_state.specs.Changes.{after_changes}
use Rattle.router_state.specs.Contexts.{is_linked}
use Rattle.router_state.specs.Fitting.{has_activity, has_entity}
use Rattle.router_state.specs.Masks.{is_masked, with_mask_set, with_masks, without_masks}
use Rattle.router_state.specs.State.{State}
use Rattle.router_state.specs.Trees.{entity_at, tree_of}
use Rattle.router_state.specs.Well.{IsSound}
use Rattle.router_state.specs.declared.change.Change.TheVariants as changes
use Rattle.router_state.specs.declared.rows.Entity.{Entity}
use Rattle.router_state.specs.declared.rows.Mask.{Mask}
use Rattle.router_steps.specs.Applying.{applies}
use Rattle.router_steps.specs.Creating.{with_child}
use Rattle.router_steps.specs.Effects.{after_effect, number_in, relation_at}
use Rattle.router_steps.specs.Moves.{attached, first_masks}

-- an entity whose masks are set, and the activity, were drawn before the run, or are made by it
abbrev pub MasksOld : Next → Effect → Type 0
MasksOld next (effects.SetMask entity activity event on) = IsOld next.entity entity × IsOld next.activity activity
MasksOld next _ = Unit {0}

pairs : (next : Next) (e f a b : Ref) → IsOld next.entity e → IsOld next.entity f → IsOld next.activity a → IsOld next.activity b
    → same_pair (number_in (resolved_ref next.entity e)) (number_in (resolved_ref next.activity a)) (number_in (resolved_ref next.entity f)) (number_in (resolved_ref next.activity b)) ≡ (same_ref e f && same_ref a b)
pairs next e f a b one two three four = rw (same_numbers next.entity e f one two, same_numbers next.activity a b three four) refl

-- what is seen of an event where the attachment, or the mask, changes

abbrev seen_as : Bool → Bool → Option Bool
seen_as l m = if l then Some m else None

is_set : (event : List ℕ) (names : Option (List (List ℕ))) (m : Bool) → Some m ≡ has_mask event names → (x : List (List ℕ)) × (names ≡ Some x) × (list_any (bytes_eq event) x ≡ m)
is_set event None m is = absurd (cc)
is_set event (Some names) m is = (names, refl, sym (some_same is))
  where
    some_same : {x y : Bool} → Some x ≡ Some y → x ≡ y
    some_same same = cc

is_none : (event : List ℕ) (names : Option (List (List ℕ))) → None ≡ has_mask event names → names ≡ None
is_none event None is = refl
is_none event (Some names) is = absurd (cc)

-- attaching what is attached changes none, and else the first masks are there
joined : (first : List (List ℕ)) (event : List ℕ) (l m : Bool) (base : Option (List (List ℕ))) → (if l then Some m else None) ≡ has_mask event base
    → Some (if l then m else list_any (bytes_eq event) first) ≡ has_mask event (or_masks first base)
joined first event true m base is = let set = is_set event base m is in rw set.1 (ap Some (sym set.2))
joined first event false m base is = rw (is_none event base is) refl

masked : (name event : List ℕ) (on l m : Bool) (base : Option (List (List ℕ))) → (if l then Some m else None) ≡ has_mask event base
    → (if l then Some (if on then bytes_eq event name || m else not (bytes_eq event name) && m) else None) ≡ has_mask event (mask_set name on base)
masked name event on false m base is = rw (is_none event base is) refl
masked name event true true m base is = let set = is_set event base m is in rw set.1 (ap (λ b. Some (bytes_eq event name || b)) (sym set.2))
masked name event false true m base is = let set = is_set event base m is in rw set.1 (ap Some (ap (λ b. not (bytes_eq event name) && b) (sym set.2) ∙ sym (without set.0)))
  where
    without : (names : List (List ℕ)) → list_any (bytes_eq event) (filter (λ other. not (bytes_eq other name)) names) ≡ (not (bytes_eq event name) && list_any (bytes_eq event) names)
    without [] = by (bytes_eq event name)
      where
        by : (b : Bool) → false ≡ (not b && false)
        by true = refl
        by false = refl
    without (other ∷ names) = elim (cases_Bool (bytes_eq event other)) [
      | inl own ↦ (let same : bytes_eq other name ≡ bytes_eq event name = ap (λ z. bytes_eq z name) (sym (texts_same event other own)) in elim (cases_Bool (bytes_eq event name)) [
        | inl is ↦ rw (same, is) (without names ∙ rw is refl)
        | inr isnt ↦ rw (same, isnt, own) refl
      ])
      | inr not_own ↦ cond_both (not (bytes_eq other name)) (other ∷ filter (λ z. not (bytes_eq z name)) names) (filter (λ z. not (bytes_eq z name)) names) (λ zs. list_any (bytes_eq event) zs ≡ (not (bytes_eq event name) && (bytes_eq event other || list_any (bytes_eq event) names)))
          (λ _. rw not_own (without names)) (λ _. rw not_own (without names))
    ]

-- the rows of masks where an entity is attached

attached_masks : (s : State) (e a : ℕ) → (attached s e a).masks ≡ (if is_linked s.links e a then s.masks else with_masks (without_masks s.masks e a) e a (first_masks s e))
attached_masks s e a = by (is_linked s.links e a)
  where
    by : (b : Bool) → (if b then s else after_changes (changes.Attach (record { 0 = e }) (record { 0 = a }) ∷ changes.MaskOnAttach (record { 0 = e }) (record { 0 = a }) (first_masks s e) ∷ []) s).masks
        ≡ (if b then s.masks else with_masks (without_masks s.masks e a) e a (first_masks s e))
    by true = refl
    by false = refl

attached_own : (s : State) (e a : ℕ) (event : List ℕ) → is_masked (attached s e a).masks e a event ≡ (if is_linked s.links e a then is_masked s.masks e a event else list_any (bytes_eq event) (first_masks s e))
attached_own s e a event = ap (λ rows. is_masked rows e a event) (attached_masks s e a) ∙ by (is_linked s.links e a)
  where
    none : (b : Bool) → (b || false) ≡ b
    none true = refl
    none false = refl

    by : (b : Bool) → is_masked (if b then s.masks else with_masks (without_masks s.masks e a) e a (first_masks s e)) e a event ≡ (if b then is_masked s.masks e a event else list_any (bytes_eq event) (first_masks s e))
    by true = refl
    by false = first_own (without_masks s.masks e a) e a (first_masks s e) event ∙ ap (λ b. list_any (bytes_eq event) (first_masks s e) || b) (forgotten_own s.masks e a event) ∙ none (list_any (bytes_eq event) (first_masks s e))

attached_other : (s : State) (f b e a : ℕ) (event : List ℕ) → same_pair f b e a ≡ false → is_masked (attached s f b).masks e a event ≡ is_masked s.masks e a event
attached_other s f b e a event other = ap (λ rows. is_masked rows e a event) (attached_masks s f b) ∙ by (is_linked s.links f b)
  where
    by : (c : Bool) → is_masked (if c then s.masks else with_masks (without_masks s.masks f b) f b (first_masks s f)) e a event ≡ is_masked s.masks e a event
    by true = refl
    by false = first_other (without_masks s.masks f b) f b e a (first_masks s f) event other ∙ forgotten_other s.masks f b e a event other

first_are : (s : State) (e : ℕ) (event : List ℕ) (first : List (List ℕ)) → has_entity s.entities e ≡ true → OfBlock (BeginsWith s.deployment event first) s e → list_any (bytes_eq event) (first_masks s e) ≡ list_any (bytes_eq event) first
first_are s e event first there begins =
    let row = some_there (entity_at s.entities e) there in
    ap (λ o. list_any (bytes_eq event) (option_map_or (λ (r : Entity). masked_on_attach s.deployment r.block) o [])) row.1 ∙ begins row.0 row.1

set_own : (rows : List Mask) (e a : ℕ) (name event : List ℕ) (on : Bool) → is_masked (with_mask_set rows e a name on) e a event ≡ (if on then bytes_eq event name || is_masked rows e a event else not (bytes_eq event name) && is_masked rows e a event)
set_own rows e a name event true = masked_own rows e a name event
set_own rows e a name event false = unmasked_own rows e a name event

set_other : (rows : List Mask) (f b e a : ℕ) (name event : List ℕ) (on : Bool) → same_pair f b e a ≡ false → is_masked (with_mask_set rows f b name on) e a event ≡ is_masked rows e a event
set_other rows f b e a name event true other = masked_other rows f b e a name event other
set_other rows f b e a name event false other = unmasked_other rows f b e a name event other

created : (s : State) (parent : ℕ) (relation : List ℕ) (priority : ℤ) (o : Option RelationCode) → (option_map_or (λ (r : RelationCode). with_child s parent relation r.block priority) o s).masks ≡ s.masks
created s parent relation priority None = refl
created s parent relation priority (Some r) = ap (λ (t : State). t.masks) (child_is s parent relation r.block priority)

-- what is seen in two states where both the attachment and the mask are the same
same_seen : (s t : State) (e a : ℕ) (event : List ℕ) → is_linked t.links e a ≡ is_linked s.links e a → is_masked t.masks e a event ≡ is_masked s.masks e a event → mask_seen t e a event ≡ mask_seen s e a event
same_seen s t e a event one two = rw (one, two) refl

pair_numbers : (e a f b : ℕ) → same_pair e a f b ≡ true → (e ≡ f) × (a ≡ b)
pair_numbers e a f b is = let both = and_parts (e == f) (a == b) is in (eqb-true e f both.0, eqb-true a b both.1)

own_here : (s : State) (e a : ℕ) (event : List ℕ) (first : List (List ℕ)) (base : Option (List (List ℕ))) → OfBlock (BeginsWith s.deployment event first) s e → mask_seen s e a event ≡ has_mask event base
    → has_entity s.entities e ≡ true → is_linked (attached s e a).links e a ≡ true → mask_seen (attached s e a) e a event ≡ has_mask event (or_masks first base)
own_here s e a event first base begins is there now =
    ap (λ l. seen_as l (is_masked (attached s e a).masks e a event)) now ∙ ap Some (attached_own s e a event)
    ∙ ap (λ m. Some (if is_linked s.links e a then is_masked s.masks e a event else m)) (first_are s e event first there begins)
    ∙ joined first event (is_linked s.links e a) (is_masked s.masks e a event) base is

own_attached : (s : State) (f b e a : ℕ) (event : List ℕ) (first : List (List ℕ)) (base : Option (List (List ℕ))) → (f ≡ e) × (b ≡ a) → has_entity s.entities f ≡ true → OfBlock (BeginsWith s.deployment event first) s e
    → is_linked (attached s f b).links e a ≡ true → mask_seen s e a event ≡ has_mask event base → mask_seen (attached s f b) e a event ≡ has_mask event (or_masks first base)
own_attached s f b e a event first base (one, two) there begins now is =
    subst (λ k. has_entity s.entities k ≡ true → is_linked (attached s k b).links e a ≡ true → mask_seen (attached s k b) e a event ≡ has_mask event (or_masks first base)) (sym one)
    (subst (λ k. has_entity s.entities e ≡ true → is_linked (attached s e k).links e a ≡ true → mask_seen (attached s e k) e a event ≡ has_mask event (or_masks first base)) (sym two) (own_here s e a event first base begins is)) there now

-- one effect that applies does to a mask what the overlay does, while the entity stays
pub mask_step : (me : ℕ) (next : Next) (n : ℕ) (x : Effect) (s : State) (e a : Ref) (event : List ℕ) (first : List (List ℕ)) (base : Option (List (List ℕ))) → IsSound s → applies me (resolved_effect next x) s ≡ true → LinksOld next x → MasksOld next x → IsOld next.entity e → IsOld next.activity a
    → IsHere (after_effect (resolved_effect next x) s) (number_in (resolved_ref next.entity e)) → OfBlock (BeginsWith s.deployment event first) s (number_in (resolved_ref next.entity e))
    → mask_seen s (number_in (resolved_ref next.entity e)) (number_in (resolved_ref next.activity a)) event ≡ has_mask event base
    → mask_seen (after_effect (resolved_effect next x) s) (number_in (resolved_ref next.entity e)) (number_in (resolved_ref next.activity a)) event ≡ has_mask event (masks_after first e a n x base)
mask_step me next n (effects.SetField entity field value) s e a event first base sound apply links masks mine on here begins is = is
mask_step me next n (effects.SetAttr activity key value) s e a event first base sound apply links masks mine on here begins is = is
mask_step me next n (effects.Create parent under priority) s e a event first base sound apply links masks mine on here begins is =
    let x = effects.Create parent under priority in
    let p = number_in (resolved_ref next.entity parent) in
    let k = number_in (resolved_ref next.entity e) in
    let b = number_in (resolved_ref next.activity a) in
    same_seen s (after_effect (resolved_effect next x) s) k b event (link_step next n x s e a links mine on tt) (ap (λ rows. is_masked rows k b event) (created s p under priority (relation_at s p under))) ∙ is
mask_step me next n (effects.Remove entity) s e a event first base sound apply links masks mine on here begins is =
    let x = effects.Remove entity in
    let k = number_in (resolved_ref next.entity e) in
    let b = number_in (resolved_ref next.activity a) in
    let out = stays_out me next entity s k sound apply here in
    same_seen s (after_effect (resolved_effect next x) s) k b event (link_step next n x s e a links mine on out) (masks_left (tree_of s.entities (number_in (resolved_ref next.entity entity))) s k b event out) ∙ is
mask_step me next n (effects.SetPriority entity priority) s e a event first base sound apply links masks mine on here begins is = is
mask_step me next n (effects.Attach entity activity) s e a event first base sound apply links masks mine on here begins is =
    let f = number_in (resolved_ref next.entity entity) in
    let c = number_in (resolved_ref next.activity activity) in
    let k = number_in (resolved_ref next.entity e) in
    let b = number_in (resolved_ref next.activity a) in
    let now = link_step next n (effects.Attach entity activity) s e a links mine on tt in
    let same = pairs next entity e activity a links.0 mine links.1 on in
    elim (cases_Bool (same_ref entity e && same_ref activity a)) [
      | inl own ↦ rw own (own_attached s f c k b event first base (pair_numbers f c k b (same ∙ own)) (and_parts (has_entity s.entities f) (has_activity s.activities c) apply).0 begins (now ∙ rw own refl) is)
      | inr other ↦ rw other (same_seen s (attached s f c) k b event (now ∙ rw other refl) (attached_other s f c k b event (same ∙ other)) ∙ is)
    ]
mask_step me next n (effects.Detach entity activity) s e a event first base sound apply links masks mine on here begins is =
    let x = effects.Detach entity activity in
    let f = number_in (resolved_ref next.entity entity) in
    let c = number_in (resolved_ref next.activity activity) in
    let k = number_in (resolved_ref next.entity e) in
    let b = number_in (resolved_ref next.activity a) in
    let now = link_step next n x s e a links mine on tt in
    let same = pairs next entity e activity a links.0 mine links.1 on in
    elim (cases_Bool (same_ref entity e && same_ref activity a)) [
      | inl own ↦ rw own (gone (after_effect (resolved_effect next x) s) k b (now ∙ rw own refl))
      | inr other ↦ rw other (same_seen s (after_effect (resolved_effect next x) s) k b event (now ∙ rw other refl) (forgotten_other s.masks f c k b event (same ∙ other)) ∙ is)
    ]
  where
    gone : (t : State) (k b : ℕ) → is_linked t.links k b ≡ false → mask_seen t k b event ≡ None
    gone t k b none = rw none refl
mask_step me next n (effects.SetMask entity activity name set) s e a event first base sound apply links masks mine on here begins is =
    let f = number_in (resolved_ref next.entity entity) in
    let c = number_in (resolved_ref next.activity activity) in
    let k = number_in (resolved_ref next.entity e) in
    let b = number_in (resolved_ref next.activity a) in
    let same = pairs next entity e activity a masks.0 mine masks.1 on in
    elim (cases_Bool (same_ref entity e && same_ref activity a)) [
      | inl own ↦ rw own (own_set f c k b (pair_numbers f c k b (same ∙ own)) is)
      | inr other ↦ rw other (ap (λ m. seen_as (is_linked s.links k b) m) (set_other s.masks f c k b name event set (same ∙ other)) ∙ is)
    ]
  where
    own_set : (f c k b : ℕ) → (f ≡ k) × (c ≡ b) → mask_seen s k b event ≡ has_mask event base → (if is_linked s.links k b then Some (is_masked (with_mask_set s.masks f c name set) k b event) else None) ≡ has_mask event (mask_set name set base)
    own_set f c k b (one, two) is =
        ap (λ i. seen_as (is_linked s.links k b) (is_masked (with_mask_set s.masks i c name set) k b event)) one ∙ ap (λ i. seen_as (is_linked s.links k b) (is_masked (with_mask_set s.masks k i name set) k b event)) two
        ∙ ap (λ m. seen_as (is_linked s.links k b) m) (set_own s.masks k b name event set) ∙ masked name event set (is_linked s.links k b) (is_masked s.masks k b event) base is
mask_step me next n (effects.Fire activity name service fields) s e a event first base sound apply links masks mine on here begins is = is
mask_step me next n effects.NewNull s e a event first base sound apply links masks mine on here begins is = is
mask_step me next n (effects.EndNull activity) s e a event first base sound apply links masks mine on here begins is = is
mask_step me next n (effects.SetTimer activity start period times keep) s e a event first base sound apply links masks mine on here begins is = is
mask_step me next n (effects.CancelTimer timer) s e a event first base sound apply links masks mine on here begins is = is
mask_step me next n (effects.Bind word activity) s e a event first base sound apply links masks mine on here begins is = is
mask_step me next n (effects.Unbind word) s e a event first base sound apply links masks mine on here begins is = is
mask_step me next n (effects.Emit entity text) s e a event first base sound apply links masks mine on here begins is = is
mask_step me next n (effects.Usage entity usage amount) s e a event first base sound apply links masks mine on here begins is = is
mask_step me next n (effects.Suspend activity until) s e a event first base sound apply links masks mine on here begins is = is
mask_step me next n (effects.Resume activity) s e a event first base sound apply links masks mine on here begins is = is
