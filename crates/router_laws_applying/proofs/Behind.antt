-- What is so in a state behind some effects of a delivery, each of which applied.
use Rattle.router_laws.proofs.KeptLemmas.{same_effect}
use Rattle.router_laws.proofs.Removal.{from_in_list, in_list}
use Rattle.router_laws.specs.Forest.{IsIn}
use Rattle.router_laws_applying.proofs.Frames.{stays_timed}
use Rattle.router_laws_applying.proofs.Kids.{KidsOld, attached_rows, block_ranked, drawn_entities, drawn_timers, here_before, kid_step, made_rows}
use Rattle.router_laws_applying.proofs.Laid.{count_last, laid}
use Rattle.router_laws_applying.proofs.Links.{LinksOld, StaysOut, link_step, out_of}
use Rattle.router_laws_applying.proofs.Names.{name_step}
use Rattle.router_laws_applying.proofs.Trees.{in_tree, kid_row}
use Rattle.router_laws_applying.specs.Behind.{IsBehind, IsHere, attached_told}
use Rattle.router_laws_applying.specs.Seen.{numbered, numbers_of}
use Rattle.router_laws_applying.specs.Suited.{ChildrenAfter, children_told}
use Rattle.router_laws_effects.proofs.OwnWrites.{activity_step, amidst_step}
use Rattle.router_laws_effects.specs.Runs.{EndsOld, IsAmidst, IsOld, activity_seen}
use Rattle.router_laws_sound.proofs.SoundApplied.{sound_effect}
use Rattle.router_laws_sound.proofs.SoundBase.{entities_drawn, found_more, there_below}
use Rattle.router_laws_sound.proofs.SoundCreated.{new_entity}
use Rattle.router_laws_sound.proofs.SoundEntities.{passes_in}
use Rattle.router_laws_sound.proofs.SoundRemoval.{entity_left}
use Rattle.router_laws.proofs.Removal.{left_entities}
use Rattle.router_laws_sound.proofs.SoundTrees.{removed_alone}
use Rattle.router_steps.specs.Going.{all_removed}
use Rattle.router_laws_sound.specs.Rooms.{HasRoom, IsDeployed}
use Rattle.router_state.specs.Fits.{is_priority}
use Rattle.router_state.specs.Fitting.{has_entity}
use Rattle.router_state.specs.Queues.{is_undelivered}
use Rattle.router_state.specs.State.{State}
use Rattle.router_state.specs.Trees.{children_under, entity_at, parent_of, tree_of}
use Rattle.router_state.specs.Well.{IsSound}
use Rattle.router_state.specs.declared.rows.Entity.{Entity}
use Rattle.router_state.specs.declared.rows.Stem.TheVariants as stems
use Rattle.router_steps.specs.Applying.{applies}
use Rattle.router_steps.specs.Creating.{with_child}
use Rattle.router_steps.specs.Effects.{after_effect, next_in, number_in, relation_at}
use Rattle.router_steps.specs.Scripts.{answers_in}
use Rattle.script_meaning.specs.Answers.{refers_in}
use Rattle.script_meaning.specs.Overlay.{activities_by, activity_after, attached_after, children_after, count_of, entities_by, named_after, overlay, overlay_from, same_ref, timers_by}
use Rattle.script_meaning.specs.declared.key.Key.TheVariants as keys
use Rattle.script_types.specs.declared.codes.RelationCode.{RelationCode}
use Rattle.slee_effect.specs.Resolving.{resolved_effect, resolved_ref}
use Rattle.slee_effect.specs.declared.effect.Effect.{Effect}
use Rattle.slee_effect.specs.declared.effect.Effect.TheVariants as effects
use Rattle.slee_effect.specs.declared.next.Next.{Next}
use Rattle.slee_effect.specs.declared.reference.Ref.{Ref}
use Rattle.slee_effect.specs.declared.reference.Ref.TheVariants.{Known, Fresh}
use Rattle.std.proofs.Common.{◌≡◌, Bool, true, false, ℕ, ℤ, ◌+◌, ◌<◌, ◌≤◌, ◌==◌, ◌&&◌, ◌⊎◌, not, List, [], ◌∷◌, ◌++◌, map, filter, length, refl, sym, ap, subst, ◌∙◌, inl, inr, arith, Option, Some, None}
use Rattle.std.proofs.lemmas.Bool.{and_parts, cond_both, false_from_ne_true, ltb-true, not-true}
use Rattle.std.specs.List.{AllByRecursion, list_any}
use Rattle.std.specs.Option.{option_map_or}
use Rattle.std.specs.Prelude.{is_some, nat_lt, option_map}
use Rattle.std.specs.Str.{bytes_eq}

-- what is new is resolved, and as much is made

pub makes_activities : (next : Next) (x : Effect) → activities_by (resolved_effect next x) ≡ activities_by x
makes_activities next (effects.SetField entity field value) = refl
makes_activities next (effects.SetAttr activity key value) = refl
makes_activities next (effects.Create parent under priority) = refl
makes_activities next (effects.Remove entity) = refl
makes_activities next (effects.SetPriority entity priority) = refl
makes_activities next (effects.Attach entity activity) = refl
makes_activities next (effects.Detach entity activity) = refl
makes_activities next (effects.SetMask entity activity event on) = refl
makes_activities next (effects.Fire activity event service fields) = refl
makes_activities next effects.NewNull = refl
makes_activities next (effects.EndNull activity) = refl
makes_activities next (effects.SetTimer activity start period times keep) = refl
makes_activities next (effects.CancelTimer timer) = refl
makes_activities next (effects.Bind word activity) = refl
makes_activities next (effects.Unbind word) = refl
makes_activities next (effects.Emit entity text) = refl
makes_activities next (effects.Usage entity usage amount) = refl
makes_activities next (effects.Suspend activity until) = refl
makes_activities next (effects.Resume activity) = refl

pub makes_entities : (next : Next) (x : Effect) → entities_by (resolved_effect next x) ≡ entities_by x
makes_entities next (effects.SetField entity field value) = refl
makes_entities next (effects.SetAttr activity key value) = refl
makes_entities next (effects.Create parent under priority) = refl
makes_entities next (effects.Remove entity) = refl
makes_entities next (effects.SetPriority entity priority) = refl
makes_entities next (effects.Attach entity activity) = refl
makes_entities next (effects.Detach entity activity) = refl
makes_entities next (effects.SetMask entity activity event on) = refl
makes_entities next (effects.Fire activity event service fields) = refl
makes_entities next effects.NewNull = refl
makes_entities next (effects.EndNull activity) = refl
makes_entities next (effects.SetTimer activity start period times keep) = refl
makes_entities next (effects.CancelTimer timer) = refl
makes_entities next (effects.Bind word activity) = refl
makes_entities next (effects.Unbind word) = refl
makes_entities next (effects.Emit entity text) = refl
makes_entities next (effects.Usage entity usage amount) = refl
makes_entities next (effects.Suspend activity until) = refl
makes_entities next (effects.Resume activity) = refl

pub makes_timers : (next : Next) (x : Effect) → timers_by (resolved_effect next x) ≡ timers_by x
makes_timers next (effects.SetField entity field value) = refl
makes_timers next (effects.SetAttr activity key value) = refl
makes_timers next (effects.Create parent under priority) = refl
makes_timers next (effects.Remove entity) = refl
makes_timers next (effects.SetPriority entity priority) = refl
makes_timers next (effects.Attach entity activity) = refl
makes_timers next (effects.Detach entity activity) = refl
makes_timers next (effects.SetMask entity activity event on) = refl
makes_timers next (effects.Fire activity event service fields) = refl
makes_timers next effects.NewNull = refl
makes_timers next (effects.EndNull activity) = refl
makes_timers next (effects.SetTimer activity start period times keep) = refl
makes_timers next (effects.CancelTimer timer) = refl
makes_timers next (effects.Bind word activity) = refl
makes_timers next (effects.Unbind word) = refl
makes_timers next (effects.Emit entity text) = refl
makes_timers next (effects.Usage entity usage amount) = refl
makes_timers next (effects.Suspend activity until) = refl
makes_timers next (effects.Resume activity) = refl

-- the children that a run sees were drawn before it, or are new

all_filtered : {X : Type 0} (P : X → Type 0) (p : X → Bool) (xs : List X) → AllByRecursion P xs → AllByRecursion P (filter p xs)
all_filtered P p [] all = tt
all_filtered P p (x ∷ xs) all = cond_both (p x) (x ∷ filter p xs) (filter p xs) (AllByRecursion P) (λ _. (all.0, all_filtered P p xs all.1)) (λ _. all_filtered P p xs all.1)

all_ended : {X : Type 0} (P : X → Type 0) (xs : List X) (y : X) → AllByRecursion P xs → P y → AllByRecursion P (xs ++ y ∷ [])
all_ended P [] y all one = (one, tt)
all_ended P (x ∷ xs) y all one = (all.0, all_ended P xs y all.1 one)

kids_old_step : (next : ℕ) (p : Ref) (relation : List ℕ) (n : ℕ) (x : Effect) (kids : List Ref) → AllByRecursion (IsOld next) kids → AllByRecursion (IsOld next) (children_after p relation n x kids)
kids_old_step next p relation n (effects.SetField entity field value) kids all = all
kids_old_step next p relation n (effects.SetAttr activity key value) kids all = all
kids_old_step next p relation n (effects.Create parent under priority) kids all =
    cond_both (same_ref parent p && bytes_eq under relation) (kids ++ Fresh n ∷ []) kids (AllByRecursion (IsOld next)) (λ _. all_ended (IsOld next) kids (Fresh n) all tt) (λ _. all)
kids_old_step next p relation n (effects.Remove entity) kids all = all_filtered (IsOld next) (λ r. not (same_ref r entity)) kids all
kids_old_step next p relation n (effects.SetPriority entity priority) kids all = all
kids_old_step next p relation n (effects.Attach entity activity) kids all = all
kids_old_step next p relation n (effects.Detach entity activity) kids all = all
kids_old_step next p relation n (effects.SetMask entity activity event on) kids all = all
kids_old_step next p relation n (effects.Fire activity event service fields) kids all = all
kids_old_step next p relation n effects.NewNull kids all = all
kids_old_step next p relation n (effects.EndNull activity) kids all = all
kids_old_step next p relation n (effects.SetTimer activity start period times keep) kids all = all
kids_old_step next p relation n (effects.CancelTimer timer) kids all = all
kids_old_step next p relation n (effects.Bind word activity) kids all = all
kids_old_step next p relation n (effects.Unbind word) kids all = all
kids_old_step next p relation n (effects.Emit entity text) kids all = all
kids_old_step next p relation n (effects.Usage entity usage amount) kids all = all
kids_old_step next p relation n (effects.Suspend activity until) kids all = all
kids_old_step next p relation n (effects.Resume activity) kids all = all

kids_old_from : (next : ℕ) (p : Ref) (relation : List ℕ) (n : ℕ) (es : List Effect) (kids : List Ref) → AllByRecursion (IsOld next) kids → AllByRecursion (IsOld next) (overlay_from entities_by (children_after p relation) n es kids)
kids_old_from next p relation n [] kids all = all
kids_old_from next p relation n (x ∷ es) kids all = kids_old_from next p relation (n + entities_by x) es (children_after p relation n x kids) (kids_old_step next p relation n x kids all)

told_old : (s : State) (p : Ref) (relation : List ℕ) → IsSound s → AllByRecursion (IsOld s.next_entity) (children_told s p relation)
told_old s (Fresh place) relation sound = tt
told_old s (Known n) relation sound = each (children_under s.entities n relation) (λ k there. there)
  where
    drawn : (k : ℕ) → IsIn k (children_under s.entities n relation) → k < s.next_entity
    drawn k there =
        let kid = kid_row s.entities n relation k there in
        subst (λ m. m < s.next_entity) kid.2 (ltb-true kid.0.number.0 s.next_entity (passes_in (λ (r : Entity). nat_lt r.number.0 s.next_entity) s.entities kid.0 kid.1 (entities_drawn s.deployment s.entities s.next_entity sound.entities)))

    each : (ks : List ℕ) → ((k : ℕ) → IsIn k ks → IsIn k (children_under s.entities n relation)) → AllByRecursion (IsOld s.next_entity) (map Known ks)
    each [] all = tt
    each (k ∷ ks) all = (drawn k (all k (inl refl)), each ks (λ j there. all j (inr there)))

pub kids_old : (s : State) (before : List Effect) (p : Ref) (relation : List ℕ) → IsSound s → AllByRecursion (IsOld s.next_entity) (ChildrenAfter s before p relation)
kids_old s before p relation sound = kids_old_from s.next_entity p relation 0 before (children_told s p relation) (told_old s p relation sound)

-- what is here when a tree is gone isn't in it
pub out_here : (s : State) (e k : ℕ) → IsSound s → has_entity s.entities e ≡ true → (s.next_entity ≤ k) → in_list k (tree_of s.entities e) ≡ false
out_here s e k sound there le = false_from_ne_true (in_list k (tree_of s.entities e)) (λ here. clash (in_tree (length s.entities) s.entities e k (from_in_list k (tree_of s.entities e) here)))
  where
    clash : (k ≡ e) ⊎ ((row : Entity) × IsIn row s.entities × (row.number.0 ≡ k) × IsIn (parent_of row) (tree_of s.entities e)) → ⊥
    clash (inl top) =
        let below = ltb-true e s.next_entity (there_below (λ (r : Entity). r.number.0) s.next_entity e s.entities there (entities_drawn s.deployment s.entities s.next_entity sound.entities)) in
        absurd (omega (arith, le, top, below))
    clash (inr lower) =
        let below = ltb-true lower.0.number.0 s.next_entity (passes_in (λ (r : Entity). nat_lt r.number.0 s.next_entity) s.entities lower.0 lower.1 (entities_drawn s.deployment s.entities s.next_entity sound.entities)) in
        let same = lower.2 in
        absurd (omega (arith, le, same, below))

stays_out : (me : ℕ) (next : Next) (x : Effect) (s : State) (k : ℕ) → IsSound s → applies me (resolved_effect next x) s ≡ true → IsHere (after_effect (resolved_effect next x) s) k → StaysOut next s k x
stays_out me next (effects.SetField entity field value) s k sound is here = tt
stays_out me next (effects.SetAttr activity key value) s k sound is here = tt
stays_out me next (effects.Create parent under priority) s k sound is here = tt
stays_out me next (effects.Remove entity) s k sound is here = gone (and_parts (has_entity s.entities (number_in (resolved_ref next.entity entity))) _ is).0 here
  where
    gone : has_entity s.entities (number_in (resolved_ref next.entity entity)) ≡ true → IsHere (all_removed (tree_of s.entities (number_in (resolved_ref next.entity entity))) s) k → in_list k (tree_of s.entities (number_in (resolved_ref next.entity entity))) ≡ false
    gone there (inl stays) = out_of (tree_of s.entities (number_in (resolved_ref next.entity entity))) s k stays
    gone there (inr le) = out_here s (number_in (resolved_ref next.entity entity)) k sound there (subst (λ (n : ℕ). n ≤ k) (ap (λ (t : State). t.next_entity) (removed_alone (tree_of s.entities (number_in (resolved_ref next.entity entity))) s)) le)
stays_out me next (effects.SetPriority entity priority) s k sound is here = tt
stays_out me next (effects.Attach entity activity) s k sound is here = tt
stays_out me next (effects.Detach entity activity) s k sound is here = tt
stays_out me next (effects.SetMask entity activity event on) s k sound is here = tt
stays_out me next (effects.Fire activity event service fields) s k sound is here = tt
stays_out me next effects.NewNull s k sound is here = tt
stays_out me next (effects.EndNull activity) s k sound is here = tt
stays_out me next (effects.SetTimer activity start period times keep) s k sound is here = tt
stays_out me next (effects.CancelTimer timer) s k sound is here = tt
stays_out me next (effects.Bind word activity) s k sound is here = tt
stays_out me next (effects.Unbind word) s k sound is here = tt
stays_out me next (effects.Emit entity text) s k sound is here = tt
stays_out me next (effects.Usage entity usage amount) s k sound is here = tt
stays_out me next (effects.Suspend activity until) s k sound is here = tt
stays_out me next (effects.Resume activity) s k sound is here = tt

-- the entity that received the event stays, with its block

found_block : (rows more : List Entity) (me own : ℕ) → ((row : Entity) → entity_at rows me ≡ Some row → entity_at more me ≡ Some row) → option_map (λ (row : Entity). row.block) (entity_at rows me) ≡ Some own → option_map (λ (row : Entity). row.block) (entity_at more me) ≡ Some own
found_block rows more me own still is = by (entity_at rows me) refl is
  where
    by : (o : Option Entity) → entity_at rows me ≡ o → option_map (λ (row : Entity). row.block) o ≡ Some own → option_map (λ (row : Entity). row.block) (entity_at more me) ≡ Some own
    by None found is = absurd (cc)
    by (Some row) found is = ap (option_map (λ (row : Entity). row.block)) (still row found) ∙ is

block_created : (s : State) (parent : ℕ) (relation : List ℕ) (priority : ℤ) (me own : ℕ) (o : Option RelationCode) → is_some o ≡ true → option_map (λ (row : Entity). row.block) (entity_at s.entities me) ≡ Some own
    → option_map (λ (row : Entity). row.block) (entity_at (option_map_or (λ (r : RelationCode). with_child s parent relation r.block priority) o s).entities me) ≡ Some own
block_created s parent relation priority me own o some is =
    let made = made_rows s parent relation priority o some in
    let row = new_entity s.next_entity made.0.block (stems.Child (record { 0 = parent }) relation) priority in
    ap (λ rows. option_map (λ (row : Entity). row.block) (entity_at rows me)) made.2
    ∙ found_block s.entities (s.entities ++ row ∷ []) me own (λ x found. found_more (λ (r : Entity). r.number.0 == me) s.entities (row ∷ []) x found) is

block_gone : (s : State) (gone : List ℕ) (me own : ℕ) → in_list me gone ≡ false → option_map (λ (row : Entity). row.block) (entity_at s.entities me) ≡ Some own → option_map (λ (row : Entity). row.block) (entity_at (all_removed gone s).entities me) ≡ Some own
block_gone s gone me own out is = ap (λ rows. option_map (λ (row : Entity). row.block) (entity_at rows me)) (left_entities gone s) ∙ ap (option_map (λ (row : Entity). row.block)) (entity_left gone s.entities me out) ∙ is

not_in : (me : ℕ) (gone : List ℕ) (b : Bool) → (b && not (list_any (λ other. other == me) gone)) ≡ true → in_list me gone ≡ false
not_in me gone b is = not-true (in_list me gone) (and_parts b (not (list_any (λ other. other == me) gone)) is).1

block_step : (me own : ℕ) (x : Effect) (s : State) → applies me x s ≡ true → option_map (λ (row : Entity). row.block) (entity_at s.entities me) ≡ Some own → option_map (λ (row : Entity). row.block) (entity_at (after_effect x s).entities me) ≡ Some own
block_step me own (effects.SetField entity field value) s is block = block
block_step me own (effects.SetAttr activity key value) s is block = block
block_step me own (effects.Create parent under priority) s is block = block_created s (number_in parent) under priority me own (relation_at s (number_in parent) under) (and_parts (is_some (relation_at s (number_in parent) under)) (is_priority priority) is).0 block
block_step me own (effects.Remove entity) s is block = block_gone s (tree_of s.entities (number_in entity)) me own (not_in me (tree_of s.entities (number_in entity)) (has_entity s.entities (number_in entity)) is) block
block_step me own (effects.SetPriority entity priority) s is block = block_ranked s.entities (number_in entity) priority me ∙ block
block_step me own (effects.Attach entity activity) s is block = ap (λ rows. option_map (λ (row : Entity). row.block) (entity_at rows me)) (attached_rows s (number_in entity) (number_in activity)) ∙ block
block_step me own (effects.Detach entity activity) s is block = block
block_step me own (effects.SetMask entity activity event on) s is block = block
block_step me own (effects.Fire activity event service fields) s is block = block
block_step me own effects.NewNull s is block = block
block_step me own (effects.EndNull activity) s is block = block
block_step me own (effects.SetTimer activity start period times keep) s is block = block
block_step me own (effects.CancelTimer timer) s is block = block
block_step me own (effects.Bind word activity) s is block = block
block_step me own (effects.Unbind word) s is block = block
block_step me own (effects.Emit entity text) s is block = block
block_step me own (effects.Usage entity usage amount) s is block = block
block_step me own (effects.Suspend activity until) s is block = block
block_step me own (effects.Resume activity) s is block = block

-- what is asked of an effect's references
pub record RefersOld (next : Next) (x : Effect) : Type 0 where
  pub ends : EndsOld next.activity x
  pub links : LinksOld next x
  pub kids : KidsOld next x

-- behind one more effect
pub behind_one : (s : State) (me own a : ℕ) (before : List Effect) (x : Effect) (t : State) → IsSound s → IsDeployed s.deployment → IsBehind s me own a before t → RefersOld (next_in s) x → applies me (resolved_effect (next_in s) x) t ≡ true → HasRoom (after_effect (resolved_effect (next_in s) x) t)
    → IsBehind s me own a (before ++ x ∷ []) (after_effect (resolved_effect (next_in s) x) t)
behind_one s me own a before x t first deployed was old is room =
    let next = next_in s in
    let y = resolved_effect next x in
    let n = count_of activities_by before in
    let m = count_of entities_by before in
    let still = stays_timed y t in
    record {
      sound = sound_effect me y t was.sound (subst IsDeployed (sym was.deployment) deployed) room is;
      deployment = (same_effect y t).0 ∙ was.deployment;
      clock = still.clock ∙ was.clock;
      marked = ap (λ marks. is_undelivered marks a) still.delivered ∙ was.marked;
      amidst = subst (λ k. IsAmidst next k (after_effect y t)) (sym (count_last activities_by before x)) (amidst_step next n x t was.amidst);
      seen = λ r mine. activity_step next n x t r was.amidst old.ends mine ∙ ap (activity_after r n x) (was.seen r mine) ∙ sym (laid activities_by (activity_after r) before x (activity_seen next s r));
      names = λ name. name_step next n x t name (overlay activities_by (named_after name) before (refers_in (answers_in s (keys.Named name)))) (was.names name)
          ∙ ap (numbered next) (sym (laid activities_by (named_after name) before x (refers_in (answers_in s (keys.Named name)))));
      drawn = drawn_entities me y t is ∙ sums s.next_entity m (entities_by y) t.next_entity (count_of entities_by (before ++ x ∷ [])) was.drawn (count_last entities_by before x ∙ ap (λ k. m + k) (sym (makes_entities next x)));
      timers = drawn_timers y t ∙ sums s.next_timer (count_of timers_by before) (timers_by y) t.next_timer (count_of timers_by (before ++ x ∷ [])) was.timers (count_last timers_by before x ∙ ap (λ k. count_of timers_by before + k) (sym (makes_timers next x)));
      kids = λ p relation mine here. kid_step me next m x t p relation (ChildrenAfter s before p relation) was.sound is old.kids was.drawn mine (kids_old s before p relation first) here (was.kids p relation mine (here_before me y t (number_in (resolved_ref s.next_entity p)) was.sound is here))
          ∙ ap (numbers_of next) (sym (laid entities_by (children_after p relation) before x (children_told s p relation)));
      links = λ e b mine on here. link_step next n x t e b old.links mine on (stays_out me next x t (number_in (resolved_ref s.next_entity e)) was.sound is here)
          ∙ ap (attached_after e b n x) (was.links e b mine on (here_before me y t (number_in (resolved_ref s.next_entity e)) was.sound is here)) ∙ sym (laid activities_by (attached_after e b) before x (attached_told s e b));
      block = block_step me own y t is was.block;
    }
  where
    sums : (s m k t c : ℕ) → t ≡ s + m → c ≡ m + k → t + k ≡ s + c
    sums s m k t c one two = omega (arith, one, two)
