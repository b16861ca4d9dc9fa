-- What a run reads after effects of a delivery is what is there: effect by effect, and then of each key.
use Rattle.std.proofs.Common.{◌≡◌, ℕ, ◌<◌, List, [], ◌∷◌, ◌++◌, map, sym, ◌∙◌, ap, subst, true}
use Rattle.std.specs.List.{AllByRecursion}
use Rattle.slee_value.specs.declared.kind.Kind.{Kind}
use Rattle.slee_effect.specs.Resolving.{resolved_effect, resolved_ref, resolved_val}
use Rattle.slee_effect.specs.declared.effect.Effect.{Effect}
use Rattle.slee_effect.specs.declared.effect.Effect.TheVariants as effects
use Rattle.slee_effect.specs.declared.next.Next.{Next}
use Rattle.slee_effect.specs.declared.reference.Ref.{Ref}
use Rattle.script_meaning.specs.Overlay.{activities_after, activities_by, count_of, entities_by, field_after, masks_after, overlay, priority_after, timer_after, timers_by}
use Rattle.deploy_model.specs.Deployed.{Deployed, block_fields}
use Rattle.router_laws.proofs.ListRules.{append_joins, append_nil}
use Rattle.router_laws_applying.proofs.Applied.{applies_now, refers_old}
use Rattle.router_laws_applying.proofs.Behind.{RefersOld, behind_one}
use Rattle.router_laws_applying.proofs.Kids.{here_before}
use Rattle.router_laws_applying.proofs.Laid.{laid}
use Rattle.router_laws_applying.proofs.Present.{present}
use Rattle.router_laws_applying.specs.Behind.{IsBehind, IsHere}
use Rattle.router_laws_applying.specs.Seen.{numbered}
use Rattle.router_laws_applying.specs.Suited.{AllSuit, LivesSomewhere, Suits}
use Rattle.router_laws_effects.specs.Guards.{Guarded}
use Rattle.router_laws_effects.specs.Runs.{IsOld}
use Rattle.router_laws_sound.proofs.SoundNumbers.{grown_effects, room_before}
use Rattle.router_laws_sound.specs.Rooms.{HasRoom, IsDeployed}
use Rattle.router_laws_written.proofs.ActivityLemmas.{olds_step}
use Rattle.router_laws_written.proofs.Blocks.{OfBlock, of_block_before}
use Rattle.router_laws_written.proofs.Fields.{AreOfKind, FieldsOld, field_step}
use Rattle.router_laws_written.proofs.MaskRows.{mask_seen}
use Rattle.router_laws_written.proofs.Masks.{MasksOld, mask_step}
use Rattle.router_laws_written.proofs.Priorities.{RanksOld, priority_step}
use Rattle.router_laws_written.proofs.TimerLemmas.{StandsOld, TimesOld, stands_step, timer_step}
use Rattle.router_laws_written.specs.Held.{BeginsWith, CancelsOld, activities_told, field_held, field_told, has_mask, masks_told, priority_held, priority_told, timer_held, timer_told}
use Rattle.router_state.specs.State.{State}
use Rattle.router_state.specs.Well.{IsSound}
use Rattle.router_steps.specs.Applying.{applies}
use Rattle.router_steps.specs.Effects.{after_effect, after_effects, next_in, number_in}
use Rattle.router_steps.specs.Scripts.{answers_in}

-- what is asked of an effect's references
record ReadsOld (next : Next) (x : Effect) : Type 0 where
  pub fields : FieldsOld next.entity x
  pub ranks : RanksOld next.entity x
  pub masks : MasksOld next x
  pub times : TimesOld next.activity x

-- what a run reads of entities, masks and timers is there, and its activities are those that were drawn before or are new
pub record IsRead (s : State) (before : List Effect) (t : State) : Type 0 where
  pub fields : (e : Ref) (name : List ℕ) (kind : Kind) → IsOld s.next_entity e → IsHere t (number_in (resolved_ref s.next_entity e)) → OfBlock (λ block. AreOfKind name kind (block_fields s.deployment block)) t (number_in (resolved_ref s.next_entity e))
      → field_held (next_in s) kind t e name ≡ resolved_val (next_in s) (overlay entities_by (field_after e name) before (field_told s kind e name))
  pub priorities : (e : Ref) → IsOld s.next_entity e → IsHere t (number_in (resolved_ref s.next_entity e)) → priority_held (next_in s) t e ≡ overlay entities_by (priority_after e) before (priority_told s e)
  pub masks : (e a : Ref) (event : List ℕ) (first : List (List ℕ)) → IsOld s.next_entity e → IsOld s.next_activity a → IsHere t (number_in (resolved_ref s.next_entity e)) → OfBlock (BeginsWith s.deployment event first) t (number_in (resolved_ref s.next_entity e))
      → mask_seen t (number_in (resolved_ref s.next_entity e)) (number_in (resolved_ref s.next_activity a)) event ≡ has_mask event (overlay activities_by (masks_after first e a) before (masks_told s e a))
  pub timers : (r : Ref) → IsOld s.next_timer r → timer_held (next_in s) t r ≡ numbered (next_in s) (overlay timers_by (timer_after r) before (timer_told s r))
  pub stands : (r : Ref) → StandsOld s.next_activity (overlay timers_by (timer_after r) before (timer_told s r))
  pub olds : (e : Ref) → AllByRecursion (IsOld s.next_activity) (overlay activities_by (activities_after e) before (activities_told s e))

-- an effect that suits refers to what was drawn before the run or is new

module _ (s : State) (me own a : ℕ) (before : List Effect) (t : State) (first : IsSound s) (was : IsBehind s me own a before t) (drawn : me < s.next_entity) where
  old_at : (block : ℕ) (e : Ref) → LivesSomewhere s me own before block e → IsOld s.next_entity e
  old_at block e lives = (present s me own a before t first was drawn lives.0 block e lives.1).old

  reads_old : (x : Effect) → Suits s me own a before x → ReadsOld (next_in s) x
  reads_old (effects.SetField entity field value) suits = record { fields = old_at suits.0 entity suits.1; ranks = tt; masks = tt; times = tt }
  reads_old (effects.SetAttr activity key value) suits = record { fields = tt; ranks = tt; masks = tt; times = tt }
  reads_old (effects.Create parent under priority) suits = record { fields = tt; ranks = tt; masks = tt; times = tt }
  reads_old (effects.Remove entity) suits = record { fields = tt; ranks = tt; masks = tt; times = tt }
  reads_old (effects.SetPriority entity priority) suits = record { fields = tt; ranks = old_at suits.0 entity suits.1; masks = tt; times = tt }
  reads_old (effects.Attach entity activity) suits = record { fields = tt; ranks = tt; masks = tt; times = tt }
  reads_old (effects.Detach entity activity) suits = record { fields = tt; ranks = tt; masks = tt; times = tt }
  reads_old (effects.SetMask entity activity event on) suits = record { fields = tt; ranks = tt; masks = (old_at suits.0.0 entity suits.0.1, suits.1); times = tt }
  reads_old (effects.Fire activity event service fields) suits = record { fields = tt; ranks = tt; masks = tt; times = tt }
  reads_old effects.NewNull suits = record { fields = tt; ranks = tt; masks = tt; times = tt }
  reads_old (effects.EndNull activity) suits = record { fields = tt; ranks = tt; masks = tt; times = tt }
  reads_old (effects.SetTimer activity start period times keep) suits = record { fields = tt; ranks = tt; masks = tt; times = suits.0 }
  reads_old (effects.CancelTimer timer) suits = record { fields = tt; ranks = tt; masks = tt; times = tt }
  reads_old (effects.Bind word activity) suits = record { fields = tt; ranks = tt; masks = tt; times = tt }
  reads_old (effects.Unbind word) suits = record { fields = tt; ranks = tt; masks = tt; times = tt }
  reads_old (effects.Emit entity text) suits = record { fields = tt; ranks = tt; masks = tt; times = tt }
  reads_old (effects.Usage entity usage amount) suits = record { fields = tt; ranks = tt; masks = tt; times = tt }
  reads_old (effects.Suspend activity until) suits = record { fields = tt; ranks = tt; masks = tt; times = tt }
  reads_old (effects.Resume activity) suits = record { fields = tt; ranks = tt; masks = tt; times = tt }

-- after one more effect
read_one : (s : State) (me own a : ℕ) (before : List Effect) (x : Effect) (t : State) → IsBehind s me own a before t → RefersOld (next_in s) x → ReadsOld (next_in s) x → CancelsOld s.next_timer x → applies me (resolved_effect (next_in s) x) t ≡ true
    → IsRead s before t → IsRead s (before ++ x ∷ []) (after_effect (resolved_effect (next_in s) x) t)
read_one s me own a before x t was old reads cancels is read =
    let next = next_in s in
    let n = count_of activities_by before in
    let m = count_of entities_by before in
    let y = resolved_effect next x in
    record {
      fields = λ e name kind mine here kinds.
          let k = number_in (resolved_ref s.next_entity e) in
          let now = of_block_before (λ block. AreOfKind name kind (block_fields s.deployment block)) me next x t k was.sound is here kinds in
          field_step me next m x t e name kind (overlay entities_by (field_after e name) before (field_told s kind e name)) was.sound is was.drawn reads.fields mine here
          (subst (λ (d : Deployed). OfBlock (λ block. AreOfKind name kind (block_fields d block)) (after_effect y t) k) (sym was.deployment) kinds) (read.fields e name kind mine (here_before me y t k was.sound is here) now)
          ∙ ap (resolved_val next) (sym (laid entities_by (field_after e name) before x (field_told s kind e name)));
      priorities = λ e mine here.
          priority_step me next m x t e (overlay entities_by (priority_after e) before (priority_told s e)) was.sound is was.drawn reads.ranks mine here (read.priorities e mine (here_before me y t (number_in (resolved_ref s.next_entity e)) was.sound is here))
          ∙ sym (laid entities_by (priority_after e) before x (priority_told s e));
      masks = λ e b event first mine on here begins.
          let k = number_in (resolved_ref s.next_entity e) in
          let now = of_block_before (BeginsWith s.deployment event first) me next x t k was.sound is here begins in
          mask_step me next n x t e b event first (overlay activities_by (masks_after first e b) before (masks_told s e b)) was.sound is old.links reads.masks mine on here (subst (λ (d : Deployed). OfBlock (BeginsWith d event first) t k) (sym was.deployment) now)
          (read.masks e b event first mine on (here_before me y t k was.sound is here) now)
          ∙ ap (has_mask event) (sym (laid activities_by (masks_after first e b) before x (masks_told s e b)));
      timers = λ r mine.
          timer_step next (count_of timers_by before) x t r (overlay timers_by (timer_after r) before (timer_told s r)) was.sound was.timers old.ends cancels mine (read.stands r) (read.timers r mine)
          ∙ ap (numbered next) (sym (laid timers_by (timer_after r) before x (timer_told s r)));
      stands = λ r. subst (StandsOld s.next_activity) (sym (laid timers_by (timer_after r) before x (timer_told s r)))
          (stands_step s.next_activity r (count_of timers_by before) x (overlay timers_by (timer_after r) before (timer_told s r)) reads.times (read.stands r));
      olds = λ e. subst (AllByRecursion (IsOld s.next_activity)) (sym (laid activities_by (activities_after e) before x (activities_told s e)))
          (olds_step next e n x (overlay activities_by (activities_after e) before (activities_told s e)) old.links (read.olds e));
    }

-- after all of them
pub all_read : (s : State) (me own a : ℕ) (before es : List Effect) (t : State) → IsSound s → IsDeployed s.deployment → IsBehind s me own a before t → me < s.next_entity → AllByRecursion (λ row. row.number.0 < s.next_activity) s.activities
    → AllSuit s me own a before es → Guarded (answers_in s) before es → AllByRecursion (CancelsOld s.next_timer) es → HasRoom (after_effects (map (resolved_effect (next_in s)) es) t) → IsRead s before t
    → IsBehind s me own a (before ++ es) (after_effects (map (resolved_effect (next_in s)) es) t) × IsRead s (before ++ es) (after_effects (map (resolved_effect (next_in s)) es) t)
all_read s me own a before [] t first deployed was drawn below suit guard cancels room read =
    (subst (λ all. IsBehind s me own a all t) (sym (append_nil before)) was, subst (λ all. IsRead s all t) (sym (append_nil before)) read)
all_read s me own a before (x ∷ es) t first deployed was drawn below suit guard cancels room read =
    let y = resolved_effect (next_in s) x in
    let is = applies_now s me own a before t first was drawn below x suit.0 guard.0 in
    let more = room_before (after_effect y t) (after_effects (map (resolved_effect (next_in s)) es) (after_effect y t)) (grown_effects (map (resolved_effect (next_in s)) es) (after_effect y t)) room in
    let old = refers_old s me own a before t first was drawn below x suit.0 in
    let rest = all_read s me own a (before ++ x ∷ []) es (after_effect y t) first deployed (behind_one s me own a before x t first deployed was old is more) drawn below suit.1 guard.1 cancels.1 room
    (read_one s me own a before x t was old (reads_old s me own a before t first was drawn x suit.0) cancels.0 is read) in (
      subst (λ all. IsBehind s me own a all (after_effects (map (resolved_effect (next_in s)) es) (after_effect y t))) (append_joins before (x ∷ []) es) rest.0,
      subst (λ all. IsRead s all (after_effects (map (resolved_effect (next_in s)) es) (after_effect y t))) (append_joins before (x ∷ []) es) rest.1,
    )
