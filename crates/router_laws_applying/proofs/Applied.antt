-- Each effect that suits a delivery, and was guarded by what the run had seen, applies at its turn.
use Rattle.deploy_model.specs.Deployed.{Deployed, attribute_kind, block_fields, is_event, relation_of, service_named}
use Rattle.router_laws.proofs.ListRules.{append_joins, append_nil}
use Rattle.router_laws_applying.proofs.Trees.{above_tree}
use Rattle.router_laws_applying.proofs.Behind.{RefersOld, behind_one}
use Rattle.router_laws_applying.specs.Behind.{IsBehind}
use Rattle.router_laws_applying.specs.Suited.{AllSuit, Lives, LivesAtAll, Suits, ValueFits}
use Rattle.router_laws_effects.specs.Guards.{Guard, Guarded, IsLater}
use Rattle.router_laws_effects.specs.Runs.{IsOld}
use Rattle.router_laws_sound.proofs.SoundNumbers.{grown_effects, room_before}
use Rattle.router_laws_sound.proofs.SoundTrees.{parents_below}
use Rattle.router_laws_sound.specs.Rooms.{HasRoom, IsDeployed}
use Rattle.router_state.specs.Contexts.{activity_at, is_active, is_linked, named_at}
use Rattle.router_state.specs.Fits.{are_declared, is_of_kind, none_or}
use Rattle.router_state.specs.Fitting.{has_activity, has_entity}
use Rattle.router_state.specs.Queues.{is_undelivered}
use Rattle.router_state.specs.State.{State}
use Rattle.router_state.specs.Timers.{last_moment}
use Rattle.router_state.specs.Trees.{entity_at}
use Rattle.router_state.specs.Well.{IsSound}
use Rattle.router_steps.specs.Applying.{all_apply, applies, declares, suits}
use Rattle.router_steps.specs.Effects.{after_effect, after_effects, next_in, number_in, plain, plain_field, relation_at}
use Rattle.router_steps.specs.Scripts.{answers_in}
use Rattle.script_meaning.specs.Answers.{is_of}
use Rattle.script_types.specs.Codes.{named}
use Rattle.script_types.specs.declared.codes.EventCode.{EventCode}
use Rattle.script_types.specs.declared.codes.FieldCode.{FieldCode}
use Rattle.slee_effect.specs.Resolving.{resolved_effect, resolved_field, resolved_ref, resolved_val}
use Rattle.slee_effect.specs.declared.effect.Effect.{Effect}
use Rattle.slee_effect.specs.declared.effect.Effect.TheVariants as effects
use Rattle.slee_effect.specs.declared.reference.Ref.{Ref}
use Rattle.slee_effect.specs.declared.reference.Ref.TheVariants.{Known}
use Rattle.slee_effect.specs.declared.value.Val.{Val}
use Rattle.slee_value.specs.declared.kind.Kind.{Kind}
use Rattle.std.proofs.Common.{◌≡◌, true, false, ℕ, suc, ◌+◌, ◌<◌, ◌≤◌, ◌&&◌, not, List, [], ◌∷◌, ◌++◌, map, refl, sym, ap, subst, ◌∙◌, inl, arith, Some}
use Rattle.std.proofs.lemmas.Bool.{and_from, lt-ltb}
use Rattle.std.specs.List.{AllByRecursion}
use Rattle.std.specs.Option.{option_map_or}
use Rattle.std.specs.Prelude.{is_none, is_some, nat_le, nat_lt, length}
use Rattle.std.specs.Str.{bytes_eq}
use Rattle.router_laws_applying.proofs.Present.{IsPresent, active_there, fields_fit, later_fits, name_there, of_kind_now, of_null, present, rank_fits, seen_there, some_unless, there_of, used_there, value_fits}

some_bytes : (name : List ℕ) → bytes_eq name [] ≡ false → nat_lt 0 (length name) ≡ true
some_bytes [] is = absurd (cc)
some_bytes (b ∷ name) is = lt-ltb 0 (suc (length name)) (omega arith)

-- what is so behind the effects before, and what is told of a delivery
module _ (s : State) (me own a : ℕ) (before : List Effect) (t : State) (first : IsSound s) (was : IsBehind s me own a before t) (drawn : me < s.next_entity) (below : AllByRecursion (λ row. row.number.0 < s.next_activity) s.activities) where
  present_now : (n block : ℕ) (e : Ref) → Lives s me own before n block e → IsPresent s t me n block e
  present_now n block e lives = present s me own a before t first was drawn n block e lives

  entity_now : (e : Ref) → LivesAtAll s me own before e → has_entity t.entities (number_in (resolved_ref s.next_entity e)) ≡ true
  entity_now e lives = let here = present_now lives.1.0 lives.0 e lives.1.1 in there_of (entity_at t.entities (number_in (resolved_ref s.next_entity e))) here.row here.found

  old_entity : (e : Ref) → LivesAtAll s me own before e → IsOld s.next_entity e
  old_entity e lives = (present_now lives.1.0 lives.0 e lives.1.1).old

  suits_kind : (k : Kind) (x : Val) → is_of k x ≡ true → ValueFits (next_in s) before x → suits t (resolved_val (next_in s) x) k ≡ true
  suits_kind k x sort fits =
      and_from (is_of_kind k (plain (resolved_val (next_in s) x))) _ (of_kind_now (next_in s) k x sort) (value_fits (next_in s) before t.next_activity t.next_timer x was.amidst.drawn was.timers fits)

  -- the effect's references were drawn before the run, or are new
  pub refers_old : (x : Effect) → Suits s me own a before x → RefersOld (next_in s) x
  refers_old (effects.SetField entity field value) suits = record { ends = tt; links = tt; kids = tt }
  refers_old (effects.SetAttr activity key value) suits = record { ends = tt; links = tt; kids = tt }
  refers_old (effects.Create parent under priority) suits = record { ends = tt; links = tt; kids = (present_now suits.1.0 suits.0 parent suits.1.1).old }
  refers_old (effects.Remove entity) suits = record { ends = tt; links = tt; kids = (present_now (suc suits.1) suits.0 entity suits.2).old }
  refers_old (effects.SetPriority entity priority) suits = record { ends = tt; links = tt; kids = tt }
  refers_old (effects.Attach entity activity) suits = record { ends = tt; links = (old_entity entity suits.0, suits.1); kids = tt }
  refers_old (effects.Detach entity activity) suits = record { ends = tt; links = (old_entity entity suits.0, suits.1); kids = tt }
  refers_old (effects.SetMask entity activity event on) suits = record { ends = tt; links = tt; kids = tt }
  refers_old (effects.Fire activity event service fields) suits = record { ends = tt; links = tt; kids = tt }
  refers_old effects.NewNull suits = record { ends = tt; links = tt; kids = tt }
  refers_old (effects.EndNull activity) suits = record { ends = suits; links = tt; kids = tt }
  refers_old (effects.SetTimer activity start period times keep) suits = record { ends = tt; links = tt; kids = tt }
  refers_old (effects.CancelTimer timer) suits = record { ends = tt; links = tt; kids = tt }
  refers_old (effects.Bind word activity) suits = record { ends = tt; links = tt; kids = tt }
  refers_old (effects.Unbind word) suits = record { ends = tt; links = tt; kids = tt }
  refers_old (effects.Emit entity text) suits = record { ends = tt; links = tt; kids = tt }
  refers_old (effects.Usage entity usage amount) suits = record { ends = tt; links = tt; kids = tt }
  refers_old (effects.Suspend activity until) suits = record { ends = tt; links = tt; kids = tt }
  refers_old (effects.Resume activity) suits = record { ends = tt; links = tt; kids = tt }

  -- and it applies
  pub applies_now : (x : Effect) → Suits s me own a before x → Guard (answers_in s) before x → applies me (resolved_effect (next_in s) x) t ≡ true
  applies_now (effects.SetField entity field value) suits guard = declared suits
    where
      declared : Suits s me own a before (effects.SetField entity field value) → declares t (number_in (resolved_ref s.next_entity entity)) field (resolved_val (next_in s) value) ≡ true
      declared (block, lives, f, is, sort, fits) =
          let here = present_now lives.0 block entity lives.1 in
          let there : named (λ (f : FieldCode). f.name) field (block_fields t.deployment here.row.block) ≡ Some f =
          ap (λ d. named (λ (f : FieldCode). f.name) field (block_fields d here.row.block)) was.deployment ∙ ap (λ b. named (λ (f : FieldCode). f.name) field (block_fields s.deployment b)) here.same ∙ is in
          rw (here.found, there) (suits_kind f.kind value sort fits)
  applies_now (effects.SetAttr activity key value) suits guard = set suits
    where
      set : Suits s me own a before (effects.SetAttr activity key value) → applies me (resolved_effect (next_in s) (effects.SetAttr activity key value)) t ≡ true
      set (old, k, is, sort, fits) =
          let there : attribute_kind t.deployment key ≡ Some k = ap (λ d. attribute_kind d key) was.deployment ∙ is in
          and_from (has_activity t.activities (number_in (resolved_ref s.next_activity activity))) _ (used_there s me own a before t was below activity old guard) (rw there (suits_kind k value sort fits))
  applies_now (effects.Create parent under priority) suits guard = made suits
    where
      made : Suits s me own a before (effects.Create parent under priority) → applies me (resolved_effect (next_in s) (effects.Create parent under priority)) t ≡ true
      made (block, lives, is, rank) =
          let here = present_now lives.0 block parent lives.1 in
          let there : is_some (relation_of t.deployment here.row.block under) ≡ true =
          ap (λ d. is_some (relation_of d here.row.block under)) was.deployment ∙ ap (λ b. is_some (relation_of s.deployment b under)) here.same ∙ is in
          and_from (is_some (relation_at t (number_in (resolved_ref s.next_entity parent)) under)) _ (rw here.found there) rank
  applies_now (effects.Remove entity) suits guard = gone suits
    where
      less : (n e : ℕ) → me + suc n ≤ e → me < e
      less n e le = omega (arith, le)

      gone : Suits s me own a before (effects.Remove entity) → applies me (resolved_effect (next_in s) (effects.Remove entity)) t ≡ true
      gone (block, n, lives) =
          let here = present_now (suc n) block entity lives in
          let e = (number_in (resolved_ref s.next_entity entity)) in
          and_from (has_entity t.entities e) _ (there_of (entity_at t.entities e) here.row here.found)
          (ap not (above_tree t.entities e me (parents_below t.deployment t.entities t.next_entity was.sound.entities) (less n e here.deep)))
  applies_now (effects.SetPriority entity priority) suits guard = and_from (has_entity t.entities (number_in (resolved_ref s.next_entity entity))) _ (entity_now entity suits) (rank_fits priority guard)
  applies_now (effects.Attach entity activity) suits guard = and_from (has_entity t.entities (number_in (resolved_ref s.next_entity entity))) _ (entity_now entity suits.0) (used_there s me own a before t was below activity suits.1 (guard.0, guard.1))
  applies_now (effects.Detach entity activity) suits guard = used_there s me own a before t was below activity suits.1 guard
  applies_now (effects.SetMask entity activity event on) suits guard = masked suits guard
    where
      masked : Suits s me own a before (effects.SetMask entity activity event on) → Guard (answers_in s) before (effects.SetMask entity activity event on) → applies me (resolved_effect (next_in s) (effects.SetMask entity activity event on)) t ≡ true
      masked (lives, old, is) (used, linked) =
          and_from (is_linked t.links (number_in (resolved_ref s.next_entity entity)) (number_in (resolved_ref s.next_activity activity))) _ (was.links entity activity (old_entity entity lives) old (inl (entity_now entity lives)) ∙ linked) (ap (λ d. is_event d event) was.deployment ∙ is)
  applies_now (effects.Fire activity event service fields) suits guard = fired suits
    where
      fired : Suits s me own a before (effects.Fire activity event service fields) → applies me (resolved_effect (next_in s) (effects.Fire activity event service fields)) t ≡ true
      fired (old, known, code, is, fit) =
          let there : named (λ (e : EventCode). e.name) event t.deployment.events ≡ Some code = ap (λ (d : Deployed). named (λ (e : EventCode). e.name) event d.events) was.deployment ∙ is in
          let both = fields_fit (next_in s) before t.next_activity t.next_timer code.fields fields was.amidst.drawn was.timers fit in
          and_from (is_active t.activities (number_in (resolved_ref s.next_activity activity))) _ (active_there s me own a before t was below activity old guard)
          (and_from (none_or (λ key. is_some (service_named t.deployment key)) service) _ (ap (λ d. none_or (λ key. is_some (service_named d key)) service) was.deployment ∙ known)
          (and_from (option_map_or (λ (declared : EventCode). are_declared declared.fields (map plain_field (map (resolved_field (next_in s)) fields))) (named (λ (e : EventCode). e.name) event t.deployment.events) false) _ (rw there both.0) both.1))
  applies_now effects.NewNull suits guard = refl
  applies_now (effects.EndNull activity) suits guard = of_null (activity_at t.activities (number_in (resolved_ref s.next_activity activity))) guard.0 (seen_there s me own a before t was below activity guard.0 suits guard.1) guard.2 guard.3
  applies_now (effects.SetTimer activity start period times keep) suits guard = and_from (is_active t.activities (number_in (resolved_ref s.next_activity activity))) _ (active_there s me own a before t was below activity suits.0 guard) suits.1
  applies_now (effects.CancelTimer timer) suits guard = refl
  applies_now (effects.Bind word activity) suits guard = bound suits guard
    where
      bound : Suits s me own a before (effects.Bind word activity) → Guard (answers_in s) before (effects.Bind word activity) → applies me (resolved_effect (next_in s) (effects.Bind word activity)) t ≡ true
      bound (old, text) (some, used, free) =
          and_from (is_active t.activities (number_in (resolved_ref s.next_activity activity))) _ (active_there s me own a before t was below activity old used)
          (and_from (is_none (named_at t.names word)) _ (name_there s me own a before t was word ∙ free) (and_from (nat_lt 0 (length word)) _ (some_bytes word some) text))
  applies_now (effects.Unbind word) suits guard = some_unless (named_at t.names word) (name_there s me own a before t was word ∙ guard)
  applies_now (effects.Emit entity text) suits guard = entity_now entity suits
  applies_now (effects.Usage entity usage amount) suits guard = entity_now entity suits
  applies_now (effects.Suspend activity until) suits guard = held suits guard
    where
      held : activity ≡ Known a → IsLater (answers_in s) until → applies me (resolved_effect (next_in s) (effects.Suspend activity until)) t ≡ true
      held is (n, within, most, same) =
          subst (λ r. (not (is_undelivered t.delivered (number_in (resolved_ref s.next_activity r))) && (nat_lt t.clock until && nat_le until last_moment)) ≡ true) (sym is)
          (and_from (not (is_undelivered t.delivered a)) _ (ap not was.marked) (ap (λ c. nat_lt c until && nat_le until last_moment) was.clock ∙ later_fits s.clock until n within most same))
  applies_now (effects.Resume activity) suits guard = used_there s me own a before t was below activity suits guard

-- effects that suit and were guarded apply one after another
pub all_applied : (s : State) (me own a : ℕ) (before es : List Effect) (t : State) → IsSound s → IsDeployed s.deployment → IsBehind s me own a before t → me < s.next_entity → AllByRecursion (λ row. row.number.0 < s.next_activity) s.activities
    → AllSuit s me own a before es → Guarded (answers_in s) before es → HasRoom (after_effects (map (resolved_effect (next_in s)) es) t) → all_apply me (map (resolved_effect (next_in s)) es) t ≡ true
all_applied s me own a before [] t first deployed was drawn below suit guard room = refl
all_applied s me own a before (x ∷ es) t first deployed was drawn below suit guard room =
    let y = resolved_effect (next_in s) x in
    let is = applies_now s me own a before t first was drawn below x suit.0 guard.0 in
    let more = room_before (after_effect y t) (after_effects (map (resolved_effect (next_in s)) es) (after_effect y t)) (grown_effects (map (resolved_effect (next_in s)) es) (after_effect y t)) room in
    and_from (applies me y t) _ is
    (all_applied s me own a (before ++ x ∷ []) es (after_effect y t) first deployed (behind_one s me own a before x t first deployed was (refers_old s me own a before t first was drawn below x suit.0) is more) drawn below suit.1 guard.1 room)

-- and behind all of them what the run sees is there
pub all_behind : (s : State) (me own a : ℕ) (before es : List Effect) (t : State) → IsSound s → IsDeployed s.deployment → IsBehind s me own a before t → me < s.next_entity → AllByRecursion (λ row. row.number.0 < s.next_activity) s.activities
    → AllSuit s me own a before es → Guarded (answers_in s) before es → HasRoom (after_effects (map (resolved_effect (next_in s)) es) t) → IsBehind s me own a (before ++ es) (after_effects (map (resolved_effect (next_in s)) es) t)
all_behind s me own a before [] t first deployed was drawn below suit guard room = subst (λ all. IsBehind s me own a all t) (sym (append_nil before)) was
all_behind s me own a before (x ∷ es) t first deployed was drawn below suit guard room =
    let y = resolved_effect (next_in s) x in
    let is = applies_now s me own a before t first was drawn below x suit.0 guard.0 in
    let more = room_before (after_effect y t) (after_effects (map (resolved_effect (next_in s)) es) (after_effect y t)) (grown_effects (map (resolved_effect (next_in s)) es) (after_effect y t)) room in
    subst (λ all. IsBehind s me own a all (after_effects (map (resolved_effect (next_in s)) es) (after_effect y t))) (append_joins before (x ∷ []) es)
    (all_behind s me own a (before ++ x ∷ []) es (after_effect y t) first deployed (behind_one s me own a before x t first deployed was (refers_old s me own a before t first was drawn below x suit.0) is more) drawn below suit.1 guard.1 room)
