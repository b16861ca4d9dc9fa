-- All effects of a delivery apply.
use Rattle.std.proofs.Common.{◌≡◌, ℕ, [], Option, Some, None, refl, sym, subst, inl, inr}
use Rattle.std.specs.Prelude.{option_and_then, option_map}
use Rattle.script_meaning.specs.Delivery.{Delivered}
use Rattle.script_meaning.specs.Meaning.{nothing_before, setting_of, start}
use Rattle.script_laws.proofs.KnownCheckedScripts.{delivered_refers}
use Rattle.script_laws.specs.References.{Refer}
use Rattle.router_laws.proofs.ListRules.{in_filter}
use Rattle.router_laws_applying.proofs.Beginning.{delivery_applies}
use Rattle.router_laws_applying.proofs.Trees.{entity_found, rise}
use Rattle.router_laws_effects.proofs.GuardedRuns.{run_is_guarded}
use Rattle.router_laws_effects.specs.Guards.{Guarded}
use Rattle.router_laws_histories.proofs.DeliveryOrder.{delivered_first}
use Rattle.router_laws_sound.specs.Rooms.{HasRoom, IsDeployed}
use Rattle.router_laws_suiting.proofs.Deliveries.{delivery_typed, given_drawn, handler_ran, head_facts}
use Rattle.router_laws_suiting.proofs.Joining.{all_typed_suit}
use Rattle.router_laws_suiting.proofs.SpelledDeliveries.{delivery_spelled}
use Rattle.router_laws_suiting.proofs.StandingEffects.{standing_given}
use Rattle.router_laws_suiting.proofs.ToldByStates.{told_drawn}
use Rattle.router_laws_suiting.specs.Declared.{AreSpelled, IsProgrammed}
use Rattle.router_laws_suiting.specs.Known.{IsDrawn, IsSmall}
use Rattle.router_state.specs.Next.{is_eligible, receives_at}
use Rattle.router_state.specs.Queues.{head_event}
use Rattle.router_state.specs.State.{State}
use Rattle.router_state.specs.Trees.{entity_at}
use Rattle.router_state.specs.Well.{IsSound}
use Rattle.router_state.specs.declared.rows.Entity.{Entity}
use Rattle.router_state.specs.declared.rows.Event.{Event}
use Rattle.router_steps.specs.Applying.{Apply}
use Rattle.router_steps.specs.Effects.{after_effects, resolved_in}
use Rattle.router_steps.specs.Scripts.{answers_in, delivered_in}
use Rattle.router_steps.specs.Steps.{Receipt, delivery_at, delivery_to, marked_entity}

-- each effect was made where its script had seen that it may be
delivery_guarded : (s : State) (a : ℕ) (v : Event) (row : Entity) (d : Delivered) → delivered_in s a v row ≡ Some d → Guarded (answers_in s) [] d.effects
delivery_guarded s a v row d is =
    let ran = handler_ran s a v row d is in
    elim (standing_given (answers_in s) s.program ran.block v.name ran.steps row.number (record { 0 = a }) v.fields d ran.handler ran.done) [
      | inl none ↦ subst (Guarded (answers_in s) []) (sym none) tt
      | inr gives ↦ (let guarded = run_is_guarded (setting_of (answers_in s) ran.block row.number gives.arguments nothing_before) s.program gives.steps gives.flow start gives.end gives.gave in
          subst (Guarded (answers_in s) []) (sym gives.same) (subst (Guarded (answers_in s) []) (sym guarded.1) guarded.2))
    ]

-- and refers to what was drawn
delivery_refers : (s : State) (a : ℕ) (v : Event) (row : Entity) (d : Delivered) → IsSound s → IsProgrammed s.deployment s.program → head_event s.events a ≡ Some v → entity_at s.entities row.number.0 ≡ Some row → delivered_in s a v row ≡ Some d → Refer (IsDrawn s) d.effects
delivery_refers s a v row d sound p head found is =
    let ran = handler_ran s a v row d is in
    delivered_refers (IsDrawn s) p.codes s.program (answers_in s) row.block ran.block ran.steps row.number (record { 0 = a }) v.name v.fields d p.made ran.there ran.handler
    (given_drawn s a v row p sound (head_facts s a v sound head) found) (told_drawn s sound) ran.done

pub all_apply : (s : State) (x : Receipt) → IsSound s → IsDeployed s.deployment → IsProgrammed s.deployment s.program → AreSpelled s.program → IsSmall s → head_event s.events x.activity ≡ Some x.event → entity_at s.entities x.entity.number.0 ≡ Some x.entity → delivered_in s x.activity x.event x.entity ≡ Some x.delivered
    → HasRoom (after_effects (resolved_in s x.delivered.effects) (marked_entity x s)) → Apply x.entity.number.0 (resolved_in s x.delivered.effects) (marked_entity x s)
all_apply s x sound deployed p spelled small head found is room =
    let facts = head_facts s x.activity x.event sound head in
    delivery_applies s x x.delivered.effects sound deployed facts.waits found
    (all_typed_suit s x.entity.number.0 x.entity.block x.activity (IsDrawn s) (record { activity = λ n h. h; timer = λ n h. h; no_activity = λ n h. h; no_timer = λ n h. h }) [] x.delivered.effects
    (delivery_typed s x.activity x.event x.entity x.delivered sound p is) (delivery_spelled s sound small spelled x.activity x.event x.entity x.delivered facts is) (delivery_refers s x.activity x.event x.entity x.delivered sound p head found is))
    (delivery_guarded s x.activity x.event x.entity x.delivered is) room

-- what a receipt tells of its delivery
pub receipt_delivered : (s : State) (a : ℕ) (x : Receipt) → delivery_at s a ≡ Some x → delivered_in s x.activity x.event x.entity ≡ Some x.delivered
receipt_delivered s a x is = by_pair (receives_at s a) is
  where
    some_same : {X : Type 0} {y z : X} → Some y ≡ Some z → y ≡ z
    some_same same = cc

    by_outcome : (pair : Event × Entity) (o : Option Delivered) → delivered_in s a pair.0 pair.1 ≡ o → option_map (λ found. (let r : Receipt = record { activity = a; event = pair.0; entity = pair.1; delivered = found } in r)) o ≡ Some x → delivered_in s x.activity x.event x.entity ≡ Some x.delivered
    by_outcome pair None found same = absurd (cc)
    by_outcome pair (Some d) found same = subst (λ (y : Receipt). delivered_in s y.activity y.event y.entity ≡ Some y.delivered) (some_same same) found

    by_pair : (o : Option (Event × Entity)) → option_and_then (delivery_to s a) o ≡ Some x → delivered_in s x.activity x.event x.entity ≡ Some x.delivered
    by_pair None same = absurd (cc)
    by_pair (Some pair) same = by_outcome pair (delivered_in s a pair.0 pair.1) refl same

pub receipt_applies : (s : State) (a : ℕ) (x : Receipt) → IsSound s → IsDeployed s.deployment → IsProgrammed s.deployment s.program → AreSpelled s.program → IsSmall s → delivery_at s a ≡ Some x
    → HasRoom (after_effects (resolved_in s x.delivered.effects) (marked_entity x s)) → Apply x.entity.number.0 (resolved_in s x.delivered.effects) (marked_entity x s)
receipt_applies s a x sound deployed p spelled small is room =
    let first = delivered_first s a x is in
    let there = (in_filter (is_eligible s x.activity x.event) x.entity s.entities first.1).0 in
    all_apply s x sound deployed p spelled small first.0 (entity_found s.entities (rise s sound) x.entity there) (receipt_delivered s a x is) room
