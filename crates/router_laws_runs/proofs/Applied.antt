-- In every legal history each effect of each delivery applies.
use Rattle.std.proofs.Common.{List, [], arith, length, true, ℕ, ◌+◌, ◌^◌, ◌∷◌, ◌≡◌, ◌≤◌}
use Rattle.std.proofs.lemmas.List.{length-map}
use Rattle.router_laws_runs.proofs.Numbers.{within_effects}
use Rattle.router_laws_runs.proofs.Rooms.{enabled_low, few_effects, room_within}
use Rattle.router_laws_runs.proofs.Runs.{legal_can, same_read}
use Rattle.router_laws_runs.specs.Applied.{AppliesAt, EachApplies}
use Rattle.router_laws_runs.specs.AsRead.{IsAsRead}
use Rattle.router_laws_steps.proofs.WholeSteps.{well_after}
use Rattle.router_laws_suiting.proofs.Applied.{receipt_applies}
use Rattle.router_state.specs.State.{State}
use Rattle.router_state.specs.Well.{IsSound, IsWell}
use Rattle.router_steps.specs.Effects.{after_effects, resolved_in}
use Rattle.router_steps.specs.Histories.{Legal}
use Rattle.router_steps.specs.Steps.{after, is_enabled, marked_entity}
use Rattle.slee_effect.specs.declared.effect.Effect.{Effect}
use Rattle.trace_history.specs.declared.choice.Choice.{Choice}
use Rattle.trace_history.specs.declared.choice.Choice.TheVariants as choices
use Rattle.trace_history.specs.declared.entry.Entry.{Entry}

applies_at : (s : State) (c : Choice) → IsSound s → IsAsRead s.deployment s.program → is_enabled s c ≡ true → AppliesAt s c
applies_at s (choices.Input signal) sound read on = tt
applies_at s (choices.Initial a) sound read on = tt
applies_at s (choices.Deliver a) sound read on =
    let low = enabled_low s (choices.Deliver a) on in
    λ x is.
    (let es : List Effect = resolved_in s x.delivered.effects in
    receipt_applies s a.0 x sound read.deployed read.programmed read.spelled (record { entities = low.entity; activities = low.activity }) is
    (room_within (length es) (marked_entity x s) (after_effects es (marked_entity x s)) (few (length es) (length x.delivered.effects) (length-map x.delivered.effects _) (few_effects s a.0 x read.programmed is))
    (higher s.next_entity low.entity) (higher s.next_activity low.activity) (higher s.next_timer low.timer) (higher s.next_event low.event) (within_effects es (marked_entity x s))))
  where
    few : (n m : ℕ) → n ≡ m → m ≤ 256 → n ≤ 2 ^ 62 + 20002
    few n m is le = omega (arith, is, le)

    higher : (n : ℕ) → n ≤ 2 ^ 62 → n ≤ 2 ^ 62 + 10001
    higher n low = omega (arith, low)
applies_at s (choices.Finish a) sound read on = tt

pub legal_applies : (s : State) (h : List Entry) → IsWell s → IsAsRead s.deployment s.program → Legal s h → EachApplies s h
legal_applies s [] well read legal = tt
legal_applies s (e ∷ es) well read legal = (
  applies_at s e.choice well.sound read legal.1,
  legal_applies (after s e.choice) es (well_after s e.choice well.sound read.deployed (legal_can s e es well.sound read legal)) (same_read s e.choice read) legal.3,
)
