use Rattle.std.proofs.Common.{rules, ◌≡◌, Some, true, false, map, ℕ, List}
use Rattle.std.specs.Prelude.{◌&&◌}
use Rattle.std.specs.List.{list_all}
use Rattle.script_types.specs.Codes.{named}
use Rattle.script_types.specs.declared.codes.EventCode.{EventCode}
use Rattle.slee_effect.specs.declared.value.Val.{Val}
use Rattle.router_state.specs.Fits.{are_declared, is_value}
use Rattle.router_state.specs.Changes.{after_changes}
use Rattle.router_steps.specs.Effects.{plain, plain_field}
use Rattle.router_effects.proofs.FiringLemmas.{suited, unsuited}
use Rattle.router_effects.proofs.firing.suited_event.Goals as goal

pub returns-then-are_suited : goal.returns-then-are_suited
returns-then-are_suited g c =
    let s = g.S.Base.state c.args.setting.now in
    let t = after_changes c.args.draft.now.changes s in
    let found : Some c.in-Some.code.now ≡ named (λ (e : EventCode). e.name) c.args.event.now s.deployment.events = search rules in
    let so : (are_declared c.as_slice.result.now (map plain_field c.as_slice-in-Some.result.now) && list_all (λ (field : List ℕ × Val). is_value t.next_activity t.next_timer (plain field.1)) c.as_slice-in-Some.result.now) ≡ true = search rules in
    suited c.args.draft.now.changes s c.args.event.now c.args.fields.now c.in-Some.code.now c.as_slice.result.now c.as_slice-in-Some.result.now found c.as_slice.ensures c.as_slice-in-Some.ensures.fields so

pub returns-else-are_suited : goal.returns-else-are_suited
returns-else-are_suited g c =
    let s = g.S.Base.state c.args.setting.now in
    let t = after_changes c.args.draft.now.changes s in
    let found : Some c.in-Some.code.now ≡ named (λ (e : EventCode). e.name) c.args.event.now s.deployment.events = search rules in
    let so : (are_declared c.as_slice.result.now (map plain_field c.as_slice-in-Some.result.now) && list_all (λ (field : List ℕ × Val). is_value t.next_activity t.next_timer (plain field.1)) c.as_slice-in-Some.result.now) ≡ false = search rules in
    unsuited c.args.draft.now.changes s c.args.event.now c.args.fields.now c.in-Some.code.now c.as_slice.result.now c.as_slice-in-Some.result.now found c.as_slice.ensures c.as_slice-in-Some.ensures.fields so
