use Rattle.std.proofs.Common.{ap, ◌∙◌, ◌++◌, ◌∷◌, []}
use Rattle.std.specs.List.{list_all}
use Rattle.std.proofs.lemmas.Result.{err_from_is_err_and}
use Rattle.slee_value.specs.Fields.{are_fields}
use Rattle.router_state.specs.declared.rows.Event.{Event}
use Rattle.snapshot_read.proofs.HeldLemmas.{refused}
use Rattle.snapshot_read.proofs.TurnLemmas.{map_on, fails_on, fails_first}
use Rattle.snapshot_read.proofs.activity_rows.add_events.Invariants.{queued_of}
use Rattle.snapshot_read.proofs.activity_rows.add_events.Goals as goal

pub returns-in_err-event_of : goal.returns-in_err-event_of
returns-in_err-event_of c =
    let p = err_from_is_err_and c.from_residual.result c.from_residual.ensures.1 in
    rw (p.1, p.2) (refused ((λ (event : Event). are_fields event.fields) c.in-Some.part) (list_all (λ (event : Event). are_fields event.fields) c.args.parts.items) c.in_err-event_of.field-0.0 (fails_first (λ (event : Event). are_fields event.fields) c.args.parts.items _ _ _ c.in-Some.ensures.steps.0 c.parts.invariant.fails) c.in_err-event_of.ensures)

pub parts-preserved : goal.parts-preserved
parts-preserved c =
    let cut = c.in-Some.ensures.steps.0 in
    record {
      can_next = tt;
      is_finite = tt;
      rows = map_on (queued_of c.args.activity) _ _ _ _ _ _ cut (c.in_ok-push.ensures.items ∙ ap (λ (event : Event). c.parts.events.items ++ queued_of c.args.activity event ∷ []) c.in_ok-event_of.ensures) c.parts.invariant.rows;
      fails = fails_on (λ (event : Event). are_fields event.fields) c.args.parts.items _ _ _ cut c.parts.invariant.fails;
    }
