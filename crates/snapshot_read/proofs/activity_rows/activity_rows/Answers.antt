use Rattle.std.specs.List.{list_all}
use Rattle.std.proofs.lemmas.Result.{err_from_is_err_and}
use Rattle.router_state.specs.Restoring.{activity_of, attributes_of, events_of, services_done_of, delivered_of, suspension_of}
use Rattle.snapshot_read.specs.Holding.{holds_activity}
use Rattle.snapshot_read.proofs.HeldLemmas.{refused}
use Rattle.snapshot_read.proofs.TurnLemmas.{map_on, flat_on, filter_on, fails_on, fails_first}
use Rattle.snapshot_read.proofs.activity_rows.activity_rows.Goals as goal

pub returns-in_err-add_activity : goal.returns-in_err-add_activity
returns-in_err-add_activity c =
    let p = err_from_is_err_and c.from_residual.result c.from_residual.ensures.1 in
    rw (p.1, p.2) (refused (holds_activity c.in-Some.part) (list_all holds_activity c.args.parts.items) c.in_err-add_activity.field-0.0 (fails_first holds_activity c.args.parts.items _ _ _ c.in-Some.ensures.steps.0 c.parts.invariant.fails) c.in_err-add_activity.ensures)

pub parts-preserved : goal.parts-preserved
parts-preserved c =
    let cut = c.in-Some.ensures.steps.0 in
    let added = c.in_ok-add_activity.ensures in
    record {
      can_next = tt;
      is_finite = tt;
      activities = map_on activity_of _ _ _ _ _ _ cut added.activities c.parts.invariant.activities;
      attributes = flat_on attributes_of _ _ _ _ _ _ cut added.attributes c.parts.invariant.attributes;
      events = flat_on events_of _ _ _ _ _ _ cut added.events c.parts.invariant.events;
      services_done = flat_on services_done_of _ _ _ _ _ _ cut added.services_done c.parts.invariant.services_done;
      delivered = flat_on delivered_of _ _ _ _ _ _ cut added.delivered c.parts.invariant.delivered;
      suspensions = filter_on suspension_of _ _ _ _ _ _ cut added.suspensions c.parts.invariant.suspensions;
      fails = fails_on holds_activity c.args.parts.items _ _ _ cut c.parts.invariant.fails;
    }
