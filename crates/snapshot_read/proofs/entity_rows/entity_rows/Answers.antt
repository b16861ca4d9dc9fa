use Rattle.std.specs.List.{list_all}
use Rattle.std.proofs.lemmas.Result.{err_from_is_err_and}
use Rattle.router_state.specs.Restoring.{entity_of, root_name_of, fields_of}
use Rattle.snapshot_read.specs.Holding.{holds_entity}
use Rattle.snapshot_read.proofs.HeldLemmas.{refused}
use Rattle.snapshot_read.proofs.TurnLemmas.{map_on, flat_on, filter_on, fails_on, fails_first}
use Rattle.snapshot_read.proofs.entity_rows.entity_rows.Goals as goal

pub returns-in_err-add_entity : goal.returns-in_err-add_entity
returns-in_err-add_entity c =
    let p = err_from_is_err_and c.from_residual.result c.from_residual.ensures.1 in
    rw (p.1, p.2) (refused (holds_entity c.in-Some.part) (list_all holds_entity c.args.parts.items) c.in_err-add_entity.field-0.0 (fails_first holds_entity c.args.parts.items _ _ _ c.in-Some.ensures.steps.0 c.parts.invariant.fails) c.in_err-add_entity.ensures)

pub parts-preserved : goal.parts-preserved
parts-preserved c =
    let cut = c.in-Some.ensures.steps.0 in
    let added = c.in_ok-add_entity.ensures in
    record {
      can_next = tt;
      is_finite = tt;
      entities = map_on entity_of _ _ _ _ _ _ cut added.entities c.parts.invariant.entities;
      root_names = filter_on root_name_of _ _ _ _ _ _ cut added.root_names c.parts.invariant.root_names;
      fields = flat_on fields_of _ _ _ _ _ _ cut added.fields c.parts.invariant.fields;
      fails = fails_on holds_entity c.args.parts.items _ _ _ cut c.parts.invariant.fails;
    }
