-- the entity, its convergence name, and then its fields
use Rattle.std.proofs.Common.{◌==◌, ap, ◌∙◌}
use Rattle.std.specs.Prelude.{filter}
use Rattle.std.proofs.lemmas.Result.{on_ok_weaker}
use Rattle.deploy_model.specs.Resolving.{deployed_of}
use Rattle.router_state.specs.declared.rows.Field.{Field}
use Rattle.snapshot_write.proofs.WholeLemmas.{entity_put}
use Rattle.snapshot_write.proofs.entities.put_entity.Goals as goal

pub returns : goal.returns
returns c =
    on_ok_weaker c.put_fields.result
    (λ last. entity_put c.args.stores.now.state (deployed_of c.args.deployment.now.parts) c.args.row.now c.of.result _ _ _ _ c.requires
    (c.of.ensures ∙ ap (filter (λ (f : Field). f.entity.0 == c.args.row.now.number.0)) c.fields.ensures) c.in_ok-put_row.ensures c.in_ok-put_name.ensures last)
    c.put_fields.ensures
