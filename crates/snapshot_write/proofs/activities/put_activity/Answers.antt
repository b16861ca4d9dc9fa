-- the activity, its attributes, and then what waits on it
use Rattle.std.proofs.Common.{◌==◌, ap, ◌∙◌}
use Rattle.std.specs.Prelude.{filter}
use Rattle.std.proofs.lemmas.Result.{on_ok_weaker}
use Rattle.deploy_model.specs.Resolving.{deployed_of}
use Rattle.router_state.specs.declared.rows.Attribute.{Attribute}
use Rattle.snapshot_write.proofs.WholeLemmas.{activity_put}
use Rattle.snapshot_write.proofs.activities.put_activity.Goals as goal

pub returns : goal.returns
returns c =
    on_ok_weaker c.put_waiting.result
    (λ last. activity_put c.args.stores.now.state (deployed_of c.args.deployment.now.parts) c.args.row.now c.attrs_of.result _ _ _ _ c.requires
    (c.attrs_of.ensures ∙ ap (filter (λ (r : Attribute). r.activity.0 == c.args.row.now.number.0)) c.contexts.ensures.attributes) c.in_ok-put_row.ensures c.in_ok-put_attributes.ensures last)
    c.put_waiting.ensures
