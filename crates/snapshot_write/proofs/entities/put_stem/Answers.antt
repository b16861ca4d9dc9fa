-- the number of the parent, and then a text
use Rattle.std.proofs.Common.{◌∙◌}
use Rattle.std.proofs.lemmas.Result.{on_ok_weaker}
use Rattle.deploy_model.specs.Resolving.{deployed_of}
use Rattle.snapshot_write.proofs.WholeLemmas.{child_put, root_put}
use Rattle.snapshot_write.proofs.entities.put_stem.Goals as goal

pub returns-in_ok-write_u64-in-Root : goal.returns-in_ok-write_u64-in-Root
returns-in_ok-write_u64-in-Root c =
    on_ok_weaker c.put_text.result
    (λ last. root_put (deployed_of c.args.deployment.now.parts) c.args.stem.now c.in-Root.service c.as_bytes.result.now c.args.into.now.items _ _ c.in-Root.is (c.as_bytes.ensures.value ∙ c.service_key.ensures) c.in_ok-write_u64-in-Root.ensures.ok last)
    c.put_text.ensures

pub returns-in_ok-write_u64-in-Child : goal.returns-in_ok-write_u64-in-Child
returns-in_ok-write_u64-in-Child c =
    on_ok_weaker c.put_text-in-Child.result
    (λ last. child_put (deployed_of c.args.deployment.now.parts) c.args.stem.now c.in-Child.parent c.in-Child.relation c.as_bytes-in-Child.result.now c.args.into.now.items _ _ c.in-Child.is c.as_bytes-in-Child.ensures.bytes c.in_ok-write_u64-in-Child.ensures.ok last)
    c.put_text-in-Child.ensures
