-- the number, the name, the target, and then the fields
use Rattle.std.proofs.lemmas.Result.{on_ok_weaker}
use Rattle.deploy_model.specs.Resolving.{deployed_of}
use Rattle.snapshot_write.proofs.WholeLemmas.{event_put}
use Rattle.snapshot_write.proofs.events.put_event.Goals as goal

pub returns : goal.returns
returns c =
    on_ok_weaker c.put_pairs.result
    (λ last. event_put (deployed_of c.args.deployment.now.parts) c.args.event.now c.as_bytes.result.now c.as_slice.result.now c.args.into.now.items _ _ _ _ c.as_bytes.ensures.bytes c.as_slice.ensures.fields
    c.in_ok-write_u64.ensures.ok c.in_ok-put_text.ensures c.in_ok-put_target.ensures last)
    c.put_pairs.ensures
