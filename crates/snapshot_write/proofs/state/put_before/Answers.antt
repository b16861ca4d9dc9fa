-- counts, services, and then entities
use Rattle.std.proofs.lemmas.Result.{on_ok_weaker}
use Rattle.snapshot_write.proofs.WholeLemmas.{before_put}
use Rattle.snapshot_write.proofs.state.put_before.Goals as goal

pub returns : goal.returns
returns c =
    on_ok_weaker c.put_entities.result
    (λ last. before_put c.args.stores.now.state c.services.result.now c.args.into.now.items _ _ _ c.services.ensures c.in_ok-put_counts.ensures c.in_ok-put_services.ensures last)
    c.put_entities.ensures
