-- attachments, names, timers, and then rows
use Rattle.std.proofs.Common.{ap, map, ◌∙◌}
use Rattle.std.proofs.lemmas.Result.{on_ok_weaker}
use Rattle.deploy_model.specs.Resolving.{deployed_of}
use Rattle.router_show.specs.Names.{names_seen}
use Rattle.snapshot_write.proofs.WholeLemmas.{behind_put}
use Rattle.snapshot_write.proofs.state.put_behind.Goals as goal

pub returns : goal.returns
returns c =
    on_ok_weaker c.put_rows.result
    (λ last. behind_put c.args.stores.now.state (deployed_of c.args.deployment.now.parts) c.deref.result.now c.timers.result.now.timers c.deref-2.result.now _ _ _ _ _ c.requires
    (ap names_seen c.deref.ensures.value ∙ c.in_ok-names_in_order.ensures) c.timers.ensures.timers (ap (map (λ row. row.now)) c.deref-2.ensures.value ∙ c.in_ok-rows_in_order.ensures)
    c.in_ok-put_links.ensures c.in_ok-put_names.ensures c.in_ok-put_timers.ensures last)
    c.put_rows.ensures
