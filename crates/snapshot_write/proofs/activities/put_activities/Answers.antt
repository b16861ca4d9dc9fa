-- the bytes of one activity more
use Rattle.std.proofs.Common.{ap, sym, ◌∙◌}
use Rattle.std.specs.Prelude.{slice_get}
use Rattle.router_state.specs.Snapshot.{spelled_activity_2}
use Rattle.snapshot_write.proofs.ListLemmas.{bytes_more}
use Rattle.snapshot_write.proofs.activities.put_activities.Goals as goal

pub rows-preserved : goal.rows-preserved
rows-preserved c =
    bytes_more (spelled_activity_2 c.args.stores.now.state) c.args.stores.now.state.activities c.rows.place c.at.result.now _ _ _
    (ap (λ rows. slice_get rows c.rows.place) (sym c.contexts-contexts.ensures.activities) ∙ c.at.ensures) c.in_ok-put_activity.ensures c.rows.invariant
