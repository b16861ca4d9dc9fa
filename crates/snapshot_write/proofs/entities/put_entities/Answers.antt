-- the bytes of one entity more
use Rattle.std.proofs.Common.{ap, sym, ◌∙◌}
use Rattle.std.specs.Prelude.{slice_get}
use Rattle.router_state.specs.Snapshot.{spelled_entity}
use Rattle.snapshot_write.proofs.ListLemmas.{bytes_more}
use Rattle.snapshot_write.proofs.entities.put_entities.Goals as goal

pub rows-preserved : goal.rows-preserved
rows-preserved c =
    bytes_more (spelled_entity c.args.stores.now.state) c.args.stores.now.state.entities c.rows.place c.at.result.now _ _ _
    (ap (λ rows. slice_get rows c.rows.place) (sym c.tree-tree.ensures.entities) ∙ c.at.ensures) c.in_ok-put_entity.ensures c.rows.invariant
