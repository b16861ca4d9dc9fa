-- the lines of one entity more
use Rattle.std.proofs.Common.{ap, sym, ◌∙◌}
use Rattle.std.specs.Prelude.{slice_get}
use Rattle.router_state.specs.Show.{entity_lines}
use Rattle.router_show.proofs.KeptLemmas.{lines_more}
use Rattle.router_show.proofs.entities.put_entities.Goals as goal

pub rows-preserved : goal.rows-preserved
rows-preserved c =
    lines_more (entity_lines c.args.stores.now.state) c.args.stores.now.state.entities c.rows.place c.at.result.now _ _ _
    (ap (λ rows. slice_get rows c.rows.place) (sym c.tree-tree.ensures.entities) ∙ c.at.ensures) c.in_ok-put_whole.ensures c.rows.invariant
