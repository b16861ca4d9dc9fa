-- the bytes of one attachment more
use Rattle.std.proofs.Common.{ap, sym, ◌∙◌}
use Rattle.std.specs.Prelude.{option_map, slice_get}
use Rattle.activity_context.specs.Views.{parts_of_link}
use Rattle.snapshot_write.proofs.ListLemmas.{link_more}
use Rattle.snapshot_write.proofs.links.put_links.Goals as goal

pub rows-preserved : goal.rows-preserved
rows-preserved c =
    link_more c.args.stores.now.state c.args.stores.now.state.links c.rows.place c.links_at.result _ _ _
    (ap (λ links. option_map parts_of_link (slice_get links c.rows.place)) (sym c.contexts-contexts.ensures.links) ∙ c.links_at.ensures) c.in_ok-put_link.ensures c.rows.invariant
