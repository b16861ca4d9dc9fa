-- the rows of the activity are its attachments
use Rattle.std.proofs.Common.{◌==◌, sym, ap, ◌∙◌}
use Rattle.std.specs.Prelude.{not}
use Rattle.router_state.specs.declared.rows.Link.{Link}
use Rattle.entity_tree.proofs.ListLemmas.{filter_of_map}
use Rattle.router_order.specs.Placed.{attachment, attachments}
use Rattle.router_order.proofs.cutting.cut_links_on.Goals as goal

pub returns-clause-rows : goal.returns-clause-rows
returns-clause-rows c = ap attachments c.cut_rows_of.ensures.rows ∙ sym (filter_of_map (λ (l : Link). not (l.activity.0 == c.args.activity.0)) attachment c.args.rows.now.rows)
