-- the first of the entities of the attachments is the first of all
use Rattle.std.proofs.Common.{ap, ◌∙◌}
use Rattle.std.specs.Prelude.{option_map}
use Rattle.router_state.specs.declared.rows.Entity.{Entity}
use Rattle.router_state.proofs.AgreeLemmas.{link_order}
use Rattle.router_order.specs.Asked.{is_among}
use Rattle.router_order.proofs.NextLemmas.{first_is}
use Rattle.router_order.proofs.next.next_entity.Goals as goal

pub returns : goal.returns
returns c = λ s v about same.
    let links = c.args.contexts.now.links in
    let found = rw (c.links_on.ensures, c.head.ensures) at c.least.ensures in
    let rises = link_order links ∙ c.ordered-2.ensures.links in
    c.number_of.ensures ∙ ap (option_map (λ (row : Entity). row.number)) (found ∙ first_is s c.args.activity.0 v c.args.tree.now.rows c.args.masks.now.rows c.args.wants.now.event.now c.args.wants.now.blocks.now c.args.wants.now.target (is_among c.args.wants.now.delivered.now) about links same c.ordered.ensures.rises rises)
