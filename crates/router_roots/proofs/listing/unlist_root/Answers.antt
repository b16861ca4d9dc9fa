-- a root goes from its service, and a child was never listed
use Rattle.std.proofs.Common.{List, sym, ap, ◌∙◌}
use Rattle.router_state.specs.Trees.{entity_at, is_root}
use Rattle.router_state.specs.declared.rows.Entity.{Entity}
use Rattle.router_roots.proofs.ServiceLemmas.{child_removed, none_removed, root_removed}
use Rattle.router_roots.proofs.listing.unlist_root.Goals as goal

pub returns-in-Root-clause-listed : goal.returns-in-Root-clause-listed
returns-in-Root-clause-listed c =
    let rows = c.args.stores.now.state.entities in
    let found = ap (λ (all : List Entity). entity_at all c.args.entity.0) (sym c.tree.ensures.entities) ∙ sym c.in-Some.ensures in
    rw c.cut_row.ensures.rows (root_removed rows c.args.entity.0 c.in-Root.service c.in-Some.row.now c.args.entries.now.rows c.ordered.ensures.entities c.requires found c.in-Root.is)

pub returns-in-Child-clause-listed : goal.returns-in-Child-clause-listed
returns-in-Child-clause-listed c =
    let rows = c.args.stores.now.state.entities in
    let found = ap (λ (all : List Entity). entity_at all c.args.entity.0) (sym c.tree.ensures.entities) ∙ sym c.in-Some.ensures in
    rw (child_removed rows c.args.entity.0 c.in-Some.row.now c.ordered.ensures.entities found (ap is_root c.in-Child.is)) c.requires

pub returns-in-None-clause-listed : goal.returns-in-None-clause-listed
returns-in-None-clause-listed c =
    let rows = c.args.stores.now.state.entities in
    let none = ap (λ (all : List Entity). entity_at all c.args.entity.0) (sym c.tree.ensures.entities) ∙ sym c.in-None.ensures in
    rw (none_removed rows c.args.entity.0 none) c.requires
