-- the table has the row
use Rattle.std.proofs.Common.{◌∙◌}
use Rattle.router_stores.specs.Held.{held_state}
use Rattle.router_stores.proofs.FaultLemmas.{asking_fits}
use Rattle.router_stores.proofs.stores.Stores.remove_row.Goals as goal

pub unreachable-requires : goal.unreachable-requires
unreachable-requires c =
    let can = rw (← c.self.view_is) at c.requires.can in
    let none = asking_fits (held_state c.self.inside).deployment _ _ c.args.table c.args.row c.self.invariant.tables can in
    let wrong = c.in-Err.ensures.fault ∙ none in
    cc

pub invariant_of-self : goal.invariant_of-self
invariant_of-self c = record {
  ordered = c.self.invariant.ordered;
  tables = c.remove.ensures.tables ∙ c.self.invariant.tables;
  ready = c.self.invariant.ready;
}
