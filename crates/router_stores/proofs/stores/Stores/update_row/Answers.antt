-- the row is one of the table
use Rattle.std.proofs.Common.{◌∙◌}
use Rattle.router_stores.specs.Held.{held_state}
use Rattle.router_stores.proofs.FaultLemmas.{update_fits}
use Rattle.router_stores.proofs.stores.Stores.update_row.Goals as goal

pub unreachable-requires : goal.unreachable-requires
unreachable-requires c =
    let can = rw (← c.self.view_is) at c.requires.can in
    let none = update_fits (held_state c.self.inside).deployment _ _ c.self.inside.profiles.kept _ c.self.invariant.tables can in
    let wrong = c.in-Err.ensures.fault ∙ none in
    cc

pub invariant_of-self : goal.invariant_of-self
invariant_of-self c = record {
  ordered = c.self.invariant.ordered;
  tables = c.update.ensures.tables ∙ c.self.invariant.tables;
  ready = c.self.invariant.ready;
}
