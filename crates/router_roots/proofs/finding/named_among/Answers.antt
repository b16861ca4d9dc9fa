-- the entry's row passes, and no entry before it led to one
use Rattle.std.proofs.Common.{sym, ap, ◌∙◌}
use Rattle.std.specs.Prelude.{option_map}
use Rattle.router_state.specs.declared.rows.RootName.{RootName}
use Rattle.router_steps.specs.Selection.{is_root_named}
use Rattle.router_roots.proofs.FindLemmas.{entry_passes}
use Rattle.router_roots.proofs.finding.named_among.Goals as goal

pub returns-then-is_root_named : goal.returns-then-is_root_named
returns-then-is_root_named c =
    let s = c.args.stores.now.state in
    sym (entry_passes s.root_names (is_root_named s c.args.service c.args.name.now) c.in-Some.entry.now _ c.entries.entry-iterator c.is_root_named.result c.in-Some.ensures.steps c.is_root_named.ensures c.if-is_root_named.true)
    ∙ ap (option_map (λ (row : RootName). row.entity.0)) c.entries.invariant
