-- the names so far and the others
use Rattle.std.proofs.Common.{◌≡◌, ◌++◌, drop, map}
use Rattle.activity_context.specs.Views.{parts_of_name}
use Rattle.router_show.specs.Names.{names_seen}
use Rattle.router_show.proofs.byte_order.names_kept.Given as goal

abbrev pub invariant-names : goal.invariant-names
invariant-names l =
    names_seen l.names.items ++ map parts_of_name (drop l.place l.contexts.names_kept) ≡ map parts_of_name l.contexts.names_kept
