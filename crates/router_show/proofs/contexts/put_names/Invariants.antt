-- the lines so far and those of the others
use Rattle.std.proofs.Common.{◌≡◌, ◌++◌, drop, map}
use Rattle.router_show.specs.Names.{name_parts_line, names_seen}
use Rattle.trace_history.specs.Lines.{line_texts}
use Rattle.router_show.proofs.contexts.put_names.Given as goal

abbrev pub invariant-names : goal.invariant-names
invariant-names l =
    l.into.items ++ line_texts (map name_parts_line (names_seen (drop l.name-index l.names))) ≡ l.fn.into.items ++ line_texts (map name_parts_line (names_seen l.names))
