-- the lines so far and those of the others
use Rattle.std.proofs.Common.{◌≡◌, ◌++◌, drop, map}
use Rattle.router_state.specs.Show.{link_line}
use Rattle.trace_history.specs.Lines.{line_texts}
use Rattle.router_show.proofs.contexts.put_links.Given as goal

abbrev pub invariant-rows : goal.invariant-rows
invariant-rows l =
    l.into.items ++ line_texts (map (link_line l.stores.state) (drop l.place l.stores.state.links)) ≡ l.fn.into.items ++ line_texts (map (link_line l.stores.state) l.stores.state.links)
