-- the lines so far and those of the others
use Rattle.std.proofs.Common.{◌≡◌, ◌++◌, drop, map}
use Rattle.deploy_model.specs.Resolving.{deployed_of}
use Rattle.router_state.specs.Show.{row_line}
use Rattle.trace_history.specs.Lines.{line_texts}
use Rattle.router_show.proofs.profiles.put_rows.Given as goal

abbrev pub invariant-rows : goal.invariant-rows
invariant-rows l =
    l.into.items ++ line_texts (map (row_line (deployed_of l.deployment.parts)) (map (λ row. row.now) (drop l.row-index l.rows))) ≡ l.fn.into.items ++ line_texts (map (row_line (deployed_of l.deployment.parts)) (map (λ row. row.now) l.rows))
