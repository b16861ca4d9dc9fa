use Rattle.std.proofs.Common.{◌≡◌, ◌≤◌, ◌+◌, ◌++◌, drop}
use Rattle.script_print.specs.Layout.{behind, laid_out}
use Rattle.script_print.proofs.printing.text_of.Given as goal

-- what is still to come stands behind what is written; no more braces are open than tokens were written
abbrev pub invariant-loop-token : goal.invariant-loop-token
invariant-loop-token l = record {
  whole : l.text.items ++ behind l.depth l.manner (drop l.token-index l.rest) ≡ laid_out l.tokens;
  few : l.depth ≤ l.token-index + 1;
}
