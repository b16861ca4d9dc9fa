use Rattle.std.proofs.Common.{◌≡◌, ◌++◌, drop, string_bytes}
use Rattle.serde_json.specs.View.{items_view}
use Rattle.deploy_json.specs.Sources.{lines_after}
use Rattle.deploy_hints.proofs.source.push_lines.Given as goal

abbrev pub invariant-loop-line : goal.invariant-loop-line
invariant-loop-line l = string_bytes l.text ++ lines_after (items_view (drop l.line-index l.lines)) ≡ string_bytes l.initial.text ++ lines_after (items_view l.lines)
