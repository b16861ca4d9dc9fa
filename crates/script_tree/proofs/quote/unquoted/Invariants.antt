use Rattle.std.proofs.Common.{length, string_bytes}
use denote.Text.{Utf8}
use denote.Shadow.{shadow}
use Rattle.script_tree.proofs.Quoting.{Reading}
use Rattle.script_tree.proofs.quote.unquoted.Given as goal

abbrev pub invariant-runs : goal.invariant-runs
invariant-runs l = shadow (Utf8 l.rest) × Reading l.behind (string_bytes l.text) l.size l.rest

abbrev pub decreases-runs : goal.decreases-runs
decreases-runs l = length l.rest
