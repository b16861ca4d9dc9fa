use Rattle.std.proofs.Common.{◌≡◌, length}
use Rattle.signal_script.specs.Signals.{has_field}
use Rattle.signal_script.proofs.fields.Fields.has.Given as goal

abbrev pub invariant-loop-key : goal.invariant-loop-key
invariant-loop-key l = has_field l.fn.self l.fn.name ≡ has_field l.left l.fn.name

abbrev pub decreases-loop-key : goal.decreases-loop-key
decreases-loop-key l = length l.left
