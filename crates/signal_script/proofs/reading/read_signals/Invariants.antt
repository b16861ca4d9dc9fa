use Rattle.std.proofs.Common.{◌≡◌, ◌≤◌, length}
use Rattle.signal_script.specs.Lines.{lines_of}
use Rattle.signal_script.specs.Signals.{signals_of, signals_behind}
use Rattle.signal_script.proofs.reading.read_signals.Given as goal

-- the signals so far, and those of the rest
abbrev pub invariant-lines : goal.invariant-lines
invariant-lines l = record {
  same : signals_of l.bytes ≡ signals_behind l.list (lines_of l.rest);
  within : length l.rest ≤ length l.bytes;
}

abbrev pub decreases-lines : goal.decreases-lines
decreases-lines l = length l.rest
