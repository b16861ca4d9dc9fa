-- the counts so far with what the other lines add are those of all lines, and no more than the bytes so far can give
use Rattle.std.proofs.Common.{◌≡◌, ◌-◌, ◌<◌, ◌^◌, length}
use Rattle.std.specs.List.{fold}
use Rattle.signal_script.specs.Lines.{lines_of}
use Rattle.slee_run.specs.Summary.{AreBelow, summary_of, with_line}
use Rattle.slee_run.proofs.summing.summary_of.Given as goal

abbrev pub invariant-lines : goal.invariant-lines
invariant-lines l = record {
  same : fold with_line l.summary (lines_of l.rest) ≡ summary_of l.fn.text;
  below : AreBelow (2 ^ 63 - length l.rest) l.summary;
  small : length l.rest < 2 ^ 63;
}

abbrev pub decreases-lines : goal.decreases-lines
decreases-lines l = length l.rest
