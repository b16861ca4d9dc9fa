-- the totals so far with what the other lines add are those of all lines, and they are within what the bytes so far can give
use Rattle.std.proofs.Common.{◌≡◌, ◌-◌, ◌<◌, ◌^◌, length, take}
use Rattle.std.specs.List.{fold}
use Rattle.signal_script.specs.Lines.{lines_of}
use Rattle.usage_totals.specs.Bounds.{AreWithin}
use Rattle.usage_totals.specs.Totals.{usage_totals, with_line}
use Rattle.usage_totals.proofs.totals.usage_totals.Given as goal

abbrev pub invariant-lines : goal.invariant-lines
invariant-lines l = record {
  same : fold with_line l.totals (lines_of l.rest) ≡ usage_totals (take l.fn.upto l.fn.history.entries);
  within : AreWithin (2 ^ 63 - 1 - length l.rest) l.totals;
  small : length l.rest < 2 ^ 63;
}

abbrev pub decreases-lines : goal.decreases-lines
decreases-lines l = length l.rest
