-- the lines of the totals so far are out
use Rattle.std.proofs.Common.{take}
use Rattle.slee_run.proofs.TotalLemmas.{IsOut, rows_text}
use Rattle.slee_run.proofs.totals.write_rows.Given as goal

abbrev pub invariant-loop-total : goal.invariant-loop-total
invariant-loop-total g l = IsOut g.K.Sink.contents g.K.Sink.faults l.fn.out l.out (rows_text (take l.total-index l.totals))
