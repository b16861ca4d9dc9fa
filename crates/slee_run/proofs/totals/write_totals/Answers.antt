use Rattle.std.proofs.Common.{List, ap, map}
use Rattle.slee_disk.proofs.WritesLemmas.{writes_as}
use Rattle.trace_history.specs.Lines.{line_texts}
use Rattle.usage_totals.specs.Totals.{total_line}
use Rattle.usage_totals.specs.declared.total.Total.{Total}
use Rattle.slee_run.proofs.totals.write_totals.Goals as goal

pub returns : goal.returns
returns g c = writes_as _ _ _ _ _ _ _ (ap (λ (ts : List Total). line_texts (map total_line ts)) c.as_slice.ensures) c.write_rows.ensures
