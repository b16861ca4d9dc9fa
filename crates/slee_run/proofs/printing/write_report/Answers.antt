use Rattle.std.proofs.Common.{List, Err, ap, map, refl}
use Rattle.slee_disk.proofs.WritesLemmas.{writes_as, writes_stop, writes_then}
use Rattle.trace_history.specs.Lines.{line_texts}
use Rattle.usage_totals.specs.Totals.{total_line}
use Rattle.usage_totals.specs.declared.total.Total.{Total}
use Rattle.slee_run.proofs.printing.write_report.Goals as goal

pub returns-in_err-write_entries : goal.returns-in_err-write_entries
returns-in_err-write_entries g c =
    writes_stop _ _ _ _ _ _ (Err c.in_err-write_entries.field-0.0) _ refl c.from_residual.ensures.0 c.in_err-write_entries.ensures

pub returns-in_err-write_totals : goal.returns-in_err-write_totals
returns-in_err-write_totals g c =
    writes_then _ _ _ _ _ _ _ _ _ c.in_ok-write_entries.ensures
    (writes_stop _ _ _ _ _ _ (Err c.in_err-write_totals.field-0.0) _ refl c.from_residual-in_err-write_totals.ensures.0
    (writes_as _ _ _ _ _ _ _ (ap (λ (ts : List Total). line_texts (map total_line ts)) c.requires.totals) c.in_err-write_totals.ensures))

pub returns : goal.returns
returns g c =
    writes_then _ _ _ _ _ _ _ _ _ c.in_ok-write_entries.ensures
    (writes_then _ _ _ _ _ _ _ _ _ (writes_as _ _ _ _ _ _ _ (ap (λ (ts : List Total). line_texts (map total_line ts)) c.requires.totals) c.in_ok-write_totals.ensures)
    c.write_status.ensures)
