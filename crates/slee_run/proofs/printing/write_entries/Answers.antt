use Rattle.std.proofs.Common.{◌∙◌, ap, sym, take, ℕ}
use Rattle.std.proofs.lemmas.List.{length-take-le}
use Rattle.slee_disk.proofs.WritesLemmas.{writes_as}
use Rattle.trace_history.specs.Trace.{trace_text}
use Rattle.slee_run.specs.Summary.{counted_text, summary_of}
use Rattle.slee_run.specs.Text.{report_text}
use Rattle.slee_run.specs.declared.finishing.Report.{Report}
use Rattle.slee_run.specs.declared.summing.Summary.{Summary}
use Rattle.slee_run.proofs.printing.write_entries.Goals as goal

pub returns-in-Trace : goal.returns-in-Trace
returns-in-Trace g c =
    writes_as _ _ _ _ _ _ _ (c.text.ensures ∙ ap (λ (r : Report). report_text r (take c.args.entries c.args.history.now.entries)) (sym c.in-Trace.is)) c.write_whole.ensures

pub returns-in-Summary : goal.returns-in-Summary
returns-in-Summary g c =
    let history = take c.args.entries c.args.history.now.entries in
    writes_as _ _ _ _ _ _ _
    (ap (λ (s : Summary). counted_text s c.args.entries) (c.summary_of.ensures ∙ ap summary_of c.text-in-Summary.ensures)
    ∙ ap (λ (n : ℕ). counted_text (summary_of (trace_text history)) n) (sym (length-take-le c.args.entries c.args.history.now.entries c.requires))
    ∙ ap (λ (r : Report). report_text r history) (sym c.in-Summary.is))
    c.write_summary.ensures
