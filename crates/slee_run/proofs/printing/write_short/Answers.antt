use Rattle.std.proofs.Common.{ap, sym, take}
use Rattle.slee_disk.proofs.WritesLemmas.{writes_as}
use Rattle.slee_run.specs.Text.{short_text}
use Rattle.slee_run.specs.declared.finishing.Report.{Report}
use Rattle.slee_run.proofs.printing.write_short.Goals as goal

pub returns-in-Trace : goal.returns-in-Trace
returns-in-Trace g c = writes_as _ _ _ _ _ _ _ (ap (λ (r : Report). short_text r (take c.args.entries c.args.history.now.entries)) (sym c.in-Trace.is)) c.write_trace_alone.ensures

pub returns-in-Summary : goal.returns-in-Summary
returns-in-Summary g c = writes_as _ _ _ _ _ _ _ (ap (λ (r : Report). short_text r (take c.args.entries c.args.history.now.entries)) (sym c.in-Summary.is)) c.write_status.ensures
