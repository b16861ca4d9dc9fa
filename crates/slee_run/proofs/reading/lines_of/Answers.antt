use Rattle.std.proofs.Common.{sym, subst}
use Rattle.signal_script.specs.Signals.{signals_of}
use Rattle.slee_run.specs.Answers.{IsRefusalFor}
use Rattle.slee_run.specs.Given.{unlined}
use Rattle.slee_run.proofs.ReadLemmas.{lines_refusal}
use Rattle.slee_run.proofs.reading.lines_of.Goals as goal

pub returns-in-Err-clause-refused : goal.returns-in-Err-clause-refused
returns-in-Err-clause-refused c =
    subst (IsRefusalFor (unlined (signals_of c.args.bytes.now))) (sym c.status_of_lines.ensures) (lines_refusal c.args.bytes.now c.in-Err.fault c.in-Err.ensures)
