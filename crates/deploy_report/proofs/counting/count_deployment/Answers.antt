use Rattle.std.proofs.Common.{◌≡◌, ◌∙◌, Result, Ok, sym, ap}
use Rattle.deploy_json.specs.declared.fault.ReadFault.{ReadFault}
use Rattle.deploy_json.specs.Checking.{reading_of}
use Rattle.deploy_report.specs.declared.counts.Counts.{Counts}
use Rattle.deploy_json.specs.Rows.{parts_row}
use Rattle.deploy_report.specs.Counting.{counts_in, counts_read, counts_of}
use Rattle.deploy_report.proofs.Telling.{tells_counts}
use Rattle.deploy_report.proofs.counting.count_deployment.Goals as goal

pub returns-in-Ok : goal.returns-in-Ok
unfolding counts_in
returns-in-Ok c =
    ap counts_read c.in-Ok.ensures.read
    ∙ ap (λ (counts : Counts). let r : Result Counts ReadFault = Ok counts in r) (ap (λ d. counts_of (parts_row d.parts)) (sym c.deployment.ensures.same) ∙ sym c.counts_of.ensures)

pub returns-in-Err : goal.returns-in-Err
unfolding counts_in
returns-in-Err c = tells_counts (reading_of c.args.bytes.now) c.in-Err.fault c.in-Err.ensures.read
