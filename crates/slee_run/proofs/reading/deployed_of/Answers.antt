use Rattle.std.proofs.Common.{List, ℕ, sym, subst}
use Rattle.deploy_json.specs.Checking.{reading_of}
use Rattle.deploy_json.specs.Reading.{Tells}
use Rattle.slee_run.specs.Answers.{IsRefusalFor}
use Rattle.slee_run.specs.Checking.{IsBarred}
use Rattle.slee_run.specs.Given.{unread}
use Rattle.slee_run.proofs.ReadLemmas.{fault_refusal, read_barred}
use Rattle.slee_run.proofs.reading.deployed_of.Goals as goal

pub returns-in-Err-clause-refused : goal.returns-in-Err-clause-refused
returns-in-Err-clause-refused c =
    let tells = subst (λ (b : List ℕ). Tells (reading_of b) c.in-Err.fault) c.as_slice.ensures c.in-Err.ensures.read in
    subst (IsRefusalFor (unread (reading_of c.args.bytes))) (sym c.status_of_fault.ensures) (fault_refusal (reading_of c.args.bytes) c.in-Err.fault tells)

pub returns-in-Err-clause-barred : goal.returns-in-Err-clause-barred
returns-in-Err-clause-barred c =
    let tells = subst (λ (b : List ℕ). Tells (reading_of b) c.in-Err.fault) c.as_slice.ensures c.in-Err.ensures.read in
    λ within. subst (IsBarred c.args.bytes) (sym c.status_of_fault.ensures) (read_barred c.args.bytes c.in-Err.fault within tells)
