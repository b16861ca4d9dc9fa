use Rattle.std.proofs.Common.{◌≡◌, Result, Ok, sym, subst, MatchResult}
use Rattle.deploy_json.specs.Rows.{PartsRow}
use Rattle.deploy_json.specs.declared.fault.ReadFault.{ReadFault}
use Rattle.deploy_json.specs.Reading.{Tells}
use Rattle.deploy_json.specs.Checking.{checked_parts, read_as}
use Rattle.deploy_json.proofs.Places.{told_of_bytes}
use Rattle.deploy_json.proofs.checking.read_deployment.Goals as goal

pub returns-in-Ok : goal.returns-in-Ok
returns-in-Ok c =
    let P : Result PartsRow ReadFault → Type 0 = λ r. MatchResult c.check_parts.result (λ d. checked_parts r ≡ Ok (read_as d)) (Tells (checked_parts r)) in
    record { typed = c.check_parts.ensures.typed; read = subst P (sym c.in-Ok.ensures.read) c.check_parts.ensures.read }

pub returns-in-Err : goal.returns-in-Err
returns-in-Err c = record { typed = tt; read = told_of_bytes c.args.bytes.now c.in-Err.fault c.in-Err.ensures.read }
