use Rattle.std.proofs.Common.{◌≡◌, ◌∙◌, ap, Ok, subst, MatchResult}
use Rattle.deploy_model.specs.declared.parts.Parts.{Parts}
use Rattle.slee_descriptor.specs.CodesOfParts.{codes_in}
use Rattle.deploy_json.specs.Rows.{parts_row}
use Rattle.deploy_json.specs.Reading.{Tells}
use Rattle.deploy_json.specs.Checking.{checked_parts, read_as}
use Rattle.deploy_json.proofs.checking.check_parts.Goals as goal

pub check_scripts-requires : goal.check_scripts-requires
check_scripts-requires c = c.in-Ok.deployment.coded ∙ ap (codes_in c.in-Ok.deployment.parts) c.in-Ok.ensures.unchecked

pub returns-in-Ok : goal.returns-in-Ok
returns-in-Ok c =
    let P : Parts → Type 0 = λ p. MatchResult c.check_scripts.result (λ d. checked_parts (Ok (parts_row p)) ≡ Ok (read_as d)) (Tells (checked_parts (Ok (parts_row p)))) in
    record { typed = c.check_scripts.ensures.typed; read = subst P c.in-Ok.ensures.same c.check_scripts.ensures.read }
