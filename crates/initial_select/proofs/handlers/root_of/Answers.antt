use Rattle.std.proofs.Common.{rules, ◌≡◌, ◌∙◌, Some, ap}
use Rattle.std.specs.Prelude.{slice_get}
use Rattle.deploy_model.specs.declared.parts.Block.{Block}
use Rattle.deploy_model.specs.Deployed.{DeployedService}
use Rattle.deploy_model.specs.Resolving.{service_of, number_of}
use Rattle.deploy_model.specs.Tables.{key_number}
use Rattle.initial_select.proofs.Handling.{read_of}
use Rattle.initial_select.proofs.handlers.root_of.Goals as goal

pub returns : goal.returns
returns c =
    let here : Some c.in_ok-service.service.now ≡ slice_get c.args.deployment.now.parts.services c.args.service = c.in_ok-service.ensures ∙ ap (λ xs. slice_get xs c.args.service) c.services.ensures.same in
    let key : c.as_str.result.now ≡ c.in_ok-service.service.now.root = search rules in
    ap Some (c.block_number.ensures ∙ ap (number_of (key_number (λ (b : Block). b.key) c.args.deployment.now.parts.blocks)) key)
    ∙ read_of (service_of (key_number (λ (b : Block). b.key) c.args.deployment.now.parts.blocks)) (λ (row : DeployedService). row.root) c.args.deployment.now.parts.services c.args.service (Some c.in_ok-service.service.now) here
