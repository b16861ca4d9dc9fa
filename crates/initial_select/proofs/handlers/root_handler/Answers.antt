use Rattle.std.proofs.Common.{◌∙◌, ℕ, ap, sym}
use Rattle.std.specs.Prelude.{option_and_then}
use Rattle.deploy_model.specs.Deployed.{DeployedService, block_event, service_at}
use Rattle.deploy_model.specs.Resolving.{deployed_of}
use Rattle.initial_select.proofs.Handling.{then_made}
use Rattle.initial_select.proofs.handlers.root_handler.Goals as goal

pub returns-in-Some : goal.returns-in-Some
returns-in-Some c =
    c.block_handler.ensures
    ∙ ap (option_and_then (λ (root : ℕ). block_event (deployed_of c.args.deployment.now.parts) root c.args.event.now)) (sym c.in-Some.is ∙ c.root_of.ensures)
    ∙ sym (then_made (λ (row : DeployedService). row.root) (λ (root : ℕ). block_event (deployed_of c.args.deployment.now.parts) root c.args.event.now) (service_at (deployed_of c.args.deployment.now.parts) c.args.service))

pub returns-in-None : goal.returns-in-None
returns-in-None c =
    ap (option_and_then (λ (root : ℕ). block_event (deployed_of c.args.deployment.now.parts) root c.args.event.now)) (sym c.in-None.is ∙ c.root_of.ensures)
    ∙ sym (then_made (λ (row : DeployedService). row.root) (λ (root : ℕ). block_event (deployed_of c.args.deployment.now.parts) root c.args.event.now) (service_at (deployed_of c.args.deployment.now.parts) c.args.service))
