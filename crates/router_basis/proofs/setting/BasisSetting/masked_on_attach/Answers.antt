-- the codes have the masked events of the block as it was deployed
use Rattle.std.proofs.Common.{ap, ◌∙◌}
use Rattle.std.proofs.lemmas.Result.{IfOk-weaker}
use Rattle.deploy_model.specs.Deployed.{masked_on_attach}
use Rattle.router_state.specs.State.{State}
use Rattle.router_basis.proofs.DeployedLemmas.{masks_are}
use Rattle.router_basis.proofs.setting.BasisSetting.masked_on_attach.Goals as goal

pub returns : goal.returns
returns c =
    IfOk-weaker c.masked_on_attach.result _ _ (λ names h.
    h
    ∙ masks_are c.self.inside.deployment.now c.self.inside.stores.now.state c.codes.result.now c.args.block c.self.invariant.deployed c.codes.ensures.parts
    ∙ ap (λ (s : State). masked_on_attach s.deployment c.args.block) c.self.view_is) c.masked_on_attach.ensures
