-- the codes have the relations of the block as it was deployed
use Rattle.std.proofs.Common.{ap, ◌∙◌}
use Rattle.deploy_model.specs.Deployed.{relation_of}
use Rattle.router_state.specs.State.{State}
use Rattle.router_basis.proofs.DeployedLemmas.{relation_is}
use Rattle.router_basis.proofs.setting.BasisSetting.relation.Goals as goal

pub returns : goal.returns
returns c =
    c.relation.ensures
    ∙ relation_is c.self.inside.deployment.now c.self.inside.stores.now.state c.codes.result.now c.args.block c.args.name.now c.self.invariant.deployed c.codes.ensures.parts
    ∙ ap (λ (s : State). relation_of s.deployment c.args.block c.args.name.now) c.self.view_is
