-- the codes have the fields of the block as it was deployed
use Rattle.std.proofs.Common.{ap, ◌∙◌}
use Rattle.script_types.specs.Codes.{named}
use Rattle.script_types.specs.declared.codes.FieldCode.{FieldCode}
use Rattle.deploy_model.specs.Deployed.{block_fields}
use Rattle.router_state.specs.State.{State}
use Rattle.router_basis.proofs.DeployedLemmas.{field_is}
use Rattle.router_basis.proofs.setting.BasisSetting.field.Goals as goal

pub returns : goal.returns
returns c =
    c.field.ensures
    ∙ field_is c.self.inside.deployment.now c.self.inside.stores.now.state c.codes.result.now c.args.block c.args.name.now c.self.invariant.deployed c.codes.ensures.parts
    ∙ ap (λ (s : State). named (λ (f : FieldCode). f.name) c.args.name.now (block_fields s.deployment c.args.block)) c.self.view_is
