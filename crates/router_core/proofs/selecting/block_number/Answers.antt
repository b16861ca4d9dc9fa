use Rattle.std.proofs.Common.{◌∙◌, ap, sym}
use Rattle.std.specs.Option.{unwrap_or}
use Rattle.deploy_model.specs.declared.parts.Block.{Block}
use Rattle.deploy_model.specs.Deployed.{DeployedBlock}
use Rattle.deploy_model.specs.Resolving.{block_of}
use Rattle.deploy_model.specs.Tables.{key_number}
use Rattle.router_core.proofs.PartLemmas.{placed}
use Rattle.router_core.proofs.selecting.block_number.Goals as goal

pub returns-in-Some : goal.returns-in-Some
returns-in-Some c = ap (λ o. unwrap_or o 0) (sym c.in-Some.is ∙ c.block_named.ensures ∙ placed (block_of (key_number (λ (b : Block). b.key) c.args.deployment.now.parts.blocks)) (λ (b : DeployedBlock). b.key) c.args.key.now c.args.deployment.now.parts.blocks)

pub returns-in-None : goal.returns-in-None
returns-in-None c = ap (λ o. unwrap_or o 0) (sym c.in-None.is ∙ c.block_named.ensures ∙ placed (block_of (key_number (λ (b : Block). b.key) c.args.deployment.now.parts.blocks)) (λ (b : DeployedBlock). b.key) c.args.key.now c.args.deployment.now.parts.blocks)
