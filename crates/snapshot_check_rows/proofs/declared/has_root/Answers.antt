-- the parts have the service as it was deployed
use Rattle.std.proofs.Common.{◌==◌, false, Option, ap, ◌∙◌}
use Rattle.std.specs.Option.{option_map_or}
use Rattle.deploy_model.specs.Resolving.{number_of}
use Rattle.deploy_model.specs.Tables.{key_number}
use Rattle.deploy_model.specs.declared.parts.Block.{Block}
use Rattle.deploy_model.specs.declared.parts.Service.{Service}
use Rattle.snapshot_check_rows.proofs.DeclaredLemmas.{service_is}
use Rattle.snapshot_check_rows.proofs.declared.has_root.Goals as goal

pub returns-in-Some : goal.returns-in-Some
returns-in-Some c =
    ap (λ n. n == c.args.block) c.root_of.ensures
    ∙ ap (λ (o : Option Service). option_map_or (λ (s : Service). number_of (key_number (λ (b : Block). b.key) c.args.deployment.now.parts.blocks) s.root == c.args.block) o false) c.in-Some.ensures
    ∙ service_is c.args.deployment.now.parts c.services.result.now c.args.service c.args.block c.services.ensures.same

pub returns-in-None : goal.returns-in-None
returns-in-None c =
    ap (λ (o : Option Service). option_map_or (λ (s : Service). number_of (key_number (λ (b : Block). b.key) c.args.deployment.now.parts.blocks) s.root == c.args.block) o false) c.in-None.ensures
    ∙ service_is c.args.deployment.now.parts c.services.result.now c.args.service c.args.block c.services.ensures.same
