use Rattle.std.proofs.Common.{rules, ◌≡◌, ◌∙◌, ℕ, ℤ, Some, ap, w8}
use Rattle.std.specs.Prelude.{slice_get}
use Rattle.std.proofs.lemmas.Int.{to_z-of_z}
use Rattle.deploy_model.specs.declared.parts.Block.{Block}
use Rattle.deploy_model.specs.Deployed.{DeployedService}
use Rattle.deploy_model.specs.Resolving.{service_of, number_of}
use Rattle.deploy_model.specs.Rules.{Numbering}
use Rattle.deploy_model.specs.Tables.{key_number}
use Rattle.router_core.proofs.PartLemmas.{read_of}
use Rattle.router_core.proofs.selecting.root_row.Goals as goal

abbrev with_priority : ℕ → ℤ → ℕ × ℤ
with_priority block priority = (block, priority)

pub returns : goal.returns
returns c =
    let here : Some c.in_ok-row.row.now ≡ slice_get c.args.deployment.now.parts.services c.args.service = c.in_ok-row.ensures ∙ ap (λ xs. slice_get xs c.args.service) c.services.ensures.same in
    let key : c.as_str.result.now ≡ c.in_ok-row.row.now.root = search rules in
    let numbers : Numbering = key_number (λ (b : Block). b.key) c.args.deployment.now.parts.blocks in
    ap (λ (p : ℤ). Some (with_priority c.block_number-block.result p)) (to_z-of_z w8 c.priority_of.result (search rules))
    ∙ ap (λ (n : ℕ). Some (with_priority n c.priority_of.result)) (c.block_number-block.ensures ∙ ap (number_of numbers) key)
    ∙ ap (λ (p : ℤ). Some (with_priority (number_of numbers c.in_ok-row.row.now.root) p)) c.priority_of.ensures
    ∙ read_of (service_of numbers) (λ (row : DeployedService). with_priority row.root row.priority) c.args.deployment.now.parts.services c.args.service (Some c.in_ok-row.row.now) here
