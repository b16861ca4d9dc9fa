use Rattle.std.proofs.Common.{◌≡◌, ◌<◌, ◌^◌, ◌∙◌, List, ℕ, ap, length, map, position, bytes_eq, refl, subst, sym}
use Rattle.std.specs.Prelude.{IfSome}
use Rattle.std.proofs.lemmas.List.{length-map}
use Rattle.script_types.specs.declared.codes.Codes.{Codes}
use Rattle.deploy_model.specs.declared.parts.Block.{Block}
use Rattle.deploy_model.specs.declared.parts.Service.{Service}
use Rattle.deploy_model.specs.Deployed.{DeployedService}
use Rattle.deploy_model.specs.Resolving.{service_of}
use Rattle.deploy_model.specs.Tables.{key_number}
use Rattle.slee_descriptor.proofs.Numbering.{same_place, within}
use Rattle.slee_descriptor.proofs.deployment.Deployment.service_named.Goals as goal

pub number_at-requires : goal.number_at-requires
number_at-requires c =
    let parts = c.args.self.now.parts in
    let few : length (map (λ (s : Service). s.key) parts.services) < 2 ^ 32 = rw (length-map parts.services (λ (s : Service). s.key)) c.args.self.now.numbered.services in
    let at : c.place_of.result ≡ position (λ x. bytes_eq x c.as_bytes.result.now) (map (λ (s : Service). s.key) parts.services) = c.place_of.ensures ∙ ap (λ (k : Codes). position (λ x. bytes_eq x c.as_bytes.result.now) k.services) c.args.self.now.coded in
    subst (λ o. IfSome o (λ i. i < 2 ^ 32)) (sym at) (within (λ x. bytes_eq x c.as_bytes.result.now) (map (λ (s : Service). s.key) parts.services) (2 ^ 32) few)

pub returns : goal.returns
returns c =
    let parts = c.args.self.now.parts in
    let blocks = key_number (λ (b : Block). b.key) parts.blocks in
    let at : c.place_of.result ≡ position (λ x. bytes_eq x c.as_bytes.result.now) (map (λ (s : Service). s.key) parts.services) = c.place_of.ensures ∙ ap (λ (k : Codes). position (λ x. bytes_eq x c.as_bytes.result.now) k.services) c.args.self.now.coded in
    c.number_at.ensures ∙ at ∙ ap (λ q. position (λ x. bytes_eq x q) (map (λ (s : Service). s.key) parts.services)) c.as_bytes.ensures.value
    ∙ same_place (λ (s : Service). s.key) (service_of blocks) (λ x. x) (λ (x : DeployedService). x.key) c.args.key.now parts.services (λ x. refl)
