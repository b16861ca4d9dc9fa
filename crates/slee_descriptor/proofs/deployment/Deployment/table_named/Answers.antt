use Rattle.std.proofs.Common.{◌≡◌, ◌<◌, ◌^◌, ◌∙◌, List, ℕ, ap, length, map, position, bytes_eq, refl, subst, sym}
use Rattle.std.specs.Prelude.{IfSome}
use Rattle.std.proofs.lemmas.List.{length-map}
use Rattle.script_types.specs.declared.codes.Codes.{Codes}
use Rattle.script_types.specs.declared.codes.TableCode.{TableCode}
use Rattle.deploy_model.specs.declared.parts.ProfileSpec.{ProfileSpec}
use Rattle.deploy_model.specs.Deployed.{DeployedTable}
use Rattle.deploy_model.specs.Resolving.{table_of}
use Rattle.deploy_model.specs.Tables.{key_number}
use Rattle.slee_descriptor.specs.CodesOfParts.{table_code}
use Rattle.slee_descriptor.proofs.Numbering.{same_place, within}
use Rattle.slee_descriptor.proofs.deployment.Deployment.table_named.Goals as goal

pub number_at-requires : goal.number_at-requires
number_at-requires c =
    let parts = c.args.self.now.parts in
    let made = table_code (key_number (λ (p : ProfileSpec). p.key) parts.profiles) parts.profiles in
    let few : length (map made parts.tables) < 2 ^ 32 = rw (length-map parts.tables made) c.args.self.now.numbered.tables in
    let at : c.place_of.result ≡ position (λ (x : TableCode). bytes_eq x.name c.as_bytes.result.now) (map made parts.tables) = c.place_of.ensures ∙ ap (λ (k : Codes). position (λ (x : TableCode). bytes_eq x.name c.as_bytes.result.now) k.tables) c.args.self.now.coded in
    subst (λ o. IfSome o (λ i. i < 2 ^ 32)) (sym at) (within (λ (x : TableCode). bytes_eq x.name c.as_bytes.result.now) (map made parts.tables) (2 ^ 32) few)

pub returns : goal.returns
returns c =
    let parts = c.args.self.now.parts in
    let profiles = key_number (λ (p : ProfileSpec). p.key) parts.profiles in
    let made = table_code profiles parts.profiles in
    let at : c.place_of.result ≡ position (λ (x : TableCode). bytes_eq x.name c.as_bytes.result.now) (map made parts.tables) = c.place_of.ensures ∙ ap (λ (k : Codes). position (λ (x : TableCode). bytes_eq x.name c.as_bytes.result.now) k.tables) c.args.self.now.coded in
    c.number_at.ensures ∙ at ∙ ap (λ q. position (λ (x : TableCode). bytes_eq x.name q) (map made parts.tables)) c.as_bytes.ensures.value
    ∙ same_place made (table_of profiles) (λ (x : TableCode). x.name) (λ (x : DeployedTable). x.name) c.args.name.now parts.tables (λ x. refl)
