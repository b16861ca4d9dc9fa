-- the number of the table's profile is that of its key
use Rattle.std.proofs.Common.{◌≡◌, ℕ, List, [], map, ap, ◌∙◌}
use Rattle.std.specs.Prelude.{slice_get}
use Rattle.std.specs.Option.{option_map_or, unwrap_or}
use Rattle.deploy_model.specs.Deployed.{Deployed, profile_named}
use Rattle.deploy_model.specs.Resolving.{deployed_of, field_of, number_of}
use Rattle.deploy_model.specs.Rules.{Numbering}
use Rattle.deploy_model.specs.Tables.{key_number}
use Rattle.deploy_model.specs.declared.parts.ProfileSpec.{ProfileSpec}
use Rattle.router_stores.proofs.PartLemmas.{attributes_at, profile_placed, unique_at}
use Rattle.router_stores.proofs.table_specs.spec_of.Goals as goal

pub returns : goal.returns
returns c =
    let profiles : List ProfileSpec = c.args.deployment.now.parts.profiles in
    let d : Deployed = deployed_of c.args.deployment.now.parts in
    let keys : Numbering = key_number (λ (p : ProfileSpec). p.key) profiles in
    let key : List ℕ = c.args.table.now.profile in
    let named = c.profile_named-profile.ensures ∙ ap (λ (q : List ℕ). profile_named d q) c.as_str.ensures.bytes ∙ profile_placed key profiles in
    let number : c.unwrap_or.result ≡ number_of keys key = c.unwrap_or.ensures ∙ ap (λ found. unwrap_or found 0) named in
    λ i. record {
      attributes = (c.in_ok-spec.ensures.attributes ∙ (λ j. option_map_or (λ (p : ProfileSpec). map field_of p.attributes) (slice_get (c.profiles.ensures.same j) (number j)) []) ∙ attributes_at profiles (number_of keys key)) i;
      unique = (c.in_ok-spec.ensures.unique ∙ (λ j. option_map_or (λ (p : ProfileSpec). p.unique) (slice_get (c.profiles.ensures.same j) (number j)) []) ∙ unique_at profiles (number_of keys key)) i;
    }
