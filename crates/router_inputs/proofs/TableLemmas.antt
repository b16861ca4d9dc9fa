-- The attributes of a table are those that scripts know of it.
use Rattle.std.proofs.Common.{◌≡◌, ℕ, [], Option, Some, None, map, refl, sym, ap, ◌∙◌}
use Rattle.std.specs.Prelude.{slice_get, option_map, option_and_then}
use Rattle.std.specs.Option.{option_map_or}
use Rattle.std.proofs.lemmas.Option.{slice_get-map}
use Rattle.script_types.specs.declared.codes.TableCode.{TableCode}
use Rattle.deploy_model.specs.Deployed.{DeployedProfile, DeployedTable, table_attributes}
use Rattle.deploy_model.specs.Resolving.{deployed_of, number_of, profile_of, table_of}
use Rattle.deploy_model.specs.Rules.{Numbering}
use Rattle.deploy_model.specs.Tables.{key_number}
use Rattle.deploy_model.specs.declared.parts.Parts.{Parts}
use Rattle.deploy_model.specs.declared.parts.ProfileSpec.{ProfileSpec}
use Rattle.deploy_model.specs.declared.parts.Table.{Table}
use Rattle.slee_descriptor.specs.CodesOfParts.{table_code}
use Rattle.router_stores.proofs.PartLemmas.{attributes_at}

pub attributes_are : (parts : Parts) (n : ℕ)
    → option_map_or (λ (t : TableCode). t.attributes) (slice_get (map (table_code (key_number (λ (p : ProfileSpec). p.key) parts.profiles) parts.profiles) parts.tables) n) [] ≡ table_attributes (deployed_of parts) n
attributes_are parts n =
    let numbers : Numbering = key_number (λ (p : ProfileSpec). p.key) parts.profiles in
    ap (λ found. option_map_or (λ (t : TableCode). t.attributes) found []) (slice_get-map (table_code numbers parts.profiles) parts.tables n)
    ∙ by (slice_get parts.tables n)
    ∙ sym (ap (λ found. option_map_or (λ (p : DeployedProfile). p.attributes) (option_and_then (λ (t : DeployedTable). slice_get (map profile_of parts.profiles) t.profile) found) []) (slice_get-map (table_of numbers) parts.tables n))
  where
    by : (found : Option Table)
        → option_map_or (λ (t : TableCode). t.attributes) (option_map (table_code (key_number (λ (p : ProfileSpec). p.key) parts.profiles) parts.profiles) found) []
        ≡ option_map_or (λ (p : DeployedProfile). p.attributes) (option_and_then (λ (t : DeployedTable). slice_get (map profile_of parts.profiles) t.profile) (option_map (table_of (key_number (λ (p : ProfileSpec). p.key) parts.profiles)) found)) []
    by None = refl
    by (Some t) = attributes_at parts.profiles (number_of (key_number (λ (p : ProfileSpec). p.key) parts.profiles) t.profile)
