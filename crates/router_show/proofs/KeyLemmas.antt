-- Keys by number, in parts and in the deployment that they are.
use Rattle.std.proofs.Common.{◌≡◌, ℕ, List, [], Option, Some, None, map, refl, ap, ◌∙◌}
use Rattle.std.specs.Prelude.{slice_get, option_map}
use Rattle.std.specs.Option.{option_map_or}
use Rattle.std.proofs.lemmas.Option.{slice_get-map}
use Rattle.deploy_model.specs.Deployed.{block_key, service_key, table_name}
use Rattle.deploy_model.specs.Resolving.{block_of, deployed_of, service_of, table_of}
use Rattle.deploy_model.specs.Tables.{key_number}
use Rattle.deploy_model.specs.declared.parts.Block.{Block}
use Rattle.deploy_model.specs.declared.parts.Parts.{Parts}
use Rattle.deploy_model.specs.declared.parts.ProfileSpec.{ProfileSpec}

-- what is read of an item that is made of a part
key_at : {A B : Type 0} (made : A → B) (key : B → List ℕ) (parts : List A) (n : ℕ) → option_map_or key (slice_get (map made parts) n) [] ≡ option_map_or (λ part. key (made part)) (slice_get parts n) []
key_at made key parts n = ap (λ found. option_map_or key found []) (slice_get-map made parts n) ∙ by made key (slice_get parts n)
  where
    by : {A B : Type 0} (made : A → B) (key : B → List ℕ) (found : Option A) → option_map_or key (option_map made found) [] ≡ option_map_or (λ part. key (made part)) found []
    by made key None = refl
    by made key (Some x) = refl

pub service_key_is : (parts : Parts) (n : ℕ) → service_key (deployed_of parts) n ≡ option_map_or (λ s. s.key) (slice_get parts.services n) []
service_key_is parts n = key_at (service_of (key_number (λ (b : Block). b.key) parts.blocks)) (λ s. s.key) parts.services n

pub block_key_is : (parts : Parts) (n : ℕ) → block_key (deployed_of parts) n ≡ option_map_or (λ b. b.key) (slice_get parts.blocks n) []
block_key_is parts n = key_at (block_of (key_number (λ (b : Block). b.key) parts.blocks)) (λ b. b.key) parts.blocks n

pub table_name_is : (parts : Parts) (n : ℕ) → table_name (deployed_of parts) n ≡ option_map_or (λ t. t.name) (slice_get parts.tables n) []
table_name_is parts n = key_at (table_of (key_number (λ (p : ProfileSpec). p.key) parts.profiles)) (λ t. t.name) parts.tables n
