-- What is declared in parts and in the deployment that they are.
use Rattle.std.proofs.Common.{◌≡◌, ℕ, ◌+◌, ◌<◌, ◌≤◌, List, [], ◌∷◌, ◌++◌, Option, Some, None, cond, drop, get_or, length, map, refl, sym, ap, ◌∙◌}
use Rattle.std.specs.Prelude.{bytes_eq, position, slice_get, option_map}
use Rattle.std.specs.List.{position_from}
use Rattle.std.specs.Option.{option_map_or}
use Rattle.std.proofs.lemmas.Iterator.Adapters.{position_from-zero}
use Rattle.std.proofs.lemmas.List.{append-nil, append_assoc, at_drop_all, at_drop_more}
use Rattle.std.proofs.lemmas.Option.{slice_get-map}
use Rattle.deploy_model.proofs.Noting.{turned}
use Rattle.deploy_model.specs.Deployed.{Deployed, DeployedProfile}
use Rattle.deploy_model.specs.Resolving.{field_of, profile_of, service_of, table_of}
use Rattle.deploy_model.specs.Rules.{Numbering}
use Rattle.deploy_model.specs.Tables.{key_number}
use Rattle.deploy_model.specs.declared.parts.ProfileSpec.{ProfileSpec}
use Rattle.deploy_model.specs.declared.parts.Service.{Service}
use Rattle.deploy_model.specs.declared.parts.Table.{Table}
use Rattle.router_state.specs.Initial.{service_deployed}
use Rattle.router_stores.specs.Begun.{begins}
use Rattle.router_stores.specs.TableSpecs.{spec_of}

pub attributes_at : (profiles : List ProfileSpec) (n : ℕ) → option_map_or (λ (p : ProfileSpec). map field_of p.attributes) (slice_get profiles n) [] ≡ option_map_or (λ (p : DeployedProfile). p.attributes) (slice_get (map profile_of profiles) n) []
attributes_at profiles n = by (slice_get profiles n) ∙ sym (ap (λ found. option_map_or (λ (p : DeployedProfile). p.attributes) found []) (slice_get-map profile_of profiles n))
  where
    by : (found : Option ProfileSpec) → option_map_or (λ (p : ProfileSpec). map field_of p.attributes) found [] ≡ option_map_or (λ (p : DeployedProfile). p.attributes) (option_map profile_of found) []
    by None = refl
    by (Some p) = refl

pub unique_at : (profiles : List ProfileSpec) (n : ℕ) → option_map_or (λ (p : ProfileSpec). p.unique) (slice_get profiles n) [] ≡ option_map_or (λ (p : DeployedProfile). p.unique) (slice_get (map profile_of profiles) n) []
unique_at profiles n = by (slice_get profiles n) ∙ sym (ap (λ found. option_map_or (λ (p : DeployedProfile). p.unique) found []) (slice_get-map profile_of profiles n))
  where
    by : (found : Option ProfileSpec) → option_map_or (λ (p : ProfileSpec). p.unique) found [] ≡ option_map_or (λ (p : DeployedProfile). p.unique) (option_map profile_of found) []
    by None = refl
    by (Some p) = refl

-- the services begin as they are deployed
pub services_begin : (blocks : Numbering) (services : List Service) → map begins services ≡ map service_deployed (map (service_of blocks) services)
services_begin blocks [] = refl
services_begin blocks (x ∷ xs) = ap (λ rest. begins x ∷ rest) (services_begin blocks xs)

numbered : {A B : Type 0} → (made : A → B) (name : B → List ℕ) (q : List ℕ) (xs : List A) (n : ℕ) → position_from (λ b. bytes_eq (name b) q) n (map made xs) ≡ position_from (λ x. bytes_eq q (name (made x))) n xs
numbered made name q [] n = refl
numbered made name q (x ∷ xs) n = λ i. cond (turned (name (made x)) q i) (Some n) (numbered made name q xs (n + 1) i)

-- a profile specification has the same number among the parts and in the deployment
pub profile_placed : (q : List ℕ) (profiles : List ProfileSpec) → position (λ (p : DeployedProfile). bytes_eq p.key q) (map profile_of profiles) ≡ key_number (λ (p : ProfileSpec). p.key) profiles q
profile_placed q profiles = position_from-zero (λ (p : DeployedProfile). bytes_eq p.key q) (map profile_of profiles) ∙ numbered profile_of (λ (p : DeployedProfile). p.key) q profiles 0

-- one more of a list is made into something
pub made_on : {A B : Type 0} (f : A → B) (xs : List A) (done more : List B) (i : ℕ) (x : A) (y : B) → i < length xs → x ≡ get_or xs i x → y ≡ f x → more ≡ done ++ y ∷ [] → done ++ map f (drop i xs) ≡ map f xs → more ++ map f (drop (i + 1) xs) ≡ map f xs
made_on f xs done more i x y low own made is before =
    ap (λ front. front ++ map f (drop (i + 1) xs)) (is ∙ ap (λ z. done ++ z ∷ []) (made ∙ ap f own))
    ∙ append_assoc done (f (get_or xs i x) ∷ []) (map f (drop (i + 1) xs))
    ∙ sym (at_drop_more (λ rest. done ++ map f rest) xs i x low) ∙ before

-- all of it was made
pub made_all : {A B : Type 0} (f : A → B) (xs : List A) (done : List B) (i : ℕ) → length xs ≤ i → done ++ map f (drop i xs) ≡ map f xs → done ≡ map f xs
made_all f xs done i high before = sym (at_drop_all (λ rest. done ++ map f rest) xs i high ∙ append-nil done) ∙ before

-- what is declared for tables, by their parts
pub specs_made : (d : Deployed) (profiles : Numbering) (tables : List Table) → map (λ t. spec_of d (table_of profiles t)) tables ≡ map (spec_of d) (map (table_of profiles) tables)
specs_made d profiles [] = refl
specs_made d profiles (x ∷ xs) = ap (λ rest. spec_of d (table_of profiles x) ∷ rest) (specs_made d profiles xs)
