-- What is asked of a deployment so that the names in a snapshot lead back to what they stand for.
use Rattle.std.specs.Prelude.{ℕ, ◌≡◌, ◌<◌, ◌≤◌, ◌^◌, Bool, true, List, length, Option, Some}
use Rattle.std.specs.List.{list_all}
use Rattle.slee_value.specs.declared.kind.Kind.{Kind}
use Rattle.script_types.specs.declared.codes.FieldCode.{FieldCode}
use Rattle.script_types.specs.declared.codes.RelationCode.{RelationCode}
use Rattle.deploy_model.specs.Deployed.{Deployed, DeployedService, attribute_kind, block_fields, block_key, block_named, event_fields, relation_of, service_at, service_key, service_named, table_attributes, table_name, table_named}
use Rattle.router_state.specs.Fits.{is_text}

-- the name of a field is a text
abbrev pub has_text : FieldCode → Bool
has_text field = is_text field.name

-- the key is a text, and what has it is this number
pub record LeadsTo (number_named : List ℕ → Option ℕ) (key : List ℕ) (n : ℕ) : Type 0 where
  pub text : is_text key ≡ true
  pub number : number_named key ≡ Some n

-- The keys of blocks and services and the names of tables are texts, and each leads back to its number. The roots of services and
-- what relations lead to are blocks. Names of relations, events and fields and keys of attributes are texts. Numbers of services
-- have 32 bits.
pub record IsNamed (d : Deployed) : Type 0 where
  pub blocks : (n : ℕ) → n < length d.blocks → LeadsTo (block_named d) (block_key d n) n
  pub services : (n : ℕ) → n < length d.services → LeadsTo (service_named d) (service_key d n) n
  pub tables : (n : ℕ) → n < length d.tables → LeadsTo (table_named d) (table_name d n) n
  pub roots : (n : ℕ) (service : DeployedService) → service_at d n ≡ Some service → service.root < length d.blocks
  pub relations : (n : ℕ) (name : List ℕ) (r : RelationCode) → relation_of d n name ≡ Some r → (is_text name ≡ true) × (r.block < length d.blocks)
  pub events : (name : List ℕ) (declared : List FieldCode) → event_fields d name ≡ Some declared → (is_text name ≡ true) × (list_all has_text declared ≡ true)
  pub fields : (n : ℕ) → list_all has_text (block_fields d n) ≡ true
  pub attributes : (n : ℕ) → list_all has_text (table_attributes d n) ≡ true
  pub keys : (key : List ℕ) (kind : Kind) → attribute_kind d key ≡ Some kind → is_text key ≡ true
  pub few : length d.services ≤ 2 ^ 32
