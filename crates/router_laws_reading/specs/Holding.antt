-- What is asked of a deployment so that its well-formed states can be held as rows.
use Rattle.std.specs.Prelude.{◌≡◌, ℕ, ◌&&◌, Bool, true, List, Some, map}
use Rattle.std.specs.List.{list_all}
use Rattle.slee_value.specs.Name.{is_name}
use Rattle.slee_value.specs.Order.{rises}
use Rattle.script_types.specs.declared.codes.FieldCode.{FieldCode}
use Rattle.script_types.specs.declared.codes.RelationCode.{RelationCode}
use Rattle.deploy_model.specs.Deployed.{Deployed, block_fields, event_fields, relation_of, table_attributes}

-- the field has a name
abbrev pub has_name : FieldCode → Bool
has_name field = is_name field.name

-- the names rise in byte order
abbrev pub do_rise : List FieldCode → Bool
do_rise fields = rises (map (λ f. f.name) fields)

-- the fields of each event that is declared rise by their names, and so do the attributes of each profile
abbrev pub all_rise : Deployed → Bool
all_rise d = list_all (λ e. do_rise e.fields) d.events && list_all (λ p. do_rise p.attributes) d.profiles

-- Relations, the fields of blocks and of events, and the attributes of tables have names.
pub record HaveNames (d : Deployed) : Type 0 where
  pub relations : (n : ℕ) (name : List ℕ) (r : RelationCode) → relation_of d n name ≡ Some r → is_name name ≡ true
  pub fields : (n : ℕ) → list_all has_name (block_fields d n) ≡ true
  pub events : (name : List ℕ) (declared : List FieldCode) → event_fields d name ≡ Some declared → list_all has_name declared ≡ true
  pub attributes : (n : ℕ) → list_all has_name (table_attributes d n) ≡ true

-- so a well-formed state can be held: the names in it are names, and rise where rows want it
pub record CanHold (d : Deployed) : Type 0 where
  pub names : HaveNames d
  pub rise : all_rise d ≡ true
