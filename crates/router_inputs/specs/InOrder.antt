-- Declared fields rise by their names: those of each event, and the attributes of each table's rows.
use Rattle.std.specs.Prelude.{Bool, ◌&&◌, List, map, IsTrue}
use Rattle.std.specs.List.{list_all}
use Rattle.slee_value.specs.Order.{rises}
use Rattle.script_types.specs.declared.codes.FieldCode.{FieldCode}
use Rattle.deploy_model.specs.Deployed.{Deployed}

-- the names rise in byte order
abbrev pub are_rising : List FieldCode → Bool
are_rising fields = rises (map (λ f. f.name) fields)

-- the fields of each event that is declared do, and the attributes of each profile
abbrev pub are_in_order : Deployed → Bool
are_in_order d = list_all (λ e. are_rising e.fields) d.events && list_all (λ p. are_rising p.attributes) d.profiles

-- the same as a statement
abbrev pub AreInOrder : Deployed → Type 0
AreInOrder d = IsTrue (are_in_order d)
