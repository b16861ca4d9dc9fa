-- The types that are told of a deployment.
use Rattle.std.specs.Prelude.{◌≡◌, [], Option, None, Result, Ok, Err}
use Rattle.script_tree.specs.Tree.{Bytes}
use Rattle.script_tree.specs.declared.scanning.Place.{Place}
use Rattle.deploy_model.specs.declared.parts.Parts.{Parts}
use Rattle.slee_descriptor.specs.CodesOfParts.{codes_in}
use Rattle.deploy_json.specs.declared.fault.ReadFault.{ReadFault}
use Rattle.deploy_json.specs.Rows.{PartsRow, parts_row}
use Rattle.deploy_json.specs.Reading.{parts_of}
use Rattle.check_hints.specs.Mismatches.{Types}
use Rattle.check_hints.specs.Places.{told_by}

-- The types are those at a place of the script at a JSON pointer, of the deployment that was read but for its types; none where none was read.
abbrev pub AreTypesOf : Result PartsRow ReadFault → Bytes → Place → Option Types → Type 0
AreTypesOf (Err fault) pointer place types = types ≡ None
AreTypesOf (Ok row) pointer place types = (p : Parts) × (row ≡ parts_row p) × (types ≡ told_by (codes_in p []) pointer place)

-- The same of the bytes that a deployment is read from.
abbrev pub AreTypesIn : Bytes → Bytes → Place → Option Types → Type 0
AreTypesIn bytes pointer place types = AreTypesOf (parts_of bytes) pointer place types
