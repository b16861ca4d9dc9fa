-- Which item of a list a component's name, vendor and version belong to, as an index has it.
use Rattle.std.specs.Prelude.{ℕ, Bool, Option, Some, None, bytes_eq, ◌&&◌, if◌then◌else◌}
use Rattle.std.specs.HashMap.{HashMap, get_by}
use Rattle.std.specs.declared.hash.FoldHasher.{FoldHasher}
use Rattle.std.specs.declared.hash.BuildHasherDefault.{BuildHasherDefault}
use Rattle.slee_value.specs.declared.component.ComponentId.{ComponentId}
use Rattle.deploy_model.specs.Rules.{is_same_id}
use Rattle.deploy_model.specs.declared.ids.Triple.{Triple}
use Rattle.deploy_model.specs.declared.ids.Ids.{Ids}

-- Whether the texts are those of the component.
abbrev pub is_triple : ComponentId → Triple → Bool
is_triple q t = bytes_eq q.name t.name.now && (bytes_eq q.vendor t.vendor.now && bytes_eq q.version t.version.now)

-- What the index has for a component.
abbrev pub number_in : HashMap Triple ℕ (BuildHasherDefault FoldHasher) → ComponentId → Option ℕ
number_in m q = get_by (is_triple q) m

abbrev pub id_answer : Ids → ComponentId → Option ℕ
id_answer ids = number_in ids.found

-- The number, where this is its component.
abbrev pub only_id : ComponentId → ℕ → ComponentId → Option ℕ
only_id id n q = if is_same_id q id then Some n else None
