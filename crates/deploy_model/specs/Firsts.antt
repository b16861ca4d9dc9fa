-- What the first of each name stands for, as an index has it.
use Rattle.std.specs.Prelude.{ℕ, List, Option, Some, None, bytes_eq, if◌then◌else◌}
use Rattle.std.specs.HashMap.{HashMap, get_by}
use Rattle.std.specs.declared.hash.FoldHasher.{FoldHasher}
use Rattle.std.specs.declared.hash.BuildHasherDefault.{BuildHasherDefault}
use denote.Ref.{Bor}
use Rattle.script_tree.specs.Tree.{Bytes}
use Rattle.deploy_model.specs.declared.first.Firsts.{Firsts}

-- What the index has for a name.
abbrev pub found_in : {V : Type 0} → HashMap (Bor (List ℕ)) V (BuildHasherDefault FoldHasher) → Bytes → Option V
found_in m name = get_by (λ k. bytes_eq name k.now) m

abbrev pub answer_of : {V : Type 0} → Firsts V → Bytes → Option V
answer_of f = found_in f.found

-- The value, where this is its name.
abbrev pub only_at : {V : Type 0} → Bytes → V → Bytes → Option V
only_at name value q = if bytes_eq q name then Some value else None
