use Rattle.std.proofs.Common.{◌≡◌, ◌+◌, ◌≤◌, drop, length}
use Rattle.std.specs.Prelude.{min}
use Rattle.std.specs.List.{flat_map}
use Rattle.slee_effect.specs.Bytes.{spelled_field}
use Rattle.script_run_machine.specs.declared.effect_bytes.TheConstants.{LEN_CAP}
use Rattle.script_run_machine.proofs.effect_bytes.len_of_fields.Given as goal

-- the bytes of the count and the fields
abbrev pub invariant-loop-name : goal.invariant-loop-name
invariant-loop-name l = (min (l.len + length (flat_map spelled_field (drop l.name-index l.fields))) LEN_CAP ≡ min (4 + length (flat_map spelled_field l.fields)) LEN_CAP) × (l.len ≤ LEN_CAP)
