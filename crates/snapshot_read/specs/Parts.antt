-- Stems and kinds of a snapshot's items, as the definitions read them.
use Rattle.router_state.specs.declared.rows.Stem.{Stem}
use Rattle.router_state.specs.declared.rows.Stem.TheVariants as stems
use Rattle.router_state.specs.declared.rows.AcKind.{AcKind}
use Rattle.router_state.specs.declared.rows.AcKind.TheVariants as kinds
use Rattle.snapshot_read.specs.declared.parts.PartStem.{PartStem}
use Rattle.snapshot_read.specs.declared.parts.PartStem.TheVariants as part_stems
use Rattle.snapshot_read.specs.declared.parts.PartKind.{PartKind}
use Rattle.snapshot_read.specs.declared.parts.PartKind.TheVariants as part_kinds

-- the stem
abbrev pub stem_of : PartStem → Stem
stem_of (part_stems.Root service) = stems.Root service
stem_of (part_stems.Child parent relation) = stems.Child parent relation

-- the kind
abbrev pub kind_of : PartKind → AcKind
kind_of (part_kinds.External name) = kinds.External name
kind_of part_kinds.Null = kinds.Null
kind_of (part_kinds.Service service) = kinds.Service service
kind_of (part_kinds.Table table) = kinds.Table table
