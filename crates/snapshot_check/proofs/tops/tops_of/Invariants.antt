-- the roots of the entities so far, which rise
use Rattle.std.proofs.Common.{◌≡◌, map, take}
use Rattle.rows_sorted.specs.Keys.{Rises}
use Rattle.snapshot_check.specs.Tops.{top_key, top_row}
use Rattle.snapshot_check.proofs.tops.tops_of.Given as goal

abbrev pub invariant-rows : goal.invariant-rows
invariant-rows l = record {
  tops : l.tops.items ≡ map (top_row l.entities) (take l.row-index l.entities);
  rises : Rises top_key l.tops.items;
}
