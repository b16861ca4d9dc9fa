-- One entity is given another priority, and what a change leaves of the invariants.
use Rattle.std.proofs.Common.{◌≡◌, ℕ, ℤ, ◌<◌, List, [], map}
use Rattle.std.specs.Prelude.{if◌then◌else◌}
use Rattle.router_state.specs.declared.rows.Entity.{Entity}
use Rattle.router_state.specs.Trees.{number_of, parent_of, has_priority, with_priority}
use Rattle.rows_sorted.specs.Keys.{is_key}
use Rattle.router_state.specs.Keys.{entity_key}
use Rattle.rows_sorted.proofs.OrderLemmas.{all_from_all}
use Rattle.entity_tree.specs.Kept.{AreEntities}
use Rattle.entity_tree.proofs.ListLemmas.{all_mapped}
use Rattle.entity_tree.proofs.NumberLemmas.{set_by_key}
use Rattle.entity_tree.proofs.RowLemmas.{same_number, same_stem}

-- the row of the key is the entity of the number
pub set_by_number : (e : ℕ) (priority : ℤ) (rows : List Entity)
    → map (λ row. if is_key (entity_key row) (record { first = e; second = 0; text = [] }) then record row { priority = priority } else row) rows ≡ with_priority rows e priority
set_by_number e priority rows = set_by_key number_of e (λ row. record row { priority = priority }) rows

pub priority_keeps : (e next : ℕ) (priority : ℤ) (rows : List Entity) → AreEntities next rows → AreEntities next (with_priority rows e priority)
priority_keeps e next priority rows kept = record {
  below = all_mapped (has_priority e priority) (λ row. row.number.0 < next) rows (all_from_all (λ row. row.number.0 < next) (λ row. (has_priority e priority row).number.0 < next) (λ row is. rw (same_number e priority row) is) rows kept.below);
  parents = all_mapped (has_priority e priority) (λ row. parent_of row < row.number.0) rows (all_from_all (λ row. parent_of row < row.number.0) (λ row. parent_of (has_priority e priority row) < (has_priority e priority row).number.0) (λ row is. rw (same_number e priority row, same_stem e priority row) is) rows kept.parents);
  from_one = kept.from_one;
}
