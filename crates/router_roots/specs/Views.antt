-- What contracts see of the roots.
use Rattle.std.specs.Prelude.{ℕ, List}
use Rattle.rows_index.specs.declared.entry.Entry.{Entry}

-- the roots under their services, the named ones under the numbers of their names, and how many more each list takes without memory
pub record RootsView : Type 0 where
  pub by_service : List Entry
  pub by_name : List Entry
  pub room : ℕ
