-- How great totals can be.
use Rattle.std.specs.Prelude.{ℕ, ◌*◌, ◌^◌, ◌≤◌, pos, ◌+ℤ◌, ◌≤ℤ◌, List}
use Rattle.std.specs.List.{AllByRecursion}
use Rattle.usage_totals.specs.declared.total.Total.{Total}

-- The total is one that this many amounts of 64 bits can give.
pub record IsWithin (n : ℕ) (row : Total) : Type 0 where
  pub count : row.count ≤ n
  pub low : pos 0 ≤ℤ (row.sum +ℤ pos (n * 2 ^ 63))
  pub high : row.sum ≤ℤ pos (n * 2 ^ 63)

-- Each total is such a one.
abbrev pub AreWithin : ℕ → List Total → Type 0
AreWithin n rows = AllByRecursion (IsWithin n) rows
