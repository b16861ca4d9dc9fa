-- When the names of each object of a JSON value rise in byte order.
use Rattle.std.specs.Prelude.{ℕ, List, [], ◌∷◌, IsTrue}
use Rattle.serde_json.specs.Data.{Data, null, boolean, number, string, array, object, Items, no_items, item, Members, no_members, member}
use Rattle.slee_value.specs.Order.{rises}

-- The names of an object's members.
abbrev pub names : Members → List (List ℕ)
names no_members = []
names (member k d ms) = k ∷ names ms

-- Each object of the value has each name once, in byte order.
abbrev mutual
  pub IsOrdered : Data → Type 0
  IsOrdered null = Unit {0}
  IsOrdered (boolean b) = Unit {0}
  IsOrdered (number n) = Unit {0}
  IsOrdered (string s) = Unit {0}
  IsOrdered (array ds) = AreOrdered ds
  IsOrdered (object ms) = IsTrue (rises (names ms)) × EachOrdered ms

  pub AreOrdered : Items → Type 0
  AreOrdered no_items = Unit {0}
  AreOrdered (item d ds) = IsOrdered d × AreOrdered ds

  pub EachOrdered : Members → Type 0
  EachOrdered no_members = Unit {0}
  EachOrdered (member k d ms) = IsOrdered d × EachOrdered ms
