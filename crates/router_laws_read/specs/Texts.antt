-- When each text in a JSON value is UTF-8.
use Rattle.std.specs.Str.{IsUtf8}
use Rattle.serde_json.specs.Data.{Data, null, boolean, number, string, array, object, Items, no_items, item, Members, no_members, member}

abbrev mutual
  pub HasTexts : Data → Type 0
  HasTexts null = Unit {0}
  HasTexts (boolean b) = Unit {0}
  HasTexts (number n) = Unit {0}
  HasTexts (string s) = IsUtf8 s
  HasTexts (array ds) = HaveTexts ds
  HasTexts (object ms) = EachHasTexts ms

  pub HaveTexts : Items → Type 0
  HaveTexts no_items = Unit {0}
  HaveTexts (item d ds) = HasTexts d × HaveTexts ds

  pub EachHasTexts : Members → Type 0
  EachHasTexts no_members = Unit {0}
  EachHasTexts (member k d ms) = HasTexts d × EachHasTexts ms
