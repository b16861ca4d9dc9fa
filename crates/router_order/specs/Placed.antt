-- How attachments are kept: each with a rank, by which those to one activity rise, and with an index of each entity's activities.
use Rattle.std.specs.Prelude.{◌≡◌, ℕ, List, map}
use Rattle.std.specs.List.{list_any}
use Rattle.router_state.specs.declared.rows.Link.{Link}
use Rattle.rows_sorted.specs.Orders.{same_pair}
use Rattle.router_state.specs.Contexts.{is_linked}
use Rattle.rows_sorted.specs.Keys.{Key, pair_key}
use Rattle.rows_index.specs.declared.entry.Entry.{Entry}
use Rattle.router_order.specs.declared.placed.Placed.{Placed}

-- the key of an attachment that is kept: its activity and its rank
abbrev pub placed_key : Placed → Key
placed_key row = pair_key row.activity.0 row.rank

-- the attachment without its rank
abbrev pub attachment : Placed → Link
attachment row = record { entity = row.entity; activity = row.activity }

-- attachments without their ranks
abbrev pub attachments : List Placed → List Link
attachments rows = map attachment rows

-- the index has the activity of each attachment under its entity, and no more
abbrev pub IsIndexed : List Link → List Entry → Type 0
IsIndexed links entries = (e a : ℕ) → list_any (λ entry. same_pair entry.key entry.number e a) entries ≡ is_linked links e a
