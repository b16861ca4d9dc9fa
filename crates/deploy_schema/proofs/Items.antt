-- An item of an array, as it stands in memory.
use Rattle.std.proofs.Common.{◌≡◌, ℕ, zero, suc, List, [], ◌∷◌, refl}
use Rattle.std.specs.Prelude.{Option, Some, None, option_map, slice_get, codes, bytes_eq}
use Rattle.std.specs.List.{list_any}
use Rattle.serde_json.specs.Data.{Items}
use Rattle.serde_json.specs.Find.{get_item}
use Rattle.serde_json.specs.View.{view, items_view}
use Rattle.serde_json.specs.declared.value.Value.{Value}
use Rattle.deploy_model.specs.Tables.{wants_custom}
use Rattle.deploy_schema.specs.Numbers.{items_or_none}
use Rattle.deploy_schema.specs.Names.{texts_of}

pub item_at : (vs : List Value) (n : ℕ) → get_item n (items_view vs) ≡ option_map view (slice_get vs n)
item_at [] n = refl
item_at (v ∷ vs) zero = refl
item_at (v ∷ vs) (suc n) = item_at vs n

-- whether custom selection is among the words, be there a list or none
pub custom_words : (o : Option Items) → list_any (bytes_eq (codes "custom")) (texts_of (items_or_none o)) ≡ wants_custom (option_map texts_of o)
custom_words None = refl
custom_words (Some ds) = refl
