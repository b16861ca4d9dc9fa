-- One activity is made Ending.
use Rattle.std.proofs.Common.{◌≡◌, ℕ, ◌==◌, true, List, [], ◌∷◌, map, refl, ap, if◌then◌else◌, inl, inr}
use Rattle.std.specs.List.{AllByRecursion}
use Rattle.std.proofs.lemmas.Bool.{cases_Bool}
use Rattle.router_state.specs.Contexts.{ends}
use Rattle.router_state.specs.declared.rows.Activity.{Activity}
use Rattle.router_state.specs.Keys.{activity_key}
use Rattle.rows_sorted.specs.Keys.{is_key, number_key}
use Rattle.rows_sorted.proofs.ChangeLemmas.{number_is}
use Rattle.rows_leaves.proofs.ChangeLemmas.{map_same}
use Rattle.rows_index.specs.declared.entry.Entry.{Entry}
use Rattle.rows_index.specs.Index.{IsIndex}
use Rattle.rows_index.proofs.IndexLemmas.{index_map}
use Rattle.activity_context.specs.Indexed.{name_entry}

-- the activity of the key ends
pub one_ends : (a : ℕ) (rows : List Activity) → map (λ row. if is_key (activity_key row) (number_key a) then record row { ending = true } else row) rows ≡ map (ends a) rows
one_ends a rows = map_same _ _ (λ (row : Activity). ap (λ mine. if mine then record row { ending = true } else row) (number_is row.number.0 a)) rows

-- an activity that ends keeps its number
pub number_stays : (a : ℕ) (x : Activity) → (ends a x).number.0 ≡ x.number.0
number_stays a x = elim (cases_Bool (x.number.0 == a)) [ inl mine ↦ rw mine refl | inr other ↦ rw other refl ]

entry_stays : (a : ℕ) (x : Activity) → name_entry (ends a x) ≡ name_entry x
entry_stays a x = elim (cases_Bool (x.number.0 == a)) [ inl mine ↦ rw mine refl | inr other ↦ rw other refl ]

each_stays : (a : ℕ) (rows : List Activity) → AllByRecursion (λ row. name_entry (ends a row) ≡ name_entry row) rows
each_stays a [] = tt
each_stays a (x ∷ xs) = (entry_stays a x, each_stays a xs)

-- the activities keep their entries
pub end_stays_indexed : (a : ℕ) (rows : List Activity) (entries : List Entry) → IsIndex name_entry rows entries → IsIndex name_entry (map (ends a) rows) entries
end_stays_indexed a rows entries index = index_map name_entry (ends a) rows entries index (each_stays a rows)
