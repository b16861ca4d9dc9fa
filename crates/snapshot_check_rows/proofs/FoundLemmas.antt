-- Rows that are there, by the tests of the lists.
use Rattle.std.proofs.Common.{◌≡◌, ℕ, ◌==◌, Bool, true, false, List, [], ◌∷◌, Option, Some, None, refl, ◌∙◌, inl, inr, is_some}
use Rattle.std.specs.Prelude.{◌&&◌, not, option_map}
use Rattle.std.specs.List.{find, list_any}
use Rattle.std.proofs.lemmas.Bool.{cases_Bool}
use Rattle.router_state.specs.Contexts.{is_linked}
use Rattle.router_state.specs.Queues.{is_undelivered}
use Rattle.router_state.specs.Trees.{root_name_at}
use Rattle.router_state.specs.declared.rows.EntityMark.{EntityMark}
use Rattle.router_state.specs.declared.rows.Link.{Link}
use Rattle.router_state.specs.declared.rows.RootName.{RootName}

-- something passes where something that passes is found
pub some_found : {Row : Type 0} (p : Row → Bool) (rows : List Row) → list_any p rows ≡ is_some (find p rows)
some_found p [] = refl
some_found p (x ∷ xs) = elim (cases_Bool (p x)) [
  | inl is ↦ rw is refl
  | inr other ↦ rw other (some_found p xs)
]

pub name_found : (names : List RootName) (e : ℕ) → list_any (λ (row : RootName). row.entity.0 == e) names ≡ is_some (root_name_at names e)
name_found names e = some_found (λ (row : RootName). row.entity.0 == e) names ∙ by (find (λ (row : RootName). row.entity.0 == e) names)
  where
    by : (o : Option RootName) → is_some o ≡ is_some (option_map (λ (row : RootName). row.name) o)
    by None = refl
    by (Some row) = refl

turned : (a b : Bool) → (a && b) ≡ (b && a)
turned true true = refl
turned true false = refl
turned false true = refl
turned false false = refl

pub pair_turned : (links : List Link) (e a : ℕ) → list_any (λ (l : Link). (l.activity.0 == a) && (l.entity.0 == e)) links ≡ is_linked links e a
pair_turned links e a = λ i. list_any (λ (l : Link). turned (l.activity.0 == a) (l.entity.0 == e) i) links

pub none_marked : (marks : List EntityMark) (a : ℕ) → not (list_any (λ (m : EntityMark). m.activity.0 == a) marks) ≡ is_undelivered marks a
none_marked [] a = refl
none_marked (m ∷ ms) a = elim (cases_Bool (m.activity.0 == a)) [
  | inl is ↦ rw is refl
  | inr isnt ↦ rw isnt (none_marked ms a)
]
