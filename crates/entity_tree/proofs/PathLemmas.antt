-- The path of an entity is that of its parent and one step more.
use Rattle.std.proofs.Common.{◌≡◌, ℕ, zero, suc, ℤ, ◌+◌, ◌-◌, ◌<◌, ◌≤◌, ◌==◌, true, List, [], ◌∷◌, ◌++◌, Option, Some, None, length, refl, ap, subst, arith, inl, inr, length-append}
use Rattle.std.specs.Prelude.{nat_le, is_some, if◌then◌else◌}
use Rattle.std.specs.Option.{option_map_or}
use Rattle.std.proofs.lemmas.Bool.{cases_Bool}
use Rattle.std.proofs.lemmas.Bool.Decides.{nat_tests}
use Rattle.router_state.specs.declared.rows.Entity.{Entity}
use Rattle.router_state.specs.Trees.{entity_at, parent_of}
use Rattle.router_state.specs.Paths.{path}
use Rattle.entity_tree.specs.Kept.{AreParents}
use Rattle.entity_tree.specs.Climbing.{BeginsWith, path_at, step_of}
use Rattle.entity_tree.proofs.RowLemmas.{found_number, found_holds}

-- how many entities have this number or a lower one
abbrev pub up_to : List Entity → ℕ → ℕ
up_to [] e = 0
up_to (row ∷ rows) e = (if nat_le row.number.0 e then 1 else 0) + up_to rows e

up_to_rises : (rows : List Entity) (e f : ℕ) → e ≤ f → up_to rows e ≤ up_to rows f
up_to_rises [] e f le = omega arith
up_to_rises (x ∷ xs) e f le = let more = up_to_rises xs e f le in grind (arith, nat_tests, more)

up_to_all : (rows : List Entity) (e : ℕ) → up_to rows e ≤ length rows
up_to_all [] e = omega arith
up_to_all (x ∷ xs) e = let more = up_to_all xs e in grind (arith, nat_tests, more)

up_to_found : (rows : List Entity) (e f : ℕ) (row : Entity) → entity_at rows f ≡ Some row → e < f → up_to rows e < up_to rows f
up_to_found [] e f row is lt = absurd (cc)
up_to_found (x ∷ xs) e f row is lt = elim (cases_Bool (x.number.0 == f)) [
  | inl mine ↦ let more = up_to_rises xs e f (omega (arith, lt)) in grind (arith, nat_tests, more, mine)
  | inr other ↦ let more = up_to_found xs e f row (rw other at is) lt in grind (arith, nat_tests, more)
]

up_to_there : (rows : List Entity) (f : ℕ) (row : Entity) → entity_at rows f ≡ Some row → 0 < up_to rows f
up_to_there [] f row is = absurd (cc)
up_to_there (x ∷ xs) f row is = elim (cases_Bool (x.number.0 == f)) [
  | inl mine ↦ grind (arith, nat_tests, mine)
  | inr other ↦ let more = up_to_there xs f row (rw other at is) in grind (arith, nat_tests, more)
]

pub nothing : (whole : List (ℤ × ℕ)) → BeginsWith whole []
nothing [] = tt
nothing (x ∷ whole) = tt

begins_less : (upper : List (ℤ × ℕ)) (step : ℤ × ℕ) (whole : List (ℤ × ℕ)) → BeginsWith whole (upper ++ step ∷ []) → BeginsWith whole upper
begins_less [] step whole begins = nothing whole
begins_less (y ∷ upper) step [] begins = absurd begins
begins_less (y ∷ upper) step (x ∷ whole) begins = (begins.0, begins_less upper step whole begins.1)

pub begins_itself : (whole : List (ℤ × ℕ)) → BeginsWith whole whole
begins_itself [] = tt
begins_itself (x ∷ whole) = (refl, begins_itself whole)

module _ (rows : List Entity) (parents : AreParents rows) where
  pub parent_lower : (e : ℕ) (row : Entity) → entity_at rows e ≡ Some row → parent_of row < e
  parent_lower e row is =
      let below = found_holds (λ (row : Entity). parent_of row < row.number.0) e row rows parents is in
      let same = found_number e row rows is in
      omega (arith, below, same)

  low : (n e : ℕ) → length (path n rows e) ≤ e
  low zero e = omega arith
  low (suc n) e = by (entity_at rows e) refl (λ row. low n (parent_of row))
    where
      by : (found : Option Entity) → entity_at rows e ≡ found → ((row : Entity) → length (path n rows (parent_of row)) ≤ parent_of row) → length (option_map_or (λ (row : Entity). path n rows (parent_of row) ++ (row.priority, row.number.0) ∷ []) found []) ≤ e
      by None is less = omega arith
      by (Some row) is less = omega (arith, length-append (path n rows (parent_of row)) ((row.priority, row.number.0) ∷ []), less row, parent_lower e row is)

  -- no path has more steps than the number of its entity
  pub path_low : (e : ℕ) → length (path_at rows e) ≤ e
  path_low e = low (length rows) e

  fewer_above : (e n : ℕ) (row : Entity) → entity_at rows e ≡ Some row → up_to rows e ≤ suc n → up_to rows (parent_of row) ≤ n
  fewer_above e n row is few = let less = up_to_found rows (parent_of row) e row is (parent_lower e row is) in omega (arith, less, few)

  -- more steps change nothing where there are as many as entities up to this one
  path_whole : (n e : ℕ) → up_to rows e ≤ n → path n rows e ≡ path (suc n) rows e
  path_whole zero e few = by (entity_at rows e) refl
    where
      by : (found : Option Entity) → entity_at rows e ≡ found → [] ≡ option_map_or (λ (row : Entity). path zero rows (parent_of row) ++ (row.priority, row.number.0) ∷ []) found []
      by None is = refl
      by (Some row) is = absurd (omega (arith, few, up_to_there rows e row is))
  path_whole (suc n) e few = by n e (λ row is. path_whole n (parent_of row) (fewer_above e n row is few)) (entity_at rows e) refl
    where
      by : (n e : ℕ) → ((row : Entity) → entity_at rows e ≡ Some row → path n rows (parent_of row) ≡ path (suc n) rows (parent_of row)) → (found : Option Entity) → entity_at rows e ≡ found
          → option_map_or (λ (row : Entity). path n rows (parent_of row) ++ (row.priority, row.number.0) ∷ []) found []
          ≡ option_map_or (λ (row : Entity). path (suc n) rows (parent_of row) ++ (row.priority, row.number.0) ∷ []) found []
      by n e more None is = refl
      by n e more (Some row) is = ap (λ p. p ++ (row.priority, row.number.0) ∷ []) (more row is)

  path_step_from : (n e : ℕ) (row : Entity) → up_to rows e ≤ n → entity_at rows e ≡ Some row → path n rows e ≡ path n rows (parent_of row) ++ step_of row ∷ []
  path_step_from zero e row few is = absurd (omega (arith, few, up_to_there rows e row is))
  path_step_from (suc n) e row few is = rw is (ap (λ p. p ++ (row.priority, row.number.0) ∷ []) (path_whole n (parent_of row) (fewer_above e n row is few)))

  pub path_step : (e : ℕ) (row : Entity) → entity_at rows e ≡ Some row → path_at rows e ≡ path_at rows (parent_of row) ++ step_of row ∷ []
  path_step e row is = path_step_from (length rows) e row (up_to_all rows e) is

  no_path_from : (n e : ℕ) → entity_at rows e ≡ None → path n rows e ≡ []
  no_path_from zero e is = refl
  no_path_from (suc n) e is = rw is refl

  pub no_path : (e : ℕ) → entity_at rows e ≡ None → path_at rows e ≡ []
  no_path e is = no_path_from (length rows) e is

  -- the path of what stands above
  pub up_begins : (e : ℕ) (row : Entity) (whole : List (ℤ × ℕ)) → entity_at rows e ≡ Some row → BeginsWith whole (path_at rows e) → BeginsWith whole (path_at rows (parent_of row))
  up_begins e row whole is begins = begins_less (path_at rows (parent_of row)) (step_of row) whole (subst (BeginsWith whole) (path_step e row is) begins)

  pub up_length : (e : ℕ) (row : Entity) → entity_at rows e ≡ Some row → length (path_at rows (parent_of row)) ≡ length (path_at rows e) - 1
  up_length e row is = let long = ap length (path_step e row is) in omega (arith, long, length-append (path_at rows (parent_of row)) (step_of row ∷ []))

  -- what has a path is there
  pub length_there : (e : ℕ) → 0 < length (path_at rows e) → is_some (entity_at rows e) ≡ true
  length_there e long = by (entity_at rows e) refl
    where
      by : (found : Option Entity) → entity_at rows e ≡ found → is_some (entity_at rows e) ≡ true
      by None is = absurd (let short = rw (no_path e is) at long in omega (arith, short))
      by (Some row) is = rw is refl
