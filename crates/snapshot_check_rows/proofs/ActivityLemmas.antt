-- Tables one after another, each with its activity.
use Rattle.std.proofs.Common.{◌≡◌, ℕ, zero, suc, ◌+◌, ◌<◌, ◌≤◌, Bool, true, false, List, [], ◌∷◌, drop, length, refl, sym, ap, ◌∙◌, arith}
use Rattle.std.specs.Prelude.{◌&&◌}
use Rattle.std.specs.Option.{option_map_or}
use Rattle.deploy_model.specs.Deployed.{DeployedTable}
use Rattle.router_state.specs.Contexts.{activity_at, is_of_table}
use Rattle.router_state.specs.Initial.{table_activity}
use Rattle.router_state.specs.WellContexts.{tables_have_activities}
use Rattle.router_state.specs.declared.rows.Activity.{Activity}

-- the things from a place on
from_place : {X : Type 0} (xs : List X) (n : ℕ) → n < length xs → (x : X) × (drop n xs ≡ x ∷ drop (n + 1) xs)
from_place [] n within = absurd (omega (arith, within))
from_place (x ∷ xs) zero within = (x, refl)
from_place (x ∷ xs) (suc n) within =
    let more = from_place xs n (omega (arith, within)) in
    let next : suc n + 1 ≡ suc (n + 1) = omega arith in
    (more.0, rw next more.1)

none_left : {X : Type 0} (xs : List X) (n : ℕ) → length xs ≤ n → drop n xs ≡ []
none_left [] zero past = refl
none_left [] (suc n) past = refl
none_left (x ∷ xs) zero past = absurd (omega (arith, past))
none_left (x ∷ xs) (suc n) past = none_left xs n (omega (arith, past))

pub table_there : (rows : List Activity) (tables : List DeployedTable) (n : ℕ) (whole : Bool) → n < length tables → option_map_or (λ (row : Activity). is_of_table n row.kind) (activity_at rows (table_activity n)) false ≡ true
    → tables_have_activities rows n (drop n tables) ≡ whole → tables_have_activities rows (n + 1) (drop (n + 1) tables) ≡ whole
table_there rows tables n whole within is before =
    let split = from_place tables n within in
    sym (ap (λ (ts : List DeployedTable). tables_have_activities rows n ts) split.1 ∙ ap (λ (b : Bool). b && tables_have_activities rows (n + 1) (drop (n + 1) tables)) is) ∙ before

pub table_absent : (rows : List Activity) (tables : List DeployedTable) (n : ℕ) (whole : Bool) → n < length tables → option_map_or (λ (row : Activity). is_of_table n row.kind) (activity_at rows (table_activity n)) false ≡ false
    → tables_have_activities rows n (drop n tables) ≡ whole → false ≡ whole
table_absent rows tables n whole within is before =
    let split = from_place tables n within in
    sym (ap (λ (ts : List DeployedTable). tables_have_activities rows n ts) split.1 ∙ ap (λ (b : Bool). b && tables_have_activities rows (n + 1) (drop (n + 1) tables)) is) ∙ before

pub tables_done : (rows : List Activity) (tables : List DeployedTable) (n : ℕ) (whole : Bool) → length tables ≤ n → tables_have_activities rows n (drop n tables) ≡ whole → true ≡ whole
tables_done rows tables n whole past before = sym (ap (λ (ts : List DeployedTable). tables_have_activities rows n ts) (none_left tables n past)) ∙ before
