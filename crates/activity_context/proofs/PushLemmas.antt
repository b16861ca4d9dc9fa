-- An activity that has the greatest number stands last.
use Rattle.std.proofs.Common.{◌≡◌, ℕ, false, List, [], ◌∷◌, ◌++◌, refl, ap, ◌∙◌, arith}
use Rattle.std.specs.Prelude.{nat_lt, IsTrue}
use Rattle.std.specs.List.{filter, list_all}
use Rattle.std.proofs.lemmas.Bool.{and_parts}
use Rattle.std.proofs.lemmas.Bool.Decides.{nat_tests}
use Rattle.rows_sorted.specs.Orders.{are_below, put}
use Rattle.router_state.specs.declared.rows.Activity.{Activity}
use Rattle.router_state.specs.Keys.{activity_key}
use Rattle.rows_sorted.specs.Keys.{key_before}
use Rattle.router_state.proofs.AgreeLemmas.{activity_put}

all_low : (n : ℕ) (rows : List Activity) → IsTrue (are_below (λ row. row.number.0) n rows) → filter (λ row. nat_lt row.number.0 n) rows ≡ rows
all_low n [] all = refl
all_low n (x ∷ xs) all =
    let parts = and_parts (nat_lt x.number.0 n) (list_all (λ (row : Activity). nat_lt row.number.0 n) xs) all in
    rw parts.0 (ap (λ rest. x ∷ rest) (all_low n xs parts.1))

none_high : (n : ℕ) (rows : List Activity) → IsTrue (are_below (λ row. row.number.0) n rows) → filter (λ row. nat_lt n row.number.0) rows ≡ []
none_high n [] all = refl
none_high n (x ∷ xs) all =
    let parts = and_parts (nat_lt x.number.0 n) (list_all (λ (row : Activity). nat_lt row.number.0 n) xs) all in
    let low = parts.0 in
    let high : nat_lt n x.number.0 ≡ false = grind (arith, nat_tests, low) in
    rw high (none_high n xs parts.1)

-- put in its place, it goes behind the others
pub put_last : (x : Activity) (rows : List Activity) → IsTrue (are_below (λ row. row.number.0) x.number.0 rows) → put (λ a b. key_before (activity_key a) (activity_key b)) x rows ≡ rows ++ x ∷ []
put_last x rows all =
    activity_put x rows
    ∙ ap (λ front. front ++ x ∷ filter (λ row. nat_lt x.number.0 row.number.0) rows) (all_low x.number.0 rows all)
    ∙ ap (λ back. rows ++ x ∷ back) (none_high x.number.0 rows all)
