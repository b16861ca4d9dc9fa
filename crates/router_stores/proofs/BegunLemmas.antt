-- The activities of tables, counted from either end.
use Rattle.std.proofs.Common.{◌≡◌, ℕ, suc, ◌+◌, List, [], ◌∷◌, ◌++◌, length, sym, ap, ◌∙◌, arith}
use Rattle.std.proofs.lemmas.List.{append-nil, append_assoc}
use Rattle.deploy_model.specs.Deployed.{DeployedTable}
use Rattle.router_state.specs.Initial.{table_activities}
use Rattle.router_stores.specs.Begun.{activities_up_to}

from_none : (n : ℕ) → n ≡ 0 + n
from_none n = omega arith

one_on : (k n : ℕ) → k + suc n ≡ suc k + n
one_on k n = omega arith

to_none : (k : ℕ) → k + 0 ≡ k
to_none k = omega arith

next_is : (n : ℕ) → n + 1 ≡ suc n
next_is n = omega arith

begun_from : (n : ℕ) (ts : List DeployedTable) → activities_up_to n ++ table_activities n ts ≡ activities_up_to (length ts + n)
begun_from n [] = append-nil (activities_up_to n) ∙ ap activities_up_to (from_none n)
begun_from n (t ∷ ts) =
    sym (append_assoc (activities_up_to n) _ (table_activities (n + 1) ts)) ∙ (λ i. activities_up_to (suc n) ++ table_activities (next_is n i) ts)
    ∙ begun_from (suc n) ts ∙ ap activities_up_to (one_on (length ts) n)

-- the activities of the first so many tables are those of all tables
pub begun_all : (ts : List DeployedTable) → activities_up_to (length ts) ≡ table_activities 0 ts
begun_all ts = sym (begun_from 0 ts ∙ ap activities_up_to (to_none (length ts)))
