-- Entities that rise: none before has the number of a later one.
use Rattle.std.proofs.Common.{◌≡◌, ℕ, Bool, true, false, List, [], ◌∷◌, ◌++◌, refl, sym, subst, ◌∙◌, arith}
use Rattle.std.specs.Prelude.{◌==◌, IsTrue, None, nat_lt}
use Rattle.std.specs.List.{AllByRecursion}
use Rattle.std.proofs.lemmas.Bool.Decides.{nat_tests}
use Rattle.rows_sorted.specs.Orders.{rises_by}
use Rattle.rows_sorted.specs.Keys.{Rises}
use Rattle.rows_sorted.proofs.KeyLemmas.{number_agrees}
use Rattle.rows_sorted.proofs.OrderLemmas.{IsBefore, all_from_all, in_order}
use Rattle.router_state.specs.Keys.{entity_key}
use Rattle.router_state.specs.Trees.{entity_at}
use Rattle.router_state.specs.declared.rows.Entity.{Entity}
use Rattle.entity_tree.specs.Kept.{entity_before}
use Rattle.snapshot_stores.proofs.FillLemmas.{all_front}
use Rattle.snapshot_stores.proofs.OrderedLemmas.{entities}

none_low : (rows : List Entity) (n : ℕ) → AllByRecursion (λ x. nat_lt x.number.0 n ≡ true) rows → entity_at rows n ≡ None
none_low [] n low = refl
none_low (x ∷ rows) n low =
    let other : (x.number.0 == n) ≡ false = grind (arith, nat_tests, low.0) in
    rw other (none_low rows n low.1)

pub entity_absent : (all front left more : List Entity) (row : Entity) → IsTrue (rises_by entity_before all) → left ≡ row ∷ more → front ++ left ≡ all → entity_at front row.number.0 ≡ None
entity_absent all front left more row rises cut so_far =
    let whole : front ++ row ∷ more ≡ all = rw cut at so_far in
    let by_key : Rises entity_key (front ++ row ∷ more) = subst (λ (b : Entity → Entity → Bool). IsTrue (rises_by b (front ++ row ∷ more))) (sym entities) (subst (λ (rows : List Entity). IsTrue (rises_by entity_before rows)) (sym whole) rises) in
    let low = all_front (IsBefore entity_key) front row more (in_order entity_key (front ++ row ∷ more) by_key) in
    none_low front row.number.0 (all_from_all (λ x. IsBefore entity_key x row) (λ x. nat_lt x.number.0 row.number.0 ≡ true) (λ x before. sym (number_agrees x.number.0 row.number.0) ∙ before) front low)
