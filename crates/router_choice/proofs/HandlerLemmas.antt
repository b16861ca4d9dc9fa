-- The blocks that handle an event are listed.
use Rattle.std.proofs.Common.{◌≡◌, ℕ, zero, suc, ◌+◌, ◌<◌, ◌==◌, true, false, List, [], ◌∷◌, refl, arith, inl, inr}
use Rattle.std.specs.Prelude.{is_some, option_and_then, slice_get}
use Rattle.std.specs.List.{list_any}
use Rattle.std.proofs.lemmas.Bool.{cases_Bool}
use Rattle.std.proofs.lemmas.Bool.Decides.{nat_tests}
use Rattle.deploy_model.specs.Deployed.{Deployed, DeployedBlock, handles, handlers_from, handlers_of, handling_of}

later_handlers : (n m : ℕ) (blocks : List DeployedBlock) (event : List ℕ) → m < n → list_any (λ block. block == m) (handlers_from n blocks event) ≡ false
later_handlers n m [] event low = refl
later_handlers n m (x ∷ xs) event low =
    let more = later_handlers (n + 1) m xs event (omega (arith, low)) in
    let apart : (n == m) ≡ false = grind (arith, nat_tests, low) in
    elim (cases_Bool (is_some (handling_of x event))) [
      | inl is ↦ rw (is, apart) more
      | inr isnt ↦ rw isnt more
    ]

handled_from : (n k m : ℕ) (blocks : List DeployedBlock) (event : List ℕ) → m ≡ n + k → list_any (λ block. block == m) (handlers_from n blocks event) ≡ is_some (option_and_then (λ b. handling_of b event) (slice_get blocks k))
handled_from n k m [] event is = refl
handled_from n zero m (x ∷ xs) event is =
    let later = later_handlers (n + 1) m xs event (omega (arith, is)) in
    let own : (n == m) ≡ true = grind (arith, nat_tests, is) in
    elim (cases_Bool (is_some (handling_of x event))) [
      | inl has ↦ rw (has, own) refl
      | inr hasnt ↦ rw (hasnt, later) refl
    ]
handled_from n (suc k) m (x ∷ xs) event is =
    let more = handled_from (n + 1) k m xs event (omega (arith, is)) in
    let apart : (n == m) ≡ false = grind (arith, nat_tests, is) in
    elim (cases_Bool (is_some (handling_of x event))) [
      | inl has ↦ rw (has, apart) more
      | inr hasnt ↦ rw hasnt more
    ]

-- the blocks that are listed are those that handle the event
pub handlers_are : (d : Deployed) (event : List ℕ) (b : ℕ) → list_any (λ block. block == b) (handlers_of d event) ≡ handles d b event
handlers_are d event b = handled_from 0 b b d.blocks event (omega arith)
