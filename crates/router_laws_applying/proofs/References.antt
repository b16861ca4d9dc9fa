-- References and their numbers: two name the same thing where their numbers are the same.
use Rattle.router_laws_effects.specs.Runs.{IsOld}
use Rattle.router_steps.specs.Effects.{number_in}
use Rattle.script_meaning.specs.Overlay.{same_ref}
use Rattle.slee_effect.specs.Resolving.{resolved_ref}
use Rattle.slee_effect.specs.declared.reference.Ref.{Ref}
use Rattle.slee_effect.specs.declared.reference.Ref.TheVariants.{Known, Fresh}
use Rattle.std.proofs.Common.{◌≡◌, ℕ, ◌+◌, ◌==◌, true, false, refl, arith, inl, inr}
use Rattle.std.proofs.lemmas.Bool.{cases_Bool, eqb-true, false_from_ne_true}
use Rattle.std.proofs.lemmas.Bool.Decides.{nat_tests}

pub same_numbers : (next : ℕ) (a b : Ref) → IsOld next a → IsOld next b → (number_in (resolved_ref next a) == number_in (resolved_ref next b)) ≡ same_ref a b
same_numbers next (Known i) (Known j) one two = refl
same_numbers next (Known i) (Fresh j) one two = false_from_ne_true (i == (next + j)) (λ is. omega (arith, one, eqb-true i (next + j) is))
same_numbers next (Fresh i) (Known j) one two = false_from_ne_true ((next + i) == j) (λ is. omega (arith, two, eqb-true (next + i) j is))
same_numbers next (Fresh i) (Fresh j) one two = elim (cases_Bool (i == j)) [
  | inl is ↦ rw is (both next i j is)
  | inr isnt ↦ rw isnt (neither next i j isnt)
]
  where
    both : (n i j : ℕ) → (i == j) ≡ true → ((n + i) == (n + j)) ≡ true
    both n i j is = grind (arith, nat_tests)

    neither : (n i j : ℕ) → (i == j) ≡ false → ((n + i) == (n + j)) ≡ false
    neither n i j isnt = grind (arith, nat_tests)
