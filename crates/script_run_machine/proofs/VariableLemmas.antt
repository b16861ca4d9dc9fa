-- Variables by what they hold, and effects in two lists.
use Rattle.std.proofs.Common.{◌≡◌, Bool, true, false, ◌||◌, List, [], ◌∷◌, ◌++◌, refl, ap, ◌∙◌}
use Rattle.slee_effect.specs.declared.reference.Ref.{Ref}
use Rattle.slee_effect.specs.declared.effect.Effect.{Effect}
use Rattle.script_meaning.specs.Running.{State, Variable, Holds, Child, found}
use Rattle.script_meaning.specs.Observing.{only_value, only_child}
use Rattle.script_meaning.specs.Overlay.{removes, is_removed}
use Rattle.script_run_machine.specs.Variables.{value_in, child_in}

pub value_found : (x : Variable) (st : State) → only_value x st ≡ found (value_in x) st
value_found (Holds y) st = refl
value_found (Child e) st = refl

pub child_found : (x : Variable) (st : State) → only_child x st ≡ found (child_in x) st
child_found (Holds y) st = refl
child_found (Child e) st = refl

or_assoc : (a b c : Bool) → (a || (b || c)) ≡ ((a || b) || c)
or_assoc true b c = refl
or_assoc false b c = refl

pub removed_by_both : (e : Ref) (xs ys : List Effect) → is_removed e (xs ++ ys) ≡ (is_removed e xs || is_removed e ys)
removed_by_both e [] ys = refl
removed_by_both e (x ∷ xs) ys = ap (λ (b : Bool). removes e x || b) (removed_by_both e xs ys) ∙ or_assoc (removes e x) (is_removed e xs) (is_removed e ys)
