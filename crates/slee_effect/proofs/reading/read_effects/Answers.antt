use Rattle.std.proofs.Common.{◌≡◌, ℕ, ◌-◌, List, length, Result, Err, ap, sym, subst, ◌∙◌, arith}
use Rattle.slee_value.specs.declared.fault.ValueBad.{ValueBad}
use Rattle.slee_value.specs.Reading.{Fault}
use Rattle.slee_value.proofs.ReadLemmas.{bytes_from}
use Rattle.slee_effect.specs.declared.effect.Effect.{Effect}
use Rattle.slee_effect.specs.Bytes.{spelling_of_effects}
use Rattle.slee_effect.specs.Fitting.{FitEffects}
use Rattle.slee_effect.proofs.ListLemmas.{list_takes, list_stuck, list_is, no_fault}
use Rattle.slee_effect.proofs.reading.read_effects.Goals as goal

abbrev fault : ℕ → ValueBad → Result (List Effect) Fault
fault n kind = Err (record { left = n; kind = kind })

pub overflow_sub-result : goal.overflow_sub-result
overflow_sub-result c =
    let e = rw c.in-Err-Bad.field-0-is at c.in-Err-Bad.ensures.list in
    (list_stuck c.args.bytes.now (record { left = c.in-Err-Bad.left; kind = c.in-Err-Bad.field-0-1 }) (bytes_from c.args.bytes.now (λ i. omega (arith, c.type_inv.bytes i))) e).0

pub returns-in-Ok-clause-found : goal.returns-in-Ok-clause-found
returns-in-Ok-clause-found c =
    subst (λ (v : List Effect). FitEffects v × (c.args.bytes.now ≡ spelling_of_effects v)) (sym c.from_vec.ensures) (list_takes c.args.bytes.now c.in-Ok.effects.items (bytes_from c.args.bytes.now (λ i. omega (arith, c.type_inv.bytes i))) c.in-Ok.ensures.list)

pub returns-in-Ok-clause-only : goal.returns-in-Ok-clause-only
returns-in-Ok-clause-only c = λ es f e. c.from_vec.ensures ∙ list_is c.args.bytes.now c.in-Ok.effects.items es f e c.in-Ok.ensures.list

pub returns-in-Err-Bad-clause-only : goal.returns-in-Err-Bad-clause-only
returns-in-Err-Bad-clause-only c = λ es f e.
    no_fault c.args.bytes.now (record { left = c.in-Err-Bad.left; kind = c.in-Err-Bad.field-0-1 }) es f e (rw c.in-Err-Bad.field-0-is at c.in-Err-Bad.ensures.list)

pub returns-in-Err-Bad-clause-place : goal.returns-in-Err-Bad-clause-place
returns-in-Err-Bad-clause-place c =
    let e = rw c.in-Err-Bad.field-0-is at c.in-Err-Bad.ensures.list in
    (list_stuck c.args.bytes.now (record { left = c.in-Err-Bad.left; kind = c.in-Err-Bad.field-0-1 }) (bytes_from c.args.bytes.now (λ i. omega (arith, c.type_inv.bytes i))) e).1

pub returns-in-Err-Bad-clause-exact : goal.returns-in-Err-Bad-clause-exact
returns-in-Err-Bad-clause-exact c =
    let e = rw c.in-Err-Bad.field-0-is at c.in-Err-Bad.ensures.list in
    let p = (list_stuck c.args.bytes.now (record { left = c.in-Err-Bad.left; kind = c.in-Err-Bad.field-0-1 }) (bytes_from c.args.bytes.now (λ i. omega (arith, c.type_inv.bytes i))) e).0 in
    let back : length c.args.bytes.now - (length c.args.bytes.now - c.in-Err-Bad.left) ≡ c.in-Err-Bad.left = omega arith in
    (c.in-Err-Bad.field-0-1, e ∙ ap (λ (n : ℕ). fault n c.in-Err-Bad.field-0-1) (sym back))
