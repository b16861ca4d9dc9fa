use Rattle.std.proofs.Common.{◌≡◌, ℕ, ◌-◌, ◌<◌, List, get_or, length, drop, Result, Ok, Err, ap, subst, sym, ◌∙◌, arith}
use Rattle.slee_value.specs.declared.value.Value.{Value}
use Rattle.slee_value.specs.declared.fault.ValueBad.{ValueBad}
use Rattle.slee_value.specs.Bytes.{spelling_of_value}
use Rattle.slee_value.specs.Reading.{Fault, Part, value_at}
use Rattle.slee_value.proofs.ReadLemmas.{bytes_from}
use Rattle.slee_value.proofs.AnswerLemmas.{rest_is, read_again, no_fault, place_is}
use Rattle.slee_value.proofs.reading.read_value.Goals as goal

abbrev fault : ℕ → ValueBad → Part Value
fault n kind = Err (record { left = n; kind = kind })

pub overflow_sub-result : goal.overflow_sub-result
overflow_sub-result c = (rest_is c.args.bytes.now c.in-Ok.value c.in-Ok.rest.now (bytes_from c.args.bytes.now (λ i. omega (arith, c.type_inv.bytes i))) c.in-Ok.ensures.part).0

pub overflow_sub-result-in-Err-Bad : goal.overflow_sub-result-in-Err-Bad
overflow_sub-result-in-Err-Bad c =
    let e = rw c.in-Err-Bad.field-0-is at c.in-Err-Bad.ensures.part in
    (place_is c.args.bytes.now (record { left = c.in-Err-Bad.left; kind = c.in-Err-Bad.kind }) (bytes_from c.args.bytes.now (λ i. omega (arith, c.type_inv.bytes i))) e).0

pub returns-in-Ok-clause-found : goal.returns-in-Ok-clause-found
returns-in-Ok-clause-found c = (rest_is c.args.bytes.now c.in-Ok.value c.in-Ok.rest.now (bytes_from c.args.bytes.now (λ i. omega (arith, c.type_inv.bytes i))) c.in-Ok.ensures.part).3

pub returns-in-Ok-clause-only : goal.returns-in-Ok-clause-only
returns-in-Ok-clause-only c = λ v rest f e.
    let same = read_again c.args.bytes.now c.in-Ok.value c.in-Ok.rest.now v rest f e c.in-Ok.ensures.part in
    let r = rest_is c.args.bytes.now c.in-Ok.value c.in-Ok.rest.now (bytes_from c.args.bytes.now (λ i. omega (arith, c.type_inv.bytes i))) c.in-Ok.ensures.part in
    (same.0, subst (λ (w : Value). length c.args.bytes.now - length c.in-Ok.rest.now ≡ length (spelling_of_value w)) same.0 r.1)

pub returns-in-Ok-clause-exact : goal.returns-in-Ok-clause-exact
returns-in-Ok-clause-exact c =
    let r = rest_is c.args.bytes.now c.in-Ok.value c.in-Ok.rest.now (bytes_from c.args.bytes.now (λ i. omega (arith, c.type_inv.bytes i))) c.in-Ok.ensures.part in
    c.in-Ok.ensures.part ∙ ap (λ (t : List ℕ). Ok (c.in-Ok.value, t)) (sym r.2)

pub returns-in-Err-Bad-clause-only : goal.returns-in-Err-Bad-clause-only
returns-in-Err-Bad-clause-only c = λ v rest f e.
    no_fault c.args.bytes.now (record { left = c.in-Err-Bad.left; kind = c.in-Err-Bad.kind }) v rest f e (rw c.in-Err-Bad.field-0-is at c.in-Err-Bad.ensures.part)

pub returns-in-Err-Bad-clause-place : goal.returns-in-Err-Bad-clause-place
returns-in-Err-Bad-clause-place c =
    let e = rw c.in-Err-Bad.field-0-is at c.in-Err-Bad.ensures.part in
    (place_is c.args.bytes.now (record { left = c.in-Err-Bad.left; kind = c.in-Err-Bad.kind }) (bytes_from c.args.bytes.now (λ i. omega (arith, c.type_inv.bytes i))) e).1

pub returns-in-Err-Bad-clause-exact : goal.returns-in-Err-Bad-clause-exact
returns-in-Err-Bad-clause-exact c =
    let e = rw c.in-Err-Bad.field-0-is at c.in-Err-Bad.ensures.part in
    let p = (place_is c.args.bytes.now (record { left = c.in-Err-Bad.left; kind = c.in-Err-Bad.kind }) (bytes_from c.args.bytes.now (λ i. omega (arith, c.type_inv.bytes i))) e).0 in
    let back : length c.args.bytes.now - (length c.args.bytes.now - c.in-Err-Bad.left) ≡ c.in-Err-Bad.left = omega arith in
    e ∙ ap (λ (n : ℕ). fault n c.in-Err-Bad.kind) (sym back)
