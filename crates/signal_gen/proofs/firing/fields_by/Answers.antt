use Rattle.std.proofs.Common.{rules, ◌≡◌, ◌∷◌, [], ◌++◌, true, false, Some}
use Rattle.slee_value.specs.Name.{is_name}
use Rattle.signal_script.specs.Signals.{has_field}
use Rattle.signal_gen.specs.Firing.{value_by}
use Rattle.signal_gen.proofs.FieldLemmas.{one_given}
use Rattle.signal_gen.proofs.firing.fields_by.Goals as goal

pub each-preserved : goal.each-preserved
each-preserved c =
    let split : c.each.left.now ≡ c.in-Some.field.now ∷ c.in-Some.others.now = search rules in
    let told : Some c.as_str.result.now ≡ value_by c.args.rest c.in-Some.field.now.1 = search rules in
    let named : is_name c.in-Some.field.now.0 ≡ true = search rules in
    let fresh : has_field c.each.fields c.in-Some.field.now.0 ≡ false = search rules in
    let grown : c.push.new.self ≡ c.each.fields ++ (c.in-Some.field.now.0, c.as_str.result.now) ∷ [] = search rules in
    one_given c.args.rest c.args.declared.now c.each.fields c.push.new.self c.in-Some.field.now c.each.left.now c.in-Some.others.now c.as_str.result.now split told named fresh grown c.each.invariant
