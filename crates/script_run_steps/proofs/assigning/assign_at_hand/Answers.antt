use Rattle.std.proofs.Common.{rules, ◌≡◌, length, w64}
use Rattle.std.proofs.lemmas.Int.{to_z-of_z}
use Rattle.script_run_machine.specs.Settings.{setting_of}
use Rattle.script_run_steps.proofs.AssignLemmas.{assigned_alone}
use Rattle.script_run_steps.proofs.assigning.assign_at_hand.Goals as goal

pub returns-in-Some-clause-done : goal.returns-in-Some-clause-done
returns-in-Some-clause-done c is =
    let none : length c.in-Chain.more.items ≡ 0 = search rules in
    let costs = rw c.deref.ensures at c.in-Some.ensures (setting_of c.args.scene.now) in
    let done = rw (to_z-of_z w64 c.in-Some.number (search rules)) at c.try_assign_number.ensures.done is in
    assigned_alone (setting_of c.args.scene.now) c.in-Variable.place c.args.step.now c.in-Variable.term c.in-Chain.first c.in-Chain.more c.in-Some.number c.args.machine.now c.try_assign_number.new.self c.in-Variable.is c.in-Chain.is none costs done
