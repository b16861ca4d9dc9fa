use Rattle.std.proofs.Common.{rules, ◌≡◌, ◌+◌, refl, w64}
use Rattle.std.proofs.lemmas.Int.{to_z-of_z}
use Rattle.script_types.specs.ProgramOf.{term_of}
use Rattle.script_run_machine.specs.Machines.{state_of}
use Rattle.script_run_machine.specs.Spending.{with_units}
use Rattle.script_run_terms.proofs.HandLemmas.{compared_costs}
use Rattle.script_run_terms.proofs.at_hand.compared_at_hand.Goals as goal

pub returns-clause-given : goal.returns-clause-given
returns-clause-given c =
    let spent : state_of c.args.machine.now ≡ with_units (2 + c.in_ok-x.x.units) (state_of c.try_spend.new.self) = search rules in
    rw (to_z-of_z w64 c.in_ok-x.x.number (search rules), to_z-of_z w64 c.in_ok-y.y (search rules)) (λ s test. compared_costs s c.args.machine.now.variables test (term_of c.args.one.now) (term_of c.args.other.now) c.in_ok-x.x.number c.in_ok-y.y c.in_ok-x.x.units (state_of c.args.machine.now) (state_of c.try_spend.new.self) (c.in_ok-x.ensures.costs s) (c.in_ok-y.ensures s) spent refl)
