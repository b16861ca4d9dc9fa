use Rattle.std.proofs.Common.{rules, ◌≡◌, w64}
use Rattle.std.proofs.lemmas.Int.{to_z-of_z}
use Rattle.script_types.specs.ProgramOf.{term_of}
use Rattle.script_meaning.specs.Terms.{eval}
use Rattle.script_meaning.specs.Values.{int}
use Rattle.script_run_machine.specs.Machines.{state_of}
use Rattle.script_run_machine.specs.Settings.{setting_of}
use Rattle.script_run_machine.specs.Spending.{with_units}
use Rattle.script_run_terms.proofs.HandLemmas.{given_behind}
use Rattle.script_run_terms.proofs.terms.eval_single.Goals as goal

pub returns-then-try_spend-clause-agrees : goal.returns-then-try_spend-clause-agrees
returns-then-try_spend-clause-agrees c =
    let spent : state_of c.args.machine.now ≡ with_units 1 (state_of c.try_spend.new.self) = search rules in
    rw (to_z-of_z w64 c.in-Some.number (search rules)) (given_behind (eval (setting_of c.args.scene.now) (term_of c.args.term.now)) 1 (int c.in-Some.number) c.args.machine.now c.try_spend.new.self (c.in-Some.ensures (setting_of c.args.scene.now)) spent)
