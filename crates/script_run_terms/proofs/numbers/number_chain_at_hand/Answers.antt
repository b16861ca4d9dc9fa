use Rattle.std.proofs.Common.{rules, ◌≡◌, ◌∙◌, length, w64}
use Rattle.std.proofs.lemmas.Int.{to_z-of_z}
use Rattle.script_types.specs.ProgramOf.{combine_of}
use Rattle.script_meaning.specs.Terms.{eval}
use Rattle.script_meaning.specs.Values.{int}
use Rattle.script_run_machine.specs.Machines.{state_of}
use Rattle.script_run_machine.specs.Settings.{setting_of}
use Rattle.script_run_machine.specs.Spending.{with_units}
use Rattle.script_run_terms.proofs.HandLemmas.{given_behind, chained_alone}
use Rattle.script_run_terms.proofs.numbers.number_chain_at_hand.Goals as goal

pub returns-then-try_spend-clause-agrees : goal.returns-then-try_spend-clause-agrees
returns-then-try_spend-clause-agrees c =
    let spent : state_of c.args.machine.now ≡ with_units 3 (state_of c.try_spend.new.self) = search rules in
    let alone : length c.args.more.now ≡ 0 = search rules in
    rw (to_z-of_z w64 c.in-Some.number (search rules)) (chained_alone (setting_of c.args.scene.now) (combine_of c.args.first.now) c.args.more.now (state_of c.args.machine.now) alone ∙ given_behind (eval (setting_of c.args.scene.now) (combine_of c.args.first.now)) 3 (int c.in-Some.number) c.args.machine.now c.try_spend.new.self (c.in-Some.ensures (setting_of c.args.scene.now)) spent)
