use Rattle.std.proofs.Common.{rules, ◌≡◌, ◌∙◌, refl, sym, subst, arith, to_z, of_z, w64}
use Rattle.std.proofs.lemmas.Result.{err_from_is_err_and}
use Rattle.std.proofs.lemmas.Int.{to_z-of_z}
use Rattle.slee_effect.specs.declared.value.Val.{Val}
use Rattle.script_types.specs.declared.checked_term.Term.{Term as TermInMemory}
use Rattle.script_types.specs.ProgramOf.{term_of}
use Rattle.script_meaning.specs.Running.{Ending}
use Rattle.script_meaning.specs.Terms.{eval}
use Rattle.script_run_machine.specs.Settings.{setting_of}
use Rattle.script_meaning.specs.Values.{int, flag, text}
use Rattle.std.specs.Fmt.{signed_decimal}
use Rattle.std.specs.Prelude.{string_bytes}
use Rattle.script_run_terms.specs.Writing.{EndsWriting}
use Rattle.script_run_machine.specs.Agreeing.{EndsAs, EndsFinding}
use Rattle.script_run_machine.specs.Lending.{value_at, standing}
use Rattle.script_run_machine.specs.Machines.{state_of}
use Rattle.script_run_machine.specs.Kinds.{NoInt, NoFlag}
use Rattle.script_run_terms.proofs.ChainLemmas.{chain_eval, chain_numbered, number_stops, number_step}
use Rattle.script_run_terms.proofs.HandLemmas.{tick_apart, given_behind}
use Rattle.script_run_terms.proofs.+terms.Goals as goal

pub terms::find_any-returns-in-Chain-clause-agrees : goal.terms::find_any-returns-in-Chain-clause-agrees
terms::find_any-returns-in-Chain-clause-agrees t c =
    subst (λ (x : Ending Val). EndsAs (value_at (standing c.find_chain.new.machine)) x c.find_chain.new.machine c.find_chain.result) (sym (chain_eval (setting_of c.args.scene.now) c.args.term.now c.in-Chain.first c.in-Chain.more (state_of c.args.machine.now) c.in-Chain.is)) (rw (c.deref-in-Chain.ensures, c.deref-in-Chain-2.ensures.value) at c.find_chain.ensures.agrees)

pub numbers::eval_any_truth-returns-in-Chain-clause-finds : goal.numbers::eval_any_truth-returns-in-Chain-clause-finds
numbers::eval_any_truth-returns-in-Chain-clause-finds t c =
    subst (λ (x : Ending Val). EndsFinding flag NoFlag x c.truth_in_chain.new.machine c.truth_in_chain.result) (sym (chain_eval (setting_of c.args.scene.now) c.args.term.now c.in-Chain.first c.in-Chain.more (state_of c.args.machine.now) c.in-Chain.is)) (rw (c.deref-in-Chain.ensures, c.deref-in-Chain-2.ensures.value) at c.truth_in_chain.ensures.finds)

pub numbers::compared_number-returns-clause-finds : goal.numbers::compared_number-returns-clause-finds
numbers::compared_number-returns-clause-finds t c = (flag c.in_ok-eval_compared.field-0, (tt, search rules))

pub numbers::eval_any_number-returns-in-Chain-clause-finds : goal.numbers::eval_any_number-returns-in-Chain-clause-finds
numbers::eval_any_number-returns-in-Chain-clause-finds t c =
    subst (λ (x : Ending Val). EndsFinding int NoInt x c.number_in_chain.new.machine c.number_in_chain.result) (sym (chain_eval (setting_of c.args.scene.now) c.args.term.now c.in-Chain.first c.in-Chain.more (state_of c.args.machine.now) c.in-Chain.is)) (rw (c.deref-in-Chain.ensures, c.deref-in-Chain-2.ensures.value) at c.number_in_chain.ensures.finds)

pub numbers::number_links-returns-in_err-x-clause-agrees : goal.numbers::number_links-returns-in_err-x-clause-agrees
numbers::number_links-returns-in_err-x-clause-agrees t c =
    let p = err_from_is_err_and c.from_residual-in_err-x.result c.from_residual-in_err-x.ensures.1 in
    let given = rw c.in-Some.is at c.in_ok-y.ensures.finds in
    let so_far = rw (c.links.x-is, to_z-of_z w64 c.args.first c.ranges.first) at c.links.invariant.0 in
    rw (p.1, p.2) (number_stops (setting_of c.args.scene.now) c.args.links.now c.links.joint-index c.links-item.result c.links.x (state_of c.links.machine) _ c.links-test.true c.links-item.is so_far (int c.in-Some.y) c.eval_number.new.machine c.in_err-x.field-0.0 given (rw (c.links.x-is, to_z-of_z w64 c.in-Some.y (search rules)) at c.in_err-x.ensures))

pub numbers::number_links-links-preserved : goal.numbers::number_links-links-preserved
numbers::number_links-links-preserved t c =
    let given = rw c.in-Some.is at c.in_ok-y.ensures.finds in
    let z : to_z w64 (of_z w64 c.in_ok-x.x) ≡ c.in_ok-x.x = search rules in
    let so_far = rw c.links.x-is at c.links.invariant.0 in
    (rw z (number_step (setting_of c.args.scene.now) c.args.links.now c.links.joint-index c.links-item.result c.links.x (state_of c.links.machine) _ c.links-test.true c.links-item.is so_far (int c.in-Some.y) (int c.in_ok-x.x) (state_of c.eval_number.new.machine) (state_of c.eval_number.new.machine) given (rw (c.links.x-is, to_z-of_z w64 c.in-Some.y (search rules)) at c.in_ok-x.ensures)), omega (arith, c.in_ok-y.ensures.spent, c.links.invariant.1), c.in_ok-y.ensures.kept ∙ c.links.invariant.2, c.in_ok-y.ensures.names ∙ c.links.invariant.3)

pub numbers::eval_any_number-number_in_chain-requires : goal.numbers::eval_any_number-number_in_chain-requires
numbers::eval_any_number-number_in_chain-requires t c =
    let both = chain_numbered c.args.scene.now.names.now c.args.term.now c.in-Chain.first c.in-Chain.more c.in-Chain.is c.requires.term in
    (search rules, (c.requires.names, (rw c.deref-in-Chain.ensures both.0, rw c.deref-in-Chain-2.ensures.value both.1)))

pub numbers::eval_any_truth-truth_in_chain-requires : goal.numbers::eval_any_truth-truth_in_chain-requires
numbers::eval_any_truth-truth_in_chain-requires t c =
    let both = chain_numbered c.args.scene.now.names.now c.args.term.now c.in-Chain.first c.in-Chain.more c.in-Chain.is c.requires.term in
    (search rules, (c.requires.names, (rw c.deref-in-Chain.ensures both.0, rw c.deref-in-Chain-2.ensures.value both.1)))

pub terms::find_any-find_chain-requires : goal.terms::find_any-find_chain-requires
terms::find_any-find_chain-requires t c =
    let both = chain_numbered c.args.scene.now.names.now c.args.term.now c.in-Chain.first c.in-Chain.more c.in-Chain.is c.requires.term in
    (search rules, (c.requires.names, (rw c.deref-in-Chain.ensures both.0, rw c.deref-in-Chain-2.ensures.value both.1)))

pub numbers::eval_any_number-returns-in-Ask-clause-finds : goal.numbers::eval_any_number-returns-in-Ask-clause-finds
numbers::eval_any_number-returns-in-Ask-clause-finds t c =
    subst (λ (x : TermInMemory). EndsFinding int NoInt (eval (setting_of c.args.scene.now) (term_of x) (state_of c.args.machine.now)) c.asked_number.new.machine c.asked_number.result) (sym c.in-Ask.is) (rw c.deref.ensures at c.asked_number.ensures.finds)

pub numbers::eval_any_truth-returns-in-Ask-clause-finds : goal.numbers::eval_any_truth-returns-in-Ask-clause-finds
numbers::eval_any_truth-returns-in-Ask-clause-finds t c =
    subst (λ (x : TermInMemory). EndsFinding flag NoFlag (eval (setting_of c.args.scene.now) (term_of x) (state_of c.args.machine.now)) c.asked_truth.new.machine c.asked_truth.result) (sym c.in-Ask.is) (rw c.deref.ensures at c.asked_truth.ensures.finds)

pub joins::write_asked-returns-in_ok-write_number-in-TextOfInt-clause-writes : goal.joins::write_asked-returns-in_ok-write_number-in-TextOfInt-clause-writes
joins::write_asked-returns-in_ok-write_number-in-TextOfInt-clause-writes t c =
    let given = rw c.in-Some.is at c.in_ok-n-in-TextOfInt.ensures.finds in
    (text (signed_decimal c.in-Some.n), ((refl, rw (to_z-of_z w64 c.in-Some.n (search rules)) at c.in_ok-write_number-in-TextOfInt.ensures), search rules))

pub joins::write_term-returns-in-Ask-clause-writes : goal.joins::write_term-returns-in-Ask-clause-writes
joins::write_term-returns-in-Ask-clause-writes t c =
    subst (λ (x : TermInMemory). EndsWriting (eval (setting_of c.args.scene.now) (term_of x) (state_of c.args.machine.now)) c.write_asked.new.machine (string_bytes c.args.whole.now) (string_bytes c.write_asked.new.whole) c.write_asked.result) (sym c.in-Ask.is) (rw c.deref.ensures at c.write_asked.ensures.writes)

pub numbers::eval_test-returns-in-Some-clause-agrees : goal.numbers::eval_test-returns-in-Some-clause-agrees
numbers::eval_test-returns-in-Some-clause-agrees t c =
    subst (λ (x : Ending Val). EndsAs flag x c.compared_at_hand.new.machine c.compare_numbers.result) (sym (c.in-Some.ensures.given (setting_of c.args.scene.now) c.args.parts.now.0)) (rw (to_z-of_z w64 c.in-Some.x (search rules), to_z-of_z w64 c.in-Some.y (search rules)) at c.compare_numbers.ensures)

pub joins::write_part-returns-in-Some-clause-writes : goal.joins::write_part-returns-in-Some-clause-writes
joins::write_part-returns-in-Some-clause-writes t c =
    let spent = tick_apart (state_of c.args.machine.now) (state_of c.tick.new.self) c.in_ok-tick.ensures.agrees in
    (text c.in-Some.text.now, (search rules, given_behind (eval (setting_of c.args.scene.now) (term_of c.args.term.now)) 1 (text c.in-Some.text.now) c.args.machine.now c.tick.new.self (c.in-Some.ensures (setting_of c.args.scene.now)) spent))
