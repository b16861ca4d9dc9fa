use Rattle.std.proofs.Common.{sym, subst}
use Rattle.slee_effect.specs.declared.value.Val.{Val}
use Rattle.script_meaning.specs.Running.{Ending}
use Rattle.script_meaning.specs.Values.{int}
use Rattle.script_run_machine.specs.Settings.{setting_of}
use Rattle.script_run_machine.specs.Agreeing.{EndsAs}
use Rattle.script_run_machine.specs.Machines.{state_of}
use Rattle.script_run_terms.proofs.ChainLemmas.{chain_eval, chain_numbered}
use Rattle.script_run_terms.proofs.terms.eval_calculated.Goals as goal

pub returns-in-Chain-clause-agrees : goal.returns-in-Chain-clause-agrees
returns-in-Chain-clause-agrees c =
    subst (λ (x : Ending Val). EndsAs int x c.number_chain_at_hand.new.machine c.number_chain_at_hand.result) (sym (chain_eval (setting_of c.args.scene.now) c.args.term.now c.in-Chain.first c.in-Chain.more (state_of c.args.machine.now) c.in-Chain.is)) (rw (c.deref.ensures, c.deref-in-Chain.ensures.value) at c.number_chain_at_hand.ensures.agrees)

pub number_chain_at_hand-requires-clause-first : goal.number_chain_at_hand-requires-clause-first
number_chain_at_hand-requires-clause-first c = rw c.deref.ensures (chain_numbered c.args.scene.now.names.now c.args.term.now c.in-Chain.first c.in-Chain.more c.in-Chain.is c.requires.term).0

pub number_chain_at_hand-requires-clause-more : goal.number_chain_at_hand-requires-clause-more
number_chain_at_hand-requires-clause-more c = rw c.deref-in-Chain.ensures.value (chain_numbered c.args.scene.now.names.now c.args.term.now c.in-Chain.first c.in-Chain.more c.in-Chain.is c.requires.term).1
