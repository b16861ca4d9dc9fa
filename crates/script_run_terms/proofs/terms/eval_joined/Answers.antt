use Rattle.std.proofs.Common.{List, ℕ, sym, subst}
use Rattle.slee_effect.specs.declared.value.Val.{Val}
use Rattle.script_meaning.specs.Running.{Ending}
use Rattle.script_meaning.specs.Values.{text}
use Rattle.script_run_machine.specs.Settings.{setting_of}
use Rattle.script_run_machine.specs.Agreeing.{EndsAs}
use Rattle.script_run_machine.specs.Machines.{state_of}
use Rattle.script_run_terms.proofs.ChainLemmas.{chain_eval, chain_numbered}
use Rattle.script_run_terms.proofs.terms.eval_joined.Goals as goal

pub returns-in-Join-clause-agrees : goal.returns-in-Join-clause-agrees
returns-in-Join-clause-agrees c =
    subst (λ (x : Ending Val). EndsAs {A = Val} {B = List ℕ} (λ t. text t) x c.text_chain.new.machine c.text_chain.result) (sym (chain_eval (setting_of c.args.scene.now) c.args.term.now c.in-Chain.first c.in-Chain.more (state_of c.args.machine.now) c.in-Chain.is)) (rw (c.deref-in-Join.ensures, c.deref-in-Join-2.ensures.value) at c.text_chain.ensures.agrees)

pub text_chain-requires-clause-first : goal.text_chain-requires-clause-first
text_chain-requires-clause-first c = rw c.deref-in-Join.ensures (chain_numbered c.args.scene.now.names.now c.args.term.now c.in-Chain.first c.in-Chain.more c.in-Chain.is c.requires.term).0

pub text_chain-requires-clause-more : goal.text_chain-requires-clause-more
text_chain-requires-clause-more c = rw c.deref-in-Join-2.ensures.value (chain_numbered c.args.scene.now.names.now c.args.term.now c.in-Chain.first c.in-Chain.more c.in-Chain.is c.requires.term).1
