use Rattle.std.proofs.Common.{rules, sym, subst, w64}
use Rattle.std.proofs.lemmas.Int.{to_z-of_z}
use Rattle.script_types.specs.declared.checked_term.Term.{Term as TermInMemory}
use Rattle.script_types.specs.ProgramOf.{term_of}
use Rattle.script_meaning.specs.Terms.{eval}
use Rattle.script_meaning.specs.Values.{int}
use Rattle.script_run_machine.specs.Spending.{Costs}
use Rattle.script_run_terms.proofs.at_hand.counted_at_hand.Goals as goal

pub returns-in_ok-length_at_hand-in-Ask-clause-costs : goal.returns-in_ok-length_at_hand-in-Ask-clause-costs
returns-in_ok-length_at_hand-in-Ask-clause-costs c =
    rw (to_z-of_z w64 c.in_ok-length_at_hand-in-Ask.field-0 (search rules)) (λ s. subst (λ (x : TermInMemory). Costs 2 c.args.machine.now.variables (eval s (term_of x)) (int c.in_ok-length_at_hand-in-Ask.field-0)) (sym c.in-Ask.is) (rw c.deref.ensures at c.in_ok-length_at_hand-in-Ask.ensures s))
