-- A step that gives a variable what is at hand.
use Rattle.std.proofs.Common.{◌≡◌, ◌+◌, ℕ, ℤ, suc, List, [], ◌∷◌, length, Vec, Box, Global, refl, ap, ◌∙◌, arith}
use Rattle.script_types.specs.declared.term.Joint.{Joint}
use Rattle.script_types.specs.declared.checked_step.Assigning.{Assigning as AssigningInMemory}
use Rattle.script_types.specs.declared.checked_step.Assigning.TheVariants as a
use Rattle.script_types.specs.declared.checked_term.Term as t
use Rattle.script_types.specs.declared.checked_term.Term.{Term as TermInMemory}
use Rattle.script_types.specs.Program as p
use Rattle.script_types.specs.Program.{Term}
use Rattle.script_types.specs.ProgramOf.{term_of, assigning_of, combine_of, combined}
use Rattle.script_types.proofs.ProgramRows.{chain_term}
use Rattle.script_meaning.specs.Running.{Setting, State, Gave, then_run, ticked, assign}
use Rattle.script_meaning.specs.Values.{int}
use Rattle.script_meaning.specs.Terms.{eval}
use Rattle.script_meaning.specs.Doing.{assigns}
use Rattle.script_run_machine.specs.Machines.{MachineState, state_of}
use Rattle.script_run_machine.specs.Spending.{with_units, Costs, Assigns}

assigned : (s : Setting) (place : ℕ) (x : Term) (n : ℤ) (old new : MachineState) → Costs 3 old.variables (eval s x) (int n) → Assigns 4 place n old new → ticked (assigns s (p.Variable place x)) (state_of old) ≡ Gave tt (state_of new)
assigned s place x n old new costs done =
    let z : new.left + 4 ≡ suc (new.left + 3) = omega arith in
    ap (λ left. ticked (assigns s (p.Variable place x)) (record (state_of old) { left = left })) (done.0 ∙ z) ∙ (ap (λ e. then_run e (assign place)) (costs (record (state_of old) { left = new.left }) refl) ∙ done.1)

combined_alone : (x : Term) (more : List (Joint × TermInMemory)) → length more ≡ 0 → combined x more ≡ x
combined_alone x [] is = refl
combined_alone x (y ∷ more) is = absurd cc

-- the step in memory, of one operator
pub assigned_alone : (s : Setting) (place : ℕ) (step : AssigningInMemory) (x : TermInMemory) (first : Box (TermInMemory × Joint × TermInMemory) Global) (more : Vec (Joint × TermInMemory) Global) (n : ℤ) (old new : MachineState) → step ≡ a.Variable place x → x ≡ t.Chain first more → length more.items ≡ 0 → Costs 3 old.variables (eval s (combine_of first.value)) (int n) → Assigns 4 place n old new → ticked (assigns s (assigning_of step)) (state_of old) ≡ Gave tt (state_of new)
assigned_alone s place step x first more n old new is chain none costs done =
    let same : term_of x ≡ combine_of first.value = ap term_of chain ∙ (chain_term first more ∙ combined_alone (combine_of first.value) more.items none) in
    ap (λ y. ticked (assigns s (assigning_of y)) (state_of old)) is ∙ assigned s place (term_of x) n old new (λ st at. ap (λ y. eval s y (with_units 3 st)) same ∙ costs st at) done
