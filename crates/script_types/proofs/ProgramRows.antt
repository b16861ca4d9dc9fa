-- What a term with parts in memory is as a value, and what a step with blocks is.
use Rattle.std.proofs.Common.{◌≡◌, ◌++◌, List, [], ◌∷◌, Vec, Box, Global, refl, ap, ◌∙◌}
use mathlib.Core.Former.{Count}
use Rattle.script_types.specs.declared.term.Joint.{Joint}
use Rattle.script_types.specs.declared.step.Range.{Range}
use Rattle.script_types.specs.declared.checked_term.Term as t
use Rattle.script_types.specs.declared.checked_term.Term.{Term as TermInMemory, Row_of-Term-Chain-1-2, end_of-Term-Chain-1-2, more_of-Term-Chain-1-2, items-the_row-Term-Chain-1-2, items_hidden-the_row-Term-Chain-1-2-0}
use Rattle.script_types.specs.declared.checked_step.Step as s
use Rattle.script_types.specs.declared.checked_step.Step.{Step as StepInMemory, Row_of-Step, end_of-Step, more_of-Step, items-the_row-Step, items_hidden-the_row-Step-0}
use Rattle.script_types.specs.Program as p
use Rattle.script_types.specs.Program.{Term, Combine, Steps, Nothing, Then}
use Rattle.script_types.specs.ProgramOf.{term_of, combine_of, combined, combined_row, step_of, row_of, steps_of, before}

row_combined : (x : Term) (n : _) (row : Row_of-Term-Chain-1-2 n) → combined_row x row ≡ combined x (items-the_row-Term-Chain-1-2 n row)
row_combined x n end_of-Term-Chain-1-2 = refl
row_combined x n (more_of-Term-Chain-1-2 op y more) = row_combined (Combine op x (term_of y)) _ more

abbrev chain_row : TermInMemory → (n : Count) × Row_of-Term-Chain-1-2 n
chain_row (t.Chain' _ x op y _ row) = (_, row)
chain_row _ = (_, end_of-Term-Chain-1-2)

pub chain_term : (x : Box (TermInMemory × Joint × TermInMemory) Global) (v : Vec (Joint × TermInMemory) Global) → term_of (t.Chain x v) ≡ combined (combine_of x.value) v.items
chain_term x v =
    let row = chain_row (t.Chain x v) in
    row_combined (combine_of x.value) row.0 row.1 ∙ ap (combined (combine_of x.value)) (items_hidden-the_row-Term-Chain-1-2-0 v)

-- an operator more behind a chain
pub combined_last : (x : Term) (xs : List (Joint × TermInMemory)) (y : Joint × TermInMemory) → combined x (xs ++ y ∷ []) ≡ Combine y.0 (combined x xs) (term_of y.1)
combined_last x [] y = refl
combined_last x (z ∷ xs) y = combined_last (Combine z.0 x (term_of z.1)) xs y

row_steps : (n : _) (row : Row_of-Step n) → row_of row ≡ steps_of (items-the_row-Step n row)
row_steps n end_of-Step = refl
row_steps n (more_of-Step x rest) = ap (Then (step_of x)) (row_steps _ rest)

abbrev first_row : StepInMemory → (n : Count) × Row_of-Step n
first_row (s.If' x _ row _ other) = (_, row)
first_row (s.While' x _ row) = (_, row)
first_row (s.For' range _ row) = (_, row)
first_row _ = (_, end_of-Step)

abbrev other_row : StepInMemory → (n : Count) × Row_of-Step n
other_row (s.If' x _ row _ other) = (_, other)
other_row _ = (_, end_of-Step)

pub while_step : (x : TermInMemory) (v : Vec StepInMemory Global) → step_of (s.While x v) ≡ p.While (term_of x) (steps_of v.items)
while_step x v = let row = first_row (s.While x v) in ap (p.While (term_of x)) (row_steps row.0 row.1 ∙ ap steps_of (items_hidden-the_row-Step-0 v))

pub for_step : (range : Range) (v : Vec StepInMemory Global) → step_of (s.For range v) ≡ p.For range (steps_of v.items)
for_step range v = let row = first_row (s.For range v) in ap (p.For range) (row_steps row.0 row.1 ∙ ap steps_of (items_hidden-the_row-Step-0 v))

pub if_step : (x : TermInMemory) (v w : Vec StepInMemory Global) → step_of (s.If x v w) ≡ p.If (term_of x) (steps_of v.items) (steps_of w.items)
if_step x v w =
    let row = first_row (s.If x v w) in
    let other = other_row (s.If x v w) in
    ap (λ z. p.If (term_of x) z (row_of other.1)) (row_steps row.0 row.1 ∙ ap steps_of (items_hidden-the_row-Step-0 v))
    ∙ ap (p.If (term_of x) (steps_of v.items)) (row_steps other.0 other.1 ∙ ap steps_of (items_hidden-the_row-Step-0 w))

-- a step more behind others
pub before_last : (xs : List StepInMemory) (x : StepInMemory) → before (xs ++ x ∷ []) ≡ (λ rest. before xs (Then (step_of x) rest))
before_last [] x = refl
before_last (z ∷ xs) x = let g : (Steps → Steps) → Steps → Steps = λ f rest. Then (step_of z) (f rest) in ap g (before_last xs x)
