-- All tokens of a text as a script.
use Rattle.std.proofs.lemmas.Bool.Decides.{nat_tests}
use Rattle.std.proofs.Common.{arith, ◌≡◌, List, [], ◌∷◌, length, Bool, true, false, refl, ◌∙◌, add-one, append-nil}
use Rattle.std.specs.Prelude.{◌==◌}
use Rattle.script_tree.specs.declared.lexeme.Lexeme.{Lexeme}
use Rattle.script_tree.specs.Tree.{Statements}
use Rattle.script_tree.specs.Spelling.{statements_fit, spell_statements}
use Rattle.script_tree.specs.Grammar.{Faulty, verdict, script_of}
use Rattle.script_parse_terms.specs.declared.refusal.ReadError.{ReadError}
use Rattle.script_parse_terms.specs.declared.refusal.ReadError.TheVariants as errors
use Rattle.script_parse_terms.specs.Takes.{kind_at}
use Rattle.script_parse.specs.Bodies.{TookStmts, FailStmts}
use Rattle.script_parse.specs.Whole.{IsMisfit, IsWhole}

not_empty : (token : Lexeme) (rest : List Lexeme) → (length (token ∷ rest) == 0) ≡ true → ⊥
not_empty token rest e = grind (arith, nat_tests)

pub script_fine : (ts rest : List Lexeme) (body : Statements) → TookStmts [] 0 ts body (statements_fit 0 body) rest → (length rest == 0) ≡ true → IsWhole ts body
unfolding verdict
script_fine ts [] body took e = record { read = took.goes_on [] []; spelled = took.spelled ∙ append-nil (spell_statements body); fits = took.good_one }
script_fine ts (token ∷ rest) body took e = absurd (not_empty token rest e)

pub script_left : (ts rest : List Lexeme) (body : Statements) (good : Bool) → TookStmts [] 0 ts body good rest → (length rest == 0) ≡ false → script_of ts ≡ Faulty (record { left = length rest; kind = kind_at rest })
unfolding verdict
script_left ts [] body good took h = cc
script_left ts (token ∷ rest) body good took h = took.goes_on [] [] ∙ rw add-one refl

pub script_fails : (ts : List Lexeme) (e : ReadError) → FailStmts 0 ts e → IsMisfit (script_of ts) e
script_fails ts errors.NoMemory f = tt
script_fails ts (errors.Misfit misfit) f = f [] []
