-- What is told of a misfit, by what is told at its place.
use Rattle.std.proofs.Common.{◌≡◌, ◌∙◌, ◌-◌, ℕ, List, length, ap, subst, Result, IfOk}
use Rattle.slee_value.specs.declared.memory.NoMemory.{NoMemory}
use Rattle.script_tree.specs.Tree.{Bytes}
use Rattle.script_tree.specs.declared.lexeme.Lexeme.{Lexeme}
use Rattle.script_tree.specs.declared.fault.Misfit.{Misfit}
use Rattle.script_tree.specs.Lexer.{lexemes_of}
use Rattle.script_hints.specs.declared.syntax.SyntaxHint.{SyntaxHint}
use Rattle.script_hints.specs.Hints.{Tells, TellsAt}

pub tells : (text : Bytes) (tokens : List Lexeme) (f : Misfit) (n : ℕ) (r : Result SyntaxHint NoMemory) → tokens ≡ lexemes_of text → n ≡ length tokens - f.left → IfOk r (TellsAt text tokens n f.kind) → IfOk r (Tells text f)
tells text tokens f n r e m h =
    let P : List Lexeme → Type 0 = λ ts. IfOk r (TellsAt text ts n f.kind) in
    let Q : ℕ → Type 0 = λ k. IfOk r (TellsAt text (lexemes_of text) k f.kind) in
    subst Q (m ∙ ap (λ ts. length ts - f.left) e) (subst P e h)
