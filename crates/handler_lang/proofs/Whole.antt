-- What a text is by what its tokens are.
use Rattle.std.proofs.Common.{◌≡◌, ◌-◌, ℕ, List, length, Ok, Err, sym, ap, ◌∙◌}
use Rattle.std.proofs.lemmas.List.{length-map}
use Rattle.script_tree.specs.declared.lexeme.Lexeme.{Lexeme}
use Rattle.script_tree.specs.declared.fault.Misfit.{Misfit}
use Rattle.script_tree.specs.Tree.{Bytes, Statements}
use Rattle.script_tree.specs.Grammar.{Faulty, script_of}
use Rattle.script_tree.specs.Lexer.{spots_of, lexemes_of, lexeme_of}
use Rattle.script_tree.specs.Reading.{Writes, IsFault, script_read, read_by, place_of_token, fault_in}
use Rattle.script_tree.specs.declared.fault.SyntaxFault.{SyntaxFault}
use Rattle.script_tree.specs.declared.fault.SyntaxFault.TheVariants as faults
use Rattle.script_print.proofs.Texts.{text_again}
use Rattle.script_parse.specs.Whole.{IsWhole}
use Rattle.script_print.proofs.Misfits.{first_misfit}
use Rattle.handler_lang.specs.Refusals.{Refuses, IsFirst}

pub written : (text : Bytes) (ts : List Lexeme) (script : Statements) → ts ≡ lexemes_of text → IsWhole ts script → Writes text script
written text ts script e h = record { spelled = sym e ∙ h.spelled; whole = h.fits }

pub parsed : (text : Bytes) (ts : List Lexeme) (script : Statements) → ts ≡ lexemes_of text → IsWhole ts script → script_read text ≡ Ok script
parsed text ts script e h = ap (read_by text (spots_of text)) (ap script_of (sym e) ∙ h.read)

-- the fault of a text stands where the tokens that are left begin
pub misread : (text : Bytes) (n : ℕ) (f : Misfit) → script_of (lexemes_of text) ≡ Faulty f → n ≡ length (lexemes_of text) → script_read text ≡ Err (fault_in (place_of_token text (n - f.left)) f.kind)
misread text n f h e =
    let same : n ≡ length (spots_of text) = e ∙ length-map (spots_of text) lexeme_of in
    ap (read_by text (spots_of text)) h ∙ ap (λ m. Err (fault_in (place_of_token text (m - f.left)) f.kind)) (sym same)

-- a text with a fault writes no script
pub refuses : (text : Bytes) (e : SyntaxFault) → IsFault (script_read text) e → Refuses text e
refuses text faults.NoMemory h = tt
refuses text (faults.At line column kind) h = λ script w. let read : script_read text ≡ Ok script = text_again text script w.whole w.spelled in absurd cc

-- and its fault stands at the first place which no script goes on past
pub first : (text : Bytes) (e : SyntaxFault) → IsFault (script_read text) e → IsFirst text e
first text faults.NoMemory h = tt
first text (faults.At line column kind) h = first_misfit text line column kind h
