-- What is told of a text, by what its tokens are.
use Rattle.std.proofs.lemmas.Bool.Decides.{nat_tests}
use Rattle.std.proofs.Common.{arith, ◌≡◌, ◌≢◌, ◌-◌, ◌&&◌, Bool, true, false, refl, sym, ap, ◌∙◌, Result, Ok, Err, Some, None, true≢false, rules}
use Rattle.std.specs.Prelude.{◌==◌, ℕ}
use Rattle.std.proofs.lemmas.List.{length-map}
use denote.Enum.Bare.{sameb, same_true, true_same}
use Rattle.script_tree.specs.Tree.{Bytes, Statements}
use Rattle.script_tree.specs.contracts.fault.SyntaxBad.{the_type}
use Rattle.script_tree.specs.declared.fault.SyntaxBad.{SyntaxBad}
use Rattle.script_tree.specs.declared.fault.SyntaxFault.{SyntaxFault}
use Rattle.script_tree.specs.declared.fault.SyntaxFault.TheVariants as syntax
use Rattle.script_tree.specs.Grammar.{Verdict, Fine, Faulty, script_of}
use Rattle.script_tree.specs.Lexer.{spots_of, lexemes_of, lexeme_of}
use Rattle.script_tree.specs.Reading.{script_read, read_by, place_of_token, fault_in}
use Rattle.script_hints.specs.declared.syntax.SyntaxHint.{SyntaxHint}
use Rattle.script_hints.specs.Hints.{Hints}
use Rattle.deploy_hints.specs.declared.hint.Hint.TheVariants as hints
use Rattle.deploy_hints.specs.declared.hint.Misreading.{Misreading}
use Rattle.deploy_hints.specs.Hints.{IsTextHint, is_of, syntax_fault}

-- the fault that is told is the text's first
fault_told : (text : Bytes) (v : Verdict) → script_of (lexemes_of text) ≡ v → (hint : SyntaxHint) → Hints text v (Some hint) → script_read text ≡ Err (fault_in hint.place hint.kind)
fault_told text (Fine script) e hint h = absurd h
fault_told text (Faulty f) e hint h =
    ap (read_by text (spots_of text)) e
    ∙ (ap (λ n. Err (fault_in (place_of_token text (n - f.left)) f.kind)) (sym (length-map (spots_of text) lexeme_of))
    ∙ (ap (λ p. Err (fault_in p f.kind)) (sym h.place) ∙ ap (λ k. Err (fault_in hint.place k)) (sym h.kind_of)))

both : (a b : Bool) → (a && b) ≡ true → (a ≡ true) × (b ≡ true)
both true b e = (refl, e)
both false b e = absurd (true≢false (sym e))

same_number : (n m : ℕ) → (n == m) ≡ true → n ≡ m
same_number n m e = grind (arith, nat_tests)

equal_number : (n : ℕ) → (n == n) ≡ true
equal_number n = grind (arith, nat_tests)

same_kind : (a b : SyntaxBad) → sameb the_type a b ≡ true → a ≡ b
same_kind a b e = same_true the_type (search rules) a b e

same_fault : (hint : SyntaxHint) (f : Misreading) → is_of hint f ≡ true → fault_in hint.place hint.kind ≡ syntax_fault f
same_fault hint f e =
    let two = both (hint.place.line == f.line && hint.place.column == f.column) (sameb the_type hint.kind f.kind) e in
    let one = both (hint.place.line == f.line) (hint.place.column == f.column) two.0 in
    ap (λ n. syntax.At n hint.place.column hint.kind) (same_number hint.place.line f.line one.0)
    ∙ (ap (λ n. syntax.At f.line n hint.kind) (same_number hint.place.column f.column one.1)
    ∙ ap (λ k. syntax.At f.line f.column k) (same_kind hint.kind f.kind two.1))

-- whether what is read is that fault
abbrev test : Misreading → Result Statements SyntaxFault → Bool
test f (Ok script) = false
test f (Err syntax.NoMemory) = false
test f (Err (syntax.At line column kind)) = (line == f.line && column == f.column) && sameb the_type kind f.kind

test_is : (f : Misreading) → test f (Err (syntax_fault f)) ≡ true
test_is f =
    ap (λ b. (b && f.column == f.column) && sameb the_type f.kind f.kind) (equal_number f.line)
    ∙ (ap (λ b. b && sameb the_type f.kind f.kind) (equal_number f.column) ∙ true_same the_type f.kind f.kind refl)

pub told : (text : Bytes) (f : Misreading) (hint : SyntaxHint) → Hints text (script_of (lexemes_of text)) (Some hint) → is_of hint f ≡ true → IsTextHint text f (Some (hints.Syntax hint))
told text f hint h e = (fault_told text _ refl hint h ∙ ap Err (same_fault hint f e), h)

pub other : (text : Bytes) (f : Misreading) (hint : SyntaxHint) → Hints text (script_of (lexemes_of text)) (Some hint) → is_of hint f ≡ false → IsTextHint text f None
other text f hint h e = λ r. true≢false (sym (test_is f) ∙ (sym (ap (test f) r) ∙ (ap (test f) (fault_told text _ refl hint h) ∙ e)))

no_fault : (text : Bytes) (f : Misreading) (v : Verdict) → script_of (lexemes_of text) ≡ v → Hints text v None → script_read text ≢ Err (syntax_fault f)
no_fault text f (Fine script) e h = λ r. true≢false (sym (test_is f) ∙ (sym (ap (test f) r) ∙ ap (test f) (ap (read_by text (spots_of text)) e)))
no_fault text f (Faulty misfit) e h = absurd h

pub fine : (text : Bytes) (f : Misreading) → Hints text (script_of (lexemes_of text)) None → IsTextHint text f None
fine text f h = no_fault text f _ refl h
