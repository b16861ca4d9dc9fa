-- Texts whose tokens spell a script are read as that script.
use Rattle.std.proofs.Common.{◌≡◌, ◌++◌, length, drop, true, refl, sym, ap, ◌∙◌}
use Rattle.std.specs.Prelude.{Ok}
use Rattle.std.proofs.lemmas.List.{drop_at}
use Rattle.script_tree.specs.Tree.{Bytes, Statements}
use Rattle.script_tree.specs.Lexer.{spots_of, lexemes_of}
use Rattle.script_tree.specs.Grammar.{Fine, script_of}
use Rattle.script_tree.specs.Spelling.{spell_statements, is_script}
use Rattle.script_tree.specs.Reading.{Writes, read_by, script_read}
use Rattle.script_print.specs.Layout.{printed, laid_out}
use Rattle.script_print.proofs.Printed.{tokens_again}
use Rattle.script_print.proofs.Spelled.{statements}
use Rattle.script_print.proofs.Scripts.{script_again}

pub printed_tokens : (script : Statements) → is_script script ≡ true → lexemes_of (printed script) ≡ spell_statements script
printed_tokens script h = tokens_again (spell_statements script) (statements 0 script h)

pub text_again : (text : Bytes) (script : Statements) → is_script script ≡ true → lexemes_of text ≡ spell_statements script → script_read text ≡ Ok script
text_again text script h e = ap (λ ts. read_by text (spots_of text) (script_of ts)) e ∙ ap (read_by text (spots_of text)) (script_again script h)

pub printed_again : (script : Statements) → is_script script ≡ true → script_read (printed script) ≡ Ok script
printed_again script h = text_again (printed script) script h (printed_tokens script h)

-- what was added behind a text
pub added_again : (old new : Bytes) (script : Statements) → is_script script ≡ true → new ≡ old ++ printed script → script_read (drop (length old) new) ≡ Ok script
added_again old new script h e = ap (λ bs. script_read (drop (length old) bs)) e ∙ ap script_read (drop_at old (printed script) (length old) refl) ∙ printed_again script h

-- one spelling, one script
pub one_script : (a b : Statements) → is_script a ≡ true → is_script b ≡ true → spell_statements a ≡ spell_statements b → a ≡ b
one_script a b h k e =
    let both : Fine a ≡ Fine b = sym (script_again a h) ∙ ap script_of e ∙ script_again b k in
    cc

-- the text of a script whose tokens were laid out
pub printed_text : (text bytes : Bytes) (script : Statements) → Writes text script → bytes ≡ laid_out (lexemes_of text) → bytes ≡ printed script
printed_text text bytes script w e = e ∙ ap laid_out w.spelled
