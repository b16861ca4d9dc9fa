use Rattle.std.proofs.Common.{◌≡◌, true, false, drop, get_or, sym, ap, ◌∙◌, arith}
use Rattle.std.proofs.lemmas.Grind.{common_steps}
use Rattle.std.proofs.lemmas.Result.{IfOk-weaker}
use Rattle.std.proofs.lemmas.List.{drop-drop}
use Rattle.slee_value.specs.Name.{is_letter, is_byte_of_name}
use Rattle.script_tree.specs.Lexer.{cut, text_cut, quote_of}
use Rattle.script_tree.proofs.Lexing.{part, part_is, run_all, word_here, text_here, quote_boundary}
use Rattle.script_tree.proofs.lexer.token_at.Goals as goal

pub word-requires-clause-all : goal.word-requires-clause-all
word-requires-clause-all c = run_all is_byte_of_name (part c.as_bytes.result.now c.args.at) c.name_len.result c.name_len.ensures.value

pub returns-then-is_ascii_lowercase : goal.returns-then-is_ascii_lowercase
returns-then-is_ascii_lowercase c =
    let here = part c.as_bytes.result.now c.args.at in
    let letter : is_letter (get_or here 0 0) ≡ true = grind (arith, common_steps) in
    let same = word_here here c.name_len.result c.in-len1-up.len_at_least letter c.name_len.ensures.value ∙ ap cut (part_is c.as_bytes.result.now c.args.text.now c.args.at c.as_bytes.ensures.value) in
    record { cut = c.word.ensures ∙ same }

pub split_at-requires : goal.split_at-requires
split_at-requires c = quote_boundary c.as_bytes.result.now c.args.text.now c.args.at c.as_bytes.ensures.value c.utf8.text c.in-len1-up.len_at_least c.if-first-eq34.true

pub returns-then-first-eq34 : goal.returns-then-first-eq34
returns-then-first-eq34 c =
    let here = part c.as_bytes.result.now c.args.at in
    let is = part_is c.as_bytes.result.now c.args.text.now c.args.at c.as_bytes.ensures.value in
    let back = c.split_at.ensures.back ∙ sym (ap (drop 1) is ∙ drop-drop 1 c.args.at c.args.text.now) in
    let same = ap (λ bs. text_cut (quote_of false bs)) back ∙ text_here here c.in-len1-up.len_at_least c.if-first-eq34.true ∙ ap cut is in
    record { cut = IfOk-weaker c.quoted.result (λ x. x ≡ text_cut (quote_of false c.split_at.result.1.now)) (λ x. x ≡ cut (drop c.args.at c.args.text.now)) (λ x e. e ∙ same) c.quoted.ensures }
