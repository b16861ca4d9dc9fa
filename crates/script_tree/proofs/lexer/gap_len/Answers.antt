use Rattle.std.proofs.Common.{◌≤◌, ◌+◌, List, ℕ, length, drop, sym, ap, subst, ◌∙◌, arith}
use Rattle.std.specs.List.{prefix_len}
use Rattle.std.proofs.lemmas.List.{length-drop, take_rest}
use Rattle.script_tree.specs.Lexer.{is_in_line}
use Rattle.script_tree.proofs.Lexing.{passed_blank, passed_comment}
use Rattle.script_tree.proofs.lexer.gap_len.Goals as goal

pub gap-preserved-then-is_blank : goal.gap-preserved-then-is_blank
gap-preserved-then-is_blank c = record {
  within = omega arith;
  passed = passed_blank c.args.bytes.now c.gap.n c.gap-test.true (sym c.if-is_blank.ensures) c.gap.invariant.passed;
}

pub gap-preserved : goal.gap-preserved
gap-preserved c =
    let rest = take_rest c.args.bytes.now (c.gap.n + 1) in
    let within : c.line_len-n.result ≤ length (drop (c.gap.n + 1) c.args.bytes.now) = subst (λ (xs : List ℕ). c.line_len-n.result ≤ length xs) rest c.line_len-n.ensures.within in
    record {
      within = omega (arith, length-drop (c.gap.n + 1) c.args.bytes.now);
      passed = passed_comment c.args.bytes.now c.gap.n c.line_len-n.result c.gap-test.true c.if-bytes-n-eq35.true (c.line_len-n.ensures.value ∙ ap (prefix_len is_in_line) rest) c.gap.invariant.passed;
    }
