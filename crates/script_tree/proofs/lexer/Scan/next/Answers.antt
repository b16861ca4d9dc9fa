use Rattle.std.proofs.Common.{sym, ◌∙◌, arith}
use Rattle.script_tree.proofs.Lexing.{next_is}
use Rattle.script_tree.proofs.lexer.Scan.next.Goals.{then-is_bad, else-is_bad}
use Rattle.script_tree.proofs.lexer.Scan.next.Goals as goal

pub overflow_add-stop : goal.overflow_add-stop
overflow_add-stop c =
    let next = next_is _ _ _ _ _ c.as_bytes-bytes.ensures.value c.self.invariant c.gap_len.ensures c.if-start-bytes.false c.in_ok-lexeme.ensures.cut in
    omega (arith, next.within, c.as_bytes-bytes.ensures.len)

pub invariant_of-self : goal.invariant_of-self
invariant_of-self c =
    let next = next_is _ _ _ _ _ c.as_bytes-bytes.ensures.value c.self.invariant c.gap_len.ensures c.if-start-bytes.false c.in_ok-lexeme.ensures.cut in
    elim c.if-is_bad.branch [ then-is_bad w ↦ omega (arith, w.self-is, c.as_bytes-bytes.ensures.len) | else-is_bad w ↦ omega (arith, w.self-is, next.within) ]

pub returns-clause-next : goal.returns-clause-next
returns-clause-next c =
    let next = next_is _ _ _ _ _ c.as_bytes-bytes.ensures.value c.self.invariant c.gap_len.ensures c.if-start-bytes.false c.in_ok-lexeme.ensures.cut in
    sym c.self.view_is
    ∙ next.goes_on c.if-is_bad.self (elim c.if-is_bad.branch [ then-is_bad w ↦ grind (arith, w.self-is, w.if-is_bad.ensures, c.as_bytes-bytes.ensures.len) | else-is_bad w ↦ grind (arith, w.self-is, w.if-is_bad.ensures) ])
