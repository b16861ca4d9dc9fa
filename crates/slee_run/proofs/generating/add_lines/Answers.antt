use Rattle.std.proofs.Common.{arith, append-nil, rules, sym}
use Rattle.slee_run.proofs.SpelledLemmas.{all_added, line_added}
use Rattle.slee_run.proofs.generating.add_lines.Goals as goal

pub loop-line-init : goal.loop-line-init
loop-line-init c = sym (append-nil c.args.text.now.items)

pub loop-line-preserved : goal.loop-line-preserved
loop-line-preserved c =
    line_added c.args.lines.now c.loop-line.line-index c.line-item.result c.args.text.now.items c.loop-line.text.items c.print_signal.new.into.items c.push.new.self.items c.loop-line-test.true c.line-item.is
    c.loop-line.invariant (search rules) (search rules)

pub returns : goal.returns
returns c = all_added c.args.lines.now c.loop-line.line-index c.args.text.now.items c.loop-line.text.items (omega (arith, c.loop-line-test.false)) c.loop-line.invariant
