use Rattle.std.proofs.Common.{arith}
use Rattle.initial_select.proofs.Picking.{picks_if_ok}
use Rattle.initial_select.proofs.selector.Selector.pick.Goals as goal

pub returns : goal.returns
returns g c = picks_if_ok _ c.answer_of.result (c.args.self.now.by_rule c.args.input c.answer_of.result (λ i. omega (arith, c.type_inv.input i)) c.answer_of.ensures)
