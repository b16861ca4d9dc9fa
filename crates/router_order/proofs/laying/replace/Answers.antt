-- the rows of the activity go, and others are laid in their place
use Rattle.std.proofs.Common.{◌∙◌, arith}
use Rattle.router_order.proofs.RunLemmas.{cut_length, cut_other, cut_own}
use Rattle.router_order.proofs.laying.replace.Goals as goal

pub lay-requires-clause-none : goal.lay-requires-clause-none
lay-requires-clause-none c = cut_own c.args.activity.0 c.args.rows.now.rows c.cut_rows_of.new.self.rows c.cut_rows_of.ensures.rows

pub lay-requires-clause-room : goal.lay-requires-clause-room
lay-requires-clause-room c =
    let length = cut_length c.args.activity.0 c.args.rows.now.rows c.cut_rows_of.new.self.rows c.cut_rows_of.ensures.rows in
    omega (arith, c.requires.room, c.cut_rows_of.ensures.whole, length)

pub returns-clause-others : goal.returns-clause-others
returns-clause-others c = λ b apart.
    c.lay.ensures.others b apart ∙ cut_other c.args.activity.0 c.args.rows.now.rows c.cut_rows_of.new.self.rows c.cut_rows_of.ensures.rows b apart

pub returns-clause-room : goal.returns-clause-room
returns-clause-room c =
    let length = cut_length c.args.activity.0 c.args.rows.now.rows c.cut_rows_of.new.self.rows c.cut_rows_of.ensures.rows in
    omega (arith, c.lay.ensures.room, c.cut_rows_of.ensures.whole, length)
