-- the row goes behind where all of the first part stand before it, and else into the first part
use Rattle.std.proofs.Common.{◌<◌, ◌++◌, length, sym, ap, subst, ◌∙◌, arith}
use Rattle.rows_sorted.specs.Orders.{put}
use Rattle.rows_sorted.specs.Keys.{Rises, key_before}
use Rattle.rows_leaves.proofs.SplitLemmas.{front_rises, back_rises, put_behind, put_ahead}
use Rattle.rows_leaves.proofs.splitting.put_in_two.Goals as goal

pub all_before-requires : goal.all_before-requires
all_before-requires g c = rw c.deref.ensures.value (front_rises g.R.Keyed.key c.move_last.new.rows.items c.move_last.new.behind.items (subst (Rises g.R.Keyed.key) (sym c.move_last.ensures.items) c.requires.rises))

pub put_row-requires-clause-rises : goal.put_row-requires-clause-rises
put_row-requires-clause-rises g c = back_rises g.R.Keyed.key c.move_last.new.rows.items c.move_last.new.behind.items (subst (Rises g.R.Keyed.key) (sym c.move_last.ensures.items) c.requires.rises)

pub put_row-requires-else-all_before-clause-rises : goal.put_row-requires-else-all_before-clause-rises
put_row-requires-else-all_before-clause-rises g c = front_rises g.R.Keyed.key c.move_last.new.rows.items c.move_last.new.behind.items (subst (Rises g.R.Keyed.key) (sym c.move_last.ensures.items) c.requires.rises)

pub returns-then-all_before-clause-items : goal.returns-then-all_before-clause-items
returns-then-all_before-clause-items g c =
    let low = rw c.deref.ensures.value at (c.all_before.ensures.before c.if-all_before.true) in
    ap (λ rows. c.move_last.new.rows.items ++ rows) c.put_row.ensures.items
    ∙ put_behind g.R.Keyed.key c.args.row c.move_last.new.rows.items c.move_last.new.behind.items low
    ∙ ap (put (λ x y. key_before (g.R.Keyed.key x) (g.R.Keyed.key y)) c.args.row) c.move_last.ensures.items

pub returns-else-all_before-clause-items : goal.returns-else-all_before-clause-items
returns-else-all_before-clause-items g c =
    let high = rw c.deref.ensures.value at (c.all_before.ensures.other c.if-all_before.false) in
    let some : 0 < length c.move_last.new.rows.items = omega (arith, c.move_last.ensures.left, c.requires.within, c.move_last.new.rows.ok.0) in
    ap (λ rows. rows ++ c.move_last.new.behind.items) c.put_row-else-all_before.ensures.items
    ∙ put_ahead g.R.Keyed.key c.args.row c.move_last.new.rows.items c.move_last.new.behind.items (subst (Rises g.R.Keyed.key) (sym c.move_last.ensures.items) c.requires.rises) some high
    ∙ ap (put (λ x y. key_before (g.R.Keyed.key x) (g.R.Keyed.key y)) c.args.row) c.move_last.ensures.items
