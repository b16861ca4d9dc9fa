-- the attachment is cut and stands in the same place again
use Rattle.std.proofs.Common.{ap, arith, ◌∙◌}
use Rattle.std.specs.Prelude.{nat_lt, true, ◌≡◌}
use Rattle.std.proofs.lemmas.Bool.Decides.{nat_tests}
use Rattle.rows_sorted.specs.Orders.{put}
use Rattle.rows_sorted.proofs.OrderLemmas.{in_order}
use Rattle.entity_tree.proofs.ListLemmas.{or_right}
use Rattle.router_order.specs.Placed.{attachments, placed_key}
use Rattle.router_order.proofs.RunLemmas.{placed_before}
use Rattle.router_order.proofs.SpreadLemmas.{any_at, is_own, moved, own_itself, same_length, stays_listed}
use Rattle.router_order.proofs.spreading.set_rank.Goals as goal

pub put_row-requires : goal.put_row-requires
put_row-requires c =
    let row = c.at-row.result.now in
    let more = c.cut_row.ensures.gives (any_at (is_own row c.args.rank) c.args.place row c.args.rows.now.rows c.at-row.ensures (own_itself row c.args.rank)) in
    let some : nat_lt 0 c.cut_row.new.self.room ≡ true = grind (arith, nat_tests, more) in
    or_right _ _ some

pub returns-then-is_ahead-clause-rows : goal.returns-then-is_ahead-clause-rows
returns-then-is_ahead-clause-rows c =
    let row = c.at-row.result.now in
    let rows = c.args.rows.now.rows in
    ap attachments (c.put_row.ensures.rows ∙ ap (put placed_before (moved row c.args.rank)) c.cut_row.ensures.rows)
    ∙ stays_listed row c.args.rank c.args.place rows (in_order placed_key rows c.rises.ensures) c.at-row.ensures (c.is_behind.ensures c.if-is_behind.true) (c.is_ahead.ensures c.if-is_ahead.true)

pub returns-then-is_ahead-clause-room : goal.returns-then-is_ahead-clause-room
returns-then-is_ahead-clause-room c =
    let row = c.at-row.result.now in
    let rows = c.args.rows.now.rows in
    let same =
    ap attachments (c.put_row.ensures.rows ∙ ap (put placed_before (moved row c.args.rank)) c.cut_row.ensures.rows)
    ∙ stays_listed row c.args.rank c.args.place rows (in_order placed_key rows c.rises.ensures) c.at-row.ensures (c.is_behind.ensures c.if-is_behind.true) (c.is_ahead.ensures c.if-is_ahead.true) in
    let long = same_length c.put_row.new.self.rows rows same in
    omega (arith, long, c.cut_row.ensures.whole, c.put_row.ensures.whole)
