-- the row at the place is what the call left of it
use Rattle.std.proofs.Common.{refl, arith}
use Rattle.std.specs.Fn.{FnOnceReturnsAtMut}
use Rattle.std.proofs.lemmas.Option.{slice_get_read}
use Rattle.rows_leaves.proofs.changing.change_item.Goals as goal

pub returns-clause-items : goal.returns-clause-items
returns-clause-items g c =
    let old = c.index_mut.result.now in
    let new = c.change.new.arg2 in
    let gave : FnOnceReturnsAtMut g.F.FnOnce c.args.change old tt new = record { shown = _; shows = refl; left = _; met = c.change.ensures; leaves = refl } in
    let read = slice_get_read c.args.rows.now.items _ c.args.place old refl (omega (arith, c.requires.within, c.args.rows.now.ok.0)) c.index_mut.ensures.value in
    (old, new, read, gave, refl)
