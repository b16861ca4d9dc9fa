-- a declared field is left over
use Rattle.std.proofs.Common.{rules, ◌≤◌, length}
use Rattle.snapshot_check_rows.proofs.FitLemmas.{left_over}
use Rattle.snapshot_check_rows.proofs.fits.are_declared.Goals as goal

pub returns-in-len1-up : goal.returns-in-len1-up
returns-in-len1-up g c =
    let past : length c.args.fields.now ≤ c.fields.field-index = search rules in
    left_over g.T.NamedValue.pair _ _ _ _ c.in-len1-up.len_at_least past c.fields.invariant.same
