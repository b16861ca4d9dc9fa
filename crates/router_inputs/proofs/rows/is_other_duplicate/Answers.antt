-- a fault of the values is another row with one of them
use Rattle.std.proofs.Common.{◌∙◌}
use Rattle.router_inputs.proofs.RowLemmas.{other_duplicate}
use Rattle.router_inputs.proofs.rows.is_other_duplicate.Goals as goal

pub returns : goal.returns
returns c =
    c.is_err.ensures.value
    ∙ other_duplicate c.args.stores.now.state c.profiles-profiles.result.now.tables c.profiles-profiles.result.now.rows c.profiles-profiles.result.now.kept c.args.table c.args.row.now c.args.values.now c.test_update.result
    c.profiles-profiles.ensures.rows c.profiles-profiles.ensures.tables c.requires.table c.requires.there c.requires.declared c.len-rows.ensures.kept c.test_update.ensures
