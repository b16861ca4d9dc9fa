-- a fault of the values is another row with one of them
use Rattle.std.proofs.Common.{◌∙◌}
use Rattle.router_inputs.proofs.RowLemmas.{new_duplicate}
use Rattle.router_inputs.proofs.rows.is_new_duplicate.Goals as goal

pub returns : goal.returns
returns c =
    c.is_err.ensures.value
    ∙ new_duplicate c.args.stores.now.state c.profiles-profiles.result.now.tables c.profiles-profiles.result.now.rows c.profiles-profiles.result.now.kept c.args.table c.args.row.now c.args.values.now c.test_add.result
    c.profiles-profiles.ensures.rows c.profiles-profiles.ensures.tables c.requires.table c.requires.new c.requires.declared c.len-rows.ensures.kept c.test_add.ensures
