-- the values that are given are the declared ones
use Rattle.std.proofs.Common.{◌≡◌, Some, ap}
use Rattle.deploy_model.specs.Deployed.{Deployed, table_attributes}
use Rattle.router_steps.specs.Values.{fields_given}
use Rattle.router_inputs.proofs.GivenLemmas.{given_are_declared}
use Rattle.router_inputs.proofs.rows.updating.Goals as goal

pub is_other_duplicate-requires-clause-declared : goal.is_other_duplicate-requires-clause-declared
is_other_duplicate-requires-clause-declared c =
    let found = c.in-Some.is in
    let given = c.in_ok-values.ensures.values in
    let same = ap (λ (d : Deployed). fields_given (table_attributes d c.args.table) c.args.words.now) c.requires.deployed in
    let is : fields_given (table_attributes c.args.stores.now.state.deployment c.args.table) c.args.words.now ≡ Some c.in-Some.values = cc in
    given_are_declared (table_attributes c.args.stores.now.state.deployment c.args.table) c.args.words.now c.in-Some.values is
