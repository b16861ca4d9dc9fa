use Rattle.router_laws_histories.proofs.InputLemmas.{inputs_go_on, replayed_inputs}
use Rattle.router_laws_histories.proofs.restarts.restarts_take_each_line_once.Goals as goal

pub returns-clause-counted : goal.returns-clause-counted
returns-clause-counted c = replayed_inputs

pub returns-clause-once : goal.returns-clause-once
returns-clause-once c = inputs_go_on
