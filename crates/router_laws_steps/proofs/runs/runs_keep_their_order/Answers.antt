use Rattle.router_laws_steps.proofs.RunLemmas.{run_in_order, run_once, run_waits}
use Rattle.router_laws_steps.proofs.runs.runs_keep_their_order.Goals as goal

pub returns-clause-order : goal.returns-clause-order
returns-clause-order c = run_in_order

pub returns-clause-once : goal.returns-clause-once
returns-clause-once c = run_once

pub returns-clause-suspended : goal.returns-clause-suspended
returns-clause-suspended c = run_waits
