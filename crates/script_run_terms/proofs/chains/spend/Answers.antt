use Rattle.std.proofs.lemmas.Result.{err_from_is_err_and}
use Rattle.script_run_machine.specs.Machines.{state_of}
use Rattle.script_run_terms.proofs.ChainLemmas.{spend_stops}
use Rattle.script_run_terms.proofs.chains.spend.Goals as goal

pub returns-in_err-tick-clause-agrees : goal.returns-in_err-tick-clause-agrees
returns-in_err-tick-clause-agrees c =
    let p = err_from_is_err_and c.from_residual.result c.from_residual.ensures.1 in
    rw (p.1, p.2) (spend_stops c.args.units c.units._unit (state_of c.args.machine.now) (state_of c.units.machine) c.tick.new.self c.in_err-tick.field-0.0 c.units-test.true c.units.invariant.0 c.in_err-tick.ensures.agrees)
