use Rattle.script_laws.proofs.OwnEffects.{name_bound, name_free, timer_set, timer_gone}
use Rattle.script_laws.proofs.own_effects.names_and_timers_of_a_run_are_read.Goals as goal

pub returns-clause-bound : goal.returns-clause-bound
returns-clause-bound c = name_bound

pub returns-clause-free : goal.returns-clause-free
returns-clause-free c = name_free

pub returns-clause-set : goal.returns-clause-set
returns-clause-set c = timer_set

pub returns-clause-cancelled : goal.returns-clause-cancelled
returns-clause-cancelled c = timer_gone
