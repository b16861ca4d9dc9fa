use Rattle.script_laws.proofs.OwnEffects.{field_given, attribute_given, priority_given}
use Rattle.script_laws.proofs.own_effects.values_that_a_run_gave_are_read.Goals as goal

pub returns-clause-field : goal.returns-clause-field
returns-clause-field c = field_given

pub returns-clause-attribute : goal.returns-clause-attribute
returns-clause-attribute c = attribute_given

pub returns-clause-priority : goal.returns-clause-priority
returns-clause-priority c = priority_given
