use Rattle.script_laws.proofs.OwnEffects.{new_activity, activity_ends, attachment_made, attachment_gone}
use Rattle.script_laws.proofs.own_effects.activities_of_a_run_are_read.Goals as goal

pub returns-clause-made : goal.returns-clause-made
returns-clause-made c = new_activity

pub returns-clause-ended : goal.returns-clause-ended
returns-clause-ended c = activity_ends

pub returns-clause-attached : goal.returns-clause-attached
returns-clause-attached c = attachment_made

pub returns-clause-detached : goal.returns-clause-detached
returns-clause-detached c = attachment_gone
