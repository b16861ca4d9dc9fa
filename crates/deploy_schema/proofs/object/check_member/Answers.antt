use Rattle.deploy_schema.proofs.object.check_member.Goals as goal

pub returns-in-Err : goal.returns-in-Err
returns-in-Err g c = c.under_step.ensures _ c.in-Err.ensures
