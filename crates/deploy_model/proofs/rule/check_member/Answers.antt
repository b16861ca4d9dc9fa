use Rattle.deploy_model.proofs.rule.check_member.Goals as goal

pub returns-in-Err : goal.returns-in-Err
returns-in-Err g c = c.under.ensures _ c.in-Err.ensures
