use Rattle.deploy_schema.proofs.map.check_one.Goals as goal

pub returns-in-Err : goal.returns-in-Err
returns-in-Err g c = c.under_name.ensures _ c.in-Err.ensures
