use Rattle.std.proofs.Common.{◌≡◌, ◌≤◌, ◌+◌, length, IfSome}
use Rattle.deploy_json.specs.Checking.{reading_of}
use Rattle.slee_disk.specs.Causes.{Rose}
use Rattle.slee_disk.specs.Taken.{ConsumesSome}
use Rattle.slee_run.specs.Answers.{IsDeployedBy, IsDeployedFrom, IsRefusalBy, IsRefusalFor}
use Rattle.slee_run.specs.Checking.{IsBarred, IsCheckedAt}
use Rattle.slee_run.specs.Given.{deploy_limit, refusal_of_deploy, unread}
use Rattle.slee_run.specs.Opening.{IsEarly}
use Rattle.slee_run.specs.declared.status.Given.TheVariants as givens
use Rattle.slee_run.specs.declared.status.Status.TheVariants as statuses
use Rattle.slee_run.proofs.ReadLemmas.{barred_told, barred_unread, checked_for, deployed_told, if_err, if_ok, quiet_for, told_deploy, told_unread, unread_checked}
use Rattle.slee_run.proofs.reading.read_deployed.Goals as goal

pub returns-in-Ok-clause-deployed : goal.returns-in-Ok-clause-deployed
returns-in-Ok-clause-deployed g c =
    if_ok (IsDeployedBy c.in-Ok.bytes) (IsDeployedFrom (g.S.Source.left c.args.deploy.now)) c.deployed_of.result
    (λ d by. deployed_told c.in-Ok.bytes (g.S.Source.left c.args.deploy.now) d c.in-Ok.ensures.read c.in-Ok.ensures.within by) c.deployed_of.ensures.deployed

pub returns-in-Ok-clause-refused : goal.returns-in-Ok-clause-refused
returns-in-Ok-clause-refused g c =
    if_err (IsRefusalFor (unread (reading_of c.in-Ok.bytes))) (λ s. IfSome (g.S.Source.left c.args.deploy.now) (λ bytes. IsRefusalBy (refusal_of_deploy bytes) s)) c.deployed_of.result
    (λ s refused. told_deploy (g.S.Source.left c.args.deploy.now) c.in-Ok.bytes s c.in-Ok.ensures.read c.in-Ok.ensures.within refused) c.deployed_of.ensures.refused

pub returns-in-Ok-clause-barred : goal.returns-in-Ok-clause-barred
returns-in-Ok-clause-barred g c =
    if_err (λ s. length c.in-Ok.bytes ≤ deploy_limit → IsBarred c.in-Ok.bytes s) (λ s. IfSome (g.S.Source.left c.args.deploy.now) (λ bytes. IsBarred bytes s)) c.deployed_of.result
    (λ s barred. barred_told (g.S.Source.left c.args.deploy.now) c.in-Ok.bytes s c.in-Ok.ensures.read (barred c.in-Ok.ensures.within)) c.deployed_of.ensures.barred

pub returns-in-Ok-clause-early : goal.returns-in-Ok-clause-early
returns-in-Ok-clause-early g c =
    if_err (IsRefusalFor (unread (reading_of c.in-Ok.bytes))) (λ s. IsEarly s × IsCheckedAt s) c.deployed_of.result (λ s refused. checked_for (reading_of c.in-Ok.bytes) s refused) c.deployed_of.ensures.refused

pub returns-in-Ok-clause-failed : goal.returns-in-Ok-clause-failed
returns-in-Ok-clause-failed g c =
    if_err (IsRefusalFor (unread (reading_of c.in-Ok.bytes))) (λ s. s ≡ statuses.ReadFault → Rose (g.S.Source.faults c.args.deploy.now) (g.S.Source.faults c.read_source.new.source)) c.deployed_of.result
    (λ s refused is. absurd ((quiet_for (reading_of c.in-Ok.bytes) s refused).read is)) c.deployed_of.ensures.refused

pub returns-in-Ok-clause-large : goal.returns-in-Ok-clause-large
returns-in-Ok-clause-large g c =
    if_err (IsRefusalFor (unread (reading_of c.in-Ok.bytes)))
    (λ s. s ≡ statuses.TooLarge givens.Deploy → ConsumesSome (g.S.Source.left c.args.deploy.now) (g.S.Source.left c.read_source.new.source) (deploy_limit + 1)) c.deployed_of.result
    (λ s refused is. absurd ((quiet_for (reading_of c.in-Ok.bytes) s refused).large givens.Deploy is)) c.deployed_of.ensures.refused

pub returns-in-Err-clause-refused : goal.returns-in-Err-clause-refused
returns-in-Err-clause-refused g c = told_unread (g.S.Source.left c.args.deploy.now) c.in-Err.stood c.in-Err.ensures.unread c.in-Err.ensures.above

pub returns-in-Err-clause-barred : goal.returns-in-Err-clause-barred
returns-in-Err-clause-barred g c = barred_unread (g.S.Source.left c.args.deploy.now) c.in-Err.stood c.in-Err.ensures.unread c.in-Err.ensures.above

pub returns-in-Err-clause-early : goal.returns-in-Err-clause-early
returns-in-Err-clause-early g c = unread_checked c.in-Err.stood c.in-Err.ensures.unread
