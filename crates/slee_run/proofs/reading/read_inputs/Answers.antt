use Rattle.std.proofs.Common.{◌≡◌, ◌≢◌, ◌⊎◌, inl, inr, ◌+◌, IfSome}
use Rattle.slee_disk.specs.Causes.{Rose}
use Rattle.slee_disk.specs.Taken.{ConsumesSome}
use Rattle.slee_run.specs.Answers.{AreInputs, AreInputsFrom, IsDeployedBy, IsRefusalBy}
use Rattle.slee_run.specs.Given.{deploy_limit, refusal_of}
use Rattle.slee_run.specs.declared.status.Given.TheVariants as givens
use Rattle.slee_run.specs.declared.status.Status.TheVariants as statuses
use Rattle.slee_run.proofs.ReadLemmas.{deploy_not_signals, if_err, if_ok, inputs_from, told_both, told_unread_both, unread_quiet}
use Rattle.slee_run.proofs.reading.read_inputs.Goals as goal

pub returns-in-Ok-clause-inputs : goal.returns-in-Ok-clause-inputs
returns-in-Ok-clause-inputs g c =
    if_ok (λ i. IsDeployedBy c.in-Ok.document i.deployed × IfSome (g.T.Source.left c.args.signals.now) (λ bytes. AreInputs c.in-Ok.document bytes i))
    (AreInputsFrom (g.S.Source.left c.args.deploy.now) (g.T.Source.left c.args.signals.now)) c.read_behind.result
    (λ i both. inputs_from c.in-Ok.document (g.S.Source.left c.args.deploy.now) (g.T.Source.left c.args.signals.now) i c.in-Ok.ensures.read c.in-Ok.ensures.within both.0 both.1) c.read_behind.ensures.inputs

pub returns-in-Ok-clause-refused : goal.returns-in-Ok-clause-refused
returns-in-Ok-clause-refused g c =
    if_err (λ s. IfSome (g.T.Source.left c.args.signals.now) (λ bytes. IsRefusalBy (refusal_of c.in-Ok.document bytes) s))
    (λ s. IfSome (g.S.Source.left c.args.deploy.now) (λ d. IfSome (g.T.Source.left c.args.signals.now) (λ bytes. IsRefusalBy (refusal_of d bytes) s))) c.read_behind.result
    (λ s refused. told_both c.in-Ok.document (g.S.Source.left c.args.deploy.now) (g.T.Source.left c.args.signals.now) s c.in-Ok.ensures.read refused) c.read_behind.ensures.refused

pub returns-in-Ok-clause-failed : goal.returns-in-Ok-clause-failed
returns-in-Ok-clause-failed g c =
    if_err (λ s. s ≡ statuses.ReadFault → Rose (g.T.Source.faults c.args.signals.now) (g.T.Source.faults c.read_behind.new.signals))
    (λ s. s ≡ statuses.ReadFault → Rose (g.S.Source.faults c.args.deploy.now) (g.S.Source.faults c.read_source.new.source) ⊎ Rose (g.T.Source.faults c.args.signals.now) (g.T.Source.faults c.read_behind.new.signals)) c.read_behind.result
    (λ s rose is. inr (rose is)) c.read_behind.ensures.failed

pub returns-in-Ok-clause-deploy_large : goal.returns-in-Ok-clause-deploy_large
returns-in-Ok-clause-deploy_large g c =
    if_err (λ s. s ≢ statuses.TooLarge givens.Deploy)
    (λ s. s ≡ statuses.TooLarge givens.Deploy → ConsumesSome (g.S.Source.left c.args.deploy.now) (g.S.Source.left c.read_source.new.source) (deploy_limit + 1)) c.read_behind.result
    (λ s never is. absurd (never is)) c.read_behind.ensures.deploy_within

pub returns-in-Err-clause-refused : goal.returns-in-Err-clause-refused
returns-in-Err-clause-refused g c = told_unread_both (g.S.Source.left c.args.deploy.now) (g.T.Source.left c.args.signals.now) c.in-Err.stood c.in-Err.ensures.unread c.in-Err.ensures.above

pub returns-in-Err-clause-early : goal.returns-in-Err-clause-early
returns-in-Err-clause-early g c = unread_quiet givens.Deploy c.in-Err.stood c.in-Err.ensures.unread

pub returns-in-Err-clause-failed : goal.returns-in-Err-clause-failed
returns-in-Err-clause-failed g c = λ is. inl (c.in-Err.ensures.failed is)

pub returns-in-Err-clause-large : goal.returns-in-Err-clause-large
returns-in-Err-clause-large g c = λ is. absurd (deploy_not_signals c.in-Err.stood c.in-Err.ensures.unread is)
