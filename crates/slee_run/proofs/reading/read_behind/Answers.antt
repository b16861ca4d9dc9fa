use Rattle.std.proofs.Common.{◌≡◌, ◌≢◌, ◌+◌, IfErr, IfOk, IfSome, List, subst, ℕ}
use Rattle.slee_disk.specs.Causes.{Rose}
use Rattle.slee_disk.specs.Taken.{ConsumesSome}
use Rattle.slee_run.specs.Answers.{AreInputs, IsDeployedBy, IsRefusalBy, IsRefusalFor}
use Rattle.slee_run.specs.Given.{refusal_of, signals_limit}
use Rattle.slee_run.specs.Opening.{IsEarly}
use Rattle.slee_run.specs.declared.status.Given.TheVariants as givens
use Rattle.slee_run.specs.declared.status.Status.TheVariants as statuses
use Rattle.slee_run.proofs.ReadLemmas.{if_err, if_ok, inputs_told, quiet_both, signals_not_deploy, told_lines, told_unread_lines, unread_quiet}
use Rattle.slee_run.proofs.reading.read_behind.Goals as goal

pub returns-in-Ok-clause-inputs : goal.returns-in-Ok-clause-inputs
returns-in-Ok-clause-inputs g c =
    if_ok (λ i. IsDeployedBy c.args.document i.deployed × AreInputs c.args.document c.in-Ok.text i)
    (λ i. IsDeployedBy c.args.document i.deployed × IfSome (g.T.Source.left c.args.signals.now) (λ bytes. AreInputs c.args.document bytes i)) c.inputs_of.result
    (λ i both. (both.0, inputs_told c.args.document c.in-Ok.text (g.T.Source.left c.args.signals.now) i c.in-Ok.ensures.read both.1)) (subst (λ (b : List ℕ). IfOk c.inputs_of.result (λ i. IsDeployedBy c.args.document i.deployed × AreInputs c.args.document b i)) c.as_slice.ensures c.inputs_of.ensures.inputs)

pub returns-in-Ok-clause-refused : goal.returns-in-Ok-clause-refused
returns-in-Ok-clause-refused g c =
    if_err (IsRefusalFor (refusal_of c.args.document c.in-Ok.text)) (λ s. IfSome (g.T.Source.left c.args.signals.now) (λ bytes. IsRefusalBy (refusal_of c.args.document bytes) s)) c.inputs_of.result
    (λ s refused. told_lines c.args.document c.in-Ok.text (g.T.Source.left c.args.signals.now) s c.in-Ok.ensures.read refused) (subst (λ (b : List ℕ). IfErr c.inputs_of.result (IsRefusalFor (refusal_of c.args.document b))) c.as_slice.ensures c.inputs_of.ensures.refused)

pub returns-in-Ok-clause-early : goal.returns-in-Ok-clause-early
returns-in-Ok-clause-early g c =
    if_err (IsRefusalFor (refusal_of c.args.document c.in-Ok.text)) (λ s. IsEarly s × (s ≢ statuses.BadWords)) c.inputs_of.result
    (λ s refused. let q = quiet_both c.args.document c.in-Ok.text s c.requires c.in-Ok.ensures.within refused in (q.early, q.words)) (subst (λ (b : List ℕ). IfErr c.inputs_of.result (IsRefusalFor (refusal_of c.args.document b))) c.as_slice.ensures c.inputs_of.ensures.refused)

pub returns-in-Ok-clause-failed : goal.returns-in-Ok-clause-failed
returns-in-Ok-clause-failed g c =
    if_err (IsRefusalFor (refusal_of c.args.document c.in-Ok.text)) (λ s. s ≡ statuses.ReadFault → Rose (g.T.Source.faults c.args.signals.now) (g.T.Source.faults c.read_source.new.source)) c.inputs_of.result
    (λ s refused is. absurd ((quiet_both c.args.document c.in-Ok.text s c.requires c.in-Ok.ensures.within refused).read is)) (subst (λ (b : List ℕ). IfErr c.inputs_of.result (IsRefusalFor (refusal_of c.args.document b))) c.as_slice.ensures c.inputs_of.ensures.refused)

pub returns-in-Ok-clause-large : goal.returns-in-Ok-clause-large
returns-in-Ok-clause-large g c =
    if_err (IsRefusalFor (refusal_of c.args.document c.in-Ok.text))
    (λ s. s ≡ statuses.TooLarge givens.Signals → ConsumesSome (g.T.Source.left c.args.signals.now) (g.T.Source.left c.read_source.new.source) (signals_limit + 1)) c.inputs_of.result
    (λ s refused is. absurd ((quiet_both c.args.document c.in-Ok.text s c.requires c.in-Ok.ensures.within refused).large givens.Signals is)) (subst (λ (b : List ℕ). IfErr c.inputs_of.result (IsRefusalFor (refusal_of c.args.document b))) c.as_slice.ensures c.inputs_of.ensures.refused)

pub returns-in-Ok-clause-deploy_within : goal.returns-in-Ok-clause-deploy_within
returns-in-Ok-clause-deploy_within g c =
    if_err (IsRefusalFor (refusal_of c.args.document c.in-Ok.text)) (λ s. s ≢ statuses.TooLarge givens.Deploy) c.inputs_of.result
    (λ s refused. (quiet_both c.args.document c.in-Ok.text s c.requires c.in-Ok.ensures.within refused).large givens.Deploy) (subst (λ (b : List ℕ). IfErr c.inputs_of.result (IsRefusalFor (refusal_of c.args.document b))) c.as_slice.ensures c.inputs_of.ensures.refused)

pub returns-in-Err-clause-refused : goal.returns-in-Err-clause-refused
returns-in-Err-clause-refused g c = told_unread_lines c.args.document (g.T.Source.left c.args.signals.now) c.in-Err.stood c.requires c.in-Err.ensures.unread c.in-Err.ensures.above

pub returns-in-Err-clause-early : goal.returns-in-Err-clause-early
returns-in-Err-clause-early g c = unread_quiet givens.Signals c.in-Err.stood c.in-Err.ensures.unread

pub returns-in-Err-clause-deploy_within : goal.returns-in-Err-clause-deploy_within
returns-in-Err-clause-deploy_within g c = signals_not_deploy c.in-Err.stood c.in-Err.ensures.unread
