use Rattle.std.proofs.Common.{◌≡◌, ◌+◌, ◌∙◌, IfSome, subst, sym}
use Rattle.slee_disk.specs.Causes.{Rose}
use Rattle.slee_disk.specs.Taken.{ConsumesSome}
use Rattle.slee_run.specs.Answers.{IsDeployedFrom, IsRefusalBy}
use Rattle.slee_run.specs.Checking.{IsBarred, IsCheckedAt}
use Rattle.slee_run.specs.Given.{deploy_limit, refusal_of_deploy}
use Rattle.slee_run.specs.Opening.{IsEarly}
use Rattle.slee_run.specs.declared.reading.Deployed.{Deployed}
use Rattle.slee_run.specs.declared.status.Given.TheVariants as givens
use Rattle.slee_run.specs.declared.status.Status.TheVariants as statuses
use Rattle.slee_run.proofs.ReadLemmas.{generated_lines, if_err, if_ok, memory_barred, memory_early, memory_refusal, on_ok}
use Rattle.slee_run.proofs.generating.read_generated.Goals as goal

pub returns-in-Ok-clause-deployed : goal.returns-in-Ok-clause-deployed
returns-in-Ok-clause-deployed g c =
    if_ok (λ i. i.deployed ≡ c.in-Ok.deployed) (λ i. IsDeployedFrom (g.S.Source.left c.args.deploy.now) i.deployed) c.generated_for.result
    (λ i same. subst (λ (d : Deployed). IsDeployedFrom (g.S.Source.left c.args.deploy.now) d) (sym same) c.in-Ok.ensures.deployed) c.generated_for.ensures.deployed

pub returns-in-Ok-clause-lines : goal.returns-in-Ok-clause-lines
returns-in-Ok-clause-lines g c = generated_lines c.generated_for.result c.args.seeded.seed c.args.seeded.count c.in-Ok.deployed c.generated_for.ensures.deployed c.generated_for.ensures.lines

pub returns-in-Ok-clause-end : goal.returns-in-Ok-clause-end
returns-in-Ok-clause-end g c = on_ok c.generated_for.result c.in-Ok.ensures.end

pub returns-in-Ok-clause-refused : goal.returns-in-Ok-clause-refused
returns-in-Ok-clause-refused g c =
    if_err (λ s. s ≡ statuses.NoMemory) (λ s. IfSome (g.S.Source.left c.args.deploy.now) (λ bytes. IsRefusalBy (refusal_of_deploy bytes) s)) c.generated_for.result
    (memory_refusal (g.S.Source.left c.args.deploy.now)) c.generated_for.ensures.refused

pub returns-in-Ok-clause-barred : goal.returns-in-Ok-clause-barred
returns-in-Ok-clause-barred g c =
    if_err (λ s. s ≡ statuses.NoMemory) (λ s. IfSome (g.S.Source.left c.args.deploy.now) (λ bytes. IsBarred bytes s)) c.generated_for.result
    (memory_barred (g.S.Source.left c.args.deploy.now)) c.generated_for.ensures.refused

pub returns-in-Ok-clause-early : goal.returns-in-Ok-clause-early
returns-in-Ok-clause-early g c =
    if_err (λ s. s ≡ statuses.NoMemory) (λ s. IsEarly s × IsCheckedAt s) c.generated_for.result
    memory_early c.generated_for.ensures.refused

pub returns-in-Ok-clause-failed : goal.returns-in-Ok-clause-failed
returns-in-Ok-clause-failed g c =
    if_err (λ s. s ≡ statuses.NoMemory) (λ s. s ≡ statuses.ReadFault → Rose (g.S.Source.faults c.args.deploy.now) (g.S.Source.faults c.read_deployed.new.deploy)) c.generated_for.result
    (λ s is failed. let never : statuses.NoMemory ≡ statuses.ReadFault = sym is ∙ failed in absurd (cc)) c.generated_for.ensures.refused

pub returns-in-Ok-clause-large : goal.returns-in-Ok-clause-large
returns-in-Ok-clause-large g c =
    if_err (λ s. s ≡ statuses.NoMemory) (λ s. s ≡ statuses.TooLarge givens.Deploy → ConsumesSome (g.S.Source.left c.args.deploy.now) (g.S.Source.left c.read_deployed.new.deploy) (deploy_limit + 1)) c.generated_for.result
    (λ s is large. let never : statuses.NoMemory ≡ statuses.TooLarge givens.Deploy = sym is ∙ large in absurd (cc)) c.generated_for.ensures.refused

pub returns-in-Err-clause-refused : goal.returns-in-Err-clause-refused
returns-in-Err-clause-refused g c = c.in-Err.ensures.refused

pub returns-in-Err-clause-barred : goal.returns-in-Err-clause-barred
returns-in-Err-clause-barred g c = c.in-Err.ensures.barred

pub returns-in-Err-clause-early : goal.returns-in-Err-clause-early
returns-in-Err-clause-early g c = c.in-Err.ensures.early

pub returns-in-Err-clause-failed : goal.returns-in-Err-clause-failed
returns-in-Err-clause-failed g c = c.in-Err.ensures.failed

pub returns-in-Err-clause-large : goal.returns-in-Err-clause-large
returns-in-Err-clause-large g c = c.in-Err.ensures.large
