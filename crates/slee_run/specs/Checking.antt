-- What a check of a deployment comes to.
use Rattle.std.specs.Prelude.{◌≡◌, ◌≢◌, ◌⊎◌, ℕ, ◌<◌, ◌≤◌, List, [], length, Option, IfSome, Ok, Err}
use Rattle.trace_history.specs.declared.entry.Entry.{Entry}
use Rattle.deploy_json.specs.declared.fault.ReadFault.{ReadFault}
use Rattle.deploy_json.specs.declared.fault.ReadFault.TheVariants as faults
use Rattle.deploy_report.specs.declared.counts.Counts.{Counts}
use Rattle.deploy_report.specs.Counting.{counts_in}
use Rattle.slee_run.specs.Given.{deploy_limit, IsDeployment}
use Rattle.slee_run.specs.Status.{row_of, status_line, Holds}
use Rattle.slee_run.specs.Text.{checked_text, generated_text}
use Rattle.deploy_model.specs.Resolving.{deployed_of}
use Rattle.slee_descriptor.specs.declared.deployment.Deployment.{Deployment}
use Rattle.slee_run.specs.declared.status.Given.TheVariants as givens
use Rattle.slee_run.specs.declared.status.Status.{Status}
use Rattle.slee_run.specs.declared.status.Status.TheVariants as statuses

-- the bytes are within the limit, and a deployment with these counts
pub record IsCounted (bytes : List ℕ) (counts : Counts) : Type 0 where
  pub within : length bytes ≤ deploy_limit
  pub counted : counts_in bytes ≡ Ok counts

-- the bytes are within the limit, and this is the first thing that is wrong with them as a deployment
pub record IsFaulty (bytes : List ℕ) (fault : ReadFault) : Type 0 where
  pub within : length bytes ≤ deploy_limit
  pub first : counts_in bytes ≡ Err fault
  pub known : fault ≢ faults.NoMemory

-- When a check of bytes comes to a status other than Ok. At the others reading failed, or memory ran out.
abbrev pub IsBarred : List ℕ → Status → Type 0
IsBarred bytes (statuses.BadDeploy fault) = IsFaulty bytes fault
IsBarred bytes (statuses.TooLarge what) = deploy_limit < length bytes
IsBarred bytes status = Unit {0}

-- what is written, by the bytes that a source told: their counts and the line of Ok, and at every other status its line alone
abbrev pub IsTextFor : Option (List ℕ) → List ℕ → Status → Type 0
IsTextFor told text statuses.Ok = (counts : Counts) × (text ≡ checked_text counts) × IfSome told (λ bytes. IsCounted bytes counts)
IsTextFor told text status = (text ≡ status_line status) × IfSome told (λ bytes. IsBarred bytes status)

-- a status that a check may come to
abbrev pub IsCheckedAt : Status → Type 0
IsCheckedAt status = Holds (row_of status).checked

-- a check, from a source that told that these bytes were left
pub record IsCheck (told : Option (List ℕ)) (history : List Entry) (text : List ℕ) (status : Status) : Type 0 where
  pub comes : IsCheckedAt status
  pub none : history ≡ []
  pub prints : IsTextFor told text status

-- the only answers that a check without a fault gives to bytes, but for want of memory
pub record IsAnswerFor (bytes : List ℕ) (status : Status) : Type 0 where
  pub good : (counts : Counts) → IsCounted bytes counts → (status ≡ statuses.Ok) ⊎ (status ≡ statuses.NoMemory)
  pub bad : (fault : ReadFault) → IsFaulty bytes fault → (status ≡ statuses.BadDeploy fault) ⊎ (status ≡ statuses.NoMemory)
  pub large : deploy_limit < length bytes → (status ≡ statuses.TooLarge givens.Deploy) ⊎ (status ≡ statuses.NoMemory)

-- what is written of generated lines, by the bytes of the deployment that a source told: at Ok the lines alone, and at every other
-- status its line alone
abbrev pub IsLinesFor : ℕ → ℕ → Option (List ℕ) → List ℕ → Status → Type 0
IsLinesFor seed count told text statuses.Ok =
    (d : Deployment) × (text ≡ generated_text seed count (deployed_of d.parts)) × IfSome told (λ bytes. IsDeployment bytes d)
IsLinesFor seed count told text status = (text ≡ status_line status) × IfSome told (λ bytes. IsBarred bytes status)

-- lines that were generated for the deployment of a source that told that these bytes were left
pub record IsGenerated (seed count : ℕ) (told : Option (List ℕ)) (history : List Entry) (text : List ℕ) (status : Status) : Type 0 where
  pub comes : IsCheckedAt status
  pub none : history ≡ []
  pub prints : IsLinesFor seed count told text status
