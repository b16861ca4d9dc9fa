-- What a check of a deployment comes to.
use Rattle.std.proofs.Common.{◌≡◌, ◌≢◌, ℕ, ◌<◌, ◌≤◌, List, length, refl, Option, Some, None, IfSome}
use Rattle.slee_disk.specs.declared.reading.ReadFault.{ReadFault}
use Rattle.slee_disk.specs.declared.reading.ReadFault.TheVariants as read_faults
use Rattle.deploy_json.specs.Reading.{Tells}
use Rattle.deploy_json.specs.declared.fault.ReadFault.{ReadFault as DeployFault}
use Rattle.deploy_json.specs.declared.fault.ReadFault.TheVariants as faults
use Rattle.deploy_report.specs.declared.counts.Counts.{Counts}
use Rattle.deploy_report.specs.Counting.{counts_in}
use Rattle.slee_run.specs.Status.{status_line}
use Rattle.slee_run.specs.Text.{checked_text}
use Rattle.slee_run.specs.Checking.{IsCounted, IsBarred, IsTextFor, IsCheckedAt}
use Rattle.slee_run.specs.Given.{deploy_limit}
use Rattle.slee_run.specs.Headline.{IsWritten}
use Rattle.slee_run.specs.Opening.{IsEarly}
use Rattle.slee_run.specs.Answers.{IsCheckedBy, status_of_reading, status_of_fault}
use Rattle.slee_run.specs.declared.status.Given.TheVariants as givens
use Rattle.slee_run.specs.declared.status.Status.{Status}
use Rattle.slee_run.specs.declared.status.Status.TheVariants as statuses

-- ---- a source that couldn't be read whole

pub reading_barred : (told : Option (List ℕ)) (fault : ReadFault) → (fault ≡ read_faults.TooLarge → IfSome told (λ bytes. deploy_limit < length bytes))
    → IfSome told (λ bytes. IsBarred bytes (status_of_reading fault givens.Deploy))
reading_barred None fault large = tt
reading_barred (Some bytes) read_faults.Failed large = tt
reading_barred (Some bytes) read_faults.TooLarge large = large refl
reading_barred (Some bytes) read_faults.NoMemory large = tt

pub reading_checked : (fault : ReadFault) → IsCheckedAt (status_of_reading fault givens.Deploy)
reading_checked read_faults.Failed = tt
reading_checked read_faults.TooLarge = tt
reading_checked read_faults.NoMemory = tt

-- ---- bytes that are no deployment

pub fault_barred : (bytes : List ℕ) (fault : DeployFault) → length bytes ≤ deploy_limit → Tells (counts_in bytes) fault → IsBarred bytes (status_of_fault fault)
fault_barred bytes faults.Json within tells = record { within = within; first = tells; known = λ is. cc }
fault_barred bytes (faults.Shape pointer kind) within tells = record { within = within; first = tells; known = λ is. cc }
fault_barred bytes (faults.Syntax pointer line column kind) within tells = record { within = within; first = tells; known = λ is. cc }
fault_barred bytes (faults.Check pointer line column kind) within tells = record { within = within; first = tells; known = λ is. cc }
fault_barred bytes faults.NoMemory within tells = tt

pub fault_early : (fault : DeployFault) → IsEarly (status_of_fault fault)
fault_early faults.Json = tt
fault_early (faults.Shape pointer kind) = tt
fault_early (faults.Syntax pointer line column kind) = tt
fault_early (faults.Check pointer line column kind) = tt
fault_early faults.NoMemory = tt

pub fault_checked : (fault : DeployFault) → IsCheckedAt (status_of_fault fault)
fault_checked faults.Json = tt
fault_checked (faults.Shape pointer kind) = tt
fault_checked (faults.Syntax pointer line column kind) = tt
fault_checked (faults.Check pointer line column kind) = tt
fault_checked faults.NoMemory = tt

pub fault_quiet : (fault : DeployFault) → (status_of_fault fault ≢ statuses.ReadFault) × (status_of_fault fault ≢ statuses.TooLarge givens.Deploy)
fault_quiet faults.Json = ((λ is. cc), (λ is. cc))
fault_quiet (faults.Shape pointer kind) = ((λ is. cc), (λ is. cc))
fault_quiet (faults.Syntax pointer line column kind) = ((λ is. cc), (λ is. cc))
fault_quiet (faults.Check pointer line column kind) = ((λ is. cc), (λ is. cc))
fault_quiet faults.NoMemory = ((λ is. cc), (λ is. cc))

-- ---- what is written

line_alone : (told : Option (List ℕ)) (stood : Status) → IsEarly stood → IfSome told (λ bytes. IsBarred bytes stood) → IsTextFor told (status_line stood) stood
line_alone told statuses.Ok early barred = absurd early
line_alone told stood early barred = (refl, barred)

pub refused_check : (told before after : Option (List ℕ)) (stood status : Status) → IsEarly stood → IsCheckedAt stood → IfSome told (λ bytes. IsBarred bytes stood)
    → IsWritten before after (status_line stood) stood status → IsCheckedBy told before after status
refused_check told before after stood status early comes barred out = record {
  text = status_line stood;
  stood = stood;
  check = record { comes = comes; none = refl; prints = line_alone told stood early barred };
  output = out;
}

pub counted_check : (told before after : Option (List ℕ)) (counts : Counts) (status : Status) → IfSome told (λ bytes. IsCounted bytes counts)
    → IsWritten before after (checked_text counts) statuses.Ok status → IsCheckedBy told before after status
counted_check told before after counts status counted out = record {
  text = checked_text counts;
  stood = statuses.Ok;
  check = record { comes = tt; none = refl; prints = (counts, refl, counted) };
  output = out;
}
