-- What reading comes to: a deployment and lines, or the first refusal.
use Rattle.std.proofs.Common.{◌≡◌, ◌≢◌, inl, inr, ℕ, ◌<◌, ◌≤◌, nat_le, false, List, length, refl, sym, ◌∙◌, ap, subst, Option, Some, None, Result, Ok, Err, IfOk, IfErr, IfSome, OnOk, arith}
use Rattle.std.proofs.lemmas.Bool.{cases_Bool, le-leb, leb-true}
use Rattle.deploy_model.specs.Resolving.{deployed_of}
use Rattle.signal_gen.specs.Generator.{generated}
use Rattle.signal_script.specs.Answers.{IsFaultOfText}
use Rattle.signal_script.specs.Signals.{signals_of}
use Rattle.signal_script.specs.declared.fault.SignalFault.{SignalFault}
use Rattle.signal_script.specs.declared.fault.SignalFault.TheVariants as line_faults
use Rattle.signal_script.specs.declared.signal.Signal.{Signal}
use Rattle.slee_disk.specs.declared.reading.ReadFault.{ReadFault}
use Rattle.slee_disk.specs.declared.reading.ReadFault.TheVariants as read_faults
use Rattle.deploy_json.specs.Checking.{Reading, reading_of, read_as}
use Rattle.deploy_json.specs.Reading.{Tells}
use Rattle.deploy_json.specs.declared.fault.ReadFault.{ReadFault as DeployFault}
use Rattle.deploy_json.specs.declared.fault.ReadFault.TheVariants as deploy_faults
use Rattle.slee_run.specs.Answers.{AreInputs, AreInputsFrom, IsDeployedBy, IsDeployedFrom, IsRefusalBy, IsRefusalFor, IsUnreadAs, status_of_fault, status_of_lines, status_of_reading}
use Rattle.deploy_report.specs.Counting.{counts_in, counts_read}
use Rattle.slee_descriptor.specs.declared.deployment.Deployment.{Deployment}
use Rattle.slee_run.specs.Checking.{IsBarred, IsCheckedAt}
use Rattle.slee_run.specs.Given.{IsDeployment, deploy_limit, signals_limit, or_refusal, refusal_of, refusal_of_deploy, unlined, unread}
use Rattle.slee_run.specs.Opening.{IsEarly}
use Rattle.slee_run.specs.declared.reading.Deployed.{Deployed}
use Rattle.slee_run.specs.declared.reading.Inputs.{Inputs}
use Rattle.slee_run.specs.declared.status.Given.{Given}
use Rattle.slee_run.specs.declared.status.Given.TheVariants as givens
use Rattle.slee_run.specs.declared.status.Status.{Status}
use Rattle.slee_run.specs.declared.status.Status.TheVariants as statuses

-- ---- a source that couldn't be read whole

pub reading_unread : (fault : ReadFault) (what : Given) → IsUnreadAs what (status_of_reading fault what)
reading_unread read_faults.Failed what = inl refl
reading_unread read_faults.TooLarge what = inr (inr refl)
reading_unread read_faults.NoMemory what = inr (inl refl)

pub reading_failed : (fault : ReadFault) (what : Given) → status_of_reading fault what ≡ statuses.ReadFault → fault ≡ read_faults.Failed
reading_failed read_faults.Failed what is = refl
reading_failed read_faults.TooLarge what is = absurd (cc)
reading_failed read_faults.NoMemory what is = absurd (cc)

pub reading_large : (fault : ReadFault) (what : Given) → status_of_reading fault what ≡ statuses.TooLarge what → fault ≡ read_faults.TooLarge
reading_large read_faults.Failed what is = absurd (cc)
reading_large read_faults.TooLarge what is = refl
reading_large read_faults.NoMemory what is = absurd (cc)

unread_words : (what : Given) (status : Status) → IsUnreadAs what status → status ≢ statuses.BadWords
unread_words what status (inl is) words = let never : statuses.ReadFault ≡ statuses.BadWords = sym is ∙ words in cc
unread_words what status (inr (inl is)) words = let never : statuses.NoMemory ≡ statuses.BadWords = sym is ∙ words in cc
unread_words what status (inr (inr is)) words = let never : statuses.TooLarge what ≡ statuses.BadWords = sym is ∙ words in cc

unread_early : (what : Given) (status : Status) → IsUnreadAs what status → IsEarly status
unread_early what status (inl is) = subst IsEarly (sym is) tt
unread_early what status (inr (inl is)) = subst IsEarly (sym is) tt
unread_early what status (inr (inr is)) = subst IsEarly (sym is) tt

pub unread_checked : (status : Status) → IsUnreadAs givens.Deploy status → IsEarly status × IsCheckedAt status
unread_checked status (inl is) = subst (λ s. IsEarly s × IsCheckedAt s) (sym is) (tt, tt)
unread_checked status (inr (inl is)) = subst (λ s. IsEarly s × IsCheckedAt s) (sym is) (tt, tt)
unread_checked status (inr (inr is)) = subst (λ s. IsEarly s × IsCheckedAt s) (sym is) (tt, tt)

pub unread_quiet : (what : Given) (status : Status) → IsUnreadAs what status → IsEarly status × (status ≢ statuses.BadWords)
unread_quiet what status unread_is = (unread_early what status unread_is, unread_words what status unread_is)

pub signals_not_deploy : (status : Status) → IsUnreadAs givens.Signals status → status ≢ statuses.TooLarge givens.Deploy
signals_not_deploy status (inl is) large = let never : statuses.ReadFault ≡ statuses.TooLarge givens.Deploy = sym is ∙ large in cc
signals_not_deploy status (inr (inl is)) large = let never : statuses.NoMemory ≡ statuses.TooLarge givens.Deploy = sym is ∙ large in cc
signals_not_deploy status (inr (inr is)) large = let never : statuses.TooLarge givens.Signals ≡ statuses.TooLarge givens.Deploy = sym is ∙ large in cc

pub deploy_not_signals : (status : Status) → IsUnreadAs givens.Deploy status → status ≢ statuses.TooLarge givens.Signals
deploy_not_signals status (inl is) large = let never : statuses.ReadFault ≡ statuses.TooLarge givens.Signals = sym is ∙ large in cc
deploy_not_signals status (inr (inl is)) large = let never : statuses.NoMemory ≡ statuses.TooLarge givens.Signals = sym is ∙ large in cc
deploy_not_signals status (inr (inr is)) large = let never : statuses.TooLarge givens.Deploy ≡ statuses.TooLarge givens.Signals = sym is ∙ large in cc

-- ---- bytes that are no deployment, or no lines

pub fault_refusal : (reading : Result Reading DeployFault) (fault : DeployFault) → Tells reading fault → IsRefusalFor (unread reading) (status_of_fault fault)
fault_refusal reading deploy_faults.NoMemory tells = inl refl
fault_refusal reading deploy_faults.Json tells = inr (ap unread tells)
fault_refusal reading (deploy_faults.Shape pointer kind) tells = inr (ap unread tells)
fault_refusal reading (deploy_faults.Syntax pointer line column kind) tells = inr (ap unread tells)
fault_refusal reading (deploy_faults.Check pointer line column kind) tells = inr (ap unread tells)

pub lines_refusal : (bytes : List ℕ) (fault : SignalFault) → IsFaultOfText bytes fault → IsRefusalFor (unlined (signals_of bytes)) (status_of_lines fault)
lines_refusal bytes (line_faults.At line kind) bad = inr (ap unlined bad)
lines_refusal bytes line_faults.NoMemory bad = inl refl

-- what such a refusal is
pub record IsQuiet (status : Status) : Type 0 where
  pub early : IsEarly status
  pub words : status ≢ statuses.BadWords
  pub read : status ≢ statuses.ReadFault
  pub large : (what : Given) → status ≢ statuses.TooLarge what

quiet_memory : IsQuiet statuses.NoMemory
quiet_memory = record { early = tt; words = λ is. cc; read = λ is. cc; large = λ what is. cc }

quiet_deploy : (fault : DeployFault) → IsQuiet (statuses.BadDeploy fault)
quiet_deploy fault = record { early = tt; words = λ is. cc; read = λ is. cc; large = λ what is. cc }

quiet_unread : (reading : Result Reading DeployFault) (status : Status) → unread reading ≡ Some status → IsQuiet status
quiet_unread (Ok reading) status is = absurd (cc)
quiet_unread (Err fault) status is = let same : statuses.BadDeploy fault ≡ status = cc in subst IsQuiet same (quiet_deploy fault)

quiet_unlined : (read : Result (List Signal) SignalFault) (status : Status) → unlined read ≡ Some status → IsQuiet status
quiet_unlined (Ok lines) status is = absurd (cc)
quiet_unlined (Err (line_faults.At line kind)) status is =
    let same : statuses.BadSignals line kind ≡ status = cc in
    subst IsQuiet same (record { early = tt; words = λ e. cc; read = λ e. cc; large = λ what e. cc })
quiet_unlined (Err line_faults.NoMemory) status is = absurd (cc)

pub quiet_for : (reading : Result Reading DeployFault) (status : Status) → IsRefusalFor (unread reading) status → IsQuiet status
quiet_for reading status (inl is) = subst IsQuiet (sym is) quiet_memory
quiet_for reading status (inr is) = quiet_unread reading status is

checked_unread : (reading : Result Reading DeployFault) (status : Status) → unread reading ≡ Some status → IsEarly status × IsCheckedAt status
checked_unread (Ok reading) status is = absurd (cc)
checked_unread (Err fault) status is = let same : statuses.BadDeploy fault ≡ status = cc in subst (λ s. IsEarly s × IsCheckedAt s) same (tt, tt)

pub checked_for : (reading : Result Reading DeployFault) (status : Status) → IsRefusalFor (unread reading) status → IsEarly status × IsCheckedAt status
checked_for reading status (inl is) = subst (λ s. IsEarly s × IsCheckedAt s) (sym is) (tt, tt)
checked_for reading status (inr is) = checked_unread reading status is

-- ---- the first refusal of both

within_refusal : (deploy signals : List ℕ) → length deploy ≤ deploy_limit → length signals ≤ signals_limit
    → refusal_of deploy signals ≡ or_refusal (unread (reading_of deploy)) (unlined (signals_of signals))
within_refusal deploy signals short few = rw (le-leb (length deploy) deploy_limit short, le-leb (length signals) signals_limit few)

pub within_deploy : (deploy : List ℕ) → length deploy ≤ deploy_limit → refusal_of_deploy deploy ≡ unread (reading_of deploy)
within_deploy deploy short = rw (le-leb (length deploy) deploy_limit short)

above : (n limit : ℕ) → limit < n → nat_le n limit ≡ false
above n limit more = elim (cases_Bool (nat_le n limit)) [
  | inl within ↦ absurd (omega (arith, more, leb-true n limit within))
  | inr is ↦ is
]

pub large_deploy : (deploy : List ℕ) → deploy_limit < length deploy → refusal_of_deploy deploy ≡ Some (statuses.TooLarge givens.Deploy)
large_deploy deploy more = rw (above (length deploy) deploy_limit more)

large_both : (deploy signals : List ℕ) → deploy_limit < length deploy → refusal_of deploy signals ≡ Some (statuses.TooLarge givens.Deploy)
large_both deploy signals more = rw (above (length deploy) deploy_limit more)

large_signals : (deploy signals : List ℕ) → length deploy ≤ deploy_limit → signals_limit < length signals → refusal_of deploy signals ≡ Some (statuses.TooLarge givens.Signals)
large_signals deploy signals short more = rw (le-leb (length deploy) deploy_limit short, above (length signals) signals_limit more)

-- the first of two, where the first is one
pub refused_first : (deploy signals : List ℕ) (status : Status) → length deploy ≤ deploy_limit → length signals ≤ signals_limit
    → IsRefusalFor (unread (reading_of deploy)) status → IsRefusalFor (refusal_of deploy signals) status
refused_first deploy signals status short few (inl is) = inl is
refused_first deploy signals status short few (inr is) =
    inr (within_refusal deploy signals short few ∙ ap (λ (o : Option Status). or_refusal o (unlined (signals_of signals))) is)

-- where the first is none
pub refused_later : (deploy signals : List ℕ) (reading : Reading) (status : Status) → length deploy ≤ deploy_limit → length signals ≤ signals_limit → reading_of deploy ≡ Ok reading
    → IsRefusalFor (unlined (signals_of signals)) status → IsRefusalFor (refusal_of deploy signals) status
refused_later deploy signals reading status short few read (inl is) = inl is
refused_later deploy signals reading status short few read (inr is) =
    inr (within_refusal deploy signals short few ∙ ap (λ (r : Result Reading DeployFault). or_refusal (unread r) (unlined (signals_of signals))) read ∙ is)

pub accepted : (deploy signals : List ℕ) (reading : Reading) (lines : List Signal) → length deploy ≤ deploy_limit → length signals ≤ signals_limit → reading_of deploy ≡ Ok reading
    → signals_of signals ≡ Ok lines → refusal_of deploy signals ≡ None
accepted deploy signals reading lines short few read spelled =
    within_refusal deploy signals short few ∙ ap (λ (r : Result Reading DeployFault). or_refusal (unread r) (unlined (signals_of signals))) read ∙ ap unlined spelled

-- what a refusal of both is
quiet_or : (first later : Option Status) (status : Status) → ((s : Status) → first ≡ Some s → IsQuiet s) → ((s : Status) → later ≡ Some s → IsQuiet s) → or_refusal first later ≡ Some status → IsQuiet status
quiet_or None later status one other is = other status is
quiet_or (Some refusal) later status one other is = one status is

pub quiet_both : (deploy signals : List ℕ) (status : Status) → length deploy ≤ deploy_limit → length signals ≤ signals_limit → IsRefusalFor (refusal_of deploy signals) status → IsQuiet status
quiet_both deploy signals status short few (inl is) = subst IsQuiet (sym is) quiet_memory
quiet_both deploy signals status short few (inr is) =
    quiet_or (unread (reading_of deploy)) (unlined (signals_of signals)) status (λ s. quiet_unread (reading_of deploy) s) (λ s. quiet_unlined (signals_of signals) s)
    (sym (within_refusal deploy signals short few) ∙ is)

-- ---- by what sources told

pub told_deploy : (told : Option (List ℕ)) (blob : List ℕ) (status : Status) → IfSome told (λ bytes. blob ≡ bytes) → length blob ≤ deploy_limit → IsRefusalFor (unread (reading_of blob)) status
    → IfSome told (λ bytes. IsRefusalBy (refusal_of_deploy bytes) status)
told_deploy None blob status same short refused = tt
told_deploy (Some bytes) blob status same short refused =
    subst (λ (b : List ℕ). IsRefusalBy (refusal_of_deploy b) status) same (inr (subst (λ (o : Option Status). IsRefusalFor o status) (sym (within_deploy blob short)) refused))

pub told_unread : (told : Option (List ℕ)) (status : Status) → IsUnreadAs givens.Deploy status → (status ≡ statuses.TooLarge givens.Deploy → IfSome told (λ bytes. deploy_limit < length bytes))
    → IfSome told (λ bytes. IsRefusalBy (refusal_of_deploy bytes) status)
told_unread None status is large = tt
told_unread (Some bytes) status (inl is) large = inl is
told_unread (Some bytes) status (inr (inl is)) large = inr (inl is)
told_unread (Some bytes) status (inr (inr is)) large = inr (inr (large_deploy bytes (large is) ∙ ap (λ (s : Status). Some s) (sym is)))

pub told_unread_both : (deploy signals : Option (List ℕ)) (status : Status) → IsUnreadAs givens.Deploy status → (status ≡ statuses.TooLarge givens.Deploy → IfSome deploy (λ bytes. deploy_limit < length bytes))
    → IfSome deploy (λ d. IfSome signals (λ bytes. IsRefusalBy (refusal_of d bytes) status))
told_unread_both None signals status is large = tt
told_unread_both (Some d) None status is large = tt
told_unread_both (Some d) (Some bytes) status (inl is) large = inl is
told_unread_both (Some d) (Some bytes) status (inr (inl is)) large = inr (inl is)
told_unread_both (Some d) (Some bytes) status (inr (inr is)) large = inr (inr (large_both d bytes (large is) ∙ ap (λ (s : Status). Some s) (sym is)))

pub told_unread_lines : (document : List ℕ) (signals : Option (List ℕ)) (status : Status) → length document ≤ deploy_limit → IsUnreadAs givens.Signals status
    → (status ≡ statuses.TooLarge givens.Signals → IfSome signals (λ bytes. signals_limit < length bytes)) → IfSome signals (λ bytes. IsRefusalBy (refusal_of document bytes) status)
told_unread_lines document None status short is large = tt
told_unread_lines document (Some bytes) status short (inl is) large = inl is
told_unread_lines document (Some bytes) status short (inr (inl is)) large = inr (inl is)
told_unread_lines document (Some bytes) status short (inr (inr is)) large = inr (inr (large_signals document bytes short (large is) ∙ ap (λ (s : Status). Some s) (sym is)))

pub told_lines : (document text : List ℕ) (signals : Option (List ℕ)) (status : Status) → IfSome signals (λ bytes. text ≡ bytes) → IsRefusalFor (refusal_of document text) status
    → IfSome signals (λ bytes. IsRefusalBy (refusal_of document bytes) status)
told_lines document text None status same refused = tt
told_lines document text (Some bytes) status same refused = subst (λ (b : List ℕ). IsRefusalBy (refusal_of document b) status) same (inr refused)

pub told_both : (document : List ℕ) (deploy signals : Option (List ℕ)) (status : Status) → IfSome deploy (λ bytes. document ≡ bytes) → IfSome signals (λ bytes. IsRefusalBy (refusal_of document bytes) status)
    → IfSome deploy (λ d. IfSome signals (λ bytes. IsRefusalBy (refusal_of d bytes) status))
told_both document None signals status same refused = tt
told_both document (Some d) signals status same refused = subst (λ (b : List ℕ). IfSome signals (λ bytes. IsRefusalBy (refusal_of b bytes) status)) same refused

pub inputs_told : (document text : List ℕ) (signals : Option (List ℕ)) (i : Inputs) → IfSome signals (λ bytes. text ≡ bytes) → AreInputs document text i → IfSome signals (λ bytes. AreInputs document bytes i)
inputs_told document text None i same are = tt
inputs_told document text (Some bytes) i same are = subst (λ (b : List ℕ). AreInputs document b i) same are

pub deployed_told : (document : List ℕ) (deploy : Option (List ℕ)) (d : Deployed) → IfSome deploy (λ bytes. document ≡ bytes) → length document ≤ deploy_limit → IsDeployedBy document d → IsDeployedFrom deploy d
deployed_told document deploy d same short by = record {
  checked = by.checked;
  given = record { within = subst (λ (b : List ℕ). length b ≤ deploy_limit) (sym by.bytes) short; read = by.read };
  told = told deploy same;
}
  where
    told : (deploy : Option (List ℕ)) → IfSome deploy (λ bytes. document ≡ bytes) → IfSome deploy (λ bytes. d.bytes ≡ bytes)
    told None same = tt
    told (Some bytes) same = by.bytes ∙ same

pub inputs_from : (document : List ℕ) (deploy signals : Option (List ℕ)) (i : Inputs) → IfSome deploy (λ bytes. document ≡ bytes) → length document ≤ deploy_limit
    → IsDeployedBy document i.deployed → IfSome signals (λ bytes. AreInputs document bytes i) → AreInputsFrom deploy signals i
inputs_from document deploy signals i same short by are = record {
  deployed = deployed_told document deploy i.deployed same short by;
  lines = lines signals are;
  accepted = taken deploy signals same are;
}
  where
    lines : (signals : Option (List ℕ)) → IfSome signals (λ bytes. AreInputs document bytes i) → IfSome signals (λ bytes. signals_of bytes ≡ Ok i.lines)
    lines None are = tt
    lines (Some bytes) are = are.lines

    taken : (deploy signals : Option (List ℕ)) → IfSome deploy (λ bytes. document ≡ bytes) → IfSome signals (λ bytes. AreInputs document bytes i)
        → IfSome deploy (λ d. IfSome signals (λ bytes. refusal_of d bytes ≡ None))
    taken None signals same are = tt
    taken (Some d) None same are = tt
    taken (Some d) (Some bytes) same are = subst (λ (b : List ℕ). refusal_of b bytes ≡ None) same are.accepted

-- ---- good bytes

pub good_deploy : (bytes : List ℕ) (d : Deployment) → IsDeployment bytes d → refusal_of_deploy bytes ≡ None
good_deploy bytes d good = within_deploy bytes good.within ∙ ap unread good.read

-- what is wrong with bytes within the limit bars them
counted_fault : (bytes : List ℕ) (fault : DeployFault) → reading_of bytes ≡ Err fault → counts_in bytes ≡ Err fault
unfolding counts_in
counted_fault bytes fault is = ap counts_read is

pub read_barred : (bytes : List ℕ) (fault : DeployFault) → length bytes ≤ deploy_limit → Tells (reading_of bytes) fault → IsBarred bytes (status_of_fault fault)
read_barred bytes deploy_faults.NoMemory within tells = tt
read_barred bytes deploy_faults.Json within tells = record { within = within; first = counted_fault bytes deploy_faults.Json tells; known = λ is. cc }
read_barred bytes (deploy_faults.Shape pointer kind) within tells = record { within = within; first = counted_fault bytes (deploy_faults.Shape pointer kind) tells; known = λ is. cc }
read_barred bytes (deploy_faults.Syntax pointer line column kind) within tells = record { within = within; first = counted_fault bytes (deploy_faults.Syntax pointer line column kind) tells; known = λ is. cc }
read_barred bytes (deploy_faults.Check pointer line column kind) within tells = record { within = within; first = counted_fault bytes (deploy_faults.Check pointer line column kind) tells; known = λ is. cc }

pub barred_told : (told : Option (List ℕ)) (blob : List ℕ) (status : Status) → IfSome told (λ bytes. blob ≡ bytes) → IsBarred blob status → IfSome told (λ bytes. IsBarred bytes status)
barred_told None blob status same barred = tt
barred_told (Some bytes) blob status same barred = subst (λ (b : List ℕ). IsBarred b status) same barred

pub barred_unread : (told : Option (List ℕ)) (status : Status) → IsUnreadAs givens.Deploy status → (status ≡ statuses.TooLarge givens.Deploy → IfSome told (λ bytes. deploy_limit < length bytes))
    → IfSome told (λ bytes. IsBarred bytes status)
barred_unread None status is large = tt
barred_unread (Some bytes) status (inl is) large = subst (IsBarred bytes) (sym is) tt
barred_unread (Some bytes) status (inr (inl is)) large = subst (IsBarred bytes) (sym is) tt
barred_unread (Some bytes) status (inr (inr is)) large = subst (IsBarred bytes) (sym is) (large is)

pub reading_early : (fault : ReadFault) (what : Given) → IsEarly (status_of_reading fault what)
reading_early fault what = unread_early what (status_of_reading fault what) (reading_unread fault what)

-- ---- through results

pub if_ok : {A F : Type 0} (P Q : A → Type 0) (r : Result A F) → ((a : A) → P a → Q a) → IfOk r P → IfOk r Q
if_ok P Q (Ok a) go has = go a has
if_ok P Q (Err e) go has = tt

pub if_err : {A F : Type 0} (P Q : F → Type 0) (r : Result A F) → ((e : F) → P e → Q e) → IfErr r P → IfErr r Q
if_err P Q (Ok a) go has = tt
if_err P Q (Err e) go has = go e has

pub if_ok_both : {A F : Type 0} (P O Q : A → Type 0) (r : Result A F) → ((a : A) → P a → O a → Q a) → IfOk r P → IfOk r O → IfOk r Q
if_ok_both P O Q (Ok a) go has other = go a has other
if_ok_both P O Q (Err e) go has other = tt

pub inputs_read : (document text : List ℕ) (d : Deployed) (i : Inputs) → length document ≤ deploy_limit → length text ≤ signals_limit → IsDeployedBy document d → i.deployed ≡ d → signals_of text ≡ Ok i.lines
    → IsDeployedBy document i.deployed × AreInputs document text i
inputs_read document text d i short few by same lines = (
  subst (IsDeployedBy document) (sym same) by,
  record { lines = lines; accepted = accepted document text (read_as d.checked) i.lines short few (sym (ap reading_of by.bytes) ∙ by.read) lines },
)

pub refused_lines : (document text : List ℕ) (d : Deployed) (status : Status) → length document ≤ deploy_limit → length text ≤ signals_limit → IsDeployedBy document d
    → IsRefusalFor (unlined (signals_of text)) status → IsRefusalFor (refusal_of document text) status
refused_lines document text d status short few by refused = refused_later document text (read_as d.checked) status short few (sym (ap reading_of by.bytes) ∙ by.read) refused

-- ---- what a refusal of a deployment is

pub unread_fault_of : (reading : Result Reading DeployFault) (fault : DeployFault) → counts_read reading ≡ Err fault → unread reading ≡ Some (statuses.BadDeploy fault)
unread_fault_of (Ok reading) fault is = absurd (cc)
unread_fault_of (Err found) fault is = let same : found ≡ fault = cc in ap (λ (f : DeployFault). Some (statuses.BadDeploy f)) same

not_ok : (reading : Result Reading DeployFault) → unread reading ≡ Some statuses.Ok → ⊥
not_ok (Ok reading) is = cc
not_ok (Err fault) is = let never : statuses.BadDeploy fault ≡ statuses.Ok = cc in cc

pub refusal_not_ok : (bytes : List ℕ) → refusal_of_deploy bytes ≡ Some statuses.Ok → ⊥
refusal_not_ok bytes is = elim (cases_Bool (nat_le (length bytes) deploy_limit)) [
  | inl within ↦ not_ok (reading_of bytes) (sym (within_deploy bytes (leb-true (length bytes) deploy_limit within)) ∙ is)
  | inr over ↦ let large : refusal_of_deploy bytes ≡ Some (statuses.TooLarge givens.Deploy) = rw over in let never : ◌≡◌ {A = Option Status} (Some (statuses.TooLarge givens.Deploy)) (Some statuses.Ok) = sym large ∙ is in cc
]

-- ---- lines that were generated, or memory ran out

pub memory_refusal : (told : Option (List ℕ)) (status : Status) → status ≡ statuses.NoMemory → IfSome told (λ bytes. IsRefusalBy (refusal_of_deploy bytes) status)
memory_refusal None status is = tt
memory_refusal (Some bytes) status is = inr (inl is)

pub memory_barred : (told : Option (List ℕ)) (status : Status) → status ≡ statuses.NoMemory → IfSome told (λ bytes. IsBarred bytes status)
memory_barred None status is = tt
memory_barred (Some bytes) status is = subst (IsBarred bytes) (sym is) tt

pub memory_early : (status : Status) → status ≡ statuses.NoMemory → IsEarly status × IsCheckedAt status
memory_early status is = subst (λ s. IsEarly s × IsCheckedAt s) (sym is) (tt, tt)

pub on_ok : {T E A : Type 0} (r : Result T E) → A → OnOk r A
on_ok (Ok x) a = a
on_ok (Err e) a = tt

pub generated_lines : (r : Result Inputs Status) (seed count : ℕ) (d : Deployed) → IfOk r (λ i. i.deployed ≡ d) → IfOk r (λ i. i.lines ≡ generated seed count (deployed_of d.checked.parts))
    → IfOk r (λ i. i.lines ≡ generated seed count (deployed_of i.deployed.checked.parts))
generated_lines (Ok i) seed count d same lines = lines ∙ ap (λ (x : Deployed). generated seed count (deployed_of x.checked.parts)) (sym same)
generated_lines (Err status) seed count d same lines = tt
