-- The history of a run keeps the laws of runs.
use Rattle.std.proofs.Common.{◌≡◌, ◌⊎◌, ℕ, ◌<◌, ◌≤◌, ◌^◌, List, [], length, Ok, Err, refl, sym, subst, arith, inl, inr, Option}
use Rattle.std.specs.Prelude.{IsTrue, Result}
use Rattle.slee_disk.specs.Disk.{DiskState}
use Rattle.trace_history.specs.declared.entry.Entry.{Entry}
use Rattle.router_state.specs.State.{State}
use Rattle.router_steps.specs.Histories.{Legal}
use Rattle.router_laws_restarts.proofs.OrderlyRuns.{orderly_none, restarted_ordered}
use Rattle.router_laws_restarts.specs.Orderly.{IsOrderly}
use Rattle.router_durable.specs.Recovery.{restart}
use Rattle.commit_journal.specs.Reading.{Wrong}
use Rattle.slee_run.specs.Given.{Document, IsDocument, deploy_limit}
use Rattle.slee_run.specs.Headline.{IsBefore, IsLegalRun, Opens}
use Rattle.slee_run.specs.Opening.{IsOpened, found}
use Rattle.slee_run.specs.Orderly.{IsOrderlyRun}
use Rattle.slee_run.specs.declared.status.Status.{Status}

pub none_orderly : (s : State) (h : List Entry) → h ≡ [] → IsOrderly s h
none_orderly s h none = subst (λ (x : List Entry). IsOrderly s x) (sym none) (orderly_none s)

short : (n : ℕ) → n ≤ deploy_limit → n < 2 ^ 63
short n within = omega (arith, within)

found_orderly : (deploy : Option (List ℕ)) (x : Document) (disk : DiskState) (s : State) (h : List Entry) → IsDocument deploy x → found x disk ≡ Ok s → Legal s h → IsOrderly s h
found_orderly deploy x disk s h document is legal =
    (restarted_ordered x.bytes document.deployment disk.seen s h (short (length x.bytes) document.given.within) document.given.read
    (subst (λ (start : State). restart start x.bytes disk.seen ≡ Ok s) document.start is) legal).orderly

pub opened_orderly : (deploy : Option (List ℕ)) (x : Document) (disk : DiskState) (s : State) (h : List Entry) (status : Status) → IsDocument deploy x → Legal s h → IsOpened (found x disk) s h status → IsOrderly s h
opened_orderly deploy x disk s h status document legal opened = by (found x disk) refl
  where
    by : (r : Result State Wrong) → found x disk ≡ r → IsOrderly s h
    by (Err wrong) is = none_orderly s h (opened.none wrong is)
    by (Ok state) is =
        let same = opened.from state is in
        subst (λ (t : State). IsOrderly t h) (sym same) (found_orderly deploy x disk state h document is (subst (λ (t : State). Legal t h) same legal))

run_orderly : (words : List (List ℕ)) (deploy signals before after : Option (List ℕ)) (old new : DiskState) (status : Status) (run : IsLegalRun words deploy signals before after old new status) → Opens words → IsTrue old.told → IsOrderly run.base run.history
run_orderly words deploy signals before after old new status run opens told = by (run.given opens)
  where
    by : IsDocument deploy run.document ⊎ IsBefore run.history old new run.ended → IsOrderly run.base run.history
    by (inl document) = opened_orderly deploy run.document old run.base run.history run.ended document run.run.legal.legal ((run.journal.met opens).opened told)
    by (inr early) = none_orderly run.base run.history early.none

pub orderly : (words : List (List ℕ)) (deploy signals before after : Option (List ℕ)) (old new : DiskState) (status : Status) → IsLegalRun words deploy signals before after old new status → IsOrderlyRun words deploy signals before after old new status
orderly words deploy signals before after old new status run = record { run = run; laws = run_orderly words deploy signals before after old new status run }
