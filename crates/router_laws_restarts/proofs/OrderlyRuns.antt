-- The laws of runs, of one history.
use Rattle.std.proofs.Common.{◌≡◌, ℕ, ◌<◌, ◌^◌, List, [], ◌∷◌, ◌++◌, Ok, length, subst}
use Rattle.std.proofs.lemmas.List.{append-nil}
use Rattle.slee_disk.specs.Sides.{Sides}
use Rattle.slee_descriptor.specs.declared.deployment.Deployment.{Deployment}
use Rattle.deploy_json.specs.Checking.{read_as, reading_of}
use Rattle.trace_history.specs.declared.entry.Entry.{Entry}
use Rattle.router_state.specs.State.{State}
use Rattle.router_state.specs.Well.{IsWell}
use Rattle.router_steps.specs.Histories.{Legal, pending_at}
use Rattle.router_laws_restarts.proofs.Reaching.{read_restarted, well_restarted}
use Rattle.router_laws_restarts.specs.Orderly.{IsOrderly, IsWellOrdered}
use Rattle.router_laws_runs.proofs.Applied.{legal_applies}
use Rattle.router_laws_runs.proofs.EndLemmas.{end_is_last, heading_first, heading_next}
use Rattle.router_laws_runs.proofs.Laws.{legal_in_order, legal_once, legal_waits}
use Rattle.router_laws_runs.proofs.Runs.{legal_well}
use Rattle.router_laws_runs.specs.AsRead.{IsAsRead}
use Rattle.router_durable.specs.Facts.{initial_of}
use Rattle.router_durable.specs.Recovery.{restart}

pub orderly : (s : State) (h : List Entry) → IsWell s → IsAsRead s.deployment s.program → Legal s h → IsOrderly s h
orderly s h well read legal = record {
  order = λ a low. legal_in_order s h well read legal a low;
  once = λ v low. legal_once s h well read legal v low;
  suspended = λ a low. legal_waits s h well read legal a low;
  next = λ k e rest a is low named. heading_next s k e rest a well read (subst (Legal s) is legal) low named;
  first = λ k e rest a is low delivers. heading_first s k e rest a well read (subst (Legal s) is legal) low delivers;
  last = λ k e rest a v is finish head end. end_is_last s k e rest a v well read (subst (Legal s) is legal) finish head end;
  applies = legal_applies s h well read legal;
}

-- nothing is said of no entries
pub orderly_none : (s : State) → IsOrderly s []
orderly_none s = record {
  order = λ a low. append-nil (pending_at s a);
  once = λ v low. tt;
  suspended = λ a low. tt;
  next = λ k e rest a is low named. elim (never k e rest is) [ ];
  first = λ k e rest a is low delivers. elim (never k e rest is) [ ];
  last = λ k e rest a v is finish head end. elim (never k e rest is) [ ];
  applies = tt;
}
  where
    never : (k : List Entry) (e : Entry) (rest : List Entry) → [] ≡ k ++ e ∷ rest → ⊥
    never [] e rest is = absurd (cc)
    never (x ∷ k) e rest is = absurd (cc)

pub restarted_ordered : (bytes : List ℕ) (d : Deployment) (sides : Sides) (s : State) (h : List Entry) → length bytes < 2 ^ 63 → reading_of bytes ≡ Ok (read_as d) → restart (initial_of d.parts d.codes) bytes sides ≡ Ok s → Legal s h → IsWellOrdered s h
restarted_ordered bytes d sides s h short is found legal =
    let well = well_restarted bytes d sides s short is found in
    let read = read_restarted bytes d sides s is found in
    record { orderly = orderly s h well read legal; base = well; left = legal_well s h well read legal }
