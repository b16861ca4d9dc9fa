-- Filled stores that hold the rows of a sound state agree with each other.
use Rattle.std.proofs.Common.{◌≡◌, true, List, sym, subst}
use Rattle.std.specs.Prelude.{is_some}
use Rattle.std.specs.List.{list_all}
use Rattle.router_state.specs.Contexts.{activity_at}
use Rattle.router_state.specs.declared.rows.Activity.{Activity}
use Rattle.router_state.specs.declared.rows.Entity.{Entity}
use Rattle.router_state.specs.declared.rows.Link.{Link}
use Rattle.router_state.specs.declared.rows.Queued.{Queued}
use Rattle.router_state.specs.declared.rows.Suspension.{Suspension}
use Rattle.router_order.specs.Listed.{Agrees}
use Rattle.router_stores.specs.Ready.{AreReady}
use Rattle.router_stores.specs.declared.ready.Ready.{Ready}
use Rattle.snapshot_stores.specs.Ready.{ready_among}
use Rattle.snapshot_stores.proofs.ReadyLemmas.{are_ready}

-- the attachments of the contexts are in order
pub agrees_so : (es : List Entity) (links held rows : List Link) → held ≡ links → Agrees es links rows → Agrees es held rows
agrees_so es links held rows same agrees = subst (λ (ls : List Link). Agrees es ls rows) (sym same) agrees

-- the activities that are ready are listed
pub ready_so : (events held : List Queued) (suspensions : List Suspension) (activities : List Activity) (rows : List Ready) → held ≡ events → rows ≡ ready_among held suspensions activities
    → list_all (λ (q : Queued). is_some (activity_at activities q.activity.0)) events ≡ true → AreReady rows held suspensions
ready_so events held suspensions activities rows same is there =
    let all : list_all (λ (q : Queued). is_some (activity_at activities q.activity.0)) held ≡ true = subst (λ (qs : List Queued). list_all (λ (q : Queued). is_some (activity_at activities q.activity.0)) qs ≡ true) (sym same) there in
    subst (λ (rs : List Ready). AreReady rs held suspensions) (sym is) (are_ready held suspensions activities all)
