-- The number of the event at a place of a queue.
use Rattle.std.proofs.Common.{◌≡◌, ◌==◌, ℕ, List, Option, Some, None, filter, slice_get, refl, sym, ◌∙◌, ap}
use Rattle.std.specs.Prelude.{option_map}
use Rattle.std.proofs.lemmas.Option.{slice_get-map}
use Rattle.router_state.specs.Queues.{queue}
use Rattle.router_state.specs.declared.rows.Event.{Event}
use Rattle.router_state.specs.declared.rows.Queued.{Queued}
use Rattle.router_draft.specs.After.{waiting_on}

numbered : (o : Option Queued) → option_map (λ (q : Queued). q.event.id.0) o ≡ option_map (λ (v : Event). v.id.0) (option_map (λ (q : Queued). q.event) o)
numbered None = refl
numbered (Some q) = refl

pub waits_at : (events : List Queued) (a place : ℕ) → slice_get (waiting_on events a) place ≡ option_map (λ (v : Event). v.id.0) (slice_get (queue events a) place)
waits_at events a place =
    let rows : List Queued = filter (λ q. q.activity.0 == a) events in
    slice_get-map (λ (q : Queued). q.event.id.0) rows place
    ∙ numbered (slice_get rows place)
    ∙ ap (option_map (λ (v : Event). v.id.0)) (sym (slice_get-map (λ (q : Queued). q.event) rows place))
