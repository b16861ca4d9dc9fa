-- an event more, up to the count or the end of the queue
use Rattle.std.proofs.Common.{List, ℕ, ◌∷◌, ◌++◌, [], sym, ap, ◌∙◌}
use Rattle.router_draft.specs.After.{waiting_on}
use Rattle.router_draft.proofs.FrontLemmas.{one_more}
use Rattle.router_draft.proofs.reading.front.Goals as goal

pub places-preserved : goal.places-preserved
places-preserved g c =
    let all = waiting_on (g.B.Base.state c.args.base.now).events c.args.activity.0 in
    c.in_ok-push-in-Some.ensures.items ∙ ap (λ (ns : List ℕ). ns ++ c.in-Some.event.0 ∷ []) c.places.invariant
    ∙ one_more all c.places.place c.in-Some.event.0 (sym c.in-Some.ensures)
