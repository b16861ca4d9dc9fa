use Rattle.std.proofs.Common.{ℕ, List, sym, ap, ◌∙◌}
use Rattle.std.specs.Prelude.{not, filter}
use Rattle.std.specs.List.{list_any}
use Rattle.router_draft.specs.Touched.{drops}
use Rattle.router_draft.proofs.TouchLemmas.{activities_still}
use Rattle.router_draft.proofs.reading.activities.Goals as goal

pub returns-then-not-touches : goal.returns-then-not-touches
returns-then-not-touches g c =
    c.in_ok-stay.ensures ∙ ap (λ (all : List ℕ). filter (λ a. not (list_any (drops a) c.args.draft.now.changes)) all) (c.deref.ensures.value ∙ c.in_ok-all.ensures)
    ∙ sym (activities_still c.args.draft.now.changes (g.B.Base.state c.args.base.now) c.args.entity.0 c.ordered.ensures.ordered (sym c.touches.ensures ∙ c.if-not-touches.true))
