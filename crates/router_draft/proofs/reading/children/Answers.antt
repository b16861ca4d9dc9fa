use Rattle.std.proofs.Common.{ℕ, List, sym, ap, ◌∙◌}
use Rattle.std.specs.List.{list_any}
use Rattle.router_draft.specs.Touched.{touches}
use Rattle.router_draft.proofs.TouchLemmas.{kids_still}
use Rattle.router_draft.proofs.reading.children.Goals as goal

pub returns-then-not-are_touched : goal.returns-then-not-are_touched
returns-then-not-are_touched g c =
    let none = ap (λ (es : List ℕ). list_any (λ e. list_any (touches e) c.args.draft.now.changes) es) (sym (c.deref.ensures.value ∙ c.in_ok-all.ensures)) ∙ sym c.are_touched.ensures ∙ c.if-not-are_touched.true in
    c.in_ok-all.ensures ∙ sym (kids_still c.args.draft.now.changes (g.B.Base.state c.args.base.now) c.args.entity.0 (sym c.touches.ensures ∙ c.if-not-touches.true) none)
