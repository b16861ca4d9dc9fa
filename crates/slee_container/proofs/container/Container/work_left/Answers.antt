use Rattle.std.proofs.Common.{◌≡◌, ◌∙◌, ap, subst, List, map}
use Rattle.slee_value.specs.declared.ids.ActivityId.{ActivityId}
use Rattle.router_state.specs.Next.{least}
use Rattle.router_state.specs.State.{State}
use Rattle.slee_container.specs.Claims.{activities_of}
use Rattle.slee_container.specs.Container.{state_of}
use Rattle.slee_container.proofs.Works.{work_found, work_missing}
use Rattle.slee_container.proofs.container.Container.work_left.Goals as goal

pub returns-in-Some : goal.returns-in-Some
returns-in-Some g c =
    let claimed = c.self.inside.claimed.items in
    let same = subst (λ v. claimed ≡ activities_of v.claims) c.self.view_is c.self.invariant.1 in
    work_found c.args.self.now claimed c.in-Some.activity c.in-Some.kindred same
    (c.in-Some.ensures ∙ ap (λ (l : List ActivityId). least c.state.result.now.state (map (λ (a : ActivityId). a.0) l)) c.deref.ensures.value
    ∙ ap (λ (s : State). least s (map (λ (a : ActivityId). a.0) claimed)) (c.state.ensures ∙ ap state_of c.self.view_is))

pub returns-in-None : goal.returns-in-None
returns-in-None g c =
    let claimed = c.self.inside.claimed.items in
    let same = subst (λ v. claimed ≡ activities_of v.claims) c.self.view_is c.self.invariant.1 in
    work_missing c.args.self.now claimed c.line_or.result same
    (c.in-None.ensures ∙ ap (λ (l : List ActivityId). least c.state.result.now.state (map (λ (a : ActivityId). a.0) l)) c.deref.ensures.value
    ∙ ap (λ (s : State). least s (map (λ (a : ActivityId). a.0) claimed)) (c.state.ensures ∙ ap state_of c.self.view_is))
    c.line_or.ensures
