use Rattle.std.proofs.Common.{◌≡◌, drop}
use Rattle.std.specs.List.{position_from}
use Rattle.slee_value.specs.declared.component.ComponentId.{ComponentId}
use Rattle.deploy_model.specs.Ids.{id_answer}
use Rattle.deploy_model.specs.Rules.{or_later, is_same_id}
use Rattle.deploy_model.proofs.ids.ids_of.Given as goal

abbrev pub invariant-loop-i : goal.invariant-loop-i
invariant-loop-i g l = (q : ComponentId) →
    or_later (id_answer l.ids q) (position_from (λ x. is_same_id q (g.T.Component.id_of x)) l.i (drop l.i l.items))
    ≡ position_from (λ x. is_same_id q (g.T.Component.id_of x)) 0 l.items
