use Rattle.std.proofs.Common.{◌≡◌, drop}
use Rattle.serde_json.specs.View.{items_view}
use Rattle.slee_value.specs.declared.component.ComponentId.{ComponentId}
use Rattle.deploy_model.specs.Rules.{or_later}
use Rattle.deploy_schema.specs.Ids.{ids_from}
use Rattle.deploy_schema.specs.Lookups.{id_answer}
use Rattle.deploy_schema.proofs.ids.ids_of.Given as goal

abbrev pub invariant-loop-i : goal.invariant-loop-i
invariant-loop-i l = (q : ComponentId) → or_later (id_answer l.ids q) (ids_from l.i (items_view (drop l.i l.items)) q) ≡ ids_from 0 (items_view l.items) q
