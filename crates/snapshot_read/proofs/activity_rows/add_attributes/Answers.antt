use Rattle.std.proofs.Common.{ap, ◌∙◌, ◌++◌, ◌∷◌, []}
use Rattle.router_state.specs.declared.rows.Attribute.{Attribute}
use Rattle.snapshot_read.proofs.TurnLemmas.{map_on}
use Rattle.snapshot_read.proofs.activity_rows.add_attributes.Invariants.{attribute_of}
use Rattle.snapshot_read.proofs.activity_rows.add_attributes.Goals as goal

pub pairs-preserved : goal.pairs-preserved
pairs-preserved c = record {
  can_next = tt;
  is_finite = tt;
  rows = map_on (attribute_of c.args.activity) _ _ _ _ _ _ c.in-Some.ensures.steps.0 (c.in_ok-push.ensures.items ∙ ap (λ (row : Attribute). c.pairs.attributes.items ++ row ∷ []) c.attribute_of.ensures) c.pairs.invariant.rows;
}
