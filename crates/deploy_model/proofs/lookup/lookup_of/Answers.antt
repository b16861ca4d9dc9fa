use Rattle.std.proofs.Common.{◌∙◌}
use Rattle.deploy_model.specs.declared.parts.EventType.{EventType}
use Rattle.deploy_model.specs.declared.parts.ProfileSpec.{ProfileSpec}
use Rattle.deploy_model.specs.declared.parts.Block.{Block}
use Rattle.deploy_model.specs.Tables.{key_number, alias_kind}
use Rattle.deploy_model.proofs.lookup.lookup_of.Goals as goal

pub returns : goal.returns
returns c = λ i. record {
  events = λ q. (c.in_ok-events.ensures q ∙ (λ j. key_number (λ (e : EventType). e.key) (c.as_slice-event_types.ensures j) q)) i;
  profiles = λ q. (c.in_ok-profiles.ensures q ∙ (λ j. key_number (λ (p : ProfileSpec). p.key) (c.as_slice.ensures j) q)) i;
  blocks = λ q. (c.in_ok-blocks.ensures q ∙ (λ j. key_number (λ (b : Block). b.key) (c.as_slice-2.ensures j) q)) i;
  event_types = c.as_slice-event_types.ensures i;
  alias_kind = λ q. (c.in_ok-aliases.ensures q ∙ (λ j. alias_kind (c.as_slice-3.ensures j) q)) i;
}
