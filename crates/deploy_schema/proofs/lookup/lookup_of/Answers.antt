use Rattle.std.proofs.Common.{◌∙◌}
use Rattle.std.specs.Prelude.{codes}
use Rattle.deploy_schema.specs.Numbers.{numbers_from}
use Rattle.deploy_schema.specs.Ids.{ids_from}
use Rattle.deploy_schema.specs.Names.{alias_kind}
use Rattle.deploy_schema.proofs.lookup.lookup_of.Goals as goal

pub returns : goal.returns
returns c = λ i. record {
  events = (c.in_ok-events.ensures.keys ∙ (λ j. numbers_from (codes "key") 0 (c.items_in-event_types.ensures j))) i;
  profiles = (c.in_ok-profiles.ensures.keys ∙ (λ j. numbers_from (codes "key") 0 (c.items_in-profile_items.ensures j))) i;
  blocks = (c.in_ok-blocks.ensures.keys ∙ (λ j. numbers_from (codes "key") 0 (c.items_in-block_items.ensures j))) i;
  services = (c.in_ok-services.ensures.keys ∙ (λ j. numbers_from (codes "key") 0 (c.items_in-service_items.ensures j))) i;
  event_ids = (c.in_ok-events.ensures.ids ∙ (λ j. ids_from 0 (c.items_in-event_types.ensures j))) i;
  profile_ids = (c.in_ok-profiles.ensures.ids ∙ (λ j. ids_from 0 (c.items_in-profile_items.ensures j))) i;
  block_ids = (c.in_ok-blocks.ensures.ids ∙ (λ j. ids_from 0 (c.items_in-block_items.ensures j))) i;
  service_ids = (c.in_ok-services.ensures.ids ∙ (λ j. ids_from 0 (c.items_in-service_items.ensures j))) i;
  event_types = c.items_in-event_types.ensures i;
  alias_kind = (c.in_ok-aliases.ensures ∙ (λ j. alias_kind (c.items_in-block_items.ensures j))) i;
}
