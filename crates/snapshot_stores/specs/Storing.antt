-- When a state can be put into stores.
use Rattle.std.specs.Prelude.{◌≡◌, true, is_some, IsTrue}
use Rattle.std.specs.List.{AllByRecursion, list_all}
use Rattle.router_state.specs.Contexts.{activity_at}
use Rattle.router_state.specs.Ordered.{IsOrdered}
use Rattle.router_state.specs.State.{State}
use Rattle.entity_tree.specs.Kept.{AreEntities, is_entity}

-- Its lists rise; a parent's number is below its child's; what is attached is there, and what events wait on.
pub record CanBeStored (s : State) : Type 0 where
  pub ordered : IsOrdered s
  pub entities : AreEntities s.next_entity s.entities
  pub attached : AllByRecursion (λ l. is_entity s.entities l.entity.0 ≡ true) s.links
  pub waiting : IsTrue (list_all (λ q. is_some (activity_at s.activities q.activity.0)) s.events)
