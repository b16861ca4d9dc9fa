-- Less room than there is.
use Rattle.std.proofs.Common.{ℕ, ◌≤◌, arith}
use Rattle.router_stores.specs.Views.{HasRoom, StoresView}

-- where there is room for so many rows, there is for fewer
pub less_room : (n m : ℕ) (s : StoresView) → n ≤ m → HasRoom m s → HasRoom n s
less_room n m s le has = record {
  fields = omega (arith, le, has.fields);
  entities = omega (arith, le, has.entities);
  root_names = omega (arith, le, has.root_names);
  activities = omega (arith, le, has.activities);
  attributes = omega (arith, le, has.attributes);
  links = omega (arith, le, has.links);
  names = omega (arith, le, has.names);
  masks = omega (arith, le, has.masks);
  events = omega (arith, le, has.events);
  services_done = omega (arith, le, has.services_done);
  delivered = omega (arith, le, has.delivered);
  suspensions = omega (arith, le, has.suspensions);
  timers = omega (arith, le, has.timers);
  rows = omega (arith, le, has.rows);
  by_path = omega (arith, le, has.by_path);
  ready = omega (arith, le, has.ready);
}
