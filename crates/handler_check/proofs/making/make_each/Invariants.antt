use Rattle.std.proofs.Common.{◌≡◌, drop, map}
use Rattle.script_types.specs.Programs.{◌>>=◌}
use Rattle.handler_check.specs.Building.{each}
use Rattle.handler_check.proofs.Lists.{behind}
use Rattle.handler_check.proofs.making.make_each.Given as goal

-- what the items so far are made into stands in front of what the rest is made into
abbrev pub invariant-items : goal.invariant-items
invariant-items g l = (each (g.M.Making.built l.making) l.number (drop l.number l.items) >>= behind (map g.M.Making.value_of l.made)) ≡ each (g.M.Making.built l.making) 0 l.items
