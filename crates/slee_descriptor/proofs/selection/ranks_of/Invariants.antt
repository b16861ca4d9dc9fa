use Rattle.std.proofs.Common.{◌≡◌, ◌++◌, drop, map}
use Rattle.deploy_model.specs.Resolving.{service_of}
use Rattle.deploy_model.specs.Selecting.{numbered}
use Rattle.slee_descriptor.specs.Keys.{number_in}
use Rattle.slee_descriptor.specs.Ranks.{rank_of}
use Rattle.slee_descriptor.proofs.selection.ranks_of.Given as goal

abbrev pub invariant-loop-i : goal.invariant-loop-i
invariant-loop-i l =
    l.ranks.items ++ map rank_of (numbered l.i (map (service_of (number_in l.keys)) (drop l.i l.services)))
    ≡ map rank_of (numbered 0 (map (service_of (number_in l.keys)) l.services))
