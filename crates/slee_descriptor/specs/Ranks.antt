-- Services as they are put in the order of selection.
use Rattle.std.specs.Prelude.{Bool, ◌||◌, ◌&&◌, not, int_lt, nat_lt}
use Rattle.deploy_model.specs.Selecting.{Numbered}
use Rattle.slee_descriptor.specs.declared.selection.Rank.{Rank}

-- What a service with its number is ordered by, and its root's block.
abbrev pub rank_of : Numbered → Rank
rank_of x = record { priority = x.1.priority; number = x.0; root = x.1.root }

-- Higher priority first, then as deployed.
abbrev pub rank_before : Rank → Rank → Bool
rank_before x y = int_lt y.priority x.priority || (not (int_lt x.priority y.priority) && nat_lt x.number y.number)
