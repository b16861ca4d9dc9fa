-- Which rows are asked for: those of a number, those of a pair of numbers, or those up to a number.
use Rattle.std.specs.Prelude.{Bool, false, ◌==◌, ◌||◌, ◌&&◌, nat_lt, nat_le}
use Rattle.rows_sorted.specs.Keys.{Key, is_pair}
use Rattle.rows_leaves.specs.declared.share.Share.{Share}
use Rattle.rows_leaves.specs.declared.share.Share.TheVariants as shares

-- whether a row of the key is one of them
abbrev pub is_in : Share → Key → Bool
is_in (shares.First first) k = k.first == first
is_in (shares.Pair first second) k = is_pair first second k
is_in (shares.UpTo first) k = nat_le k.first first

-- whether it stands before them
abbrev pub is_ahead : Share → Key → Bool
is_ahead (shares.First first) k = nat_lt k.first first
is_ahead (shares.Pair first second) k = nat_lt k.first first || ((k.first == first) && nat_lt k.second second)
is_ahead (shares.UpTo first) k = false

-- whether it stands before them or is one of them
abbrev pub is_up_to : Share → Key → Bool
is_up_to (shares.First first) k = nat_le k.first first
is_up_to (shares.Pair first second) k = nat_lt k.first first || ((k.first == first) && nat_le k.second second)
is_up_to (shares.UpTo first) k = nat_le k.first first
