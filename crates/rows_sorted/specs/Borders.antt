-- Which rows stand ahead of a border.
use Rattle.std.specs.Prelude.{Bool, ◌==◌, ◌||◌, ◌&&◌, nat_lt, nat_le}
use Rattle.rows_sorted.specs.Keys.{Key, key_before}
use Rattle.rows_sorted.specs.declared.searching.Border.{Border}
use Rattle.rows_sorted.specs.declared.searching.Border.TheVariants as borders

-- whether a row of the second key stands ahead of a border at the first one
abbrev pub is_ahead : Border → Key → Key → Bool
is_ahead borders.Key k x = key_before x k
is_ahead borders.First k x = nat_lt x.first k.first
is_ahead borders.UpToFirst k x = nat_le x.first k.first
is_ahead borders.Pair k x = nat_lt x.first k.first || ((x.first == k.first) && nat_lt x.second k.second)
is_ahead borders.UpToPair k x = nat_lt x.first k.first || ((x.first == k.first) && nat_le x.second k.second)
