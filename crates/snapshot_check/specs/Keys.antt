-- When an order tells two keys apart.
use Rattle.std.specs.Prelude.{Bool, not}
use Rattle.std.specs.Ordering.{eq_by_cmp}
use Rattle.std.specs.declared.cmp.Ordering.{Ordering}

-- the order tells the two apart
abbrev pub are_apart : {K : Type 0} → (K → K → Ordering) → K → K → Bool
are_apart cmp x y = not (eq_by_cmp cmp x y)
