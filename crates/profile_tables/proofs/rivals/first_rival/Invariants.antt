-- none of the rows before those that are left has the value
use Rattle.std.proofs.Common.{◌≡◌}
use Rattle.std.specs.List.{find}
use Rattle.profile_tables.specs.Keeping.{as_kept}
use Rattle.profile_tables.specs.Unique.{is_rival_in}
use Rattle.profile_tables.proofs.rivals.first_rival.Given as goal

abbrev pub invariant-loop-other : goal.invariant-loop-other
invariant-loop-other l =
    let passes = is_rival_in (record { table = l.table; row = l.row; attributes = l.fields }) l.name in
    find passes (as_kept l.other-iterator) ≡ find passes (as_kept l.fn.among)
