-- none of the rows before this one has the text
use Rattle.std.proofs.Common.{◌≡◌}
use Rattle.std.specs.List.{find}
use Rattle.std.specs.Str.{bytes_eq}
use Rattle.activity_context.specs.declared.numbered.NumberedName.{NumberedName}
use Rattle.activity_context.proofs.filing.named_among.Given as goal

abbrev pub invariant-loop-row : goal.invariant-loop-row
invariant-loop-row l =
    let passes = λ (row : NumberedName). bytes_eq row.named.name l.name in
    find passes l.row-iterator ≡ find passes l.fn.rows
