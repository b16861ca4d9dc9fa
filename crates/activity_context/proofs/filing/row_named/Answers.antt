-- it stands under its number
use Rattle.std.proofs.Common.{◌∙◌, ap}
use Rattle.std.specs.List.{find}
use Rattle.std.specs.Str.{bytes_eq}
use Rattle.activity_context.specs.declared.numbered.NumberedName.{NumberedName}
use Rattle.activity_context.proofs.FilingLemmas.{found_numbered}
use Rattle.activity_context.proofs.filing.row_named.Goals as goal

pub returns : goal.returns
returns c =
    let run = rw (c.number_of.ensures.number, c.as_bytes.ensures.bytes) at c.rows_of.ensures in
    c.named_among.ensures ∙ ap (find (λ (row : NumberedName). bytes_eq row.named.name c.args.name.now)) run ∙ found_numbered c.args.name.now c.args.rows.now.rows c.requires.numbered
