-- the name comes with its entry
use Rattle.std.proofs.Common.{ap, ◌∙◌}
use Rattle.activity_context.specs.declared.numbered.NumberedName.{NumberedName}
use Rattle.rows_index.specs.Numbers.{number_of}
use Rattle.activity_context.specs.Naming.{in_byte_order}
use Rattle.activity_context.proofs.FilingLemmas.{filed_put, order_put}
use Rattle.activity_context.proofs.filing.file.Goals as goal

pub returns-clause-names : goal.returns-clause-names
returns-clause-names c =
    let row : NumberedName = record { number = c.number_of-number.result; named = c.args.named } in
    ap in_byte_order c.put_row-2.ensures.rows ∙ order_put row c.args.rows.now.rows c.rises.ensures c.requires.filed.once c.requires.absent

pub returns-clause-filed : goal.returns-clause-filed
returns-clause-filed c =
    let row : NumberedName = record { number = c.number_of-number.result; named = c.args.named } in
    rw (c.put_row-2.ensures.rows, c.put_row.ensures.rows)
    (filed_put row c.args.rows.now.rows c.args.entries.now.rows (c.number_of-number.ensures.number ∙ (λ i. number_of (c.as_bytes.ensures.bytes i))) c.rises.ensures c.requires.filed c.requires.absent)
