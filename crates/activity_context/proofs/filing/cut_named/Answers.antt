-- one name goes, or none has the text
use Rattle.std.proofs.Common.{sym, ap, ◌∙◌}
use Rattle.std.specs.Prelude.{not}
use Rattle.std.specs.Str.{bytes_eq}
use Rattle.router_state.specs.declared.rows.Named.{Named}
use Rattle.rows_index.proofs.FoundLemmas.{none_at}
use Rattle.rows_index.proofs.RowLemmas.{all_stay}
use Rattle.activity_context.specs.declared.numbered.NumberedName.{NumberedName}
use Rattle.activity_context.specs.Naming.{in_byte_order}
use Rattle.activity_context.proofs.FilingLemmas.{cut_is_free, filed_filter, one_goes, order_filter}
use Rattle.activity_context.proofs.filing.cut_named.Goals as goal

pub returns-in-Some-clause-names : goal.returns-in-Some-clause-names
returns-in-Some-clause-names c =
    let name = c.args.name.now in
    let rows = c.args.rows.now.rows in
    ap in_byte_order (c.cut_numbered.ensures.rows ∙ one_goes name c.in-Some.row.now rows c.requires.once (sym c.in-Some.ensures))
    ∙ order_filter (λ (row : Named). not (bytes_eq row.name name)) rows c.requires.once

pub returns-in-Some-clause-gone : goal.returns-in-Some-clause-gone
returns-in-Some-clause-gone c =
    let name = c.args.name.now in
    let rows = c.args.rows.now.rows in
    rw (c.cut_numbered.ensures.rows ∙ one_goes name c.in-Some.row.now rows c.requires.once (sym c.in-Some.ensures)) (cut_is_free name rows)

pub returns-in-Some-clause-filed : goal.returns-in-Some-clause-filed
returns-in-Some-clause-filed c =
    let name = c.args.name.now in
    let rows = c.args.rows.now.rows in
    let left = c.cut_numbered.ensures.rows ∙ one_goes name c.in-Some.row.now rows c.requires.once (sym c.in-Some.ensures) in
    let found = rw left at (c.cut_numbered.ensures.found c.requires.found) in
    let needed = rw left at (c.cut_numbered.ensures.needed c.requires.needed) in
    rw left (filed_filter (λ (row : Named). not (bytes_eq row.name name)) rows c.args.entries.now.rows c.cut_numbered.new.entries.rows c.requires found needed)

pub returns-in-None-clause-names : goal.returns-in-None-clause-names
returns-in-None-clause-names c =
    let name = c.args.name.now in
    let rows = c.args.rows.now.rows in
    let none = none_at (λ (row : NumberedName). bytes_eq row.named.name name) rows (sym c.in-None.ensures) in
    ap in_byte_order (sym (all_stay (λ (row : NumberedName). bytes_eq row.named.name name) rows none))
    ∙ order_filter (λ (row : Named). not (bytes_eq row.name name)) rows c.requires.once
