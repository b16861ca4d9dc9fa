-- the entry stays as long as a name needs it
use Rattle.std.proofs.Common.{sym, ◌∙◌}
use Rattle.activity_context.proofs.FilingLemmas.{fewer_found, own_needed, rest_found, rest_needed}
use Rattle.activity_context.proofs.filing.cut_numbered.Goals as goal

pub returns-then-not-has_row_of_pair-clause-found : goal.returns-then-not-has_row_of_pair-clause-found
returns-then-not-has_row_of_pair-clause-found c = λ found.
    rw c.cut_row-then-not-has_row_of_pair.ensures.rows
    (rest_found c.args.number c.args.activity.0 c.cut_row.new.self.rows c.args.entries.now.rows (rw c.cut_row.ensures.rows (fewer_found _ c.args.rows.now.rows c.args.entries.now.rows found)) (sym c.has_row_of_pair.ensures ∙ c.if-not-has_row_of_pair.true))

pub returns-else-not-has_row_of_pair-clause-found : goal.returns-else-not-has_row_of_pair-clause-found
returns-else-not-has_row_of_pair-clause-found c = λ found. rw c.cut_row.ensures.rows (fewer_found _ c.args.rows.now.rows c.args.entries.now.rows found)

pub returns-then-not-has_row_of_pair-clause-needed : goal.returns-then-not-has_row_of_pair-clause-needed
returns-then-not-has_row_of_pair-clause-needed c = λ needed.
    rw (c.cut_row-then-not-has_row_of_pair.ensures.rows, c.cut_row.ensures.rows, c.as_bytes.ensures.bytes) (rest_needed c.args.number c.args.activity.0 c.args.name.now c.args.rows.now.rows c.args.entries.now.rows needed)

pub returns-else-not-has_row_of_pair-clause-needed : goal.returns-else-not-has_row_of_pair-clause-needed
returns-else-not-has_row_of_pair-clause-needed c = λ needed.
    let left = rw (c.cut_row.ensures.rows, c.as_bytes.ensures.bytes) at (sym c.has_row_of_pair.ensures ∙ c.if-not-has_row_of_pair.false) in
    rw (c.cut_row.ensures.rows, c.as_bytes.ensures.bytes) (own_needed c.args.number c.args.activity.0 c.args.name.now c.args.rows.now.rows c.args.entries.now.rows needed left)
