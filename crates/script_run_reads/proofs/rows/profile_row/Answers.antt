use Rattle.std.proofs.Common.{◌≡◌, sym}
use Rattle.std.specs.Option.{option_copied}
use Rattle.script_run_reads.proofs.RowLemmas.{row_numbers, same_given}
use Rattle.script_run_reads.proofs.rows.profile_row.Goals as goal

pub returns-in-Some-clause-numbers : goal.returns-in-Some-clause-numbers
returns-in-Some-clause-numbers c =
    let same : option_copied c.in_ok-looked.looked.seen ≡ option_copied c.in_ok-seen.seen = same_given _ _ _ _ c.in_ok-seen.ensures.agrees in
    row_numbers c.args.scene.now.names.now c.in_ok-looked.looked.numbers.now (option_copied c.in_ok-looked.looked.seen) (option_copied c.in_ok-seen.seen) c.in-Some.row.now c.in_ok-looked.ensures.numbers same (sym c.in-Some.ensures)
