use Rattle.std.proofs.Common.{sym, ap, map, ◌∙◌}
use Rattle.script_types.specs.Codes.{number_in}
use Rattle.script_run_reads.proofs.RowLemmas.{number_beside}
use Rattle.script_run_reads.proofs.rows.value_under.Goals as goal

pub is_same_name-requires-clause-one : goal.is_same_name-requires-clause-one
is_same_name-requires-clause-one c =
    let same = c.requires.numbers ∙ ap (map (λ f. number_in c.args.names.now f.0)) (sym c.as_slice-fields.ensures.fields) in
    number_beside c.args.names.now c.as_slice-fields.result.now c.args.row.numbers.now c.fields.place c.index-fields-place.result same c.fields-test.true c.index-fields-place.is
