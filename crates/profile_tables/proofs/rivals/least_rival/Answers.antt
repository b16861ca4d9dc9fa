-- one value after the other
use Rattle.std.proofs.Common.{◌+◌, drop, sym, ap, ◌∙◌, arith}
use Rattle.std.proofs.lemmas.List.{drop_all}
use Rattle.std.specs.Prelude.{option_copied}
use Rattle.std.specs.List.{find}
use Rattle.router_state.specs.declared.rows.ProfileRow.{ProfileRow}
use Rattle.profile_tables.specs.Faults.{is_rival}
use Rattle.profile_tables.specs.Keeping.{in_byte_order}
use Rattle.profile_tables.specs.Unique.{earlier, is_rival_in}
use Rattle.profile_tables.proofs.CountedLemmas.{next_name}
use Rattle.profile_tables.proofs.FilingLemmas.{row_order}
use Rattle.profile_tables.proofs.LeastLemmas.{earlier_joins, earlier_none, no_name}
use Rattle.profile_tables.proofs.LeastLemmas as least
use Rattle.profile_tables.proofs.rivals.least_rival.Goals as goal

pub loop-name-preserved : goal.loop-name-preserved
loop-name-preserved c =
    let asked : ProfileRow = record { table = c.args.table; row = c.args.row.now; attributes = c.args.fields.now } in
    let rows = in_byte_order c.args.rows.now.rows in
    let name = c.name-item.result in
    let left = drop (c.loop-name.name-index + 1) c.args.unique.now in
    let split = next_name c.args.unique.now c.loop-name.name-index name c.loop-name-test.true c.name-item.is in
    let low = option_copied c.loop-name.least in
    let under = rw split at c.loop-name.invariant.under in
    record {
      least = ap (λ o. earlier o (find (is_rival left asked) rows)) (c.earlier-least.ensures ∙ ap (earlier low) c.rival_in-rival.ensures)
          ∙ earlier_joins low (find (is_rival_in asked name) rows) (find (is_rival left asked) rows)
          ∙ ap (earlier low) (sym (least.next_name asked name left rows (row_order c.args.rows.now.rows c.requires.filed)))
          ∙ ap (λ names. earlier low (find (is_rival names asked) rows)) (sym split)
          ∙ c.loop-name.invariant.least;
      under = under.1;
    }

pub returns : goal.returns
returns c =
    let asked : ProfileRow = record { table = c.args.table; row = c.args.row.now; attributes = c.args.fields.now } in
    let rows = in_byte_order c.args.rows.now.rows in
    let low = option_copied c.loop-name.least in
    let none = drop_all c.loop-name.name-index c.args.unique.now (omega (arith, c.loop-name-test.false)) in
    sym (earlier_none low)
    ∙ ap (earlier low) (sym (no_name asked rows))
    ∙ ap (λ names. earlier low (find (is_rival names asked) rows)) (sym none)
    ∙ c.loop-name.invariant.least
