use Rattle.std.specs.List.{list_all}
use Rattle.std.proofs.lemmas.Result.{err_from_is_err_and}
use Rattle.snapshot_read.specs.Holding.{holds_row}
use Rattle.snapshot_read.proofs.HeldLemmas.{refused}
use Rattle.snapshot_read.proofs.TurnLemmas.{item_on, fails_on, fails_first}
use Rattle.snapshot_read.proofs.profile_rows.profile_rows.Goals as goal

pub returns-in_err-row_of : goal.returns-in_err-row_of
returns-in_err-row_of c =
    let p = err_from_is_err_and c.from_residual-in_err-row_of.result c.from_residual-in_err-row_of.ensures.1 in
    rw (p.1, p.2) (refused (holds_row c.in-Some.part) (list_all holds_row c.args.parts.items) c.in_err-row_of.field-0.0 (fails_first holds_row c.args.parts.items _ _ _ c.in-Some.ensures.steps.0 c.parts.invariant.fails) c.in_err-row_of.ensures)

pub parts-preserved : goal.parts-preserved
parts-preserved c =
    let cut = c.in-Some.ensures.steps.0 in
    record {
      can_next = tt;
      is_finite = tt;
      rows = item_on _ _ _ _ _ _ _ cut c.in_ok-row_of.ensures c.in_ok-push.ensures.items c.parts.invariant.rows;
      fails = fails_on holds_row c.args.parts.items _ _ _ cut c.parts.invariant.fails;
    }
