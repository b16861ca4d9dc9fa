-- where no leaf is left, the row stands among the others
use Rattle.std.proofs.Common.{◌≡◌, [], ◌∙◌, sym, refl, arith, length}
use Rattle.std.proofs.lemmas.Option.{slice_get_past, slice_get_read}
use Rattle.rows_leaves.proofs.JoinLemmas.{empty_is}
use Rattle.rows_leaves.proofs.runs.row_behind.Goals as goal

pub returns-then-rest-back : goal.returns-then-rest-back
returns-then-rest-back g c =
    let none : c.leaves.left.now ≡ [] = empty_is c.leaves.left.now c.in_default.ensures.cases in
    sym (slice_get_read c.args.back.now (length c.args.back.now) c.leaves.rest c.index-back-rest.result refl c.if-rest-back.true c.index-back-rest.is) ∙ (rw none at c.leaves.invariant)

pub returns-else-rest-back : goal.returns-else-rest-back
returns-else-rest-back g c =
    let none : c.leaves.left.now ≡ [] = empty_is c.leaves.left.now c.in_default.ensures.cases in
    sym (slice_get_past c.args.back.now c.leaves.rest (omega (arith, c.if-rest-back.false))) ∙ (rw none at c.leaves.invariant)
