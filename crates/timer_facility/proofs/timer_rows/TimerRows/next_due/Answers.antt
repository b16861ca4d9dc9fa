-- the first entry behind the last one is that of a due timer, or none is left
use Rattle.std.proofs.Common.{◌≡◌, true, false, sym, arith}
use Rattle.std.specs.Prelude.{nat_le}
use Rattle.std.proofs.lemmas.Bool.Decides.{nat_tests}
use Rattle.timer_facility.proofs.WalkLemmas.{next_is, none_behind, none_due}
use Rattle.timer_facility.proofs.timer_rows.TimerRows.next_due.Goals as goal

pub returns-then-next-to-clause-next : goal.returns-then-next-to-clause-next
returns-then-next-to-clause-next c =
    let low = c.if-next-to.true in
    let due : nat_le c.in-Some.next.now.key c.args.to ≡ true = grind (arith, nat_tests, low) in
    rw (← c.self.view_is) (next_is c.args.entry c.args.to c.self.inside.rows.rows c.self.inside.by_moment.rows c.self.invariant.rises c.self.invariant.moments c.in-Some.next.now (sym c.in-Some.ensures) due)

pub returns-else-next-to-clause-next : goal.returns-else-next-to-clause-next
returns-else-next-to-clause-next c =
    let high = c.if-next-to.false in
    let late : nat_le c.in-Some.next.now.key c.args.to ≡ false = grind (arith, nat_tests, high) in
    rw (← c.self.view_is) (none_due c.args.entry c.args.to c.self.inside.rows.rows c.self.inside.by_moment.rows c.self.invariant.rises c.self.invariant.moments c.in-Some.next.now (sym c.in-Some.ensures) late)

pub returns-in-None-clause-next : goal.returns-in-None-clause-next
returns-in-None-clause-next c =
    rw (← c.self.view_is) (none_behind c.args.entry c.args.to c.self.inside.rows.rows c.self.inside.by_moment.rows c.self.invariant.rises c.self.invariant.moments (sym c.in-None.ensures))
