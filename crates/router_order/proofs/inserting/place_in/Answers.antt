-- the half in which the place lies
use Rattle.std.proofs.Common.{◌+◌, ◌-◌, ◌/◌, ◌<◌, ◌∙◌, length, sym, arith}
use Rattle.std.proofs.lemmas.Bool.Decides.{nat_tests}
use Rattle.router_order.proofs.RankLemmas.{earlier_down, front_within, get_at, goes_on, is_earlier, stops}
use Rattle.router_order.proofs.inserting.place_in.Goals as goal

pub halves-init : goal.halves-init
halves-init c =
    let within = front_within (is_earlier c.args.tree.now.rows c.args.link.now) c.args.run.now in
    record {
      low = omega arith;
      high = grind (arith, nat_tests, within, c.len-high.ensures, c.requires.count);
      within = grind (arith, nat_tests, c.len-high.ensures, c.requires.count);
    }

pub halves-preserved-then-is_earlier : goal.halves-preserved-then-is_earlier
halves-preserved-then-is_earlier c =
    let test = is_earlier c.args.tree.now.rows c.args.link.now in
    let middle = c.halves.low + (c.halves.high - c.halves.low) / 2 in
    let within : middle < length c.args.run.now = omega (arith, c.halves-test.true, c.halves.invariant.within) in
    let at = get_at middle c.args.run.now within in
    let passes = sym (c.is_earlier.ensures at.0 at.1) ∙ c.if-is_earlier.true in
    let more = goes_on test middle at.0 c.args.run.now (earlier_down c.args.tree.now.rows c.args.link.now c.args.run.now c.requires.listing) at.1 passes in
    record { low = omega (arith, more); high = c.halves.invariant.high; within = c.halves.invariant.within }

pub halves-preserved : goal.halves-preserved
halves-preserved c =
    let test = is_earlier c.args.tree.now.rows c.args.link.now in
    let middle = c.halves.low + (c.halves.high - c.halves.low) / 2 in
    let within : middle < length c.args.run.now = omega (arith, c.halves-test.true, c.halves.invariant.within) in
    let at = get_at middle c.args.run.now within in
    let fails = sym (c.is_earlier.ensures at.0 at.1) ∙ c.if-is_earlier.false in
    let less = stops test middle at.0 c.args.run.now at.1 fails in
    record { low = c.halves.invariant.low; high = less; within = omega (arith, within) }
