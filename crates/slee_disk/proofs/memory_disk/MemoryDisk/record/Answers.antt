use Rattle.std.proofs.Common.{ap, length, rules, arith, length-drop}
use Rattle.slee_disk.proofs.Recording.{held_more}
use Rattle.slee_disk.proofs.memory_disk.MemoryDisk.record.Goals as goal

pub invariant_of-self-then-failed : goal.invariant_of-self-then-failed
invariant_of-self-then-failed c = record {
  held_is = held_more c.self.inside.calls.items c.push.new.self.items c.args.side c.args.act c.next-failed.result _ c.self.inside.held c.apply.new.pair c.self.invariant.held_is (search rules) (search rules);
  room = omega (arith, c.self.invariant.room, ap length c.next-failed.ensures.rest, length-drop 1 c.self.inside.fail, c.in-Ok.ensures.len, c.in-Ok.ensures.ok, c.in-Ok.ensures.capacity, c.push.ensures.upper_bound, c.push.ensures.capacity);
}

pub invariant_of-self-else-failed : goal.invariant_of-self-else-failed
invariant_of-self-else-failed c = record {
  held_is = held_more c.self.inside.calls.items c.push.new.self.items c.args.side c.args.act c.next-failed.result _ c.self.inside.held c.apply.new.pair c.self.invariant.held_is (search rules) (search rules);
  room = omega (arith, c.self.invariant.room, ap length c.next-failed.ensures.rest, length-drop 1 c.self.inside.fail, c.in-Ok.ensures.len, c.in-Ok.ensures.ok, c.in-Ok.ensures.capacity, c.push.ensures.upper_bound, c.push.ensures.capacity);
}
