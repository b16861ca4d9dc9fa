use Rattle.std.proofs.Common.{rules, ◌≡◌, length, get_or, sym, subst}
use Rattle.std.specs.Fork.{ChangesAt, ChangesEach}
use Rattle.worker_threads.proofs.SeatLemmas.{take_front}
use Rattle.worker_threads.proofs.jobs.each_of.Goals as goal

pub returns-clause-each : goal.returns-clause-each
returns-clause-each g c i d h =
    let whole : length c.for_each_mut.new.s ≡ c.args.items.now.len = search rules in
    let each : ChangesEach g.F.Fn c.args.f.now c.args.items.now.items c.for_each_mut.new.s = subst (λ xs. ChangesEach g.F.Fn c.args.f.now xs c.for_each_mut.new.s) c.as_mut_slice.ensures.value c.for_each_mut.ensures in
    subst (λ zs. (get_or zs i d ≡ get_or zs i d) × ChangesAt g.F.Fn c.args.f.now i (get_or c.args.items.now.items i d) (get_or zs i d)) (sym (take_front c.args.items.now.len c.for_each_mut.new.s _ whole))
    (each i d h)
