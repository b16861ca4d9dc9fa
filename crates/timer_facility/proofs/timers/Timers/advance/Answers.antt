-- those that go on keep their numbers
use Rattle.std.proofs.Common.{refl}
use Rattle.std.specs.List.{filter}
use Rattle.router_state.specs.Timers.{behind, due_count, goes_on}
use Rattle.router_state.specs.declared.rows.Timer.{Timer}
use Rattle.rows_sorted.proofs.NumberLemmas.{below_filter, below_map}
use Rattle.timer_facility.proofs.timers.Timers.advance.Goals as goal

pub invariant_of-self : goal.invariant_of-self
invariant_of-self c =
    let goes = λ (t : Timer). goes_on t (due_count t c.args.to) in
    let number = λ (row : Timer). row.number.0 in
    rw c.advance.ensures.timers
    (below_map number c.self.inside.next (λ (t : Timer). behind t (due_count t c.args.to)) (λ x. refl) (filter goes c.self.inside.rows.timers) (below_filter number c.self.inside.next goes c.self.inside.rows.timers c.self.invariant))
