-- the last event apart from those before it
use Rattle.std.proofs.Common.{◌≡◌, true, false, map, ap, sym, ◌∙◌}
use Rattle.std.specs.Prelude.{◌&&◌}
use Rattle.router_state.specs.WellQueues.{has_no_end, is_end}
use Rattle.router_state.specs.declared.rows.Queued.{Queued}
use Rattle.snapshot_check_rows.proofs.QueueLemmas.{end_last}
use Rattle.snapshot_check_rows.proofs.queues.has_end_last.Goals as goal

pub returns-then-has_no_end : goal.returns-then-has_no_end
returns-then-has_no_end c =
    let none : has_no_end (map (λ (q : Queued). q.event) c.in-Some.before.now) ≡ true = sym c.has_no_end.ensures ∙ c.if-has_no_end.true in
    c.is_end.ensures
    ∙ ap (λ b. b && is_end c.in-Some.last.now.event) (sym none)
    ∙ end_last c.args.events.now c.in-Some.before.now c.in-Some.last.now c.in-Some.ensures.cases.0

pub returns-else-has_no_end : goal.returns-else-has_no_end
returns-else-has_no_end c =
    let some : has_no_end (map (λ (q : Queued). q.event) c.in-Some.before.now) ≡ false = sym c.has_no_end.ensures ∙ c.if-has_no_end.false in
    c.if-has_no_end.false
    ∙ ap (λ b. b && is_end c.in-Some.last.now.event) (sym some)
    ∙ end_last c.args.events.now c.in-Some.before.now c.in-Some.last.now c.in-Some.ensures.cases.0
