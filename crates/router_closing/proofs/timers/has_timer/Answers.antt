use Rattle.std.proofs.Common.{◌≡◌, ◌==◌, ap, ◌∙◌, length, vec_len, rules}
use Rattle.std.specs.Prelude.{not}
use Rattle.router_closing.proofs.TimerLemmas.{timer_seen}
use Rattle.router_closing.proofs.timers.has_timer.Goals as goal

pub returns : goal.returns
returns g c =
    let same : vec_len c.timers_through.new.all ≡ length c.timers_through.new.all.items = search rules in
    ap not c.is_empty.ensures ∙ ap (λ n. not (n == 0)) same
    ∙ timer_seen (g.C.Base.state c.args.setting.now) c.args.draft.now.changes c.changes.result.now c.next_timer.result c.args.activity.0 c.in_ok-all.all.items c.timers_through.new.all.items c.changes.ensures.changes c.next_timer.ensures c.in_ok-all.ensures c.in_ok-timers_through.ensures
