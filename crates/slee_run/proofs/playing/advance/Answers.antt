use Rattle.std.proofs.Common.{sym, subst, Option}
use Rattle.slee_run.specs.Playing.{Advances}
use Rattle.slee_run.specs.declared.playing.End.{End}
use Rattle.slee_run.proofs.AdvanceLemmas.{done_is, line_advances, next_line, not_idle, not_stopped, spent_is, step_advances}
use Rattle.slee_run.proofs.playing.advance.Goals as goal

pub returns-in-Done-clause-advances : goal.returns-in-Done-clause-advances
returns-in-Done-clause-advances g c = done_is c.args.container.now c.requires.live c.requires.claims c.in-Done.ensures.work

pub returns-in-Spent-clause-advances : goal.returns-in-Spent-clause-advances
returns-in-Spent-clause-advances g c = spent_is c.args.container.now c.requires.live c.requires.claims c.in-Spent.ensures.work

pub returns-in-Line-clause-advances : goal.returns-in-Line-clause-advances
returns-in-Line-clause-advances g c =
    subst (λ (e : Option End). Advances c.args.container.now e c.take_input.new.self) (sym c.end_of.ensures)
    (line_advances c.args.container.now c.requires.live c.requires.claims c.take_input.result c.take_input.new.self _ _ c.in-Line.ensures.work
    c.in-Line.ensures.offers.1 c.take_input.ensures.claims c.take_input.ensures.step)

pub returns-in-Step-clause-advances : goal.returns-in-Step-clause-advances
returns-in-Step-clause-advances g c =
    subst (λ (e : Option End). Advances c.args.container.now e c.step.new.container) (sym c.end_of-in-Step.ensures)
    (step_advances c.args.container.now c.requires.live c.requires.claims c.in-Step.activity.0 c.in-Step.kindred c.step.result c.step.new.container c.in-Step.ensures.work c.step.ensures.moves)

pub returns-in-Line-clause-setup : goal.returns-in-Line-clause-setup
returns-in-Line-clause-setup g c =
    let line = next_line c.args.container.now.setup.lines c.args.container.now.taken c.in-Line.ensures.offers.1 in
    (c.take_input.ensures.step line.signal line.at).setup

pub unreachable-requires : goal.unreachable-requires
unreachable-requires g c = not_stopped c.args.container.now c.requires.live c.requires.claims _ c.in-Stopped.ensures.work

pub unreachable-requires-in-Idle : goal.unreachable-requires-in-Idle
unreachable-requires-in-Idle g c = not_idle c.args.container.now c.requires.live c.requires.claims _ c.in-Idle.ensures.work

pub take_input-requires-clause-left : goal.take_input-requires-clause-left
take_input-requires-clause-left g c = c.in-Line.ensures.offers.1

pub step-requires-clause-next : goal.step-requires-clause-next
step-requires-clause-next g c = c.in-Step.ensures.offers.1
