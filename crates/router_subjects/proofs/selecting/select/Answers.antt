use Rattle.router_subjects.proofs.RootLemmas.{selected_lines}
use Rattle.router_subjects.proofs.selecting.select.Goals as goal

pub returns-clause-lines : goal.returns-clause-lines
returns-clause-lines g c =
    selected_lines c.args.due.activity c.args.due.event.0 c.args.due.service c.args.key.now c.args.root (g.S.Base.state c.args.setting.now) c.args.draft.now c.tell-2.new.self c.change.new.draft c.attach_root.new.draft _
    c.requires.can c.in_ok-heading.ensures c.in_ok-tell.ensures.changes c.in_ok-tell.ensures.lines c.in_ok-change.ensures.state c.in_ok-change.ensures.lines c.in_ok-attach_root.ensures.lines
