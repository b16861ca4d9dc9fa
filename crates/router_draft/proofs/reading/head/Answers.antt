-- the front of the queue, with the changes over it, has the head event
use Rattle.std.proofs.Common.{take, ap, ◌∙◌}
use Rattle.router_draft.specs.Drafts.{laid}
use Rattle.router_draft.proofs.FrontLemmas.{read_laid}
use Rattle.router_draft.proofs.QueueLemmas.{head_first, head_nothing}
use Rattle.router_draft.proofs.reading.head.Goals as goal

pub returns-in-empty : goal.returns-in-empty
returns-in-empty g c =
    let s = g.B.Base.state c.args.base.now in
    let front = read_laid c.args.draft.now.changes c.changes-changes.result.now s c.args.activity.0 c.count_popped-popped.result _ c.ordered.ensures.ordered c.changes-changes.ensures.changes c.count_popped-popped.ensures.number c.in_ok-all.ensures in
    head_nothing (laid s c.args.draft.now).events c.args.activity.0 c.as_slice.result.now (ap (take 1) (c.as_slice.ensures.value ∙ c.in_ok-waiting_through.ensures) ∙ front) c.in-empty.len_below

pub returns : goal.returns
returns g c =
    let s = g.B.Base.state c.args.base.now in
    let front = read_laid c.args.draft.now.changes c.changes-changes.result.now s c.args.activity.0 c.count_popped-popped.result _ c.ordered.ensures.ordered c.changes-changes.ensures.changes c.count_popped-popped.ensures.number c.in_ok-all.ensures in
    head_first (laid s c.args.draft.now).events c.args.activity.0 c.as_slice.result.now (ap (take 1) (c.as_slice.ensures.value ∙ c.in_ok-waiting_through.ensures) ∙ front) c.in-len1-up.len_at_least
