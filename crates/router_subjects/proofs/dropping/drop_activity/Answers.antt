use Rattle.std.proofs.Common.{◌∙◌}
use Rattle.router_draft.specs.Drafts.{laid}
use Rattle.router_subjects.proofs.DropLemmas.{dropped_so}
use Rattle.router_subjects.proofs.dropping.drop_activity.Goals as goal

pub returns-clause-state : goal.returns-clause-state
returns-clause-state g c =
    let s = g.C.Base.state c.args.closing.now in
    dropped_so c.args.activity c.deref.result.now s (laid s c.args.draft.now) (laid s c.forget_masks.new.draft) (laid s c.change.new.draft) (laid s c.leave_services.new.draft)
    c.requires.popped (c.deref.ensures.value ∙ c.in_ok-entities.ensures) c.in_ok-forget_masks.ensures.state c.in_ok-change.ensures.state c.in_ok-leave_services.ensures.state
