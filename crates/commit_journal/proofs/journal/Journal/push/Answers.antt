use Rattle.std.proofs.Common.{◌+◌, ◌≤◌, ap, ◌∙◌, length}
use Rattle.commit_journal.proofs.Sound.{sound_more, more_view}
use Rattle.commit_journal.proofs.Renewals.{moved}
use Rattle.commit_journal.proofs.journal.Journal.push.Goals as goal

pub invariant_of-self-2 : goal.invariant_of-self-2
invariant_of-self-2 g c =
    let stage = ap (λ v. v.stage) c.self.view_is ∙ c.requires.ready in
    let room = moved _ _ (λ v. v.length + (5 + length c.args.payload.now) ≤ v.limit) c.self.view_is c.requires.room in
    sound_more _ _ _ c.self.inside.batch _ _ c.self.invariant stage c.args.payload.now _ c.in_ok-push.ensures.ok room

pub returns-clause-ok : goal.returns-clause-ok
returns-clause-ok g c = rw (← c.self.view_is) (more_view _ _ _ _ _ c.self.inside.end c.self.inside.batch c.push.new.self c.args.payload.now c.in_ok-push.ensures.ok)
