use Rattle.std.proofs.Common.{ap, ◌∙◌, arith}
use Rattle.std.proofs.lemmas.Result.{IfErr-weaker, on_ok_weaker}
use Rattle.commit_journal.proofs.Sound.{size_with}
use Rattle.commit_journal.proofs.journal.Journal.check_room.Goals as goal

pub returns-clause-full : goal.returns-clause-full
returns-clause-full g c = rw (← c.self.view_is) (IfErr-weaker c.check_room.result _ _ (λ full is. (is.0, is.1, omega (arith, is.1, is.2))) c.check_room.ensures.full)

pub returns-clause-fits : goal.returns-clause-fits
returns-clause-fits g c = rw (← c.self.view_is) (on_ok_weaker c.check_room.result (λ fits. fits) c.check_room.ensures.fits)

pub returns-clause-counted : goal.returns-clause-counted
returns-clause-counted g c =
    let stage = ap (λ v. v.stage) c.self.view_is ∙ c.requires.ready in
    rw (← c.self.view_is) (λ told. size_with _ _ _ c.self.inside.batch (c.self.invariant.ready stage told))
