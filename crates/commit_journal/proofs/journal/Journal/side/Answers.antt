use Rattle.commit_journal.proofs.Sizes.{length-stands}
use Rattle.commit_journal.proofs.journal.Journal.side.Goals as goal

pub returns-clause-whole : goal.returns-clause-whole
returns-clause-whole g c = rw (← c.self.view_is) (λ ready told. length-stands _ _ _ (c.self.invariant.ready ready told))
