use Rattle.std.proofs.Common.{List, Some, subst, ℕ}
use Rattle.slee_disk.specs.MemoryDisk.{state_of}
use Rattle.slee_run.specs.Headline.{IsLegalRun}
use Rattle.slee_run.specs.Words.{texts}
use Rattle.slee_run.proofs.TwiceLemmas.{blank_rest, one_history}
use Rattle.slee_run.proofs.twice.play_twice.Goals as goal

pub returns : goal.returns
returns g c = λ mode steps d plays given fine good.
    one_history (texts c.args.words.now) mode steps d c.args.deploy.now _ _ _ _ _ _ _ _ _ _ given (blank_rest _ _ _ c.new.ensures c.new-2.ensures c.in_ok-disk.ensures.rest) plays fine good
    (subst (λ (b : List ℕ). IsLegalRun (texts c.args.words.now) (Some b) (Some c.args.lines) (Some c.args.out.now.held) (Some c.play-first.new.out.held) (state_of c.in_ok-disk.disk) (state_of c.play-first.result.1) c.play-first.result.0) c.in_ok-document.ensures c.play-first.ensures.run)
    (subst (λ (b : List ℕ). IsLegalRun (texts c.args.words.now) (Some b) (Some c.args.more) (Some c.play-first.new.out.held) (Some c.play-second.new.out.held) (state_of c.play-first.result.1) (state_of c.play-second.result.1) c.play-second.result.0) c.in_ok-again.ensures c.play-second.ensures.run)
