use Rattle.std.proofs.Common.{inl, inr, refl, sym}
use Rattle.slee_run.specs.declared.status.Status.TheVariants as statuses
use Rattle.slee_run.proofs.finishing.finish_history.Goals as goal

pub returns-in-Ok-clause-finished : goal.returns-in-Ok-clause-finished
returns-in-Ok-clause-finished g c = record {
  stood = c.args.stood;
  text = _;
  reported = record { reached = c.requires.reached; prints = inl (refl, refl) };
  output = c.finish_whole.ensures.output;
}

pub returns-in-Ok-clause-which : goal.returns-in-Ok-clause-which
returns-in-Ok-clause-which g c = λ written found. sym (c.finish_whole.ensures.output.whole written).0

pub returns-in-Err-clause-finished : goal.returns-in-Err-clause-finished
returns-in-Err-clause-finished g c = record {
  stood = statuses.NoMemory;
  text = _;
  reported = record { reached = c.requires.reached; prints = inr (refl, refl) };
  output = c.finish_short.ensures.output;
}

pub returns-in-Err-clause-which : goal.returns-in-Err-clause-which
returns-in-Err-clause-which g c = λ written found. absurd (found (sym (c.finish_short.ensures.output.whole written).0))
