use Rattle.std.proofs.Common.{sym}
use Rattle.slee_run.proofs.TogetherLemmas.{complete_one, complete_run, crew_opens, many_failed, none_asks, some_asks}
use Rattle.slee_run.proofs.starting.run.Goals as goal

pub returns-in-Some-clause-headline : goal.returns-in-Some-clause-headline
returns-in-Some-clause-headline g c = λ one. absurd (some_asks _ c.in-Some.field-0 c.in-Some.ensures.crew one)

pub returns-in-Some-clause-headline_many : goal.returns-in-Some-clause-headline_many
returns-in-Some-clause-headline_many g c = λ some. c.run_many.ensures.headline

pub returns-in-Some-clause-complete : goal.returns-in-Some-clause-complete
returns-in-Some-clause-complete g c = complete_run _ _ _ (g.D.Disk.disk c.args.disk) _ _ c.in-Some.field-0 (sym c.in-Some.ensures.crew) c.run_many.ensures.complete

pub returns-in-Some-clause-read : goal.returns-in-Some-clause-read
returns-in-Some-clause-read g c = c.run_many.ensures.read

pub returns-in-Some-clause-write : goal.returns-in-Some-clause-write
returns-in-Some-clause-write g c = c.run_many.ensures.write

pub returns-in-Some-clause-disk : goal.returns-in-Some-clause-disk
returns-in-Some-clause-disk g c = λ is. many_failed _ _ _ _ _ (g.D.Disk.disk c.args.disk) (g.D.Disk.disk c.run_many.result.1) _ c.run_many.ensures.headline is

pub returns-in-Some-clause-untouched : goal.returns-in-Some-clause-untouched
returns-in-Some-clause-untouched g c = c.run_many.ensures.untouched

pub returns-in-None-clause-headline : goal.returns-in-None-clause-headline
returns-in-None-clause-headline g c = λ one. c.run_one.ensures.headline

pub returns-in-None-clause-headline_many : goal.returns-in-None-clause-headline_many
returns-in-None-clause-headline_many g c = λ some. absurd (none_asks _ c.in-None.ensures.crew some)

pub returns-in-None-clause-complete : goal.returns-in-None-clause-complete
returns-in-None-clause-complete g c =
    complete_one _ _ _ (g.D.Disk.disk c.args.disk) _ _ (sym c.in-None.ensures.crew) c.run_one.ensures.complete c.run_one.ensures.complete_trial c.run_one.ensures.complete_task c.run_one.ensures.checked

pub returns-in-None-clause-read : goal.returns-in-None-clause-read
returns-in-None-clause-read g c = c.run_one.ensures.read

pub returns-in-None-clause-write : goal.returns-in-None-clause-write
returns-in-None-clause-write g c = c.run_one.ensures.write

pub returns-in-None-clause-disk : goal.returns-in-None-clause-disk
returns-in-None-clause-disk g c = c.run_one.ensures.disk

pub returns-in-None-clause-untouched : goal.returns-in-None-clause-untouched
returns-in-None-clause-untouched g c = c.run_one.ensures.untouched

pub returns-in-Some-clause-idle : goal.returns-in-Some-clause-idle
returns-in-Some-clause-idle g c = λ closed. absurd (closed (crew_opens _ c.in-Some.field-0 (sym c.in-Some.ensures.crew)))

pub returns-in-None-clause-idle : goal.returns-in-None-clause-idle
returns-in-None-clause-idle g c = c.run_one.ensures.idle

pub run_one-requires : goal.run_one-requires
run_one-requires g c = sym c.in-None.ensures.crew
