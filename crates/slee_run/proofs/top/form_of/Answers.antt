use Rattle.std.proofs.Common.{◌∙◌, ap, sym}
use Rattle.slee_run.specs.Words.{is_in_range}
use Rattle.slee_run.proofs.CrewLemmas.{one_play, one_resume}
use Rattle.slee_run.proofs.TopLemmas.{few_lines, small_seed}
use Rattle.slee_run.proofs.top.form_of.Goals as goal

pub seeded_by-requires-clause-seed : goal.seeded_by-requires-clause-seed
seeded_by-requires-clause-seed c = small_seed c.in-Gen.seed c.in-Gen.count (ap is_in_range (sym c.in-Gen.is) ∙ c.requires.range)

pub seeded_by-requires-clause-count : goal.seeded_by-requires-clause-count
seeded_by-requires-clause-count c = few_lines c.in-Gen.seed c.in-Gen.count (ap is_in_range (sym c.in-Gen.is) ∙ c.requires.range)

pub seeded_by-requires-in-Trial-clause-seed : goal.seeded_by-requires-in-Trial-clause-seed
seeded_by-requires-in-Trial-clause-seed c = small_seed c.in-Trial.seed c.in-Trial.count (ap is_in_range (sym c.in-Trial.is) ∙ c.requires.range)

pub seeded_by-requires-in-Trial-clause-count : goal.seeded_by-requires-in-Trial-clause-count
seeded_by-requires-in-Trial-clause-count c = few_lines c.in-Trial.seed c.in-Trial.count (ap is_in_range (sym c.in-Trial.is) ∙ c.requires.range)

pub returns-in-Play : goal.returns-in-Play
returns-in-Play c = one_play c.args.command c.in-Play.workers c.in-Play.steps c.run_of.result c.in-Play.is c.requires.one c.run_of.ensures

pub returns-in-Resume : goal.returns-in-Resume
returns-in-Resume c = one_resume c.args.command c.in-Resume.workers c.in-Resume.steps c.run_of-in-Resume.result c.in-Resume.is c.requires.one c.run_of-in-Resume.ensures
