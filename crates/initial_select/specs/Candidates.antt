-- An event that may select a root, as code has it, and a custom selection by its rule and field.
use Rattle.std.specs.Prelude.{ℕ, List}
use denote.Bor.{Bor}
use Rattle.deploy_model.specs.Deployed.{CustomChoice}
use Rattle.deploy_model.specs.declared.choice.SelectRule.{SelectRule}
use Rattle.router_steps.specs.Selection.{Candidate as ACandidate}
use Rattle.initial_select.specs.declared.naming.Candidate.{Candidate}

-- The event as selection goes by it.
abbrev pub candidate_of : Candidate → ACandidate
candidate_of c = record { activity = c.activity.0; event = c.event.0; name = c.name.now; fields = c.fields.now }

-- The custom selection of a rule and a field.
abbrev pub choice_of : SelectRule × Bor (List ℕ) → CustomChoice
choice_of x = record { rule = x.0; field = x.1.now }
