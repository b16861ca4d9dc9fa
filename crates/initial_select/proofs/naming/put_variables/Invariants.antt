use Rattle.std.proofs.Common.{◌≡◌, filter_map, drop}
use Rattle.std.specs.List.{fold}
use Rattle.deploy_model.specs.Rules.{variable_of}
use Rattle.router_steps.specs.Selection.{with_variable}
use Rattle.initial_select.specs.Candidates.{candidate_of}
use Rattle.initial_select.proofs.naming.put_variables.Given as goal

-- the variables so far stand in the name
abbrev pub invariant-loop-word : goal.invariant-loop-word
invariant-loop-word l = fold (with_variable (candidate_of l.candidate) l.custom) l.name (filter_map variable_of (drop l.word-index l.words)) ≡ fold (with_variable (candidate_of l.candidate) l.custom) l.initial.name (filter_map variable_of l.words)
