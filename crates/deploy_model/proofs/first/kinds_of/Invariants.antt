use Rattle.std.proofs.Common.{◌≡◌, ℕ, List, drop}
use Rattle.deploy_model.specs.Firsts.{answer_of}
use Rattle.deploy_model.specs.Rules.{or_later}
use Rattle.deploy_model.specs.Tables.{kind_of}
use Rattle.deploy_model.proofs.first.kinds_of.Given as goal

abbrev pub invariant-loop-name : goal.invariant-loop-name
invariant-loop-name l = (q : List ℕ) → or_later (answer_of l.kinds q) (kind_of (drop l.name-index l.fields) q) ≡ kind_of l.fields q
