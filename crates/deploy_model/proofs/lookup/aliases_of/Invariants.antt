use Rattle.std.proofs.Common.{◌≡◌, ℕ, List, drop}
use Rattle.deploy_model.specs.Firsts.{answer_of}
use Rattle.deploy_model.specs.Rules.{or_later}
use Rattle.deploy_model.specs.Tables.{alias_kind}
use Rattle.deploy_model.proofs.lookup.aliases_of.Given as goal

abbrev pub invariant-loop-block : goal.invariant-loop-block
invariant-loop-block l = (q : List ℕ) → or_later (answer_of l.kinds q) (alias_kind (drop l.block-index l.blocks) q) ≡ alias_kind l.blocks q
