use Rattle.std.proofs.Common.{◌≡◌, ℕ, List, drop}
use Rattle.serde_json.specs.View.{items_view}
use Rattle.deploy_model.specs.Rules.{or_later}
use Rattle.deploy_schema.specs.Numbers.{answer_of}
use Rattle.deploy_schema.specs.Names.{alias_kind}
use Rattle.deploy_schema.proofs.kinds.aliases_of.Given as goal

abbrev pub invariant-loop-block : goal.invariant-loop-block
invariant-loop-block l = (q : List ℕ) → or_later (answer_of l.kinds q) (alias_kind (items_view (drop l.block-index l.blocks)) q) ≡ alias_kind (items_view l.blocks) q
