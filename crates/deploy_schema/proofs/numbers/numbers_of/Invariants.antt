use Rattle.std.proofs.Common.{◌≡◌, ℕ, List, drop}
use Rattle.serde_json.specs.View.{items_view}
use Rattle.deploy_model.specs.Rules.{or_later}
use Rattle.deploy_schema.specs.Numbers.{numbers_from, answer_of}
use Rattle.deploy_schema.proofs.numbers.numbers_of.Given as goal

abbrev pub invariant-loop-i : goal.invariant-loop-i
invariant-loop-i l = (q : List ℕ) → or_later (answer_of l.numbers q) (numbers_from l.name l.i (items_view (drop l.i l.items)) q) ≡ numbers_from l.name 0 (items_view l.items) q
