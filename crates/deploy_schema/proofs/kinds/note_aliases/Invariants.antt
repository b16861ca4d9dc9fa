use Rattle.std.proofs.Common.{◌≡◌, ℕ, List}
use Rattle.serde_json.specs.View.{view, members_view}
use Rattle.deploy_model.specs.Rules.{or_later}
use Rattle.deploy_schema.specs.Numbers.{answer_of}
use Rattle.deploy_schema.specs.Names.{attribute_kind, alias_in}
use Rattle.deploy_schema.proofs.kinds.note_aliases.Given as goal

abbrev pub invariant-loop-name : goal.invariant-loop-name
invariant-loop-name l = (q : List ℕ) →
    or_later (answer_of l.kinds q) (alias_in (attribute_kind (view l.block)) (members_view l.name-iterator) q)
    ≡ or_later (answer_of l.initial.kinds q) (alias_in (attribute_kind (view l.block)) (members_view l.aliases.entries) q)
