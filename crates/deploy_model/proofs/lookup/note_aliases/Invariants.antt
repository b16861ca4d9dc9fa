use Rattle.std.proofs.Common.{◌≡◌, ℕ, List, drop}
use Rattle.deploy_model.specs.Firsts.{answer_of}
use Rattle.deploy_model.specs.Rules.{or_later}
use Rattle.deploy_model.specs.Tables.{alias_in}
use Rattle.deploy_model.proofs.lookup.note_aliases.Given as goal

abbrev pub invariant-loop-name : goal.invariant-loop-name
invariant-loop-name l = (q : List ℕ) →
    or_later (answer_of l.kinds q) (alias_in (answer_of l.attributes) (drop l.name-index l.aliases) q)
    ≡ or_later (answer_of l.initial.kinds q) (alias_in (answer_of l.attributes) l.aliases q)
