use Rattle.std.proofs.Common.{◌≡◌, drop}
use Rattle.deploy_model.specs.Rules.{entries}
use Rattle.deploy_model.proofs.rule.check_entries.Given as goal

abbrev pub invariant-loop-part : goal.invariant-loop-part
invariant-loop-part g l =
    entries g.A.Named.name_of (g.R.Rule.fault l.rule l.number) l.parts
    ≡ entries g.A.Named.name_of (g.R.Rule.fault l.rule l.number) (drop l.part-index l.parts)
