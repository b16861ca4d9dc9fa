use Rattle.std.proofs.Common.{◌≡◌, ◌-◌, take, length}
use Rattle.script_run_reads.specs.Done.{sets_property, last_set}
use Rattle.script_run_reads.proofs.fields.last_set.Given as goal

-- those behind set another property
abbrev pub invariant-effects : goal.invariant-effects
invariant-effects l = last_set (sets_property l.property) (take (length l.effects - l.behind) l.effects) ≡ last_set (sets_property l.property) l.effects
