use Rattle.std.proofs.Common.{◌≡◌, ◌++◌, drop}
use Rattle.std.specs.Prelude.{filter_map}
use Rattle.script_meaning.specs.Removal.{text_in}
use Rattle.rollback_calls.proofs.parting.texts_of.Given as goal

-- the texts so far and those that are left are all
abbrev pub invariant-effects : goal.invariant-effects
invariant-effects l = l.texts.items ++ filter_map text_in (drop l.effect-index l.effects) ≡ filter_map text_in l.effects
