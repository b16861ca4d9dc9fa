-- How many tokens the small parts of statements have.
use Rattle.std.proofs.Common.{◌≡◌, length, refl}
use Rattle.script_tree.specs.declared.tree.Who.{Who}
use Rattle.script_tree.specs.declared.tree.Who.TheVariants as w
use Rattle.script_tree.specs.declared.tree.Over.{Over}
use Rattle.script_tree.specs.declared.tree.Over.TheVariants as v
use Rattle.script_tree.specs.Spelling.{spell_who, spell_over}

pub who_is_one : (who : Who) → length (spell_who who) ≡ 1
who_is_one w.Own = refl
who_is_one (w.Child name) = refl

pub over_is_one : (over : Over) → length (spell_over over) ≡ 1
over_is_one v.Activities = refl
over_is_one (v.Children name) = refl
