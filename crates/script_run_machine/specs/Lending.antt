-- The value that is lent, and that which stands in a place while terms run: they change neither variables nor effects.
use Rattle.std.specs.Prelude.{pos, List, Option, Some, None, slice_get}
use Rattle.slee_value.specs.declared.value.Value.TheVariants as v
use Rattle.slee_effect.specs.declared.value.Val.{Val}
use Rattle.slee_effect.specs.declared.value.Val.TheVariants.{Plain}
use Rattle.slee_effect.specs.declared.effect.Effect.{Effect}
use Rattle.slee_effect.specs.declared.effect.Effect.TheVariants as ef
use Rattle.script_meaning.specs.Answers.{initial}
use Rattle.script_meaning.specs.Running.{Variable}
use Rattle.script_run_machine.specs.Machines.{MachineState}
use Rattle.script_meaning.specs.Values.{int}
use Rattle.script_run_machine.specs.Variables.{value_in}
use Rattle.script_run_machine.specs.declared.lent.Lent.{Lent}
use Rattle.script_run_machine.specs.declared.lent.Lent.TheVariants as lent
use Rattle.script_run_machine.specs.declared.places.Place.{Place}
use Rattle.script_run_machine.specs.declared.places.Place.TheVariants as place

abbrev pub value_lent : Lent → Val
value_lent (lent.Set x) = x.now
value_lent (lent.Held value) = Plain value.now
value_lent (lent.Text t) = Plain (v.Text t.now)
value_lent (lent.Initial q) = initial q

-- what a run holds that terms don't change: its variables and its effects
unfoldable pub standing : MachineState → List Variable × List Effect
standing st = (st.variables, st.effects)

-- the value of a variable, and that which an effect gives to a field or an attribute; where there is none, a number
abbrev pub or_nothing : Option Val → Val
or_nothing None = int (pos 0)
or_nothing (Some x) = x

abbrev pub held_by : Option Variable → Val
held_by None = int (pos 0)
held_by (Some x) = or_nothing (value_in x)

abbrev pub set_by : Option Effect → Val
set_by (Some (ef.SetField e name x)) = x
set_by (Some (ef.SetAttr a key x)) = x
set_by _ = int (pos 0)

abbrev pub value_at : List Variable × List Effect → Place → Val
value_at held (place.Outside x) = value_lent x
value_at held (place.Variable i) = held_by (slice_get held.0 i)
value_at held (place.Effect i) = set_by (slice_get held.1 i)
value_at held (place.Made x) = x
