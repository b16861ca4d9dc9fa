-- Variables of loops and of methods, and the ways that a run goes.
use Rattle.std.specs.Prelude.{Bool, List, map, ◌++◌}
use Rattle.slee_effect.specs.declared.reference.Ref.{Ref}
use Rattle.slee_effect.specs.declared.value.Val.{Val}
use Rattle.script_types.specs.declared.step.Range.{Range}
use Rattle.script_types.specs.declared.step.Range.TheVariants as range
use Rattle.script_meaning.specs.Running.{Variable, Holds, Child, Run, ◌>>=◌, give, declare, scoped}
use Rattle.script_meaning.specs.Values.{activity_value, with_flag}
use Rattle.script_meaning.specs.Steps.{Flow, either}

-- the variable of a loop for one of its items
abbrev pub variable_in : Range → Ref → Variable
variable_in range.Activities r = Holds (activity_value r)
variable_in (range.Children relation) r = Child r

-- arguments as variables of the method
abbrev pub holding : Run (List Val) → Run (List Variable)
holding m = do
  xs ← m
  give (map Holds xs)

-- the same behind variables that are there
abbrev pub behind_others : List Variable → Run (List Val) → Run (List Variable)
behind_others variables m = do
  xs ← m
  give (variables ++ map Holds xs)

-- the truth value that a part gives
abbrev pub flag_in : Run Val → Run Bool
flag_in m = do
  x ← m
  with_flag x give

-- one of two blocks, by a truth value
abbrev pub branched : Run Val → Run Flow → Run Flow → Run Flow
branched test body other = do
  b ← flag_in test
  either b (scoped body) (scoped other)

-- a turn of a loop, with a variable of its own
abbrev pub turned : Variable → Run Flow → Run Flow
turned x body = scoped (do
  _ ← declare x
  body)
