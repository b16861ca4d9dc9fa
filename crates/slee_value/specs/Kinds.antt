-- The types of values.
use Rattle.slee_value.specs.declared.kind.Kind.{Kind}
use Rattle.slee_value.specs.declared.kind.Kind.TheVariants as kinds
use Rattle.slee_value.specs.declared.value.Value.{Value}
use Rattle.slee_value.specs.declared.value.Value.TheVariants.{Int, Text, Bool, Activity, Timer}

-- the type of a value
abbrev pub kind_of : Value → Kind
kind_of (Int number) = kinds.Int
kind_of (Text text) = kinds.Text
kind_of (Bool flag) = kinds.Bool
kind_of (Activity activity) = kinds.Activity
kind_of (Timer timer) = kinds.Timer
