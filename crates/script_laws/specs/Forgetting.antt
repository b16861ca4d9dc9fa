-- A part of what a check finds.
use Rattle.std.specs.Prelude.{Result, Ok, Err}

-- That part of the result; a fault stays.
abbrev pub forget : {A B E : Type 0} → (A → B) → Result A E → Result B E
forget part (Ok x) = Ok (part x)
forget part (Err fault) = Err fault
