-- What the check of a statement answers: the variables behind it with its step, or its fault. Want of memory alone is free.
use Rattle.std.specs.Prelude.{◌≡◌, Result, Ok, Err}
use Rattle.script_types.specs.ProgramOf.{step_of}
use Rattle.script_types.specs.Scopes.{Scope}
use Rattle.script_types.specs.TypingResult.{Checked}
use Rattle.script_types.specs.ElaborationOfStatements.{Made}
use Rattle.script_check_terms.specs.declared.fault.ScriptFault.{ScriptFault}
use Rattle.script_check_terms.specs.Answers.{Refuses}
use Rattle.script_check_steps.specs.declared.made.MadeStep.{MadeStep}

abbrev pub Makes : Result MadeStep ScriptFault → Scope → Checked Made → Type 0
Makes (Ok made) scope found = found ≡ Ok (record { scope = scope; step = step_of made.step })
Makes (Err fault) scope found = Refuses found fault

-- that a name stands for something
abbrev pub Knows : {A B : Type 0} → Result A ScriptFault → Checked B → Type 0
Knows {B = B} (Ok x) found = (y : B) × (found ≡ Ok y)
Knows (Err fault) found = Refuses found fault
