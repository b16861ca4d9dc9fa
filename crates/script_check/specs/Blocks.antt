-- What the check of statements one behind another answers: the variables behind them with their steps, or their first fault. Want of memory alone is free.
use Rattle.std.specs.Prelude.{◌≡◌, Result, Ok, Err}
use Rattle.script_types.specs.Program.{Steps}
use Rattle.script_types.specs.ProgramOf.{steps_of}
use Rattle.script_types.specs.Scopes.{Scope}
use Rattle.script_types.specs.TypingResult.{Checked}
use Rattle.script_types.specs.ElaborationOfStatements.{MadeAll}
use Rattle.script_check_terms.specs.declared.fault.ScriptFault.{ScriptFault}
use Rattle.script_check_terms.specs.Answers.{Refuses}
use Rattle.script_check.specs.declared.blocks.MadeSteps.{MadeSteps}

abbrev pub MakesAll : Result MadeSteps ScriptFault → Scope → Checked MadeAll → Type 0
MakesAll (Ok made) scope found = found ≡ Ok (record { scope = scope; steps = steps_of made.steps.items })
MakesAll (Err fault) scope found = Refuses found fault

-- the same of a block or a whole script, behind which its variables are forgotten
abbrev pub MakesSteps : {X : Type 0} → (X → Steps) → Result X ScriptFault → Checked MadeAll → Type 0
MakesSteps steps (Ok x) found = (inner : Scope) × (found ≡ Ok (record { scope = inner; steps = steps x }))
MakesSteps steps (Err fault) found = Refuses found fault
