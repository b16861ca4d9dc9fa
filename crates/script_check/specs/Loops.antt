-- What is found of a `for`: the variables inside it with what it goes over, or its fault. Want of memory alone is free.
use Rattle.std.specs.Prelude.{◌≡◌, Result, Ok, Err}
use Rattle.script_types.specs.declared.step.Range.{Range}
use Rattle.script_types.specs.Scopes.{Scope}
use Rattle.script_types.specs.TypingResult.{Checked}
use Rattle.script_types.specs.ElaborationOfStatements.{Loop}
use Rattle.script_check_terms.specs.declared.fault.ScriptFault.{ScriptFault}
use Rattle.script_check_terms.specs.Answers.{Refuses}

abbrev pub Goes : Result Range ScriptFault → Scope → Checked Loop → Type 0
Goes (Ok range) scope found = found ≡ Ok (record { scope = scope; range = range })
Goes (Err fault) scope found = Refuses found fault
