-- What a function of the check answers: what its definition gives, or that definition's fault. Want of memory alone is free.
use Rattle.std.specs.Prelude.{◌≡◌, Result, Ok, Err}
use Rattle.script_check_terms.specs.declared.fault.ScriptFault.{ScriptFault}
use Rattle.script_check_terms.specs.declared.fault.ScriptFault.TheVariants as answers
use Rattle.script_types.specs.TypingResult.{Checked}

abbrev pub Refuses : {A : Type 0} → Checked A → ScriptFault → Type 0
Refuses found answers.NoMemory = Unit {0}
Refuses found (answers.At misuse) = found ≡ Err misuse

abbrev pub Gives : {X A : Type 0} → (X → A) → Result X ScriptFault → Checked A → Type 0
Gives view (Ok x) found = found ≡ Ok (view x)
Gives view (Err fault) found = Refuses found fault
