-- Why a text is no script.
use Rattle.script_tree.specs.declared.fault.SyntaxFault.{SyntaxFault}
use Rattle.script_tree.specs.declared.fault.SyntaxFault.TheVariants as faults
use Rattle.script_tree.specs.Tree.{Bytes, Statements}
use Rattle.script_tree.specs.Reading.{Writes}
use Rattle.script_print.specs.Beginnings.{FirstMisfit}

-- a text that writes no script; or memory ran out
abbrev pub Refuses : Bytes → SyntaxFault → Type 0
Refuses text faults.NoMemory = Unit {0}
Refuses text (faults.At line column kind) = (script : Statements) → Writes text script → ⊥

-- a fault stands at the first place which no script goes on past, and says why; or memory ran out
abbrev pub IsFirst : Bytes → SyntaxFault → Type 0
IsFirst text faults.NoMemory = Unit {0}
IsFirst text (faults.At line column kind) = FirstMisfit text (record { line = line; column = column }) kind
