-- What is told of the first fault of bytes that are no deployment.
use Rattle.std.specs.Prelude.{◌≡◌, ◌≢◌, ◌&&◌, ◌==◌, Bool, Option, Some, None, Err}
use denote.Enum.Bare.{sameb}
use Rattle.serde_json.specs.Data.{Data}
use Rattle.script_tree.specs.Tree.{Bytes}
use Rattle.script_tree.specs.contracts.fault.SyntaxBad.{the_type}
use Rattle.script_tree.specs.declared.fault.SyntaxFault.{SyntaxFault}
use Rattle.script_tree.specs.declared.fault.SyntaxFault.TheVariants as syntax
use Rattle.script_tree.specs.Grammar.{script_of}
use Rattle.script_tree.specs.Lexer.{lexemes_of}
use Rattle.script_tree.specs.Reading.{script_read}
use Rattle.script_hints.specs.declared.syntax.SyntaxHint.{SyntaxHint}
use Rattle.script_hints.specs.Hints.{Hints}
use Rattle.deploy_json.specs.declared.fault.ReadFault.{ReadFault}
use Rattle.deploy_json.specs.declared.fault.ReadFault.TheVariants as faults
use Rattle.deploy_json.specs.Reading.{value_in}
use Rattle.deploy_hints.specs.declared.hint.Hint.{Hint}
use Rattle.deploy_hints.specs.declared.hint.Hint.TheVariants as hints
use Rattle.deploy_hints.specs.declared.hint.Misreading.{Misreading}
use Rattle.deploy_hints.specs.Sources.{text_in}

-- A line and a column are told exactly where the bytes are no JSON. Which, no clause of the reader of JSON says.
abbrev pub IsJsonHint : Bytes → Option Hint → Type 0
IsJsonHint bytes None = (d : Data) × (value_in bytes ≡ Some d)
IsJsonHint bytes (Some (hints.Json line column)) = value_in bytes ≡ None
IsJsonHint bytes (Some _) = ⊥

abbrev pub syntax_fault : Misreading → SyntaxFault
syntax_fault f = syntax.At f.line f.column f.kind

-- whether what is told is told of that fault
abbrev pub is_of : SyntaxHint → Misreading → Bool
is_of hint f = (hint.place.line == f.line && hint.place.column == f.column) && sameb the_type hint.kind f.kind

-- Something is told of a text exactly where that fault is its first one: what stands there, and what may.
abbrev pub IsTextHint : Bytes → Misreading → Option Hint → Type 0
IsTextHint text f None = script_read text ≢ Err (syntax_fault f)
IsTextHint text f (Some (hints.Syntax hint)) = (script_read text ≡ Err (syntax_fault f)) × Hints text (script_of (lexemes_of text)) (Some hint)
IsTextHint text f (Some _) = ⊥

-- the same, where there is a text
abbrev pub IsScriptHint : Option Bytes → Misreading → Option Hint → Type 0
IsScriptHint None f hint = hint ≡ None
IsScriptHint (Some text) f hint = IsTextHint text f hint

-- What is told of a fault of bytes.
abbrev pub IsHint : Bytes → ReadFault → Option Hint → Type 0
IsHint bytes faults.Json hint = IsJsonHint bytes hint
IsHint bytes (faults.Shape pointer kind) hint = hint ≡ Some (hints.Shape kind)
IsHint bytes (faults.Syntax pointer line column kind) hint = IsScriptHint (text_in bytes pointer) (record { line = line; column = column; kind = kind }) hint
IsHint bytes (faults.Check pointer line column kind) hint = hint ≡ Some (hints.Check kind)
IsHint bytes faults.NoMemory hint = hint ≡ None
