-- One argument of a call and one field of a `fire`, with what is checked of it.
use Rattle.std.specs.Prelude.{◌≡◌, ℕ, ◌+◌, List, map, not, bytes_eq, Option, Ok, is_some}
use Rattle.std.specs.List.{list_any}
use Rattle.script_types.specs.declared.misuse.CheckBad.TheVariants as bad
use Rattle.script_types.specs.declared.codes.FieldCode.{FieldCode}
use Rattle.script_types.specs.declared.places.Places.{Places}
use Rattle.script_types.specs.Places.{place_in}
use Rattle.script_types.specs.Codes.{kind_in}
use Rattle.script_types.specs.CodesOf.{method_of_code}
use Rattle.script_types.specs.TypingResult.{Checked, ◌>>=◌, tested, known}
use Rattle.script_types.specs.Scopes.{Scope}
use Rattle.script_types.specs.TypingExpressions.{Setting}
use Rattle.script_types.specs.TypingStatements.{argument_fits}
use Rattle.script_types.specs.Elaboration.{expression_of, asked_of}
use Rattle.script_types.specs.ElaborationOfStatements.{argument_of, MethodAt}
use Rattle.script_types.specs.Program.{Term}
use Rattle.script_tree.specs.Tree.{Bytes, Expression}
use Rattle.script_check_calls.specs.declared.lookup.MethodAt.{MethodAt as MethodAtInMemory}

-- A method that is kept in memory, with its number, as a value.
abbrev pub method_at_of : MethodAtInMemory → MethodAt
method_at_of x = record { number = x.number; method = method_of_code x.method.now }

-- an argument against its parameter, where it has one
abbrev pub argument_made : Setting → Scope → Option FieldCode → ℕ → Expression → Checked Term
argument_made s scope parameter at x = do
  one ← expression_of s scope at x
  _ ← tested bad.Mismatch at (argument_fits parameter x one.kind)
  Ok (argument_of parameter x one.term)

-- the names of fields
abbrev pub names_of : List (Bytes × Expression) → List Bytes
names_of fields = map (λ f. f.0) fields

-- a field that the event has, and that has none of the names given before
abbrev pub field_made : Setting → Scope → List FieldCode → List Bytes → ℕ → Bytes × Expression → Checked (Bytes × Term)
field_made s scope declared given at field = do
  kind ← known at (kind_in field.0 declared)
  _ ← tested bad.Count at (not (list_any (bytes_eq field.0) given))
  term ← asked_of s scope kind (at + 2) field.1
  Ok (field.0, term)

-- an index of these names
abbrev pub Has : Places → List Bytes → Type 0
Has places names = (name : Bytes) → is_some (place_in places name) ≡ list_any (bytes_eq name) names
