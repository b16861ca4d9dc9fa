-- What bytes are, by what the reader of JSON answers.
use Rattle.std.proofs.Common.{◌≡◌, ◌∙◌, ap, refl, sym, subst, Bool, true, false, Option, Some, None, Result, IfOk, IsUtf8}
use Rattle.std.specs.Prelude.{if◌then◌else◌, option_and_then}
use Rattle.std.specs.Str.{is_utf8}
use Rattle.std.proofs.lemmas.Str.{IsUtf8-from_is_utf8, is_utf8-from_IsUtf8}
use Rattle.serde_json.specs.Data.{Data}
use Rattle.serde_json.specs.Read.{read}
use Rattle.script_tree.specs.Tree.{Bytes}
use Rattle.slee_value.specs.declared.memory.NoMemory.{NoMemory}
use Rattle.deploy_json.specs.Reading.{value_in}
use Rattle.deploy_hints.specs.declared.hint.Hint.{Hint}
use Rattle.deploy_hints.specs.declared.hint.Misreading.{Misreading}
use Rattle.deploy_hints.specs.Sources.{source_in, text_in}
use Rattle.deploy_hints.specs.Hints.{IsScriptHint}

none_in : (bytes : Bytes) (b : Bool) → is_utf8 bytes ≡ b → (IsUtf8 bytes → read bytes ≡ None) → (if b then read bytes else None) ≡ None
none_in bytes true e h = h (IsUtf8-from_is_utf8 bytes e)
none_in bytes false e h = refl

pub no_value : (bytes : Bytes) → (IsUtf8 bytes → read bytes ≡ None) → value_in bytes ≡ None
no_value bytes h = none_in bytes (is_utf8 bytes) refl h

pub value_is : (bytes : Bytes) (d : Data) → IsUtf8 bytes → read bytes ≡ Some d → value_in bytes ≡ Some d
value_is bytes d utf8 e = ap (λ (b : Bool). if b then read bytes else None) (is_utf8-from_IsUtf8 bytes utf8) ∙ e

-- what is told of a script, by the value that bytes are
in_value : (bytes pointer : Bytes) (f : Misreading) (o : Option Data) (r : Result (Option Hint) NoMemory) → value_in bytes ≡ o → IfOk r (λ hint. IsScriptHint (option_and_then (λ d. source_in d pointer) o) f hint) → IfOk r (λ hint. IsScriptHint (text_in bytes pointer) f hint)
in_value bytes pointer f o r e h =
    let P : Option Data → Type 0 = λ x. IfOk r (λ hint. IsScriptHint (option_and_then (λ d. source_in d pointer) x) f hint) in
    subst P (sym e) h

pub in_document : (bytes pointer : Bytes) (f : Misreading) (d : Data) (r : Result (Option Hint) NoMemory) → IsUtf8 bytes → read bytes ≡ Some d → IfOk r (λ hint. IsScriptHint (source_in d pointer) f hint) → IfOk r (λ hint. IsScriptHint (text_in bytes pointer) f hint)
in_document bytes pointer f d r utf8 e h = in_value bytes pointer f (Some d) r (value_is bytes d utf8 e) h

pub in_nothing : (bytes pointer : Bytes) (f : Misreading) → (IsUtf8 bytes → read bytes ≡ None) → IsScriptHint (text_in bytes pointer) f None
in_nothing bytes pointer f h =
    let P : Option Data → Type 0 = λ x. IsScriptHint (option_and_then (λ d. source_in d pointer) x) f None in
    subst P (sym (no_value bytes h)) refl
