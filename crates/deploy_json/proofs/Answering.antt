-- What is answered of a document and of its bytes.
use Rattle.std.proofs.Common.{◌≡◌, Bool, true, false, Option, Some, None, Result, Ok, Err, refl, sym, ap, ◌∙◌, subst, MatchResult, IsUtf8}
use Rattle.std.specs.Prelude.{if◌then◌else◌, option_map}
use Rattle.std.specs.Str.{is_utf8}
use Rattle.std.proofs.lemmas.Str.{IsUtf8-from_is_utf8, is_utf8-from_IsUtf8}
use Rattle.serde_json.specs.Data.{Data}
use Rattle.serde_json.specs.Read.{read}
use Rattle.script_tree.specs.Tree.{Bytes}
use Rattle.deploy_model.specs.declared.parts.Parts.{Parts}
use Rattle.deploy_model.specs.Faults.{Fault}
use Rattle.deploy_schema.specs.Tables.{shape_fault}
use Rattle.deploy_json.specs.Sources.{Misread, first_misread}
use Rattle.deploy_json.specs.Rows.{PartsRow, parts_row}
use Rattle.deploy_json.specs.Documents.{parts_in}
use Rattle.deploy_json.specs.declared.fault.ReadFault.{ReadFault}
use Rattle.deploy_json.specs.declared.fault.ReadFault.TheVariants as faults
use Rattle.deploy_json.specs.Reading.{value_in, unless, shape_read, syntax_read, document_parts, value_parts, parts_of, Tells}

-- of a document
pub of_shape : (d : Data) (f : Fault) → shape_fault d ≡ Some f → document_parts d ≡ Err (shape_read f)
of_shape d f e =
    let rest : Result PartsRow ReadFault = unless (option_map syntax_read (first_misread d)) (Ok (parts_in d)) in
    ap (λ (o : Option Fault). unless (option_map shape_read o) rest) e

of_scripts : (d : Data) (o : Option Misread) → shape_fault d ≡ None → first_misread d ≡ o → document_parts d ≡ unless (option_map syntax_read o) (Ok (parts_in d))
of_scripts d o shape e =
    let rest : Option Misread → Result PartsRow ReadFault = λ m. unless (option_map syntax_read m) (Ok (parts_in d)) in
    ap (λ (f : Option Fault). unless (option_map shape_read f) (rest (first_misread d))) shape ∙ ap rest e

pub of_script : (d : Data) (m : Misread) → shape_fault d ≡ None → first_misread d ≡ Some m → document_parts d ≡ Err (syntax_read m)
of_script d m shape e = of_scripts d (Some m) shape e

pub of_parts : (d : Data) (p : Parts) → shape_fault d ≡ None → first_misread d ≡ None → parts_row p ≡ parts_in d → document_parts d ≡ Ok (parts_row p)
of_parts d p shape scripts same = of_scripts d None shape scripts ∙ ap (λ (r : PartsRow). let z : Result PartsRow ReadFault = Ok r in z) (sym same)

-- of bytes
none_in : (bytes : Bytes) (b : Bool) → is_utf8 bytes ≡ b → (IsUtf8 bytes → read bytes ≡ None) → (if b then read bytes else None) ≡ None
none_in bytes true e h = h (IsUtf8-from_is_utf8 bytes e)
none_in bytes false e h = refl

pub no_value : (bytes : Bytes) → (IsUtf8 bytes → read bytes ≡ None) → parts_of bytes ≡ Err faults.Json
no_value bytes h = ap value_parts (none_in bytes (is_utf8 bytes) refl h)

pub value_is : (bytes : Bytes) (d : Data) → IsUtf8 bytes → read bytes ≡ Some d → value_in bytes ≡ Some d
value_is bytes d utf8 e = ap (λ (b : Bool). if b then read bytes else None) (is_utf8-from_IsUtf8 bytes utf8) ∙ e

pub of_bytes : (bytes : Bytes) (d : Data) (r : Result Parts ReadFault) → value_in bytes ≡ Some d → MatchResult r (λ p. document_parts d ≡ Ok (parts_row p)) (Tells (document_parts d)) → MatchResult r (λ p. parts_of bytes ≡ Ok (parts_row p)) (Tells (parts_of bytes))
of_bytes bytes d r e h =
    let P : Result PartsRow ReadFault → Type 0 = λ x. MatchResult r (λ p. x ≡ Ok (parts_row p)) (Tells x) in
    subst P (sym (ap value_parts e)) h
