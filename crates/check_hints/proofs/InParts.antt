-- What is told of a deployment's codes is told of the bytes.
use Rattle.std.proofs.Common.{◌≡◌, ◌∙◌, List, [], Option, None, Result, Ok, Err, IfOk, ap, refl, subst, sym}
use Rattle.std.specs.Prelude.{option_map}
use Rattle.slee_value.specs.declared.memory.NoMemory.{NoMemory}
use Rattle.script_tree.specs.Tree.{Bytes}
use Rattle.script_tree.specs.declared.scanning.Place.{Place}
use Rattle.script_types.specs.declared.checked_script.BlockSteps.{BlockSteps}
use Rattle.script_types.specs.declared.codes.Codes.{Codes}
use Rattle.deploy_model.specs.declared.parts.Parts.{Parts}
use Rattle.slee_descriptor.specs.CodesOfParts.{codes_in}
use Rattle.deploy_json.specs.Rows.{PartsRow, parts_row}
use Rattle.deploy_json.specs.declared.fault.ReadFault.{ReadFault}
use Rattle.deploy_json.specs.declared.fault.ReadFault.TheVariants as faults
use Rattle.deploy_json.specs.Reading.{Tells, parts_of}
use Rattle.check_hints.specs.declared.mismatch.MismatchHint.{MismatchHint}
use Rattle.check_hints.specs.Deployed.{AreTypesIn, AreTypesOf}
use Rattle.check_hints.specs.Mismatches.{Types, types_of}
use Rattle.check_hints.specs.Places.{told_by}

read : (bytes pointer : Bytes) (p : Parts) (codes : Codes) (place : Place) (types : Option Types) → parts_of bytes ≡ Ok (parts_row p) → codes ≡ codes_in p [] → types ≡ told_by codes pointer place → AreTypesIn bytes pointer place types
read bytes pointer p codes place types e is h =
    let R : Result PartsRow ReadFault → Type 0 = λ r. AreTypesOf r pointer place types in
    subst R (sym e) (p, refl, h ∙ ap (λ c. told_by c pointer place) is)

pub in_parts : (bytes pointer : Bytes) (p q : Parts) (programs : List BlockSteps) (codes : Codes) (place : Place) (r : Result (Option MismatchHint) NoMemory) → parts_of bytes ≡ Ok (parts_row p) → q ≡ p → programs ≡ [] → codes ≡ codes_in q programs
    → IfOk r (λ hint. option_map types_of hint ≡ told_by codes pointer place) → IfOk r (λ hint. AreTypesIn bytes pointer place (option_map types_of hint))
in_parts bytes pointer p q programs codes place (Err e) h same none is told = tt
in_parts bytes pointer p q programs codes place (Ok hint) h same none is told =
    read bytes pointer p codes place (option_map types_of hint) h (is ∙ (ap (codes_in q) none ∙ ap (λ x. codes_in x []) same)) told

not_read : (bytes pointer : Bytes) (fault : ReadFault) (place : Place) → parts_of bytes ≡ Err fault → AreTypesIn bytes pointer place None
not_read bytes pointer fault place e =
    let R : Result PartsRow ReadFault → Type 0 = λ r. AreTypesOf r pointer place None in
    subst R (sym e) refl

pub unread : (bytes pointer : Bytes) (fault : ReadFault) (place : Place) → (fault ≡ faults.NoMemory → ⊥) → Tells (parts_of bytes) fault → AreTypesIn bytes pointer place None
unread bytes pointer faults.Json place other e = not_read bytes pointer faults.Json place e
unread bytes pointer (faults.Shape at kind) place other e = not_read bytes pointer (faults.Shape at kind) place e
unread bytes pointer (faults.Syntax at line column kind) place other e = not_read bytes pointer (faults.Syntax at line column kind) place e
unread bytes pointer (faults.Check at line column kind) place other e = not_read bytes pointer (faults.Check at line column kind) place e
unread bytes pointer faults.NoMemory place other e = absurd (other refl)
