-- What the check of a deployment answers is what is read of its parts.
use Rattle.std.proofs.Common.{◌≡◌, ℕ, List, [], ◌++◌, Option, Some, None, Result, Ok, Err, refl, sym, ap, ◌∙◌, map}
use Rattle.std.proofs.lemmas.Option.{slice_get-map}
use Rattle.std.specs.Prelude.{codes, decimal, option_map, option_and_then, slice_get}
use Rattle.std.specs.Option.{option_map_or, unwrap_or}
use Rattle.script_tree.specs.declared.script.Script.{Script}
use Rattle.script_tree.specs.Tree.{Bytes}
use Rattle.script_types.specs.declared.codes.BlockCode.{BlockCode}
use Rattle.script_types.specs.declared.codes.HandlerCode.{HandlerCode}
use Rattle.script_types.specs.declared.codes.MethodCode.{MethodCode}
use Rattle.script_types.specs.declared.codes.Codes.{Codes}
use Rattle.script_types.specs.declared.codes.CodePart.{CodePart}
use Rattle.script_types.specs.declared.codes.CodePart.TheVariants as part
use Rattle.script_types.specs.declared.codes.CodePlace.{CodePlace}
use Rattle.script_types.specs.declared.misuse.Misuse.{Misuse}
use Rattle.script_types.specs.CodesOf.{codes_of}
use Rattle.script_types.specs.Program.{Program}
use Rattle.script_types.specs.Programs.{Built, program_of}
use Rattle.script_types.specs.TypingPlaces.{place_of_misuse}
use Rattle.deploy_model.specs.declared.parts.BlockEvent.{BlockEvent}
use Rattle.deploy_model.specs.declared.parts.Method.{Method}
use Rattle.deploy_model.specs.declared.parts.Block.{Block}
use Rattle.deploy_model.specs.declared.parts.Parts.{Parts}
use Rattle.deploy_model.specs.Rules.{Numbering}
use Rattle.deploy_model.specs.Tables.{key_number}
use Rattle.slee_descriptor.specs.CodesOfParts.{handler_code, method_code, block_code, codes_in}
use Rattle.handler_check.specs.Paths as c
use Rattle.handler_check.specs.Told.{Fault, told, checked}
use Rattle.deploy_json.specs.Rows.{HandlerRow, MethodRow, BlockRow, PartsRow, handler_row, method_row, block_row, parts_row}
use Rattle.deploy_json.specs.declared.fault.ReadFault.{ReadFault}
use Rattle.deploy_json.specs.declared.fault.ReadFault.TheVariants as faults
use Rattle.deploy_json.specs.Scripts.{method_name, path_in, script_path, text_in, script_text}
use Rattle.deploy_json.specs.Checking.{Reading, check_at, programmed, checked_parts}
use Rattle.deploy_json.proofs.Codes.{codes_same}
use Rattle.script_types.specs.ProgramOf.{kept_program, IsChecked}
use Rattle.slee_descriptor.specs.declared.deployment.Deployment.{Deployment}
use Rattle.deploy_json.specs.Reading.{Tells, parts_of}
use Rattle.deploy_json.specs.Checking.{read_as, reading_of}

-- names of methods
name_found : (o : Option Method) → option_map_or (λ (m : MethodCode). m.name) (option_map method_code o) [] ≡ option_map_or (λ (m : MethodRow). m.name) (option_map method_row o) []
name_found None = refl
name_found (Some m) = refl

name_of_method : (ms : List Method) (n : ℕ) → option_map_or (λ (m : MethodCode). m.name) (slice_get (map method_code ms) n) [] ≡ option_map_or (λ (m : MethodRow). m.name) (slice_get (map method_row ms) n) []
name_of_method ms n =
    ap (λ o. option_map_or (λ (m : MethodCode). m.name) o []) (slice_get-map method_code ms n)
    ∙ name_found (slice_get ms n)
    ∙ sym (ap (λ o. option_map_or (λ (m : MethodRow). m.name) o []) (slice_get-map method_row ms n))

name_in_block : (numbers : Numbering) (o : Option Block) (n : ℕ) → option_map_or (λ (m : MethodCode). m.name) (option_and_then (λ (b : BlockCode). slice_get b.methods n) (option_map (block_code numbers) o)) [] ≡ option_map_or (λ (m : MethodRow). m.name) (option_and_then (λ (b : BlockRow). slice_get b.methods n) (option_map block_row o)) []
name_in_block numbers None n = refl
name_in_block numbers (Some b) n = name_of_method b.methods n

name_same : (numbers : Numbering) (bs : List Block) (block n : ℕ) → c.method_name (map (block_code numbers) bs) block n ≡ method_name (map block_row bs) block n
name_same numbers bs block n =
    ap (λ o. option_map_or (λ (m : MethodCode). m.name) (option_and_then (λ (b : BlockCode). slice_get b.methods n) o) []) (slice_get-map (block_code numbers) bs block)
    ∙ name_in_block numbers (slice_get bs block) n
    ∙ sym (ap (λ o. option_map_or (λ (m : MethodRow). m.name) (option_and_then (λ (b : BlockRow). slice_get b.methods n) o) []) (slice_get-map block_row bs block))

path_in_same : (numbers : Numbering) (bs : List Block) (block : ℕ) (p : CodePart) → c.path_in_block (map (block_code numbers) bs) block p ≡ path_in (map block_row bs) block p
path_in_same numbers bs block (part.Handler n) = refl
path_in_same numbers bs block (part.Method n) = ap (λ (s : Bytes). codes "/methods/" ++ s ++ codes "/do") (name_same numbers bs block n)
path_in_same numbers bs block part.Exception = refl
path_in_same numbers bs block part.RolledBack = refl
path_in_same numbers bs block part.Remove = refl

path_same : (numbers : Numbering) (bs : List Block) (place : CodePlace) → c.path_of (map (block_code numbers) bs) place ≡ script_path (map block_row bs) place
path_same numbers bs place = ap (λ (s : Bytes). codes "/blocks/" ++ decimal place.block ++ s) (path_in_same numbers bs place.block place.part)

-- texts
handler_found : (o : Option BlockEvent) → option_map_or (λ (s : Script). s.text) (option_and_then (λ (h : HandlerCode). Option.Some h.script) (option_map handler_code o)) [] ≡ unwrap_or (option_map (λ (h : HandlerRow). h.on) (option_map handler_row o)) []
handler_found None = refl
handler_found (Some h) = refl

handler_text : (hs : List BlockEvent) (n : ℕ) → option_map_or (λ (s : Script). s.text) (option_and_then (λ (h : HandlerCode). Option.Some h.script) (slice_get (map handler_code hs) n)) [] ≡ unwrap_or (option_map (λ (h : HandlerRow). h.on) (slice_get (map handler_row hs) n)) []
handler_text hs n =
    ap (λ o. option_map_or (λ (s : Script). s.text) (option_and_then (λ (h : HandlerCode). Option.Some h.script) o) []) (slice_get-map handler_code hs n)
    ∙ handler_found (slice_get hs n)
    ∙ sym (ap (λ o. unwrap_or (option_map (λ (h : HandlerRow). h.on) o) []) (slice_get-map handler_row hs n))

method_found : (o : Option Method) → option_map_or (λ (s : Script). s.text) (option_and_then (λ (m : MethodCode). Option.Some m.script) (option_map method_code o)) [] ≡ unwrap_or (option_map (λ (m : MethodRow). m.body) (option_map method_row o)) []
method_found None = refl
method_found (Some m) = refl

method_text : (ms : List Method) (n : ℕ) → option_map_or (λ (s : Script). s.text) (option_and_then (λ (m : MethodCode). Option.Some m.script) (slice_get (map method_code ms) n)) [] ≡ unwrap_or (option_map (λ (m : MethodRow). m.body) (slice_get (map method_row ms) n)) []
method_text ms n =
    ap (λ o. option_map_or (λ (s : Script). s.text) (option_and_then (λ (m : MethodCode). Option.Some m.script) o) []) (slice_get-map method_code ms n)
    ∙ method_found (slice_get ms n)
    ∙ sym (ap (λ o. unwrap_or (option_map (λ (m : MethodRow). m.body) o) []) (slice_get-map method_row ms n))

callback_text : (o : Option Script) → option_map_or (λ (s : Script). s.text) o [] ≡ unwrap_or (option_map (λ (s : Script). s.text) o) []
callback_text None = refl
callback_text (Some s) = refl

text_in_same : (numbers : Numbering) (o : Option Block) (p : CodePart) → option_map_or (λ (s : Script). s.text) (option_and_then (λ (b : BlockCode). c.script_in b p) (option_map (block_code numbers) o)) [] ≡ unwrap_or (option_and_then (text_in p) (option_map block_row o)) []
text_in_same numbers None p = refl
text_in_same numbers (Some b) (part.Handler n) = handler_text b.events n
text_in_same numbers (Some b) (part.Method n) = method_text b.methods n
text_in_same numbers (Some b) part.Exception = callback_text b.exception
text_in_same numbers (Some b) part.RolledBack = callback_text b.rolled_back
text_in_same numbers (Some b) part.Remove = callback_text b.remove

text_same : (numbers : Numbering) (bs : List Block) (place : CodePlace) → c.text_of (map (block_code numbers) bs) place ≡ script_text (map block_row bs) place
text_same numbers bs place =
    ap (λ o. option_map_or (λ (s : Script). s.text) (option_and_then (λ (b : BlockCode). c.script_in b place.part) o) []) (slice_get-map (block_code numbers) bs place.block)
    ∙ text_in_same numbers (slice_get bs place.block) place.part
    ∙ sym (ap (λ o. unwrap_or (option_and_then (text_in place.part) o) []) (slice_get-map block_row bs place.block))

-- what is read where this is the answer of the check
abbrev pub answered : PartsRow → Result Program Fault → Result Reading ReadFault
answered p (Ok program) = Ok (record { parts = p; program = program })
answered p (Err f) = Err (faults.Check f.path f.line f.column f.kind)

told_same : (p : Parts) (b : Built Program) → programmed (parts_row p) b ≡ answered (parts_row p) (told (codes_in p []) b)
told_same p (Ok program) = refl
told_same p (Err fault) =
    let place : CodePlace = fault.0 in
    let misuse : Misuse = fault.1 in
    let numbers : Numbering = key_number (λ (b : Block). b.key) p.blocks in
    let with : Bytes → Bytes → Result Reading ReadFault = λ path text. Err (check_at path (place_of_misuse text misuse) misuse.kind) in
    ap (λ s. with s (script_text (map block_row p.blocks) place)) (sym (path_same numbers p.blocks place))
    ∙ ap (λ s. with (c.path_of (map (block_code numbers) p.blocks) place) s) (sym (text_same numbers p.blocks place))

pub reading_same : (p : Parts) (all : Codes) → all ≡ codes_in p [] → checked_parts (Ok (parts_row p)) ≡ answered (parts_row p) (checked all)
reading_same p all e =
    ap (λ a. programmed (parts_row p) (program_of a)) (sym (codes_same p))
    ∙ told_same p (program_of (codes_of (codes_in p [])))
    ∙ ap (λ a. answered (parts_row p) (checked a)) (sym e)

pub reading_told : (p : Parts) (all : Codes) (f : Fault) → all ≡ codes_in p [] → checked all ≡ Err f → checked_parts (Ok (parts_row p)) ≡ Err (faults.Check f.path f.line f.column f.kind)
reading_told p all f e h = reading_same p all e ∙ ap (answered (parts_row p)) h

pub reading_done : (d c : Deployment) → d.codes ≡ codes_in d.parts [] → c.parts ≡ d.parts → checked d.codes ≡ Ok (kept_program c.codes) → checked_parts (Ok (parts_row d.parts)) ≡ Ok (read_as c)
reading_done d c e same h =
    let with : Parts → Result Reading ReadFault = λ p. Ok (record { parts = parts_row p; program = kept_program c.codes }) in
    reading_same d.parts d.codes e ∙ ap (answered (parts_row d.parts)) h ∙ ap with (sym same)

-- a fault of the parts is one of the bytes
pub told_of_bytes : (bytes : Bytes) (f : ReadFault) → Tells (parts_of bytes) f → Tells (reading_of bytes) f
told_of_bytes bytes faults.NoMemory h = tt
told_of_bytes bytes faults.Json h = ap checked_parts h
told_of_bytes bytes (faults.Shape pointer kind) h = ap checked_parts h
told_of_bytes bytes (faults.Syntax pointer line column kind) h = ap checked_parts h
told_of_bytes bytes (faults.Check pointer line column kind) h = ap checked_parts h

-- what the check gives is the program of the scripts
told_done : (all : Codes) (b : Built Program) (x : Program) → told all b ≡ Ok x → b ≡ Ok x
told_done all (Ok y) x h = cc
told_done all (Err fault) x h = cc

pub typed : (d c : Codes) → c ≡ record d { programs = c.programs } → checked d ≡ Ok (kept_program c) → IsChecked c
typed d c e h = ap (λ (a : Codes). program_of (codes_of a)) e ∙ told_done d (program_of (codes_of d)) (kept_program c) h
