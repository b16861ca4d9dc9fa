-- What was read has its parts, the program of its scripts, and a handler for each event that a block handles.
use Rattle.std.proofs.Common.{◌≡◌, ℕ, zero, suc, ◌+◌, true, List, [], ◌∷◌, map, Option, Some, None, refl, ap, ◌∙◌, subst, inl, inr}
use Rattle.std.specs.Prelude.{Result, Ok, Err, find, is_some, slice_get, option_and_then}
use Rattle.std.specs.Str.{bytes_eq}
use Rattle.std.proofs.lemmas.Bool.{cases_Bool}
use Rattle.script_types.specs.Codes.{Codes, Handler, named}
use Rattle.script_types.specs.Codes as scripts
use Rattle.script_types.specs.Program.{BlockProgram, HandlerProgram, Program}
use Rattle.script_types.specs.ProgramOf.{kept_program}
use Rattle.script_types.specs.Programs as built
use Rattle.script_types.specs.Programs.{Built, program_of}
use Rattle.script_types.specs.Typing.{handler_task}
use Rattle.script_meaning.specs.Delivery.{handler_of, steps_in}
use Rattle.script_laws.proofs.SafePrograms.{block_is, built_ok, built_same}
use Rattle.deploy_model.specs.Deployed.{Handling, handles, handling_of}
use Rattle.deploy_model.specs.Resolving as resolving
use Rattle.deploy_model.specs.Resolving.{deployed_of}
use Rattle.deploy_model.specs.Rules.{Numbering}
use Rattle.deploy_model.specs.Tables.{key_number}
use Rattle.deploy_model.specs.declared.parts.Block.{Block}
use Rattle.deploy_model.specs.declared.parts.BlockEvent.{BlockEvent}
use Rattle.slee_descriptor.specs.declared.deployment.Deployment.{Deployment}
use Rattle.deploy_json.specs.Checking.{Reading, checked_parts, programmed, read_as, reading_of}
use Rattle.deploy_json.specs.Reading.{parts_of}
use Rattle.deploy_json.specs.Rows.{BlockRow, PartsRow, block_row, handler_row, parts_row}
use Rattle.deploy_json.specs.Scripts.{block_in, codes_in_rows, handler_in}
use Rattle.deploy_json.specs.declared.fault.ReadFault.{ReadFault}

-- a reading has these parts, and the program of their scripts

from_program : (p : PartsRow) (r : Built Program) (reading : Reading) → programmed p r ≡ Ok reading → (p ≡ reading.parts) × (r ≡ Ok reading.program)
from_program p (Ok program) reading is =
    let same : (let one : Reading = record { parts = p; program = program } in one) ≡ reading = cc in
    (ap (λ (x : Reading). x.parts) same, ap (λ (x : Reading). (let r : Built Program = Ok x.program in r)) same)
from_program p (Err fault) reading is = absurd (cc)

from_parts : (r : Result PartsRow ReadFault) (reading : Reading) → checked_parts r ≡ Ok reading → (r ≡ Ok reading.parts) × (program_of (codes_in_rows reading.parts) ≡ Ok reading.program)
from_parts (Ok p) reading is =
    let both = from_program p (program_of (codes_in_rows p)) reading is in
    (ap (λ x. (let r : Result PartsRow ReadFault = Ok x in r)) both.0, subst (λ x. program_of (codes_in_rows x) ≡ Ok reading.program) both.0 both.1)
from_parts (Err fault) reading is = absurd (cc)

pub reading_parts : (bytes : List ℕ) (d : Deployment) → reading_of bytes ≡ Ok (read_as d) → parts_of bytes ≡ Ok (parts_row d.parts)
reading_parts bytes d is = (from_parts (parts_of bytes) (read_as d) is).0

pub reading_program : (bytes : List ℕ) (d : Deployment) → reading_of bytes ≡ Ok (read_as d) → program_of (codes_in_rows (parts_row d.parts)) ≡ Ok (kept_program d.codes)
reading_program bytes d is = (from_parts (parts_of bytes) (read_as d) is).1

-- handlers

handlers_found : (all : Codes) (block : scripts.Block) (number n : ℕ) (event : List ℕ) (handlers : List Handler) (programs : List HandlerProgram) → built.handlers_of all block number n handlers ≡ Ok programs
    → is_some (find (λ (h : Handler). bytes_eq h.event event) handlers) ≡ true → is_some (find (λ (h : HandlerProgram). bytes_eq h.event event) programs) ≡ true
handlers_found all block number n event [] programs e there = absurd (cc)
handlers_found all block number n event (x ∷ handlers) programs e there =
    let a = built_ok (built.steps_of all block _ (handler_task all x)) _ programs e in
    let b = built_ok (built.handlers_of all block number (n + 1) handlers) _ programs a.2 in
    let one : HandlerProgram = record { event = x.event; steps = a.0 } in
    subst (λ ps. is_some (find (λ (h : HandlerProgram). bytes_eq h.event event) ps) ≡ true) (built_same (one ∷ b.0) programs b.2)
    (elim (cases_Bool (bytes_eq x.event event)) [
      | inl is ↦ rw is refl
      | inr isnt ↦ rw isnt (handlers_found all block number (n + 1) event handlers b.0 b.1 (rw isnt at there))
    ])

handlers_in : (all : Codes) (n : ℕ) (block : scripts.Block) (one : BlockProgram) → built.block_of all n block ≡ Ok one → built.handlers_of all block n 0 block.handlers ≡ Ok one.handlers
handlers_in all n block one e =
    let a = built_ok (built.handlers_of all block n 0 block.handlers) _ one e in
    let b = built_ok (built.methods_of all block n 0 block.methods) _ one a.2 in
    let c = built_ok (built.callback_of all block _ _ block.exception) _ one b.2 in
    let d = built_ok (built.callback_of all block _ _ block.rolled_back) _ one c.2 in
    let r = built_ok (built.callback_of all block _ _ block.remove) _ one d.2 in
    a.1 ∙ ap (λ z. let w : BlockProgram = z in (let k : Built (List HandlerProgram) = Ok w.handlers in k)) (built_same _ one r.2)

some_handler : (block : BlockProgram) (event : List ℕ) → is_some (find (λ (h : HandlerProgram). bytes_eq h.event event) block.handlers) ≡ true → is_some (handler_of event block) ≡ true
some_handler block event there = by (find (λ (h : HandlerProgram). bytes_eq h.event event) block.handlers) there
  where
    by : (o : Option HandlerProgram) → is_some o ≡ true → is_some (steps_in o) ≡ true
    by None is = absurd (cc)
    by (Some h) is = refl

-- an event that a block handles has a handler among its scripts
handled_script : (event : List ℕ) (events : List BlockEvent) → is_some (named (λ (h : Handling). h.event) event (map resolving.handling_of events)) ≡ true → is_some (find (λ (h : Handler). bytes_eq h.event event) (map handler_in (map handler_row events))) ≡ true
handled_script event [] there = absurd (cc)
handled_script event (h ∷ events) there = elim (cases_Bool (bytes_eq h.event event)) [
  | inl is ↦ rw is refl
  | inr isnt ↦ rw isnt (handled_script event events (rw isnt at there))
]

handling_block : (blocks : Numbering) (numbers : Numbering) (rows : List Block) (n : ℕ) (event : List ℕ) → is_some (option_and_then (λ b. handling_of b event) (slice_get (map (resolving.block_of blocks) rows) n)) ≡ true
    → (block : scripts.Block) × (slice_get (map (block_in numbers) (map block_row rows)) n ≡ Some block) × (is_some (find (λ (h : Handler). bytes_eq h.event event) block.handlers) ≡ true)
handling_block blocks numbers [] n event there = absurd (cc)
handling_block blocks numbers (b ∷ rows) zero event there = (block_in numbers (block_row b), refl, handled_script event b.events there)
handling_block blocks numbers (b ∷ rows) (suc n) event there = handling_block blocks numbers rows n event there

-- each event that a block handles has its handler in the program
pub reading_handlers : (bytes : List ℕ) (d : Deployment) (n : ℕ) (event : List ℕ) → reading_of bytes ≡ Ok (read_as d) → handles (deployed_of d.parts) n event ≡ true
    → (block : BlockProgram) × (slice_get (kept_program d.codes) n ≡ Some block) × (is_some (handler_of event block) ≡ true)
reading_handlers bytes d n event is there =
    let all = codes_in_rows (parts_row d.parts) in
    let made = reading_program bytes d is in
    let found = handling_block (key_number (λ (b : Block). b.key) d.parts.blocks) (key_number (λ (b : BlockRow). b.key) (map block_row d.parts.blocks)) d.parts.blocks n event there in
    let one = block_is all 0 all.blocks (kept_program d.codes) n found.0 made found.1 in
    (one.0, one.1, some_handler one.0 event (handlers_found all found.0 one.2 0 event found.0.handlers one.0.handlers (handlers_in all one.2 found.0 one.0 one.3) found.2))
