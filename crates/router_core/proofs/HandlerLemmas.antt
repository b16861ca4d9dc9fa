-- A checked deployment has the handler of each event that a block of it handles.
use Rattle.std.proofs.Common.{◌≡◌, ℕ, ◌+◌, true, false, List, [], ◌∷◌, map, Option, Some, None, Ok, refl, sym, ◌∙◌, ap, subst, find, is_some, slice_get, inl, inr, bytes_eq}
use Rattle.std.specs.Prelude.{option_map, option_and_then}
use Rattle.std.proofs.lemmas.Bool.{cases_Bool}
use Rattle.std.proofs.lemmas.Option.{slice_get-map}
use Rattle.script_types.specs.Codes.{Block, Codes}
use Rattle.script_types.specs.CodesOf.{block_of_code, codes_of, handler_of_code}
use Rattle.script_types.specs.Program.{BlockProgram, HandlerProgram, Program, Steps}
use Rattle.script_types.specs.ProgramOf.{IsChecked, kept_program}
use Rattle.script_types.specs.Programs.{block_of, callback_of, handlers_of, methods_of, place_of, program_of, steps_of}
use Rattle.script_types.specs.Typing.{handler_task}
use Rattle.script_types.specs.TypingExpressions.{OnException, OnRemove, OnRolledBack}
use Rattle.script_types.specs.declared.codes.CodePart.TheVariants as part
use Rattle.script_types.specs.declared.codes.Codes.{Codes as CodesInMemory}
use Rattle.script_meaning.specs.Delivery.{handler_of, steps_in}
use Rattle.script_laws.proofs.SafePrograms.{block_is, built_ok, built_same}
use Rattle.deploy_model.specs.Deployed.{Handling, handles, handling_of as handling_in}
use Rattle.deploy_model.specs.Resolving.{block_of as deployed_block, deployed_of, handling_of}
use Rattle.deploy_model.specs.Rules.{Numbering}
use Rattle.deploy_model.specs.Tables.{key_number}
use Rattle.deploy_model.specs.declared.parts.Block.{Block as BlockOfParts}
use Rattle.deploy_model.specs.declared.parts.BlockEvent.{BlockEvent}
use Rattle.slee_descriptor.specs.CodesOfParts.{block_code, codes_in, handler_code}
use Rattle.slee_descriptor.specs.declared.deployment.Deployment.{Deployment}
use Rattle.rollback_calls.specs.Deliveries.{Handles}

-- the programs of handlers have the handler of each event that is among theirs
handlers_made : (all : Codes) (block : Block) (number n : ℕ) (event : List ℕ) (events : List BlockEvent) (made : List HandlerProgram)
    → handlers_of all block number n (map handler_of_code (map handler_code events)) ≡ Ok made
    → is_some (find (λ (h : Handling). bytes_eq h.event event) (map handling_of events)) ≡ true
    → (steps : Steps) × (steps_in (find (λ (h : HandlerProgram). bytes_eq h.event event) made) ≡ Some steps)
handlers_made all block number n event [] made is there = absurd (let wrong : false ≡ true = there in cc)
handlers_made all block number n event (x ∷ events) made is there =
    let one = built_ok (steps_of all block (place_of number (part.Handler n)) (handler_task all (handler_of_code (handler_code x)))) _ made is in
    let two = built_ok (handlers_of all block number (n + 1) (map handler_of_code (map handler_code events))) _ made one.2 in
    let own : HandlerProgram = record { event = x.event; steps = one.0 } in
    subst (λ (hs : List HandlerProgram). (steps : Steps) × (steps_in (find (λ (h : HandlerProgram). bytes_eq h.event event) hs) ≡ Some steps)) (built_same (own ∷ two.0) made two.2)
    (elim (cases_Bool (bytes_eq x.event event)) [
      | inl same ↦ (one.0, rw same refl)
      | inr other ↦
          let rest = handlers_made all block number (n + 1) event events two.0 two.1 (rw other at there) in
          (rest.0, rw other rest.1)
    ])

-- so has the program of a block
block_made : (all : Codes) (numbers : Numbering) (number : ℕ) (b : BlockOfParts) (one : BlockProgram) (event : List ℕ)
    → block_of all number (block_of_code (block_code numbers b)) ≡ Ok one → is_some (handling_in (deployed_block numbers b) event) ≡ true → (steps : Steps) × (handler_of event one ≡ Some steps)
block_made all numbers number b one event is there =
    let block : Block = block_of_code (block_code numbers b) in
    let handlers = built_ok (handlers_of all block number 0 block.handlers) _ one is in
    let methods = built_ok (methods_of all block number 0 block.methods) _ one handlers.2 in
    let exception = built_ok (callback_of all block _ OnException block.exception) _ one methods.2 in
    let rolled_back = built_ok (callback_of all block _ OnRolledBack block.rolled_back) _ one exception.2 in
    let remove = built_ok (callback_of all block _ OnRemove block.remove) _ one rolled_back.2 in
    let same = built_same _ one remove.2 in
    subst (λ (p : BlockProgram). (steps : Steps) × (handler_of event p ≡ Some steps)) same (handlers_made all block number 0 event b.events handlers.0 handlers.1 there)

handled_at : (all : Codes) (numbers : Numbering) (blocks : List BlockOfParts) (program : Program) (number : ℕ) (event : List ℕ)
    → all.blocks ≡ map block_of_code (map (block_code numbers) blocks) → program_of all ≡ Ok program
    → is_some (option_and_then (λ b. handling_in b event) (slice_get (map (deployed_block numbers) blocks) number)) ≡ true
    → (found : Option BlockOfParts) → slice_get blocks number ≡ found → Handles program number event
handled_at all numbers blocks program number event coded made there None none =
    let gone : slice_get (map (deployed_block numbers) blocks) number ≡ None = slice_get-map (deployed_block numbers) blocks number ∙ ap (option_map (deployed_block numbers)) none in
    absurd (let wrong : false ≡ true = rw gone at there in cc)
handled_at all numbers blocks program number event coded made there (Some b) is =
    let here : slice_get (map (deployed_block numbers) blocks) number ≡ Some (deployed_block numbers b) = slice_get-map (deployed_block numbers) blocks number ∙ ap (option_map (deployed_block numbers)) is in
    let coded_here : slice_get (map (block_code numbers) blocks) number ≡ Some (block_code numbers b) = slice_get-map (block_code numbers) blocks number ∙ ap (option_map (block_code numbers)) is in
    let own : slice_get (map block_of_code (map (block_code numbers) blocks)) number ≡ Some (block_of_code (block_code numbers b)) = slice_get-map block_of_code (map (block_code numbers) blocks) number ∙ ap (option_map block_of_code) coded_here in
    let code : slice_get all.blocks number ≡ Some (block_of_code (block_code numbers b)) = ap (λ (xs : List Block). slice_get xs number) coded ∙ own in
    let found = block_is all 0 all.blocks program number (block_of_code (block_code numbers b)) made code in
    let handled : is_some (handling_in (deployed_block numbers b) event) ≡ true = rw here at there in
    let steps = block_made all numbers found.2 b found.0 event found.3 handled in
    (steps.0, ap (option_and_then (handler_of event)) found.1 ∙ steps.1)

pub handler_there : (d : Deployment) (codes : CodesInMemory) → codes ≡ d.codes → codes ≡ codes_in d.parts d.codes.programs → IsChecked d.codes
    → (number : ℕ) (event : List ℕ) → handles (deployed_of d.parts) number event ≡ true → Handles (kept_program d.codes) number event
handler_there d codes same coded checked number event there =
    handled_at (codes_of d.codes) (key_number (λ (b : BlockOfParts). b.key) d.parts.blocks) d.parts.blocks (kept_program d.codes) number event
    (ap (λ (c : CodesInMemory). map block_of_code c.blocks) (sym same ∙ coded)) checked there (slice_get d.parts.blocks number) refl
