-- A run on a stage is what its script means.
use Rattle.std.proofs.Common.{◌≡◌, ℕ, List, map, Some, Result, sym, ap, ◌∙◌, subst}
use Rattle.std.specs.Prelude.{slice_get, option_map}
use Rattle.std.proofs.lemmas.Option.{slice_get-map}
use Rattle.slee_value.specs.declared.ids.EntityId.{EntityId}
use Rattle.slee_effect.specs.declared.reference.Ref.{Ref}
use Rattle.slee_effect.specs.declared.effect.Effect.{Effect}
use Rattle.script_types.specs.declared.symbol.Symbol.{Symbol}
use Rattle.script_types.specs.declared.checked_step.Step.{Step as StepInMemory}
use Rattle.script_types.specs.declared.checked_script.BlockSteps.{BlockSteps}
use Rattle.script_types.specs.Program.{Program, BlockProgram}
use Rattle.script_types.specs.ProgramOf.{steps_of, block_program_of}
use Rattle.script_meaning.specs.declared.key.Key.{Key}
use Rattle.script_meaning.specs.declared.seen.Seen.{Seen}
use Rattle.script_meaning.specs.declared.outcome.Args.{Args}
use Rattle.script_meaning.specs.declared.which.Which.{Which}
use Rattle.script_meaning.specs.Answers.{kept}
use Rattle.script_meaning.specs.Running.{Setting}
use Rattle.script_meaning.specs.Steps.{act_all}
use Rattle.script_meaning.specs.Calls.{call_at}
use Rattle.script_meaning.specs.Meaning.{Before, Meaning, start, report, setting_of, script_in, meaning_in, meaning_with, meaning_of, meaning}
use Rattle.script_run_blocks.specs.declared.stage.Stage.{Stage}
use Rattle.script_run_blocks.specs.Stages.{given, program_of, all_in}
use Rattle.handler_run.specs.declared.run.Run.{Run}
use Rattle.handler_run.specs.declared.run.Unfinished.{Unfinished}
use Rattle.handler_run.specs.Runs.{Means}

abbrev setting_with : Args → Ref → List (Key × Seen) → List Effect → List Key → List (Symbol (List ℕ)) → Setting
setting_with arguments me known effects keys masks = record { answers = kept known; effects = effects; keys = keys; arguments = arguments; me = me; masks = map (λ x. x.name) masks }

pub setting_is : (arguments : Args) (me : Ref) (known known2 : List (Key × Seen)) (effects effects2 : List Effect) (keys keys2 : List Key) (masks masks2 : List (Symbol (List ℕ))) → known ≡ known2 → effects ≡ effects2 → keys ≡ keys2 → masks ≡ masks2 → setting_with arguments me known effects keys masks ≡ setting_with arguments me known2 effects2 keys2 masks2
setting_is arguments me known known2 effects effects2 keys keys2 masks masks2 a b c d =
    ap (λ x. setting_with arguments me x effects keys masks) a
    ∙ ap (λ x. setting_with arguments me known2 x keys masks) b
    ∙ ap (λ x. setting_with arguments me known2 effects2 x masks) c
    ∙ ap (λ x. setting_with arguments me known2 effects2 keys2 x) d

pub run_is : (stage : Stage) (known : List (Key × Seen)) (blocks : List BlockSteps) (which : Which) (me : EntityId) (arguments : Args) (before : Before) (block : BlockSteps) (script steps : List StepInMemory) (result : Result Run Unfinished) → Means (report (all_in stage 8 (steps_of steps) start)) result → slice_get blocks which.block ≡ Some block → Some (steps_of script) ≡ script_in (block_program_of block) which.part → steps ≡ script → given stage ≡ setting_of (kept known) (block_program_of block) me arguments before → program_of stage ≡ map block_program_of blocks → Means (meaning (kept known) (map block_program_of blocks) which me arguments before) result
unfolding all_in meaning_in
run_is stage known blocks which me arguments before block script steps result h is own own_steps there same =
    let program : Program = map block_program_of blocks in
    let one : BlockProgram = block_program_of block in
    let s : Setting = setting_of (kept known) one me arguments before in
    let run : Setting → Program → List StepInMemory → Meaning = λ s p l. report (act_all s (call_at s p 8) (steps_of l) start) in
    let at : slice_get program which.block ≡ Some one = slice_get-map block_program_of blocks which.block ∙ ap (option_map block_program_of) is in
    let found : meaning (kept known) program which me arguments before ≡ run s program script =
    ap (λ o. meaning_of (kept known) program o which.part me arguments before) at
    ∙ ap (λ o. meaning_with (kept known) program one o me arguments before) (sym own) in
    let on_stage : run (given stage) (program_of stage) steps ≡ run s program script =
    ap (λ s. run s (program_of stage) steps) there ∙ ap (λ p. run s p steps) same ∙ ap (run s program) own_steps in
    subst (λ m. Means m result) (on_stage ∙ sym found) h
