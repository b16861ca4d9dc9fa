-- A script of a tidy block is tidy, and its names have their numbers where those of all have.
use Rattle.std.proofs.Common.{◌≡◌, ℕ, zero, suc, List, [], ◌∷◌, map, Option, Some, sym, subst}
use Rattle.std.specs.Prelude.{slice_get}
use Rattle.std.specs.List.{AllByRecursion}
use Rattle.script_meaning.specs.declared.which.Part.{Part}
use Rattle.script_meaning.specs.declared.which.Part.TheVariants as part
use Rattle.script_types.specs.declared.symbol.Symbol.{Symbol}
use Rattle.script_types.specs.declared.checked_step.Step.{Step as StepInMemory}
use Rattle.script_types.specs.declared.checked_script.BlockSteps.{BlockSteps}
use Rattle.script_types.specs.Codes.{number_in}
use Rattle.script_types.specs.Numbers.{AreNumberedSteps, IsNumberedScript, IsNumberedBlock, IsNumberedProgram}
use Rattle.script_types.specs.Program.{Steps, HandlerProgram, BlockProgram}
use Rattle.script_types.specs.ProgramOf.{steps_of, block_program_of}
use Rattle.script_meaning.specs.Meaning.{steps_of_handler, script_in}
use Rattle.script_run_blocks.specs.Tidy.{AreTidy, IsTidyScript, IsTidyBlock, IsTidyProgram}
use Rattle.script_run_blocks.proofs.TidyLemmas.{AreSound, seen_at, masks_at, masks_numbered}

-- what holds of all scripts of a block holds of each
module _ (P : Steps → Type 0) (Q : Option Steps → Type 0) (of_some : (steps : Steps) → Q (Some steps) → P steps) where
  handler_has : (handlers : List HandlerProgram) (place : ℕ) (steps : Steps) → AllByRecursion (λ h. P h.steps) handlers → steps_of_handler (slice_get handlers place) ≡ Some steps → P steps
  handler_has [] place steps h e = absurd cc
  handler_has (x ∷ handlers) zero steps h e = let same : x.steps ≡ steps = cc in subst P same h.0
  handler_has (x ∷ handlers) (suc place) steps h e = handler_has handlers place steps h.1 e

  script_has : (block : BlockProgram) (which : Part) (steps : Steps) → AllByRecursion (λ h. P h.steps) block.handlers → Q block.exception → Q block.rolled_back → Q block.remove → script_in block which ≡ Some steps → P steps
  script_has block (part.On place) steps h exception rolled_back remove e = handler_has block.handlers place steps h e
  script_has block part.Exception steps h exception rolled_back remove e = of_some steps (subst Q e exception)
  script_has block part.RolledBack steps h exception rolled_back remove e = of_some steps (subst Q e rolled_back)
  script_has block part.Remove steps h exception rolled_back remove e = of_some steps (subst Q e remove)

-- a script of such blocks
pub sound_in : (names : List (List ℕ)) (blocks : List BlockSteps) (number : ℕ) (which : Part) (block : BlockSteps) (script steps : List StepInMemory) → IsTidyProgram (map block_program_of blocks) → IsNumberedProgram names (map block_program_of blocks) → slice_get blocks number ≡ Some block → Some (steps_of script) ≡ script_in (block_program_of block) which → steps ≡ script → AreSound names steps
sound_in names blocks number which block script steps h g is own same =
    let b : BlockProgram = block_program_of block in
    let tidy : IsTidyBlock b = seen_at block_program_of IsTidyBlock blocks number block h is in
    let numbered : IsNumberedBlock names b = seen_at block_program_of (IsNumberedBlock names) blocks number block g is in
    let one : AreTidy (steps_of script) = script_has AreTidy IsTidyScript (λ x h. h) b which (steps_of script) tidy.handlers tidy.exception tidy.rolled_back tidy.remove (sym own) in
    let two : AreNumberedSteps names (steps_of script) = script_has (AreNumberedSteps names) (IsNumberedScript names) (λ x h. h) b which (steps_of script) numbered.handlers numbered.exception numbered.rolled_back numbered.remove (sym own) in
    subst (AreSound names) (sym same) (one, two)

-- the events that a block masks have the numbers of their names
pub masks_in : (names : List (List ℕ)) (blocks : List BlockSteps) (number : ℕ) (block : BlockSteps) (masks : List (Symbol (List ℕ))) → IsNumberedProgram names (map block_program_of blocks) → slice_get blocks number ≡ Some block → masks ≡ block.masks → map (λ x. x.number) masks ≡ map (λ x. number_in names x.name) masks
masks_in names blocks number block masks h is same =
    subst (λ (l : List (Symbol (List ℕ))). map (λ x. x.number) l ≡ map (λ x. number_in names x.name) l) (sym same) (masks_numbered names block.masks (masks_at names blocks number block h is))
