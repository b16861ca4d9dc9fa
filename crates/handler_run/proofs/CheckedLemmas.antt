-- A script of a checked deployment has a meaning.
use Rattle.std.proofs.Common.{◌≡◌, ◌≤◌, List, length, map, Option, Some, None, Ok, refl, sym, subst}
use Rattle.std.specs.Prelude.{slice_get}
use Rattle.slee_value.specs.declared.ids.EntityId.{EntityId}
use Rattle.script_types.specs.declared.codes.Codes.{Codes as CodesInMemory}
use Rattle.script_types.specs.declared.checked_script.BlockSteps.{BlockSteps}
use Rattle.script_types.specs.Codes.{Codes}
use Rattle.script_types.specs.CodesOf.{codes_of}
use Rattle.script_tree.specs.Tree.{Bytes}
use Rattle.script_types.specs.Numbers.{IsNumberedProgram}
use Rattle.script_types.specs.Program.{Program, BlockProgram, Steps}
use Rattle.script_types.specs.Programs.{program_of}
use Rattle.script_types.specs.ProgramOf.{block_program_of, kept_program, IsChecked}
use Rattle.script_meaning.specs.declared.outcome.Args.{Args}
use Rattle.script_meaning.specs.declared.which.Which.{Which}
use Rattle.script_meaning.specs.Answers.{Answers}
use Rattle.script_meaning.specs.Running.{key_limit}
use Rattle.script_meaning.specs.Meaning.{Before, Unchecked, meaning_with, meaning_of, meaning}
use Rattle.script_laws.specs.Fitting.{IsSound}
use Rattle.script_laws.proofs.SafeCalls.{meaning_is_sound}
use Rattle.script_laws.proofs.NumberedPrograms.{program_numbered}
use Rattle.script_run_blocks.specs.Tidy.{IsTidyProgram}
use Rattle.handler_run.specs.Scripts.{script_of_block, script_of}
use Rattle.handler_run.proofs.TidyPrograms.{program_tidy}

block_sound : (all : Codes) (program : Program) (answers : Answers) (which : Which) (e : EntityId) (arguments : Args) (before : Before) (steps : Steps) (o : Option BlockProgram) → program_of all ≡ Ok program → slice_get program which.block ≡ o → script_of_block o which ≡ Some steps → length before.keys ≤ key_limit → IsSound answers before (meaning_of answers program o which.part e arguments before)
block_sound all program answers which e arguments before steps None made is there few = absurd cc
block_sound all program answers which e arguments before steps (Some block) made is there few =
    subst (λ o. IsSound answers before (meaning_with answers program block o e arguments before)) (sym there)
    (meaning_is_sound all program made answers which.block block which.part steps e arguments before is there few)

-- no script of a checked deployment comes to what a checked program doesn't have
pub never_unchecked : (codes : CodesInMemory) (blocks : List BlockSteps) (answers : Answers) (which : Which) (e : EntityId) (arguments : Args) (before : Before) (steps : Steps) → IsChecked codes → script_of (kept_program codes) which ≡ Some steps → length before.keys ≤ key_limit → blocks ≡ codes.programs → meaning answers (map block_program_of blocks) which e arguments before ≡ Unchecked → ⊥
never_unchecked codes blocks answers which e arguments before steps made there few all h =
    let program : Program = kept_program codes in
    let sound : IsSound answers before (meaning answers program which e arguments before) = block_sound (codes_of codes) program answers which e arguments before steps (slice_get program which.block) made refl there few in
    let own : IsSound answers before (meaning answers (map block_program_of blocks) which e arguments before) = subst (λ (l : List BlockSteps). IsSound answers before (meaning answers (map block_program_of l) which e arguments before)) (sym all) sound in
    subst (IsSound answers before) h own

pub checked_tidy : (codes : CodesInMemory) (blocks : List BlockSteps) → IsChecked codes → blocks ≡ codes.programs → IsTidyProgram (map block_program_of blocks)
checked_tidy codes blocks made all = subst (λ (l : List BlockSteps). IsTidyProgram (map block_program_of l)) (sym all) (program_tidy (codes_of codes) (kept_program codes) made)

pub checked_numbered : (codes : CodesInMemory) (blocks : List BlockSteps) (names : List Bytes) → IsChecked codes → blocks ≡ codes.programs → names ≡ codes.names → IsNumberedProgram names (map block_program_of blocks)
checked_numbered codes blocks names made all same =
    subst (λ (l : List BlockSteps). IsNumberedProgram names (map block_program_of l)) (sym all)
    (subst (λ (n : List Bytes). IsNumberedProgram n (kept_program codes)) (sym same) (program_numbered (codes_of codes) (kept_program codes) made))
