-- What an entity says when it goes is said over its fields alone, as over all answers.
use Rattle.std.proofs.Common.{◌≡◌, ◌+◌, ℕ, zero, suc, List, [], ◌∷◌, Option, Some, None, Ok, Err, refl, ap, subst}
use Rattle.std.specs.Prelude.{slice_get}
use Rattle.std.specs.List.{AllByRecursion}
use Rattle.std.specs.Option.{option_map_or}
use Rattle.slee_value.specs.declared.ids.EntityId.{EntityId}
use Rattle.script_tree.specs.Tree.{Statements}
use Rattle.script_types.specs.declared.codes.CodePart.TheVariants as part
use Rattle.script_types.specs.declared.codes.CodePlace.{CodePlace}
use Rattle.script_types.specs.declared.codes.Codes.{Codes as CodesInMemory}
use Rattle.script_types.specs.CodesOf.{codes_of}
use Rattle.script_types.specs.Codes.{Codes, Block}
use Rattle.script_types.specs.TypingResult.{Checked}
use Rattle.script_types.specs.TypingExpressions.{OnException, OnRolledBack, OnRemove}
use Rattle.script_types.specs.ElaborationOfStatements.{MadeAll, statements_made}
use Rattle.script_types.specs.Program.{Steps, BlockProgram, Program}
use Rattle.script_types.specs.Programs.{Built, placed, place_of, handlers_of, methods_of, callback_of, block_of, blocks_of, program_of}
use Rattle.script_types.specs.Programs as built
use Rattle.script_types.specs.ProgramOf.{IsChecked, kept_program}
use Rattle.script_meaning.specs.declared.key.Key.TheVariants as k
use Rattle.script_meaning.specs.Answers.{Answers}
use Rattle.script_meaning.specs.Meaning.{nothing_before}
use Rattle.script_meaning.specs.Removal.{no_args, lines_in, lines_with, removal_lines}
use Rattle.script_laws.proofs.NumberedResults.{AllOk, AllBuilt, built_then}
use Rattle.rollback_calls.specs.LastWords.{words_over}
use Rattle.router_basis.proofs.OwnScripts.{AreOwnSteps, AreOwnMade, on_remove, statements_own}
use Rattle.router_basis.proofs.OwnRuns.{meaning_same}

-- a script that a block may lack
abbrev IsOwnScript : Option Steps → Type 0
IsOwnScript None = Unit {0}
IsOwnScript (Some steps) = AreOwnSteps steps

abbrev IsOwnBlock : BlockProgram → Type 0
IsOwnBlock block = IsOwnScript block.remove

built_skip : {A B : Type 0} (Q : B → Type 0) (r : Built A) (g : A → Built B) → ((x : A) → AllBuilt Q (g x)) → AllBuilt Q (built.◌>>=◌ r g)
built_skip Q (Ok x) g go = go x
built_skip Q (Err fault) g go = tt

placed_own : (all : Codes) (block : Block) (place : CodePlace) (r : Checked MadeAll) → AllOk (AreOwnMade all block) r → AllBuilt AreOwnSteps (placed place r)
placed_own all block place (Ok made) h = h
placed_own all block place (Err fault) h = tt

remove_own : (all : Codes) (block : Block) (place : CodePlace) (script : Option Statements) → AllBuilt IsOwnScript (callback_of all block place OnRemove script)
remove_own all block place None = tt
remove_own all block place (Some script) =
    built_then AreOwnSteps IsOwnScript (placed place (statements_made (on_remove all block) [] 0 script)) _ (placed_own all block place (statements_made (on_remove all block) [] 0 script) (statements_own all block [] 0 script)) (λ steps h. h)

block_own : (all : Codes) (number : ℕ) (block : Block) → AllBuilt IsOwnBlock (block_of all number block)
block_own all number block =
    built_skip IsOwnBlock (handlers_of all block number 0 block.handlers) _ (λ handlers.
    built_skip IsOwnBlock (methods_of all block number 0 block.methods) _ (λ methods.
    built_skip IsOwnBlock (callback_of all block (place_of number part.Exception) OnException block.exception) _ (λ exception.
    built_skip IsOwnBlock (callback_of all block (place_of number part.RolledBack) OnRolledBack block.rolled_back) _ (λ rolled_back.
    built_then IsOwnScript IsOwnBlock (callback_of all block (place_of number part.Remove) OnRemove block.remove) _ (remove_own all block (place_of number part.Remove) block.remove) (λ remove h. h)))))

blocks_own : (all : Codes) (number : ℕ) (blocks : List Block) → AllBuilt (AllByRecursion IsOwnBlock) (blocks_of all number blocks)
blocks_own all number [] = tt
blocks_own all number (block ∷ blocks) =
    built_then IsOwnBlock (AllByRecursion IsOwnBlock) (block_of all number block) _ (block_own all number block) (λ one h.
    built_then (AllByRecursion IsOwnBlock) (AllByRecursion IsOwnBlock) (blocks_of all (number + 1) blocks) _ (blocks_own all (number + 1) blocks) (λ others g. (h, g)))

program_own : (all : Codes) (program : Program) → program_of all ≡ Ok program → AllByRecursion IsOwnBlock program
program_own all program made = subst (AllBuilt (AllByRecursion IsOwnBlock)) made (blocks_own all 0 all.blocks)

module _ (answers other : Answers) (alike : (e : EntityId) (name : List ℕ) → answers (k.Field e name) ≡ other (k.Field e name)) where
  script_same : (program : Program) (block : BlockProgram) (e : EntityId) (script : Option Steps) → IsOwnScript script → lines_with answers program block e script ≡ lines_with other program block e script
  script_same program block e None own = refl
  script_same program block e (Some steps) own = ap (lines_in e) (meaning_same answers other program block steps e no_args nothing_before alike own)

  words_at : (program blocks : Program) (n : ℕ) (e : EntityId) → AllByRecursion IsOwnBlock blocks
      → option_map_or (λ block. removal_lines answers program block e) (slice_get blocks n) [] ≡ option_map_or (λ block. removal_lines other program block e) (slice_get blocks n) []
  words_at program [] n e own = refl
  words_at program (block ∷ blocks) zero e own = script_same program block e block.remove own.0
  words_at program (block ∷ blocks) (suc n) e own = words_at program blocks n e own.1

  pub words_same : (codes : CodesInMemory) (n : ℕ) (e : EntityId) → IsChecked codes → words_over answers (kept_program codes) n e ≡ words_over other (kept_program codes) n e
  words_same codes n e made = words_at (kept_program codes) (kept_program codes) n e (program_own (codes_of codes) (kept_program codes) made)
