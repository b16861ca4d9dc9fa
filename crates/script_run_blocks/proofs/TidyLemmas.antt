-- Steps that are tidy and whose names have their numbers: those of lists and of programs that are so.
use Rattle.std.proofs.Common.{◌≡◌, ◌<◌, ℕ, zero, suc, List, [], ◌∷◌, length, get_or, map, Some, Vec, Global, refl, sym, ap, ◌∙◌, subst, arith}
use Rattle.std.specs.Prelude.{slice_get, option_map}
use Rattle.std.proofs.lemmas.Option.{slice_get-map}
use Rattle.std.specs.List.{AllByRecursion}
use Rattle.script_types.specs.declared.step.Range.{Range}
use Rattle.script_types.specs.declared.checked_term.Term.{Term as TermInMemory}
use Rattle.script_types.specs.declared.checked_step.Step as s
use Rattle.script_types.specs.declared.checked_step.Step.{Step as StepInMemory}
use Rattle.script_types.specs.declared.checked_script.BlockSteps.{BlockSteps}
use Rattle.script_types.specs.declared.checked_script.MethodSteps.{MethodSteps}
use Rattle.script_types.specs.declared.symbol.Symbol.{Symbol}
use Rattle.script_types.specs.Codes.{number_in}
use Rattle.script_types.specs.Numbers.{IsNumbered, IsNumberedStep, IsNumberedTerm, IsNumberedRange, AreNumberedSteps, IsNumberedBlock, IsNumberedProgram}
use Rattle.script_types.specs.Program.{Step, MethodProgram}
use Rattle.script_types.specs.ProgramOf.{term_of, step_of, steps_of, block_program_of, method_program_of}
use Rattle.script_types.proofs.ProgramRows.{if_step, while_step, for_step}
use Rattle.script_run_blocks.specs.declared.stage.Stage.{Stage}
use Rattle.script_run_blocks.specs.Tidy.{IsTidy, AreTidy, IsTidyBlock}
use Rattle.script_run_blocks.specs.Stages.{IsTidyStage}

-- a step that is tidy, whose names have their numbers
abbrev IsSound : List (List ℕ) → Step → Type 0
IsSound names x = IsTidy x × IsNumberedStep names x

abbrev pub AreSound : List (List ℕ) → List StepInMemory → Type 0
AreSound names body = AreTidy (steps_of body) × AreNumberedSteps names (steps_of body)

-- each of sound steps is
pub sound_at : (names : List (List ℕ)) (body : List StepInMemory) (i : ℕ) (x : StepInMemory) → i < length body → x ≡ get_or body i x → AreSound names body → IsSound names (step_of x)
sound_at names [] i x lt is h = absurd (omega arith)
sound_at names (y ∷ body) zero x lt is h = subst (λ z. IsSound names (step_of z)) (sym is) (h.0.0, h.1.0)
sound_at names (y ∷ body) (suc i) x lt is h = sound_at names body i x (omega arith) is (h.0.1, h.1.1)

-- the terms and the blocks of a sound step
pub sound_if : (names : List (List ℕ)) (x : StepInMemory) (t : TermInMemory) (v w : Vec StepInMemory Global) (body other : List StepInMemory) → x ≡ s.If t v w → body ≡ v.items → other ≡ w.items → IsSound names (step_of x) → IsNumberedTerm names (term_of t) × AreSound names body × AreSound names other
sound_if names x t v w body other is one two h =
    let all = subst (IsSound names) (ap step_of is ∙ if_step t v w) h in
    (all.1.0, subst (AreSound names) (sym one) (all.0.0, all.1.1.0), subst (AreSound names) (sym two) (all.0.1, all.1.1.1))

pub sound_while : (names : List (List ℕ)) (x : StepInMemory) (t : TermInMemory) (v : Vec StepInMemory Global) (body : List StepInMemory) → x ≡ s.While t v → body ≡ v.items → IsSound names (step_of x) → IsNumberedTerm names (term_of t) × AreSound names body
sound_while names x t v body is one h =
    let all = subst (IsSound names) (ap step_of is ∙ while_step t v) h in
    (all.1.0, subst (AreSound names) (sym one) (all.0, all.1.1))

pub sound_for : (names : List (List ℕ)) (x : StepInMemory) (range : Range) (v : Vec StepInMemory Global) (body : List StepInMemory) → x ≡ s.For range v → body ≡ v.items → IsSound names (step_of x) → IsNumberedRange names range × AreSound names body
sound_for names x range v body is one h =
    let all = subst (IsSound names) (ap step_of is ∙ for_step range v) h in
    (all.1.0, subst (AreSound names) (sym one) (all.0, all.1.1))

-- one of a list of which this holds
all_at : {A : Type 0} (P : A → Type 0) (xs : List A) (i : ℕ) (x : A) → AllByRecursion P xs → slice_get xs i ≡ Some x → P x
all_at P [] i x h e = absurd cc
all_at P (y ∷ xs) zero x h e = let same : y ≡ x = cc in subst P same h.0
all_at P (y ∷ xs) (suc i) x h e = all_at P xs i x h.1 e

-- one of a list that is seen as values of which this holds
pub seen_at : {A B : Type 0} (f : A → B) (P : B → Type 0) (xs : List A) (i : ℕ) (x : A) → AllByRecursion P (map f xs) → slice_get xs i ≡ Some x → P (f x)
seen_at f P xs i x h e = all_at P (map f xs) i (f x) h (slice_get-map f xs i ∙ ap (option_map f) e)

-- the steps of a method are sound where all are
pub sound_method : (stage : Stage) (b m : ℕ) (block : BlockSteps) (method : MethodSteps) (methods : List MethodSteps) (steps : List StepInMemory) → IsTidyStage stage → slice_get stage.blocks.now b ≡ Some block → methods ≡ block.methods → slice_get methods m ≡ Some method → steps ≡ method.steps → AreSound stage.scene.names.now steps
sound_method stage b m block method methods steps h is all own own_steps =
    let names : List (List ℕ) = stage.scene.names.now in
    let tidy : IsTidyBlock (block_program_of block) = seen_at block_program_of IsTidyBlock stage.blocks.now b block h.0 is in
    let numbered : IsNumberedBlock names (block_program_of block) = seen_at block_program_of (IsNumberedBlock names) stage.blocks.now b block h.1 is in
    let there : slice_get block.methods m ≡ Some method = ap (λ (l : List MethodSteps). slice_get l m) (sym all) ∙ own in
    let P : MethodProgram → Type 0 = λ p. AreTidy p.steps in
    let Q : MethodProgram → Type 0 = λ p. AreNumberedSteps names p.steps in
    subst (AreSound names) (sym own_steps) (seen_at method_program_of P block.methods m method tidy.methods there, seen_at method_program_of Q block.methods m method numbered.methods there)

-- the events that a block masks have the numbers of their names
pub masks_at : (names : List (List ℕ)) (blocks : List BlockSteps) (b : ℕ) (block : BlockSteps) → IsNumberedProgram names (map block_program_of blocks) → slice_get blocks b ≡ Some block → AllByRecursion (IsNumbered names) block.masks
masks_at names blocks b block h is =
    let numbered : IsNumberedBlock names (block_program_of block) = seen_at block_program_of (IsNumberedBlock names) blocks b block h is in
    numbered.masks

-- the same as equal lists
pub masks_numbered : (names : List (List ℕ)) (masks : List (Symbol (List ℕ))) → AllByRecursion (IsNumbered names) masks → map (λ x. x.number) masks ≡ map (λ x. number_in names x.name) masks
masks_numbered names [] h = refl
masks_numbered names (x ∷ masks) h = ap (λ n. n ∷ map (λ x. x.number) masks) h.0 ∙ ap (λ l. number_in names x.name ∷ l) (masks_numbered names masks h.1)
