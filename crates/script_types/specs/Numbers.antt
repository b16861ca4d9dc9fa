-- When the names in checked scripts stand with their numbers: each name's place among all names of the deployment.
use Rattle.std.specs.Prelude.{◌≡◌, List, Option, Some, None}
use Rattle.std.specs.List.{AllByRecursion}
use Rattle.script_tree.specs.Tree.{Bytes}
use Rattle.script_types.specs.declared.symbol.Symbol.{Symbol}
use Rattle.script_types.specs.declared.term.Atom.{Atom}
use Rattle.script_types.specs.declared.term.Atom.TheVariants as a
use Rattle.script_types.specs.declared.term.Question.{Question}
use Rattle.script_types.specs.declared.term.Question.TheVariants as g
use Rattle.script_types.specs.declared.step.Range.{Range}
use Rattle.script_types.specs.declared.step.Range.TheVariants as range
use Rattle.script_types.specs.Codes.{number_in}
use Rattle.script_types.specs.Program as p
use Rattle.script_types.specs.Program.{Term, Single, Ask, Compare, Combine, Assigning, Rank, OnEntities, OnActivities, OnTimers, Saying, Call, Step, Steps, BlockProgram, Program}

-- A name stands with its number, or with none where it is none of the names.
abbrev pub IsNumbered : List Bytes → Symbol Bytes → Type 0
IsNumbered names x = x.number ≡ number_in names x.name

-- An atom: a field of the entity and a count of children have names.
abbrev pub IsNumberedAtom : List Bytes → Atom → Type 0
IsNumberedAtom names (a.Field x kind) = IsNumbered names x
IsNumberedAtom names (a.Count x) = IsNumbered names x
IsNumberedAtom names _ = Unit {0}

-- A question to a value: masked events, attributes and tables have names. The name of a row is a value that the script makes.
abbrev pub IsNumberedQuestion : List Bytes → Question → Type 0
IsNumberedQuestion names (g.Masked x) = IsNumbered names x
IsNumberedQuestion names (g.Attribute x kind) = IsNumbered names x
IsNumberedQuestion names (g.Profile x y kind) = IsNumbered names x × IsNumbered names y
IsNumberedQuestion names (g.HasProfile x) = IsNumbered names x
IsNumberedQuestion names _ = Unit {0}

-- An expression with all that stands in it.
abbrev pub IsNumberedTerm : List Bytes → Term → Type 0
IsNumberedTerm names (Single x) = IsNumberedAtom names x
IsNumberedTerm names (Ask question x) = IsNumberedQuestion names question × IsNumberedTerm names x
IsNumberedTerm names (Compare _ x y) = IsNumberedTerm names x × IsNumberedTerm names y
IsNumberedTerm names (Combine _ x y) = IsNumberedTerm names x × IsNumberedTerm names y

-- A step that gives a value to something.
abbrev pub IsNumberedAssigning : List Bytes → Assigning → Type 0
IsNumberedAssigning names (p.New x) = IsNumberedTerm names x
IsNumberedAssigning names (p.Variable place x) = IsNumberedTerm names x
IsNumberedAssigning names (p.Field field x) = IsNumbered names field × IsNumberedTerm names x
IsNumberedAssigning names (p.Attribute x key y) = IsNumberedTerm names x × (IsNumbered names key × IsNumberedTerm names y)

-- The priority of a new child.
abbrev pub IsNumberedRank : List Bytes → Rank → Type 0
IsNumberedRank names (p.Given priority) = Unit {0}
IsNumberedRank names (p.Asked x) = IsNumberedTerm names x

-- A step on child entities.
abbrev pub IsNumberedOnEntities : List Bytes → OnEntities → Type 0
IsNumberedOnEntities names (p.Create relation rank) = IsNumbered names relation × IsNumberedRank names rank
IsNumberedOnEntities names (p.Remove child) = Unit {0}
IsNumberedOnEntities names (p.Priority child x) = IsNumberedTerm names x

-- A step on activities. Events that are fired and their fields are compared with nothing, so they have no numbers.
abbrev pub IsNumberedOnActivities : List Bytes → OnActivities → Type 0
IsNumberedOnActivities names (p.Attach who x) = IsNumberedTerm names x
IsNumberedOnActivities names (p.Detach who x) = IsNumberedTerm names x
IsNumberedOnActivities names (p.Mask event on x) = IsNumbered names event × IsNumberedTerm names x
IsNumberedOnActivities names (p.Fire event x service fields) = IsNumberedTerm names x × AllByRecursion (λ field. IsNumberedTerm names field.1) fields
IsNumberedOnActivities names p.Null = Unit {0}
IsNumberedOnActivities names (p.End x) = IsNumberedTerm names x
IsNumberedOnActivities names (p.Bind x y) = IsNumberedTerm names x × IsNumberedTerm names y
IsNumberedOnActivities names (p.Unbind x) = IsNumberedTerm names x
IsNumberedOnActivities names (p.Suspend x) = IsNumberedTerm names x
IsNumberedOnActivities names (p.Resume x) = IsNumberedTerm names x

-- How often a timer occurs, where the script says so.
abbrev pub IsNumberedRepeat : List Bytes → Option (Term × Term) → Type 0
IsNumberedRepeat names None = Unit {0}
IsNumberedRepeat names (Some x) = IsNumberedTerm names x.0 × IsNumberedTerm names x.1

-- A step on timers.
abbrev pub IsNumberedOnTimers : List Bytes → OnTimers → Type 0
IsNumberedOnTimers names (p.Start x start repeat keep) = IsNumberedTerm names x × (IsNumberedTerm names start × IsNumberedRepeat names repeat)
IsNumberedOnTimers names (p.Cancel x) = IsNumberedTerm names x

-- A step that emits, counts, returns, throws or asks for rollback.
abbrev pub IsNumberedSaying : List Bytes → Saying → Type 0
IsNumberedSaying names (p.Emit x) = IsNumberedTerm names x
IsNumberedSaying names (p.Usage name x) = IsNumberedTerm names x
IsNumberedSaying names (p.Return x) = IsNumberedTerm names x
IsNumberedSaying names (p.Throw x) = IsNumberedTerm names x
IsNumberedSaying names p.Rollback = Unit {0}

-- What a loop goes over.
abbrev pub IsNumberedRange : List Bytes → Range → Type 0
IsNumberedRange names range.Activities = Unit {0}
IsNumberedRange names (range.Children relation) = IsNumbered names relation

-- A step with the steps in it, and steps one behind another.
abbrev mutual
  pub IsNumberedStep : List Bytes → Step → Type 0
  IsNumberedStep names (p.Assign x) = IsNumberedAssigning names x
  IsNumberedStep names (p.Entity x) = IsNumberedOnEntities names x
  IsNumberedStep names (p.Activity x) = IsNumberedOnActivities names x
  IsNumberedStep names (p.Timer x) = IsNumberedOnTimers names x
  IsNumberedStep names (p.Say x) = IsNumberedSaying names x
  IsNumberedStep names (p.Invoke call) = AllByRecursion (IsNumberedTerm names) call.arguments
  IsNumberedStep names (p.If x body other) = IsNumberedTerm names x × (AreNumberedSteps names body × AreNumberedSteps names other)
  IsNumberedStep names (p.While x body) = IsNumberedTerm names x × AreNumberedSteps names body
  IsNumberedStep names (p.For over body) = IsNumberedRange names over × AreNumberedSteps names body

  pub AreNumberedSteps : List Bytes → Steps → Type 0
  AreNumberedSteps names p.Nothing = Unit {0}
  AreNumberedSteps names (p.Then x rest) = IsNumberedStep names x × AreNumberedSteps names rest

-- A script that a block may lack.
abbrev pub IsNumberedScript : List Bytes → Option Steps → Type 0
IsNumberedScript names None = Unit {0}
IsNumberedScript names (Some steps) = AreNumberedSteps names steps

-- All scripts of a block, and the events that its entities mask when they are attached.
pub record IsNumberedBlock (names : List Bytes) (block : BlockProgram) : Type 0 where
  pub masks : AllByRecursion (IsNumbered names) block.masks
  pub handlers : AllByRecursion (λ h. AreNumberedSteps names h.steps) block.handlers
  pub methods : AllByRecursion (λ m. AreNumberedSteps names m.steps) block.methods
  pub exception : IsNumberedScript names block.exception
  pub rolled_back : IsNumberedScript names block.rolled_back
  pub remove : IsNumberedScript names block.remove

-- All scripts of a deployment.
abbrev pub IsNumberedProgram : List Bytes → Program → Type 0
IsNumberedProgram names program = AllByRecursion (IsNumberedBlock names) program
