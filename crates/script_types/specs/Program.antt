-- A checked script as a value: terms and steps in which every name is resolved. Variables are places in the scope, and each comparison has the type of its operands.
use Rattle.std.specs.Prelude.{ℕ, ℤ, Bool, List, Option}
use Rattle.slee_value.specs.declared.kind.Kind.{Kind}
use Rattle.slee_value.specs.declared.keep.Keep.{Keep}
use Rattle.script_tree.specs.Tree.{Bytes}
use Rattle.script_types.specs.declared.symbol.Symbol.{Symbol}
use Rattle.script_types.specs.declared.term.Atom.{Atom}
use Rattle.script_types.specs.declared.term.Question.{Question}
use Rattle.script_types.specs.declared.term.Test.{Test}
use Rattle.script_types.specs.declared.term.Joint.{Joint}
use Rattle.script_types.specs.declared.step.Who.{Who}
use Rattle.script_types.specs.declared.step.Range.{Range}

-- An expression: without parts, a question to a value, a comparison, or an operator between two operands.
pub data Term : Type 0 where
  Single : Atom → Term
  Ask : Question → Term → Term
  Compare : Test → Term → Term → Term
  Combine : Joint → Term → Term → Term

-- Steps that give a value to something: a new variable, a variable, a field of the entity, an attribute of an activity by its shared key.
pub data Assigning : Type 0 where
  New : Term → Assigning
  Variable : ℕ → Term → Assigning
  Field : Symbol Bytes → Term → Assigning
  Attribute : Term → Symbol Bytes → Term → Assigning

-- The priority of a new child: that of its relation, or what the script asks for.
pub data Rank : Type 0 where
  Given : ℤ → Rank
  Asked : Term → Rank

-- A call: the child, the block and the method by number, the arguments, and whether the result becomes a variable.
pub record Call : Type 0 where
  pub child : ℕ
  pub block : ℕ
  pub method : ℕ
  pub arguments : List Term
  pub keeps : Bool

-- Steps on child entities.
pub data OnEntities : Type 0 where
  Create : Symbol Bytes → Rank → OnEntities
  Remove : ℕ → OnEntities
  Priority : ℕ → Term → OnEntities

-- Steps on activities. The fields of a fired event stand in the order of the text.
pub data OnActivities : Type 0 where
  Attach : Who → Term → OnActivities
  Detach : Who → Term → OnActivities
  Mask : Symbol Bytes → Bool → Term → OnActivities
  Fire : Bytes → Term → Option Bytes → List (Bytes × Term) → OnActivities
  Null : OnActivities
  End : Term → OnActivities
  Bind : Term → Term → OnActivities
  Unbind : Term → OnActivities
  Suspend : Term → OnActivities
  Resume : Term → OnActivities

-- Steps on timers: activity, start, period with times, and which missed occurrences are fired.
pub data OnTimers : Type 0 where
  Start : Term → Term → Option (Term × Term) → Keep → OnTimers
  Cancel : Term → OnTimers

-- Steps that say something or end the script.
pub data Saying : Type 0 where
  Emit : Term → Saying
  Usage : Bytes → Term → Saying
  Return : Term → Saying
  Throw : Term → Saying
  Rollback : Saying

-- A step, and steps one behind another.
mutual
  pub data Step : Type 0 where
    Assign : Assigning → Step
    Entity : OnEntities → Step
    Activity : OnActivities → Step
    Timer : OnTimers → Step
    Say : Saying → Step
    Invoke : Call → Step
    If : Term → Steps → Steps → Step
    While : Term → Steps → Step
    For : Range → Steps → Step

  pub data Steps : Type 0 where
    Nothing : Steps
    Then : Step → Steps → Steps

-- A handler with its event.
pub record HandlerProgram : Type 0 where
  pub event : Bytes
  pub steps : Steps

-- A method with the type of its result. Its parameters are the first variables.
pub record MethodProgram : Type 0 where
  pub result : Option Kind
  pub steps : Steps

-- The scripts of a block, and the events that its entities mask when they are attached.
pub record BlockProgram : Type 0 where
  pub masks : List (Symbol Bytes)
  pub handlers : List HandlerProgram
  pub methods : List MethodProgram
  pub exception : Option Steps
  pub rolled_back : Option Steps
  pub remove : Option Steps

-- The scripts of a deployment, block by block.
abbrev pub Program : Type 0
Program = List BlockProgram
