-- Scripts as values: the tree without its places in memory. Contracts see a script as `Statements`.
use Rattle.std.specs.Prelude.{ℕ, List, [], ◌∷◌, Option, Some, None, map}
use Rattle.slee_value.specs.declared.keep.Keep.{Keep}
use Rattle.script_tree.specs.declared.symbol.Operator.{Operator}
use Rattle.script_tree.specs.declared.symbol.Verb.{Verb}
use Rattle.script_tree.specs.declared.tree.Leaf.{Leaf as ALeaf}
use Rattle.script_tree.specs.declared.tree.Prefix.{Prefix}
use Rattle.script_tree.specs.declared.tree.Query.{Query}
use Rattle.script_tree.specs.declared.tree.Who.{Who}
use Rattle.script_tree.specs.declared.tree.Over.{Over}
use Rattle.script_tree.specs.declared.tree.Expr.{Expr, Row_of-Expr-Chain-1-2, end_of-Expr-Chain-1-2, more_of-Expr-Chain-1-2}
use Rattle.script_tree.specs.declared.tree.Expr.TheVariants as e
use Rattle.script_tree.specs.declared.tree.FieldValue.{FieldValue}
use Rattle.script_tree.specs.declared.tree.Repeat.{Repeat}
use Rattle.script_tree.specs.declared.tree.TimerStmt.{TimerStmt}
use Rattle.script_tree.specs.declared.tree.Assignment.{Assignment as AssignmentStmt}
use Rattle.script_tree.specs.declared.tree.Assignment.TheVariants as a
use Rattle.script_tree.specs.declared.tree.EntityStmt.{EntityStmt}
use Rattle.script_tree.specs.declared.tree.EntityStmt.TheVariants as n
use Rattle.script_tree.specs.declared.tree.ActivityStmt.{ActivityStmt}
use Rattle.script_tree.specs.declared.tree.ActivityStmt.TheVariants as y
use Rattle.script_tree.specs.declared.tree.Stmt.{Stmt, Row_of-Stmt, end_of-Stmt, more_of-Stmt}
use Rattle.script_tree.specs.declared.tree.Stmt.TheVariants as s

-- names and texts are their bytes
abbrev pub Bytes : Type 0
Bytes = List ℕ

pub data Expression : Type 0 where
  Leaf : ALeaf → Expression
  Unary : Prefix → Expression → Expression
  Binary : Operator → Expression → Expression → Expression
  Ask : Query → Expression → Expression
  Group : Expression → Expression  -- in round brackets

pub data Assigning : Type 0 where
  New : Bytes → Expression → Assigning
  Variable : Bytes → Expression → Assigning
  Field : Bytes → Expression → Assigning
  Attribute : Expression → Bytes → Expression → Assigning

pub data OnEntities : Type 0 where
  Create : Bytes → Bytes → Option Expression → OnEntities
  Remove : Bytes → OnEntities
  Priority : Bytes → Expression → OnEntities
  Call : Bytes → Bytes → List Expression → Option Bytes → OnEntities

pub data OnActivities : Type 0 where
  Attach : Who → Expression → OnActivities
  Detach : Who → Expression → OnActivities
  Mask : Bytes → Expression → OnActivities
  Unmask : Bytes → Expression → OnActivities
  Fire : Bytes → Expression → Option Bytes → List (Bytes × Expression) → OnActivities
  Null : Bytes → OnActivities
  Bind : Expression → Expression → OnActivities

-- name, activity, start, period and times, keep
pub record SettingTimer : Type 0 where
  pub name : Bytes
  pub activity : Expression
  pub start : Expression
  pub repeat : Option (Expression × Expression)
  pub keep : Option Keep

mutual
  pub data Statement : Type 0 where
    Assign : Assigning → Statement
    Entity : OnEntities → Statement
    Activity : OnActivities → Statement
    Timer : SettingTimer → Statement
    Do : Verb → Expression → Statement
    Usage : Bytes → Expression → Statement
    Rollback : Statement
    If : Expression → Statements → Statement
    IfElse : Expression → Statements → Statements → Statement
    While : Expression → Statements → Statement
    For : Bytes → Over → Statements → Statement

  pub data Statements : Type 0 where
    Nothing : Statements
    Then : Statement → Statements → Statements

-- one statement more at the end
abbrev pub add : Statements → Statement → Statements
add Nothing x = Then x Nothing
add (Then y ys) x = Then y (add ys x)

-- the tree that is kept in memory, as a value
abbrev mutual
  pub tree_of : Expr → Expression
  tree_of (e.Leaf l) = Leaf l
  tree_of (e.Unary' op _ x) = Unary op (tree_of x)
  tree_of (e.Chain' _ x op y _ more) = joined_row (Binary op (tree_of x) (tree_of y)) more
  tree_of (e.Ask' _ query x) = Ask query (tree_of x)
  tree_of (e.Group' _ x) = Group (tree_of x)

  -- operands that are joined from left to right
  pub joined_row : {n : _} → Expression → Row_of-Expr-Chain-1-2 n → Expression
  joined_row x end_of-Expr-Chain-1-2 = x
  joined_row x (more_of-Expr-Chain-1-2 op y more) = joined_row (Binary op x (tree_of y)) more

-- an operator between two operands
abbrev pub binary_of : Expr × Operator × Expr → Expression
binary_of x = Binary x.1 (tree_of x.0) (tree_of x.2)

-- the same as the row, over a list
abbrev pub joined : Expression → List (Operator × Expr) → Expression
joined x [] = x
joined x (y ∷ more) = joined (Binary y.0 x (tree_of y.1)) more

abbrev pub tree_of_some : Option Expr → Option Expression
tree_of_some None = None
tree_of_some (Some x) = Some (tree_of x)

abbrev pub field_of : FieldValue → Bytes × Expression
field_of x = (x.name, tree_of x.value)

abbrev pub repeat_of : Option Repeat → Option (Expression × Expression)
repeat_of None = None
repeat_of (Some x) = Some (tree_of x.period, tree_of x.times)

abbrev pub assigning_of : AssignmentStmt → Assigning
assigning_of (a.New name x) = New name (tree_of x)
assigning_of (a.Variable name x) = Variable name (tree_of x)
assigning_of (a.Field name x) = Field name (tree_of x)
assigning_of (a.Attribute x name y) = Attribute (tree_of x) name (tree_of y)

abbrev pub on_entities_of : EntityStmt → OnEntities
on_entities_of (n.Create relation child priority) = Create relation child (tree_of_some priority)
on_entities_of (n.Remove child) = Remove child
on_entities_of (n.Priority child x) = Priority child (tree_of x)
on_entities_of (n.Call child method arguments result) = Call child method (map tree_of arguments.items) result

abbrev pub on_activities_of : ActivityStmt → OnActivities
on_activities_of (y.Attach who x) = Attach who (tree_of x)
on_activities_of (y.Detach who x) = Detach who (tree_of x)
on_activities_of (y.Mask event x) = Mask event (tree_of x)
on_activities_of (y.Unmask event x) = Unmask event (tree_of x)
on_activities_of (y.Fire event x service fields) = Fire event (tree_of x) service (map field_of fields.items)
on_activities_of (y.Null name) = Null name
on_activities_of (y.Bind x z) = Bind (tree_of x) (tree_of z)

abbrev pub setting_of : TimerStmt → SettingTimer
setting_of t = record { name = t.name; activity = tree_of t.activity; start = tree_of t.start; repeat = repeat_of t.repeat; keep = t.keep }

abbrev mutual
  pub statement_of : Stmt → Statement
  statement_of (s.Assign x) = Assign (assigning_of x)
  statement_of (s.Entity x) = Entity (on_entities_of x)
  statement_of (s.Activity x) = Activity (on_activities_of x)
  statement_of (s.Timer x) = Timer (setting_of x.value)
  statement_of (s.Do verb x) = Do verb (tree_of x)
  statement_of (s.Usage name x) = Usage name (tree_of x)
  statement_of s.Rollback = Rollback
  statement_of (s.If' x _ body) = If (tree_of x) (row_of body)
  statement_of (s.IfElse' x _ body _ other) = IfElse (tree_of x) (row_of body) (row_of other)
  statement_of (s.While' x _ body) = While (tree_of x) (row_of body)
  statement_of (s.For' name over _ body) = For name over (row_of body)

  pub row_of : {n : _} → Row_of-Stmt n → Statements
  row_of end_of-Stmt = Nothing
  row_of (more_of-Stmt x rest) = Then (statement_of x) (row_of rest)

abbrev pub statements_of : List Stmt → Statements
statements_of [] = Nothing
statements_of (x ∷ xs) = Then (statement_of x) (statements_of xs)
