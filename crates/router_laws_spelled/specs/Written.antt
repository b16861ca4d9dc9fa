-- When the constants of scripts, as they are written, have spellings: numbers have 64 bits with a sign, and texts are texts.
use Rattle.std.specs.Prelude.{◌≡◌, true, pos, Option, Some, None, Result, Ok, Err}
use Rattle.std.specs.List.{AllByRecursion}
use Rattle.script_tree.specs.declared.tree.Leaf.{Leaf}
use Rattle.script_tree.specs.declared.tree.Leaf.TheVariants as l
use Rattle.script_tree.specs.Tree as tree
use Rattle.script_tree.specs.Tree.{Assigning, Bytes, Expression, OnActivities, OnEntities, SettingTimer, Statement, Statements}
use Rattle.script_tree.specs.declared.fault.SyntaxFault.{SyntaxFault}
use Rattle.script_types.specs.Codes.{Block, Handler, Method, relation_named}
use Rattle.script_types.specs.declared.codes.RelationCode.{RelationCode}
use Rattle.router_state.specs.Fits.{is_i64, is_text}

-- the constant of a leaf
abbrev pub LeafSpelled : Leaf → Type 0
LeafSpelled (l.Int n) = is_i64 (pos n) ≡ true
LeafSpelled (l.Text text) = is_text text ≡ true
LeafSpelled _ = Unit {0}

-- those of an expression
abbrev pub WrittenSpelled : Expression → Type 0
WrittenSpelled (tree.Leaf leaf) = LeafSpelled leaf
WrittenSpelled (tree.Unary op x) = WrittenSpelled x
WrittenSpelled (tree.Binary op x y) = WrittenSpelled x × WrittenSpelled y
WrittenSpelled (tree.Ask query x) = WrittenSpelled x
WrittenSpelled (tree.Group x) = WrittenSpelled x

-- those of one that may be missing, and of two
abbrev pub MaybeSpelled : Option Expression → Type 0
MaybeSpelled None = Unit {0}
MaybeSpelled (Some x) = WrittenSpelled x

abbrev pub BothSpelled : Option (Expression × Expression) → Type 0
BothSpelled None = Unit {0}
BothSpelled (Some x) = WrittenSpelled x.0 × WrittenSpelled x.1

-- those of statements
abbrev pub AssignedSpelled : Assigning → Type 0
AssignedSpelled (tree.New name x) = WrittenSpelled x
AssignedSpelled (tree.Variable name x) = WrittenSpelled x
AssignedSpelled (tree.Field name x) = WrittenSpelled x
AssignedSpelled (tree.Attribute x name y) = WrittenSpelled x × WrittenSpelled y

abbrev pub ChildrenSpelled : OnEntities → Type 0
ChildrenSpelled (tree.Create relation child priority) = MaybeSpelled priority
ChildrenSpelled (tree.Remove child) = Unit {0}
ChildrenSpelled (tree.Priority child x) = WrittenSpelled x
ChildrenSpelled (tree.Call child method arguments result) = AllByRecursion WrittenSpelled arguments

abbrev pub ActedSpelled : OnActivities → Type 0
ActedSpelled (tree.Attach who x) = WrittenSpelled x
ActedSpelled (tree.Detach who x) = WrittenSpelled x
ActedSpelled (tree.Mask event x) = WrittenSpelled x
ActedSpelled (tree.Unmask event x) = WrittenSpelled x
ActedSpelled (tree.Fire event x service fields) = WrittenSpelled x × AllByRecursion (λ (f : Bytes × Expression). WrittenSpelled f.1) fields
ActedSpelled (tree.Null name) = Unit {0}
ActedSpelled (tree.Bind x y) = WrittenSpelled x × WrittenSpelled y

abbrev pub TimerSpelled : SettingTimer → Type 0
TimerSpelled t = WrittenSpelled t.activity × WrittenSpelled t.start × BothSpelled t.repeat

abbrev mutual
  pub StatementSpelled : Statement → Type 0
  StatementSpelled (tree.Assign x) = AssignedSpelled x
  StatementSpelled (tree.Entity x) = ChildrenSpelled x
  StatementSpelled (tree.Activity x) = ActedSpelled x
  StatementSpelled (tree.Timer x) = TimerSpelled x
  StatementSpelled (tree.Do verb x) = WrittenSpelled x
  StatementSpelled (tree.Usage name x) = WrittenSpelled x
  StatementSpelled tree.Rollback = Unit {0}
  StatementSpelled (tree.If x body) = WrittenSpelled x × StatementsSpelled body
  StatementSpelled (tree.IfElse x body other) = WrittenSpelled x × StatementsSpelled body × StatementsSpelled other
  StatementSpelled (tree.While x body) = WrittenSpelled x × StatementsSpelled body
  StatementSpelled (tree.For name over body) = StatementsSpelled body

  pub StatementsSpelled : Statements → Type 0
  StatementsSpelled tree.Nothing = Unit {0}
  StatementsSpelled (tree.Then x more) = StatementSpelled x × StatementsSpelled more

-- those of a script that may be missing
abbrev pub CallbackSpelled : Option Statements → Type 0
CallbackSpelled None = Unit {0}
CallbackSpelled (Some script) = StatementsSpelled script

-- those of what is read as a script
abbrev pub ReadSpelled : Result Statements SyntaxFault → Type 0
ReadSpelled (Ok script) = StatementsSpelled script
ReadSpelled (Err fault) = Unit {0}

-- those of a block's scripts, and the priorities that its relations give
pub record BlockWritten (block : Block) : Type 0 where
  pub handlers : AllByRecursion (λ (h : Handler). StatementsSpelled h.script) block.handlers
  pub methods : AllByRecursion (λ (m : Method). StatementsSpelled m.script) block.methods
  pub exception : CallbackSpelled block.exception
  pub rolled_back : CallbackSpelled block.rolled_back
  pub remove : CallbackSpelled block.remove
  pub ranks : (name : Bytes) (r : RelationCode) → relation_named name block ≡ Some r → is_i64 r.priority ≡ true
