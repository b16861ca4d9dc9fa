-- The grammar, as one table of what may follow each token, and what a list of tokens is by it: a script, or a first misfit.
use Rattle.std.specs.Prelude.{ℕ, zero, suc, ◌+◌, ◌-◌, Bool, true, false, ◌==◌, nat_le, List, [], ◌∷◌, ◌++◌, length, Option, Some, None, if◌then◌else◌}
use Rattle.slee_value.specs.declared.keep.Keep.{Keep}
use Rattle.slee_value.specs.declared.keep.Keep.TheVariants as keeps
use Rattle.script_tree.specs.declared.symbol.Operator.{Operator}
use Rattle.script_tree.specs.declared.symbol.Operator.TheVariants as o
use Rattle.script_tree.specs.declared.symbol.Constant.{Constant}
use Rattle.script_tree.specs.declared.symbol.Constant.TheVariants as c
use Rattle.script_tree.specs.declared.symbol.Function.{Function}
use Rattle.script_tree.specs.declared.symbol.Verb.{Verb}
use Rattle.script_tree.specs.declared.symbol.Fixed.{Fixed}
use Rattle.script_tree.specs.declared.symbol.Fixed.TheVariants as x
use Rattle.script_tree.specs.declared.symbol.Symbol.{Symbol}
use Rattle.script_tree.specs.declared.symbol.Symbol.TheVariants as s
use Rattle.script_tree.specs.declared.lexeme.Lexeme.{Lexeme}
use Rattle.script_tree.specs.declared.lexeme.Lexeme.TheVariants as t
use Rattle.script_tree.specs.declared.fault.Misfit.{Misfit}
use Rattle.script_tree.specs.declared.fault.SyntaxBad.{SyntaxBad}
use Rattle.script_tree.specs.declared.fault.SyntaxBad.TheVariants as bad
use Rattle.script_tree.specs.declared.tree.Leaf.TheVariants as l
use Rattle.script_tree.specs.declared.tree.Prefix.{Prefix}
use Rattle.script_tree.specs.declared.tree.Prefix.TheVariants as prefixes
use Rattle.script_tree.specs.declared.tree.Query.TheVariants as q
use Rattle.script_tree.specs.declared.tree.Who.{Who as WhoTree}
use Rattle.script_tree.specs.declared.tree.Who.TheVariants as w
use Rattle.script_tree.specs.declared.tree.Over.{Over as OverTree}
use Rattle.script_tree.specs.declared.tree.Over.TheVariants as v
use denote.Enum.Bare.{sameb}
use Rattle.script_tree.specs.contracts.symbol.Fixed.{the_type}
use Rattle.script_tree.specs.Tree as tree
use Rattle.script_tree.specs.Tree.{Bytes, Expression, Statement, Statements, add}

-- what has been read and waits to be part of a larger tree
pub data Item : Type 0 where
  AName : Bytes → Item
  AText : Bytes → Item
  AWho : WhoTree → Item
  AnOver : OverTree → Item
  ATree : Expression → Item
  AStatement : Statement → Item
  ABlock : Statements → Item

-- what is made of the latest items: an expression, a statement, a statement with an optional part more, a block with a statement more
pub data Making : Type 0 where
  Operating : Operator → Making
  Prefixing : Prefix → Making
  Asking : Function → Making
  AskingMasked : Making
  AskingAttribute : Making
  AskingProfile : Making
  AskingHasProfile : Making
  Grouping : Making
  FieldOf : Making
  EventFieldOf : Making
  TableOf : Making
  CountOf : Making
  PriorityOf : Making
  Letting : Making
  SettingVariable : Making
  SettingField : Making
  SettingAttribute : Making
  Creating : Making
  WithPriority : Making
  Removing : Making
  SettingPriority : Making
  Calling : Making
  WithArgument : Making
  WithResult : Making
  Attaching : Making
  Detaching : Making
  Masking : Making
  Unmasking : Making
  Firing : Making
  ForService : Making
  WithField : Making
  MakingNull : Making
  Binding : Making
  SettingTimer : Making
  Repeating : Making
  Keeping : Keep → Making
  Doing : Verb → Making
  CountingUsage : Making
  RollingBack : Making
  Branching : Making
  Otherwise : Making
  Looping : Making
  Walking : Making
  Adding : Making

abbrev pub operated : Operator → List Item → List Item
operated op (ATree b ∷ ATree a ∷ is) = ATree (tree.Binary op a b) ∷ is
operated op is = is

abbrev pub prefixed : Prefix → List Item → List Item
prefixed op (ATree a ∷ is) = ATree (tree.Unary op a) ∷ is
prefixed op is = is

abbrev pub asked : Function → List Item → List Item
asked f (ATree a ∷ is) = ATree (tree.Ask (q.Plain f) a) ∷ is
asked f is = is

abbrev pub asked_masked : List Item → List Item
asked_masked (ATree a ∷ AText event ∷ is) = ATree (tree.Ask (q.Masked event) a) ∷ is
asked_masked is = is

abbrev pub asked_attribute : List Item → List Item
asked_attribute (AName name ∷ ATree a ∷ is) = ATree (tree.Ask (q.Attribute name) a) ∷ is
asked_attribute is = is

abbrev pub asked_profile : List Item → List Item
asked_profile (AName name ∷ ATree a ∷ AName table ∷ is) = ATree (tree.Ask (q.Profile table name) a) ∷ is
asked_profile is = is

abbrev pub asked_has_profile : List Item → List Item
asked_has_profile (ATree a ∷ AName table ∷ is) = ATree (tree.Ask (q.HasProfile table) a) ∷ is
asked_has_profile is = is

abbrev pub grouped : List Item → List Item
grouped (ATree a ∷ is) = ATree (tree.Group a) ∷ is
grouped is = is

abbrev pub field_of : List Item → List Item
field_of (AName name ∷ is) = ATree (tree.Leaf (l.Field name)) ∷ is
field_of is = is

abbrev pub event_field_of : List Item → List Item
event_field_of (AName name ∷ is) = ATree (tree.Leaf (l.EventField name)) ∷ is
event_field_of is = is

abbrev pub table_of : List Item → List Item
table_of (AName name ∷ is) = ATree (tree.Leaf (l.Table name)) ∷ is
table_of is = is

abbrev pub count_of : List Item → List Item
count_of (AName name ∷ is) = ATree (tree.Leaf (l.Count name)) ∷ is
count_of is = is

abbrev pub priority_of : List Item → List Item
priority_of (AName name ∷ is) = ATree (tree.Leaf (l.Priority name)) ∷ is
priority_of is = is

abbrev pub let_made : List Item → List Item
let_made (ATree a ∷ AName name ∷ is) = AStatement (tree.Assign (tree.New name a)) ∷ is
let_made is = is

abbrev pub variable_set : List Item → List Item
variable_set (ATree a ∷ AName name ∷ is) = AStatement (tree.Assign (tree.Variable name a)) ∷ is
variable_set is = is

abbrev pub field_set : List Item → List Item
field_set (ATree a ∷ AName name ∷ is) = AStatement (tree.Assign (tree.Field name a)) ∷ is
field_set is = is

abbrev pub attribute_set : List Item → List Item
attribute_set (ATree b ∷ AName name ∷ ATree a ∷ is) = AStatement (tree.Assign (tree.Attribute a name b)) ∷ is
attribute_set is = is

abbrev pub created : List Item → List Item
created (AName child ∷ AName relation ∷ is) = AStatement (tree.Entity (tree.Create relation child None)) ∷ is
created is = is

abbrev pub with_priority : List Item → List Item
with_priority (ATree a ∷ AStatement (tree.Entity (tree.Create relation child p)) ∷ is) = AStatement (tree.Entity (tree.Create relation child (Some a))) ∷ is
with_priority is = is

abbrev pub removed : List Item → List Item
removed (AName child ∷ is) = AStatement (tree.Entity (tree.Remove child)) ∷ is
removed is = is

abbrev pub priority_set : List Item → List Item
priority_set (ATree a ∷ AName child ∷ is) = AStatement (tree.Entity (tree.Priority child a)) ∷ is
priority_set is = is

abbrev pub called : List Item → List Item
called (AName method ∷ AName child ∷ is) = AStatement (tree.Entity (tree.Call child method [] None)) ∷ is
called is = is

abbrev pub with_argument : List Item → List Item
with_argument (ATree a ∷ AStatement (tree.Entity (tree.Call child method arguments result)) ∷ is) = AStatement (tree.Entity (tree.Call child method (arguments ++ a ∷ []) result)) ∷ is
with_argument is = is

abbrev pub with_result : List Item → List Item
with_result (AName name ∷ AStatement (tree.Entity (tree.Call child method arguments result)) ∷ is) = AStatement (tree.Entity (tree.Call child method arguments (Some name))) ∷ is
with_result is = is

abbrev pub attached : List Item → List Item
attached (ATree a ∷ AWho who ∷ is) = AStatement (tree.Activity (tree.Attach who a)) ∷ is
attached is = is

abbrev pub detached : List Item → List Item
detached (ATree a ∷ AWho who ∷ is) = AStatement (tree.Activity (tree.Detach who a)) ∷ is
detached is = is

abbrev pub masked : List Item → List Item
masked (ATree a ∷ AText event ∷ is) = AStatement (tree.Activity (tree.Mask event a)) ∷ is
masked is = is

abbrev pub unmasked : List Item → List Item
unmasked (ATree a ∷ AText event ∷ is) = AStatement (tree.Activity (tree.Unmask event a)) ∷ is
unmasked is = is

abbrev pub fired : List Item → List Item
fired (ATree a ∷ AText event ∷ is) = AStatement (tree.Activity (tree.Fire event a None [])) ∷ is
fired is = is

abbrev pub for_service : List Item → List Item
for_service (AText service ∷ AStatement (tree.Activity (tree.Fire event a s fields)) ∷ is) = AStatement (tree.Activity (tree.Fire event a (Some service) fields)) ∷ is
for_service is = is

abbrev pub with_field : List Item → List Item
with_field (ATree b ∷ AName name ∷ AStatement (tree.Activity (tree.Fire event a service fields)) ∷ is) = AStatement (tree.Activity (tree.Fire event a service (fields ++ (name, b) ∷ []))) ∷ is
with_field is = is

abbrev pub null_made : List Item → List Item
null_made (AName name ∷ is) = AStatement (tree.Activity (tree.Null name)) ∷ is
null_made is = is

abbrev pub bound : List Item → List Item
bound (ATree b ∷ ATree a ∷ is) = AStatement (tree.Activity (tree.Bind a b)) ∷ is
bound is = is

abbrev pub timer_set : List Item → List Item
timer_set (ATree b ∷ ATree a ∷ AName name ∷ is) = AStatement (tree.Timer (record { name = name; activity = a; start = b; repeat = None; keep = None })) ∷ is
timer_set is = is

abbrev pub repeated : List Item → List Item
repeated (ATree b ∷ ATree a ∷ AStatement (tree.Timer timer) ∷ is) = AStatement (tree.Timer (record timer { repeat = Some (a, b) })) ∷ is
repeated is = is

abbrev pub kept : Keep → List Item → List Item
kept k (AStatement (tree.Timer timer) ∷ is) = AStatement (tree.Timer (record timer { keep = Some k })) ∷ is
kept k is = is

abbrev pub done : Verb → List Item → List Item
done verb (ATree a ∷ is) = AStatement (tree.Do verb a) ∷ is
done verb is = is

abbrev pub usage_counted : List Item → List Item
usage_counted (ATree a ∷ AName name ∷ is) = AStatement (tree.Usage name a) ∷ is
usage_counted is = is

abbrev pub branched : List Item → List Item
branched (ABlock body ∷ ATree a ∷ is) = AStatement (tree.If a body) ∷ is
branched is = is

abbrev pub with_other : List Item → List Item
with_other (ABlock other ∷ AStatement (tree.If a body) ∷ is) = AStatement (tree.IfElse a body other) ∷ is
with_other is = is

abbrev pub looped : List Item → List Item
looped (ABlock body ∷ ATree a ∷ is) = AStatement (tree.While a body) ∷ is
looped is = is

abbrev pub walked : List Item → List Item
walked (ABlock body ∷ AnOver over ∷ AName name ∷ is) = AStatement (tree.For name over body) ∷ is
walked is = is

abbrev pub added : List Item → List Item
added (AStatement x ∷ ABlock body ∷ is) = ABlock (add body x) ∷ is
added is = is

abbrev pub make : Making → List Item → List Item
make (Operating op) = operated op
make (Prefixing op) = prefixed op
make (Asking f) = asked f
make AskingMasked = asked_masked
make AskingAttribute = asked_attribute
make AskingProfile = asked_profile
make AskingHasProfile = asked_has_profile
make Grouping = grouped
make FieldOf = field_of
make EventFieldOf = event_field_of
make TableOf = table_of
make CountOf = count_of
make PriorityOf = priority_of
make Letting = let_made
make SettingVariable = variable_set
make SettingField = field_set
make SettingAttribute = attribute_set
make Creating = created
make WithPriority = with_priority
make Removing = removed
make SettingPriority = priority_set
make Calling = called
make WithArgument = with_argument
make WithResult = with_result
make Attaching = attached
make Detaching = detached
make Masking = masked
make Unmasking = unmasked
make Firing = fired
make ForService = for_service
make WithField = with_field
make MakingNull = null_made
make Binding = bound
make SettingTimer = timer_set
make Repeating = repeated
make (Keeping k) = kept k
make (Doing verb) = done verb
make CountingUsage = usage_counted
make RollingBack = λ is. AStatement tree.Rollback ∷ is
make Branching = branched
make Otherwise = with_other
make Looping = looped
make Walking = walked
make Adding = added

-- what is still to come
pub data Part : Type 0 where
  One : Fixed → Part
  Name : Part
  Text : Part
  Who : Part  -- `self` or a name
  Over : Part  -- `activities` or a name
  KeepWord : Part
  Level : ℕ → Part  -- an expression with operators of this level and below
  More : ℕ → Part  -- operators of this level, each with its right operand
  Stmt : Part
  Stmts : Part
  Block : Making → Part
  MoreIf : Part
  MorePriority : Part
  MoreService : Part
  MoreFields : Part
  NextField : Part
  MoreRepeat : Part
  MoreKeep : Part
  Arguments : Part
  NextArgument : Part
  MoreResult : Part
  Make : Making → Part

-- what is still to come of a part behind its first token, and what the token itself is; or that the part can't begin so
pub data Next : Type 0 where
  Stops : Next
  Goes : List Part → List Item → Next

abbrev pub then_parts : Next → List Part → Next
then_parts Stops ps = Stops
then_parts (Goes qs is) ps = Goes (qs ++ ps) is

-- whether a token is this word or sign
abbrev pub is_fixed_symbol : Fixed → Symbol → Bool
is_fixed_symbol y (s.Fixed z) = sameb the_type z y
is_fixed_symbol y _ = false

abbrev pub is_fixed : Fixed → Lexeme → Bool
is_fixed y (t.Symbol z) = is_fixed_symbol y z
is_fixed y _ = false

-- what begins with this word or sign, with these parts behind it
abbrev pub opening : Fixed → List Part → List Item → Lexeme → Next
opening y ps is token = if is_fixed y token then Goes ps is else Stops

abbrev pub name_after : Lexeme → Next
name_after (t.Name n) = Goes [] (AName n ∷ [])
name_after _ = Stops

abbrev pub text_after : Lexeme → Next
text_after (t.Text n) = Goes [] (AText n ∷ [])
text_after _ = Stops

abbrev pub who_fixed : Fixed → Next
who_fixed x.Own = Goes [] (AWho w.Own ∷ [])
who_fixed _ = Stops

abbrev pub who_after : Lexeme → Next
who_after (t.Name n) = Goes [] (AWho (w.Child n) ∷ [])
who_after (t.Symbol (s.Fixed y)) = who_fixed y
who_after _ = Stops

abbrev pub over_fixed : Fixed → Next
over_fixed x.Activities = Goes [] (AnOver v.Activities ∷ [])
over_fixed _ = Stops

abbrev pub over_after : Lexeme → Next
over_after (t.Name n) = Goes [] (AnOver (v.Children n) ∷ [])
over_after (t.Symbol (s.Fixed y)) = over_fixed y
over_after _ = Stops

abbrev pub keep_fixed : Fixed → Next
keep_fixed x.All = Goes (Make (Keeping keeps.All) ∷ []) []
keep_fixed x.Last = Goes (Make (Keeping keeps.Last) ∷ []) []
keep_fixed _ = Stops

abbrev pub keep_constant : Constant → Next
keep_constant c.Nothing = Goes (Make (Keeping keeps.NoneMissed) ∷ []) []
keep_constant _ = Stops

abbrev pub keep_after : Lexeme → Next
keep_after (t.Symbol (s.Fixed y)) = keep_fixed y
keep_after (t.Symbol (s.Constant y)) = keep_constant y
keep_after _ = Stops

-- the level of an operator: `or` binds least
abbrev pub level_of : Operator → ℕ
level_of o.Or = 8
level_of o.And = 7
level_of o.Equal = 5
level_of o.NotEqual = 5
level_of o.Less = 5
level_of o.LessOrEqual = 5
level_of o.Greater = 5
level_of o.GreaterOrEqual = 5
level_of o.Join = 4
level_of o.Plus = 3
level_of o.Minus = 3
level_of o.Times = 2
level_of o.Divide = 2
level_of o.Remainder = 2

abbrev pub prim_fixed : Fixed → Next
prim_fixed x.OpenRound = Goes (Level 8 ∷ Make Grouping ∷ One x.CloseRound ∷ []) []
prim_fixed x.Own = Goes (One x.Dot ∷ Name ∷ Make FieldOf ∷ []) []
prim_fixed x.Event = Goes (One x.Dot ∷ Name ∷ Make EventFieldOf ∷ []) []
prim_fixed x.Masked = Goes (One x.OpenRound ∷ Text ∷ One x.Comma ∷ Level 8 ∷ Make AskingMasked ∷ One x.CloseRound ∷ []) []
prim_fixed x.Attr = Goes (One x.OpenRound ∷ Level 8 ∷ One x.Comma ∷ Name ∷ Make AskingAttribute ∷ One x.CloseRound ∷ []) []
prim_fixed x.Table = Goes (One x.OpenRound ∷ Name ∷ Make TableOf ∷ One x.CloseRound ∷ []) []
prim_fixed x.Profile = Goes (One x.OpenRound ∷ Name ∷ One x.Comma ∷ Level 8 ∷ One x.Comma ∷ Name ∷ Make AskingProfile ∷ One x.CloseRound ∷ []) []
prim_fixed x.HasProfile = Goes (One x.OpenRound ∷ Name ∷ One x.Comma ∷ Level 8 ∷ Make AskingHasProfile ∷ One x.CloseRound ∷ []) []
prim_fixed x.Count = Goes (One x.OpenRound ∷ Name ∷ Make CountOf ∷ One x.CloseRound ∷ []) []
prim_fixed x.Priority = Goes (One x.OpenRound ∷ Name ∷ Make PriorityOf ∷ One x.CloseRound ∷ []) []
prim_fixed _ = Stops

abbrev pub prim_symbol : Symbol → Next
prim_symbol (s.Constant y) = Goes [] (ATree (tree.Leaf (l.Constant y)) ∷ [])
prim_symbol (s.Function f) = Goes (One x.OpenRound ∷ Level 8 ∷ Make (Asking f) ∷ One x.CloseRound ∷ []) []
prim_symbol (s.Fixed y) = prim_fixed y
prim_symbol _ = Stops

abbrev pub prim_after : Lexeme → Next
prim_after (t.Int n) = Goes [] (ATree (tree.Leaf (l.Int n)) ∷ [])
prim_after (t.Text n) = Goes [] (ATree (tree.Leaf (l.Text n)) ∷ [])
prim_after (t.Name n) = Goes [] (ATree (tree.Leaf (l.Variable n)) ∷ [])
prim_after (t.Symbol y) = prim_symbol y
prim_after t.Bad = Stops

-- `-` before a prim is level 1, `not` before a comparison level 6
abbrev pub prefix_of : ℕ → Symbol → Option Prefix
prefix_of n (s.Operator o.Minus) = if n == 1 then Some prefixes.Negative else None
prefix_of n (s.Fixed x.Not) = if n == 6 then Some prefixes.Not else None
prefix_of n _ = None

abbrev pub prefix_parts : Option Prefix → ℕ → Next → Next
prefix_parts (Some op) n other = Goes (Level n ∷ Make (Prefixing op) ∷ []) []
prefix_parts None n other = other

abbrev pub prefix_after : ℕ → Lexeme → Next → Next
prefix_after n (t.Symbol y) other = prefix_parts (prefix_of n y) (n - 1) other
prefix_after n _ other = other

abbrev pub level_after : ℕ → Lexeme → Next
level_after zero y = prim_after y
level_after (suc n) y = then_parts (prefix_after (suc n) y (level_after n y)) (More (suc n) ∷ [])

-- comparisons make no chains
abbrev pub again : ℕ → List Part
again n = if n == 5 then [] else More n ∷ []

abbrev pub more_symbol : ℕ → Symbol → Next
more_symbol n (s.Operator op) = if level_of op == n then Goes (Level (n - 1) ∷ Make (Operating op) ∷ again n) [] else Stops
more_symbol n _ = Stops

abbrev pub more_after : ℕ → Lexeme → Next
more_after n (t.Symbol y) = more_symbol n y
more_after n _ = Stops

abbrev pub stmt_fixed : Fixed → Next
stmt_fixed x.Let = Goes (Name ∷ One x.Assign ∷ Level 8 ∷ Make Letting ∷ One x.Semicolon ∷ []) []
stmt_fixed x.Own = Goes (One x.Dot ∷ Name ∷ One x.Assign ∷ Level 8 ∷ Make SettingField ∷ One x.Semicolon ∷ []) []
stmt_fixed x.Attr = Goes (One x.OpenRound ∷ Level 8 ∷ One x.Comma ∷ Name ∷ One x.CloseRound ∷ One x.Assign ∷ Level 8 ∷ Make SettingAttribute ∷ One x.Semicolon ∷ []) []
stmt_fixed x.If = Goes (Level 8 ∷ Block Branching ∷ MoreIf ∷ []) []
stmt_fixed x.While = Goes (Level 8 ∷ Block Looping ∷ []) []
stmt_fixed x.For = Goes (Name ∷ One x.In ∷ Over ∷ Block Walking ∷ []) []
stmt_fixed x.Create = Goes (Name ∷ One x.As ∷ Name ∷ Make Creating ∷ MorePriority ∷ One x.Semicolon ∷ []) []
stmt_fixed x.Remove = Goes (Name ∷ Make Removing ∷ One x.Semicolon ∷ []) []
stmt_fixed x.Priority = Goes (Name ∷ Level 8 ∷ Make SettingPriority ∷ One x.Semicolon ∷ []) []
stmt_fixed x.Attach = Goes (Who ∷ One x.To ∷ Level 8 ∷ Make Attaching ∷ One x.Semicolon ∷ []) []
stmt_fixed x.Detach = Goes (Who ∷ One x.From ∷ Level 8 ∷ Make Detaching ∷ One x.Semicolon ∷ []) []
stmt_fixed x.Mask = Goes (Text ∷ One x.On ∷ Level 8 ∷ Make Masking ∷ One x.Semicolon ∷ []) []
stmt_fixed x.Unmask = Goes (Text ∷ One x.On ∷ Level 8 ∷ Make Unmasking ∷ One x.Semicolon ∷ []) []
stmt_fixed x.Fire = Goes (Text ∷ One x.On ∷ Level 8 ∷ Make Firing ∷ MoreService ∷ MoreFields ∷ One x.Semicolon ∷ []) []
stmt_fixed x.Null = Goes (One x.As ∷ Name ∷ Make MakingNull ∷ One x.Semicolon ∷ []) []
stmt_fixed x.Timer = Goes (Name ∷ One x.On ∷ Level 8 ∷ One x.At ∷ Level 8 ∷ Make SettingTimer ∷ MoreRepeat ∷ MoreKeep ∷ One x.Semicolon ∷ []) []
stmt_fixed x.Bind = Goes (Level 8 ∷ One x.To ∷ Level 8 ∷ Make Binding ∷ One x.Semicolon ∷ []) []
stmt_fixed x.Usage = Goes (Name ∷ Level 8 ∷ Make CountingUsage ∷ One x.Semicolon ∷ []) []
stmt_fixed x.Call = Goes (Name ∷ One x.Dot ∷ Name ∷ One x.OpenRound ∷ Make Calling ∷ Arguments ∷ One x.CloseRound ∷ MoreResult ∷ One x.Semicolon ∷ []) []
stmt_fixed x.Rollback = Goes (Make RollingBack ∷ One x.Semicolon ∷ []) []
stmt_fixed _ = Stops

abbrev pub stmt_symbol : Symbol → Next
stmt_symbol (s.Verb verb) = Goes (Level 8 ∷ Make (Doing verb) ∷ One x.Semicolon ∷ []) []
stmt_symbol (s.Fixed y) = stmt_fixed y
stmt_symbol _ = Stops

abbrev pub stmt_after : Lexeme → Next
stmt_after (t.Name n) = Goes (One x.Assign ∷ Level 8 ∷ Make SettingVariable ∷ One x.Semicolon ∷ []) (AName n ∷ [])
stmt_after (t.Symbol y) = stmt_symbol y
stmt_after _ = Stops

abbrev pub after : Part → Lexeme → Next
after (One y) = opening y [] []
after Name = name_after
after Text = text_after
after Who = who_after
after Over = over_after
after KeepWord = keep_after
after (Level n) = level_after n
after (More n) = more_after n
after Stmt = stmt_after
after Stmts = λ y. then_parts (stmt_after y) (Make Adding ∷ Stmts ∷ [])
after (Block m) = opening x.OpenCurly (Stmts ∷ Make m ∷ One x.CloseCurly ∷ []) (ABlock tree.Nothing ∷ [])
after MoreIf = opening x.Else (Block Otherwise ∷ []) []
after MorePriority = opening x.Priority (Level 8 ∷ Make WithPriority ∷ []) []
after MoreService = opening x.For (Text ∷ Make ForService ∷ []) []
after MoreFields = opening x.OpenCurly (Name ∷ One x.Colon ∷ Level 8 ∷ Make WithField ∷ NextField ∷ One x.CloseCurly ∷ []) []
after NextField = opening x.Comma (Name ∷ One x.Colon ∷ Level 8 ∷ Make WithField ∷ NextField ∷ []) []
after MoreRepeat = opening x.Every (Level 8 ∷ One x.Times ∷ Level 8 ∷ Make Repeating ∷ []) []
after MoreKeep = opening x.Keep (KeepWord ∷ []) []
after Arguments = λ y. then_parts (level_after 8 y) (Make WithArgument ∷ NextArgument ∷ [])
after NextArgument = opening x.Comma (Level 8 ∷ Make WithArgument ∷ NextArgument ∷ []) []
after MoreResult = opening x.As (Name ∷ Make WithResult ∷ []) []
after (Make m) = λ y. Stops

-- parts that may be passed over
abbrev pub optional : Part → Bool
optional (More n) = true
optional Stmts = true
optional MoreIf = true
optional MorePriority = true
optional MoreService = true
optional MoreFields = true
optional NextField = true
optional MoreRepeat = true
optional MoreKeep = true
optional Arguments = true
optional NextArgument = true
optional MoreResult = true
optional (Make m) = true
optional _ = false

-- the items where a part is passed over
abbrev pub passed : Part → List Item → List Item
passed (Make m) is = make m is
passed _ is = is

abbrev pub goes_on : Next → List Part → List Item → Next → Next
goes_on (Goes qs js) ps is other = Goes (qs ++ ps) (js ++ is)
goes_on Stops ps is other = other

-- the first part that can take the token takes it; the optional ones before it are passed over
abbrev pub eat : List Part → List Item → Lexeme → Next
eat [] is token = Stops
eat (p ∷ ps) is token = goes_on (after p token) ps is (if optional p then eat ps (passed p is) token else Stops)

-- a script, or the first token that can't continue one: how many tokens are left there, and why
pub data Verdict : Type 0 where
  Fine : Statements → Verdict
  Faulty : Misfit → Verdict

abbrev pub script_in : List Item → Statements
script_in (ABlock body ∷ is) = body
script_in is = tree.Nothing

abbrev pub at_end : List Part → List Item → Verdict
at_end [] is = Fine (script_in is)
at_end (p ∷ ps) is = if optional p then at_end ps (passed p is) else Faulty (record { left = 0; kind = bad.End })

abbrev pub kind_of : Lexeme → SyntaxBad
kind_of t.Bad = bad.Token
kind_of _ = bad.Expected

-- brackets open and close levels
pub data Turn : Type 0 where
  Opens : Turn
  Closes : Turn
  Stays : Turn

abbrev pub turn_of : Fixed → Turn
turn_of x.OpenRound = Opens
turn_of x.OpenCurly = Opens
turn_of x.CloseRound = Closes
turn_of x.CloseCurly = Closes
turn_of _ = Stays

abbrev pub turn : Lexeme → Turn
turn (t.Symbol (s.Fixed y)) = turn_of y
turn _ = Stays

-- how many brackets are open behind a token
abbrev pub depth_by : Turn → ℕ → ℕ
depth_by Opens d = d + 1
depth_by Closes d = d - 1
depth_by Stays d = d

-- whether a token opens level 65
abbrev pub too_deep : Turn → ℕ → Bool
too_deep Opens d = nat_le 64 d
too_deep Closes d = false
too_deep Stays d = false

abbrev pub verdict_at : Next → ℕ → Lexeme → List Lexeme → (List Part → List Item → ℕ → Verdict) → Verdict
verdict_at Stops d token rest continue = Faulty (record { left = length rest + 1; kind = kind_of token })
verdict_at (Goes ps is) d token rest continue = if too_deep (turn token) d then Faulty (record { left = length rest + 1; kind = bad.Deep }) else continue ps is (depth_by (turn token) d)

-- what tokens are, where these parts are still to come, these items were read and so many brackets are open
unfoldable pub verdict : List Part → List Item → ℕ → List Lexeme → Verdict
verdict ps is d [] = at_end ps is
verdict ps is d (token ∷ rest) = verdict_at (eat ps is token) d token rest (λ ps is d. verdict ps is d rest)

-- what the tokens of a whole text are
abbrev pub script_of : List Lexeme → Verdict
script_of tokens = verdict (Stmts ∷ []) (ABlock tree.Nothing ∷ []) 0 tokens
