-- How a script is spelled in tokens: the grammar read aloud. And which trees are scripts.
use Rattle.std.specs.Prelude.{ℕ, ◌+◌, ◌-◌, Bool, true, ◌&&◌, ◌==◌, nat_le, List, [], ◌∷◌, ◌++◌, Option, Some, None, if◌then◌else◌}
use Rattle.std.specs.List.{list_all}
use Rattle.slee_value.specs.declared.keep.Keep.{Keep}
use Rattle.slee_value.specs.declared.keep.Keep.TheVariants as keeps
use Rattle.script_tree.specs.declared.symbol.Operator.{Operator}
use Rattle.script_tree.specs.declared.symbol.Operator.TheVariants as o
use Rattle.script_tree.specs.declared.symbol.Constant.TheVariants as c
use Rattle.script_tree.specs.declared.symbol.Fixed.{Fixed}
use Rattle.script_tree.specs.declared.symbol.Fixed.TheVariants as x
use Rattle.script_tree.specs.declared.symbol.Symbol.TheVariants as s
use Rattle.script_tree.specs.declared.lexeme.Lexeme.{Lexeme}
use Rattle.script_tree.specs.declared.lexeme.Lexeme.TheVariants as t
use Rattle.script_tree.specs.declared.tree.Leaf.{Leaf as ALeaf}
use Rattle.script_tree.specs.declared.tree.Leaf.TheVariants as l
use Rattle.script_tree.specs.declared.tree.Prefix.{Prefix}
use Rattle.script_tree.specs.declared.tree.Prefix.TheVariants as prefixes
use Rattle.script_tree.specs.declared.tree.Query.{Query}
use Rattle.script_tree.specs.declared.tree.Query.TheVariants as q
use Rattle.script_tree.specs.declared.tree.Who.{Who}
use Rattle.script_tree.specs.declared.tree.Who.TheVariants as w
use Rattle.script_tree.specs.declared.tree.Over.{Over}
use Rattle.script_tree.specs.declared.tree.Over.TheVariants as v
use Rattle.script_tree.specs.Words.{is_identifier, is_literal, is_number}
use Rattle.script_tree.specs.Grammar.{level_of}
use Rattle.script_tree.specs.Tree.{Bytes, Expression, Leaf, Unary, Binary, Ask, Group, Assigning, OnEntities, OnActivities, SettingTimer, Statement, Statements}
use Rattle.script_tree.specs.Tree as tree

abbrev pub fixed : Fixed → Lexeme
fixed y = t.Symbol (s.Fixed y)

abbrev pub spell_named : Fixed → Bytes → List Lexeme
spell_named y name = fixed y ∷ fixed x.OpenRound ∷ t.Name name ∷ fixed x.CloseRound ∷ []

abbrev pub spell_leaf : ALeaf → List Lexeme
spell_leaf (l.Int n) = t.Int n ∷ []
spell_leaf (l.Text y) = t.Text y ∷ []
spell_leaf (l.Constant y) = t.Symbol (s.Constant y) ∷ []
spell_leaf (l.Variable name) = t.Name name ∷ []
spell_leaf (l.Field name) = fixed x.Own ∷ fixed x.Dot ∷ t.Name name ∷ []
spell_leaf (l.EventField name) = fixed x.Event ∷ fixed x.Dot ∷ t.Name name ∷ []
spell_leaf (l.Table name) = spell_named x.Table name
spell_leaf (l.Count name) = spell_named x.Count name
spell_leaf (l.Priority name) = spell_named x.Priority name

abbrev pub prefix_token : Prefix → Lexeme
prefix_token prefixes.Negative = t.Symbol (s.Operator o.Minus)
prefix_token prefixes.Not = fixed x.Not

-- what stands before and behind the expression of a function
abbrev pub before_asked : Query → List Lexeme
before_asked (q.Plain f) = t.Symbol (s.Function f) ∷ fixed x.OpenRound ∷ []
before_asked (q.Masked event) = fixed x.Masked ∷ fixed x.OpenRound ∷ t.Text event ∷ fixed x.Comma ∷ []
before_asked (q.Attribute name) = fixed x.Attr ∷ fixed x.OpenRound ∷ []
before_asked (q.Profile table name) = fixed x.Profile ∷ fixed x.OpenRound ∷ t.Name table ∷ fixed x.Comma ∷ []
before_asked (q.HasProfile table) = fixed x.HasProfile ∷ fixed x.OpenRound ∷ t.Name table ∷ fixed x.Comma ∷ []

abbrev pub behind_asked : Query → List Lexeme
behind_asked (q.Attribute name) = fixed x.Comma ∷ t.Name name ∷ fixed x.CloseRound ∷ []
behind_asked (q.Profile table name) = fixed x.Comma ∷ t.Name name ∷ fixed x.CloseRound ∷ []
behind_asked _ = fixed x.CloseRound ∷ []

abbrev pub spell_expression : Expression → List Lexeme
spell_expression (Leaf y) = spell_leaf y
spell_expression (Unary op a) = prefix_token op ∷ spell_expression a
spell_expression (Binary op a b) = spell_expression a ++ t.Symbol (s.Operator op) ∷ spell_expression b
spell_expression (Ask query a) = before_asked query ++ (spell_expression a ++ behind_asked query)
spell_expression (Group a) = fixed x.OpenRound ∷ (spell_expression a ++ fixed x.CloseRound ∷ [])

abbrev pub spell_who : Who → List Lexeme
spell_who w.Own = fixed x.Own ∷ []
spell_who (w.Child name) = t.Name name ∷ []

abbrev pub spell_over : Over → List Lexeme
spell_over v.Activities = fixed x.Activities ∷ []
spell_over (v.Children name) = t.Name name ∷ []

abbrev pub spell_assigning : Assigning → List Lexeme
spell_assigning (tree.New name a) = fixed x.Let ∷ t.Name name ∷ fixed x.Assign ∷ spell_expression a
spell_assigning (tree.Variable name a) = t.Name name ∷ fixed x.Assign ∷ spell_expression a
spell_assigning (tree.Field name a) = fixed x.Own ∷ fixed x.Dot ∷ t.Name name ∷ fixed x.Assign ∷ spell_expression a
spell_assigning (tree.Attribute a name b) = fixed x.Attr ∷ fixed x.OpenRound ∷ (spell_expression a ++ fixed x.Comma ∷ t.Name name ∷ fixed x.CloseRound ∷ fixed x.Assign ∷ spell_expression b)

abbrev pub spell_priority : Option Expression → List Lexeme
spell_priority None = []
spell_priority (Some a) = fixed x.Priority ∷ spell_expression a

-- each further argument behind a comma
abbrev pub spell_more : List Expression → List Lexeme
spell_more [] = []
spell_more (a ∷ more) = fixed x.Comma ∷ (spell_expression a ++ spell_more more)

abbrev pub spell_arguments : List Expression → List Lexeme
spell_arguments [] = []
spell_arguments (a ∷ more) = spell_expression a ++ spell_more more

abbrev pub spell_result : Option Bytes → List Lexeme
spell_result None = []
spell_result (Some name) = fixed x.As ∷ t.Name name ∷ []

abbrev pub spell_on_entities : OnEntities → List Lexeme
spell_on_entities (tree.Create relation child priority) = fixed x.Create ∷ t.Name relation ∷ fixed x.As ∷ t.Name child ∷ spell_priority priority
spell_on_entities (tree.Remove child) = fixed x.Remove ∷ t.Name child ∷ []
spell_on_entities (tree.Priority child a) = fixed x.Priority ∷ t.Name child ∷ spell_expression a
spell_on_entities (tree.Call child method arguments result) = fixed x.Call ∷ t.Name child ∷ fixed x.Dot ∷ t.Name method ∷ fixed x.OpenRound ∷ (spell_arguments arguments ++ fixed x.CloseRound ∷ spell_result result)

abbrev pub spell_service : Option Bytes → List Lexeme
spell_service None = []
spell_service (Some service) = fixed x.For ∷ t.Text service ∷ []

abbrev pub spell_field : Bytes × Expression → List Lexeme
spell_field f = t.Name f.0 ∷ fixed x.Colon ∷ spell_expression f.1

abbrev pub spell_more_fields : List (Bytes × Expression) → List Lexeme
spell_more_fields [] = fixed x.CloseCurly ∷ []
spell_more_fields (f ∷ more) = fixed x.Comma ∷ (spell_field f ++ spell_more_fields more)

abbrev pub spell_fields : List (Bytes × Expression) → List Lexeme
spell_fields [] = []
spell_fields (f ∷ more) = fixed x.OpenCurly ∷ (spell_field f ++ spell_more_fields more)

abbrev pub spell_on_activities : OnActivities → List Lexeme
spell_on_activities (tree.Attach who a) = fixed x.Attach ∷ (spell_who who ++ fixed x.To ∷ spell_expression a)
spell_on_activities (tree.Detach who a) = fixed x.Detach ∷ (spell_who who ++ fixed x.From ∷ spell_expression a)
spell_on_activities (tree.Mask event a) = fixed x.Mask ∷ t.Text event ∷ fixed x.On ∷ spell_expression a
spell_on_activities (tree.Unmask event a) = fixed x.Unmask ∷ t.Text event ∷ fixed x.On ∷ spell_expression a
spell_on_activities (tree.Fire event a service fields) = fixed x.Fire ∷ t.Text event ∷ fixed x.On ∷ (spell_expression a ++ (spell_service service ++ spell_fields fields))
spell_on_activities (tree.Null name) = fixed x.Null ∷ fixed x.As ∷ t.Name name ∷ []
spell_on_activities (tree.Bind a b) = fixed x.Bind ∷ (spell_expression a ++ fixed x.To ∷ spell_expression b)

abbrev pub spell_repeat : Option (Expression × Expression) → List Lexeme
spell_repeat None = []
spell_repeat (Some r) = fixed x.Every ∷ (spell_expression r.0 ++ fixed x.Times ∷ spell_expression r.1)

abbrev pub keep_token : Keep → Lexeme
keep_token keeps.All = fixed x.All
keep_token keeps.Last = fixed x.Last
keep_token keeps.NoneMissed = t.Symbol (s.Constant c.Nothing)

abbrev pub spell_keep : Option Keep → List Lexeme
spell_keep None = []
spell_keep (Some keep) = fixed x.Keep ∷ keep_token keep ∷ []

abbrev pub spell_timer : SettingTimer → List Lexeme
spell_timer timer = fixed x.Timer ∷ t.Name timer.name ∷ fixed x.On ∷ (spell_expression timer.activity ++ fixed x.At ∷ (spell_expression timer.start ++ (spell_repeat timer.repeat ++ spell_keep timer.keep)))

abbrev pub ended : List Lexeme → List Lexeme
ended tokens = tokens ++ fixed x.Semicolon ∷ []

abbrev pub braced : List Lexeme → List Lexeme
braced tokens = fixed x.OpenCurly ∷ (tokens ++ fixed x.CloseCurly ∷ [])

abbrev mutual
  pub spell_statement : Statement → List Lexeme
  spell_statement (tree.Assign y) = ended (spell_assigning y)
  spell_statement (tree.Entity y) = ended (spell_on_entities y)
  spell_statement (tree.Activity y) = ended (spell_on_activities y)
  spell_statement (tree.Timer y) = ended (spell_timer y)
  spell_statement (tree.Do verb a) = ended (t.Symbol (s.Verb verb) ∷ spell_expression a)
  spell_statement (tree.Usage name a) = ended (fixed x.Usage ∷ t.Name name ∷ spell_expression a)
  spell_statement tree.Rollback = ended (fixed x.Rollback ∷ [])
  spell_statement (tree.If a body) = fixed x.If ∷ (spell_expression a ++ braced (spell_statements body))
  spell_statement (tree.IfElse a body other) = fixed x.If ∷ (spell_expression a ++ (braced (spell_statements body) ++ fixed x.Else ∷ braced (spell_statements other)))
  spell_statement (tree.While a body) = fixed x.While ∷ (spell_expression a ++ braced (spell_statements body))
  spell_statement (tree.For name over body) = fixed x.For ∷ t.Name name ∷ fixed x.In ∷ (spell_over over ++ braced (spell_statements body))

  pub spell_statements : Statements → List Lexeme
  spell_statements tree.Nothing = []
  spell_statements (tree.Then y ys) = spell_statement y ++ spell_statements ys

-- Trees that are scripts: an operator has operands of its own level or below, names, texts and numbers can be written, and no
-- bracket opens level 65.

-- the level of the operator that is done last, 0 where there is none outside of brackets
abbrev pub prefix_level : Prefix → ℕ
prefix_level prefixes.Negative = 1
prefix_level prefixes.Not = 6

abbrev pub level : Expression → ℕ
level (Leaf y) = 0
level (Unary op a) = prefix_level op
level (Binary op a b) = level_of op
level (Ask query a) = 0
level (Group a) = 0

-- the level that may stand left of an operator: its own in a chain, the one below it in a comparison
abbrev pub chain_level : ℕ → ℕ
chain_level n = if n == 5 then 4 else n

abbrev pub left_level : Operator → ℕ
left_level op = chain_level (level_of op)

abbrev pub leaf_fits : ℕ → ALeaf → Bool
leaf_fits d (l.Int n) = is_number n && nat_le d 64
leaf_fits d (l.Text y) = is_literal y && nat_le d 64
leaf_fits d (l.Constant y) = nat_le d 64
leaf_fits d (l.Variable name) = is_identifier name && nat_le d 64
leaf_fits d (l.Field name) = is_identifier name && nat_le d 64
leaf_fits d (l.EventField name) = is_identifier name && nat_le d 64
leaf_fits d (l.Table name) = is_identifier name && nat_le (d + 1) 64
leaf_fits d (l.Count name) = is_identifier name && nat_le (d + 1) 64
leaf_fits d (l.Priority name) = is_identifier name && nat_le (d + 1) 64

abbrev pub query_fits : Query → Bool
query_fits (q.Plain f) = true
query_fits (q.Masked event) = is_literal event
query_fits (q.Attribute name) = is_identifier name
query_fits (q.Profile table name) = is_identifier table && is_identifier name
query_fits (q.HasProfile table) = is_identifier table

-- an expression in d brackets
abbrev pub fits : ℕ → Expression → Bool
fits d (Leaf y) = leaf_fits d y
fits d (Unary op a) = nat_le (level a) (prefix_level op - 1) && fits d a
fits d (Binary op a b) = (nat_le (level a) (left_level op) && fits d a) && (nat_le (level b) (level_of op - 1) && fits d b)
fits d (Ask query a) = query_fits query && fits (d + 1) a
fits d (Group a) = fits (d + 1) a

abbrev pub option_fits : {A : Type 0} → (A → Bool) → Option A → Bool
option_fits p None = true
option_fits p (Some y) = p y

abbrev pub who_fits : Who → Bool
who_fits w.Own = true
who_fits (w.Child name) = is_identifier name

abbrev pub over_fits : Over → Bool
over_fits v.Activities = true
over_fits (v.Children name) = is_identifier name

abbrev pub assigning_fits : ℕ → Assigning → Bool
assigning_fits d (tree.New name a) = is_identifier name && fits d a
assigning_fits d (tree.Variable name a) = is_identifier name && fits d a
assigning_fits d (tree.Field name a) = is_identifier name && fits d a
assigning_fits d (tree.Attribute a name b) = fits (d + 1) a && (is_identifier name && fits d b)

abbrev pub on_entities_fits : ℕ → OnEntities → Bool
on_entities_fits d (tree.Create relation child priority) = is_identifier relation && (is_identifier child && option_fits (fits d) priority)
on_entities_fits d (tree.Remove child) = is_identifier child
on_entities_fits d (tree.Priority child a) = is_identifier child && fits d a
on_entities_fits d (tree.Call child method arguments result) = is_identifier child && (is_identifier method && (nat_le (d + 1) 64 && (list_all (fits (d + 1)) arguments && option_fits is_identifier result)))

abbrev pub field_fits : ℕ → Bytes × Expression → Bool
field_fits d f = is_identifier f.0 && fits d f.1

abbrev pub on_activities_fits : ℕ → OnActivities → Bool
on_activities_fits d (tree.Attach who a) = who_fits who && fits d a
on_activities_fits d (tree.Detach who a) = who_fits who && fits d a
on_activities_fits d (tree.Mask event a) = is_literal event && fits d a
on_activities_fits d (tree.Unmask event a) = is_literal event && fits d a
on_activities_fits d (tree.Fire event a service fields) = is_literal event && (fits d a && (option_fits is_literal service && list_all (field_fits (d + 1)) fields))
on_activities_fits d (tree.Null name) = is_identifier name
on_activities_fits d (tree.Bind a b) = fits d a && fits d b

abbrev pub repeat_fits : ℕ → Expression × Expression → Bool
repeat_fits d r = fits d r.0 && fits d r.1

abbrev pub timer_fits : ℕ → SettingTimer → Bool
timer_fits d timer = is_identifier timer.name && (fits d timer.activity && (fits d timer.start && option_fits (repeat_fits d) timer.repeat))

abbrev mutual
  pub statement_fits : ℕ → Statement → Bool
  statement_fits d (tree.Assign y) = assigning_fits d y
  statement_fits d (tree.Entity y) = on_entities_fits d y
  statement_fits d (tree.Activity y) = on_activities_fits d y
  statement_fits d (tree.Timer y) = timer_fits d y
  statement_fits d (tree.Do verb a) = fits d a
  statement_fits d (tree.Usage name a) = is_identifier name && fits d a
  statement_fits d tree.Rollback = true
  statement_fits d (tree.If a body) = fits d a && (nat_le (d + 1) 64 && statements_fit (d + 1) body)
  statement_fits d (tree.IfElse a body other) = fits d a && (nat_le (d + 1) 64 && (statements_fit (d + 1) body && statements_fit (d + 1) other))
  statement_fits d (tree.While a body) = fits d a && (nat_le (d + 1) 64 && statements_fit (d + 1) body)
  statement_fits d (tree.For name over body) = is_identifier name && (over_fits over && (nat_le (d + 1) 64 && statements_fit (d + 1) body))

  pub statements_fit : ℕ → Statements → Bool
  statements_fit d tree.Nothing = true
  statements_fit d (tree.Then y ys) = statement_fits d y && statements_fit d ys

abbrev pub is_script : Statements → Bool
is_script script = statements_fit 0 script
