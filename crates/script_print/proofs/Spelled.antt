-- The spelling of a script has only tokens that can be written.
use Rattle.std.proofs.Common.{◌≡◌, ◌+◌, ◌-◌, ℕ, Bool, true, false, ◌&&◌, List, [], ◌∷◌, ◌++◌, Option, Some, None, refl}
use Rattle.std.specs.Prelude.{nat_le}
use Rattle.std.specs.List.{list_all}
use Rattle.slee_value.specs.declared.keep.Keep.{Keep}
use Rattle.slee_value.specs.declared.keep.Keep.TheVariants as keeps
use Rattle.script_tree.specs.declared.symbol.Fixed.TheVariants as x
use Rattle.script_tree.specs.declared.symbol.Symbol.TheVariants as s
use Rattle.script_tree.specs.declared.lexeme.Lexeme.{Lexeme}
use Rattle.script_tree.specs.declared.lexeme.Lexeme.TheVariants as t
use Rattle.script_tree.specs.declared.tree.Leaf.{Leaf as ALeaf}
use Rattle.script_tree.specs.declared.tree.Leaf.TheVariants as l
use Rattle.script_tree.specs.declared.tree.Prefix.{Prefix}
use Rattle.script_tree.specs.declared.tree.Prefix.TheVariants as prefixes
use Rattle.script_tree.specs.declared.tree.Query.{Query}
use Rattle.script_tree.specs.declared.tree.Query.TheVariants as q
use Rattle.script_tree.specs.declared.tree.Who.{Who}
use Rattle.script_tree.specs.declared.tree.Who.TheVariants as w
use Rattle.script_tree.specs.declared.tree.Over.{Over}
use Rattle.script_tree.specs.declared.tree.Over.TheVariants as v
use Rattle.script_tree.specs.Words.{is_identifier, is_literal, is_number}
use Rattle.script_print.specs.Layout.{can_be_written}
use Rattle.script_tree.specs.Grammar.{level_of}
use Rattle.script_tree.specs.Tree.{Bytes, Expression, Leaf, Unary, Binary, Ask, Group, Assigning, OnEntities, OnActivities, SettingTimer, Statement, Statements}
use Rattle.script_tree.specs.Tree as tree
use Rattle.script_tree.specs.Spelling.{fixed, left_level, level, prefix_level, prefix_token, before_asked, behind_asked, spell_leaf, spell_expression, spell_who, spell_over, spell_assigning, spell_priority, spell_more, spell_arguments, spell_result, spell_on_entities, spell_service, spell_field, spell_more_fields, spell_fields, spell_on_activities, spell_repeat, spell_keep, spell_timer, ended, braced, spell_statement, spell_statements, leaf_fits, query_fits, fits, option_fits, who_fits, over_fits, assigning_fits, on_entities_fits, field_fits, on_activities_fits, repeat_fits, timer_fits, statement_fits, statements_fit}

and_parts : (a b : Bool) → (a && b) ≡ true → (a ≡ true) × (b ≡ true)
and_parts true b h = (refl, h)
and_parts false b h = absurd cc

and_both : (a b : Bool) → a ≡ true → b ≡ true → (a && b) ≡ true
and_both true b h l = l
and_both false b h l = absurd cc

abbrev Good : List Lexeme → Type 0
Good ts = list_all can_be_written ts ≡ true

name : (n : Bytes) (ts : List Lexeme) → is_identifier n ≡ true → Good ts → Good (t.Name n ∷ ts)
name n ts h g = and_both (is_identifier n) (list_all can_be_written ts) h g

text : (n : Bytes) (ts : List Lexeme) → is_literal n ≡ true → Good ts → Good (t.Text n ∷ ts)
text n ts h g = and_both (is_literal n) (list_all can_be_written ts) h g

both : (xs ys : List Lexeme) → Good xs → Good ys → Good (xs ++ ys)
both [] ys g h = h
both (a ∷ xs) ys g h = let parts = and_parts (can_be_written a) (list_all can_be_written xs) g in and_both (can_be_written a) (list_all can_be_written (xs ++ ys)) parts.0 (both xs ys parts.1 h)

-- ---- expressions

leaf : (d : ℕ) (y : ALeaf) → leaf_fits d y ≡ true → Good (spell_leaf y)
leaf d (l.Int n) h = and_both (is_number n) true (and_parts (is_number n) (nat_le d 64) h).0 refl
leaf d (l.Text n) h = text n [] (and_parts (is_literal n) (nat_le d 64) h).0 refl
leaf d (l.Constant y) h = refl
leaf d (l.Variable n) h = name n [] (and_parts (is_identifier n) (nat_le d 64) h).0 refl
leaf d (l.Field n) h = name n [] (and_parts (is_identifier n) (nat_le d 64) h).0 refl
leaf d (l.EventField n) h = name n [] (and_parts (is_identifier n) (nat_le d 64) h).0 refl
leaf d (l.Table n) h = name n (fixed x.CloseRound ∷ []) (and_parts (is_identifier n) (nat_le (d + 1) 64) h).0 refl
leaf d (l.Count n) h = name n (fixed x.CloseRound ∷ []) (and_parts (is_identifier n) (nat_le (d + 1) 64) h).0 refl
leaf d (l.Priority n) h = name n (fixed x.CloseRound ∷ []) (and_parts (is_identifier n) (nat_le (d + 1) 64) h).0 refl

before : (y : Query) → query_fits y ≡ true → Good (before_asked y)
before (q.Plain f) h = refl
before (q.Masked event) h = text event (fixed x.Comma ∷ []) h refl
before (q.Attribute n) h = refl
before (q.Profile table n) h = name table (fixed x.Comma ∷ []) (and_parts (is_identifier table) (is_identifier n) h).0 refl
before (q.HasProfile table) h = name table (fixed x.Comma ∷ []) h refl

behind : (y : Query) → query_fits y ≡ true → Good (behind_asked y)
behind (q.Attribute n) h = name n (fixed x.CloseRound ∷ []) h refl
behind (q.Profile table n) h = name n (fixed x.CloseRound ∷ []) (and_parts (is_identifier table) (is_identifier n) h).1 refl
behind (q.Plain f) h = refl
behind (q.Masked event) h = refl
behind (q.HasProfile table) h = refl

prefix_good : (op : Prefix) (ts : List Lexeme) → Good ts → Good (prefix_token op ∷ ts)
prefix_good prefixes.Negative ts g = g
prefix_good prefixes.Not ts g = g

expression : (d : ℕ) (a : Expression) → fits d a ≡ true → Good (spell_expression a)
expression d (Leaf y) h = leaf d y h
expression d (Unary op a) h = prefix_good op (spell_expression a) (expression d a (and_parts (nat_le (level a) (prefix_level op - 1)) (fits d a) h).1)
expression d (Binary op a b) h =
    let parts = and_parts (nat_le (level a) (left_level op) && fits d a) (nat_le (level b) (level_of op - 1) && fits d b) h in
    both (spell_expression a) (t.Symbol (s.Operator op) ∷ spell_expression b)
    (expression d a (and_parts (nat_le (level a) (left_level op)) (fits d a) parts.0).1)
    (expression d b (and_parts (nat_le (level b) (level_of op - 1)) (fits d b) parts.1).1)
expression d (Group a) h = both (spell_expression a) (fixed x.CloseRound ∷ []) (expression (d + 1) a h) refl
expression d (Ask query a) h =
    let parts = and_parts (query_fits query) (fits (d + 1) a) h in
    both (before_asked query) (spell_expression a ++ behind_asked query) (before query parts.0) (both (spell_expression a) (behind_asked query) (expression (d + 1) a parts.1) (behind query parts.0))

-- ---- statements

who_good : (y : Who) → who_fits y ≡ true → Good (spell_who y)
who_good w.Own h = refl
who_good (w.Child n) h = name n [] h refl

over_good : (y : Over) → over_fits y ≡ true → Good (spell_over y)
over_good v.Activities h = refl
over_good (v.Children n) h = name n [] h refl

assigning : (d : ℕ) (y : Assigning) → assigning_fits d y ≡ true → Good (spell_assigning y)
assigning d (tree.New n a) h = let p = and_parts (is_identifier n) (fits d a) h in name n (fixed x.Assign ∷ spell_expression a) p.0 (expression d a p.1)
assigning d (tree.Variable n a) h = let p = and_parts (is_identifier n) (fits d a) h in name n (fixed x.Assign ∷ spell_expression a) p.0 (expression d a p.1)
assigning d (tree.Field n a) h = let p = and_parts (is_identifier n) (fits d a) h in name n (fixed x.Assign ∷ spell_expression a) p.0 (expression d a p.1)
assigning d (tree.Attribute a n b) h =
    let p = and_parts (fits (d + 1) a) (is_identifier n && fits d b) h in
    let r = and_parts (is_identifier n) (fits d b) p.1 in
    both (spell_expression a) (fixed x.Comma ∷ t.Name n ∷ fixed x.CloseRound ∷ fixed x.Assign ∷ spell_expression b) (expression (d + 1) a p.0) (name n (fixed x.CloseRound ∷ fixed x.Assign ∷ spell_expression b) r.0 (expression d b r.1))

priority_good : (d : ℕ) (y : Option Expression) → option_fits (fits d) y ≡ true → Good (spell_priority y)
priority_good d None h = refl
priority_good d (Some a) h = expression d a h

more_good : (d : ℕ) (xs : List Expression) → list_all (fits d) xs ≡ true → Good (spell_more xs)
more_good d [] h = refl
more_good d (a ∷ xs) h = let p = and_parts (fits d a) (list_all (fits d) xs) h in both (spell_expression a) (spell_more xs) (expression d a p.0) (more_good d xs p.1)

arguments_good : (d : ℕ) (xs : List Expression) → list_all (fits d) xs ≡ true → Good (spell_arguments xs)
arguments_good d [] h = refl
arguments_good d (a ∷ xs) h = let p = and_parts (fits d a) (list_all (fits d) xs) h in both (spell_expression a) (spell_more xs) (expression d a p.0) (more_good d xs p.1)

result_good : (y : Option Bytes) → option_fits is_identifier y ≡ true → Good (spell_result y)
result_good None h = refl
result_good (Some n) h = name n [] h refl

on_entities : (d : ℕ) (y : OnEntities) → on_entities_fits d y ≡ true → Good (spell_on_entities y)
on_entities d (tree.Create relation child priority) h =
    let p = and_parts (is_identifier relation) (is_identifier child && option_fits (fits d) priority) h in
    let r = and_parts (is_identifier child) (option_fits (fits d) priority) p.1 in
    name relation (fixed x.As ∷ t.Name child ∷ spell_priority priority) p.0 (name child (spell_priority priority) r.0 (priority_good d priority r.1))
on_entities d (tree.Remove child) h = name child [] h refl
on_entities d (tree.Priority child a) h = let p = and_parts (is_identifier child) (fits d a) h in name child (spell_expression a) p.0 (expression d a p.1)
on_entities d (tree.Call child method arguments result) h =
    let p = and_parts (is_identifier child) (is_identifier method && (nat_le (d + 1) 64 && (list_all (fits (d + 1)) arguments && option_fits is_identifier result))) h in
    let r = and_parts (is_identifier method) (nat_le (d + 1) 64 && (list_all (fits (d + 1)) arguments && option_fits is_identifier result)) p.1 in
    let u = and_parts (nat_le (d + 1) 64) (list_all (fits (d + 1)) arguments && option_fits is_identifier result) r.1 in
    let z = and_parts (list_all (fits (d + 1)) arguments) (option_fits is_identifier result) u.1 in
    let tail = both (spell_arguments arguments) (fixed x.CloseRound ∷ spell_result result) (arguments_good (d + 1) arguments z.0) (result_good result z.1) in
    name child (fixed x.Dot ∷ t.Name method ∷ fixed x.OpenRound ∷ (spell_arguments arguments ++ fixed x.CloseRound ∷ spell_result result)) p.0 (name method (fixed x.OpenRound ∷ (spell_arguments arguments ++ fixed x.CloseRound ∷ spell_result result)) r.0 tail)

service_good : (y : Option Bytes) → option_fits is_literal y ≡ true → Good (spell_service y)
service_good None h = refl
service_good (Some n) h = text n [] h refl

field_good : (d : ℕ) (f : Bytes × Expression) → field_fits d f ≡ true → Good (spell_field f)
field_good d f h = let p = and_parts (is_identifier f.0) (fits d f.1) h in name f.0 (fixed x.Colon ∷ spell_expression f.1) p.0 (expression d f.1 p.1)

more_fields_good : (d : ℕ) (fs : List (Bytes × Expression)) → list_all (field_fits d) fs ≡ true → Good (spell_more_fields fs)
more_fields_good d [] h = refl
more_fields_good d (f ∷ fs) h = let p = and_parts (field_fits d f) (list_all (field_fits d) fs) h in both (spell_field f) (spell_more_fields fs) (field_good d f p.0) (more_fields_good d fs p.1)

fields_good : (d : ℕ) (fs : List (Bytes × Expression)) → list_all (field_fits d) fs ≡ true → Good (spell_fields fs)
fields_good d [] h = refl
fields_good d (f ∷ fs) h = let p = and_parts (field_fits d f) (list_all (field_fits d) fs) h in both (spell_field f) (spell_more_fields fs) (field_good d f p.0) (more_fields_good d fs p.1)

on_activities : (d : ℕ) (y : OnActivities) → on_activities_fits d y ≡ true → Good (spell_on_activities y)
on_activities d (tree.Attach who a) h = let p = and_parts (who_fits who) (fits d a) h in both (spell_who who) (fixed x.To ∷ spell_expression a) (who_good who p.0) (expression d a p.1)
on_activities d (tree.Detach who a) h = let p = and_parts (who_fits who) (fits d a) h in both (spell_who who) (fixed x.From ∷ spell_expression a) (who_good who p.0) (expression d a p.1)
on_activities d (tree.Mask event a) h = let p = and_parts (is_literal event) (fits d a) h in text event (fixed x.On ∷ spell_expression a) p.0 (expression d a p.1)
on_activities d (tree.Unmask event a) h = let p = and_parts (is_literal event) (fits d a) h in text event (fixed x.On ∷ spell_expression a) p.0 (expression d a p.1)
on_activities d (tree.Fire event a service fields) h =
    let p = and_parts (is_literal event) (fits d a && (option_fits is_literal service && list_all (field_fits (d + 1)) fields)) h in
    let r = and_parts (fits d a) (option_fits is_literal service && list_all (field_fits (d + 1)) fields) p.1 in
    let u = and_parts (option_fits is_literal service) (list_all (field_fits (d + 1)) fields) r.1 in
    let tail = both (spell_expression a) (spell_service service ++ spell_fields fields) (expression d a r.0) (both (spell_service service) (spell_fields fields) (service_good service u.0) (fields_good (d + 1) fields u.1)) in
    text event (fixed x.On ∷ (spell_expression a ++ (spell_service service ++ spell_fields fields))) p.0 tail
on_activities d (tree.Null n) h = name n [] h refl
on_activities d (tree.Bind a b) h = let p = and_parts (fits d a) (fits d b) h in both (spell_expression a) (fixed x.To ∷ spell_expression b) (expression d a p.0) (expression d b p.1)

repeat_good : (d : ℕ) (y : Option (Expression × Expression)) → option_fits (repeat_fits d) y ≡ true → Good (spell_repeat y)
repeat_good d None h = refl
repeat_good d (Some r) h = let p = and_parts (fits d r.0) (fits d r.1) h in both (spell_expression r.0) (fixed x.Times ∷ spell_expression r.1) (expression d r.0 p.0) (expression d r.1 p.1)

keep_good : (y : Option Keep) → Good (spell_keep y)
keep_good None = refl
keep_good (Some keeps.All) = refl
keep_good (Some keeps.Last) = refl
keep_good (Some keeps.NoneMissed) = refl

timer_good : (d : ℕ) (y : SettingTimer) → timer_fits d y ≡ true → Good (spell_timer y)
timer_good d y h =
    let p = and_parts (is_identifier y.name) (fits d y.activity && (fits d y.start && option_fits (repeat_fits d) y.repeat)) h in
    let r = and_parts (fits d y.activity) (fits d y.start && option_fits (repeat_fits d) y.repeat) p.1 in
    let u = and_parts (fits d y.start) (option_fits (repeat_fits d) y.repeat) r.1 in
    let last = both (spell_repeat y.repeat) (spell_keep y.keep) (repeat_good d y.repeat u.1) (keep_good y.keep) in
    let tail = both (spell_expression y.start) (spell_repeat y.repeat ++ spell_keep y.keep) (expression d y.start u.0) last in
    name y.name (fixed x.On ∷ (spell_expression y.activity ++ fixed x.At ∷ (spell_expression y.start ++ (spell_repeat y.repeat ++ spell_keep y.keep)))) p.0
    (both (spell_expression y.activity) (fixed x.At ∷ (spell_expression y.start ++ (spell_repeat y.repeat ++ spell_keep y.keep))) (expression d y.activity r.0) tail)

ended_good : (ts : List Lexeme) → Good ts → Good (ended ts)
ended_good ts g = both ts (fixed x.Semicolon ∷ []) g refl

braced_good : (ts : List Lexeme) → Good ts → Good (braced ts)
braced_good ts g = both ts (fixed x.CloseCurly ∷ []) g refl

mutual
  statement : (d : ℕ) (y : Statement) → statement_fits d y ≡ true → Good (spell_statement y)
  statement d (tree.Assign y) h = ended_good (spell_assigning y) (assigning d y h)
  statement d (tree.Entity y) h = ended_good (spell_on_entities y) (on_entities d y h)
  statement d (tree.Activity y) h = ended_good (spell_on_activities y) (on_activities d y h)
  statement d (tree.Timer y) h = ended_good (spell_timer y) (timer_good d y h)
  statement d (tree.Do verb a) h = ended_good (t.Symbol (s.Verb verb) ∷ spell_expression a) (expression d a h)
  statement d (tree.Usage n a) h = let p = and_parts (is_identifier n) (fits d a) h in ended_good (fixed x.Usage ∷ t.Name n ∷ spell_expression a) (name n (spell_expression a) p.0 (expression d a p.1))
  statement d tree.Rollback h = refl
  statement d (tree.If a body) h =
      let p = and_parts (fits d a) (nat_le (d + 1) 64 && statements_fit (d + 1) body) h in
      let r = and_parts (nat_le (d + 1) 64) (statements_fit (d + 1) body) p.1 in
      both (spell_expression a) (braced (spell_statements body)) (expression d a p.0) (braced_good (spell_statements body) (statements (d + 1) body r.1))
  statement d (tree.IfElse a body other) h =
      let p = and_parts (fits d a) (nat_le (d + 1) 64 && (statements_fit (d + 1) body && statements_fit (d + 1) other)) h in
      let r = and_parts (nat_le (d + 1) 64) (statements_fit (d + 1) body && statements_fit (d + 1) other) p.1 in
      let u = and_parts (statements_fit (d + 1) body) (statements_fit (d + 1) other) r.1 in
      both (spell_expression a) (braced (spell_statements body) ++ fixed x.Else ∷ braced (spell_statements other)) (expression d a p.0)
      (both (braced (spell_statements body)) (fixed x.Else ∷ braced (spell_statements other)) (braced_good (spell_statements body) (statements (d + 1) body u.0)) (braced_good (spell_statements other) (statements (d + 1) other u.1)))
  statement d (tree.While a body) h =
      let p = and_parts (fits d a) (nat_le (d + 1) 64 && statements_fit (d + 1) body) h in
      let r = and_parts (nat_le (d + 1) 64) (statements_fit (d + 1) body) p.1 in
      both (spell_expression a) (braced (spell_statements body)) (expression d a p.0) (braced_good (spell_statements body) (statements (d + 1) body r.1))
  statement d (tree.For n over body) h =
      let p = and_parts (is_identifier n) (over_fits over && (nat_le (d + 1) 64 && statements_fit (d + 1) body)) h in
      let r = and_parts (over_fits over) (nat_le (d + 1) 64 && statements_fit (d + 1) body) p.1 in
      let u = and_parts (nat_le (d + 1) 64) (statements_fit (d + 1) body) r.1 in
      name n (fixed x.In ∷ (spell_over over ++ braced (spell_statements body))) p.0
      (both (spell_over over) (braced (spell_statements body)) (over_good over r.0) (braced_good (spell_statements body) (statements (d + 1) body u.1)))

  pub statements : (d : ℕ) (ys : Statements) → statements_fit d ys ≡ true → Good (spell_statements ys)
  statements d tree.Nothing h = refl
  statements d (tree.Then y ys) h = let p = and_parts (statement_fits d y) (statements_fit d ys) h in both (spell_statement y) (spell_statements ys) (statement d y p.0) (statements d ys p.1)
