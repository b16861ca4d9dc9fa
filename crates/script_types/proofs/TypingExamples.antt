-- Scripts with the fault that their check finds, each worked out by hand. Above each stands its text; a place is the number of tokens before it.
use Rattle.std.specs.Prelude.{◌≡◌, refl, ℕ, false, List, [], ◌∷◌, Option, Some, None, Ok, Err, codes, pos}
use Rattle.slee_value.specs.declared.kind.Kind.TheVariants as k
use Rattle.slee_value.specs.declared.keep.Keep.TheVariants as keep
use Rattle.script_types.specs.declared.misuse.CheckBad.TheVariants.{Name, Mismatch, Count, Place}
use Rattle.script_tree.specs.declared.symbol.Operator.TheVariants.{Or, And, Equal, Less, Join, Plus, Minus, Times, Divide, Remainder}
use Rattle.script_tree.specs.declared.symbol.Constant.TheVariants as c
use Rattle.script_tree.specs.declared.symbol.Function.TheVariants as f
use Rattle.script_tree.specs.declared.symbol.Verb.TheVariants.{End, Cancel, Unbind, Emit, Return, Throw, Suspend, Resume}
use Rattle.script_tree.specs.declared.tree.Leaf.TheVariants as l
use Rattle.script_tree.specs.declared.tree.Prefix.TheVariants.{Not}
use Rattle.script_tree.specs.declared.tree.Query.TheVariants as q
use Rattle.script_tree.specs.declared.tree.Who.TheVariants.{Own, Child}
use Rattle.script_tree.specs.declared.tree.Over.TheVariants.{Activities, Children}
use Rattle.script_types.specs.declared.codes.CodePart.TheVariants as part
use Rattle.script_tree.specs.Tree as t
use Rattle.script_tree.specs.Tree.{Bytes, Expression, Binary, Unary, Ask, Group, Statement, Statements, Nothing, Then, Do, If, While, For}
use Rattle.script_types.specs.declared.codes.EventCode.{EventCode}
use Rattle.script_types.specs.declared.codes.TableCode.{TableCode}
use Rattle.script_types.specs.Codes.{Codes, Block, Method}
use Rattle.script_types.specs.TypingResult.{Checked, misused, ◌>>=◌}
use Rattle.script_types.specs.TypingExpressions.{Role, OnEvent, InMethod, OnException, OnRemove}
use Rattle.script_types.specs.TypingStatements.{check_statements}
use Rattle.script_types.specs.Typing.{check_codes, fields_of_event}

-- Short names for the parts of scripts.

abbrev int : ℕ → Expression
int n = t.Leaf (l.Int n)

abbrev text : Bytes → Expression
text bytes = t.Leaf (l.Text bytes)

abbrev name : Bytes → Expression
name bytes = t.Leaf (l.Variable bytes)

abbrev field : Bytes → Expression
field bytes = t.Leaf (l.Field bytes)

abbrev event_field : Bytes → Expression
event_field bytes = t.Leaf (l.EventField bytes)

abbrev yes_constant : Expression
yes_constant = t.Leaf (l.Constant c.True)

abbrev none : Expression
none = t.Leaf (l.Constant c.Nothing)

abbrev here : Expression
here = t.Leaf (l.Constant c.Activity)

abbrev now : Expression
now = t.Leaf (l.Constant c.Now)

abbrev failure : Expression
failure = t.Leaf (l.Constant c.Failure)

abbrev let_ : Bytes → Expression → Statement
let_ x e = t.Assign (t.New x e)

abbrev set : Bytes → Expression → Statement
set x e = t.Assign (t.Variable x e)

abbrev set_field : Bytes → Expression → Statement
set_field x e = t.Assign (t.Field x e)

abbrev emit : Expression → Statement
emit e = Do Emit e

abbrev create : Bytes → Statement
create child = t.Entity (t.Create (codes "legs") child None)

abbrev call : Bytes → Bytes → List Expression → Option Bytes → Statement
call child method arguments result = t.Entity (t.Call child method arguments result)

abbrev fire : Bytes → Option Bytes → List (Bytes × Expression) → Statement
fire event service fields = t.Activity (t.Fire event here service fields)

abbrev one : Statement → Statements
one s = Then s Nothing

abbrev two : Statement → Statement → Statements
two s s' = Then s (one s')

-- What the scripts may name.

abbrev ping : EventCode
ping = record { name = codes "ping"; fields = record { name = codes "addr"; kind = k.Text } ∷ record { name = codes "n"; kind = k.Int } ∷ [] }

abbrev beat : EventCode
beat = record { name = codes "beat"; fields = [] }

abbrev accounts : TableCode
accounts = record { name = codes "accounts"; attributes = record { name = codes "seconds"; kind = k.Int } ∷ [] }

abbrev add : Method
add = record { name = codes "add"; parameters = record { name = codes "a"; kind = k.Int } ∷ record { name = codes "b"; kind = k.Timer } ∷ []; result = Some k.Int; script = one (Do Return (name (codes "a"))) }

abbrev stop : Method
stop = record { name = codes "stop"; parameters = []; result = None; script = Nothing }

abbrev leg : Block
leg = record { key = codes "leg"; fields = []; attributes = []; relations = []; handlers = []; methods = add ∷ stop ∷ []; exception = None; rolled_back = None; remove = None }

-- a block with that script for the event ping, and a method
abbrev trunk : Statements → Method → Option Statements → Block
trunk script method remove = record {
  key = codes "trunk";
  fields = record { name = codes "alarm"; kind = k.Timer } ∷ record { name = codes "n"; kind = k.Int } ∷ record { name = codes "who"; kind = k.Text } ∷ [];
  attributes = record { name = codes "seen"; key = codes "trunk.seen"; kind = k.Int } ∷ [];
  relations = record { name = codes "legs"; block = 1; priority = pos 0 } ∷ [];
  handlers = record { event = codes "ping"; mask = false; script = script } ∷ [];
  methods = method ∷ [];
  exception = None;
  rolled_back = None;
  remove = remove;
}

abbrev all_of : Block → Codes
all_of block = record { events = beat ∷ ping ∷ []; tables = accounts ∷ []; services = codes "main" ∷ []; blocks = block ∷ leg ∷ []; names = [] }

-- the check of a script of the trunk
abbrev in_role : Role → Statements → Checked (Unit {0})
in_role role script = do
  _ ← check_statements (record { codes = all_of (trunk Nothing stop None); block = trunk Nothing stop None; role = role }) [] 0 script
  Ok tt

abbrev handler : Statements → Checked (Unit {0})
handler script = in_role (OnEvent ping.fields) script

abbrev remove : Statements → Checked (Unit {0})
remove script = in_role OnRemove script

abbrev fine : Checked (Unit {0})
fine = Ok tt

-- Names and types of expressions.

-- emit x;
unknown_variable : handler (one (emit (name (codes "x")))) ≡ misused Name 1
unknown_variable = refl

-- emit 1;
text_is_asked : handler (one (emit (int 1))) ≡ misused Mismatch 1
text_is_asked = refl

-- emit "x" + y;
left_operand_first : handler (one (emit (Binary Plus (text (codes "x")) (name (codes "y"))))) ≡ misused Mismatch 1
left_operand_first = refl

-- emit "a" ++ 1;
right_operand : handler (one (emit (Binary Join (text (codes "a")) (int 1)))) ≡ misused Mismatch 3
right_operand = refl

-- let x = 1 == "a";
equal_of_two_types : handler (one (let_ (codes "x") (Binary Equal (int 1) (text (codes "a"))))) ≡ misused Mismatch 5
equal_of_two_types = refl

-- let x = true < 1;
less_of_a_bool : handler (one (let_ (codes "x") (Binary Less yes_constant (int 1)))) ≡ misused Mismatch 3
less_of_a_bool = refl

-- let x = 1 < "a";
less_of_two_types : handler (one (let_ (codes "x") (Binary Less (int 1) (text (codes "a"))))) ≡ misused Mismatch 5
less_of_two_types = refl

-- let x = not 1;
not_of_an_int : handler (one (let_ (codes "x") (Unary Not (int 1)))) ≡ misused Mismatch 4
not_of_an_int = refl

-- let x = (1 + 2) * "a";
behind_brackets : handler (one (let_ (codes "x") (Binary Times (Group (Binary Plus (int 1) (int 2))) (text (codes "a"))))) ≡ misused Mismatch 9
behind_brackets = refl

-- emit (1) + 2;
sum_that_begins_with_a_bracket : handler (one (emit (Binary Plus (Group (int 1)) (int 2)))) ≡ misused Mismatch 1
sum_that_begins_with_a_bracket = refl

-- emit ((true));
in_two_brackets : handler (one (emit (Group (Group yes_constant)))) ≡ misused Mismatch 1
in_two_brackets = refl

-- if (1) {}
condition_in_brackets : handler (one (If (Group (int 1)) Nothing)) ≡ misused Mismatch 1
condition_in_brackets = refl

-- let x = (1 == "a");
comparison_in_brackets : handler (one (let_ (codes "x") (Group (Binary Equal (int 1) (text (codes "a")))))) ≡ misused Mismatch 6
comparison_in_brackets = refl

-- emit (x);
name_in_brackets : handler (one (emit (Group (name (codes "x"))))) ≡ misused Name 2
name_in_brackets = refl

-- cancel (none);
none_in_brackets : handler (one (Do Cancel (Group none))) ≡ fine
none_in_brackets = refl

-- emit text("a");
text_of_a_text : handler (one (emit (Ask (q.Plain f.Text) (text (codes "a"))))) ≡ misused Mismatch 3
text_of_a_text = refl

-- emit text(true);
text_of_a_bool : handler (one (emit (Ask (q.Plain f.Text) yes_constant))) ≡ fine
text_of_a_bool = refl

-- self.n = self.m;
unknown_field : handler (one (set_field (codes "n") (field (codes "m")))) ≡ misused Name 6
unknown_field = refl

-- self.n = event.f;
unknown_event_field : handler (one (set_field (codes "n") (event_field (codes "f")))) ≡ misused Name 6
unknown_event_field = refl

-- self.n = event.n;
event_in_a_method : in_role (InMethod None) (one (set_field (codes "n") (event_field (codes "n")))) ≡ misused Place 4
event_in_a_method = refl

-- emit failure;
failure_in_a_handler : handler (one (emit failure)) ≡ misused Place 1
failure_in_a_handler = refl

failure_in_a_callback : in_role OnException (one (emit failure)) ≡ fine
failure_in_a_callback = refl

-- attr(1, f) = 2;
attribute_of_an_int : handler (one (t.Assign (t.Attribute (int 1) (codes "f") (int 2)))) ≡ misused Mismatch 2
attribute_of_an_int = refl

-- attr(activity, f) = x;
unknown_attribute : handler (one (t.Assign (t.Attribute here (codes "f") (name (codes "x"))))) ≡ misused Name 4
unknown_attribute = refl

-- let s = profile(f, 1, seconds);
unknown_table : handler (one (let_ (codes "s") (Ask (q.Profile (codes "f") (codes "seconds")) (int 1)))) ≡ misused Name 5
unknown_table = refl

-- let s = profile(accounts, 1, f);
row_is_a_text : handler (one (let_ (codes "s") (Ask (q.Profile (codes "accounts") (codes "f")) (int 1)))) ≡ misused Mismatch 7
row_is_a_text = refl

-- let s = profile(accounts, "a", f);
unknown_row_attribute : handler (one (let_ (codes "s") (Ask (q.Profile (codes "accounts") (codes "f")) (text (codes "a"))))) ≡ misused Name 9
unknown_row_attribute = refl

-- `none`, an activity or a timer.

-- cancel none; end none;
none_by_what_is_asked : handler (two (Do Cancel none) (Do End none)) ≡ fine
none_by_what_is_asked = refl

-- let x = none; cancel x;
none_is_an_activity : handler (two (let_ (codes "x") none) (Do Cancel (name (codes "x")))) ≡ misused Mismatch 6
none_is_an_activity = refl

-- if none == self.alarm {} if self.alarm == none {}
none_beside_a_timer : handler (two (If (Binary Equal none (field (codes "alarm"))) Nothing) (If (Binary Equal (field (codes "alarm")) none) Nothing)) ≡ fine
none_beside_a_timer = refl

-- if self.n == none {}
none_beside_an_int : handler (one (If (Binary Equal (field (codes "n")) none) Nothing)) ≡ misused Mismatch 5
none_beside_an_int = refl

-- Variables.

-- let x = x;
not_in_its_own_value : handler (one (let_ (codes "x") (name (codes "x")))) ≡ misused Name 3
not_in_its_own_value = refl

-- let x = 1; let x = y;
already_visible : handler (two (let_ (codes "x") (int 1)) (let_ (codes "x") (name (codes "y")))) ≡ misused Name 6
already_visible = refl

-- if true { let x = 1; } emit x;
forgotten_behind_its_block : handler (two (If yes_constant (one (let_ (codes "x") (int 1)))) (emit (name (codes "x")))) ≡ misused Name 10
forgotten_behind_its_block = refl

-- if 1 { emit x; }
condition_before_the_block : handler (one (If (int 1) (one (emit (name (codes "x")))))) ≡ misused Mismatch 1
condition_before_the_block = refl

-- if true {} else { emit x; }
second_block : handler (one (t.IfElse yes_constant Nothing (one (emit (name (codes "x")))))) ≡ misused Name 7
second_block = refl

-- Child entities.

-- create legs as c; emit c;
child_where_a_value_is_wanted : handler (two (create (codes "c")) (emit (name (codes "c")))) ≡ misused Place 6
child_where_a_value_is_wanted = refl

-- create legs as c; c = 1;
child_assigned_to : handler (two (create (codes "c")) (set (codes "c") (int 1))) ≡ misused Place 5
child_assigned_to = refl

-- let x = 1; remove x;
value_where_a_child_is_wanted : handler (two (let_ (codes "x") (int 1)) (t.Entity (t.Remove (codes "x")))) ≡ misused Mismatch 6
value_where_a_child_is_wanted = refl

-- create legs as c priority count(c);
unknown_relation : handler (one (t.Entity (t.Create (codes "legs") (codes "c") (Some (t.Leaf (l.Count (codes "c"))))))) ≡ misused Name 7
unknown_relation = refl

-- for c in legs { attach c to activity; remove c; }
children_of_a_relation : handler (one (For (codes "c") (Children (codes "legs")) (two (t.Activity (t.Attach (Child (codes "c")) here)) (t.Entity (t.Remove (codes "c")))))) ≡ fine
children_of_a_relation = refl

-- for a in activities { attach self to a; remove a; }
activities_are_values : handler (one (For (codes "a") Activities (two (t.Activity (t.Attach Own (name (codes "a")))) (t.Entity (t.Remove (codes "a")))))) ≡ misused Mismatch 11
activities_are_values = refl

-- create legs as c; call c.halt();
unknown_method : handler (two (create (codes "c")) (call (codes "c") (codes "halt") [] None)) ≡ misused Name 8
unknown_method = refl

-- create legs as c; call c.add("a");
argument_before_their_number : handler (two (create (codes "c")) (call (codes "c") (codes "add") (text (codes "a") ∷ []) None)) ≡ misused Mismatch 10
argument_before_their_number = refl

-- create legs as c; call c.add(1) as c;
number_of_arguments : handler (two (create (codes "c")) (call (codes "c") (codes "add") (int 1 ∷ []) (Some (codes "c")))) ≡ misused Count 8
number_of_arguments = refl

-- create legs as c; call c.stop(x);
argument_without_a_parameter : handler (two (create (codes "c")) (call (codes "c") (codes "stop") (name (codes "x") ∷ []) None)) ≡ misused Name 10
argument_without_a_parameter = refl

-- create legs as c; call c.add(1, none) as c;
result_already_visible : handler (two (create (codes "c")) (call (codes "c") (codes "add") (int 1 ∷ none ∷ []) (Some (codes "c")))) ≡ misused Name 15
result_already_visible = refl

-- create legs as c; call c.stop() as c;
result_of_a_method_without : handler (two (create (codes "c")) (call (codes "c") (codes "stop") [] (Some (codes "c")))) ≡ misused Place 12
result_of_a_method_without = refl

-- Activities, events and timers.

-- mask "timer" on activity; mask "pong" on activity;
unknown_event : handler (two (t.Activity (t.Mask (codes "timer") here)) (t.Activity (t.Mask (codes "pong") here))) ≡ misused Name 6
unknown_event = refl

-- fire "timer" on activity {which: none};
built_in_event : handler (one (fire (codes "timer") None ((codes "which", none) ∷ []))) ≡ misused Name 1
built_in_event = refl

-- fire "ping" on activity for "other" {n: 1};
unknown_service : handler (one (fire (codes "ping") (Some (codes "other")) ((codes "n", int 1) ∷ []))) ≡ misused Name 5
unknown_service = refl

-- fire "ping" on activity for "main" {n: "a"};
type_of_a_field : handler (one (fire (codes "ping") (Some (codes "main")) ((codes "n", text (codes "a")) ∷ []))) ≡ misused Mismatch 9
type_of_a_field = refl

-- fire "beat" on activity {n: 1};
field_of_no_event : handler (one (fire (codes "beat") None ((codes "n", int 1) ∷ []))) ≡ misused Name 5
field_of_no_event = refl

-- fire "ping" on activity {n: 1, n: x};
field_given_twice : handler (one (fire (codes "ping") None ((codes "n", int 1) ∷ (codes "n", name (codes "x")) ∷ []))) ≡ misused Count 9
field_given_twice = refl

-- fire "ping" on activity {n: 1};
field_left_out : handler (one (fire (codes "ping") None ((codes "n", int 1) ∷ []))) ≡ misused Count 1
field_left_out = refl

-- timer t on activity at 1 every 2 times "x" keep last;
times_of_a_timer : handler (one (t.Timer (record { name = codes "t"; activity = here; start = int 1; repeat = Some (int 2, text (codes "x")); keep = Some keep.Last }))) ≡ misused Mismatch 9
times_of_a_timer = refl

-- usage granted "x";
amount_of_usage : handler (one (t.Usage (codes "granted") (text (codes "x")))) ≡ misused Mismatch 2
amount_of_usage = refl

-- Where statements may stand.

-- return x;
return_in_a_handler_with_a_fault : handler (one (Do Return (name (codes "x")))) ≡ misused Name 1
return_in_a_handler_with_a_fault = refl

-- return 1;
return_in_a_handler : handler (one (Do Return (int 1))) ≡ misused Place 0
return_in_a_handler = refl

return_of_another_type : in_role (InMethod (Some k.Text)) (one (Do Return (int 1))) ≡ misused Mismatch 1
return_of_another_type = refl

return_of_nothing : in_role (InMethod (Some k.Timer)) (one (Do Return none)) ≡ fine
return_of_nothing = refl

-- suspend 500;      suspend "a";      suspend x;
suspend_in_a_handler : handler (one (Do Suspend (int 500))) ≡ fine
suspend_in_a_handler = refl

suspend_for_a_text : handler (one (Do Suspend (text (codes "a")))) ≡ misused Mismatch 1
suspend_for_a_text = refl

suspend_in_a_method : in_role (InMethod None) (one (Do Suspend (int 500))) ≡ misused Place 0
suspend_in_a_method = refl

suspend_in_a_callback : in_role OnException (one (Do Suspend (name (codes "x")))) ≡ misused Name 1
suspend_in_a_callback = refl

-- resume activity;      resume 1;      resume none;
resume_in_a_method : in_role (InMethod None) (one (Do Resume here)) ≡ fine
resume_in_a_method = refl

resume_of_an_int : in_role OnException (one (Do Resume (int 1))) ≡ misused Mismatch 1
resume_of_an_int = refl

resume_on_remove : remove (one (Do Resume none)) ≡ misused Place 0
resume_on_remove = refl

-- while len(self.who) < 3 { let x = text(self.n); emit x; }
remove_script : remove (one (While (Binary Less (Ask (q.Plain f.Len) (field (codes "who"))) (int 3)) (two (let_ (codes "x") (Ask (q.Plain f.Text) (field (codes "n")))) (emit (name (codes "x")))))) ≡ fine
remove_script = refl

-- emit text(now);
now_on_remove : remove (one (emit (Ask (q.Plain f.Text) now))) ≡ misused Place 3
now_on_remove = refl

-- if active(x) {}      if active(none) {}
function_on_remove : remove (one (If (Ask (q.Plain f.Active) (name (codes "x"))) Nothing)) ≡ misused Name 3
function_on_remove = refl

function_not_on_remove : remove (one (If (Ask (q.Plain f.Active) none) Nothing)) ≡ misused Place 1
function_not_on_remove = refl

-- self.n = "a";      self.n = 1;
field_on_remove : remove (one (set_field (codes "n") (text (codes "a")))) ≡ misused Mismatch 4
field_on_remove = refl

field_not_on_remove : remove (one (set_field (codes "n") (int 1))) ≡ misused Place 0
field_not_on_remove = refl

-- for c in legs { emit 1; }      for c in legs {}
block_before_its_loop : remove (one (For (codes "c") (Children (codes "legs")) (one (emit (int 1))))) ≡ misused Mismatch 6
block_before_its_loop = refl

loop_on_remove : remove (one (For (codes "c") (Children (codes "legs")) Nothing)) ≡ misused Place 0
loop_on_remove = refl

-- throw "a";
throw_on_remove : remove (one (Do Throw (text (codes "a")))) ≡ misused Place 0
throw_on_remove = refl

-- Every statement and every function, without a fault.

abbrev script_of : List Statement → Statements
script_of [] = Nothing
script_of (x ∷ xs) = Then x (script_of xs)

-- let x = 1; x = 2; self.n = x; attr(activity, seen) = x; create legs as c priority x; priority c 2; attach c to activity; detach self from activity;
-- mask "timer" on activity; unmask "ping" on activity; fire "ping" on activity for "main" {n: x, addr: "a"}; null as a; bind "b" to a; unbind "b";
-- timer t on a at now every 1 times 2 keep all; cancel t; emit "e"; usage u x; call c.add(x, t) as r; self.n = r; remove c; end a;
-- if r == x { let y = 1; } else { let y = "b"; } while r < x { x = r; } for d in legs { remove d; } for d in activities { end d; } throw "f"; rollback; suspend 1; resume activity;
every_statement : handler (script_of
    (let_ (codes "x") (int 1) ∷ set (codes "x") (int 2) ∷ set_field (codes "n") (name (codes "x"))
    ∷ t.Assign (t.Attribute here (codes "seen") (name (codes "x")))
    ∷ t.Entity (t.Create (codes "legs") (codes "c") (Some (name (codes "x")))) ∷ t.Entity (t.Priority (codes "c") (int 2))
    ∷ t.Activity (t.Attach (Child (codes "c")) here) ∷ t.Activity (t.Detach Own here)
    ∷ t.Activity (t.Mask (codes "timer") here) ∷ t.Activity (t.Unmask (codes "ping") here)
    ∷ fire (codes "ping") (Some (codes "main")) ((codes "n", name (codes "x")) ∷ (codes "addr", text (codes "a")) ∷ [])
    ∷ t.Activity (t.Null (codes "a")) ∷ t.Activity (t.Bind (text (codes "b")) (name (codes "a"))) ∷ Do Unbind (text (codes "b"))
    ∷ t.Timer (record { name = codes "t"; activity = name (codes "a"); start = now; repeat = Some (int 1, int 2); keep = Some keep.All }) ∷ Do Cancel (name (codes "t"))
    ∷ emit (text (codes "e")) ∷ t.Usage (codes "u") (name (codes "x"))
    ∷ call (codes "c") (codes "add") (name (codes "x") ∷ name (codes "t") ∷ []) (Some (codes "r")) ∷ set_field (codes "n") (name (codes "r"))
    ∷ t.Entity (t.Remove (codes "c")) ∷ Do End (name (codes "a"))
    ∷ t.IfElse (Binary Equal (name (codes "r")) (name (codes "x"))) (one (let_ (codes "y") (int 1))) (one (let_ (codes "y") (text (codes "b"))))
    ∷ While (Binary Less (name (codes "r")) (name (codes "x"))) (one (set (codes "x") (name (codes "r"))))
    ∷ For (codes "d") (Children (codes "legs")) (one (t.Entity (t.Remove (codes "d"))))
    ∷ For (codes "d") Activities (one (Do End (name (codes "d"))))
    ∷ Do Throw (text (codes "f")) ∷ t.Rollback ∷ Do Suspend (int 1) ∷ Do Resume here ∷ [])) ≡ fine
every_statement = refl

-- create legs as c;
-- if not active(activity) or attached(table(accounts)) and masked("timer", lookup("x")) or bound("x") and has_profile(accounts, "a") or has_timer(self.alarm) {}
-- let n = len(text(1)) - count(legs) * priority(c) / attr(activity, seen) % profile(accounts, "a", seconds);
every_function : handler (script_of
    (create (codes "c")
    ∷ If (Binary Or (Binary Or (Binary Or (Unary Not (Ask (q.Plain f.Active) here))
    (Binary And (Ask (q.Plain f.Attached) (t.Leaf (l.Table (codes "accounts")))) (Ask (q.Masked (codes "timer")) (Ask (q.Plain f.Lookup) (text (codes "x"))))))
    (Binary And (Ask (q.Plain f.Bound) (text (codes "x"))) (Ask (q.HasProfile (codes "accounts")) (text (codes "a"))))) (Ask (q.Plain f.HasTimer) (field (codes "alarm")))) Nothing
    ∷ let_ (codes "n") (Binary Minus (Ask (q.Plain f.Len) (Ask (q.Plain f.Text) (int 1)))
    (Binary Remainder (Binary Divide (Binary Times (t.Leaf (l.Count (codes "legs"))) (t.Leaf (l.Priority (codes "c")))) (Ask (q.Attribute (codes "seen")) here))
    (Ask (q.Profile (codes "accounts") (codes "seconds")) (text (codes "a"))))) ∷ [])) ≡ fine
every_function = refl

-- Whole codes.

-- self.who = event.addr; emit "call " ++ event.addr;
-- if has_profile(accounts, event.addr) { let s = profile(accounts, event.addr, seconds); usage granted s; timer t on activity at now + s * 1000; } else { emit "no account"; }
abbrev prepaid : Statements
prepaid =
    Then (set_field (codes "who") (event_field (codes "addr")))
    (Then (emit (Binary Join (text (codes "call ")) (event_field (codes "addr"))))
    (one (t.IfElse (Ask (q.HasProfile (codes "accounts")) (event_field (codes "addr")))
    (Then (let_ (codes "s") (Ask (q.Profile (codes "accounts") (codes "seconds")) (event_field (codes "addr"))))
    (two (t.Usage (codes "granted") (name (codes "s")))
    (t.Timer (record { name = codes "t"; activity = here; start = Binary Plus now (Binary Times (name (codes "s")) (int 1000)); repeat = None; keep = None }))))
    (one (emit (text (codes "no account")))))))

prepaid_is_fine : check_codes (all_of (trunk prepaid stop None)) ≡ Ok tt
prepaid_is_fine = refl

-- a method with the parameter n: let n = 1;
abbrev bad_method : Method
bad_method = record { name = codes "bad"; parameters = record { name = codes "n"; kind = k.Int } ∷ []; result = None; script = one (let_ (codes "n") (int 1)) }

method_before_remove : check_codes (all_of (trunk prepaid bad_method (Some (one t.Rollback)))) ≡ Err (record { block = 0; part = part.Method 0 }, record { at = 1; kind = Name })
method_before_remove = refl

remove_last : check_codes (all_of (trunk prepaid stop (Some (one t.Rollback)))) ≡ Err (record { block = 0; part = part.Remove }, record { at = 0; kind = Place })
remove_last = refl

handler_first : check_codes (all_of (trunk (one (emit now)) bad_method None)) ≡ Err (record { block = 0; part = part.Handler 0 }, record { at = 1; kind = Mismatch })
handler_first = refl

timer_event : fields_of_event (codes "timer") (all_of leg) ≡ record { name = codes "which"; kind = k.Timer } ∷ []
timer_event = refl
