-- Terms over two functions from keys to answers.
use Rattle.std.proofs.Common.{ℕ, List, Option, Some, None}
use Rattle.std.specs.Prelude.{ℤ}
use Rattle.slee_value.specs.declared.kind.Kind.{Kind}
use Rattle.slee_value.specs.declared.kind.Kind.TheVariants as k
use Rattle.slee_value.specs.declared.value.Value.{Value}
use Rattle.slee_effect.specs.declared.reference.Ref.{Ref}
use Rattle.slee_effect.specs.declared.value.Val.{Val}
use Rattle.script_types.specs.declared.term.Atom.{Atom}
use Rattle.script_types.specs.declared.term.Atom.TheVariants as a
use Rattle.script_types.specs.declared.term.Question.{Question}
use Rattle.script_types.specs.declared.term.Question.TheVariants as g
use Rattle.script_types.specs.declared.term.Joint.{Joint}
use Rattle.script_types.specs.declared.term.Joint.TheVariants as j
use Rattle.script_types.specs.declared.term.Scale.{Scale}
use Rattle.script_types.specs.declared.term.Scale.TheVariants as scale
use Rattle.script_types.specs.declared.term.Test.{Test}
use Rattle.script_types.specs.declared.term.Test.TheVariants as t
use Rattle.script_types.specs.Program.{Term, Single, Ask, Compare, Combine}
use Rattle.script_meaning.specs.declared.outcome.FailKind.TheVariants as f
use Rattle.script_meaning.specs.declared.seen.AcSeen.{AcSeen}
use Rattle.script_meaning.specs.Answers.{Answers}
use Rattle.script_meaning.specs.Running.{Setting, Variable, Holds, Child, State, Run, ticked, found}
use Rattle.script_meaning.specs.Values.{number, divided, joined, apply, same_values, is_less, compare}
use Rattle.script_meaning.specs.Observing as read
use Rattle.script_meaning.specs.Terms.{single, is_masked, looked_up, in_row, of_row, row, ask, combine, node, eval}
use Rattle.script_laws.proofs.Likeness.{Like, like_then, like_give, like_break, like_cond, like_tick, like_tested, like_int, like_text, like_flag, like_activity, like_timer, look_like}

-- the same setting over other answers
abbrev pub over : Setting → Answers → Setting
over m other = record m { answers = other }

ruleset reading = (like_then, like_give, look_like)

-- what is read of the state
pub now_like : (m : Setting) (other : Answers) (st : State) → Like m other st (read.now m st) (read.now (over m other) st)
now_like m other st = search reading

pub state_like : (m : Setting) (other : Answers) (a : Ref) (st : State) → Like m other st (read.state_of m a st) (read.state_of (over m other) a st)
state_like m other a st = search reading

pub field_like : (m : Setting) (other : Answers) (name : List ℕ) (q : Kind) (st : State) → Like m other st (read.field m name q st) (read.field (over m other) name q st)
field_like m other name q st = search reading

pub attribute_like : (m : Setting) (other : Answers) (key : List ℕ) (q : Kind) (a : Ref) (st : State) → Like m other st (read.attribute m key q a st) (read.attribute (over m other) key q a st)
attribute_like m other key q a st = search reading

pub attached_like : (m : Setting) (other : Answers) (a : Ref) (st : State) → Like m other st (read.attached m a st) (read.attached (over m other) a st)
attached_like m other a st = search reading

pub masks_like : (m : Setting) (other : Answers) (a : Ref) (st : State) → Like m other st (read.masks m a st) (read.masks (over m other) a st)
masks_like m other a st = search reading

pub named_like : (m : Setting) (other : Answers) (name : List ℕ) (st : State) → Like m other st (read.named m name st) (read.named (over m other) name st)
named_like m other name st = search reading

pub timer_like : (m : Setting) (other : Answers) (a : Ref) (st : State) → Like m other st (read.timer m a st) (read.timer (over m other) a st)
timer_like m other a st = search reading

pub children_like : (m : Setting) (other : Answers) (relation : List ℕ) (st : State) → Like m other st (read.children m relation st) (read.children (over m other) relation st)
children_like m other relation st = search reading

pub activities_like : (m : Setting) (other : Answers) (st : State) → Like m other st (read.activities m st) (read.activities (over m other) st)
activities_like m other st = search reading

pub priority_like : (m : Setting) (other : Answers) (e : Ref) (st : State) → Like m other st (read.priority m e st) (read.priority (over m other) e st)
priority_like m other e st = search reading

pub row_like : (m : Setting) (other : Answers) (table : List ℕ) (name : List ℕ) (st : State) → Like m other st (row m table name st) (row (over m other) table name st)
row_like m other table name st = search reading

there_like : (m : Setting) (other : Answers) (o : Option AcSeen) (st : State) → Like m other st (read.there o st) (read.there o st)
there_like m other None st = like_break m other st f.Gone
there_like m other (Some seen) st = like_give m other st seen

pub used_like : (m : Setting) (other : Answers) (a : Ref) (st : State) → Like m other st (read.used m a st) (read.used (over m other) a st)
used_like m other a st = search (like_then, state_like, there_like)

pub used_active_like : (m : Setting) (other : Answers) (a : Ref) (st : State) → Like m other st (read.used_active m a st) (read.used_active (over m other) a st)
used_active_like m other a st = search (like_then, used_like, like_tested, like_give)

found_like : {A : Type 0} (m : Setting) (other : Answers) (o : Option A) (st : State) → Like m other st (found o st) (found o st)
found_like m other None st = (tt, tt)
found_like m other (Some x) st = like_give m other st x

only_child_like : (m : Setting) (other : Answers) (x : Variable) (st : State) → Like m other st (read.only_child x st) (read.only_child x st)
only_child_like m other (Child e) st = like_give m other st e
only_child_like m other (Holds x) st = (tt, tt)

only_value_like : (m : Setting) (other : Answers) (x : Variable) (st : State) → Like m other st (read.only_value x st) (read.only_value x st)
only_value_like m other (Holds x) st = like_give m other st x
only_value_like m other (Child e) st = (tt, tt)

pub child_like : (m : Setting) (other : Answers) (i : ℕ) (st : State) → Like m other st (read.child m i st) (read.child (over m other) i st)
child_like m other i st = search (like_then, found_like, only_child_like, like_tested, like_give)

value_like : (m : Setting) (other : Answers) (i : ℕ) (st : State) → Like m other st (read.value i st) (read.value i st)
value_like m other i st = search (like_then, found_like, only_value_like)

single_like : (m : Setting) (other : Answers) (x : Atom) (st : State) → Like m other st (single m x st) (single (over m other) x st)
single_like m other (a.Constant x) st = like_give m other st _
single_like m other a.Now st = search (like_then, now_like, like_give)
single_like m other a.Activity st = like_give m other st _
single_like m other a.Failure st = like_give m other st _
single_like m other (a.Slot i) st = value_like m other i st
single_like m other (a.Field x kind) st = field_like m other x.name kind st
single_like m other (a.EventField place kind) st = like_give m other st _
single_like m other (a.Count relation) st = search (like_then, children_like, like_give)
single_like m other (a.Priority i) st = search (like_then, child_like, priority_like, like_give)

number_like : (m : Setting) (other : Answers) (n : ℤ) (st : State) → Like m other st (number n st) (number n st)
number_like m other n st = search (like_cond, like_give, like_break)

divided_like : (m : Setting) (other : Answers) (by : ℤ → ℤ → ℤ) (x y : ℤ) (st : State) → Like m other st (divided by x y st) (divided by x y st)
divided_like m other by x y st = search (like_cond, like_break, number_like)

joined_like : (m : Setting) (other : Answers) (x y : List ℕ) (st : State) → Like m other st (joined x y st) (joined x y st)
joined_like m other x y st = search (like_cond, like_give, like_break)

apply_like : (m : Setting) (other : Answers) (operator : Joint) (x y : Val) (st : State) → Like m other st (apply operator x y st) (apply operator x y st)
apply_like m other j.Add x y st = search (like_int, number_like)
apply_like m other j.Subtract x y st = search (like_int, number_like)
apply_like m other j.Multiply x y st = search (like_int, number_like)
apply_like m other j.Divide x y st = search (like_int, divided_like)
apply_like m other j.Remainder x y st = search (like_int, divided_like)
apply_like m other j.Join x y st = search (like_text, joined_like)
apply_like m other j.Both x y st = search (like_flag, like_give)
apply_like m other j.Either x y st = search (like_flag, like_give)

same_values_like : (m : Setting) (other : Answers) (q : Kind) (x y : Val) (st : State) → Like m other st (same_values q x y st) (same_values q x y st)
same_values_like m other k.Int x y st = search (like_int, like_give)
same_values_like m other k.Text x y st = search (like_text, like_give)
same_values_like m other k.Bool x y st = search (like_flag, like_give)
same_values_like m other k.Activity x y st = search (like_activity, like_give)
same_values_like m other k.Timer x y st = search (like_timer, like_give)

is_less_like : (m : Setting) (other : Answers) (q : Scale) (x y : Val) (st : State) → Like m other st (is_less q x y st) (is_less q x y st)
is_less_like m other scale.Int x y st = search (like_int, like_give)
is_less_like m other scale.Text x y st = search (like_text, like_give)

compare_like : (m : Setting) (other : Answers) (test : Test) (x y : Val) (st : State) → Like m other st (compare test x y st) (compare test x y st)
compare_like m other (t.Same q) x y st = search (like_then, same_values_like, like_give)
compare_like m other (t.Unlike q) x y st = search (like_then, same_values_like, like_give)
compare_like m other (t.Below q) x y st = search (like_then, is_less_like, like_give)
compare_like m other (t.AtMost q) x y st = search (like_then, is_less_like, like_give)
compare_like m other (t.Above q) x y st = search (like_then, is_less_like, like_give)
compare_like m other (t.AtLeast q) x y st = search (like_then, is_less_like, like_give)

masked_like : (m : Setting) (other : Answers) (event : List ℕ) (o : Option (List (List ℕ))) (st : State) → Like m other st (is_masked event o st) (is_masked event o st)
masked_like m other event None st = like_break m other st f.Detached
masked_like m other event (Some names) st = like_give m other st _

looked_up_like : (m : Setting) (other : Answers) (o : Option Ref) (st : State) → Like m other st (looked_up o st) (looked_up o st)
looked_up_like m other None st = like_break m other st f.Unbound
looked_up_like m other (Some a) st = like_give m other st _

in_row_like : (m : Setting) (other : Answers) (kind : Kind) (o : Option Val) (st : State) → Like m other st (in_row kind o st) (in_row kind o st)
in_row_like m other kind None st = like_break m other st f.NoRow
in_row_like m other kind (Some x) st = search (like_cond, like_give, like_break)

of_row_like : (m : Setting) (other : Answers) (name : List ℕ) (kind : Kind) (o : Option (List (List ℕ × Value))) (st : State) → Like m other st (of_row name kind o st) (of_row name kind o st)
of_row_like m other name kind None st = like_break m other st f.NoRow
of_row_like m other name kind (Some row) st = in_row_like m other kind _ st

ask_like : (m : Setting) (other : Answers) (question : Question) (x : Val) (st : State) → Like m other st (ask m question x st) (ask (over m other) question x st)
ask_like m other g.Negative x st = search (like_int, number_like)
ask_like m other g.Not x st = search (like_flag, like_give)
ask_like m other g.TextOfInt x st = search (like_int, like_give)
ask_like m other g.TextOfBool x st = search (like_flag, like_give)
ask_like m other g.Len x st = search (like_text, like_give)
ask_like m other g.Active x st = search (like_activity, like_then, state_like, like_give)
ask_like m other g.Attached x st = search (like_activity, like_then, used_like, attached_like, like_give)
ask_like m other (g.Masked event) x st = search (like_activity, like_then, used_like, masks_like, masked_like)
ask_like m other (g.Attribute key kind) x st = search (like_activity, like_then, used_like, attribute_like)
ask_like m other g.Bound x st = search (like_text, like_then, named_like, like_give)
ask_like m other g.Lookup x st = search (like_text, like_then, named_like, looked_up_like)
ask_like m other (g.Profile table name kind) x st = search (like_text, like_then, row_like, of_row_like)
ask_like m other (g.HasProfile table) x st = search (like_text, like_then, row_like, like_give)
ask_like m other g.HasTimer x st = search (like_timer, like_then, timer_like, like_give)

combine_like : (m : Setting) (other : Answers) (operator : Joint) (x : Val) (p q : Run Val) (st : State) → Like m other st (p st) (q st) → Like m other st (combine operator x p st) (combine operator x q st)
combine_like m other operator x p q st h = search (like_cond, like_give, like_then, apply_like, h)

-- a term's value, behind its first unit
pub node_like : (m : Setting) (other : Answers) (x : Term) (st : State) → Like m other st (node m x st) (node (over m other) x st)
node_like m other (Single x) st = single_like m other x st
node_like m other (Ask question a) st = like_then m other st (ticked (node m a) st) (ticked (node (over m other) a) st) (ask m question) (ask (over m other) question) (like_tick m other (node m a) (node (over m other) a) st (node_like m other a)) (ask_like m other question)
node_like m other (Compare test a b) st = like_then m other st (ticked (node m a) st) (ticked (node (over m other) a) st) _ _ (like_tick m other (node m a) (node (over m other) a) st (node_like m other a))
    (λ x mid. like_then m other mid (ticked (node m b) mid) (ticked (node (over m other) b) mid) (compare test x) (compare test x) (like_tick m other (node m b) (node (over m other) b) mid (node_like m other b)) (compare_like m other test x))
node_like m other (Combine operator a b) st = like_then m other st (ticked (node m a) st) (ticked (node (over m other) a) st) _ _ (like_tick m other (node m a) (node (over m other) a) st (node_like m other a))
    (λ x mid. combine_like m other operator x (ticked (node m b)) (ticked (node (over m other) b)) mid (like_tick m other (node m b) (node (over m other) b) mid (node_like m other b)))

pub eval_like : (m : Setting) (other : Answers) (x : Term) (st : State) → Like m other st (eval m x st) (eval (over m other) x st)
eval_like m other x st = like_tick m other (node m x) (node (over m other) x) st (node_like m other x)
