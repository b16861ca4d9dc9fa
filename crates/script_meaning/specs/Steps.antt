-- What steps do, one behind another. A step's unit is spent when it begins.
use Rattle.std.specs.Prelude.{ℕ, zero, suc, ◌+◌, Bool, true, false, List, [], ◌∷◌, map}
use Rattle.slee_effect.specs.declared.reference.Ref.{Ref}
use Rattle.slee_effect.specs.declared.value.Val.{Val}
use Rattle.slee_effect.specs.declared.effect.Effect.TheVariants as ef
use Rattle.script_meaning.specs.declared.outcome.FailKind.TheVariants as f
use Rattle.script_types.specs.declared.step.Range.{Range}
use Rattle.script_types.specs.declared.step.Range.TheVariants as range
use Rattle.script_types.specs.Program as p
use Rattle.script_types.specs.Program.{Term, Saying, Call, Step, Steps}
use Rattle.script_meaning.specs.Running.{Setting, Variable, Holds, Child, Gave, Broke, Run, ◌>>=◌, give, break, ticked, effect, declare, scoped}
use Rattle.script_meaning.specs.Values.{activity_value, with_flag}
use Rattle.script_meaning.specs.Observing as read
use Rattle.script_meaning.specs.Terms.{eval}
use Rattle.script_meaning.specs.Doing.{int_of, text_of, assigns, on_entities, on_activities, on_timers}

-- What comes behind a step: the next one, or nothing, where a method gave its value.
pub data Flow : Type 0 where
  Next : Flow
  Returned : Val → Flow

abbrev pub next : Run (Unit {0}) → Run Flow
next m = do
  _ ← m
  give Next

-- what comes behind, unless a method gave its value
abbrev pub followed : Flow → Run Flow → Run Flow
followed Next m = m
followed (Returned x) m = give (Returned x)

abbrev pub ask_rollback : Run (Unit {0})
ask_rollback st = Gave tt (record st { asked = true })

-- a failure with a text of its own
abbrev pub throw : List ℕ → Run Flow
throw t st = Broke f.Thrown t st

-- emit, usage, return, throw, rollback
abbrev pub says : Setting → Saying → Run Flow
says s (p.Emit a) = do
  t ← text_of s a
  next (effect (ef.Emit s.me t))
says s (p.Usage name a) = do
  n ← int_of s a
  next (effect (ef.Usage s.me name n))
says s (p.Return a) = do
  x ← eval s a
  give (Returned x)
says s (p.Throw a) = do
  t ← text_of s a
  throw t
says s p.Rollback = next ask_rollback

-- one of two, by a truth value
abbrev pub either : Bool → Run Flow → Run Flow → Run Flow
either true m n = m
either false m n = n

abbrev pub choose : Val → Run Flow → Run Flow → Run Flow
choose x m n = with_flag x (λ b. either b m n)

-- at most n turns of a loop
abbrev pub turns : ℕ → Run Val → Run Flow → Run Flow
turns zero test body = break f.Budget
turns (suc n) test body = do
  x ← test
  choose x (do
    flow ← body
    followed flow (turns n test body)) (give Next)

-- each turn takes a unit, so one more than are left are never passed
abbrev pub repeat : Run Val → Run Flow → Run Flow
repeat test body st = turns (st.left + 1) test body st

-- a turn for each, with a variable of its own
abbrev pub walk : List Variable → Run Flow → Run Flow
walk [] body = give Next
walk (x ∷ more) body = do
  flow ← scoped (do
    _ ← declare x
    body)
  followed flow (walk more body)

-- what a loop goes over, as it is when the loop begins
abbrev pub items : Setting → Range → Run (List Variable)
items s range.Activities = do
  refs ← read.activities s
  give (map (λ r. Holds (activity_value r)) refs)
items s (range.Children relation) = do
  refs ← read.children s relation.name
  give (map Child refs)

-- How a method of a child is called: block, method, the child, the arguments, and whether the result is kept.
abbrev pub Calling : Type 0
Calling = ℕ → ℕ → Ref → List Val → Bool → Run (Unit {0})

abbrev pub arguments_of : Setting → List Term → Run (List Val)
arguments_of s [] = give []
arguments_of s (a ∷ more) = do
  x ← eval s a
  xs ← arguments_of s more
  give (x ∷ xs)

-- call CHILD.METHOD(..) as NAME
abbrev pub does_call : Setting → Calling → Call → Run (Unit {0})
does_call s call c = do
  e ← read.child s c.child
  xs ← arguments_of s c.arguments
  call c.block c.method e xs c.keeps

abbrev mutual
  -- what a step does, behind its unit
  pub act : Setting → Calling → Step → Run Flow
  act s call (p.Assign a) = next (assigns s a)
  act s call (p.Entity e) = next (on_entities s e)
  act s call (p.Activity a) = next (on_activities s a)
  act s call (p.Timer t) = next (on_timers s t)
  act s call (p.Say x) = says s x
  act s call (p.Invoke c) = next (does_call s call c)
  act s call (p.If a body other) = do
    x ← eval s a
    choose x (scoped (act_all s call body)) (scoped (act_all s call other))
  act s call (p.While a body) = repeat (eval s a) (scoped (act_all s call body))
  act s call (p.For over body) = do
    xs ← items s over
    walk xs (act_all s call body)

  pub act_all : Setting → Calling → Steps → Run Flow
  act_all s call p.Nothing = give Next
  act_all s call (p.Then x rest) = do
    flow ← ticked (act s call x)
    followed flow (act_all s call rest)
