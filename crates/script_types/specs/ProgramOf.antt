-- The checked scripts that are kept in memory, as a value, and when they are those of the scripts beside them.
use Rattle.std.specs.Prelude.{◌≡◌, List, [], ◌∷◌, map, Option, Some, None, Ok, option_map}
use Rattle.script_types.specs.declared.term.Joint.{Joint}
use Rattle.script_types.specs.declared.term.Test.{Test}
use Rattle.script_types.specs.declared.term.Question.{Question}
use Rattle.script_types.specs.declared.checked_term.Term.{Term as TermInMemory, Row_of-Term-Chain-1-2, end_of-Term-Chain-1-2, more_of-Term-Chain-1-2}
use Rattle.script_types.specs.declared.checked_term.Term.TheVariants as t
use Rattle.script_types.specs.declared.checked_step.Assigning.{Assigning as AssigningInMemory}
use Rattle.script_types.specs.declared.checked_step.Assigning.TheVariants as a
use Rattle.script_types.specs.declared.checked_step.Rank.{Rank as RankInMemory}
use Rattle.script_types.specs.declared.checked_step.Rank.TheVariants as r
use Rattle.script_types.specs.declared.checked_step.OnEntities.{OnEntities as OnEntitiesInMemory}
use Rattle.script_types.specs.declared.checked_step.OnEntities.TheVariants as n
use Rattle.script_types.specs.declared.checked_step.Call.{Call as CallInMemory}
use Rattle.script_types.specs.declared.checked_step.FieldTerm.{FieldTerm}
use Rattle.script_types.specs.declared.checked_step.OnActivities.{OnActivities as OnActivitiesInMemory}
use Rattle.script_types.specs.declared.checked_step.OnActivities.TheVariants as y
use Rattle.script_types.specs.declared.checked_step.Recurrence.{Recurrence}
use Rattle.script_types.specs.declared.checked_step.OnTimers.{OnTimers as OnTimersInMemory}
use Rattle.script_types.specs.declared.checked_step.OnTimers.TheVariants as i
use Rattle.script_types.specs.declared.checked_step.Saying.{Saying as SayingInMemory}
use Rattle.script_types.specs.declared.checked_step.Saying.TheVariants as g
use Rattle.script_types.specs.declared.checked_step.Step.{Step as StepInMemory, Row_of-Step, end_of-Step, more_of-Step}
use Rattle.script_types.specs.declared.checked_step.Step.TheVariants as s
use Rattle.script_types.specs.declared.checked_script.HandlerSteps.{HandlerSteps}
use Rattle.script_types.specs.declared.checked_script.MethodSteps.{MethodSteps}
use Rattle.script_types.specs.declared.checked_script.BlockSteps.{BlockSteps}
use Rattle.script_types.specs.declared.codes.Codes.{Codes as CodesInMemory}
use Rattle.script_tree.specs.Tree.{Bytes}
use Rattle.script_types.specs.CodesOf.{codes_of}
use Rattle.script_types.specs.Programs.{program_of}
use Rattle.script_types.specs.Program as p
use Rattle.script_types.specs.Program.{Term, Single, Ask, Compare, Combine, Assigning, Rank, OnEntities, OnActivities, OnTimers, Saying, Step, Steps, Nothing, Then, HandlerProgram, MethodProgram, BlockProgram, Program}

-- an expression in memory, as a value
abbrev mutual
  pub term_of : TermInMemory → Term
  term_of (t.Single atom) = Single atom
  term_of (t.Ask' _ question x) = Ask question (term_of x)
  term_of (t.Compare' _ test x y) = Compare test (term_of x) (term_of y)
  term_of (t.Chain' _ x op y _ more) = combined_row (Combine op (term_of x) (term_of y)) more

  -- operands that are joined from left to right
  pub combined_row : {n : _} → Term → Row_of-Term-Chain-1-2 n → Term
  combined_row x end_of-Term-Chain-1-2 = x
  combined_row x (more_of-Term-Chain-1-2 op y more) = combined_row (Combine op x (term_of y)) more

-- a question to a value
abbrev pub ask_of : Question × TermInMemory → Term
ask_of x = Ask x.0 (term_of x.1)

-- a comparison of two values
abbrev pub compare_of : Test × TermInMemory × TermInMemory → Term
compare_of x = Compare x.0 (term_of x.1) (term_of x.2)

-- an operator between two operands
abbrev pub combine_of : TermInMemory × Joint × TermInMemory → Term
combine_of x = Combine x.1 (term_of x.0) (term_of x.2)

-- the same as the row, over a list
abbrev pub combined : Term → List (Joint × TermInMemory) → Term
combined x [] = x
combined x (y ∷ more) = combined (Combine y.0 x (term_of y.1)) more

abbrev pub assigning_of : AssigningInMemory → Assigning
assigning_of (a.New x) = p.New (term_of x)
assigning_of (a.Variable place x) = p.Variable place (term_of x)
assigning_of (a.Field name x) = p.Field name (term_of x)
assigning_of (a.Attribute x key y) = p.Attribute (term_of x) key (term_of y)

abbrev pub rank_of : RankInMemory → Rank
rank_of (r.Given priority) = p.Given priority
rank_of (r.Asked x) = p.Asked (term_of x)

abbrev pub on_entities_of : OnEntitiesInMemory → OnEntities
on_entities_of (n.Create relation rank) = p.Create relation (rank_of rank)
on_entities_of (n.Remove child) = p.Remove child
on_entities_of (n.Priority child x) = p.Priority child (term_of x)

abbrev pub call_of : CallInMemory → p.Call
call_of c = record { child = c.child; block = c.block; method = c.method; arguments = map term_of c.arguments.items; keeps = c.keeps }

abbrev pub field_term_of : FieldTerm → Bytes × Term
field_term_of x = (x.name, term_of x.term)

abbrev pub on_activities_of : OnActivitiesInMemory → OnActivities
on_activities_of (y.Attach who x) = p.Attach who (term_of x)
on_activities_of (y.Detach who x) = p.Detach who (term_of x)
on_activities_of (y.Mask event is_masked x) = p.Mask event is_masked (term_of x)
on_activities_of (y.Fire event x service fields) = p.Fire event (term_of x) service (map field_term_of fields.items)
on_activities_of y.Null = p.Null
on_activities_of (y.End x) = p.End (term_of x)
on_activities_of (y.Bind x z) = p.Bind (term_of x) (term_of z)
on_activities_of (y.Unbind x) = p.Unbind (term_of x)
on_activities_of (y.Suspend x) = p.Suspend (term_of x)
on_activities_of (y.Resume x) = p.Resume (term_of x)

abbrev pub recurrence_of : Option Recurrence → Option (Term × Term)
recurrence_of None = None
recurrence_of (Some x) = Some (term_of x.period, term_of x.times)

abbrev pub on_timers_of : OnTimersInMemory → OnTimers
on_timers_of (i.Start x) = p.Start (term_of x.value.activity) (term_of x.value.start) (recurrence_of x.value.repeat) x.value.keep
on_timers_of (i.Cancel x) = p.Cancel (term_of x)

abbrev pub saying_of : SayingInMemory → Saying
saying_of (g.Emit x) = p.Emit (term_of x)
saying_of (g.Usage name x) = p.Usage name (term_of x)
saying_of (g.Return x) = p.Return (term_of x)
saying_of (g.Throw x) = p.Throw (term_of x)
saying_of g.Rollback = p.Rollback

-- a statement in memory, as a value
abbrev mutual
  pub step_of : StepInMemory → Step
  step_of (s.Assign x) = p.Assign (assigning_of x)
  step_of (s.Entity x) = p.Entity (on_entities_of x)
  step_of (s.Activity x) = p.Activity (on_activities_of x)
  step_of (s.Timer x) = p.Timer (on_timers_of x)
  step_of (s.Say x) = p.Say (saying_of x)
  step_of (s.Invoke x) = p.Invoke (call_of x)
  step_of (s.If' x _ body _ other) = p.If (term_of x) (row_of body) (row_of other)
  step_of (s.While' x _ body) = p.While (term_of x) (row_of body)
  step_of (s.For' range _ body) = p.For range (row_of body)

  pub row_of : {n : _} → Row_of-Step n → Steps
  row_of end_of-Step = Nothing
  row_of (more_of-Step x rest) = Then (step_of x) (row_of rest)

-- steps in front of others
abbrev pub before : List StepInMemory → Steps → Steps
before [] rest = rest
before (x ∷ xs) rest = Then (step_of x) (before xs rest)

abbrev pub steps_of : List StepInMemory → Steps
steps_of xs = before xs Nothing

abbrev pub handler_program_of : HandlerSteps → HandlerProgram
handler_program_of h = record { event = h.event; steps = steps_of h.steps }

abbrev pub method_program_of : MethodSteps → MethodProgram
method_program_of m = record { result = m.result; steps = steps_of m.steps }

abbrev pub block_program_of : BlockSteps → BlockProgram
block_program_of b = record {
  masks = b.masks;
  handlers = map handler_program_of b.handlers;
  methods = map method_program_of b.methods;
  exception = option_map steps_of b.exception;
  rolled_back = option_map steps_of b.rolled_back;
  remove = option_map steps_of b.remove;
}

-- the checked scripts beside the codes
abbrev pub kept_program : CodesInMemory → Program
kept_program c = map block_program_of c.programs

-- Codes whose scripts have no fault, with what they are made into.
abbrev pub IsChecked : CodesInMemory → Type 0
IsChecked c = program_of (codes_of c) ≡ Ok (kept_program c)
