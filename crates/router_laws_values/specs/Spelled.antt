-- When values have a spelling: numbers have 64 bits with a sign, and texts are UTF-8 whose length is a number of 32 bits. And when all that a run is told of has one.
use Rattle.std.specs.Prelude.{◌≡◌, ◌<◌, ◌^◌, ℕ, true, List, length, Option, Some, None}
use Rattle.std.specs.List.{AllByRecursion}
use Rattle.slee_value.specs.declared.value.Value.{Value}
use Rattle.slee_value.specs.declared.value.Value.TheVariants as v
use Rattle.slee_effect.specs.declared.effect.Effect.{Effect}
use Rattle.slee_effect.specs.declared.effect.Effect.TheVariants as ef
use Rattle.slee_effect.specs.declared.value.Val.{Val}
use Rattle.slee_effect.specs.declared.value.Val.TheVariants.{Plain}
use Rattle.script_types.specs.Program as p
use Rattle.script_types.specs.Program.{Assigning, BlockProgram, MethodProgram, OnActivities, OnEntities, OnTimers, Program, Rank, Saying, Step, Steps, Term, Single, Ask, Compare, Combine}
use Rattle.script_types.specs.declared.term.Atom.{Atom}
use Rattle.script_types.specs.declared.term.Atom.TheVariants as a
use Rattle.script_meaning.specs.Running.{Setting, Variable, Holds, Child}
use Rattle.script_meaning.specs.declared.key.Key.{Key}
use Rattle.script_meaning.specs.declared.seen.Seen.{Seen}
use Rattle.script_meaning.specs.declared.seen.Seen.TheVariants as s
use Rattle.router_state.specs.Fits.{is_i64, is_text}

-- a value has a spelling; what it refers to is another matter
abbrev pub IsSpelled : Val → Type 0
IsSpelled (Plain (v.Int n)) = is_i64 n ≡ true
IsSpelled (Plain (v.Text text)) = is_text text ≡ true
IsSpelled _ = Unit {0}

-- the values of an answer do, and it tells of fewer than 2^62 things
abbrev pub AnswerSpelled : Option Seen → Type 0
AnswerSpelled (Some (s.Held (Some x))) = IsSpelled (Plain x)
AnswerSpelled (Some (s.Number n)) = is_i64 n ≡ true
AnswerSpelled (Some (s.Ids ids)) = length ids < 2 ^ 62
AnswerSpelled (Some (s.Row (Some values))) = AllByRecursion (λ (f : List ℕ × Value). IsSpelled (Plain f.1)) values
AnswerSpelled _ = Unit {0}

-- a variable's value does
abbrev pub VariableSpelled : Variable → Type 0
VariableSpelled (Holds x) = IsSpelled x
VariableSpelled (Child e) = Unit {0}

-- the values, the priorities and the texts of an effect do
abbrev pub EffectSpelled : Effect → Type 0
EffectSpelled (ef.SetField entity name value) = IsSpelled value
EffectSpelled (ef.SetAttr activity key value) = IsSpelled value
EffectSpelled (ef.Create parent relation priority) = is_i64 priority ≡ true
EffectSpelled (ef.SetPriority entity priority) = is_i64 priority ≡ true
EffectSpelled (ef.Fire activity event service fields) = AllByRecursion (λ (f : List ℕ × Val). IsSpelled f.1) fields
EffectSpelled (ef.Bind name activity) = is_text name ≡ true
EffectSpelled (ef.Emit entity text) = is_text text ≡ true
EffectSpelled _ = Unit {0}

-- the constant of an atom does
abbrev pub AtomSpelled : Atom → Type 0
AtomSpelled (a.Constant x) = IsSpelled (Plain x)
AtomSpelled _ = Unit {0}

-- the constants of a term do
abbrev pub TermSpelled : Term → Type 0
TermSpelled (Single x) = AtomSpelled x
TermSpelled (Ask question x) = TermSpelled x
TermSpelled (Compare test x y) = TermSpelled x × TermSpelled y
TermSpelled (Combine operator x y) = TermSpelled x × TermSpelled y

-- What stays the same while a script runs has spellings: its answers, the fields of its event, and a failure's text.
pub record SettingSpelled (m : Setting) : Type 0 where
  pub answers : (key : Key) → AnswerSpelled (m.answers key)
  pub fields : AllByRecursion (λ (f : List ℕ × Value). IsSpelled (Plain f.1)) m.arguments.fields
  pub failure : is_text m.arguments.failure ≡ true

-- the constants of steps do, and the priorities that relations give
abbrev pub RankSpelled : Rank → Type 0
RankSpelled (p.Given n) = is_i64 n ≡ true
RankSpelled (p.Asked x) = TermSpelled x

abbrev pub AssigningSpelled : Assigning → Type 0
AssigningSpelled (p.New x) = TermSpelled x
AssigningSpelled (p.Variable i x) = TermSpelled x
AssigningSpelled (p.Field name x) = TermSpelled x
AssigningSpelled (p.Attribute x key y) = TermSpelled x × TermSpelled y

abbrev pub EntitiesSpelled : OnEntities → Type 0
EntitiesSpelled (p.Create relation rank) = RankSpelled rank
EntitiesSpelled (p.Remove i) = Unit {0}
EntitiesSpelled (p.Priority i x) = TermSpelled x

abbrev pub ActivitiesSpelled : OnActivities → Type 0
ActivitiesSpelled (p.Attach who x) = TermSpelled x
ActivitiesSpelled (p.Detach who x) = TermSpelled x
ActivitiesSpelled (p.Mask event on x) = TermSpelled x
ActivitiesSpelled (p.Fire event x service fields) = TermSpelled x × AllByRecursion (λ (y : List ℕ × Term). TermSpelled y.1) fields
ActivitiesSpelled p.Null = Unit {0}
ActivitiesSpelled (p.End x) = TermSpelled x
ActivitiesSpelled (p.Bind x y) = TermSpelled x × TermSpelled y
ActivitiesSpelled (p.Unbind x) = TermSpelled x
ActivitiesSpelled (p.Suspend x) = TermSpelled x
ActivitiesSpelled (p.Resume x) = TermSpelled x

abbrev pub RepeatSpelled : Option (Term × Term) → Type 0
RepeatSpelled None = Unit {0}
RepeatSpelled (Some r) = TermSpelled r.0 × TermSpelled r.1

abbrev pub TimersSpelled : OnTimers → Type 0
TimersSpelled (p.Start x start repeat keep) = TermSpelled x × TermSpelled start × RepeatSpelled repeat
TimersSpelled (p.Cancel x) = TermSpelled x

abbrev pub SayingSpelled : Saying → Type 0
SayingSpelled (p.Emit x) = TermSpelled x
SayingSpelled (p.Usage name x) = TermSpelled x
SayingSpelled (p.Return x) = TermSpelled x
SayingSpelled (p.Throw x) = TermSpelled x
SayingSpelled p.Rollback = Unit {0}

abbrev mutual
  pub StepSpelled : Step → Type 0
  StepSpelled (p.Assign x) = AssigningSpelled x
  StepSpelled (p.Entity x) = EntitiesSpelled x
  StepSpelled (p.Activity x) = ActivitiesSpelled x
  StepSpelled (p.Timer x) = TimersSpelled x
  StepSpelled (p.Say x) = SayingSpelled x
  StepSpelled (p.Invoke c) = AllByRecursion TermSpelled c.arguments
  StepSpelled (p.If x body other) = TermSpelled x × StepsSpelled body × StepsSpelled other
  StepSpelled (p.While x body) = TermSpelled x × StepsSpelled body
  StepSpelled (p.For over body) = StepsSpelled body

  pub StepsSpelled : Steps → Type 0
  StepsSpelled p.Nothing = Unit {0}
  StepsSpelled (p.Then x rest) = StepSpelled x × StepsSpelled rest

-- the constants of all methods of a program do
abbrev pub MethodsSpelled : Program → Type 0
MethodsSpelled program = AllByRecursion (λ (b : BlockProgram). AllByRecursion (λ (method : MethodProgram). StepsSpelled method.steps) b.methods) program
