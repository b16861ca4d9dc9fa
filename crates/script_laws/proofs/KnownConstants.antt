-- What the constants of terms, steps and programs refer to is known.
use Rattle.std.proofs.Common.{Option, Some, None}
use Rattle.std.specs.List.{AllByRecursion}
use Rattle.slee_effect.specs.declared.value.Val.TheVariants.{Plain}
use Rattle.script_types.specs.declared.term.Atom.{Atom}
use Rattle.script_types.specs.declared.term.Atom.TheVariants as a
use Rattle.script_types.specs.Program as p
use Rattle.script_types.specs.Program.{Term, Single, Ask, Compare, Combine, Assigning, Rank, OnEntities, OnActivities, OnTimers, Saying, Step, Steps, HandlerProgram, MethodProgram, BlockProgram, Program}
use Rattle.script_laws.specs.References.{Reference, in_value}

module _ (known : Reference → Type 0) where
  abbrev pub OfAtom : Atom → Type 0
  OfAtom (a.Constant x) = AllByRecursion known (in_value (Plain x))
  OfAtom _ = Unit {0}

  abbrev pub OfTerm : Term → Type 0
  OfTerm (Single x) = OfAtom x
  OfTerm (Ask question x) = OfTerm x
  OfTerm (Compare test x y) = OfTerm x × OfTerm y
  OfTerm (Combine operator x y) = OfTerm x × OfTerm y

  abbrev pub OfAssigning : Assigning → Type 0
  OfAssigning (p.New x) = OfTerm x
  OfAssigning (p.Variable i x) = OfTerm x
  OfAssigning (p.Field name x) = OfTerm x
  OfAssigning (p.Attribute x key y) = OfTerm x × OfTerm y

  abbrev pub OfRank : Rank → Type 0
  OfRank (p.Given n) = Unit {0}
  OfRank (p.Asked x) = OfTerm x

  abbrev pub OfEntities : OnEntities → Type 0
  OfEntities (p.Create relation rank) = OfRank rank
  OfEntities (p.Remove i) = Unit {0}
  OfEntities (p.Priority i x) = OfTerm x

  abbrev pub OfActivities : OnActivities → Type 0
  OfActivities (p.Attach who x) = OfTerm x
  OfActivities (p.Detach who x) = OfTerm x
  OfActivities (p.Mask event on x) = OfTerm x
  OfActivities (p.Fire event x service fields) = OfTerm x × AllByRecursion (λ y. OfTerm y.1) fields
  OfActivities p.Null = Unit {0}
  OfActivities (p.End x) = OfTerm x
  OfActivities (p.Bind x y) = OfTerm x × OfTerm y
  OfActivities (p.Unbind x) = OfTerm x
  OfActivities (p.Suspend x) = OfTerm x
  OfActivities (p.Resume x) = OfTerm x

  abbrev pub OfRepeat : Option (Term × Term) → Type 0
  OfRepeat None = Unit {0}
  OfRepeat (Some r) = OfTerm r.0 × OfTerm r.1

  abbrev pub OfTimers : OnTimers → Type 0
  OfTimers (p.Start x start repeat keep) = OfTerm x × OfTerm start × OfRepeat repeat
  OfTimers (p.Cancel x) = OfTerm x

  abbrev pub OfSaying : Saying → Type 0
  OfSaying (p.Emit x) = OfTerm x
  OfSaying (p.Usage name x) = OfTerm x
  OfSaying (p.Return x) = OfTerm x
  OfSaying (p.Throw x) = OfTerm x
  OfSaying p.Rollback = Unit {0}

  abbrev mutual
    pub OfStep : Step → Type 0
    OfStep (p.Assign x) = OfAssigning x
    OfStep (p.Entity x) = OfEntities x
    OfStep (p.Activity x) = OfActivities x
    OfStep (p.Timer x) = OfTimers x
    OfStep (p.Say x) = OfSaying x
    OfStep (p.Invoke c) = AllByRecursion OfTerm c.arguments
    OfStep (p.If x body other) = OfTerm x × OfSteps body × OfSteps other
    OfStep (p.While x body) = OfTerm x × OfSteps body
    OfStep (p.For over body) = OfSteps body

    pub OfSteps : Steps → Type 0
    OfSteps p.Nothing = Unit {0}
    OfSteps (p.Then x rest) = OfStep x × OfSteps rest

  abbrev pub OfScript : Option Steps → Type 0
  OfScript None = Unit {0}
  OfScript (Some steps) = OfSteps steps

  abbrev pub OfBlock : BlockProgram → Type 0
  OfBlock block = AllByRecursion (λ (h : HandlerProgram). OfSteps h.steps) block.handlers × AllByRecursion (λ (method : MethodProgram). OfSteps method.steps) block.methods × OfScript block.exception × OfScript block.rolled_back × OfScript block.remove

  abbrev pub OfProgram : Program → Type 0
  OfProgram program = AllByRecursion OfBlock program
