-- A chain of operators as it runs: the units of its operators first, then its operands from left to right.
use Rattle.std.specs.Prelude.{ℕ, zero, suc, Bool, true, false, List, [], ◌∷◌, length}
use Rattle.slee_effect.specs.declared.value.Val.{Val}
use Rattle.script_types.specs.declared.term.Joint.{Joint}
use Rattle.script_types.specs.declared.term.Joint.TheVariants as j
use Rattle.script_types.specs.declared.term.Test.{Test}
use Rattle.script_types.specs.declared.term.Atom.{Atom}
use Rattle.script_types.specs.declared.term.Question.{Question}
use Rattle.script_types.specs.declared.term.Question.TheVariants as q
use Rattle.script_types.specs.declared.checked_term.Term.{Term as TermInMemory}
use Rattle.script_types.specs.declared.checked_term.Term.TheVariants as t
use Rattle.script_types.specs.Program.{Term}
use Rattle.script_types.specs.ProgramOf.{term_of}
use Rattle.script_meaning.specs.Running.{Setting, Run, ◌>>=◌, give, tick}
use Rattle.script_meaning.specs.Terms.{eval, combine, single, ask}
use Rattle.script_meaning.specs.Values.{compare, apply}
use Rattle.script_run_machine.specs.Kinds.{is_arithmetic}

-- so many units
abbrev pub spend : ℕ → Run (Unit {0})
spend zero = give tt
spend (suc n) = do
  _ ← spend n
  tick

-- operands behind a value, joined from left to right
abbrev pub linked : Setting → List (Joint × TermInMemory) → Val → Run Val
linked s [] x = give x
linked s (y ∷ more) x = do
  z ← combine y.0 x (eval s (term_of y.1))
  linked s more z

-- a chain: its first operator with its operands, and what stands behind
abbrev pub chained : Setting → Term → List (Joint × TermInMemory) → Run Val
chained s a more = do
  _ ← spend (length more)
  x ← eval s a
  linked s more x

-- a comparison behind its unit
abbrev pub compared : Setting → Test → Term → Term → Run Val
compared s test a b = do
  x ← eval s a
  y ← eval s b
  compare test x y

-- an operator between a value and what a part gives
abbrev pub applied : Joint → Val → Run Val → Run Val
applied joint x m = do
  y ← m
  apply joint x y

-- what is asked of what a part gives
abbrev pub asked : Setting → Question → Term → Run Val
asked s question a = do
  x ← eval s a
  ask s question x

-- how long the text is that a term without parts gives
abbrev pub measured : Setting → Atom → Run Val
measured s atom = do
  x ← single s atom
  ask s q.Len x

-- a term that begins with an operator between numbers, and so gives one
abbrev pub is_calculated : TermInMemory → Bool
is_calculated (t.Chain' _ x joint y _ more) = is_arithmetic joint
is_calculated _ = false

-- a term that begins with `++`, and so gives a text
abbrev pub is_join : Joint → Bool
is_join j.Join = true
is_join _ = false

abbrev pub is_joined : TermInMemory → Bool
is_joined (t.Chain' _ x joint y _ more) = is_join joint
is_joined _ = false
