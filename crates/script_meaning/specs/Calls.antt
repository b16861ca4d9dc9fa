-- Calls of methods, of which eight may be nested.
use Rattle.std.specs.Prelude.{ℕ, zero, suc, Bool, true, false, List, Option, Some, None, map, slice_get}
use Rattle.slee_value.specs.declared.kind.Kind.{Kind}
use Rattle.slee_effect.specs.declared.reference.Ref.{Ref}
use Rattle.slee_effect.specs.declared.value.Val.{Val}
use Rattle.script_meaning.specs.declared.outcome.FailKind.TheVariants as f
use Rattle.script_types.specs.Program.{Program, BlockProgram}
use Rattle.script_meaning.specs.Answers.{initial}
use Rattle.script_meaning.specs.Running.{Setting, Holds, Variable, Gave, Run, then_run, ◌>>=◌, give, stay, break, found, declare}
use Rattle.script_meaning.specs.Steps.{Flow, Next, Returned, Calling, act_all}

-- what a part does with variables of its own
abbrev pub apart : {A : Type 0} → List Variable → Run A → Run A
apart variables m st = then_run (m (record st { variables = variables })) (λ x new. Gave x (record new { variables = st.variables }))

-- the value of a method, which without a `return` is the initial one of its kind
abbrev pub result_of : Flow → Option Kind → Run Val
result_of (Returned x) kind = give x
result_of Next (Some kind) = give (initial kind)
result_of Next None = stay

-- the result becomes a variable where it is kept
abbrev pub keep_result : Bool → Flow → Option Kind → Run (Unit {0})
keep_result false flow kind = give tt
keep_result true flow kind = do
  x ← result_of flow kind
  declare (Holds x)

-- the same setting for a child of a block
abbrev pub setting_in : Setting → BlockProgram → Ref → Setting
setting_in s block e = record s { me = e; masks = map (λ x. x.name) block.masks }

-- a call where so many more may be nested
unfoldable pub call_at : Setting → Program → ℕ → Calling
call_at s program zero b m e xs keeps = break f.Depth
call_at s program (suc more) b m e xs keeps = do
  block ← found (slice_get program b)
  method ← found (slice_get block.methods m)
  flow ← apart (map Holds xs) (act_all (setting_in s block e) (call_at s program more) method.steps)
  keep_result keeps flow method.result
