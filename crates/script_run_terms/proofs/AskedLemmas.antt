-- What is asked of a text, behind the text itself.
use Rattle.std.proofs.Common.{◌≡◌, ℕ, List, Option, refl}
use Rattle.std.specs.Prelude.{is_some}
use Rattle.slee_value.specs.declared.kind.Kind.{Kind}
use Rattle.slee_value.specs.declared.value.Value.TheVariants as v
use Rattle.slee_effect.specs.declared.value.Val.{Val}
use Rattle.slee_effect.specs.declared.value.Val.TheVariants.{Plain, NewActivity, NewTimer}
use Rattle.slee_effect.specs.declared.reference.Ref.{Ref}
use Rattle.script_types.specs.declared.symbol.Symbol.{Symbol}
use Rattle.script_types.specs.declared.term.Question.TheVariants as q
use Rattle.script_meaning.specs.Running.{Setting, State, Run, then_run, give}
use Rattle.script_meaning.specs.Terms.{ask, looked_up}
use Rattle.script_meaning.specs.Values.{with_text, flag}
use Rattle.script_meaning.specs.Observing as read
use Rattle.script_run_reads.specs.Rows.{profile_value, has_profile}

text_then : {A B : Type 0} (x : Val) (g : List ℕ → Run A) (h : A → Run B) (st : State) → with_text x (λ t st. then_run (g t st) h) st ≡ then_run (with_text x g st) h
text_then (Plain (v.Int n)) g h st = refl
text_then (Plain (v.Text t)) g h st = refl
text_then (Plain (v.Bool b)) g h st = refl
text_then (Plain (v.Activity a)) g h st = refl
text_then (Plain (v.Timer t)) g h st = refl
text_then (NewActivity n) g h st = refl
text_then (NewTimer n) g h st = refl

pub bound_asked : (s : Setting) (x : Val) (st : State) → ask s q.Bound x st ≡ then_run (with_text x (read.named s) st) (λ a. give (flag (is_some a)))
bound_asked s x st = text_then x (read.named s) (λ (a : Option Ref). give (flag (is_some a))) st

pub lookup_asked : (s : Setting) (x : Val) (st : State) → ask s q.Lookup x st ≡ then_run (with_text x (read.named s) st) looked_up
lookup_asked s x st = text_then x (read.named s) looked_up st

pub profile_asked : (s : Setting) (table name : Symbol (List ℕ)) (kind : Kind) (x : Val) (st : State) → ask s (q.Profile table name kind) x st ≡ profile_value s table.name x name.name kind st
profile_asked s table name kind x st = text_then x _ _ st

pub has_profile_asked : (s : Setting) (table : Symbol (List ℕ)) (x : Val) (st : State) → ask s (q.HasProfile table) x st ≡ has_profile s table.name x st
has_profile_asked s table x st = text_then x _ _ st
