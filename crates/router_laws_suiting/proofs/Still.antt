-- Parts of runs that make no effect and leave the variables.
use Rattle.std.proofs.Common.{ℕ, Bool, List, [], ◌∷◌, Option, Some, None}
use Rattle.std.specs.Prelude.{negsuc, pos}
use Rattle.slee_effect.specs.declared.reference.Ref.{Ref}
use Rattle.slee_effect.specs.declared.value.Val.{Val}
use Rattle.script_types.specs.Program as p
use Rattle.script_types.specs.Program.{Rank, Term}
use Rattle.script_types.specs.declared.step.Who.{Who}
use Rattle.script_types.specs.declared.step.Who.TheVariants as w
use Rattle.script_meaning.specs.Doing as doing
use Rattle.script_meaning.specs.Observing as read
use Rattle.script_meaning.specs.Running.{Run, Setting, give, tested, ◌>>=◌}
use Rattle.script_meaning.specs.Steps.{arguments_of}
use Rattle.script_meaning.specs.Terms.{eval}
use Rattle.script_meaning.specs.declared.outcome.FailKind.{FailKind}
use Rattle.router_laws_effects.proofs.TermsKeep as k
use Rattle.router_laws_suiting.proofs.VariablesKeep as l

pub record Still {A : Type 0} (run : Run A) : Type 0 where
  pub keeps : k.Keeps run
  pub leaves : l.Leaves run

pub still_then : {A B : Type 0} (run : Run A) (g : A → Run B) → Still run → ((x : A) → Still (g x)) → Still (run >>= g)
still_then run g one two = record { keeps = k.keeps_then run g one.keeps (λ x. (two x).keeps); leaves = l.leaves_then run g one.leaves (λ x. (two x).leaves) }

pub still_give : {A : Type 0} (x : A) → Still (give x)
still_give x = record { keeps = k.keeps_give x; leaves = l.leaves_give x }

pub still_tested : (kind : FailKind) (b : Bool) → Still (tested kind b)
still_tested kind b = record { keeps = k.keeps_tested kind b; leaves = l.leaves_tested kind b }

pub still_eval : (m : Setting) (x : Term) → Still (eval m x)
still_eval m x = record { keeps = k.keeps_eval m x; leaves = l.leaves_eval m x }

pub still_int : (m : Setting) (x : Term) → Still (doing.int_of m x)
still_int m x = still_then (eval m x) _ (still_eval m x) (λ y. record { keeps = k.keeps_int y give (λ n. k.keeps_give n); leaves = l.leaves_int y give (λ n. l.leaves_give n) })

pub still_text : (m : Setting) (x : Term) → Still (doing.text_of m x)
still_text m x = still_then (eval m x) _ (still_eval m x) (λ y. record { keeps = k.keeps_text y give (λ n. k.keeps_give n); leaves = l.leaves_text y give (λ n. l.leaves_give n) })

pub still_activity : (m : Setting) (x : Term) → Still (doing.activity_of m x)
still_activity m x = still_then (eval m x) _ (still_eval m x) (λ y. record { keeps = k.keeps_activity y give (λ n. k.keeps_give n); leaves = l.leaves_activity y give (λ n. l.leaves_give n) })

pub still_timer : (m : Setting) (x : Term) → Still (doing.timer_of m x)
still_timer m x = still_then (eval m x) _ (still_eval m x) (λ y. record { keeps = k.keeps_timer_of y give (λ n. k.keeps_give n); leaves = l.leaves_timer_of y give (λ n. l.leaves_give n) })

pub still_used : (m : Setting) (r : Ref) → Still (read.used m r)
still_used m r = record { keeps = k.keeps_used m r; leaves = l.leaves_used m r }

pub still_active : (m : Setting) (r : Ref) → Still (read.used_active m r)
still_active m r = record { keeps = k.keeps_used_active m r; leaves = l.leaves_used_active m r }

pub still_attached : (m : Setting) (r : Ref) → Still (read.attached m r)
still_attached m r = record { keeps = k.keeps_attached m r; leaves = l.leaves_attached m r }

pub still_named : (m : Setting) (name : List ℕ) → Still (read.named m name)
still_named m name = record { keeps = k.keeps_named m name; leaves = l.leaves_named m name }

pub still_now : (m : Setting) → Still (read.now m)
still_now m = record { keeps = k.keeps_now m; leaves = l.leaves_now m }

pub still_child : (m : Setting) (i : ℕ) → Still (read.child m i)
still_child m i = record { keeps = k.keeps_child m i; leaves = l.leaves_child m i }

pub still_children : (m : Setting) (relation : List ℕ) → Still (read.children m relation)
still_children m relation = record { keeps = k.keeps_children m relation; leaves = l.leaves_children m relation }

pub still_activities : (m : Setting) → Still (read.activities m)
still_activities m = record { keeps = k.keeps_activities m; leaves = l.leaves_activities m }

pub still_who : (m : Setting) (x : Who) → Still (doing.who m x)
still_who m w.Own = still_give m.me
still_who m (w.Child i) = still_child m i

pub still_fields : (m : Setting) (fields : List (List ℕ × Term)) (done : List (List ℕ × Val)) → Still (doing.fields_of m fields done)
still_fields m [] done = still_give done
still_fields m (y ∷ more) done = still_then (eval m y.1) _ (still_eval m y.1) (λ x. still_fields m more (doing.put_field (y.0, x) done))

pub still_asked : (m : Setting) (x : Term) → Still (doing.asked_rank m x)
still_asked m x = still_then (doing.int_of m x) _ (still_int m x) (λ n. still_then (tested _ (doing.is_within (negsuc 127) (pos 127) n)) (λ _. give n) (still_tested _ (doing.is_within (negsuc 127) (pos 127) n)) (λ _. still_give n))

pub still_rank : (m : Setting) (x : Rank) → Still (doing.rank_of m x)
still_rank m (p.Given n) = still_give n
still_rank m (p.Asked x) = still_asked m x

pub still_repeat : (m : Setting) (o : Option (Term × Term)) → Still (doing.repeat_of m o)
still_repeat m None = still_give _
still_repeat m (Some r) = still_then (doing.int_of m r.0) _ (still_int m r.0) (λ n. still_then (doing.int_of m r.1) _ (still_int m r.1) (λ o. still_give (n, o)))

pub still_arguments : (m : Setting) (xs : List Term) → Still (arguments_of m xs)
still_arguments m [] = still_give _
still_arguments m (x ∷ xs) = still_then (eval m x) _ (still_eval m x) (λ y. still_then (arguments_of m xs) (λ ys. give (y ∷ ys)) (still_arguments m xs) (λ ys. still_give (y ∷ ys)))
