-- What plain steps do: parts from left to right, then range tests, then keys, then the effect.
use Rattle.std.specs.Prelude.{ℕ, ℤ, pos, negsuc, ◌+ℤ◌, int_le, unsigned_abs, Bool, true, not, ◌&&◌, List, [], ◌∷◌, Option, Some, None, is_none, bytes_eq, if◌then◌else◌}
use Rattle.slee_value.specs.Order.{is_below}
use Rattle.slee_effect.specs.declared.reference.Ref.{Ref}
use Rattle.slee_effect.specs.declared.reference.Ref.TheVariants.{Known, Fresh}
use Rattle.slee_effect.specs.declared.value.Val.{Val}
use Rattle.slee_effect.specs.declared.value.Val.TheVariants.{NewActivity, NewTimer}
use Rattle.slee_effect.specs.declared.effect.Effect.TheVariants as ef
use Rattle.script_meaning.specs.declared.outcome.FailKind.TheVariants as f
use Rattle.script_types.specs.declared.step.Who.{Who}
use Rattle.script_types.specs.declared.step.Who.TheVariants as w
use Rattle.script_types.specs.Program as p
use Rattle.script_types.specs.Program.{Term, Assigning, Rank, OnEntities, OnActivities, OnTimers}
use Rattle.script_meaning.specs.Overlay.{count_of, entities_by, activities_by, timers_by}
use Rattle.script_meaning.specs.Running.{Setting, Holds, Child, Run, ◌>>=◌, give, tested, effect, effects_of, declare, assign}
use Rattle.script_meaning.specs.Values.{with_int, with_text, with_activity, with_timer}
use Rattle.script_meaning.specs.Observing as read
use Rattle.script_meaning.specs.Terms.{eval}

-- terms of a known kind
abbrev pub int_of : Setting → Term → Run ℤ
int_of s a = do
  x ← eval s a
  with_int x give

abbrev pub text_of : Setting → Term → Run (List ℕ)
text_of s a = do
  x ← eval s a
  with_text x give

abbrev pub activity_of : Setting → Term → Run Ref
activity_of s a = do
  x ← eval s a
  with_activity x give

abbrev pub timer_of : Setting → Term → Run Ref
timer_of s a = do
  x ← eval s a
  with_timer x give

-- whether a number lies between two others
abbrev pub is_within : ℤ → ℤ → ℤ → Bool
is_within low high n = int_le low n && int_le n high

-- the latest moment
abbrev pub last_moment : ℤ
last_moment = pos 4_000_000_000_000_000

-- let, =, self. =, attr( ) =
abbrev pub assigns : Setting → Assigning → Run (Unit {0})
assigns s (p.New a) = do
  x ← eval s a
  declare (Holds x)
assigns s (p.Variable i a) = do
  x ← eval s a
  assign i x
assigns s (p.Field field a) = do
  x ← eval s a
  effect (ef.SetField s.me field.name x)
assigns s (p.Attribute a key b) = do
  r ← activity_of s a
  x ← eval s b
  _ ← read.used s r
  effect (ef.SetAttr r key.name x)

-- a priority that the script asks for lies in 8 bits
abbrev pub asked_rank : Setting → Term → Run ℤ
asked_rank s a = do
  n ← int_of s a
  _ ← tested f.Range (is_within (negsuc 127) (pos 127) n)
  give n

abbrev pub rank_of : Setting → Rank → Run ℤ
rank_of s (p.Given n) = give n
rank_of s (p.Asked a) = asked_rank s a

-- create, remove, priority
abbrev pub on_entities : Setting → OnEntities → Run (Unit {0})
on_entities s (p.Create relation rank) = do
  n ← rank_of s rank
  effects ← effects_of s
  _ ← effect (ef.Create s.me relation.name n)
  declare (Child (Fresh (count_of entities_by effects)))
on_entities s (p.Remove i) = do
  e ← read.child s i
  effect (ef.Remove e)
on_entities s (p.Priority i a) = do
  e ← read.child s i
  n ← asked_rank s a
  effect (ef.SetPriority e n)

abbrev pub who : Setting → Who → Run Ref
who s w.Own = give s.me
who s (w.Child i) = read.child s i

-- fields in byte order of their names
abbrev pub put_field : List ℕ × Val → List (List ℕ × Val) → List (List ℕ × Val)
put_field x [] = x ∷ []
put_field x (y ∷ ys) = if is_below x.0 y.0 then x ∷ y ∷ ys else y ∷ put_field x ys

-- the fields of a `fire`, evaluated in the order of the text
abbrev pub fields_of : Setting → List (List ℕ × Term) → List (List ℕ × Val) → Run (List (List ℕ × Val))
fields_of s [] done = give done
fields_of s (y ∷ more) done = do
  x ← eval s y.1
  fields_of s more (put_field (y.0, x) done)

-- attach, detach, mask, unmask, fire, null, end, bind, unbind, suspend, resume
abbrev pub on_activities : Setting → OnActivities → Run (Unit {0})
on_activities s (p.Attach someone a) = do
  e ← who s someone
  r ← activity_of s a
  _ ← read.used_active s r
  effect (ef.Attach e r)
on_activities s (p.Detach someone a) = do
  e ← who s someone
  r ← activity_of s a
  _ ← read.used s r
  effect (ef.Detach e r)
on_activities s (p.Mask event on a) = do
  r ← activity_of s a
  _ ← read.used s r
  b ← read.attached s r
  _ ← tested f.Detached b
  effect (ef.SetMask s.me r event.name on)
on_activities s (p.Fire event a service fields) = do
  r ← activity_of s a
  xs ← fields_of s fields []
  _ ← read.used_active s r
  effect (ef.Fire r event service xs)
on_activities s p.Null = do
  effects ← effects_of s
  _ ← effect ef.NewNull
  declare (Holds (NewActivity (count_of activities_by effects)))
on_activities s (p.End a) = do
  r ← activity_of s a
  seen ← read.used_active s r
  _ ← tested f.NotNull seen.null
  effect (ef.EndNull r)
on_activities s (p.Bind a b) = do
  name ← text_of s a
  r ← activity_of s b
  _ ← tested f.Range (not (bytes_eq name []))
  _ ← read.used_active s r
  bound ← read.named s name
  _ ← tested f.Bound (is_none bound)
  effect (ef.Bind name r)
on_activities s (p.Unbind a) = do
  name ← text_of s a
  bound ← read.named s name
  _ ← tested f.Unbound (not (is_none bound))
  effect (ef.Unbind name)
on_activities s (p.Suspend a) = do
  n ← int_of s a
  _ ← tested f.Range (is_within (pos 1) last_moment n)
  time ← read.now s
  _ ← tested f.Range (int_le (time +ℤ n) last_moment)
  effect (ef.Suspend (Known s.arguments.activity.0) (unsigned_abs (time +ℤ n)))
on_activities s (p.Resume a) = do
  r ← activity_of s a
  _ ← read.used s r
  effect (ef.Resume r)

-- period and times; a timer without them occurs once
abbrev pub repeat_of : Setting → Option (Term × Term) → Run (ℤ × ℤ)
repeat_of s None = give (pos 0, pos 1)
repeat_of s (Some r) = do
  m ← int_of s r.0
  n ← int_of s r.1
  give (m, n)

-- whether period and times lie in their ranges
abbrev pub repeats_well : Option (Term × Term) → ℤ × ℤ → Bool
repeats_well None r = true
repeats_well (Some terms) r = is_within (pos 1) last_moment r.0 && is_within (pos 0) last_moment r.1

-- timer, cancel
abbrev pub on_timers : Setting → OnTimers → Run (Unit {0})
on_timers s (p.Start a start repeat keep) = do
  r ← activity_of s a
  n ← int_of s start
  times ← repeat_of s repeat
  _ ← tested f.Range (is_within (pos 0) last_moment n && repeats_well repeat times)
  _ ← read.used_active s r
  effects ← effects_of s
  _ ← effect (ef.SetTimer r (unsigned_abs n) (unsigned_abs times.0) (unsigned_abs times.1) keep)
  declare (Holds (NewTimer (count_of timers_by effects)))
on_timers s (p.Cancel a) = do
  t ← timer_of s a
  effect (ef.CancelTimer t)
