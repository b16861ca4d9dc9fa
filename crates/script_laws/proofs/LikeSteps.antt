-- Steps over two functions from keys to answers.
use Rattle.std.proofs.Common.{◌+◌, true, false, Bool, ℕ, zero, suc, List, [], ◌∷◌, ◌++◌, length, take, Option, Some, None, refl}
use Rattle.std.specs.Prelude.{ℤ, pos, ◌&&◌, unsigned_abs, nat_lt, nat_le, cond, slice_set}
use Rattle.slee_effect.specs.declared.reference.Ref.{Ref}
use Rattle.slee_effect.specs.declared.effect.Effect.{Effect}
use Rattle.slee_effect.specs.declared.value.Val.{Val}
use Rattle.slee_value.specs.declared.keep.Keep.{Keep}
use Rattle.slee_effect.specs.declared.effect.Effect.TheVariants as ef
use Rattle.slee_effect.specs.declared.value.Val.TheVariants.{NewActivity, NewTimer}
use Rattle.slee_effect.specs.declared.reference.Ref.TheVariants.{Fresh}
use Rattle.script_meaning.specs.declared.seen.AcSeen.{AcSeen}
use Rattle.script_meaning.specs.Overlay.{count_of, entities_by, activities_by, timers_by}
use Rattle.script_meaning.specs.Observing as read
use Rattle.script_meaning.specs.Running as running
use Rattle.script_types.specs.declared.step.Who.{Who}
use Rattle.script_types.specs.declared.step.Who.TheVariants as w
use Rattle.script_types.specs.declared.step.Range.{Range}
use Rattle.script_types.specs.declared.step.Range.TheVariants as range
use Rattle.script_types.specs.Program as p
use Rattle.script_types.specs.Program.{Term, Assigning, Rank, OnEntities, OnActivities, OnTimers, Saying, Call, Step, Steps, Program}
use Rattle.script_meaning.specs.declared.outcome.FailKind.TheVariants as f
use Rattle.script_meaning.specs.Answers.{Answers}
use Rattle.script_meaning.specs.Running.{Setting, Variable, Holds, Child, State, Ending, Gave, Broke, Needs, Stays, Run, then_run, give, break, ticked, effect, effect_limit, effect_bytes_limit, bytes_of, declare, assign, scoped, found}
use Rattle.script_meaning.specs.Terms.{eval}
use Rattle.script_meaning.specs.Doing as doing
use Rattle.script_meaning.specs.Steps.{Flow, Next, Returned, Calling, next, followed, ask_rollback, throw, says, either, choose, turns, walk, items, arguments_of, does_call, act, act_all}
use Rattle.script_laws.proofs.Likeness.{longer_same, Like, like_then, like_give, like_break, like_ending, like_tick, like_tested, like_int, like_text, like_flag, like_activity, like_timer}
use Rattle.script_laws.proofs.LikeTerms.{over, now_like, named_like, attached_like, children_like, activities_like, used_like, used_active_like, child_like, eval_like}

effect_like : (m : Setting) (other : Answers) (e : Effect) (st : State) → Like m other st (effect e st) (effect e st)
unfolding effect
effect_like m other e st =
    let new : Ending (Unit {0}) = Gave tt (record st { effects = st.effects ++ e ∷ [] }) in
    let full : Ending (Unit {0}) = break f.TooMuch st in
    like_ending {A = Unit {0}} m other st (nat_lt (length st.effects) effect_limit) (cond (nat_le (bytes_of (st.effects ++ e ∷ [])) effect_bytes_limit) new full) full (cond (nat_le (bytes_of (st.effects ++ e ∷ [])) effect_bytes_limit) new full) full
    (like_ending {A = Unit {0}} m other st (nat_le (bytes_of (st.effects ++ e ∷ [])) effect_bytes_limit) new full new full (longer_same st.keys, (longer_same st.keys, λ agree. refl)) (longer_same st.keys, (longer_same st.keys, λ agree. refl))) (longer_same st.keys, (longer_same st.keys, λ agree. refl))

declare_like : (m : Setting) (other : Answers) (x : Variable) (st : State) → Like m other st (declare x st) (declare x st)
declare_like m other x st = (longer_same st.keys, (longer_same st.keys, λ agree. refl))

assign_like : (m : Setting) (other : Answers) (i : ℕ) (x : Val) (st : State) → Like m other st (assign i x st) (assign i x st)
assign_like m other i x st =
    let new : Ending (Unit {0}) = Gave tt (record st { variables = slice_set st.variables i (Holds x) }) in
    let none : Ending (Unit {0}) = Stays in
    like_ending {A = Unit {0}} m other st (nat_lt i (length st.variables)) new none new none (longer_same st.keys, (longer_same st.keys, λ agree. refl)) (tt, tt)

int_of_like : (m : Setting) (other : Answers) (a : Term) (st : State) → Like m other st (doing.int_of m a st) (doing.int_of (over m other) a st)
int_of_like m other a st = search (like_then, eval_like, like_int, like_give)

text_of_like : (m : Setting) (other : Answers) (a : Term) (st : State) → Like m other st (doing.text_of m a st) (doing.text_of (over m other) a st)
text_of_like m other a st = search (like_then, eval_like, like_text, like_give)

activity_of_like : (m : Setting) (other : Answers) (a : Term) (st : State) → Like m other st (doing.activity_of m a st) (doing.activity_of (over m other) a st)
activity_of_like m other a st = search (like_then, eval_like, like_activity, like_give)

timer_of_like : (m : Setting) (other : Answers) (a : Term) (st : State) → Like m other st (doing.timer_of m a st) (doing.timer_of (over m other) a st)
timer_of_like m other a st = search (like_then, eval_like, like_timer, like_give)

assigns_like : (m : Setting) (other : Answers) (x : Assigning) (st : State) → Like m other st (doing.assigns m x st) (doing.assigns (over m other) x st)
assigns_like m other (p.New a) st = search (like_then, eval_like, declare_like)
assigns_like m other (p.Variable i a) st = search (like_then, eval_like, assign_like)
assigns_like m other (p.Field field a) st = search (like_then, eval_like, effect_like)
assigns_like m other (p.Attribute a key b) st = search (like_then, activity_of_like, eval_like, used_like, effect_like) depth 7

asked_rank_like : (m : Setting) (other : Answers) (a : Term) (st : State) → Like m other st (doing.asked_rank m a st) (doing.asked_rank (over m other) a st)
asked_rank_like m other a st = search (like_then, int_of_like, like_tested, like_give)

rank_like : (m : Setting) (other : Answers) (r : Rank) (st : State) → Like m other st (doing.rank_of m r st) (doing.rank_of (over m other) r st)
rank_like m other (p.Given n) st = like_give m other st n
rank_like m other (p.Asked a) st = asked_rank_like m other a st

on_entities_like : (m : Setting) (other : Answers) (x : OnEntities) (st : State) → Like m other st (doing.on_entities m x st) (doing.on_entities (over m other) x st)
on_entities_like m other (p.Create relation rank) st = like_then m other st (doing.rank_of m rank st) (doing.rank_of (over m other) rank st) _ _ (rank_like m other rank st) (λ n mid.
    let e : Effect = ef.Create m.me relation.name n in
    let child : Unit {0} → Run (Unit {0}) = λ _. declare (Child (Fresh (count_of entities_by (m.effects ++ mid.effects)))) in
    like_then m other mid (effect e mid) (effect e mid) child child (effect_like m other e mid) (λ _ s. declare_like m other _ s))
on_entities_like m other (p.Remove i) st = search (like_then, child_like, effect_like)
on_entities_like m other (p.Priority i a) st = search (like_then, child_like, asked_rank_like, effect_like)

who_like : (m : Setting) (other : Answers) (x : Who) (st : State) → Like m other st (doing.who m x st) (doing.who (over m other) x st)
who_like m other w.Own st = like_give m other st m.me
who_like m other (w.Child i) st = child_like m other i st

fields_like : (m : Setting) (other : Answers) (terms : List (List ℕ × Term)) (done : List (List ℕ × Val)) (st : State) → Like m other st (doing.fields_of m terms done st) (doing.fields_of (over m other) terms done st)
fields_like m other [] done st = like_give m other st done
fields_like m other (y ∷ more) done st = like_then m other st (eval m y.1 st) (eval (over m other) y.1 st) _ _ (eval_like m other y.1 st) (λ x mid. fields_like m other more (doing.put_field (y.0, x) done) mid)

on_activities_like : (m : Setting) (other : Answers) (x : OnActivities) (st : State) → Like m other st (doing.on_activities m x st) (doing.on_activities (over m other) x st)
on_activities_like m other (p.Attach someone a) st = search (like_then, who_like, activity_of_like, used_active_like, effect_like) depth 7
on_activities_like m other (p.Detach someone a) st = search (like_then, who_like, activity_of_like, used_like, effect_like) depth 7
on_activities_like m other (p.Mask event on a) st = search (like_then, activity_of_like, used_like, attached_like, like_tested, effect_like) depth 8
on_activities_like m other (p.Fire event a service fields) st = search (like_then, activity_of_like, fields_like, used_active_like, effect_like) depth 7
on_activities_like m other p.Null st =
    let activity : Unit {0} → Run (Unit {0}) = λ _. declare (Holds (NewActivity (count_of activities_by (m.effects ++ st.effects)))) in
    like_then m other st (effect ef.NewNull st) (effect ef.NewNull st) activity activity (effect_like m other ef.NewNull st) (λ _ s. declare_like m other _ s)
on_activities_like m other (p.End a) st = search (like_then, activity_of_like, used_active_like, like_tested, effect_like) depth 7
on_activities_like m other (p.Bind a b) st = search (like_then, text_of_like, activity_of_like, like_tested, used_active_like, named_like, effect_like) depth 10
on_activities_like m other (p.Unbind a) st = search (like_then, text_of_like, named_like, like_tested, effect_like) depth 7
on_activities_like m other (p.Suspend a) st = search (like_then, int_of_like, like_tested, now_like, effect_like) depth 8
on_activities_like m other (p.Resume a) st = search (like_then, activity_of_like, used_like, effect_like)

repeat_like : (m : Setting) (other : Answers) (r : Option (Term × Term)) (st : State) → Like m other st (doing.repeat_of m r st) (doing.repeat_of (over m other) r st)
repeat_like m other None st = like_give m other st _
repeat_like m other (Some r) st = search (like_then, int_of_like, like_give)

start_like : (m : Setting) (other : Answers) (r : Ref) (n : ℤ) (times : ℤ × ℤ) (again : Option (Term × Term)) (keep : Keep) (st : State) →
    (let set : Run (Unit {0}) = λ st. then_run (read.used_active m r st) (λ _ st. then_run (effect (ef.SetTimer r (unsigned_abs n) (unsigned_abs times.0) (unsigned_abs times.1) keep) st) (λ _. declare (Holds (NewTimer (count_of timers_by (m.effects ++ st.effects)))))) in
    let too : Run (Unit {0}) = λ st. then_run (read.used_active (over m other) r st) (λ _ st. then_run (effect (ef.SetTimer r (unsigned_abs n) (unsigned_abs times.0) (unsigned_abs times.1) keep) st) (λ _. declare (Holds (NewTimer (count_of timers_by (m.effects ++ st.effects)))))) in
    Like m other st (then_run (running.tested f.Range (doing.is_within (pos 0) doing.last_moment n && doing.repeats_well again times) st) (λ _. set)) (then_run (running.tested f.Range (doing.is_within (pos 0) doing.last_moment n && doing.repeats_well again times) st) (λ _. too)))
start_like m other r n times again keep st =
    let e : Effect = ef.SetTimer r (unsigned_abs n) (unsigned_abs times.0) (unsigned_abs times.1) keep in
    let after : AcSeen → Run (Unit {0}) = λ _ st. then_run (effect e st) (λ _. declare (Holds (NewTimer (count_of timers_by (m.effects ++ st.effects))))) in
    let set : Run (Unit {0}) = λ st. then_run (read.used_active m r st) after in
    let too : Run (Unit {0}) = λ st. then_run (read.used_active (over m other) r st) after in
    like_tested {A = Unit {0}} m other f.Range (doing.is_within (pos 0) doing.last_moment n && doing.repeats_well again times) set too st
    (like_then m other st (read.used_active m r st) (read.used_active (over m other) r st) after after (used_active_like m other r st) (λ _ mid.
    let timer : Unit {0} → Run (Unit {0}) = λ _. declare (Holds (NewTimer (count_of timers_by (m.effects ++ mid.effects)))) in
    like_then m other mid (effect e mid) (effect e mid) timer timer (effect_like m other e mid) (λ _ s. declare_like m other _ s)))

on_timers_like : (m : Setting) (other : Answers) (x : OnTimers) (st : State) → Like m other st (doing.on_timers m x st) (doing.on_timers (over m other) x st)
on_timers_like m other (p.Start a start again keep) st = like_then m other st (doing.activity_of m a st) (doing.activity_of (over m other) a st) _ _ (activity_of_like m other a st) (λ r st.
    like_then m other st (doing.int_of m start st) (doing.int_of (over m other) start st) _ _ (int_of_like m other start st) (λ n st.
    like_then m other st (doing.repeat_of m again st) (doing.repeat_of (over m other) again st) _ _ (repeat_like m other again st) (λ times st.
    start_like m other r n times again keep st)))
on_timers_like m other (p.Cancel a) st = search (like_then, timer_of_like, effect_like)

next_like : (m : Setting) (other : Answers) (x y : Run (Unit {0})) (st : State) → Like m other st (x st) (y st) → Like m other st (next x st) (next y st)
next_like m other x y st h = search (like_then, like_give, h)

rollback_like : (m : Setting) (other : Answers) (st : State) → Like m other st (ask_rollback st) (ask_rollback st)
rollback_like m other st = (longer_same st.keys, (longer_same st.keys, λ agree. refl))

throw_like : (m : Setting) (other : Answers) (t : List ℕ) (st : State) → Like m other st (throw t st) (throw t st)
throw_like m other t st = (longer_same st.keys, (longer_same st.keys, λ agree. refl))

says_like : (m : Setting) (other : Answers) (x : Saying) (st : State) → Like m other st (says m x st) (says (over m other) x st)
says_like m other (p.Emit a) st = search (like_then, text_of_like, next_like, effect_like)
says_like m other (p.Usage name a) st = search (like_then, int_of_like, next_like, effect_like)
says_like m other (p.Return a) st = search (like_then, eval_like, like_give)
says_like m other (p.Throw a) st = search (like_then, text_of_like, throw_like)
says_like m other p.Rollback st = next_like m other ask_rollback ask_rollback st (rollback_like m other st)

-- parts of a run that end alike wherever they begin
abbrev pub Alike : {A : Type 0} → Setting → Answers → Run A → Run A → Type 0
Alike m other x y = (st : State) → Like m other st (x st) (y st)

followed_like : (m : Setting) (other : Answers) (flow : Flow) (x y : Run Flow) (st : State) → Alike m other x y → Like m other st (followed flow x st) (followed flow y st)
followed_like m other Next x y st h = h st
followed_like m other (Returned v) x y st h = like_give m other st _

either_like : (m : Setting) (other : Answers) (t : Bool) (x y a b : Run Flow) (st : State) → Alike m other x a → Alike m other y b → Like m other st (either t x y st) (either t a b st)
either_like m other true x y a b st g h = g st
either_like m other false x y a b st g h = h st

choose_like : (m : Setting) (other : Answers) (v : Val) (x y a b : Run Flow) (st : State) → Alike m other x a → Alike m other y b → Like m other st (choose v x y st) (choose v a b st)
choose_like m other v x y a b st g h = like_flag m other v (λ t. either t x y) (λ t. either t a b) st (λ t. either_like m other t x y a b st g h)

turns_like : (m : Setting) (other : Answers) (n : ℕ) (test again : Run Val) (x y : Run Flow) (st : State) → Alike m other test again → Alike m other x y → Like m other st (turns n test x st) (turns n again y st)
turns_like m other zero test again x y st g h = like_break m other st f.Budget
turns_like m other (suc n) test again x y st g h =
    let go : Run Flow = λ st. then_run (x st) (λ flow. followed flow (turns n test x)) in
    let too : Run Flow = λ st. then_run (y st) (λ flow. followed flow (turns n again y)) in
    like_then m other st (test st) (again st) (λ v. choose v go (give Next)) (λ v. choose v too (give Next)) (g st) (λ v mid. choose_like m other v go (give Next) too (give Next) mid
    (λ s. like_then m other s (x s) (y s) (λ flow. followed flow (turns n test x)) (λ flow. followed flow (turns n again y)) (h s) (λ flow t. followed_like m other flow (turns n test x) (turns n again y) t (λ u. turns_like m other n test again x y u g h)))
    (λ s. like_give m other s Next))

forget_like : {A : Type 0} (m : Setting) (other : Answers) (n : ℕ) (v : A) (st : State) → Like m other st (Gave v (record st { variables = take n st.variables })) (Gave v (record st { variables = take n st.variables }))
forget_like m other n v st = (longer_same st.keys, (longer_same st.keys, λ agree. refl))

scoped_like : {A : Type 0} (m : Setting) (other : Answers) (x y : Run A) (st : State) → Like m other st (x st) (y st) → Like m other st (scoped x st) (scoped y st)
scoped_like m other x y st h = like_then m other st (x st) (y st) (λ v new. Gave v (record new { variables = take (length st.variables) new.variables })) (λ v new. Gave v (record new { variables = take (length st.variables) new.variables })) h (λ v mid. forget_like m other (length st.variables) v mid)

walk_like : (m : Setting) (other : Answers) (xs : List Variable) (x y : Run Flow) (st : State) → Alike m other x y → Like m other st (walk xs x st) (walk xs y st)
walk_like m other [] x y st h = like_give m other st Next
walk_like m other (v ∷ xs) x y st h =
    let turn : Run Flow = λ st. then_run (declare v st) (λ _. x) in
    let too : Run Flow = λ st. then_run (declare v st) (λ _. y) in
    like_then m other st (scoped turn st) (scoped too st) (λ flow. followed flow (walk xs x)) (λ flow. followed flow (walk xs y))
    (scoped_like m other turn too st (like_then m other st (declare v st) (declare v st) (λ _. x) (λ _. y) (declare_like m other v st) (λ _ mid. h mid)))
    (λ flow mid. followed_like m other flow (walk xs x) (walk xs y) mid (λ s. walk_like m other xs x y s h))

items_like : (m : Setting) (other : Answers) (r : Range) (st : State) → Like m other st (items m r st) (items (over m other) r st)
items_like m other range.Activities st = search (like_then, activities_like, like_give)
items_like m other (range.Children relation) st = search (like_then, children_like, like_give)

arguments_like : (m : Setting) (other : Answers) (terms : List Term) (st : State) → Like m other st (arguments_of m terms st) (arguments_of (over m other) terms st)
arguments_like m other [] st = like_give m other st []
arguments_like m other (a ∷ more) st = like_then m other st (eval m a st) (eval (over m other) a st) _ _ (eval_like m other a st) (λ x mid. like_then m other mid (arguments_of m more mid) (arguments_of (over m other) more mid) (λ xs. give (x ∷ xs)) (λ xs. give (x ∷ xs)) (arguments_like m other more mid) (λ xs s. like_give m other s _))

-- calls that end alike
abbrev pub AlikeCalls : Setting → Answers → Calling → Calling → Type 0
AlikeCalls m other call too = (b n : ℕ) (e : Ref) (xs : List Val) (keeps : Bool) → Alike m other (call b n e xs keeps) (too b n e xs keeps)

does_call_like : (m : Setting) (other : Answers) (call too : Calling) (c : Call) (st : State) → AlikeCalls m other call too → Like m other st (does_call m call c st) (does_call (over m other) too c st)
does_call_like m other call too c st h = search (like_then, child_like, arguments_like, h)

mutual
  pub act_like : (m : Setting) (other : Answers) (call too : Calling) → AlikeCalls m other call too → (x : Step) (st : State) → Like m other st (act m call x st) (act (over m other) too x st)
  act_like m other call too h (p.Assign a) st = next_like m other (doing.assigns m a) (doing.assigns (over m other) a) st (assigns_like m other a st)
  act_like m other call too h (p.Entity e) st = next_like m other (doing.on_entities m e) (doing.on_entities (over m other) e) st (on_entities_like m other e st)
  act_like m other call too h (p.Activity a) st = next_like m other (doing.on_activities m a) (doing.on_activities (over m other) a) st (on_activities_like m other a st)
  act_like m other call too h (p.Timer t) st = next_like m other (doing.on_timers m t) (doing.on_timers (over m other) t) st (on_timers_like m other t st)
  act_like m other call too h (p.Say x) st = says_like m other x st
  act_like m other call too h (p.Invoke c) st = next_like m other (does_call m call c) (does_call (over m other) too c) st (does_call_like m other call too c st h)
  act_like m other call too h (p.If a body second) st = like_then m other st (eval m a st) (eval (over m other) a st) _ _ (eval_like m other a st) (λ v mid. choose_like m other v (scoped (act_all m call body)) (scoped (act_all m call second)) (scoped (act_all (over m other) too body)) (scoped (act_all (over m other) too second)) mid
      (λ s. scoped_like m other (act_all m call body) (act_all (over m other) too body) s (act_all_like m other call too h body s)) (λ s. scoped_like m other (act_all m call second) (act_all (over m other) too second) s (act_all_like m other call too h second s)))
  act_like m other call too h (p.While a body) st = turns_like m other (st.left + 1) (eval m a) (eval (over m other) a) (scoped (act_all m call body)) (scoped (act_all (over m other) too body)) st (eval_like m other a) (λ s. scoped_like m other (act_all m call body) (act_all (over m other) too body) s (act_all_like m other call too h body s))
  act_like m other call too h (p.For r body) st = like_then m other st (items m r st) (items (over m other) r st) (λ xs. walk xs (act_all m call body)) (λ xs. walk xs (act_all (over m other) too body)) (items_like m other r st) (λ xs mid. walk_like m other xs (act_all m call body) (act_all (over m other) too body) mid (λ s. act_all_like m other call too h body s))

  pub act_all_like : (m : Setting) (other : Answers) (call too : Calling) → AlikeCalls m other call too → (steps : Steps) (st : State) → Like m other st (act_all m call steps st) (act_all (over m other) too steps st)
  act_all_like m other call too h p.Nothing st = like_give m other st Next
  act_all_like m other call too h (p.Then x rest) st = like_then m other st (ticked (act m call x) st) (ticked (act (over m other) too x) st) (λ flow. followed flow (act_all m call rest)) (λ flow. followed flow (act_all (over m other) too rest))
      (like_tick m other (act m call x) (act (over m other) too x) st (λ s. act_like m other call too h x s)) (λ flow mid. followed_like m other flow (act_all m call rest) (act_all (over m other) too rest) mid (λ s. act_all_like m other call too h rest s))
