-- Each effect of a run that names an activity was made where the run had seen the activity there, and for some effects Active.
use Rattle.std.proofs.Common.{◌≡◌, refl, inl, inr, ℕ, ℤ, zero, suc, ◌+◌, Bool, true, false, ◌&&◌, not, List, [], ◌∷◌, ◌++◌, length, map, sym, ◌∙◌, ap, subst, Option, Some, None}
use Rattle.std.specs.Prelude.{nat_lt, nat_le, is_none, bytes_eq, slice_get, slice_set, take, int_le, pos, negsuc, ◌+ℤ◌, unsigned_abs, option_and_then}
use Rattle.std.proofs.lemmas.Bool.{cases_Bool, not-true}
use Rattle.slee_value.specs.declared.kind.Kind.{Kind}
use Rattle.slee_effect.specs.declared.effect.Effect.{Effect}
use Rattle.slee_effect.specs.declared.effect.Effect.TheVariants as ef
use Rattle.slee_effect.specs.declared.reference.Ref.{Ref}
use Rattle.slee_effect.specs.declared.reference.Ref.TheVariants.{Known, Fresh}
use Rattle.slee_effect.specs.declared.value.Val.{Val}
use Rattle.slee_effect.specs.declared.value.Val.TheVariants.{Plain, NewActivity, NewTimer}
use Rattle.script_types.specs.Program as p
use Rattle.script_types.specs.Program.{Term, Step, Steps, Saying, Call, Assigning, Rank, OnEntities, OnActivities, OnTimers, Program, BlockProgram, MethodProgram}
use Rattle.script_types.specs.declared.step.Range.{Range}
use Rattle.script_types.specs.declared.step.Range.TheVariants as range
use Rattle.script_types.specs.declared.step.Who.{Who}
use Rattle.script_types.specs.declared.step.Who.TheVariants as w
use Rattle.script_meaning.specs.Answers.{Answers, activity_in, flag_in, number_in, refers_in}
use Rattle.script_meaning.specs.Calls.{apart, result_of, keep_result, setting_in, call_at}
use Rattle.script_meaning.specs.Doing as doing
use Rattle.script_meaning.specs.Observing as read
use Rattle.script_meaning.specs.Overlay.{count_of, entities_by, activities_by, timers_by, overlay, activity_after, attached_after, named_after}
use Rattle.script_meaning.specs.Running.{Setting, Variable, Holds, Child, Gave, Run, then_run, ◌>>=◌, give, tested, ticked, tick, effect, effect_limit, effect_bytes_limit, bytes_of, effects_of, declare, assign, scoped, found, break, look, Stays}
use Rattle.script_meaning.specs.Running as running
use Rattle.script_meaning.specs.Values.{with_flag}
use Rattle.slee_value.specs.declared.value.Value.TheVariants as v
use Rattle.script_meaning.specs.Steps.{Flow, Next, Returned, Calling, next, followed, ask_rollback, says, either, choose, turns, repeat, walk, items, arguments_of, does_call, act, act_all}
use Rattle.script_meaning.specs.Terms.{eval}
use Rattle.script_meaning.specs.declared.key.Key.TheVariants as keys
use Rattle.script_meaning.specs.declared.seen.AcSeen.{AcSeen}
use Rattle.router_laws_effects.specs.Guards.{AttachedAfter, Guard, Guarded, IsUsed, IsUsedActive, NameAfter, SeenAfter}
use Rattle.script_meaning.specs.declared.key.Key.{Key}
use Rattle.script_meaning.specs.declared.outcome.FailKind.{FailKind}
use Rattle.script_meaning.specs.declared.outcome.FailKind.TheVariants as failures
use Rattle.script_meaning.specs.declared.seen.Seen.{Seen}
use Rattle.router_laws_effects.proofs.GuardLemmas.{gave_parts, look_gave, tested_gave, then_gave, used_gave, used_active_gave}
use Rattle.router_laws.proofs.ListRules.{append_nil, append_joins}
use Rattle.router_laws_effects.proofs.TermsKeep.{Keeps, keeps_then, keeps_give, keeps_stay, keeps_break, keeps_tested, keeps_eval, keeps_int, keeps_text, keeps_activity, keeps_timer_of, keeps_attached, keeps_named, keeps_child, keeps_children, keeps_activities, keeps_now, keeps_effects_of, keeps_found, keeps_tick_at, no_break, no_stay}

guarded_append : (answers : Answers) (before xs ys : List Effect) → Guarded answers before xs → Guarded answers (before ++ xs) ys → Guarded answers before (xs ++ ys)
guarded_append answers before [] ys one two = subst (λ b. Guarded answers b ys) (append_nil before) two
guarded_append answers before (x ∷ xs) ys one two = (one.0, guarded_append answers (before ++ x ∷ []) xs ys one.1 (subst (λ b. Guarded answers b ys) (sym (append_joins before (x ∷ []) xs)) two))

-- a part of a run that adds guarded effects
pub record Adds {A : Type 0} (s : Setting) (m : Run A) : Type 0 where
  pub adds : (x : A) (st su : running.State) → m st ≡ Gave x su → (new : List Effect) × (su.effects ≡ st.effects ++ new) × Guarded s.answers (s.effects ++ st.effects) new

adds_keeps : {A : Type 0} (s : Setting) (m : Run A) → Keeps m → Adds s m
adds_keeps s m one = record { adds = λ x st su is. ([], one.keeps x st su is ∙ sym (append_nil st.effects), tt) }

adds_then : {A B : Type 0} (s : Setting) (m : Run A) (g : A → Run B) → Adds s m → ((x : A) → Adds s (g x)) → Adds s (m >>= g)
adds_then s m g one two = record {
  adds = λ x st su is.
      let p = then_gave (m st) g x su is in
      let a = one.adds p.0 st p.1 p.2 in
      let b = (two p.0).adds x p.1 su p.3 in
      let before : s.effects ++ p.1.effects ≡ (s.effects ++ st.effects) ++ a.0 = ap (λ es. s.effects ++ es) a.1 ∙ sym (append_joins s.effects st.effects a.0) in
      (a.0 ++ b.0, b.1 ∙ ap (λ es. es ++ b.0) a.1 ∙ append_joins st.effects a.0 b.0, guarded_append s.answers (s.effects ++ st.effects) a.0 b.0 a.2 (subst (λ es. Guarded s.answers es b.0) before b.2));
}

-- a part that makes this one effect
pub record Makes {A : Type 0} (m : Run A) (e : Effect) : Type 0 where
  pub makes : (x : A) (st su : running.State) → m st ≡ Gave x su → su.effects ≡ st.effects ++ e ∷ []

made_effect : (e : Effect) (x : Unit {0}) (st su : running.State) → effect e st ≡ Gave x su → su.effects ≡ st.effects ++ e ∷ []
unfolding effect
made_effect e x st su is = elim (cases_Bool (nat_lt (length st.effects) effect_limit)) [
  | inl few ↦ elim (cases_Bool (nat_le (bytes_of (st.effects ++ e ∷ [])) effect_bytes_limit)) [
    | inl short ↦ ap (λ (v : running.State). v.effects) (sym (gave_parts tt x (record st { effects = st.effects ++ e ∷ [] }) su (rw (few, short) at is)).1)
    | inr long ↦ absurd (no_break (rw (few, long) at is))
  ]
  | inr many ↦ absurd (no_break (rw many at is))
]

makes_effect : (e : Effect) → Makes (effect e) e
makes_effect e = record { makes = made_effect e }

makes_then : {A B : Type 0} (m : Run A) (g : A → Run B) (e : Effect) → Keeps m → ((x : A) → Makes (g x) e) → Makes (m >>= g) e
makes_then m g e one two = record { makes = λ x st su is. let p = then_gave (m st) g x su is in (two p.0).makes x p.1 su p.3 ∙ ap (λ es. es ++ e ∷ []) (one.keeps p.0 st p.1 p.2) }

makes_before : {A B : Type 0} (m : Run A) (g : A → Run B) (e : Effect) → Makes m e → ((x : A) → Keeps (g x)) → Makes (m >>= g) e
makes_before m g e one two = record { makes = λ x st su is. let p = then_gave (m st) g x su is in (two p.0).keeps x p.1 su p.3 ∙ one.makes p.0 st p.1 p.2 }

-- an effect that wants no guard here
adds_plain : {A : Type 0} (s : Setting) (m : Run A) (e : Effect) → Makes m e → ((before : List Effect) → Guard s.answers before e) → Adds s m
adds_plain s m e one free = record { adds = λ x st su is. (e ∷ [], one.makes x st su is, (free (s.effects ++ st.effects), tt)) }

-- an effect behind a test of its activity
adds_active : {A : Type 0} (s : Setting) (r : Ref) (g : AcSeen → Run A) (e : Effect) → ((x : AcSeen) → Makes (g x) e) → ((before : List Effect) → IsUsedActive s.answers before r → Guard s.answers before e) → Adds s (read.used_active s r >>= g)
adds_active s r g e made guard = record {
  adds = λ x st su is.
      let q = then_gave (read.used_active s r st) g x su is in
      let seen = used_active_gave s r q.0 st q.1 q.2 in
      (e ∷ [], (made q.0).makes x q.1 su q.3 ∙ ap (λ es. es ++ e ∷ []) seen.2, (guard (s.effects ++ st.effects) (q.0, seen.0, seen.1), tt));
}

adds_used : {A : Type 0} (s : Setting) (r : Ref) (g : AcSeen → Run A) (e : Effect) → ((x : AcSeen) → Makes (g x) e) → ((before : List Effect) → IsUsed s.answers before r → Guard s.answers before e) → Adds s (read.used s r >>= g)
adds_used s r g e made guard = record {
  adds = λ x st su is.
      let q = then_gave (read.used s r st) g x su is in
      let seen = used_gave s r q.0 st q.1 q.2 in
      (e ∷ [], (made q.0).makes x q.1 su q.3 ∙ ap (λ es. es ++ e ∷ []) seen.1, (guard (s.effects ++ st.effects) (q.0, seen.0), tt));
}

-- What a part that makes no effect tells of what it gives, by the effects before it.
record Knows {A : Type 0} (s : Setting) (m : Run A) (K : A → List Effect → Type 0) : Type 0 where
  knows : (x : A) (st su : running.State) → m st ≡ Gave x su → (su.effects ≡ st.effects) × K x (s.effects ++ st.effects)

-- a part that makes this one effect, guarded where this is known
record Checks {A : Type 0} (s : Setting) (m : Run A) (e : Effect) (P : List Effect → Type 0) : Type 0 where
  checks : (x : A) (st su : running.State) → m st ≡ Gave x su → P (s.effects ++ st.effects) → (su.effects ≡ st.effects ++ e ∷ []) × Guard s.answers (s.effects ++ st.effects) e

checks_effect : (s : Setting) (e : Effect) (P : List Effect → Type 0) → ((before : List Effect) → P before → Guard s.answers before e) → Checks s (effect e) e P
checks_effect s e P follows = record { checks = λ x st su is known. (made_effect e x st su is, follows (s.effects ++ st.effects) known) }

checks_keep : {A B : Type 0} (s : Setting) (m : Run A) (g : A → Run B) (e : Effect) (P : List Effect → Type 0) → Keeps m → ((x : A) → Checks s (g x) e P) → Checks s (m >>= g) e P
checks_keep s m g e P one two = record {
  checks = λ x st su is known.
      let q = then_gave (m st) g x su is in
      let same = one.keeps q.0 st q.1 q.2 in
      let r = (two q.0).checks x q.1 su q.3 (subst (λ es. P (s.effects ++ es)) (sym same) known) in
      (r.0 ∙ ap (λ es. es ++ e ∷ []) same, subst (λ es. Guard s.answers (s.effects ++ es) e) same r.1);
}

checks_know : {A B : Type 0} (s : Setting) (m : Run A) (g : A → Run B) (e : Effect) (P : List Effect → Type 0) (K : A → List Effect → Type 0) → Knows s m K → ((x : A) → Checks s (g x) e (λ before. P before × K x before)) → Checks s (m >>= g) e P
checks_know s m g e P K one two = record {
  checks = λ x st su is known.
      let q = then_gave (m st) g x su is in
      let told = one.knows q.0 st q.1 q.2 in
      let r = (two q.0).checks x q.1 su q.3 (subst (λ es. P (s.effects ++ es) × K q.0 (s.effects ++ es)) (sym told.0) (known, told.1)) in
      (r.0 ∙ ap (λ es. es ++ e ∷ []) told.0, subst (λ es. Guard s.answers (s.effects ++ es) e) told.0 r.1);
}

adds_checked : {A : Type 0} (s : Setting) (m : Run A) (e : Effect) → Checks s m e (λ before. Unit {0}) → Adds s m
adds_checked s m e one = record { adds = λ x st su is. let r = one.checks x st su is tt in (e ∷ [], r.0, (r.1, tt)) }

knows_tested : (s : Setting) (kind : FailKind) (b : Bool) → Knows s (tested kind b) (λ x before. b ≡ true)
knows_tested s kind b = record { knows = λ x st su is. let r = tested_gave kind b x st su is in (ap (λ (v : running.State). v.effects) r.1, r.0) }

knows_used : (s : Setting) (r : Ref) → Knows s (read.used s r) (λ x before. SeenAfter s.answers before r x)
knows_used s r = record { knows = λ x st su is. let g = used_gave s r x st su is in (g.1, g.0) }

knows_active : (s : Setting) (r : Ref) → Knows s (read.used_active s r) (λ x before. SeenAfter s.answers before r x × (x.ending ≡ false))
knows_active s r = record { knows = λ x st su is. let g = used_active_gave s r x st su is in (g.2, (g.0, g.1)) }

-- what is read at a key, the effects before laid over
laid_gave : {A : Type 0} (s : Setting) (key : Option Key) (f : List Effect → Option Seen → A) (x : A) (st su : running.State) → (look s key >>= (λ seen. effects_of s >>= (λ es. give (f es seen)))) st ≡ Gave x su
    → (su.effects ≡ st.effects) × (x ≡ f (s.effects ++ st.effects) (option_and_then s.answers key))
laid_gave s key f x st su is =
    let first = then_gave (look s key st) (λ seen. effects_of s >>= (λ es. give (f es seen))) x su is in
    let looked = look_gave s key first.0 st first.1 first.2 in
    let same = gave_parts (f (s.effects ++ first.1.effects) first.0) x first.1 su first.3 in
    (ap (λ (v : running.State). v.effects) (sym same.1) ∙ looked.1, sym same.0 ∙ rw (looked.0, looked.1) refl)

knows_named : (s : Setting) (name : List ℕ) → Knows s (read.named s name) (λ x before. x ≡ NameAfter s.answers before name)
knows_named s name = record {
  knows = λ x st su is. laid_gave s (Some (keys.Named name)) (λ es seen. overlay activities_by (named_after name) es (refers_in seen)) x st su is;
}

knows_attached : (s : Setting) (r : Ref) → Knows s (read.attached s r) (λ x before. x ≡ AttachedAfter s.answers before s.me r)
knows_attached s r = record {
  knows = λ x st su is. laid_gave s (read.key_of_two (λ m n. keys.Attached (record { 0 = m }) (record { 0 = n })) s.me r) (λ es seen. overlay activities_by (attached_after s.me r) es (flag_in seen)) x st su is;
}

knows_now : (s : Setting) → Knows s (read.now s) (λ x before. x ≡ number_in (s.answers keys.Now))
knows_now s = record {
  knows = λ x st su is.
      let first = then_gave (look s (Some keys.Now) st) (λ seen. give (number_in seen)) x su is in
      let looked = look_gave s (Some keys.Now) first.0 st first.1 first.2 in
      let same = gave_parts (number_in first.0) x first.1 su first.3 in
      (ap (λ (v : running.State). v.effects) (sym same.1) ∙ looked.1, sym same.0 ∙ ap number_in looked.0);
}

-- terms of a kind

keeps_int_of : (s : Setting) (a : Term) → Keeps (doing.int_of s a)
keeps_int_of s a = keeps_then (eval s a) _ (keeps_eval s a) (λ x. keeps_int x give (λ n. keeps_give n))

keeps_text_of : (s : Setting) (a : Term) → Keeps (doing.text_of s a)
keeps_text_of s a = keeps_then (eval s a) _ (keeps_eval s a) (λ x. keeps_text x give (λ n. keeps_give n))

keeps_activity_of : (s : Setting) (a : Term) → Keeps (doing.activity_of s a)
keeps_activity_of s a = keeps_then (eval s a) _ (keeps_eval s a) (λ x. keeps_activity x give (λ n. keeps_give n))

keeps_timer_term : (s : Setting) (a : Term) → Keeps (doing.timer_of s a)
keeps_timer_term s a = keeps_then (eval s a) _ (keeps_eval s a) (λ x. keeps_timer_of x give (λ n. keeps_give n))

keeps_declare : (x : Variable) → Keeps (declare x)
keeps_declare x = record { keeps = λ y st su is. ap (λ (v : running.State). v.effects) (sym (gave_parts tt y (record st { variables = st.variables ++ x ∷ [] }) su is).1) }

keeps_who : (s : Setting) (x : Who) → Keeps (doing.who s x)
keeps_who s w.Own = keeps_give s.me
keeps_who s (w.Child i) = keeps_child s i

keeps_fields : (s : Setting) (fields : List (List ℕ × Term)) (done : List (List ℕ × Val)) → Keeps (doing.fields_of s fields done)
keeps_fields s [] done = keeps_give done
keeps_fields s (y ∷ more) done = keeps_then (eval s y.1) _ (keeps_eval s y.1) (λ x. keeps_fields s more (doing.put_field (y.0, x) done))

-- steps on activities
adds_on_activities : (s : Setting) (x : OnActivities) → Adds s (doing.on_activities s x)
adds_on_activities s (p.Attach someone a) =
    adds_then s (doing.who s someone) _ (adds_keeps s _ (keeps_who s someone)) (λ e. adds_then s (doing.activity_of s a) _ (adds_keeps s _ (keeps_activity_of s a))
    (λ r. adds_active s r (λ _. effect (ef.Attach e r)) (ef.Attach e r) (λ _. makes_effect (ef.Attach e r)) (λ before used. used)))
adds_on_activities s (p.Detach someone a) =
    adds_then s (doing.who s someone) _ (adds_keeps s _ (keeps_who s someone)) (λ e. adds_then s (doing.activity_of s a) _ (adds_keeps s _ (keeps_activity_of s a))
    (λ r. adds_used s r (λ _. effect (ef.Detach e r)) (ef.Detach e r) (λ _. makes_effect (ef.Detach e r)) (λ before used. used)))
adds_on_activities s (p.Mask event on a) =
    adds_then s (doing.activity_of s a) _ (adds_keeps s _ (keeps_activity_of s a))
    (λ r. adds_checked s _ (ef.SetMask s.me r event.name on) (checks_know s (read.used s r) _ (ef.SetMask s.me r event.name on) (λ before. Unit {0}) (λ x before. SeenAfter s.answers before r x) (knows_used s r)
    (λ seen. checks_know s (read.attached s r) _ (ef.SetMask s.me r event.name on) (λ before. Unit {0} × SeenAfter s.answers before r seen) (λ x before. x ≡ AttachedAfter s.answers before s.me r) (knows_attached s r)
    (λ b. checks_know s (tested failures.Detached b) (λ _. effect (ef.SetMask s.me r event.name on)) (ef.SetMask s.me r event.name on) (λ before. (Unit {0} × SeenAfter s.answers before r seen) × (b ≡ AttachedAfter s.answers before s.me r)) (λ x before. b ≡ true) (knows_tested s failures.Detached b)
    (λ _. checks_effect s (ef.SetMask s.me r event.name on) (λ before. ((Unit {0} × SeenAfter s.answers before r seen) × (b ≡ AttachedAfter s.answers before s.me r)) × (b ≡ true)) (λ before known. ((seen, known.0.0.1), sym known.0.1 ∙ known.1)))))))
adds_on_activities s (p.Fire event a service fields) =
    adds_then s (doing.activity_of s a) _ (adds_keeps s _ (keeps_activity_of s a)) (λ r. adds_then s (doing.fields_of s fields []) _ (adds_keeps s _ (keeps_fields s fields []))
    (λ xs. adds_active s r (λ _. effect (ef.Fire r event service xs)) (ef.Fire r event service xs) (λ _. makes_effect (ef.Fire r event service xs)) (λ before used. used)))
adds_on_activities s p.Null =
    adds_then s (effects_of s) _ (adds_keeps s _ (keeps_effects_of s)) (λ es. adds_plain s _ ef.NewNull (makes_before (effect ef.NewNull) _ ef.NewNull (makes_effect ef.NewNull) (λ _. keeps_declare (Holds (NewActivity (count_of activities_by es))))) (λ before. tt))
adds_on_activities s (p.End a) =
    adds_then s (doing.activity_of s a) _ (adds_keeps s _ (keeps_activity_of s a))
    (λ r. adds_checked s _ (ef.EndNull r) (checks_know s (read.used_active s r) _ (ef.EndNull r) (λ before. Unit {0}) (λ x before. SeenAfter s.answers before r x × (x.ending ≡ false)) (knows_active s r)
    (λ seen. checks_know s (tested failures.NotNull seen.null) (λ _. effect (ef.EndNull r)) (ef.EndNull r) (λ before. Unit {0} × (SeenAfter s.answers before r seen × (seen.ending ≡ false))) (λ x before. seen.null ≡ true) (knows_tested s failures.NotNull seen.null)
    (λ _. checks_effect s (ef.EndNull r) (λ before. (Unit {0} × (SeenAfter s.answers before r seen × (seen.ending ≡ false))) × (seen.null ≡ true)) (λ before known. (seen, known.0.1.0, known.0.1.1, known.1))))))
adds_on_activities s (p.Bind a b) =
    adds_then s (doing.text_of s a) _ (adds_keeps s _ (keeps_text_of s a)) (λ name. adds_then s (doing.activity_of s b) _ (adds_keeps s _ (keeps_activity_of s b))
    (λ r. adds_checked s _ (ef.Bind name r) (checks_know s (tested failures.Range (not (bytes_eq name []))) _ (ef.Bind name r) (λ before. Unit {0}) (λ x before. not (bytes_eq name []) ≡ true) (knows_tested s failures.Range (not (bytes_eq name [])))
    (λ _. checks_know s (read.used_active s r) _ (ef.Bind name r) (λ before. Unit {0} × (not (bytes_eq name []) ≡ true)) (λ x before. SeenAfter s.answers before r x × (x.ending ≡ false)) (knows_active s r)
    (λ seen. checks_know s (read.named s name) _ (ef.Bind name r) (λ before. (Unit {0} × (not (bytes_eq name []) ≡ true)) × (SeenAfter s.answers before r seen × (seen.ending ≡ false))) (λ x before. x ≡ NameAfter s.answers before name) (knows_named s name)
    (λ o. checks_know s (tested failures.Bound (is_none o)) (λ _. effect (ef.Bind name r)) (ef.Bind name r) (λ before. ((Unit {0} × (not (bytes_eq name []) ≡ true)) × (SeenAfter s.answers before r seen × (seen.ending ≡ false))) × (o ≡ NameAfter s.answers before name)) (λ x before. is_none o ≡ true) (knows_tested s failures.Bound (is_none o))
    (λ _. checks_effect s (ef.Bind name r) (λ before. (((Unit {0} × (not (bytes_eq name []) ≡ true)) × (SeenAfter s.answers before r seen × (seen.ending ≡ false))) × (o ≡ NameAfter s.answers before name)) × (is_none o ≡ true))
    (λ before known. (not-true (bytes_eq name []) known.0.0.0.1, (seen, known.0.0.1.0, known.0.0.1.1), ap is_none (sym known.0.1) ∙ known.1)))))))))
adds_on_activities s (p.Unbind a) =
    adds_then s (doing.text_of s a) _ (adds_keeps s _ (keeps_text_of s a)) (λ name. adds_checked s _ (ef.Unbind name) (checks_know s (read.named s name) _ (ef.Unbind name) (λ before. Unit {0}) (λ x before. x ≡ NameAfter s.answers before name) (knows_named s name)
    (λ o. checks_know s (tested failures.Unbound (not (is_none o))) (λ _. effect (ef.Unbind name)) (ef.Unbind name) (λ before. Unit {0} × (o ≡ NameAfter s.answers before name)) (λ x before. not (is_none o) ≡ true) (knows_tested s failures.Unbound (not (is_none o)))
    (λ _. checks_effect s (ef.Unbind name) (λ before. (Unit {0} × (o ≡ NameAfter s.answers before name)) × (not (is_none o) ≡ true)) (λ before known. ap is_none (sym known.0.1) ∙ not-true (is_none o) known.1)))))
adds_on_activities s (p.Resume a) =
    adds_then s (doing.activity_of s a) _ (adds_keeps s _ (keeps_activity_of s a)) (λ r. adds_used s r (λ _. effect (ef.Resume r)) (ef.Resume r) (λ _. makes_effect (ef.Resume r)) (λ before used. used))
adds_on_activities s (p.Suspend a) =
    adds_then s (doing.int_of s a) _ (adds_keeps s _ (keeps_int_of s a)) (λ n. adds_suspend s n)
  where
    adds_suspend : (s : Setting) (n : ℤ) → Adds s (tested failures.Range (doing.is_within (pos 1) doing.last_moment n) >>= (λ _. read.now s >>= (λ time. tested failures.Range (int_le (time +ℤ n) doing.last_moment) >>= (λ _. effect (ef.Suspend (Known s.arguments.activity.0) (unsigned_abs (time +ℤ n)))))))
    adds_suspend s n = record {
      adds = λ x st su is.
          let one = then_gave (tested failures.Range (doing.is_within (pos 1) doing.last_moment n) st) _ x su is in
          let range = (knows_tested s failures.Range (doing.is_within (pos 1) doing.last_moment n)).knows one.0 st one.1 one.2 in
          let two = then_gave (read.now s one.1) _ x su one.3 in
          let time = (knows_now s).knows two.0 one.1 two.1 two.2 in
          let three = then_gave (tested failures.Range (int_le (two.0 +ℤ n) doing.last_moment) two.1) _ x su two.3 in
          let limit = (knows_tested s failures.Range (int_le (two.0 +ℤ n) doing.last_moment)).knows three.0 two.1 three.1 three.2 in
          let e = ef.Suspend (Known s.arguments.activity.0) (unsigned_abs (two.0 +ℤ n)) in
          let made = made_effect e x three.1 su three.3 in (
            e ∷ [],
            made ∙ ap (λ es. es ++ e ∷ []) (limit.0 ∙ (time.0 ∙ range.0)),
            ((n, range.1, subst (λ z. int_le (z +ℤ n) doing.last_moment ≡ true) time.1 limit.1, ap (λ z. unsigned_abs (z +ℤ n)) time.1), tt),
          );
    }

-- steps on entities and timers, and what gives values

keeps_asked : (s : Setting) (a : Term) → Keeps (doing.asked_rank s a)
keeps_asked s a = keeps_then (doing.int_of s a) _ (keeps_int_of s a) (λ n. keeps_then (tested _ (doing.is_within (negsuc 127) (pos 127) n)) (λ _. give n) (keeps_tested _ (doing.is_within (negsuc 127) (pos 127) n)) (λ _. keeps_give n))

keeps_rank : (s : Setting) (x : Rank) → Keeps (doing.rank_of s x)
keeps_rank s (p.Given n) = keeps_give n
keeps_rank s (p.Asked a) = keeps_asked s a

-- a priority that was asked for lies in its range
knows_rank : (s : Setting) (a : Term) → Knows s (doing.asked_rank s a) (λ n before. doing.is_within (negsuc 127) (pos 127) n ≡ true)
knows_rank s a = record {
  knows = λ x st su is.
      let one = then_gave (doing.int_of s a st) (λ n. tested failures.Range (doing.is_within (negsuc 127) (pos 127) n) >>= (λ _. give n)) x su is in
      let two = then_gave (tested failures.Range (doing.is_within (negsuc 127) (pos 127) one.0) one.1) (λ _. give one.0) x su one.3 in
      let test = tested_gave failures.Range (doing.is_within (negsuc 127) (pos 127) one.0) two.0 one.1 two.1 two.2 in
      let same = gave_parts one.0 x two.1 su two.3 in
      (ap (λ (v : running.State). v.effects) (sym same.1 ∙ test.1) ∙ (keeps_int_of s a).keeps one.0 st one.1 one.2, subst (λ n. doing.is_within (negsuc 127) (pos 127) n ≡ true) same.0 test.0);
}

adds_rank : (s : Setting) (a : Term) (e : Ref) → Adds s (doing.asked_rank s a >>= (λ n. effect (ef.SetPriority e n)))
adds_rank s a e = record {
  adds = λ x st su is.
      let q = then_gave (doing.asked_rank s a st) (λ n. effect (ef.SetPriority e n)) x su is in
      let told = (knows_rank s a).knows q.0 st q.1 q.2 in
      let made = ef.SetPriority e q.0 in
      (made ∷ [], made_effect made x q.1 su q.3 ∙ ap (λ es. es ++ made ∷ []) told.0, (told.1, tt));
}

adds_on_entities : (s : Setting) (x : OnEntities) → Adds s (doing.on_entities s x)
adds_on_entities s (p.Create relation rank) =
    adds_then s (doing.rank_of s rank) _ (adds_keeps s _ (keeps_rank s rank)) (λ n. adds_then s (effects_of s) _ (adds_keeps s _ (keeps_effects_of s))
    (λ es. adds_plain s _ (ef.Create s.me relation.name n) (makes_before (effect (ef.Create s.me relation.name n)) _ (ef.Create s.me relation.name n) (makes_effect (ef.Create s.me relation.name n)) (λ _. keeps_declare (Child (Fresh (count_of entities_by es))))) (λ before. tt)))
adds_on_entities s (p.Remove i) = adds_then s (read.child s i) _ (adds_keeps s _ (keeps_child s i)) (λ e. adds_plain s _ (ef.Remove e) (makes_effect (ef.Remove e)) (λ before. tt))
adds_on_entities s (p.Priority i a) = adds_then s (read.child s i) _ (adds_keeps s _ (keeps_child s i)) (λ e. adds_rank s a e)

keeps_repeat : (s : Setting) (o : Option (Term × Term)) → Keeps (doing.repeat_of s o)
keeps_repeat s None = keeps_give _
keeps_repeat s (Some r) = keeps_then (doing.int_of s r.0) _ (keeps_int_of s r.0) (λ m. keeps_then (doing.int_of s r.1) _ (keeps_int_of s r.1) (λ n. keeps_give (m, n)))

adds_on_timers : (s : Setting) (x : OnTimers) → Adds s (doing.on_timers s x)
adds_on_timers s (p.Start a start rep keep) =
    adds_then s (doing.activity_of s a) _ (adds_keeps s _ (keeps_activity_of s a)) (λ r. adds_then s (doing.int_of s start) _ (adds_keeps s _ (keeps_int_of s start))
    (λ n. adds_then s (doing.repeat_of s rep) _ (adds_keeps s _ (keeps_repeat s rep)) (λ times. adds_then s (tested _ (doing.is_within (pos 0) doing.last_moment n && doing.repeats_well rep times)) _ (adds_keeps s _ (keeps_tested _ (doing.is_within (pos 0) doing.last_moment n && doing.repeats_well rep times)))
    (λ _. adds_active s r _ (ef.SetTimer r (unsigned_abs n) (unsigned_abs times.0) (unsigned_abs times.1) keep)
    (λ _. makes_then (effects_of s) _ (ef.SetTimer r (unsigned_abs n) (unsigned_abs times.0) (unsigned_abs times.1) keep) (keeps_effects_of s)
    (λ es. makes_before (effect (ef.SetTimer r (unsigned_abs n) (unsigned_abs times.0) (unsigned_abs times.1) keep)) _ (ef.SetTimer r (unsigned_abs n) (unsigned_abs times.0) (unsigned_abs times.1) keep)
    (makes_effect (ef.SetTimer r (unsigned_abs n) (unsigned_abs times.0) (unsigned_abs times.1) keep)) (λ _. keeps_declare (Holds (NewTimer (count_of timers_by es)))))) (λ before used. used)))))
adds_on_timers s (p.Cancel a) = adds_then s (doing.timer_of s a) _ (adds_keeps s _ (keeps_timer_term s a)) (λ t. adds_plain s _ (ef.CancelTimer t) (makes_effect (ef.CancelTimer t)) (λ before. tt))

keeps_assign : (i : ℕ) (x : Val) → Keeps (assign i x)
keeps_assign i x = record { keeps = λ y st su is. assigned i x y st su is }
  where
    assigned : (i : ℕ) (x : Val) (y : Unit {0}) (st su : running.State) → assign i x st ≡ Gave y su → su.effects ≡ st.effects
    assigned i x y st su is = elim (cases_Bool (nat_lt i (length st.variables))) [
      | inl there ↦ ap (λ (v : running.State). v.effects) (sym (gave_parts tt y (record st { variables = slice_set st.variables i (Holds x) }) su (rw there at is)).1)
      | inr isnt ↦ absurd (no_stay (rw isnt at is))
    ]

adds_assigns : (s : Setting) (x : Assigning) → Adds s (doing.assigns s x)
adds_assigns s (p.New a) = adds_then s (eval s a) _ (adds_keeps s _ (keeps_eval s a)) (λ x. adds_keeps s _ (keeps_declare (Holds x)))
adds_assigns s (p.Variable i a) = adds_then s (eval s a) _ (adds_keeps s _ (keeps_eval s a)) (λ x. adds_keeps s _ (keeps_assign i x))
adds_assigns s (p.Field field a) = adds_then s (eval s a) _ (adds_keeps s _ (keeps_eval s a)) (λ x. adds_plain s _ (ef.SetField s.me field.name x) (makes_effect (ef.SetField s.me field.name x)) (λ before. tt))
adds_assigns s (p.Attribute a key b) =
    adds_then s (doing.activity_of s a) _ (adds_keeps s _ (keeps_activity_of s a)) (λ r. adds_then s (eval s b) _ (adds_keeps s _ (keeps_eval s b))
    (λ x. adds_used s r (λ _. effect (ef.SetAttr r key.name x)) (ef.SetAttr r key.name x) (λ _. makes_effect (ef.SetAttr r key.name x)) (λ before used. used)))

-- steps

adds_next : (s : Setting) (m : Run (Unit {0})) → Adds s m → Adds s (next m)
adds_next s m one = adds_then s m (λ _. give Next) one (λ _. adds_keeps s _ (keeps_give Next))

adds_says : (s : Setting) (x : Saying) → Adds s (says s x)
adds_says s (p.Emit a) = adds_then s (doing.text_of s a) _ (adds_keeps s _ (keeps_text_of s a)) (λ t. adds_next s _ (adds_plain s _ (ef.Emit s.me t) (makes_effect (ef.Emit s.me t)) (λ before. tt)))
adds_says s (p.Usage name a) = adds_then s (doing.int_of s a) _ (adds_keeps s _ (keeps_int_of s a)) (λ n. adds_next s _ (adds_plain s _ (ef.Usage s.me name n) (makes_effect (ef.Usage s.me name n)) (λ before. tt)))
adds_says s (p.Return a) = adds_then s (eval s a) _ (adds_keeps s _ (keeps_eval s a)) (λ x. adds_keeps s _ (keeps_give (Returned x)))
adds_says s (p.Throw a) = adds_then s (doing.text_of s a) _ (adds_keeps s _ (keeps_text_of s a)) (λ t. adds_keeps s _ (record { keeps = λ x st su is. absurd (no_break is) }))
adds_says s p.Rollback = adds_next s ask_rollback (adds_keeps s _ (record { keeps = λ x st su is. ap (λ (v : running.State). v.effects) (sym (gave_parts tt x (record st { asked = true }) su is).1) }))

adds_followed : (s : Setting) (flow : Flow) (m : Run Flow) → Adds s m → Adds s (followed flow m)
adds_followed s Next m one = one
adds_followed s (Returned x) m one = adds_keeps s _ (keeps_give (Returned x))

adds_flag : {A : Type 0} (s : Setting) (x : Val) (g : Bool → Run A) → ((b : Bool) → Adds s (g b)) → Adds s (with_flag x g)
adds_flag s (Plain (v.Bool b)) g each = each b
adds_flag s (Plain (v.Int n)) g each = adds_keeps s _ keeps_stay
adds_flag s (Plain (v.Text n)) g each = adds_keeps s _ keeps_stay
adds_flag s (Plain (v.Activity n)) g each = adds_keeps s _ keeps_stay
adds_flag s (Plain (v.Timer n)) g each = adds_keeps s _ keeps_stay
adds_flag s (NewActivity n) g each = adds_keeps s _ keeps_stay
adds_flag s (NewTimer n) g each = adds_keeps s _ keeps_stay

adds_either : (s : Setting) (b : Bool) (m n : Run Flow) → Adds s m → Adds s n → Adds s (either b m n)
adds_either s true m n one two = one
adds_either s false m n one two = two

adds_scoped : {A : Type 0} (s : Setting) (m : Run A) → Adds s m → Adds s (scoped m)
adds_scoped s m one = record {
  adds = λ x st su is.
      let q = then_gave (m st) (λ y new. Gave y (record new { variables = take (length st.variables) new.variables })) x su is in
      let a = one.adds q.0 st q.1 q.2 in
      (a.0, ap (λ (v : running.State). v.effects) (sym (gave_parts q.0 x (record q.1 { variables = take (length st.variables) q.1.variables }) su q.3).1) ∙ a.1, a.2);
}

adds_ticked : {A : Type 0} (s : Setting) (m : Run A) → Adds s m → Adds s (ticked m)
adds_ticked s m one = adds_then s tick (λ _. m) (adds_keeps s tick (record { keeps = λ x st su is. (keeps_tick_at st.left).keeps x st su is })) (λ _. one)

adds_choose : (s : Setting) (x : Val) (m n : Run Flow) → Adds s m → Adds s n → Adds s (choose x m n)
adds_choose s x m n one two = adds_flag s x (λ b. either b m n) (λ b. adds_either s b m n one two)

adds_turns : (s : Setting) (k : ℕ) (test : Run Val) (body : Run Flow) → Adds s test → Adds s body → Adds s (turns k test body)
adds_turns s zero test body one two = adds_keeps s _ (keeps_break _)
adds_turns s (suc k) test body one two =
    adds_then s test _ one (λ x. adds_choose s x (body >>= (λ flow. followed flow (turns k test body))) (give Next)
    (adds_then s body _ two (λ flow. adds_followed s flow (turns k test body) (adds_turns s k test body one two))) (adds_keeps s _ (keeps_give Next)))

adds_repeat : (s : Setting) (test : Run Val) (body : Run Flow) → Adds s test → Adds s body → Adds s (repeat test body)
adds_repeat s test body one two = record { adds = λ x st su is. (adds_turns s (st.left + 1) test body one two).adds x st su is }

adds_walk : (s : Setting) (xs : List Variable) (body : Run Flow) → Adds s body → Adds s (walk xs body)
adds_walk s [] body one = adds_keeps s _ (keeps_give Next)
adds_walk s (x ∷ xs) body one =
    adds_then s (scoped (declare x >>= (λ _. body))) _ (adds_scoped s _ (adds_then s (declare x) _ (adds_keeps s _ (keeps_declare x)) (λ _. one)))
    (λ flow. adds_followed s flow (walk xs body) (adds_walk s xs body one))

keeps_items : (s : Setting) (over : Range) → Keeps (items s over)
keeps_items s range.Activities = keeps_then (read.activities s) _ (keeps_activities s) (λ refs. keeps_give _)
keeps_items s (range.Children relation) = keeps_then (read.children s relation.name) _ (keeps_children s relation.name) (λ refs. keeps_give _)

keeps_arguments : (s : Setting) (xs : List Term) → Keeps (arguments_of s xs)
keeps_arguments s [] = keeps_give []
keeps_arguments s (a ∷ more) = keeps_then (eval s a) _ (keeps_eval s a) (λ x. keeps_then (arguments_of s more) _ (keeps_arguments s more) (λ xs. keeps_give (x ∷ xs)))

-- calls that add guarded effects, whoever is called
abbrev CallsAdd : Setting → Calling → Type 0
CallsAdd s call = (b n : ℕ) (e : Ref) (xs : List Val) (keeps : Bool) → Adds s (call b n e xs keeps)

adds_call : (s : Setting) (call : Calling) (c : Call) → CallsAdd s call → Adds s (does_call s call c)
adds_call s call c calls =
    adds_then s (read.child s c.child) _ (adds_keeps s _ (keeps_child s c.child)) (λ e. adds_then s (arguments_of s c.arguments) _ (adds_keeps s _ (keeps_arguments s c.arguments)) (λ xs. calls c.block c.method e xs c.keeps))

mutual
  adds_act : (s : Setting) (call : Calling) → CallsAdd s call → (x : Step) → Adds s (act s call x)
  adds_act s call calls (p.Assign a) = adds_next s _ (adds_assigns s a)
  adds_act s call calls (p.Entity e) = adds_next s _ (adds_on_entities s e)
  adds_act s call calls (p.Activity a) = adds_next s _ (adds_on_activities s a)
  adds_act s call calls (p.Timer t) = adds_next s _ (adds_on_timers s t)
  adds_act s call calls (p.Say x) = adds_says s x
  adds_act s call calls (p.Invoke c) = adds_next s _ (adds_call s call c calls)
  adds_act s call calls (p.If a body other) =
      adds_then s (eval s a) _ (adds_keeps s _ (keeps_eval s a)) (λ x. adds_choose s x (scoped (act_all s call body)) (scoped (act_all s call other)) (adds_scoped s _ (adds_all s call calls body)) (adds_scoped s _ (adds_all s call calls other)))
  adds_act s call calls (p.While a body) = adds_repeat s (eval s a) (scoped (act_all s call body)) (adds_keeps s _ (keeps_eval s a)) (adds_scoped s _ (adds_all s call calls body))
  adds_act s call calls (p.For over body) = adds_then s (items s over) _ (adds_keeps s _ (keeps_items s over)) (λ xs. adds_walk s xs (act_all s call body) (adds_all s call calls body))

  adds_all : (s : Setting) (call : Calling) → CallsAdd s call → (steps : Steps) → Adds s (act_all s call steps)
  adds_all s call calls p.Nothing = adds_keeps s _ (keeps_give Next)
  adds_all s call calls (p.Then x rest) = adds_then s (ticked (act s call x)) _ (adds_ticked s (act s call x) (adds_act s call calls x)) (λ flow. adds_followed s flow (act_all s call rest) (adds_all s call calls rest))

adds_apart : {A : Type 0} (s : Setting) (variables : List Variable) (m : Run A) → Adds s m → Adds s (apart variables m)
adds_apart s variables m one = record {
  adds = λ x st su is.
      let q = then_gave (m (record st { variables = variables })) (λ y new. Gave y (record new { variables = st.variables })) x su is in
      let a = one.adds q.0 (record st { variables = variables }) q.1 q.2 in
      (a.0, ap (λ (v : running.State). v.effects) (sym (gave_parts q.0 x (record q.1 { variables = st.variables }) su q.3).1) ∙ a.1, a.2);
}

keeps_result : (flow : Flow) (k : Option Kind) → Keeps (result_of flow k)
keeps_result (Returned x) k = keeps_give x
keeps_result Next (Some k) = keeps_give _
keeps_result Next None = keeps_stay

keeps_kept : (b : Bool) (flow : Flow) (k : Option Kind) → Keeps (keep_result b flow k)
keeps_kept false flow k = keeps_give tt
keeps_kept true flow k = keeps_then (result_of flow k) _ (keeps_result flow k) (λ x. keeps_declare (Holds x))

-- another entity of the same run
same_run : {A : Type 0} (s : Setting) (block : BlockProgram) (e : Ref) (m : Run A) → Adds (setting_in s block e) m → Adds s m
same_run s block e m one = record { adds = one.adds }

calls_add : (s : Setting) (program : Program) (more : ℕ) → CallsAdd s (call_at s program more)
unfolding call_at
calls_add s program zero b n e xs keeps = adds_keeps s _ (keeps_break _)
calls_add s program (suc more) b n e xs keeps =
    adds_then s (found (slice_get program b)) _ (adds_keeps s _ (keeps_found (slice_get program b))) (λ block. adds_then s (found (slice_get block.methods n)) _ (adds_keeps s _ (keeps_found (slice_get block.methods n)))
    (λ (method : MethodProgram). adds_then s (apart (map Holds xs) (act_all (setting_in s block e) (call_at s program more) method.steps)) _
    (adds_apart s (map Holds xs) _ (same_run s block e _ (adds_all (setting_in s block e) (call_at s program more) (λ c k f ys keep. record { adds = (calls_add s program more c k f ys keep).adds }) method.steps)))
    (λ flow. adds_keeps s _ (keeps_kept keeps flow method.result))))

-- the effects of a run are guarded
pub run_is_guarded : (s : Setting) (program : Program) (steps : Steps) (flow : Flow) (st su : running.State) → act_all s (call_at s program 8) steps st ≡ Gave flow su
    → (new : List Effect) × (su.effects ≡ st.effects ++ new) × Guarded s.answers (s.effects ++ st.effects) new
run_is_guarded s program steps flow st su is = (adds_all s (call_at s program 8) (calls_add s program 8) steps).adds flow st su is
