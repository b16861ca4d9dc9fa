-- What a script means depends on the answers to the keys that it read, and over more answers it goes the same way.
use Rattle.std.proofs.Common.{◌≡◌, true, false, Bool, ℕ, zero, suc, List, [], map, Option, Some, None, refl, sym, ap, ◌∙◌, subst}
use Rattle.std.specs.Prelude.{◌||◌, cond, codes, slice_get}
use Rattle.std.specs.List.{list_any}
use Rattle.slee_value.specs.declared.ids.EntityId.{EntityId}
use Rattle.slee_value.specs.declared.kind.Kind.{Kind}
use Rattle.script_types.specs.Program.{Steps, BlockProgram, Program}
use Rattle.script_meaning.specs.declared.key.Key.{Key}
use Rattle.script_meaning.specs.declared.outcome.Args.{Args}
use Rattle.script_meaning.specs.declared.outcome.Outcome.{Outcome}
use Rattle.script_meaning.specs.declared.outcome.Outcome.TheVariants as outcomes
use Rattle.script_meaning.specs.declared.outcome.FailKind.TheVariants as f
use Rattle.script_meaning.specs.Seeing.{same_key}
use Rattle.script_meaning.specs.Answers.{Answers}
use Rattle.script_meaning.specs.Running.{Setting, Variable, Holds, State, Ending, Gave, Broke, Needs, Stays, Run, found, declare}
use Rattle.script_meaning.specs.Steps.{Flow, Next, Returned, act_all}
use Rattle.script_meaning.specs.Calls.{apart, result_of, keep_result, setting_in, call_at}
use Rattle.script_meaning.specs.Meaning.{Before, Report, Meaning, Done, Need, setting_of, start, report_of, report, meaning_in}
use Rattle.script_laws.specs.Dependence.{Extends, Agree}
use Rattle.script_laws.proofs.Likeness.{longer_same, HasRead, Like, like_then, like_give, like_break, like_from}
use Rattle.script_laws.proofs.LikeTerms.{over}
use Rattle.script_laws.proofs.LikeSteps.{Alike, AlikeCalls, act_all_like}

restored_like : (m : Setting) (other : Answers) (variables : List Variable) (flow : Flow) (st : State) → Like m other st (Gave flow (record st { variables = variables })) (Gave flow (record st { variables = variables }))
restored_like m other variables flow st = (longer_same st.keys, (longer_same st.keys, λ agree. refl))

apart_like : (m : Setting) (other : Answers) (variables : List Variable) (x y : Run Flow) (st : State) → Alike m other x y → Like m other st (apart variables x st) (apart variables y st)
apart_like m other variables x y st h =
    let inner : State = record st { variables = variables } in
    like_then m other st (x inner) (y inner) (λ v new. Gave v (record new { variables = st.variables })) (λ v new. Gave v (record new { variables = st.variables }))
    (like_from m other st inner (x inner) (y inner) refl (h inner)) (λ flow mid. restored_like m other st.variables flow mid)

result_like : (m : Setting) (other : Answers) (flow : Flow) (kind : Option Kind) (st : State) → Like m other st (result_of flow kind st) (result_of flow kind st)
result_like m other (Returned x) kind st = like_give m other st x
result_like m other Next (Some kind) st = like_give m other st _
result_like m other Next None st = (tt, tt)

keep_like : (m : Setting) (other : Answers) (keeps : Bool) (flow : Flow) (kind : Option Kind) (st : State) → Like m other st (keep_result keeps flow kind st) (keep_result keeps flow kind st)
keep_like m other false flow kind st = like_give m other st _
keep_like m other true flow kind st = like_then m other st (result_of flow kind st) (result_of flow kind st) (λ x. declare (Holds x)) (λ x. declare (Holds x)) (result_like m other flow kind st) (λ x mid. (longer_same mid.keys, (longer_same mid.keys, λ agree. refl)))

found_like : {A : Type 0} (m : Setting) (other : Answers) (o : Option A) (st : State) → Like m other st (found o st) (found o st)
found_like m other None st = (tt, tt)
found_like m other (Some x) st = like_give m other st x

calls_like : (m : Setting) (other : Answers) (program : Program) (d : ℕ) → AlikeCalls m other (call_at m program d) (call_at (over m other) program d)
unfolding call_at
calls_like m other program zero b n e xs keeps st = like_break m other st f.Depth
calls_like m other program (suc d) b n e xs keeps st =
    like_then m other st (found (slice_get program b) st) (found (slice_get program b) st) _ _ (found_like m other (slice_get program b) st) (λ block mid.
    like_then m other mid (found (slice_get block.methods n) mid) (found (slice_get block.methods n) mid) _ _ (found_like m other (slice_get block.methods n) mid) (λ method s.
    let run : Run Flow = act_all (setting_in m block e) (call_at m program d) method.steps in
    let too : Run Flow = act_all (setting_in (over m other) block e) (call_at (over m other) program d) method.steps in
    like_then m other s (apart (map Holds xs) run s) (apart (map Holds xs) too s) (λ flow. keep_result keeps flow method.result) (λ flow. keep_result keeps flow method.result)
    (apart_like m other (map Holds xs) run too s (λ u. act_all_like (setting_in m block e) other (call_at m program d) (call_at (over m other) program d) (calls_like m other program d) method.steps u))
    (λ flow t. keep_like m other keeps flow method.result t)))

cond_keys : (b : Bool) (x y : Meaning) (keys : List Key) (r : Report) → ((q : Report) → x ≡ Done q → q.keys ≡ keys) → ((q : Report) → y ≡ Done q → q.keys ≡ keys) → cond b x y ≡ Done r → r.keys ≡ keys
cond_keys true x y keys r g h e = g r e
cond_keys false x y keys r g h e = h r e

done_same : (q r : Report) → Done q ≡ Done r → q ≡ r
done_same q r e = cc

done_keys : (outcome : Outcome) (failure : List ℕ) (st : State) (r : Report) → report_of outcome failure st ≡ Done r → r.keys ≡ st.keys
done_keys outcome failure st r e = ap (λ q. q.keys) (sym (done_same _ r e))

report_like : (m : Setting) (other : Answers) (e r : Ending Flow) (st : State) (q : Report) → Like m other st e r → report e ≡ Done q → Agree m other q.keys → report r ≡ Done q
report_like m other (Gave flow new) r st q h e agree =
    let same : q.keys ≡ new.keys = cond_keys new.asked (report_of outcomes.Asked (codes "asked") new) (report_of outcomes.Fine [] new) new.keys q (λ z. done_keys outcomes.Asked (codes "asked") new z) (λ z. done_keys outcomes.Fine [] new z) e in
    ap report (h.1.1 (subst (Agree m other) same agree)) ∙ e
report_like m other (Broke kind text new) r st q h e agree =
    let same : q.keys ≡ new.keys = done_keys (outcomes.Broken kind) text new q e in
    ap report (h.1.1 (subst (Agree m other) same agree)) ∙ e
report_like m other (Needs key) r st q h e agree = cc
report_like m other Stays r st q h e agree = cc

-- the answers agree on what this run read where they agree on all
pub meaning_goes_on : (answers other : Answers) (program : Program) (block : BlockProgram) (steps : Steps) (e : EntityId) (arguments : Args) (before : Before) (q : Report) → meaning_in answers program block steps e arguments before ≡ Done q → Agree (setting_of answers block e arguments before) other q.keys → meaning_in other program block steps e arguments before ≡ Done q
unfolding meaning_in
meaning_goes_on answers other program block steps e arguments before q done agree =
    let s : Setting = setting_of answers block e arguments before in
    report_like s other (act_all s (call_at s program 8) steps start) (act_all (over s other) (call_at (over s other) program 8) steps start) start q
    (act_all_like s other (call_at s program 8) (call_at (over s other) program 8) (calls_like s other program 8) steps start) done agree

pub meaning_depends : (answers other : Answers) (program : Program) (block : BlockProgram) (steps : Steps) (e : EntityId) (arguments : Args) (before : Before) (q : Report) → meaning_in answers program block steps e arguments before ≡ Done q → ((key : Key) → (list_any (same_key key) before.keys || list_any (same_key key) q.keys) ≡ true → answers key ≡ other key) → meaning_in other program block steps e arguments before ≡ Done q
meaning_depends answers other program block steps e arguments before q done agree =
    meaning_goes_on answers other program block steps e arguments before q done (λ key seen there is. sym (agree key there) ∙ is)

-- a run that came to its end over some answers comes to the same over more
pub meaning_stays : (answers other : Answers) (program : Program) (block : BlockProgram) (steps : Steps) (e : EntityId) (arguments : Args) (before : Before) (q : Report) → Extends answers other → meaning_in answers program block steps e arguments before ≡ Done q → meaning_in other program block steps e arguments before ≡ Done q
meaning_stays answers other program block steps e arguments before q more done =
    meaning_goes_on answers other program block steps e arguments before q done (λ key seen there is. more key seen is)

neither_needs : (b : Bool) (x y : Report) (key : Key) → cond b (Done x) (Done y) ≡ Need key → ⊥
neither_needs true x y key e = cc
neither_needs false x y key e = cc

need_same : (k key : Key) → Need k ≡ Need key → k ≡ key
need_same k key e = cc

-- the key is one of those that were read on the way to an end, and has an answer
end_reads : (m : Setting) (other : Answers) (key : Key) (r : Ending Flow) (q : Report) → HasRead m other key r → report r ≡ Done q → ((list_any (same_key key) m.keys || list_any (same_key key) q.keys) ≡ true) × (other key ≡ None → ⊥)
end_reads m other key (Gave flow new) q h e =
    let same : q.keys ≡ new.keys = cond_keys new.asked (report_of outcomes.Asked (codes "asked") new) (report_of outcomes.Fine [] new) new.keys q (λ z. done_keys outcomes.Asked (codes "asked") new z) (λ z. done_keys outcomes.Fine [] new z) e in
    (ap (λ k. list_any (same_key key) m.keys || list_any (same_key key) k) same ∙ h.0, h.1)
end_reads m other key (Broke kind text new) q h e =
    (ap (λ k. list_any (same_key key) m.keys || list_any (same_key key) k) (done_keys (outcomes.Broken kind) text new q e) ∙ h.0, h.1)
end_reads m other key (Needs lacked) q h e = cc
end_reads m other key Stays q h e = cc

need_read : (m : Setting) (other : Answers) (e r : Ending Flow) (st : State) (key : Key) (q : Report) → Like m other st e r → Extends m.answers other → report e ≡ Need key → report r ≡ Done q → ((list_any (same_key key) m.keys || list_any (same_key key) q.keys) ≡ true) × (other key ≡ None → ⊥)
need_read m other (Gave flow new) r st key q h more lacks done = absurd (neither_needs new.asked _ _ key lacks)
need_read m other (Broke kind text new) r st key q h more lacks done = cc
need_read m other (Needs k) r st key q h more lacks done = end_reads m other key r q (subst (λ k. HasRead m other k r) (need_same k key lacks) (h.1 more)) done
need_read m other Stays r st key q h more lacks done = cc

meaning_lacks : (answers other : Answers) (program : Program) (block : BlockProgram) (steps : Steps) (e : EntityId) (arguments : Args) (before : Before) (key : Key) (q : Report) → Extends answers other → meaning_in answers program block steps e arguments before ≡ Need key → meaning_in other program block steps e arguments before ≡ Done q → ((list_any (same_key key) before.keys || list_any (same_key key) q.keys) ≡ true) × (other key ≡ None → ⊥)
unfolding meaning_in
meaning_lacks answers other program block steps e arguments before key q more lacks done =
    let s : Setting = setting_of answers block e arguments before in
    need_read s other (act_all s (call_at s program 8) steps start) (act_all (over s other) (call_at (over s other) program 8) steps start) start key q
    (act_all_like s other (call_at s program 8) (call_at (over s other) program 8) (calls_like s other program 8) steps start) more lacks done

-- a key that a run lacked is read by a run over more answers
pub meaning_reads : (answers other : Answers) (program : Program) (block : BlockProgram) (steps : Steps) (e : EntityId) (arguments : Args) (before : Before) (key : Key) (q : Report) → Extends answers other → meaning_in answers program block steps e arguments before ≡ Need key → meaning_in other program block steps e arguments before ≡ Done q → (list_any (same_key key) before.keys || list_any (same_key key) q.keys) ≡ true
meaning_reads answers other program block steps e arguments before key q more lacks done = (meaning_lacks answers other program block steps e arguments before key q more lacks done).0

-- where that key still has no answer, such a run doesn't come to its end
pub meaning_stays_short : (answers other : Answers) (program : Program) (block : BlockProgram) (steps : Steps) (e : EntityId) (arguments : Args) (before : Before) (key : Key) (q : Report) → Extends answers other → meaning_in answers program block steps e arguments before ≡ Need key → other key ≡ None → meaning_in other program block steps e arguments before ≡ Done q → ⊥
meaning_stays_short answers other program block steps e arguments before key q more lacks unknown done = (meaning_lacks answers other program block steps e arguments before key q more lacks done).1 unknown
