-- A run over two functions from keys to answers: where they agree on the keys that it read, it ends alike, and a key that it lacked over fewer answers is read over more.
use Rattle.std.proofs.Common.{◌≡◌, ◌+◌, true, false, Bool, ℕ, zero, suc, List, [], ◌∷◌, ◌++◌, length, Option, Some, None, refl, sym, ap, ◌∙◌, subst, append-nil, append_assoc}
use Rattle.std.specs.Prelude.{ℤ, ◌||◌, ◌&&◌, ◌==◌, nat_lt, cond, bytes_eq}
use Rattle.std.specs.List.{list_any}
use native.Mathlib.Omega.{arith}
use Rattle.std.proofs.lemmas.Bool.Decides.{nat_tests}
use Rattle.std.proofs.lemmas.Slice.Eq.{bytes_eq-Decides}
use Rattle.std.proofs.lemmas.List.Folds.{list_any-append}
use Rattle.slee_value.specs.declared.value.Value.TheVariants as v
use Rattle.slee_effect.specs.declared.reference.Ref.{Ref}
use Rattle.slee_effect.specs.declared.value.Val.{Val}
use Rattle.slee_effect.specs.declared.value.Val.TheVariants.{Plain, NewActivity, NewTimer}
use Rattle.script_meaning.specs.declared.key.Key.{Key}
use Rattle.script_meaning.specs.declared.key.Key.TheVariants as keys
use Rattle.script_meaning.specs.declared.seen.Seen.{Seen}
use Rattle.script_meaning.specs.declared.outcome.FailKind.{FailKind}
use Rattle.script_meaning.specs.declared.outcome.FailKind.TheVariants as f
use Rattle.script_meaning.specs.Seeing.{same_key}
use Rattle.script_meaning.specs.Answers.{Answers}
use Rattle.script_meaning.specs.Running.{Setting, State, Ending, Gave, Broke, Needs, Stays, Run, then_run, give, break, tested, tick_at, ticked, observe, answered, look, key_limit}
use Rattle.script_meaning.specs.Values.{with_int, with_text, with_flag, with_activity, with_timer}
use Rattle.script_laws.specs.Dependence.{Extends, Agree}

-- keys that stand in front of others
abbrev pub Longer : List Key → List Key → Type 0
Longer keys all = (more : List Key) × (all ≡ keys ++ more)

pub longer_same : (keys : List Key) → Longer keys keys
longer_same keys = ([], sym (append-nil keys))

longer_then : (xs ys zs : List Key) → Longer xs ys → Longer ys zs → Longer xs zs
longer_then xs ys zs g h = (g.0 ++ h.0, h.1 ∙ ap (λ k. k ++ h.0) g.1 ∙ append_assoc xs g.0 h.0)

or_left : (a b c : Bool) → (a || b) ≡ true → (a || (b || c)) ≡ true
or_left true b c h = refl
or_left false true c h = refl
or_left false false c h = cc

-- a key that was read is one of those that were read later
read_before : (m : Setting) (key : Key) (xs ys : List Key) → Longer xs ys → (list_any (same_key key) m.keys || list_any (same_key key) xs) ≡ true → (list_any (same_key key) m.keys || list_any (same_key key) ys) ≡ true
read_before m key xs ys g there =
    ap (λ k. list_any (same_key key) m.keys || list_any (same_key key) k) g.1 ∙ ap (λ b. list_any (same_key key) m.keys || b) (list_any-append (same_key key) xs g.0) ∙ or_left (list_any (same_key key) m.keys) (list_any (same_key key) xs) (list_any (same_key key) g.0) there

agree_before : (m : Setting) (other : Answers) (xs ys : List Key) → Longer xs ys → Agree m other ys → Agree m other xs
agree_before m other xs ys g h key seen there =
    h key seen (read_before m key xs ys g there)

-- what agrees on all keys agrees on these
agree_by : (m : Setting) (other : Answers) (keys : List Key) → Extends m.answers other → Agree m other keys
agree_by m other keys h key seen there is = h key seen is

-- the keys that were read before stand in front, where there are any
abbrev Grows : {A : Type 0} → State → Ending A → Type 0
Grows st (Gave x new) = Longer st.keys new.keys
Grows st (Broke kind text new) = Longer st.keys new.keys
Grows st (Needs key) = Unit {0}
Grows st Stays = Unit {0}

-- if the end was reached, a key is one of those that were read, and has an answer
abbrev pub HasRead : {A : Type 0} → Setting → Answers → Key → Ending A → Type 0
HasRead m other key (Gave x new) = ((list_any (same_key key) m.keys || list_any (same_key key) new.keys) ≡ true) × (other key ≡ None → ⊥)
HasRead m other key (Broke kind text new) = ((list_any (same_key key) m.keys || list_any (same_key key) new.keys) ≡ true) × (other key ≡ None → ⊥)
HasRead m other key (Needs lacked) = Unit {0}
HasRead m other key Stays = Unit {0}

-- The second ending is the first one wherever the answers agree on the keys that were read up to there; a key that the first one lacked is read on the way to the second.
abbrev Follows : {A : Type 0} → Setting → Answers → State → Ending A → Ending A → Type 0
Follows m other st (Gave x new) r = Longer st.keys new.keys × (Agree m other new.keys → r ≡ Gave x new)
Follows m other st (Broke kind text new) r = Longer st.keys new.keys × (Agree m other new.keys → r ≡ Broke kind text new)
Follows m other st (Needs key) r = Extends m.answers other → HasRead m other key r
Follows m other st Stays r = Unit {0}

abbrev pub Like : {A : Type 0} → Setting → Answers → State → Ending A → Ending A → Type 0
Like m other st e r = Grows st r × Follows m other st e r

grows_after : {A : Type 0} (st mid : State) (e : Ending A) → Longer st.keys mid.keys → Grows mid e → Grows st e
grows_after st mid (Gave x new) g h = longer_then st.keys mid.keys new.keys g h
grows_after st mid (Broke kind text new) g h = longer_then st.keys mid.keys new.keys g h
grows_after st mid (Needs key) g h = tt
grows_after st mid Stays g h = tt

grows_then : {A B : Type 0} (st : State) (r : Ending A) (g : A → Run B) → Grows st r → ((x : A) (mid : State) → Grows mid (g x mid)) → Grows st (then_run r g)
grows_then st (Gave x mid) g h go = grows_after st mid (g x mid) h (go x mid)
grows_then st (Broke kind text new) g h go = h
grows_then st (Needs key) g h go = tt
grows_then st Stays g h go = tt

read_after : {A : Type 0} (m : Setting) (other : Answers) (key : Key) (mid : State) (e : Ending A) → (list_any (same_key key) m.keys || list_any (same_key key) mid.keys) ≡ true → (other key ≡ None → ⊥) → Grows mid e → HasRead m other key e
read_after m other key mid (Gave x new) there known h = (read_before m key mid.keys new.keys h there, known)
read_after m other key mid (Broke kind text new) there known h = (read_before m key mid.keys new.keys h there, known)
read_after m other key mid (Needs lacked) there known h = tt
read_after m other key mid Stays there known h = tt

read_then : {A B : Type 0} (m : Setting) (other : Answers) (key : Key) (r : Ending A) (g : A → Run B) → HasRead m other key r → ((x : A) (mid : State) → Grows mid (g x mid)) → HasRead m other key (then_run r g)
read_then m other key (Gave x mid) g h go = read_after m other key mid (g x mid) h.0 h.1 (go x mid)
read_then m other key (Broke kind text new) g h go = h
read_then m other key (Needs lacked) g h go = tt
read_then m other key Stays g h go = tt

-- what comes behind a part that ended alike
follows_behind : {A B : Type 0} (m : Setting) (other : Answers) (st mid : State) (x : A) (r : Ending A) (e : Ending B) (g : A → Run B) → Longer st.keys mid.keys → (Agree m other mid.keys → r ≡ Gave x mid) → Follows m other mid e (g x mid) → Follows m other st e (then_run r g)
follows_behind m other st mid x r (Gave y new) g first is h = (longer_then st.keys mid.keys new.keys first h.0, λ agree. ap (λ z. then_run z g) (is (agree_before m other mid.keys new.keys h.0 agree)) ∙ h.1 agree)
follows_behind m other st mid x r (Broke kind text new) g first is h = (longer_then st.keys mid.keys new.keys first h.0, λ agree. ap (λ z. then_run z g) (is (agree_before m other mid.keys new.keys h.0 agree)) ∙ h.1 agree)
follows_behind m other st mid x r (Needs key) g first is h = λ more. subst (λ z. HasRead m other key (then_run z g)) (sym (is (agree_by m other mid.keys more))) (h more)
follows_behind m other st mid x r Stays g first is h = tt

follows_then : {A B : Type 0} (m : Setting) (other : Answers) (st : State) (e r : Ending A) (f g : A → Run B) → Follows m other st e r → ((x : A) (mid : State) → Like m other mid (f x mid) (g x mid)) → Follows m other st (then_run e f) (then_run r g)
follows_then m other st (Gave x mid) r f g h go = follows_behind m other st mid x r (f x mid) g h.0 h.1 (go x mid).1
follows_then m other st (Broke kind text new) r f g h go = (h.0, λ agree. ap (λ z. then_run z g) (h.1 agree))
follows_then m other st (Needs key) r f g h go = λ more. read_then m other key r g (h more) (λ x mid. (go x mid).0)
follows_then m other st Stays r f g h go = tt

pub like_then : {A B : Type 0} (m : Setting) (other : Answers) (st : State) (e r : Ending A) (f g : A → Run B) → Like m other st e r → ((x : A) (mid : State) → Like m other mid (f x mid) (g x mid)) → Like m other st (then_run e f) (then_run r g)
like_then m other st e r f g h go = (grows_then st r g h.0 (λ x mid. (go x mid).0), follows_then m other st e r f g h.1 go)

-- an ending is like itself, where no key was lacked
pub like_gave : {A : Type 0} (m : Setting) (other : Answers) (st : State) (x : A) (new : State) → Longer st.keys new.keys → Like m other st (Gave x new) (Gave x new)
like_gave m other st x new longer = (longer, (longer, λ agree. refl))

pub like_broke : {A : Type 0} (m : Setting) (other : Answers) (st : State) (kind : FailKind) (text : List ℕ) (new : State) → Longer st.keys new.keys → (let r : Ending A = Broke kind text new in Like m other st r r)
like_broke m other st kind text new longer = (longer, (longer, λ agree. refl))

pub like_give : {A : Type 0} (m : Setting) (other : Answers) (st : State) (x : A) → Like m other st (give x st) (give x st)
like_give m other st x = like_gave m other st x st (longer_same st.keys)

pub like_break : {A : Type 0} (m : Setting) (other : Answers) (st : State) (kind : FailKind) → (let r : Run A = break kind in Like m other st (r st) (r st))
like_break m other st kind = (longer_same st.keys, (longer_same st.keys, λ agree. refl))

pub like_cond : {A : Type 0} (m : Setting) (other : Answers) (st : State) (b : Bool) (x y p q : Run A) → Like m other st (x st) (p st) → Like m other st (y st) (q st) → Like m other st (cond b x y st) (cond b p q st)
like_cond m other st true x y p q g h = g
like_cond m other st false x y p q g h = h

pub like_ending : {A : Type 0} (m : Setting) (other : Answers) (st : State) (b : Bool) (x y p q : Ending A) → Like m other st x p → Like m other st y q → Like m other st (cond b x y) (cond b p q)
like_ending m other st true x y p q g h = g
like_ending m other st false x y p q g h = h

grows_from : {A : Type 0} (st mid : State) (r : Ending A) → st.keys ≡ mid.keys → Grows mid r → Grows st r
grows_from st mid (Gave x new) same h = subst (λ k. Longer k new.keys) (sym same) h
grows_from st mid (Broke kind text new) same h = subst (λ k. Longer k new.keys) (sym same) h
grows_from st mid (Needs key) same h = tt
grows_from st mid Stays same h = tt

follows_from : {A : Type 0} (m : Setting) (other : Answers) (st mid : State) (e r : Ending A) → st.keys ≡ mid.keys → Follows m other mid e r → Follows m other st e r
follows_from m other st mid (Gave x new) r same h = (subst (λ k. Longer k new.keys) (sym same) h.0, h.1)
follows_from m other st mid (Broke kind text new) r same h = (subst (λ k. Longer k new.keys) (sym same) h.0, h.1)
follows_from m other st mid (Needs key) r same h = h
follows_from m other st mid Stays r same h = tt

-- the same from a state with the same keys
pub like_from : {A : Type 0} (m : Setting) (other : Answers) (st mid : State) (e r : Ending A) → st.keys ≡ mid.keys → Like m other mid e r → Like m other st e r
like_from m other st mid e r same h = (grows_from st mid r same h.0, follows_from m other st mid e r same h.1)

like_tick_at : {A : Type 0} (m : Setting) (other : Answers) (x y : Run A) (n : ℕ) (st : State) → ((left : ℕ) → Like m other (record st { left = left }) (x (record st { left = left })) (y (record st { left = left }))) → Like m other st (then_run (tick_at n st) (λ _. x)) (then_run (tick_at n st) (λ _. y))
like_tick_at m other x y zero st h = (longer_same st.keys, (longer_same st.keys, λ agree. refl))
like_tick_at m other x y (suc n) st h = like_from m other st (record st { left = n }) (x (record st { left = n })) (y (record st { left = n })) refl (h n)

pub like_tick : {A : Type 0} (m : Setting) (other : Answers) (x y : Run A) (st : State) → ((st : State) → Like m other st (x st) (y st)) → Like m other st (ticked x st) (ticked y st)
like_tick m other x y st h = like_tick_at m other x y st.left st (λ left. h (record st { left = left }))

pub like_tested : {A : Type 0} (m : Setting) (other : Answers) (kind : FailKind) (b : Bool) (x y : Run A) (st : State) → Like m other st (x st) (y st) → Like m other st (then_run (tested kind b st) (λ _. x)) (then_run (tested kind b st) (λ _. y))
like_tested m other kind true x y st h = h
like_tested m other kind false x y st h = (longer_same st.keys, (longer_same st.keys, λ agree. refl))

pub like_int : {A : Type 0} (m : Setting) (other : Answers) (x : Val) (f g : ℤ → Run A) (st : State) → ((n : ℤ) → Like m other st (f n st) (g n st)) → Like m other st (with_int x f st) (with_int x g st)
like_int m other (Plain (v.Int n)) f g st h = h n
like_int m other _ f g st h = (tt, tt)

pub like_text : {A : Type 0} (m : Setting) (other : Answers) (x : Val) (f g : List ℕ → Run A) (st : State) → ((n : List ℕ) → Like m other st (f n st) (g n st)) → Like m other st (with_text x f st) (with_text x g st)
like_text m other (Plain (v.Text n)) f g st h = h n
like_text m other _ f g st h = (tt, tt)

pub like_flag : {A : Type 0} (m : Setting) (other : Answers) (x : Val) (f g : Bool → Run A) (st : State) → ((n : Bool) → Like m other st (f n st) (g n st)) → Like m other st (with_flag x f st) (with_flag x g st)
like_flag m other (Plain (v.Bool n)) f g st h = h n
like_flag m other _ f g st h = (tt, tt)

pub like_activity : {A : Type 0} (m : Setting) (other : Answers) (x : Val) (f g : Ref → Run A) (st : State) → ((n : Ref) → Like m other st (f n st) (g n st)) → Like m other st (with_activity x f st) (with_activity x g st)
like_activity m other (Plain (v.Activity n)) f g st h = h _
like_activity m other (NewActivity n) f g st h = h _
like_activity m other _ f g st h = (tt, tt)

pub like_timer : {A : Type 0} (m : Setting) (other : Answers) (x : Val) (f g : Ref → Run A) (st : State) → ((n : Ref) → Like m other st (f n st) (g n st)) → Like m other st (with_timer x f st) (with_timer x g st)
like_timer m other (Plain (v.Timer n)) f g st h = h _
like_timer m other (NewTimer n) f g st h = h _
like_timer m other _ f g st h = (tt, tt)

-- behind its reading a key is one of those that were read
abbrev IsRead : Setting → Key → State → Ending (Unit {0}) → Type 0
IsRead m key st (Gave x new) = Longer st.keys new.keys × ((list_any (same_key key) m.keys || list_any (same_key key) new.keys) ≡ true)
IsRead m key st (Broke kind text new) = new.keys ≡ st.keys
IsRead m key st _ = Unit {0}

pub flags_same : (n : ℕ) → (n == n) ≡ true
flags_same n = grind (arith, nat_tests)

pub texts_same : (x : List ℕ) → bytes_eq x x ≡ true
texts_same x = (bytes_eq-Decides x x).1 refl

pub both_same : (a b : Bool) → a ≡ true → b ≡ true → (a && b) ≡ true
both_same true true g h = refl
both_same true false g h = cc
both_same false b g h = cc

pub key_is_itself : (key : Key) → same_key key key ≡ true
key_is_itself (keys.Next a) = flags_same a.0
key_is_itself (keys.Field e x) = both_same (e.0 == e.0) (bytes_eq x x) (flags_same e.0) (texts_same x)
key_is_itself (keys.Children e x) = both_same (e.0 == e.0) (bytes_eq x x) (flags_same e.0) (texts_same x)
key_is_itself (keys.Priority e) = flags_same e.0
key_is_itself (keys.AcState a) = flags_same a.0
key_is_itself (keys.Attr a x) = both_same (a.0 == a.0) (bytes_eq x x) (flags_same a.0) (texts_same x)
key_is_itself (keys.Attached e a) = both_same (e.0 == e.0) (a.0 == a.0) (flags_same e.0) (flags_same a.0)
key_is_itself (keys.Mask e a) = both_same (e.0 == e.0) (a.0 == a.0) (flags_same e.0) (flags_same a.0)
key_is_itself (keys.Named x) = texts_same x
key_is_itself (keys.Timer t) = flags_same t.0
key_is_itself (keys.Profile t x) = both_same (bytes_eq t t) (bytes_eq x x) (texts_same t) (texts_same x)
key_is_itself keys.Now = refl
key_is_itself (keys.Activities e) = flags_same e.0

or_right : (a b c : Bool) → c ≡ true → (a || (b || c)) ≡ true
or_right true b c h = refl
or_right false true c h = refl
or_right false false c h = h

new_read : (m : Setting) (key : Key) (st : State) (b : Bool) → (let new : Ending (Unit {0}) = Gave tt (record st { keys = st.keys ++ key ∷ [] }) in let full : Ending (Unit {0}) = break f.Observed st in IsRead m key st (cond b new full))
new_read m key st true = ((key ∷ [], refl), ap (λ b. list_any (same_key key) m.keys || b) (list_any-append (same_key key) st.keys (key ∷ [])) ∙ or_right (list_any (same_key key) m.keys) (list_any (same_key key) st.keys) (list_any (same_key key) (key ∷ [])) (ap (λ b. b || false) (key_is_itself key)))
new_read m key st false = refl

old_read : (m : Setting) (key : Key) (st : State) (b : Bool) (rest : Ending (Unit {0})) → (list_any (same_key key) m.keys || list_any (same_key key) st.keys) ≡ b → IsRead m key st rest → IsRead m key st (cond b (Gave tt st) rest)
old_read m key st true rest h r = (longer_same st.keys, h)
old_read m key st false rest h r = r

observe_reads : (m : Setting) (key : Key) (st : State) → IsRead m key st (observe m key st)
unfolding observe
observe_reads m key st = old_read m key st (list_any (same_key key) m.keys || list_any (same_key key) st.keys) (cond (nat_lt (length m.keys + length st.keys) key_limit) (Gave tt (record st { keys = st.keys ++ key ∷ [] })) (break f.Observed st)) refl (new_read m key st (nat_lt (length m.keys + length st.keys) key_limit))

answered_grows : (st new : State) (key : Key) (o : Option Seen) → Longer st.keys new.keys → Grows st (answered o key new)
answered_grows st new key None longer = tt
answered_grows st new key (Some seen) longer = longer

some_is_there : (seen : Seen) → Some seen ≡ None → ⊥
some_is_there seen h = cc

answered_reads : (m : Setting) (other : Answers) (new : State) (key : Key) (o : Option Seen) → other key ≡ o → (list_any (same_key key) m.keys || list_any (same_key key) new.keys) ≡ true → HasRead m other key (answered o key new)
answered_reads m other new key None is there = tt
answered_reads m other new key (Some seen) is there = (there, λ none. some_is_there seen (sym is ∙ none))

answer_follows : (m : Setting) (other : Answers) (key : Key) (st new : State) (o : Option Seen) → m.answers key ≡ o → Longer st.keys new.keys → (list_any (same_key key) m.keys || list_any (same_key key) new.keys) ≡ true → Follows m other st (answered o key new) (answered (other key) key new)
answer_follows m other key st new None is longer there = λ more. answered_reads m other new key (other key) refl there
answer_follows m other key st new (Some seen) is longer there = (longer, λ agree. ap (λ o. answered o key new) (agree key seen there is))

answers_like : (m : Setting) (other : Answers) (key : Key) (st : State) (r : Ending (Unit {0})) → IsRead m key st r → Like m other st (then_run r (λ _. answered (m.answers key) key)) (then_run r (λ _. answered (other key) key))
answers_like m other key st (Gave x new) h = (answered_grows st new key (other key) h.0, answer_follows m other key st new (m.answers key) refl h.0 h.1)
answers_like m other key st (Broke kind text new) h = let longer : Longer st.keys new.keys = ([], h ∙ sym (append-nil st.keys)) in (longer, (longer, λ agree. refl))
answers_like m other key st (Needs k) h = (tt, λ more. tt)
answers_like m other key st Stays h = (tt, tt)

observe_same : (m : Setting) (other : Answers) (key : Key) (st : State) → observe (record m { answers = other }) key st ≡ observe m key st
unfolding observe
observe_same m other key st = refl

pub look_like : (m : Setting) (other : Answers) (key : Option Key) (st : State) → Like m other st (look m key st) (look (record m { answers = other }) key st)
look_like m other None st = like_give {A = Option Seen} m other st None
look_like m other (Some key) st = subst (λ r. Like m other st (then_run (observe m key st) (λ _. answered (m.answers key) key)) (then_run r (λ _. answered (other key) key))) (sym (observe_same m other key st)) (answers_like m other key st (observe m key st) (observe_reads m key st))
