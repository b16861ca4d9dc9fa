-- Terms whose constants have spellings give values that have one, where all that a run is told of has.
use Rattle.std.proofs.Common.{◌≡◌, ◌+◌, ◌<◌, ◌≤◌, ◌^◌, Bool, true, false, not, ℕ, zero, suc, ℤ, List, [], ◌∷◌, ◌++◌, length, filter, map, Option, Some, None, refl, sym, ap, subst, arith, ◌+ℤ◌, ◌-ℤ◌, ◌*ℤ◌, neg_ℤ, int_div, int_rem}
use Rattle.std.specs.Prelude.{◌-◌, pos, negsuc, nat_le, int_lt, int_le, codes, slice_get, bytes_eq, ◌&&◌, if◌then◌else◌}
use Rattle.std.specs.Fmt.{signed_decimal}
use Rattle.std.specs.List.{AllByRecursion}
use Rattle.std.specs.Ordering.{int_eq}
use Rattle.std.specs.Str.{is_utf8}
use Rattle.std.proofs.lemmas.Bool.{and_from, and_parts, cond_both, lt-ltb, ltb-true, leb-true}
use Rattle.std.proofs.lemmas.Bool.Decides.{nat_tests}
use Rattle.std.proofs.lemmas.Fmt.{IsAscii-signed, length_signed_le}
use Rattle.std.proofs.lemmas.List.{length-append}
use Rattle.std.proofs.lemmas.Str.{IsUtf8-append, IsUtf8-from_ascii, IsUtf8-from_is_utf8}
use lib.Signed.{mag}
use Rattle.slee_value.specs.declared.kind.Kind.{Kind}
use Rattle.slee_value.specs.declared.kind.Kind.TheVariants as kinds
use Rattle.slee_value.specs.declared.value.Value.{Value}
use Rattle.slee_effect.specs.declared.reference.Ref.{Ref}
use Rattle.slee_effect.specs.declared.reference.Ref.TheVariants.{Known, Fresh}
use Rattle.slee_effect.specs.declared.value.Val.{Val}
use Rattle.slee_effect.specs.declared.value.Val.TheVariants.{Plain}
use Rattle.slee_effect.specs.declared.effect.Effect.{Effect}
use Rattle.slee_effect.specs.declared.effect.Effect.TheVariants as ef
use Rattle.script_types.specs.declared.term.Atom.{Atom}
use Rattle.script_types.specs.declared.term.Atom.TheVariants as a
use Rattle.script_types.specs.declared.term.Question.{Question}
use Rattle.script_types.specs.declared.term.Question.TheVariants as g
use Rattle.script_types.specs.declared.term.Joint.{Joint}
use Rattle.script_types.specs.declared.term.Joint.TheVariants as j
use Rattle.script_types.specs.declared.term.Scale.{Scale}
use Rattle.script_types.specs.declared.term.Scale.TheVariants as scale
use Rattle.script_types.specs.declared.term.Test.{Test}
use Rattle.script_types.specs.declared.term.Test.TheVariants as t
use Rattle.script_types.specs.Program.{Term, Single, Ask, Compare, Combine}
use Rattle.script_meaning.specs.declared.key.Key.TheVariants as keys
use Rattle.script_meaning.specs.declared.outcome.FailKind.TheVariants as f
use Rattle.script_meaning.specs.declared.seen.AcSeen.{AcSeen}
use Rattle.script_meaning.specs.declared.seen.Seen.{Seen}
use Rattle.script_meaning.specs.declared.seen.Seen.TheVariants as s
use Rattle.script_meaning.specs.Answers.{initial, is_of, fit, held_in, ids_in, number_in, activity_in, flag_in, masks_in, refers_in, row_in, value_under}
use Rattle.script_meaning.specs.Overlay.{entities_by, activities_by, timers_by, overlay, overlay_from, same_ref, field_after, attr_after, children_after, priority_after, activity_after, attached_after, masks_after, named_after, timer_after, activities_after, is_removed}
use Rattle.script_meaning.specs.Running.{Ending, Gave, Setting, Variable, Holds, Child, State, Run, give, break, ticked, look, found}
use Rattle.script_meaning.specs.Values.{int, text, activity_value, number, divided, joined, text_limit, apply, decides, same_values, is_less, compare}
use Rattle.script_meaning.specs.Observing as read
use Rattle.script_meaning.specs.Terms.{or_initial, field_at, single, is_masked, looked_up, in_row, of_row, row, ask, combine, node, eval}
use Rattle.router_laws_values.proofs.Texts.{empty_text, failure_text, utf8_text, word_text}
use Rattle.router_laws_values.specs.Spelled.{AnswerSpelled, AtomSpelled, EffectSpelled, IsSpelled, SettingSpelled, TermSpelled, VariableSpelled}
use Rattle.router_laws_values.proofs.SpelledRuns.{Any, Gives, IsAt, gives_activity, gives_cond, gives_flag, gives_int, gives_text, gives_tested, gives_then, gives_tick, gives_timer, look_gives, reads_gives}
use Rattle.router_state.specs.Fits.{is_i64, is_text, is_u32}

-- numbers and texts

number_fits : (n : ℤ) → (int_le (negsuc (2 ^ 63 - 1)) n && int_lt n (pos (2 ^ 63))) ≡ true → is_i64 n ≡ true
number_fits (pos n) is = grind (arith, nat_tests, is)
number_fits (negsuc n) is = grind (arith, nat_tests, is)

count_fits : (n : ℕ) → n < 2 ^ 63 → is_i64 (pos n) ≡ true
count_fits n less = grind (arith, nat_tests, less)

mag_fits : (n : ℤ) → is_i64 n ≡ true → mag n < 2 ^ 63
mag_fits (pos n) is = grind (arith, nat_tests, is)
mag_fits (negsuc n) is = grind (arith, nat_tests, is)

decimal_text : (n : ℤ) → is_i64 n ≡ true → is_text (signed_decimal n) ≡ true
decimal_text n is =
    let small = mag_fits n is in
    let short = length_signed_le 20 n (more (mag n) small) small in
    utf8_text (signed_decimal n) (IsUtf8-from_ascii (signed_decimal n) (IsAscii-signed n small)) (lt-ltb (length (signed_decimal n)) (2 ^ 32) (fits (length (signed_decimal n)) short))
  where
    more : (k : ℕ) → k < 2 ^ 63 → k + 1 < 10 ^ 20
    more k less = omega (arith, less)

    fits : (k : ℕ) → k ≤ 20 + 1 → k < 2 ^ 32
    fits k le = omega (arith, le)

joined_text : (x y : List ℕ) → is_text x ≡ true → is_text y ≡ true → nat_le (length x + length y) text_limit ≡ true → is_text (x ++ y) ≡ true
joined_text x y one two short =
    utf8_text (x ++ y) (IsUtf8-append x y (IsUtf8-from_is_utf8 x (and_parts (is_utf8 x) _ one).0) (IsUtf8-from_is_utf8 y (and_parts (is_utf8 y) _ two).0))
    (lt-ltb (length (x ++ y)) (2 ^ 32) (fits (length (x ++ y)) (length-append x y) (leb-true (length x + length y) text_limit short)))
  where
    fits : (k : ℕ) → k ≡ length x + length y → length x + length y ≤ 4096 → k < 2 ^ 32
    fits k same le = omega (arith, same, le)

length_fits : (t : List ℕ) → is_text t ≡ true → is_i64 (pos (length t)) ≡ true
length_fits t is = count_fits (length t) (less (length t) (ltb-true (length t) (2 ^ 32) (and_parts (is_utf8 t) (is_u32 (length t)) is).1))
  where
    less : (k : ℕ) → k < 2 ^ 32 → k < 2 ^ 63
    less k small = omega (arith, small)

-- effects laid over what has a spelling

over : {A : Type 0} (P : A → Type 0) (makes : Effect → ℕ) (does : ℕ → Effect → A → A) → ((n : ℕ) (e : Effect) (x : A) → EffectSpelled e → P x → P (does n e x)) → (n : ℕ) (es : List Effect) (x : A) → AllByRecursion EffectSpelled es → P x → P (overlay_from makes does n es x)
over P makes does each n [] x all one = one
over P makes does each n (e ∷ es) x all one = over P makes does each (n + makes e) es (does n e x) all.1 (each n e x all.0 one)

field_step : (me : Ref) (name : List ℕ) (n : ℕ) (e : Effect) (x : Val) → EffectSpelled e → IsSpelled x → IsSpelled (field_after me name n e x)
field_step me name n (ef.SetField entity other value) x one h = cond_both (same_ref entity me && bytes_eq other name) value x IsSpelled (λ _. one) (λ _. h)
field_step me name n _ x one h = h

attr_step : (r : Ref) (key : List ℕ) (n : ℕ) (e : Effect) (x : Val) → EffectSpelled e → IsSpelled x → IsSpelled (attr_after r key n e x)
attr_step r key n (ef.SetAttr activity other value) x one h = cond_both (same_ref activity r && bytes_eq other key) value x IsSpelled (λ _. one) (λ _. h)
attr_step r key n _ x one h = h

rank_step : (r : Ref) (n : ℕ) (e : Effect) (z : ℤ) → EffectSpelled e → is_i64 z ≡ true → is_i64 (priority_after r n e z) ≡ true
rank_step r n (ef.Create parent relation priority) z one h = cond_both (same_ref (Fresh n) r) priority z (λ k. is_i64 k ≡ true) (λ _. one) (λ _. h)
rank_step r n (ef.SetPriority entity priority) z one h = cond_both (same_ref entity r) priority z (λ k. is_i64 k ≡ true) (λ _. one) (λ _. h)
rank_step r n _ z one h = h

length_left : {X : Type 0} (p : X → Bool) (xs : List X) → length (filter p xs) ≤ length xs
length_left p [] = omega arith
length_left p (x ∷ xs) =
    let more = length_left p xs in
    cond_both (p x) (x ∷ filter p xs) (filter p xs) (λ ys. length ys ≤ length (x ∷ xs)) (λ _. omega (arith, more)) (λ _. omega (arith, more))

kids_step : (me : Ref) (relation : List ℕ) (n : ℕ) (e : Effect) (refs : List Ref) → length (children_after me relation n e refs) ≤ length refs + 1
kids_step me relation n (ef.Create parent other priority) refs =
    cond_both (same_ref parent me && bytes_eq other relation) (refs ++ Fresh n ∷ []) refs (λ ys. length ys ≤ length refs + 1) (λ _. (let same = length-append refs (Fresh n ∷ []) in omega (arith, same))) (λ _. omega arith)
kids_step me relation n (ef.Remove entity) refs = let less = length_left (λ r. not (same_ref r entity)) refs in omega (arith, less)
kids_step me relation n _ refs = omega arith

kids_over : (me : Ref) (relation : List ℕ) (n : ℕ) (es : List Effect) (refs : List Ref) → length (overlay_from entities_by (children_after me relation) n es refs) ≤ length refs + length es
kids_over me relation n [] refs = omega arith
kids_over me relation n (e ∷ es) refs =
    let more = kids_over me relation (n + entities_by e) es (children_after me relation n e refs) in
    let step = kids_step me relation n e refs in
    omega (arith, more, step)

length_known : (ids : List ℕ) → length (map Known ids) ≡ length ids
length_known [] = refl
length_known (i ∷ ids) = ap suc (length_known ids)

-- a value that may be missing
abbrev MayBe : Option Val → Type 0
MayBe None = Unit {0}
MayBe (Some x) = IsSpelled x

abbrev MayHold : Option Variable → Type 0
MayHold None = Unit {0}
MayHold (Some x) = VariableSpelled x

-- the values of a row, which may be missing
abbrev RowIs : Option (List (List ℕ × Value)) → Type 0
RowIs None = Unit {0}
RowIs (Some values) = AllByRecursion (λ (x : List ℕ × Value). IsSpelled (Plain x.1)) values

pub initial_is : (q : Kind) → IsSpelled (initial q)
initial_is kinds.Int = refl
initial_is kinds.Text = empty_text
initial_is kinds.Bool = tt
initial_is kinds.Activity = tt
initial_is kinds.Timer = tt

fit_is : (q : Kind) (x : Val) → IsSpelled x → IsSpelled (fit q x)
fit_is q x h = cond_both (is_of q x) x (initial q) IsSpelled (λ _. h) (λ _. initial_is q)

or_initial_is : (q : Kind) (x : Option Val) → MayBe x → IsSpelled (or_initial q x)
or_initial_is q None h = initial_is q
or_initial_is q (Some x) h = fit_is q x h

held : (q : Kind) (seen : Option Seen) → AnswerSpelled seen → IsSpelled (held_in q seen)
held q (Some (s.Held (Some x))) h = h
held q _ h = initial_is q

told_number : (seen : Option Seen) → AnswerSpelled seen → is_i64 (number_in seen) ≡ true
told_number (Some (s.Number n)) h = h
told_number _ h = refl

told_ids : (seen : Option Seen) → AnswerSpelled seen → length (ids_in seen) < 2 ^ 62
told_ids (Some (s.Ids ids)) h = h
told_ids _ h = omega arith

told_row : (seen : Option Seen) → AnswerSpelled seen → RowIs (row_in seen)
told_row (Some (s.Row (Some values))) h = h
told_row _ h = tt

pub activity_is : (r : Ref) → IsSpelled (activity_value r)
activity_is (Known n) = tt
activity_is (Fresh n) = tt

under : (name : List ℕ) (values : List (List ℕ × Value)) → AllByRecursion (λ (x : List ℕ × Value). IsSpelled (Plain x.1)) values → MayBe (value_under name values)
under name [] h = tt
under name (x ∷ values) h = cond_both (bytes_eq x.0 name) (Some (Plain x.1)) (value_under name values) MayBe (λ _. h.0) (λ _. under name values h.1)

event_field : (place : ℕ) (fields : List (List ℕ × Value)) → AllByRecursion (λ (x : List ℕ × Value). IsSpelled (Plain x.1)) fields → MayBe (field_at place fields)
event_field place [] h = tt
event_field zero (x ∷ fields) h = h.0
event_field (suc place) (x ∷ fields) h = event_field place fields h.1

variable_at : (xs : List Variable) (i : ℕ) → AllByRecursion VariableSpelled xs → MayHold (slice_get xs i)
variable_at [] i h = tt
variable_at (x ∷ xs) zero h = h.0
variable_at (x ∷ xs) (suc i) h = variable_at xs i h.1

flag_text : (b : Bool) → is_text (if b then codes "true" else codes "false") ≡ true
flag_text true = word_text (codes "true") refl refl
flag_text false = word_text (codes "false") refl refl

module _ (m : Setting) (told : SettingSpelled m) (es : List Effect) (vs : List Variable) (done : AllByRecursion EffectSpelled es) (few : length es < 2 ^ 62) (given : AllByRecursion VariableSpelled vs) where
  -- what is read of the state
  pub now_gives : (st : State) → IsAt m es vs st → Gives m es vs (λ n. is_i64 n ≡ true) (read.now m st)
  now_gives st here = gives_then m told es vs AnswerSpelled (λ n. is_i64 n ≡ true) (look m (Some keys.Now) st) _ (look_gives m told es vs (Some keys.Now) st here) (λ seen new h kept. (told_number seen h, kept))

  state_gives : (r : Ref) (st : State) → IsAt m es vs st → Gives m es vs Any (read.state_of m r st)
  state_gives r st here = reads_gives m told es vs Any (read.key_of (λ n. keys.AcState (record { 0 = n })) r) (λ seen effects. overlay activities_by (activity_after r) effects (activity_in seen)) st here (λ _ _. tt)

  field_gives : (name : List ℕ) (q : Kind) (st : State) → IsAt m es vs st → Gives m es vs IsSpelled (read.field m name q st)
  field_gives name q st here = reads_gives m told es vs IsSpelled (read.key_of (λ n. keys.Field (record { 0 = n }) name) m.me) (λ seen effects. fit q (overlay entities_by (field_after m.me name) effects (held_in q seen))) st here
      (λ seen h. fit_is q (overlay entities_by (field_after m.me name) es (held_in q seen)) (over IsSpelled entities_by (field_after m.me name) (field_step m.me name) 0 es (held_in q seen) done (held q seen h)))

  attribute_gives : (key : List ℕ) (q : Kind) (r : Ref) (st : State) → IsAt m es vs st → Gives m es vs IsSpelled (read.attribute m key q r st)
  attribute_gives key q r st here = reads_gives m told es vs IsSpelled (read.key_of (λ n. keys.Attr (record { 0 = n }) key) r) (λ seen effects. fit q (overlay activities_by (attr_after r key) effects (held_in q seen))) st here
      (λ seen h. fit_is q (overlay activities_by (attr_after r key) es (held_in q seen)) (over IsSpelled activities_by (attr_after r key) (attr_step r key) 0 es (held_in q seen) done (held q seen h)))

  pub attached_gives : (r : Ref) (st : State) → IsAt m es vs st → Gives m es vs Any (read.attached m r st)
  attached_gives r st here = reads_gives m told es vs Any (read.key_of_two (λ k n. keys.Attached (record { 0 = k }) (record { 0 = n })) m.me r) (λ seen effects. overlay activities_by (attached_after m.me r) effects (flag_in seen)) st here (λ _ _. tt)

  masks_gives : (r : Ref) (st : State) → IsAt m es vs st → Gives m es vs Any (read.masks m r st)
  masks_gives r st here = reads_gives m told es vs Any (read.key_of_two (λ k n. keys.Mask (record { 0 = k }) (record { 0 = n })) m.me r) (λ seen effects. overlay activities_by (masks_after m.masks m.me r) effects (masks_in seen)) st here (λ _ _. tt)

  pub named_gives : (name : List ℕ) (st : State) → IsAt m es vs st → Gives m es vs Any (read.named m name st)
  named_gives name st here = reads_gives m told es vs Any (Some (keys.Named name)) (λ seen effects. overlay activities_by (named_after name) effects (refers_in seen)) st here (λ _ _. tt)

  timer_gives : (r : Ref) (st : State) → IsAt m es vs st → Gives m es vs Any (read.timer m r st)
  timer_gives r st here = reads_gives m told es vs Any (read.key_of (λ n. keys.Timer (record { 0 = n })) r) (λ seen effects. overlay timers_by (timer_after r) effects (refers_in seen)) st here (λ _ _. tt)

  -- fewer than 2^63 children
  pub activities_gives : (st : State) → IsAt m es vs st → Gives m es vs Any (read.activities m st)
  activities_gives st here = reads_gives m told es vs Any (read.key_of (λ n. keys.Activities (record { 0 = n })) m.me) (λ seen effects. overlay activities_by (activities_after m.me) effects (map Known (ids_in seen))) st here (λ _ _. tt)

  pub children_gives : (relation : List ℕ) (st : State) → IsAt m es vs st → Gives m es vs (λ refs. length refs < 2 ^ 63) (read.children m relation st)
  children_gives relation st here = reads_gives m told es vs (λ refs. length refs < 2 ^ 63) (read.key_of (λ n. keys.Children (record { 0 = n }) relation) m.me) (λ seen effects. overlay entities_by (children_after m.me relation) effects (map Known (ids_in seen))) st here
      (λ seen h. fewer (length (overlay entities_by (children_after m.me relation) es (map Known (ids_in seen)))) (length (map Known (ids_in seen))) (length (ids_in seen)) (kids_over m.me relation 0 es (map Known (ids_in seen))) (length_known (ids_in seen)) (told_ids seen h))
    where
      fewer : (k i j : ℕ) → k ≤ i + length es → i ≡ j → j < 2 ^ 62 → k < 2 ^ 63
      fewer k i j le same less = omega (arith, le, same, less, few)

  priority_gives : (r : Ref) (st : State) → IsAt m es vs st → Gives m es vs (λ n. is_i64 n ≡ true) (read.priority m r st)
  priority_gives r st here = reads_gives m told es vs (λ n. is_i64 n ≡ true) (read.key_of (λ n. keys.Priority (record { 0 = n })) r) (λ seen effects. overlay entities_by (priority_after r) effects (number_in seen)) st here
      (λ seen h. over (λ n. is_i64 n ≡ true) entities_by (priority_after r) (rank_step r) 0 es (number_in seen) done (told_number seen h))

  row_gives : (table name : List ℕ) (st : State) → IsAt m es vs st → Gives m es vs RowIs (row m table name st)
  row_gives table name st here = gives_then m told es vs AnswerSpelled RowIs (look m (Some (keys.Profile table name)) st) _ (look_gives m told es vs (Some (keys.Profile table name)) st here) (λ seen new h kept. (told_row seen h, kept))

  there_gives : (o : Option AcSeen) (st : State) → IsAt m es vs st → Gives m es vs Any (read.there o st)
  there_gives None st here = failure_text f.Gone
  there_gives (Some seen) st here = (tt, here)

  pub used_gives : (r : Ref) (st : State) → IsAt m es vs st → Gives m es vs Any (read.used m r st)
  used_gives r st here = gives_then m told es vs Any Any (read.state_of m r st) _ (state_gives r st here) (λ seen new _ kept. there_gives seen new kept)

  pub used_active_gives : (r : Ref) (st : State) → IsAt m es vs st → Gives m es vs Any (read.used_active m r st)
  used_active_gives r st here = gives_then m told es vs Any Any (read.used m r st) _ (used_gives r st here) (λ seen new _ kept. gives_tested m told es vs Any f.Ending (not seen.ending) (give seen) new (tt, kept))

  found_gives : (o : Option Variable) (st : State) → MayHold o → IsAt m es vs st → Gives m es vs VariableSpelled (found o st)
  found_gives None st h here = tt
  found_gives (Some x) st h here = (h, here)

  variables_now : (st : State) → IsAt m es vs st → AllByRecursion VariableSpelled st.variables
  variables_now st here = subst (AllByRecursion VariableSpelled) (sym here.1) given

  only_child_gives : (x : Variable) (st : State) → IsAt m es vs st → Gives m es vs Any (read.only_child x st)
  only_child_gives (Child e) st here = (tt, here)
  only_child_gives (Holds x) st here = tt

  only_value_gives : (x : Variable) (st : State) → VariableSpelled x → IsAt m es vs st → Gives m es vs IsSpelled (read.only_value x st)
  only_value_gives (Holds x) st h here = (h, here)
  only_value_gives (Child e) st h here = tt

  pub child_gives : (i : ℕ) (st : State) → IsAt m es vs st → Gives m es vs Any (read.child m i st)
  child_gives i st here = gives_then m told es vs VariableSpelled Any (found (slice_get st.variables i) st) _ (found_gives (slice_get st.variables i) st (variable_at st.variables i (variables_now st here)) here) (λ x new is kept.
      gives_then m told es vs Any Any (read.only_child x new) _ (only_child_gives x new kept) (λ e last _ held.
      gives_tested m told es vs Any f.Gone (not (is_removed e (m.effects ++ last.effects))) (give e) last (tt, held)))

  value_gives : (i : ℕ) (st : State) → IsAt m es vs st → Gives m es vs IsSpelled (read.value i st)
  value_gives i st here = gives_then m told es vs VariableSpelled IsSpelled (found (slice_get st.variables i) st) _ (found_gives (slice_get st.variables i) st (variable_at st.variables i (variables_now st here)) here) (λ x new is kept. only_value_gives x new is kept)

  single_gives : (x : Atom) (st : State) → AtomSpelled x → IsAt m es vs st → Gives m es vs IsSpelled (single m x st)
  single_gives (a.Constant x) st h here = (h, here)
  single_gives a.Now st h here = gives_then m told es vs (λ n. is_i64 n ≡ true) IsSpelled (read.now m st) _ (now_gives st here) (λ n new is kept. (is, kept))
  single_gives a.Activity st h here = (tt, here)
  single_gives a.Failure st h here = (told.failure, here)
  single_gives (a.Slot i) st h here = value_gives i st here
  single_gives (a.Field x kind) st h here = field_gives x.name kind st here
  single_gives (a.EventField place kind) st h here = (or_initial_is kind (field_at place m.arguments.fields) (event_field place m.arguments.fields told.fields), here)
  single_gives (a.Count relation) st h here = gives_then m told es vs (λ refs. length refs < 2 ^ 63) IsSpelled (read.children m relation.name st) _ (children_gives relation.name st here) (λ refs new less kept. (count_fits (length refs) less, kept))
  single_gives (a.Priority i) st h here = gives_then m told es vs Any IsSpelled (read.child m i st) _ (child_gives i st here) (λ e new _ kept.
      gives_then m told es vs (λ n. is_i64 n ≡ true) IsSpelled (read.priority m e new) _ (priority_gives e new kept) (λ n last is held. (is, held)))

  -- operators
  number_gives : (n : ℤ) (st : State) → IsAt m es vs st → Gives m es vs IsSpelled (number n st)
  number_gives n st here = gives_cond m told es vs IsSpelled (int_le (negsuc (2 ^ 63 - 1)) n && int_lt n (pos (2 ^ 63))) (give (int n)) (break f.Overflow) st (λ is. (number_fits n is, here)) (λ _. failure_text f.Overflow)

  divided_gives : (by : ℤ → ℤ → ℤ) (x y : ℤ) (st : State) → IsAt m es vs st → Gives m es vs IsSpelled (divided by x y st)
  divided_gives by x y st here = gives_cond m told es vs IsSpelled (int_eq y (pos 0)) (break f.ZeroDivisor) (number (by x y)) st (λ _. failure_text f.ZeroDivisor) (λ _. number_gives (by x y) st here)

  joined_gives : (x y : List ℕ) (st : State) → is_text x ≡ true → is_text y ≡ true → IsAt m es vs st → Gives m es vs IsSpelled (joined x y st)
  joined_gives x y st one two here = gives_cond m told es vs IsSpelled (nat_le (length x + length y) text_limit) (give (text (x ++ y))) (break f.TooLong) st (λ short. (joined_text x y one two short, here)) (λ _. failure_text f.TooLong)

  apply_gives : (operator : Joint) (x y : Val) (st : State) → IsSpelled x → IsSpelled y → IsAt m es vs st → Gives m es vs IsSpelled (apply operator x y st)
  apply_gives j.Add x y st h k here = gives_int m told es vs IsSpelled x _ st h (λ p _. gives_int m told es vs IsSpelled y _ st k (λ q _. number_gives (p +ℤ q) st here))
  apply_gives j.Subtract x y st h k here = gives_int m told es vs IsSpelled x _ st h (λ p _. gives_int m told es vs IsSpelled y _ st k (λ q _. number_gives (p -ℤ q) st here))
  apply_gives j.Multiply x y st h k here = gives_int m told es vs IsSpelled x _ st h (λ p _. gives_int m told es vs IsSpelled y _ st k (λ q _. number_gives (p *ℤ q) st here))
  apply_gives j.Divide x y st h k here = gives_int m told es vs IsSpelled x _ st h (λ p _. gives_int m told es vs IsSpelled y _ st k (λ q _. divided_gives int_div p q st here))
  apply_gives j.Remainder x y st h k here = gives_int m told es vs IsSpelled x _ st h (λ p _. gives_int m told es vs IsSpelled y _ st k (λ q _. divided_gives int_rem p q st here))
  apply_gives j.Join x y st h k here = gives_text m told es vs IsSpelled x _ st h (λ p one. gives_text m told es vs IsSpelled y _ st k (λ q two. joined_gives p q st one two here))
  apply_gives j.Both x y st h k here = gives_flag m told es vs IsSpelled x _ st (λ p. gives_flag m told es vs IsSpelled y _ st (λ q. (tt, here)))
  apply_gives j.Either x y st h k here = gives_flag m told es vs IsSpelled x _ st (λ p. gives_flag m told es vs IsSpelled y _ st (λ q. (tt, here)))

  same_gives : (q : Kind) (x y : Val) (st : State) → IsSpelled x → IsSpelled y → IsAt m es vs st → Gives m es vs Any (same_values q x y st)
  same_gives kinds.Int x y st h k here = gives_int m told es vs Any x _ st h (λ p _. gives_int m told es vs Any y _ st k (λ q _. (tt, here)))
  same_gives kinds.Text x y st h k here = gives_text m told es vs Any x _ st h (λ p _. gives_text m told es vs Any y _ st k (λ q _. (tt, here)))
  same_gives kinds.Bool x y st h k here = gives_flag m told es vs Any x _ st (λ p. gives_flag m told es vs Any y _ st (λ q. (tt, here)))
  same_gives kinds.Activity x y st h k here = gives_activity m told es vs Any x _ st (λ p. gives_activity m told es vs Any y _ st (λ q. (tt, here)))
  same_gives kinds.Timer x y st h k here = gives_timer m told es vs Any x _ st (λ p. gives_timer m told es vs Any y _ st (λ q. (tt, here)))

  less_gives : (q : Scale) (x y : Val) (st : State) → IsSpelled x → IsSpelled y → IsAt m es vs st → Gives m es vs Any (is_less q x y st)
  less_gives scale.Int x y st h k here = gives_int m told es vs Any x _ st h (λ p _. gives_int m told es vs Any y _ st k (λ q _. (tt, here)))
  less_gives scale.Text x y st h k here = gives_text m told es vs Any x _ st h (λ p _. gives_text m told es vs Any y _ st k (λ q _. (tt, here)))

  compare_gives : (test : Test) (x y : Val) (st : State) → IsSpelled x → IsSpelled y → IsAt m es vs st → Gives m es vs IsSpelled (compare test x y st)
  compare_gives (t.Same q) x y st h k here = gives_then m told es vs Any IsSpelled (same_values q x y st) _ (same_gives q x y st h k here) (λ b new _ kept. (tt, kept))
  compare_gives (t.Unlike q) x y st h k here = gives_then m told es vs Any IsSpelled (same_values q x y st) _ (same_gives q x y st h k here) (λ b new _ kept. (tt, kept))
  compare_gives (t.Below q) x y st h k here = gives_then m told es vs Any IsSpelled (is_less q x y st) _ (less_gives q x y st h k here) (λ b new _ kept. (tt, kept))
  compare_gives (t.AtMost q) x y st h k here = gives_then m told es vs Any IsSpelled (is_less q y x st) _ (less_gives q y x st k h here) (λ b new _ kept. (tt, kept))
  compare_gives (t.Above q) x y st h k here = gives_then m told es vs Any IsSpelled (is_less q y x st) _ (less_gives q y x st k h here) (λ b new _ kept. (tt, kept))
  compare_gives (t.AtLeast q) x y st h k here = gives_then m told es vs Any IsSpelled (is_less q x y st) _ (less_gives q x y st h k here) (λ b new _ kept. (tt, kept))

  -- questions
  masked_gives : (event : List ℕ) (o : Option (List (List ℕ))) (st : State) → IsAt m es vs st → Gives m es vs IsSpelled (is_masked event o st)
  masked_gives event None st here = failure_text f.Detached
  masked_gives event (Some names) st here = (tt, here)

  looked_up_gives : (o : Option Ref) (st : State) → IsAt m es vs st → Gives m es vs IsSpelled (looked_up o st)
  looked_up_gives None st here = failure_text f.Unbound
  looked_up_gives (Some r) st here = (activity_is r, here)

  in_row_gives : (kind : Kind) (o : Option Val) (st : State) → MayBe o → IsAt m es vs st → Gives m es vs IsSpelled (in_row kind o st)
  in_row_gives kind None st h here = failure_text f.NoRow
  in_row_gives kind (Some x) st h here = gives_cond m told es vs IsSpelled (is_of kind x) (give x) (break f.NoRow) st (λ _. (h, here)) (λ _. failure_text f.NoRow)

  of_row_gives : (name : List ℕ) (kind : Kind) (o : Option (List (List ℕ × Value))) (st : State) → RowIs o → IsAt m es vs st → Gives m es vs IsSpelled (of_row name kind o st)
  of_row_gives name kind None st h here = failure_text f.NoRow
  of_row_gives name kind (Some values) st h here = in_row_gives kind (value_under name values) st (under name values h) here

  ask_gives : (question : Question) (x : Val) (st : State) → IsSpelled x → IsAt m es vs st → Gives m es vs IsSpelled (ask m question x st)
  ask_gives g.Negative x st h here = gives_int m told es vs IsSpelled x _ st h (λ n _. number_gives (neg_ℤ n) st here)
  ask_gives g.Not x st h here = gives_flag m told es vs IsSpelled x _ st (λ n. (tt, here))
  ask_gives g.TextOfInt x st h here = gives_int m told es vs IsSpelled x _ st h (λ n is. (decimal_text n is, here))
  ask_gives g.TextOfBool x st h here = gives_flag m told es vs IsSpelled x _ st (λ b. (flag_text b, here))
  ask_gives g.Len x st h here = gives_text m told es vs IsSpelled x _ st h (λ t is. (length_fits t is, here))
  ask_gives g.Active x st h here = gives_activity m told es vs IsSpelled x _ st (λ r. gives_then m told es vs Any IsSpelled (read.state_of m r st) _ (state_gives r st here) (λ seen new _ kept. (tt, kept)))
  ask_gives g.Attached x st h here = gives_activity m told es vs IsSpelled x _ st (λ r. gives_then m told es vs Any IsSpelled (read.used m r st) _ (used_gives r st here) (λ seen new _ kept.
      gives_then m told es vs Any IsSpelled (read.attached m r new) _ (attached_gives r new kept) (λ b last _ held. (tt, held))))
  ask_gives (g.Masked event) x st h here = gives_activity m told es vs IsSpelled x _ st (λ r. gives_then m told es vs Any IsSpelled (read.used m r st) _ (used_gives r st here) (λ seen new _ kept.
      gives_then m told es vs Any IsSpelled (read.masks m r new) _ (masks_gives r new kept) (λ names last _ held. masked_gives event.name names last held)))
  ask_gives (g.Attribute key kind) x st h here = gives_activity m told es vs IsSpelled x _ st (λ r. gives_then m told es vs Any IsSpelled (read.used m r st) _ (used_gives r st here) (λ seen new _ kept. attribute_gives key.name kind r new kept))
  ask_gives g.Bound x st h here = gives_text m told es vs IsSpelled x _ st h (λ name _. gives_then m told es vs Any IsSpelled (read.named m name st) _ (named_gives name st here) (λ r new _ kept. (tt, kept)))
  ask_gives g.Lookup x st h here = gives_text m told es vs IsSpelled x _ st h (λ name _. gives_then m told es vs Any IsSpelled (read.named m name st) _ (named_gives name st here) (λ r new _ kept. looked_up_gives r new kept))
  ask_gives (g.Profile table name kind) x st h here = gives_text m told es vs IsSpelled x _ st h (λ key _. gives_then m told es vs RowIs IsSpelled (row m table.name key st) _ (row_gives table.name key st here) (λ values new is kept. of_row_gives name.name kind values new is kept))
  ask_gives (g.HasProfile table) x st h here = gives_text m told es vs IsSpelled x _ st h (λ key _. gives_then m told es vs RowIs IsSpelled (row m table.name key st) _ (row_gives table.name key st here) (λ values new _ kept. (tt, kept)))
  ask_gives g.HasTimer x st h here = gives_timer m told es vs IsSpelled x _ st (λ r. gives_then m told es vs Any IsSpelled (read.timer m r st) _ (timer_gives r st here) (λ seen new _ kept. (tt, kept)))

  combine_gives : (operator : Joint) (x : Val) (y : Run Val) (st : State) → IsSpelled x → Gives m es vs IsSpelled (y st) → IsAt m es vs st → Gives m es vs IsSpelled (combine operator x y st)
  combine_gives operator x y st h k here = gives_cond m told es vs IsSpelled (decides operator x) (give x) _ st (λ _. (h, here)) (λ _. gives_then m told es vs IsSpelled IsSpelled (y st) _ k (λ z new is kept. apply_gives operator x z new h is kept))

  -- a term's value, behind its first unit
  node_gives : (x : Term) (st : State) → TermSpelled x → IsAt m es vs st → Gives m es vs IsSpelled (node m x st)
  node_gives (Single x) st h here = single_gives x st h here
  node_gives (Ask question x) st h here = gives_then m told es vs IsSpelled IsSpelled (ticked (node m x) st) (ask m question) (gives_tick m told es vs IsSpelled (node m x) st here (λ s kept. node_gives x s h kept)) (λ y new is kept. ask_gives question y new is kept)
  node_gives (Compare test x y) st h here = gives_then m told es vs IsSpelled IsSpelled (ticked (node m x) st) _ (gives_tick m told es vs IsSpelled (node m x) st here (λ s kept. node_gives x s h.0 kept))
      (λ p new is kept. gives_then m told es vs IsSpelled IsSpelled (ticked (node m y) new) (compare test p) (gives_tick m told es vs IsSpelled (node m y) new kept (λ s held. node_gives y s h.1 held)) (λ q last this held. compare_gives test p q last is this held))
  node_gives (Combine operator x y) st h here = gives_then m told es vs IsSpelled IsSpelled (ticked (node m x) st) _ (gives_tick m told es vs IsSpelled (node m x) st here (λ s kept. node_gives x s h.0 kept))
      (λ p new is kept. combine_gives operator p (ticked (node m y)) new is (gives_tick m told es vs IsSpelled (node m y) new kept (λ s held. node_gives y s h.1 held)) kept)

  -- a term gives a value that has a spelling, and leaves effects and variables
  pub eval_gives : (x : Term) (st : State) → TermSpelled x → IsAt m es vs st → Gives m es vs IsSpelled (eval m x st)
  eval_gives x st h here = gives_tick m told es vs IsSpelled (node m x) st here (λ s kept. node_gives x s h kept)

given_parts : (m : Setting) (es : List Effect) (vs : List Variable) (r : Ending Val) (x : Val) (su : State) → Gives m es vs IsSpelled r → r ≡ Gave x su → IsSpelled x × IsAt m es vs su
given_parts m es vs r x su h is = subst (Gives m es vs IsSpelled) is h

-- the value of an expression has a spelling
pub value_spelled : (m : Setting) (x : Term) (st su : State) (y : Val) → SettingSpelled m → AllByRecursion EffectSpelled (m.effects ++ st.effects) → length (m.effects ++ st.effects) < 2 ^ 62 → AllByRecursion VariableSpelled st.variables → TermSpelled x
    → eval m x st ≡ Gave y su → IsSpelled y × (m.effects ++ su.effects ≡ m.effects ++ st.effects) × (su.variables ≡ st.variables)
value_spelled m x st su y told done few given h is =
    let all = given_parts m (m.effects ++ st.effects) st.variables (eval m x st) y su (eval_gives m told (m.effects ++ st.effects) st.variables done few given x st h (refl, refl)) is in
    (all.0, all.1.0, all.1.1)
