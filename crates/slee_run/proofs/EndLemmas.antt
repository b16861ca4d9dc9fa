-- How playing ends, as a status of a run.
use Rattle.std.proofs.Common.{◌≡◌, ◌≢◌, ◌⊎◌, inl, inr, ℕ, zero, suc, ◌+◌, ◌-◌, ◌<◌, ◌==◌, Bool, true, false, List, [], ◌∷◌, ◌++◌, length, refl, sym, ◌∙◌, ap, subst, append-nil, Option, Some, None, Result, Ok, Err, is_some, not, OnOk, OnErr, arith, ◌||◌}
use Rattle.std.proofs.lemmas.Bool.{cases_Bool, eqb-false, eqb-true, and_parts}
use Rattle.std.specs.List.{list_any}
use Rattle.std.specs.Option.{option_map_or}
use mathlib.Core.List.{IsPrefix}
use Rattle.signal_script.specs.declared.signal.Signal.{Signal}
use Rattle.slee_disk.specs.Causes.{Rose}
use Rattle.slee_disk.specs.Writes.{Writes}
use Rattle.trace_history.specs.Histories.{inputs_of, input_of}
use Rattle.trace_history.specs.declared.choice.Choice.{Choice}
use Rattle.trace_history.specs.declared.choice.Choice.TheVariants as choices
use Rattle.trace_history.specs.declared.entry.Entry.{Entry}
use Rattle.router_state.specs.Next.{first_choice, least, next}
use Rattle.router_state.specs.State.{State, is_used_up}
use Rattle.router_state.specs.declared.kindred.Kindred.{Kindred}
use Rattle.router_state.specs.declared.kindred.Kindred.TheVariants as kindreds
use Rattle.router_state.specs.declared.rows.Activity.{Activity}
use Rattle.router_steps.specs.Histories.{line_choice, replay, solo, solo_choice}
use Rattle.router_steps.specs.Payloads.{payload}
use Rattle.router_steps.specs.Steps.{choice_on, is_delivery, is_finish, is_initial, is_next, is_next_by}
use Rattle.router_durable.specs.Choices.{written_format}
use Rattle.slee_run.specs.Headline.{MayFollow, EndsOn, IsByOne, AddsFirst, IsWritten, has_activity, is_there}
use Rattle.slee_run.specs.Opening.{journal_limit}
use Rattle.slee_run.specs.Playing.{IsSpent, IsPlayed, status_after}
use Rattle.slee_run.specs.declared.playing.End.{End}
use Rattle.slee_run.specs.declared.playing.End.TheVariants as ends
use Rattle.slee_run.specs.declared.status.Status.{Status}
use Rattle.slee_run.specs.declared.status.Status.TheVariants as statuses
use Rattle.slee_run.proofs.PlayLemmas.{solo-none}

no_more : (n : ℕ) (s : State) (rest : List Signal) → is_used_up s ≡ true → solo n s rest ≡ []
no_more n s rest up = solo-none n s rest (rw up refl)

no_steps : (steps n : ℕ) (s : State) (rest : List Signal) → n ≡ steps → solo (steps - n) s rest ≡ []
no_steps steps n s rest is = ap (λ (k : ℕ). solo k s rest) left
  where
    left : steps - n ≡ 0
    left = omega (arith, is)

-- ---- what is least has a choice, and where none is, none of the activities has one

itself : (n : ℕ) → (n == n) ≡ true
itself n = elim (cases_Bool (n == n)) [
  | inl yes_it ↦ yes_it
  | inr other ↦ absurd (eqb-false n n other refl)
]

or_left : (x y : Bool) → x ≡ true → (x || y) ≡ true
or_left x y is = rw is refl

or_later : (x y : Bool) → y ≡ true → (x || y) ≡ true
or_later true y is = refl
or_later false y is = is

or_rest : (x y : Bool) → (x || y) ≡ true → x ≡ false → y ≡ true
or_rest true y is not_x = absurd (cc)
or_rest false y is not_x = is

-- the choice of an activity among these
abbrev first_by : State → Activity → Option Kindred → List Activity → Option (ℕ × Kindred)
first_by s row found rows = option_map_or (λ kind. Some (row.number.0, kind)) found (first_choice s [] rows)

abbrev is_among : List Activity → ℕ → Bool
is_among rows a = list_any (λ (row : Activity). row.number.0 == a) rows

record IsFound (s : State) (rows : List Activity) (x : ℕ × Kindred) : Type 0 where
  pub next : next s x.0 ≡ Some x.1
  pub there : is_among rows x.0 ≡ true

first_here : (s : State) (row : Activity) (rows : List Activity) (x : ℕ × Kindred) (found : Option Kindred) → next s row.number.0 ≡ found
    → (first_choice s [] rows ≡ Some x → IsFound s rows x) → first_by s row (next s row.number.0) rows ≡ Some x → IsFound s (row ∷ rows) x
first_here s row rows x None e more is =
    let later = more (ap (λ (o : Option Kindred). first_by s row o rows) (sym e) ∙ is) in
    record { next = later.next; there = or_later (row.number.0 == x.0) (is_among rows x.0) later.there }
first_here s row rows x (Some kind) e more is =
    let it : Some (row.number.0, kind) ≡ Some x = ap (λ (o : Option Kindred). first_by s row o rows) (sym e) ∙ is in
    let same : (row.number.0, kind) ≡ x = cc in
    subst (IsFound s (row ∷ rows)) same (record { next = e; there = or_left (row.number.0 == row.number.0) (is_among rows row.number.0) (itself row.number.0) })

first_found : (s : State) (rows : List Activity) (x : ℕ × Kindred) → first_choice s [] rows ≡ Some x → IsFound s rows x
first_found s [] x is = absurd (cc)
first_found s (row ∷ rows) x is = first_here s row rows x (next s row.number.0) refl (first_found s rows x) is

none_here : (s : State) (row : Activity) (rows : List Activity) (a : ℕ) (found : Option Kindred) → next s row.number.0 ≡ found
    → (first_choice s [] rows ≡ None → is_among rows a ≡ true → next s a ≡ None) → first_by s row (next s row.number.0) rows ≡ None → is_among (row ∷ rows) a ≡ true → next s a ≡ None
none_here s row rows a (Some kind) e more none there =
    let never : ◌≡◌ {A = Option (ℕ × Kindred)} (Some (row.number.0, kind)) None = ap (λ (o : Option Kindred). first_by s row o rows) (sym e) ∙ none in absurd (cc)
none_here s row rows a None e more none there = elim (cases_Bool (row.number.0 == a)) [
  | inl same ↦ ap (next s) (sym (eqb-true row.number.0 a same)) ∙ e
  | inr other ↦ more (ap (λ (o : Option Kindred). first_by s row o rows) (sym e) ∙ none) (or_rest (row.number.0 == a) (is_among rows a) there other)
]

none_next : (s : State) (rows : List Activity) (a : ℕ) → first_choice s [] rows ≡ None → is_among rows a ≡ true → next s a ≡ None
none_next s [] a none there = absurd (cc)
none_next s (row ∷ rows) a none there = none_here s row rows a (next s row.number.0) refl (none_next s rows a) none there

-- ---- what is due may follow

no_prefix : (x : Signal) (more : List Signal) → x ∷ more ≡ [] → ⊥
no_prefix x more is = cc

not_next : (test : Kindred → Bool) (s : State) (a : ℕ) → next s a ≡ None → is_next_by test s a ≡ true → ⊥
not_next test s a none is = let never : false ≡ true = ap (λ (o : Option Kindred). option_map_or test o false) (sym none) ∙ is in cc

-- nothing may follow where no line is left and nothing is due
no_least : (s : State) → solo_choice s [] ≡ None → is_used_up s ≡ false → least s [] ≡ None
no_least s none fresh = by (least s []) refl
  where
    by : (found : Option (ℕ × Kindred)) → least s [] ≡ found → least s [] ≡ None
    by None e = e
    by (Some x) e =
        let it : solo_choice s [] ≡ Some (choice_on x, []) = rw (fresh, e) refl in
        let never : ◌≡◌ {A = Option (Choice × List Signal)} None (Some (choice_on x, [])) = sym none ∙ it in
        absurd (cc)

idle_on : (s : State) (c : Choice) → least s [] ≡ None → is_next s c ≡ true → is_there s c ≡ true → IsPrefix (input_of c) [] → ⊥
idle_on s (choices.Input signal) none is there front = no_prefix signal front.0 front.1
idle_on s (choices.Initial a) none is there front = not_next is_initial s a.0 (none_next s s.activities a.0 none there) is
idle_on s (choices.Deliver a) none is there front = not_next is_delivery s a.0 (none_next s s.activities a.0 none there) is
idle_on s (choices.Finish a) none is there front = not_next is_finish s a.0 (none_next s s.activities a.0 none there) is

pub idle_of : (s : State) → solo_choice s [] ≡ None → is_used_up s ≡ false → (c : Choice) → MayFollow s [] c → ⊥
idle_of s none fresh c may = idle_on s c (no_least s none fresh) (and_parts (not (is_used_up s)) (is_next s c) may.enabled).1 may.there may.next

-- what was made first
first_of : (x y : Choice × List Signal) → Some x ≡ Some y → x.0 ≡ y.0
first_of x y is = let same : x ≡ y = cc in ap (λ (p : Choice × List Signal). p.0) same

-- a choice that the state gives
own_follows : (s : State) (left : List Signal) (a : ℕ) (kind : Kindred) → is_used_up s ≡ false → next s a ≡ Some kind → has_activity s a ≡ true → MayFollow s left (choice_on (a, kind))
own_follows s left a kindreds.Initial fresh is there = record { enabled = rw (fresh, is) refl; there = there; next = (left, refl) }
own_follows s left a kindreds.Deliver fresh is there = record { enabled = rw (fresh, is) refl; there = there; next = (left, refl) }
own_follows s left a kindreds.Finish fresh is there = record { enabled = rw (fresh, is) refl; there = there; next = (left, refl) }

line_follows : (s : State) (left more : List Signal) (c : Choice) → is_used_up s ≡ false → line_choice left ≡ Some (c, more) → MayFollow s left c
line_follows s [] more c fresh is = absurd (cc)
line_follows s (line ∷ lines) more c fresh is =
    subst (MayFollow s (line ∷ lines)) (first_of (choices.Input line, lines) (c, more) is) (record { enabled = rw fresh refl; there = refl; next = (lines, refl) })

due_by : (s : State) (left more : List Signal) (c : Choice) (found : Option (ℕ × Kindred)) → least s [] ≡ found → is_used_up s ≡ false
    → option_map_or (λ x. Some (choice_on x, left)) found (line_choice left) ≡ Some (c, more) → MayFollow s left c
due_by s left more c None least_is fresh is = line_follows s left more c fresh is
due_by s left more c (Some x) least_is fresh is =
    let found = first_found s s.activities x least_is in
    subst (MayFollow s left) (first_of (choice_on x, left) (c, more) is) (own_follows s left x.0 x.1 fresh found.next found.there)

no_some : (x : Choice × List Signal) → None ≡ Some x → ⊥
no_some x is = cc

pub due_follows : (s : State) (left more : List Signal) (c : Choice) → solo_choice s left ≡ Some (c, more) → MayFollow s left c
due_follows s left more c is = elim (cases_Bool (is_used_up s)) [
  | inl up ↦ absurd (no_some (c, more) (rw up at is))
  | inr fresh ↦ due_by s left more c (least s []) refl fresh (rw fresh at is)
]

some_follows : (s : State) (left : List Signal) (o : Option (Choice × List Signal)) → solo_choice s left ≡ o → is_some o ≡ true → (c : Choice) × MayFollow s left c
some_follows s left None is some = absurd (cc)
some_follows s left (Some next) is some = (next.0, due_follows s left next.1 next.0 is)

-- ---- how playing ends, as a status

pub spent_on : (s : State) (steps : ℕ) (history : List Entry) (left : List Signal) → IsSpent s steps history left
    → (is_used_up s ≡ true) ⊎ ((length history ≡ steps) × ((c : Choice) × MayFollow s left c))
spent_on s steps history left (inl up) = inl up
spent_on s steps history left (inr few) = inr (few.0, some_follows s left (solo_choice s left) refl few.1)

pub ends_on : (base : State) (steps : ℕ) (lines : List Signal) (history : List Entry) (e : End) (entries : ℕ) → entries ≡ length history → IsPlayed journal_limit base steps lines history e
    → EndsOn base steps lines history (status_after entries e)
ends_on base steps lines history ends.Done entries count played = record {
  taken = sym (append-nil (inputs_of history)) ∙ ap (λ (more : List Signal). inputs_of history ++ more) (sym played.ends.0) ∙ played.so_far.taken;
  idle = idle_of (replay base history) (ap (solo_choice (replay base history)) (sym played.ends.0) ∙ played.ends.1) played.ends.2;
  fresh = played.ends.2;
}
ends_on base steps lines history ends.Spent entries count played =
    (count, record { taken = (played.rest, played.so_far.taken); spent = spent_on (replay base history) steps history played.rest played.ends })
ends_on base steps lines history (ends.Full size adding) entries count played = inl (record {
  taken = (played.rest, played.so_far.taken);
  fewer = played.ends.fewer;
  choice = played.ends.choice;
  may = due_follows (replay base history) played.rest played.ends.more played.ends.choice played.ends.next;
  adds = played.ends.adds;
  above = played.ends.above;
})
ends_on base steps lines history ends.DiskFault entries count played = (played.rest, played.so_far.taken)
ends_on base steps lines history ends.NoMemory entries count played = (played.rest, played.so_far.taken)

-- ---- and with one worker

adds_first : (n : ℕ) (s : State) (left more : List Signal) (c : Choice) (adding : ℕ) → 0 < n → solo_choice s left ≡ Some (c, more) → adding ≡ 5 + length (payload written_format s c) → AddsFirst s adding (solo n s left)
adds_first zero s left more c adding some next adds = absurd (omega (arith, some))
adds_first (suc n) s left more c adding some next adds = rw next adds

pub alone_on : (base : State) (steps : ℕ) (lines : List Signal) (history : List Entry) (e : End) (entries : ℕ) → IsPlayed journal_limit base steps lines history e
    → IsByOne base steps lines history (status_after entries e)
alone_on base steps lines history e entries played = record {
  rest = solo (steps - length history) (replay base history) played.rest;
  front = played.so_far.solo;
  done = by_done e played;
  spent = by_spent e played;
  full = by_full e played;
}
  where
    by_done : (e : End) (p : IsPlayed journal_limit base steps lines history e) → status_after entries e ≡ statuses.Ok → solo (steps - length history) (replay base history) p.rest ≡ []
    by_done ends.Done p is = solo-none (steps - length history) (replay base history) p.rest p.ends.1
    by_done ends.Spent p is = absurd (cc)
    by_done (ends.Full size adding) p is = absurd (cc)
    by_done ends.DiskFault p is = absurd (cc)
    by_done ends.NoMemory p is = absurd (cc)

    none_left : (rest : List Signal) → IsSpent (replay base history) steps history rest → solo (steps - length history) (replay base history) rest ≡ []
    none_left rest (inl up) = no_more (steps - length history) (replay base history) rest up
    none_left rest (inr few) = no_steps steps (length history) (replay base history) rest few.0

    by_spent : (e : End) (p : IsPlayed journal_limit base steps lines history e) (n : ℕ) → status_after entries e ≡ statuses.StepsSpent n → solo (steps - length history) (replay base history) p.rest ≡ []
    by_spent ends.Done p n is = absurd (cc)
    by_spent ends.Spent p n is = none_left p.rest p.ends
    by_spent (ends.Full size adding) p n is = absurd (cc)
    by_spent ends.DiskFault p n is = absurd (cc)
    by_spent ends.NoMemory p n is = absurd (cc)

    by_full : (e : End) (p : IsPlayed journal_limit base steps lines history e) (size adding : ℕ) → size ≢ 0 → status_after entries e ≡ statuses.Full size adding
        → AddsFirst (replay base history) adding (solo (steps - length history) (replay base history) p.rest)
    by_full ends.Done p size adding some is = absurd (cc)
    by_full ends.Spent p size adding some is = absurd (cc)
    by_full (ends.Full length_of more) p size adding some is =
        let same : more ≡ adding = cc in
        adds_first (steps - length history) (replay base history) p.rest p.ends.more p.ends.choice adding (omega (arith, p.ends.fewer)) p.ends.next (sym same ∙ p.ends.adds)
    by_full ends.DiskFault p size adding some is = absurd (cc)
    by_full ends.NoMemory p size adding some is = absurd (cc)

-- nothing was played
pub alone_at_start : (base : State) (steps : ℕ) (lines : List Signal) (status : Status) → status ≢ statuses.Ok → ((n : ℕ) → status ≢ statuses.StepsSpent n) → ((size adding : ℕ) → size ≢ 0 → status ≢ statuses.Full size adding)
    → IsByOne base steps lines [] status
alone_at_start base steps lines status done spent full = record {
  rest = solo steps base lines;
  front = refl;
  done = λ is. absurd (done is);
  spent = λ n is. absurd (spent n is);
  full = λ size adding some is. absurd (full size adding some is);
}

-- ---- text

pub written : {K T E : Type 0} (contents : K → Option (List ℕ)) (faults : K → ℕ) (old new : K) (text : List ℕ) (r : Result T E) (stood status : Status)
    → Writes contents faults old new text r → OnOk r (status ≡ stood) → OnErr r (status ≡ statuses.WriteFault) → IsWritten (contents old) (contents new) text stood status
written contents faults old new text (Ok x) stood status w fine bad = record {
  whole = λ up. (sym fine, w.ok);
  front = λ is. (text, [], sym (append-nil text), w.ok);
}
written contents faults old new text (Err e) stood status w fine bad = record {
  whole = λ up. absurd (up bad);
  front = λ is. w.err;
}

-- a status that says so had its cause
pub write_failed : {K T E : Type 0} (contents : K → Option (List ℕ)) (faults : K → ℕ) (old new : K) (text : List ℕ) (r : Result T E) (stood status : Status)
    → Writes contents faults old new text r → OnOk r (status ≡ stood) → stood ≢ statuses.WriteFault → status ≡ statuses.WriteFault → Rose (faults old) (faults new)
write_failed contents faults old new text (Ok x) stood status w fine other is = absurd (other (sym fine ∙ is))
write_failed contents faults old new text (Err e) stood status w fine other is = w.failed

-- the status that stood is told, where writing didn't fail
pub told_as : (before after : Option (List ℕ)) (text : List ℕ) (stood status : Status) → IsWritten before after text stood status → status ≢ statuses.WriteFault → stood ≡ status
told_as before after text stood status w up = (w.whole up).0
