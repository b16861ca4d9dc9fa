-- Headings of whole histories: each names the event that comes next, a delivery the first of those that may receive it; and behind an activity's end nothing is told of it.
use Rattle.std.proofs.Common.{Bool, List, None, Option, Some, [], ap, arith, false, inl, inr, refl, subst, sym, true, ℕ, ◌&&◌, ◌++◌, ◌<◌, ◌^◌, ◌||◌, ◌∙◌, ◌∷◌, ◌≡◌, ◌≤◌, map}
use Rattle.std.proofs.lemmas.Bool.{cases_Bool, eq-eqb, false≢true}
use Rattle.std.proofs.lemmas.Grind.{flat_map-append}
use Rattle.std.specs.Prelude.{codes, is_some}
use Rattle.std.specs.Str.{bytes_eq}
use Rattle.slee_value.specs.declared.ids.ActivityId.{ActivityId}
use Rattle.router_laws.proofs.HistoryLemmas.{replay_append}
use Rattle.router_laws.proofs.ListRules.{append_nil}
use Rattle.router_laws.proofs.Queues.{first_of, head_is_first}
use Rattle.router_laws_histories.proofs.FiringOrder.{lines_are}
use Rattle.router_laws_histories.proofs.Reading.{finish_is_read}
use Rattle.router_laws_histories.specs.Suspended.{names_activity}
use Rattle.router_laws_runs.proofs.About.{choice_about}
use Rattle.router_laws_runs.proofs.HeadingLemmas.{Named, head_fits, step_first, step_named}
use Rattle.router_laws_runs.proofs.Runs.{legal_as_read, legal_can, legal_is_run, legal_well, same_read}
use Rattle.router_laws_runs.specs.AsRead.{IsAsRead}
use Rattle.router_laws_runs.specs.Headings.{IsLast, IsUnnamed, NamesFirst, NamesNext, delivers_on, heading_words}
use Rattle.router_laws_steps.proofs.EndLemmas.{gone_behind_end, nothing_waits_there}
use Rattle.router_laws_steps.proofs.Gone.{gone_after, gone_replay}
use Rattle.router_laws_steps.proofs.RunLemmas.{run_in_order}
use Rattle.router_laws_steps.proofs.WholeSteps.{well_after}
use Rattle.router_state.specs.Contexts.{activity_at}
use Rattle.router_state.specs.Queues.{head_event, queue}
use Rattle.router_state.specs.State.{State}
use Rattle.router_state.specs.Well.{IsSound, IsWell}
use Rattle.router_state.specs.WellQueues.{is_end}
use Rattle.router_state.specs.declared.rows.Event.{Event}
use Rattle.router_steps.specs.Histories.{Legal, pending_at, replay}
use Rattle.router_steps.specs.Lines.{finish_heading}
use Rattle.router_steps.specs.Steps.{Finish, Finishing, Subject, after, lines_of_step, subject_of}
use Rattle.trace_history.specs.Reading.{activity_word, finished_by, finished_in, heading_of, queued_in}
use Rattle.trace_history.specs.Words.{words_in}
use Rattle.trace_history.specs.declared.choice.Choice.TheVariants as choices
use Rattle.trace_history.specs.declared.entry.Entry.{Entry}

-- a legal history in parts
pub legal_front : (s : State) (k rest : List Entry) → Legal s (k ++ rest) → Legal s k
legal_front s [] rest legal = tt
legal_front s (e ∷ es) rest legal = (legal.0, legal.1, legal.2, legal_front (after s e.choice) es rest legal.3)

pub legal_behind : (s : State) (k rest : List Entry) → Legal s (k ++ rest) → Legal (replay s k) rest
legal_behind s [] rest legal = legal
legal_behind s (e ∷ es) rest legal = legal_behind (after s e.choice) es rest legal.3

some_subject : (o : Option Subject) → is_some o ≡ true → (x : Subject) × (o ≡ Some x)
some_subject None there = absurd (false≢true there)
some_subject (Some x) there = (x, refl)

-- what the first entry of a history says of an activity is so
entry_named : (s : State) (e : Entry) (es : List Entry) (a : ℕ) → IsSound s → IsAsRead s.deployment s.program → Legal s (e ∷ es) → a < 2 ^ 64 → names_activity a (heading_words e) ≡ true → Named s a (heading_words e)
entry_named s e es a sound read legal fits named =
    let about = some_subject (subject_of s e.choice) (choice_about s e.choice read legal.1) in
    subst (λ ls. Named s a (words_in (heading_of ls))) (sym legal.2) (step_named s e.choice about.0 a sound fits about.1 (subst (λ ls. names_activity a (words_in (heading_of ls)) ≡ true) legal.2 named))

entry_first : (s : State) (e : Entry) (es : List Entry) (a : ℕ) → IsSound s → IsAsRead s.deployment s.program → Legal s (e ∷ es) → a < 2 ^ 64 → delivers_on a (heading_words e) ≡ true → NamesFirst s a (heading_words e)
entry_first s e es a sound read legal fits delivers =
    let about = some_subject (subject_of s e.choice) (choice_about s e.choice read legal.1) in
    subst (λ ls. NamesFirst s a (words_in (heading_of ls))) (sym legal.2) (step_first s e.choice about.0 a sound fits about.1 (subst (λ ls. delivers_on a (words_in (heading_of ls)) ≡ true) legal.2 delivers))

-- the head event is the first that waits
first_pending : (s : State) (a : ℕ) (v : Event) → head_event s.events a ≡ Some v → (later : List ℕ) × (pending_at s a ≡ v.id.0 ∷ later)
first_pending s a v head = by (queue s.events a) (sym (head_is_first s.events a) ∙ head)
  where
    by : (waiting : List Event) → first_of waiting ≡ Some v → (later : List ℕ) × (map (λ (w : Event). w.id.0) waiting ≡ v.id.0 ∷ later)
    by [] is = absurd (cc)
    by (w ∷ more) is = (map (λ (u : Event). u.id.0) more, (let same : w ≡ v = cc in ap (λ (u : Event). u.id.0 ∷ map (λ (z : Event). z.id.0) more) same))

pub heading_next : (s : State) (k : List Entry) (e : Entry) (rest : List Entry) (a : ℕ) → IsWell s → IsAsRead s.deployment s.program → Legal s (k ++ e ∷ rest) → a < 2 ^ 64 → names_activity a (heading_words e) ≡ true → NamesNext s k a (heading_words e)
heading_next s k e rest a well read legal fits named =
    let front = legal_front s k (e ∷ rest) legal in
    let one = entry_named (replay s k) e rest a (legal_well s k well read front).sound (legal_as_read s k read) (legal_behind s k (e ∷ rest) legal) fits named in
    let waits = first_pending (replay s k) a one.event one.head in
    record {
      event = one.event.id.0;
      verb = one.verb;
      more = one.more;
      reads = one.reads;
      later = waits.0;
      next = run_in_order s k (legal_is_run s k well read front) a fits ∙ ap (λ ns. finished_in k a ++ ns) waits.1;
    }

pub heading_first : (s : State) (k : List Entry) (e : Entry) (rest : List Entry) (a : ℕ) → IsWell s → IsAsRead s.deployment s.program → Legal s (k ++ e ∷ rest) → a < 2 ^ 64 → delivers_on a (heading_words e) ≡ true → NamesFirst (replay s k) a (heading_words e)
heading_first s k e rest a well read legal fits delivers =
    entry_first (replay s k) e rest a (legal_well s k well read (legal_front s k (e ∷ rest) legal)).sound (legal_as_read s k read) (legal_behind s k (e ∷ rest) legal) fits delivers

-- an activity that is gone

unnamed_gone : (s : State) (h : List Entry) (a : ℕ) → IsWell s → IsAsRead s.deployment s.program → Legal s h → a < 2 ^ 64 → a < s.next_activity → is_some (activity_at s.activities a) ≡ false → IsUnnamed a h
unnamed_gone s [] a well read legal fits less none = tt
unnamed_gone s (e ∷ es) a well read legal fits less none =
    let t = after s e.choice in
    let stays = gone_after s e.choice in (
      elim (cases_Bool (names_activity a (heading_words e))) [
        | inr unnamed ↦ unnamed
        | inl named ↦ (
            let one = entry_named s e es a well.sound read legal fits named in
            let nobody : None ≡ Some one.event = ap first_of (sym (nothing_waits_there s a well.sound none)) ∙ sym (head_is_first s.events a) ∙ one.head in
            absurd (cc)
            )
      ],
      unnamed_gone t es a (well_after s e.choice well.sound read.deployed (legal_can s e es well.sound read legal)) (same_read s e.choice read) legal.3 fits (further a s.next_activity t.next_activity less stays.grown) (stays.gone a less none),
    )
  where
    further : (a n m : ℕ) → a < n → n ≤ m → a < m
    further a n m less le = omega (arith, less, le)

-- where no heading names an activity, none says that an event was finished there
quiet_finish : (a : ℕ) (words : List (List ℕ)) → names_activity a words ≡ false → finished_by a words ≡ []
quiet_finish a [] unnamed = refl
quiet_finish a (x ∷ []) unnamed = refl
quiet_finish a (x ∷ y ∷ []) unnamed = refl
quiet_finish a (x ∷ y ∷ z ∷ []) unnamed =
    rw (last (bytes_eq x (codes "initial")) (bytes_eq x (codes "deliver")) (bytes_eq x (codes "finish")) (bytes_eq y (activity_word a)) unnamed) refl
  where
    last : (p q r t : Bool) → ((p || (q || r)) && t) ≡ false → (r && t) ≡ false
    last p q true true is = absurd (true_last p q is)
      where
        true_last : (p q : Bool) → ((p || (q || true)) && true) ≡ false → ⊥
        true_last true q is = absurd (cc)
        true_last false true is = absurd (cc)
        true_last false false is = absurd (cc)
    last p q true false is = refl
    last p q false t is = refl
quiet_finish a (x ∷ y ∷ z ∷ u ∷ words) unnamed = refl

none_finished : (a : ℕ) (h : List Entry) → IsUnnamed a h → finished_in h a ≡ []
none_finished a [] unnamed = refl
none_finished a (e ∷ es) unnamed = rw (quiet_finish a (heading_words e) unnamed.0, none_finished a es unnamed.1) refl

-- nothing waits where nothing is
none_pending : (s : State) (a : ℕ) → IsSound s → is_some (activity_at s.activities a) ≡ false → pending_at s a ≡ []
none_pending s a sound none = ap (map (λ (v : Event). v.id.0)) (nothing_waits_there s a sound none)

-- the heading of a finish
finish_told : (s : State) (e : Entry) (es : List Entry) (a : ActivityId) (v : Event) → IsSound s → Legal s (e ∷ es) → e.choice ≡ choices.Finish a → head_event s.events a.0 ≡ Some v → finished_by a.0 (heading_words e) ≡ v.id.0 ∷ []
finish_told s e es a v sound legal is head =
    let x : Finish = record { activity = a.0; event = v } in
    let about : subject_of s (choices.Finish a) ≡ Some (Finishing x) = rw head refl in
    let lines : e.lines ≡ finish_heading a.0 v.id.0 ∷ _ = legal.2 ∙ ap (lines_of_step s) is ∙ lines_are s (choices.Finish a) (Finishing x) about in
    let fits = head_fits s a.0 v sound head in
    ap (λ ls. finished_by a.0 (words_in (heading_of ls))) lines ∙ finish_is_read a.0 v.id.0 a.0 fits.0 fits.1 fits.0 ∙ rw (eq-eqb a.0 a.0 refl) refl

pub end_is_last : (s : State) (k : List Entry) (e : Entry) (rest : List Entry) (a : ActivityId) (v : Event) → IsWell s → IsAsRead s.deployment s.program → Legal s (k ++ e ∷ rest)
    → e.choice ≡ choices.Finish a → head_event (replay s k).events a.0 ≡ Some v → is_end v ≡ true → IsLast s k rest e a.0 v.id.0
end_is_last s k e rest a v well read legal is head ends =
    let t = replay s k in
    let here = legal_well s k well read (legal_front s k (e ∷ rest) legal) in
    let from = legal_as_read s k read in
    let behind = legal_behind s k (e ∷ rest) legal in
    let u = after t e.choice in
    let fits = head_fits t a.0 v here.sound head in
    let gone : (a.0 < u.next_activity) × (is_some (activity_at u.activities a.0) ≡ false) = subst (λ c. (a.0 < (after t c).next_activity) × (is_some (activity_at (after t c).activities a.0) ≡ false)) (sym is) (gone_behind_end t a v here.sound head ends) in
    let there = well_after t e.choice here.sound from.deployed (legal_can t e rest here.sound from behind) in
    let later = same_read t e.choice from in
    let unnamed = unnamed_gone u rest a.0 there later behind.3 fits.0 gone.0 gone.1 in
    let none = none_finished a.0 rest unnamed in
    let end : is_some (activity_at (replay u rest).activities a.0) ≡ false = (gone_replay u rest).gone a.0 gone.0 gone.1 in
    let last_well = legal_well u rest there later behind.3 in
    let left : pending_at (replay u rest) a.0 ≡ [] = none_pending (replay u rest) a.0 last_well.sound end in
    let order = run_in_order u rest (legal_is_run u rest there later behind.3) a.0 fits.0 in
    let whole = run_in_order s (k ++ e ∷ rest) (legal_is_run s (k ++ e ∷ rest) well read legal) a.0 fits.0 in
    let all : pending_at (replay s (k ++ e ∷ rest)) a.0 ≡ [] = ap (λ (w : State). pending_at w a.0) (replay_append s k (e ∷ rest)) ∙ left in
    let told : finished_in (k ++ e ∷ rest) a.0 ≡ finished_in k a.0 ++ v.id.0 ∷ [] =
    flat_map-append (λ (x : Entry). finished_by a.0 (heading_words x)) k (e ∷ rest)
    ∙ ap (λ ns. finished_in k a.0 ++ ns) (joined (finished_by a.0 (heading_words e)) (finished_in rest a.0) v.id.0 (finish_told t e rest a v here.sound behind is head) none) in
    record {
      unnamed = unnamed;
      silent = quiet (pending_at u a.0) (queued_in rest a.0) (finished_in rest a.0) (pending_at (replay u rest) a.0) (none_pending u a.0 there.sound gone.1) none left order;
      last = whole ∙ ending (finished_in (k ++ e ∷ rest) a.0) (pending_at (replay s (k ++ e ∷ rest)) a.0) all ∙ told;
    }
  where
    joined : (xs ys : List ℕ) (n : ℕ) → xs ≡ n ∷ [] → ys ≡ [] → xs ++ ys ≡ n ∷ []
    joined xs ys n one two = rw (one, two) refl

    quiet : (p q f r : List ℕ) → p ≡ [] → f ≡ [] → r ≡ [] → p ++ q ≡ f ++ r → q ≡ []
    quiet p q f r one two three same = ap (λ x. x ++ q) (sym one) ∙ same ∙ ap (λ x. x ++ r) two ∙ three

    ending : (xs ys : List ℕ) → ys ≡ [] → xs ++ ys ≡ xs
    ending xs ys none = ap (λ zs. xs ++ zs) none ∙ append_nil xs
