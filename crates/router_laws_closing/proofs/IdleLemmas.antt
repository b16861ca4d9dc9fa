-- Null activities that changes may leave idle, and what closing looks at of them.
use Rattle.std.proofs.Common.{◌≡◌, ℕ, ◌==◌, Bool, true, false, List, [], ◌∷◌, ◌++◌, filter, map, refl, sym, ap, subst, ◌∙◌, arith, inl, inr}
use Rattle.std.specs.Prelude.{not, ◌||◌, ◌&&◌, Option, option_map, Some, None}
use Rattle.std.specs.Option.{option_map_or}
use Rattle.std.specs.List.{list_any, list_all, AllByRecursion}
use Rattle.std.specs.Str.{bytes_eq}
use Rattle.std.proofs.lemmas.Bool.{cases_Bool, and_parts, cond_both, not-true}
use Rattle.std.proofs.lemmas.Bool.Decides.{nat_tests}
use Rattle.router_state.specs.State.{State}
use Rattle.rows_sorted.specs.Orders.{put}
use Rattle.router_state.specs.Closed.{is_in_use, is_unused}
use Rattle.router_state.specs.Contexts.{activity_at, ends, with_end, is_link, link_before, name_before, is_null, with_link, with_name, without_link, without_links_on, without_name, without_names_of}
use Rattle.router_state.specs.Queues.{activity_end, queued_before, is_waiting, with_event, without_head}
use Rattle.router_state.specs.Timers.{advanced, behind, due_count, goes_on, with_timer, without_timer, without_timers_on}
use Rattle.router_state.specs.Well.{IsClosed}
use Rattle.router_state.specs.Changes.{after_change, after_changes}
use Rattle.router_state.specs.declared.change.Change.{Change}
use Rattle.router_state.specs.declared.change.Change.TheVariants as changes
use Rattle.router_state.specs.declared.rows.Activity.{Activity}
use Rattle.router_state.specs.declared.rows.Event.{Event}
use Rattle.router_state.specs.declared.rows.Link.{Link}
use Rattle.router_state.specs.declared.rows.Named.{Named}
use Rattle.router_state.specs.declared.rows.Queued.{Queued}
use Rattle.router_state.specs.declared.rows.Timer.{Timer}
use Rattle.router_steps.specs.Closing.{is_idle, is_idle_at, close_null, close_nulls, lines_of_null, lines_of_nulls}
use Rattle.router_steps.specs.Moves.{ended}
use Rattle.router_laws.proofs.ListLemmas.{any_joined, any_kept, any_put_own, any_put_other}
use Rattle.router_laws_closing.proofs.TextLemmas.{one_below}
use Rattle.router_laws_closing.specs.Idle.{AreIdleAmong, releases, released_by}

-- the activity is an Active null activity that isn't in use
abbrev idle : Activity → State → Bool
idle row s = is_idle s row

-- each idle activity is among these
abbrev AreKnown : (ℕ → Bool) → State → Type 0
AreKnown among s = AllByRecursion (λ row. idle row s ≡ true → among row.number.0 ≡ true) s.activities

-- lists of Bool

pub or_left : (a b : Bool) → a ≡ true → (a || b) ≡ true
or_left a b is = rw is refl

pub or_right : (a b : Bool) → b ≡ true → (a || b) ≡ true
or_right true b is = refl
or_right false b is = is

or_up : (a b c d : Bool) → (a ≡ true → c ≡ true) → (b ≡ true → d ≡ true) → (a || b) ≡ true → (c || d) ≡ true
or_up true b c d one other is = or_left c d (one refl)
or_up false b c d one other is = or_right c d (other is)

same : (a : Bool) → a ≡ true → a ≡ true
same a is = is

-- one that is looked for stays where another row is put, unless that row is put in its place
pub put_stays : {X : Type 0} (before : X → X → Bool) (q : X → Bool) (row : X) (xs : List X) → ((x : X) → q x ≡ true → q row ≡ false → (before x row || before row x) ≡ true)
    → list_any q xs ≡ true → list_any q (put before row xs) ≡ true
put_stays before q row xs apart is = elim (cases_Bool (q row)) [
  | inl mine ↦ any_put_own before q row xs mine
  | inr other ↦ any_put_other before q row xs other (λ x own. apart x own other) ∙ is
]

-- one stays in what is left by a filter, if none that goes is looked for
pub filter_stays : {X : Type 0} (q gone : X → Bool) (xs : List X) → list_any (λ x. gone x && q x) xs ≡ false → list_any q xs ≡ true → list_any q (filter (λ x. not (gone x)) xs) ≡ true
filter_stays q gone [] none is = is
filter_stays q gone (x ∷ xs) none is = elim (cases_Bool (gone x)) [
  | inl goes ↦ elim (cases_Bool (q x)) [
    | inl mine ↦ let wrong : true ≡ false = rw (goes, mine) at none in absurd (cc)
    | inr other ↦ rw goes (filter_stays q gone xs (rw (goes, other) at none) (rw other at is))
  ]
  | inr stays ↦ elim (cases_Bool (q x)) [
    | inl mine ↦ rw (stays, mine) refl
    | inr other ↦ rw (stays, other) (filter_stays q gone xs (rw stays at none) (rw other at is))
  ]
]

-- what an activity has stays

pair_other : (c e b a e' a' : ℕ) → (c == a) ≡ true → (a' == a) ≡ false → (c == a') ≡ false
pair_other c e b a e' a' mine other = grind (arith, nat_tests)

linked_apart : (a e' a' : ℕ) (l : Link) → (l.activity.0 == a) ≡ true → (a' == a) ≡ false → (link_before l (record { entity = record { 0 = e' }; activity = record { 0 = a' } }) || link_before (record { entity = record { 0 = e' }; activity = record { 0 = a' } }) l) ≡ true
linked_apart a e' a' l mine other = grind (arith, nat_tests)

waiting_apart : (a a' : ℕ) (event : Event) (x : Queued) → (x.activity.0 == a) ≡ true → (a' == a) ≡ false → (queued_before x (record { activity = record { 0 = a' }; event = event }) || queued_before (record { activity = record { 0 = a' }; event = event }) x) ≡ true
waiting_apart a a' event x mine other = grind (arith, nat_tests)

head_stays : (a a' : ℕ) (events : List Queued) → (a' == a) ≡ false → is_waiting events a ≡ true → is_waiting (without_head events a') a ≡ true
head_stays a a' [] other is = is
head_stays a a' (q ∷ qs) other is = elim (cases_Bool (q.activity.0 == a')) [
  | inl head ↦ let foreign : (q.activity.0 == a) ≡ false = grind (arith, nat_tests) in rw head (rw foreign at is)
  | inr next ↦ elim (cases_Bool (q.activity.0 == a)) [
    | inl mine ↦ rw (next, mine) refl
    | inr foreign ↦ rw (next, foreign) (head_stays a a' qs other (rw foreign at is))
  ]
]

behind_any : (a : ℕ) (used : Timer → ℕ) (timers : List Timer) → list_any (λ (t : Timer). t.activity.0 == a) (map (λ t. behind t (used t)) timers) ≡ list_any (λ (t : Timer). t.activity.0 == a) timers
behind_any a used [] = refl
behind_any a used (t ∷ ts) = ap (λ more. (t.activity.0 == a) || more) (behind_any a used ts)

advanced_stays : (a to : ℕ) (timers : List Timer) → list_any (λ (row : Timer). not (goes_on row (due_count row to)) && (row.activity.0 == a)) timers ≡ false
    → list_any (λ (t : Timer). t.activity.0 == a) timers ≡ true → list_any (λ (t : Timer). t.activity.0 == a) (advanced timers to) ≡ true
advanced_stays a to timers none is = behind_any a (λ t. due_count t to) (filter (λ t. goes_on t (due_count t to)) timers) ∙ by timers none is
  where
    by : (timers : List Timer) → list_any (λ (row : Timer). not (goes_on row (due_count row to)) && (row.activity.0 == a)) timers ≡ false
        → list_any (λ (t : Timer). t.activity.0 == a) timers ≡ true → list_any (λ (t : Timer). t.activity.0 == a) (filter (λ t. goes_on t (due_count t to)) timers) ≡ true
    by [] none is = is
    by (t ∷ ts) none is = elim (cases_Bool (goes_on t (due_count t to))) [
      | inl stays ↦ elim (cases_Bool (t.activity.0 == a)) [
        | inl mine ↦ rw (stays, mine) refl
        | inr other ↦ rw (stays, other) (by ts (rw stays at none) (rw other at is))
      ]
      | inr goes ↦ elim (cases_Bool (t.activity.0 == a)) [
        | inl mine ↦ let wrong : true ≡ false = rw (goes, mine) at none in absurd (cc)
        | inr other ↦ rw goes (by ts (rw (goes, other) at none) (rw other at is))
      ]
    ]

timers_joined : (a : ℕ) (timers : List Timer) (t : Timer) → list_any (λ (t : Timer). t.activity.0 == a) timers ≡ true → list_any (λ (t : Timer). t.activity.0 == a) (timers ++ t ∷ []) ≡ true
timers_joined a timers t is = any_joined (λ (t : Timer). t.activity.0 == a) timers (t ∷ []) ∙ or_left _ _ is

-- the names of an activity other than this one
abbrev foreign : ℕ → List ℕ → Named → Bool
foreign a name row = (row.activity.0 == a) && not (bytes_eq row.name name)

pub any_more : {X : Type 0} (p q : X → Bool) → ((x : X) → p x ≡ true → q x ≡ true) → (xs : List X) → list_any p xs ≡ true → list_any q xs ≡ true
any_more p q more [] is = is
any_more p q more (x ∷ xs) is = elim (cases_Bool (p x)) [
  | inl mine ↦ rw (more x mine) refl
  | inr other ↦ or_right (q x) (list_any q xs) (any_more p q more xs (rw other at is))
]

found_foreign : (a : ℕ) (name : List ℕ) (names : List Named) → list_any (λ (row : Named). bytes_eq row.name name && (row.activity.0 == a)) names ≡ false
    → list_any (λ (row : Named). row.activity.0 == a) names ≡ true → list_any (foreign a name) names ≡ true
found_foreign a name [] none is = is
found_foreign a name (row ∷ rows) none is = elim (cases_Bool (row.activity.0 == a)) [
  | inl mine ↦ elim (cases_Bool (bytes_eq row.name name)) [
    | inl own ↦ let wrong : true ≡ false = rw (mine, own) at none in absurd (cc)
    | inr other ↦ rw (mine, other) refl
  ]
  | inr alien ↦ elim (cases_Bool (bytes_eq row.name name)) [
    | inl own ↦ rw alien (found_foreign a name rows (rw (alien, own) at none) (rw alien at is))
    | inr other ↦ rw alien (found_foreign a name rows (rw other at none) (rw alien at is))
  ]
]

name_stays : (a a' : ℕ) (name : List ℕ) (names : List Named) → list_any (λ (row : Named). bytes_eq row.name name && (row.activity.0 == a)) names ≡ false
    → list_any (λ (row : Named). row.activity.0 == a) names ≡ true → list_any (λ (row : Named). row.activity.0 == a) (with_name names name a') ≡ true
name_stays a a' name names none is = elim (cases_Bool (a' == a)) [
  | inl mine ↦ any_put_own name_before (λ (row : Named). row.activity.0 == a) (record { name = name; activity = record { 0 = a' } }) names mine
  | inr other ↦
      any_more (foreign a name) (λ (row : Named). row.activity.0 == a) (λ row both. (and_parts (row.activity.0 == a) (not (bytes_eq row.name name)) both).0) (with_name names name a')
      (any_put_other name_before (foreign a name) (record { name = name; activity = record { 0 = a' } }) names (rw other refl)
      (λ (row : Named) both. one_below row.name name (not-true _ (and_parts (row.activity.0 == a) (not (bytes_eq row.name name)) both).1))
      ∙ found_foreign a name names none is)
]

abbrev in_use : State → ℕ → Bool
in_use s a = is_in_use s.links s.names s.timers s.events a

abbrev on_links : ℕ → List Link → Bool
on_links a links = list_any (λ (l : Link). l.activity.0 == a) links

abbrev on_names : ℕ → List Named → Bool
on_names a names = list_any (λ (row : Named). row.activity.0 == a) names

abbrev on_timers : ℕ → List Timer → Bool
on_timers a timers = list_any (λ (t : Timer). t.activity.0 == a) timers

not_on : {X : Type 0} (number : X → ℕ) (a a' : ℕ) (xs : List X) → (a' == a) ≡ false → list_any (λ x. number x == a) xs ≡ true → list_any (λ x. number x == a) (filter (λ x. not (number x == a')) xs) ≡ true
not_on number a a' xs other is = any_kept (λ x. number x == a) (λ x. not (number x == a')) (λ x mine. by (number x) mine) xs ∙ is
  where
    by : (n : ℕ) → (n == a) ≡ true → not (n == a') ≡ true
    by n mine = grind (arith, nat_tests)

detach_stays : (a e' a' : ℕ) (links : List Link) → (a' == a) ≡ false → on_links a links ≡ true → on_links a (filter (λ l. not (is_link e' a' l)) links) ≡ true
detach_stays a e' a' links other is = any_kept (λ (l : Link). l.activity.0 == a) (λ l. not (is_link e' a' l)) (λ (l : Link) mine. by l.entity.0 l.activity.0 mine) links ∙ is
  where
    by : (b c : ℕ) → (c == a) ≡ true → not ((b == e') && (c == a')) ≡ true
    by b c mine = grind (arith, nat_tests)

links_up : (a : ℕ) (ls ks : List Link) (ns : List Named) (ts : List Timer) (es : List Queued) → (on_links a ls ≡ true → on_links a ks ≡ true) → is_in_use ls ns ts es a ≡ true → is_in_use ks ns ts es a ≡ true
links_up a ls ks ns ts es one is = or_up (on_links a ls) (on_names a ns || (on_timers a ts || is_waiting es a)) (on_links a ks) (on_names a ns || (on_timers a ts || is_waiting es a)) one (same (on_names a ns || (on_timers a ts || is_waiting es a))) is

names_up : (a : ℕ) (ls : List Link) (ns ms : List Named) (ts : List Timer) (es : List Queued) → (on_names a ns ≡ true → on_names a ms ≡ true) → is_in_use ls ns ts es a ≡ true → is_in_use ls ms ts es a ≡ true
names_up a ls ns ms ts es one is =
    or_up (on_links a ls) (on_names a ns || (on_timers a ts || is_waiting es a)) (on_links a ls) (on_names a ms || (on_timers a ts || is_waiting es a)) (same (on_links a ls))
    (or_up (on_names a ns) (on_timers a ts || is_waiting es a) (on_names a ms) (on_timers a ts || is_waiting es a) one (same (on_timers a ts || is_waiting es a))) is

behind_up : (a : ℕ) (ls : List Link) (ns : List Named) (ts us : List Timer) (es fs : List Queued) → (on_timers a ts ≡ true → on_timers a us ≡ true) → (is_waiting es a ≡ true → is_waiting fs a ≡ true) → is_in_use ls ns ts es a ≡ true → is_in_use ls ns us fs a ≡ true
behind_up a ls ns ts us es fs one two is =
    or_up (on_links a ls) (on_names a ns || (on_timers a ts || is_waiting es a)) (on_links a ls) (on_names a ns || (on_timers a us || is_waiting fs a)) (same (on_links a ls))
    (or_up (on_names a ns) (on_timers a ts || is_waiting es a) (on_names a ns) (on_timers a us || is_waiting fs a) (same (on_names a ns))
    (or_up (on_timers a ts) (is_waiting es a) (on_timers a us) (is_waiting fs a) one two)) is

timers_up : (a : ℕ) (ls : List Link) (ns : List Named) (ts us : List Timer) (es : List Queued) → (on_timers a ts ≡ true → on_timers a us ≡ true) → is_in_use ls ns ts es a ≡ true → is_in_use ls ns us es a ≡ true
timers_up a ls ns ts us es one is = behind_up a ls ns ts us es es one (same (is_waiting es a)) is

events_up : (a : ℕ) (ls : List Link) (ns : List Named) (ts : List Timer) (es fs : List Queued) → (is_waiting es a ≡ true → is_waiting fs a ≡ true) → is_in_use ls ns ts es a ≡ true → is_in_use ls ns ts fs a ≡ true
events_up a ls ns ts es fs one is = behind_up a ls ns ts ts es fs (same (on_timers a ts)) one is

-- an activity that isn't among stays in use
used_stays : (c : Change) (s : State) (a : ℕ) → releases c s a ≡ false → in_use s a ≡ true → in_use (after_change c s) a ≡ true
used_stays (changes.DropContext a') s a still is =
    names_up a (without_links_on s.links a'.0) s.names (without_names_of s.names a'.0) s.timers s.events (not_on (λ (row : Named). row.activity.0) a a'.0 s.names still)
    (links_up a s.links (without_links_on s.links a'.0) s.names s.timers s.events (not_on (λ (l : Link). l.activity.0) a a'.0 s.links still) is)
used_stays (changes.Attach e' a') s a still is =
    links_up a s.links (with_link s.links e'.0 a'.0) s.names s.timers s.events
    (put_stays link_before (λ (l : Link). l.activity.0 == a) (record { entity = record { 0 = e'.0 }; activity = record { 0 = a'.0 } }) s.links (λ l mine other. linked_apart a e'.0 a'.0 l mine other)) is
used_stays (changes.Detach e' a') s a still is = links_up a s.links (without_link s.links e'.0 a'.0) s.names s.timers s.events (detach_stays a e'.0 a'.0 s.links still) is
used_stays (changes.Bind name a') s a still is = names_up a s.links s.names (with_name s.names name a'.0) s.timers s.events (name_stays a a'.0 name s.names still) is
used_stays (changes.Unbind name) s a still is =
    names_up a s.links s.names (without_name s.names name) s.timers s.events (filter_stays (λ (row : Named). row.activity.0 == a) (λ (row : Named). bytes_eq row.name name) s.names still) is
used_stays (changes.Push a' event) s a still is =
    events_up a s.links s.names s.timers s.events (with_event s.events a'.0 event)
    (put_stays queued_before (λ (q : Queued). q.activity.0 == a) (record { activity = record { 0 = a'.0 }; event = event }) s.events (λ q mine other. waiting_apart a a'.0 event q mine other)) is
used_stays (changes.Pop a') s a still is = events_up a s.links s.names s.timers s.events (without_head s.events a'.0) (head_stays a a'.0 s.events still) is
used_stays (changes.SetTimer spec) s a still is =
    timers_up a s.links s.names s.timers (with_timer s.timers s.next_timer spec) s.events (timers_joined a s.timers (record { number = record { 0 = s.next_timer }; activity = spec.activity; next = spec.start; period = spec.period; left = spec.times; keep = spec.keep })) is
used_stays (changes.Cancel t) s a still is =
    timers_up a s.links s.names s.timers (without_timer s.timers t.0) s.events (filter_stays (λ (row : Timer). row.activity.0 == a) (λ (row : Timer). row.number.0 == t.0) s.timers still) is
used_stays (changes.CancelAll a') s a still is = timers_up a s.links s.names s.timers (without_timers_on s.timers a'.0) s.events (not_on (λ (t : Timer). t.activity.0) a a'.0 s.timers still) is
used_stays (changes.Advance to) s a still is = timers_up a s.links s.names s.timers (advanced s.timers to) s.events (advanced_stays a to s.timers still) is
used_stays _ s a still is = is

-- a row that isn't idle stays so where its activity stays in use

idle_needs : (n e u v : Bool) → (u ≡ true → v ≡ true) → (n && (not e && not v)) ≡ true → (n && (not e && not u)) ≡ true
idle_needs true true u v up is = cc
idle_needs true false true v up is = let used = up refl in absurd (let wrong : false ≡ true = rw used at is in cc)
idle_needs true false false v up is = refl
idle_needs false e u v up is = cc

idle_back : (c : Change) (s : State) (row : Activity) → releases c s row.number.0 ≡ false → idle row (after_change c s) ≡ true → idle row s ≡ true
idle_back c s row still is = idle_needs (is_null row.kind) row.ending (in_use s row.number.0) (in_use (after_change c s) row.number.0) (used_stays c s row.number.0 still) is

abbrev or_releases : (ℕ → Bool) → Change → State → ℕ → Bool
or_releases among c s a = among a || releases c s a

known_row : (among : ℕ → Bool) (c : Change) (s : State) (row : Activity) → (idle row s ≡ true → among row.number.0 ≡ true)
    → idle row (after_change c s) ≡ true → or_releases among c s row.number.0 ≡ true
known_row among c s row known is = elim (cases_Bool (releases c s row.number.0)) [
  | inl moved ↦ or_right (among row.number.0) (releases c s row.number.0) moved
  | inr still ↦ or_left (among row.number.0) (releases c s row.number.0) (known (idle_back c s row still is))
]

known_rows : (among : ℕ → Bool) (c : Change) (s : State) (rows : List Activity) → AllByRecursion (λ row. idle row s ≡ true → among row.number.0 ≡ true) rows
    → AllByRecursion (λ row. idle row (after_change c s) ≡ true → or_releases among c s row.number.0 ≡ true) rows
known_rows among c s [] known = tt
known_rows among c s (row ∷ rows) known = (known_row among c s row known.0, known_rows among c s rows known.1)

all_joined : {X : Type 0} (P : X → Type 0) (xs : List X) (x : X) → AllByRecursion P xs → P x → AllByRecursion P (xs ++ x ∷ [])
all_joined P [] x all one = (one, tt)
all_joined P (y ∷ ys) x all one = (all.0, all_joined P ys x all.1 one)

all_filter : {X : Type 0} (P : X → Type 0) (p : X → Bool) (xs : List X) → AllByRecursion P xs → AllByRecursion P (filter p xs)
all_filter P p [] all = tt
all_filter P p (x ∷ xs) all = cond_both (p x) (x ∷ filter p xs) (filter p xs) (AllByRecursion P) (λ _. (all.0, all_filter P p xs all.1)) (λ _. all_filter P p xs all.1)

idle_ended : (a : ℕ) (s : State) (row : Activity) → idle (ends a row) s ≡ true → idle row s ≡ true
idle_ended a s row is = elim (cases_Bool (row.number.0 == a)) [
  | inl own ↦ absurd (let wrong : idle (record row { ending = true }) s ≡ true = rw own at is in by (is_null row.kind) wrong)
  | inr other ↦ rw other at is
]
  where
    by : (n : Bool) → (n && false) ≡ true → ⊥
    by true wrong = cc
    by false wrong = cc

pub kept_number : (a : ℕ) (row : Activity) → (ends a row).number.0 ≡ row.number.0
kept_number a row = cond_both (row.number.0 == a) (record row { ending = true }) row (λ r. r.number.0 ≡ row.number.0) (λ _. refl) (λ _. refl)

ended_rows : (among : ℕ → Bool) (a : ℕ) (s : State) (rows : List Activity) → AllByRecursion (λ row. idle row s ≡ true → among row.number.0 ≡ true) rows
    → AllByRecursion (λ row. idle row s ≡ true → (among row.number.0 || false) ≡ true) (map (ends a) rows)
ended_rows among a s [] known = tt
ended_rows among a s (row ∷ rows) known =
    ((λ is. rw (kept_number a row) (or_left (among row.number.0) false (known.0 (idle_ended a s row is)))), ended_rows among a s rows known.1)

number_self : (n : ℕ) → (n == n) ≡ true
number_self n = grind (arith, nat_tests)

known_after : (among : ℕ → Bool) (c : Change) (s : State) → AreKnown among s → AreKnown (or_releases among c s) (after_change c s)
known_after among (changes.Start kind) s known =
    all_joined _ s.activities _ (known_rows among (changes.Start kind) s s.activities known) (λ _. or_right (among s.next_activity) (s.next_activity == s.next_activity) (number_self s.next_activity))
known_after among (changes.End a) s known = ended_rows among a.0 s s.activities known
known_after among (changes.DropContext a) s known = all_filter _ (λ (row : Activity). not (row.number.0 == a.0)) s.activities (known_rows among (changes.DropContext a) s s.activities known)
known_after among (changes.Attach e a) s known = known_rows among (changes.Attach e a) s s.activities known
known_after among (changes.Detach e a) s known = known_rows among (changes.Detach e a) s s.activities known
known_after among (changes.Bind name a) s known = known_rows among (changes.Bind name a) s s.activities known
known_after among (changes.Unbind name) s known = known_rows among (changes.Unbind name) s s.activities known
known_after among (changes.Push a event) s known = known_rows among (changes.Push a event) s s.activities known
known_after among (changes.Pop a) s known = known_rows among (changes.Pop a) s s.activities known
known_after among (changes.SetTimer spec) s known = known_rows among (changes.SetTimer spec) s s.activities known
known_after among (changes.Cancel t) s known = known_rows among (changes.Cancel t) s s.activities known
known_after among (changes.CancelAll a) s known = known_rows among (changes.CancelAll a) s s.activities known
known_after among (changes.Advance to) s known = known_rows among (changes.Advance to) s s.activities known
known_after among _ s known = all_more among s s.activities known
  where
    all_more : (among : ℕ → Bool) (s : State) (rows : List Activity) → AllByRecursion (λ row. idle row s ≡ true → among row.number.0 ≡ true) rows
        → AllByRecursion (λ row. idle row s ≡ true → (among row.number.0 || false) ≡ true) rows
    all_more among s [] known = tt
    all_more among s (row ∷ rows) known = ((λ is. or_left (among row.number.0) false (known.0 is)), all_more among s rows known.1)

-- what was among by changes one after another

regroup : (a b c : Bool) → ((a || b) || c) ≡ (a || (b || c))
regroup true b c = refl
regroup false b c = refl

known_through : (cs : List Change) (among : ℕ → Bool) (s : State) → AreKnown among s → AreKnown (λ a. among a || released_by cs s a) (after_changes cs s)
known_through [] among s known = by s.activities known
  where
    by : (rows : List Activity) → AllByRecursion (λ row. idle row s ≡ true → among row.number.0 ≡ true) rows → AllByRecursion (λ row. idle row s ≡ true → (among row.number.0 || false) ≡ true) rows
    by [] known = tt
    by (row ∷ rows) known = ((λ is. or_left (among row.number.0) false (known.0 is)), by rows known.1)
known_through (c ∷ cs) among s known =
    by (after_changes cs (after_change c s)).activities (known_through cs (or_releases among c s) (after_change c s) (known_after among c s known))
  where
    t : State
    t = after_changes cs (after_change c s)

    by : (rows : List Activity) → AllByRecursion (λ row. idle row (after_changes cs (after_change c s)) ≡ true → (or_releases among c s row.number.0 || released_by cs (after_change c s) row.number.0) ≡ true) rows
        → AllByRecursion (λ row. idle row (after_changes cs (after_change c s)) ≡ true → (among row.number.0 || released_by (c ∷ cs) s row.number.0) ≡ true) rows
    by [] known = tt
    by (row ∷ rows) known = ((λ is. sym (regroup (among row.number.0) (releases c s row.number.0) (released_by cs (after_change c s) row.number.0)) ∙ known.0 is), by rows known.1)

closed_known : (s : State) (rows : List Activity) → list_all (λ row. not (is_unused s.links s.names s.timers s.events row)) rows ≡ true
    → AllByRecursion (λ row. idle row s ≡ true → false ≡ true) rows
closed_known s [] used = tt
closed_known s (row ∷ rows) used =
    let parts = and_parts _ _ used in
    ((λ is. absurd (let wrong : true ≡ false = sym is ∙ not-true _ parts.0 in cc)), closed_known s rows parts.1)

-- what is known of rows holds of numbers
known_number : (among : ℕ → Bool) (s : State) (rows : List Activity) (a : ℕ) → AllByRecursion (λ row. idle row s ≡ true → among row.number.0 ≡ true) rows
    → option_map_or (is_idle s) (activity_at rows a) false ≡ true → among a ≡ true
known_number among s [] a known is = absurd (cc)
known_number among s (row ∷ rows) a known is = elim (cases_Bool (row.number.0 == a)) [
  | inl own ↦ subst (λ (n : ℕ). among n ≡ true) (number_is row.number.0 a own) (known.0 (rw own at is))
  | inr other ↦ known_number among s rows a known.1 (rw other at is)
]
  where
    number_is : (n a : ℕ) → (n == a) ≡ true → n ≡ a
    number_is n a own = grind (arith, nat_tests)

-- after changes of a closed state each idle activity was released by one of them
pub only_released : (cs : List Change) (s : State) → IsClosed s → AreIdleAmong (released_by cs s) (after_changes cs s)
only_released cs s closed a is = known_number (released_by cs s) (after_changes cs s) (after_changes cs s).activities a (known_through cs (λ _. false) s (closed_known s s.activities closed.nulls)) is

-- the end of one leaves the others as they are

abbrev end_event : State → Event
end_event s = record { id = record { 0 = s.next_event }; name = activity_end; fields = []; target = None }

ended_use : (s : State) (a b : ℕ) → in_use s b ≡ true → in_use (ended s a) b ≡ true
ended_use s a b is = elim (cases_Bool (a == b)) [
  | inl own ↦
      or_right (on_links b s.links) (on_names b s.names || (on_timers b (without_timers_on s.timers a) || is_waiting (with_event s.events a (end_event s)) b))
      (or_right (on_names b s.names) (on_timers b (without_timers_on s.timers a) || is_waiting (with_event s.events a (end_event s)) b)
      (or_right (on_timers b (without_timers_on s.timers a)) (is_waiting (with_event s.events a (end_event s)) b)
      (any_put_own queued_before (λ (q : Queued). q.activity.0 == b) (record { activity = record { 0 = a }; event = end_event s }) s.events own)))
  | inr other ↦
      behind_up b s.links s.names s.timers (without_timers_on s.timers a) s.events (with_event s.events a (end_event s)) (not_on (λ (t : Timer). t.activity.0) b a s.timers other)
      (put_stays queued_before (λ (q : Queued). q.activity.0 == b) (record { activity = record { 0 = a }; event = end_event s }) s.events (λ q mine foreign. waiting_apart b a (end_event s) q mine other)) is
]

still_idle : (s : State) (a : ℕ) (row : Activity) → idle (ends a row) (ended s a) ≡ true → idle row s ≡ true
still_idle s a row is =
    idle_needs (is_null row.kind) row.ending (in_use s row.number.0) (in_use (ended s a) row.number.0) (ended_use s a row.number.0) (idle_ended a (ended s a) row is)

-- look-ups among activities of which one ends

same_number : (b : ℕ) (row : Activity) → (ends b row).number ≡ row.number
same_number b row = cond_both (row.number.0 == b) (record row { ending = true }) row (λ r. r.number ≡ row.number) (λ _. refl) (λ _. refl)

pub end_at : (rows : List Activity) (b a : ℕ) → activity_at (with_end rows b) a ≡ option_map (ends b) (activity_at rows a)
end_at [] b a = refl
end_at (row ∷ rows) b a = rw (same_number b row) (elim (cases_Bool (row.number.0 == a)) [
  | inl is ↦ rw is refl
  | inr isnt ↦ rw isnt (end_at rows b a)
])

still_found : (s : State) (a b : ℕ) (rows : List Activity) → option_map_or (is_idle (ended s a)) (activity_at (with_end rows a) b) false ≡ true → option_map_or (is_idle s) (activity_at rows b) false ≡ true
still_found s a b rows is = by (activity_at rows b) (ap (λ o. option_map_or (is_idle (ended s a)) o false) (sym (end_at rows a b)) ∙ is)
  where
    by : (o : Option Activity) → option_map_or (is_idle (ended s a)) (option_map (ends a) o) false ≡ true → option_map_or (is_idle s) o false ≡ true
    by None is = is
    by (Some row) is = still_idle s a row is

pub still_closed : (s : State) (a b : ℕ) → is_idle_at (close_null a s) b ≡ true → is_idle_at s b ≡ true
still_closed s a b is = elim (cases_Bool (is_idle_at s a)) [
  | inl goes ↦ still_found s a b s.activities (rw goes at is)
  | inr stays ↦ rw stays at is
]

not_idle : (b t : Bool) → (b ≡ true → t ≡ true) → t ≡ false → b ≡ false
not_idle true t known is = sym (known refl) ∙ is
not_idle false t known is = refl

kept_one : (among : ℕ → Bool) (a : ℕ) (rest : List ℕ) → among a ≡ true → a ∷ filter among rest ≡ filter among (a ∷ rest)
kept_one among a rest mine = rw mine refl

pub nulls_skipped : (among : ℕ → Bool) (all : List ℕ) (s : State) → AreIdleAmong among s → close_nulls all s ≡ close_nulls (filter among all) s
nulls_skipped among [] s known = refl
nulls_skipped among (a ∷ rest) s known = elim (cases_Bool (among a)) [
  | inl mine ↦ nulls_skipped among rest (close_null a s) (λ b is. known b (still_closed s a b is)) ∙ ap (λ more. close_nulls more s) (kept_one among a rest mine)
  | inr other ↦ let still : is_idle_at s a ≡ false = not_idle (is_idle_at s a) (among a) (known a) other in rw (other, still) (nulls_skipped among rest s known)
]

pub nulls_silent : (among : ℕ → Bool) (all : List ℕ) (s : State) → AreIdleAmong among s → lines_of_nulls all s ≡ lines_of_nulls (filter among all) s
nulls_silent among [] s known = refl
nulls_silent among (a ∷ rest) s known = elim (cases_Bool (among a)) [
  | inl mine ↦ ap (λ more. lines_of_null a s ++ more) (nulls_silent among rest (close_null a s) (λ b is. known b (still_closed s a b is))) ∙ ap (λ more. lines_of_nulls more s) (kept_one among a rest mine)
  | inr other ↦ let still : is_idle_at s a ≡ false = not_idle (is_idle_at s a) (among a) (known a) other in rw (other, still) (nulls_silent among rest s known)
]
