-- What steps do to queues: new events wait behind those that are there.
use Rattle.router_laws_histories.specs.Words.{IsReadable}
use Rattle.std.proofs.Common.{◌≡◌, ℕ, ◌+◌, ◌^◌, ◌<◌, ◌≤◌, ◌==◌, Bool, true, false, List, [], ◌∷◌, ◌++◌, filter, map, refl, sym, ◌∙◌, ap, inl, inr, arith, if◌then◌else◌, Option, Some, None, flat_map}
use Rattle.std.specs.List.{AllByRecursion}
use Rattle.std.specs.Option.{option_map_or}
use Rattle.std.proofs.lemmas.Bool.{cases_Bool, cond_both}
use Rattle.std.proofs.lemmas.Grind.{flat_map-append}
use Rattle.std.proofs.lemmas.List.{map-append}
use Rattle.std.proofs.lemmas.List.Elements.{filter-append}
use Rattle.router_laws.proofs.ListRules.{append_nil, append_joins, all_left, all_right}
use Rattle.router_laws.proofs.Queues.{AreEventsBelow, pushed_here, pushed_elsewhere, pushed_below}
use Rattle.router_laws_histories.proofs.Reading.{queued_is_read}
use Rattle.router_laws_histories.specs.Fires.{Firing, fired_on, fires_of_queued}
use Rattle.router_state.specs.State.{State}
use Rattle.router_state.specs.Changes.{after_change, after_changes}
use Rattle.router_state.specs.Queues.{queue}
use Rattle.router_state.specs.declared.change.Change.{Change}
use Rattle.router_state.specs.declared.change.Change.TheVariants as changes
use Rattle.router_state.specs.declared.rows.Event.{Event}
use Rattle.router_steps.specs.Moves.{queued, lines_of_queued}
use Rattle.trace_history.specs.Reading.{queued_by}
use Rattle.trace_history.specs.Words.{words_in}

-- the events that lines say were queued on an activity
abbrev pub told_on : ℕ → List (List ℕ) → List ℕ
told_on a lines = flat_map (λ line. queued_by a (words_in line)) lines

abbrev pub number_of : Event → ℕ
number_of v = v.id.0

-- numbers of events rise from one number on, and are below the other
abbrev pub RisesFrom : ℕ → List Firing → ℕ → Type 0
RisesFrom n [] m = n ≤ m
RisesFrom n (x ∷ xs) m = (n ≤ x.1.id.0) × RisesFrom (x.1.id.0 + 1) xs m

lower_start : (n k m : ℕ) (xs : List Firing) → n ≤ k → RisesFrom k xs m → RisesFrom n xs m
lower_start n k m [] le rises = omega (arith, le, rises)
lower_start n k m (x ∷ xs) le rises = (omega (arith, le, rises.0), rises.1)

rises_then : (n m k : ℕ) (xs ys : List Firing) → RisesFrom n xs m → RisesFrom m ys k → RisesFrom n (xs ++ ys) k
rises_then n m k [] ys one two = lower_start n m k ys one two
rises_then n m k (x ∷ xs) ys one two = (one.0, rises_then (x.1.id.0 + 1) m k xs ys one.1 two)

-- t comes of s: these events were put behind those that waited, the marks are as they were, and these are the lines
pub record Grows (s t : State) (lines : List (List ℕ)) (fires : List Firing) : Type 0 where
  pub queues : (a : ℕ) → queue t.events a ≡ queue s.events a ++ fired_on a fires
  pub below : AreEventsBelow t.next_event t.events
  pub numbers : RisesFrom s.next_event fires t.next_event
  pub delivered : t.delivered ≡ s.delivered
  pub told : (a : ℕ) → a < 2 ^ 64 → AllByRecursion IsReadable fires → told_on a lines ≡ map number_of (fired_on a fires)

fired_append : (a : ℕ) (x y : List Firing) → fired_on a (x ++ y) ≡ fired_on a x ++ fired_on a y
fired_append a x y = ap (map (λ f. f.1)) (filter-append (λ f. f.0 == a) x y) ∙ map-append (λ f. f.1) (filter (λ f. f.0 == a) x) (filter (λ f. f.0 == a) y)

pub grows_then : (s t u : State) (l k : List (List ℕ)) (x y : List Firing) → Grows s t l x → Grows t u k y → Grows s u (l ++ k) (x ++ y)
grows_then s t u l k x y one two = record {
  queues = λ a. two.queues a ∙ rw (one.queues a, fired_append a x y) (append_joins (queue s.events a) (fired_on a x) (fired_on a y));
  below = two.below;
  numbers = rises_then s.next_event t.next_event u.next_event x y one.numbers two.numbers;
  delivered = two.delivered ∙ one.delivered;
  told = λ a fits readable. flat_map-append (λ line. queued_by a (words_in line)) l k
      ∙ rw (one.told a fits (all_left IsReadable x y readable), two.told a fits (all_right IsReadable x y readable), fired_append a x y)
      (sym (map-append number_of (fired_on a x) (fired_on a y)));
}

-- nothing is put on queues
pub stays : (s t : State) (lines : List (List ℕ)) → AreEventsBelow s.next_event s.events → t.events ≡ s.events → t.next_event ≡ s.next_event → t.delivered ≡ s.delivered
    → ((a : ℕ) → told_on a lines ≡ []) → Grows s t lines []
stays s t lines below events next delivered quiet = record {
  queues = λ a. rw events (sym (append_nil (queue s.events a)));
  below = rw (events, next) below;
  numbers = same_le s.next_event t.next_event (sym next);
  delivered = delivered;
  told = λ a fits readable. quiet a;
}
  where
    same_le : (n m : ℕ) → n ≡ m → n ≤ m
    same_le n m is = omega (arith, is)

-- an event is put on a queue
pub queued_grows : (s : State) (a : ℕ) (event : List ℕ) (fields : _) (target : Option ℕ) → AreEventsBelow s.next_event s.events
    → Grows s (queued s a event fields target) (lines_of_queued s a event) (fires_of_queued s a event fields target)
queued_grows s a event fields target below =
    let v : Event = record { id = record { 0 = s.next_event }; name = event; fields = fields; target = target } in
    record {
      queues = λ b. elim (cases_Bool (a == b)) [
        | inl is ↦ rw is (rw (← same_number a b is) (pushed_here s.events a v below))
        | inr isnt ↦ rw isnt (pushed_elsewhere s.events a b v isnt ∙ sym (append_nil (queue s.events b)))
      ];
      below = pushed_below s.next_event s.events a v below (omega arith);
      numbers = (omega arith, omega arith);
      delivered = refl;
      told = λ b fits readable. rw (queued_is_read s.next_event event a b readable.0.1 readable.0.0 fits readable.0.2) (told_if b);
    }
  where
    same_number : (a b : ℕ) → (a == b) ≡ true → a ≡ b
    same_number a b is = grind (arith, is)

    told_if : (b : ℕ) → (if a == b then s.next_event ∷ [] else []) ++ [] ≡ map number_of (fired_on b (fires_of_queued s a event fields target))
    told_if b = cases_if b
      where
        cases_if : (b : ℕ) → (if a == b then s.next_event ∷ [] else []) ++ [] ≡ map number_of (fired_on b (fires_of_queued s a event fields target))
        cases_if b = elim (cases_Bool (a == b)) [
          | inl is ↦ rw is refl
          | inr isnt ↦ rw isnt refl
        ]

-- lines that tell of no event

pub quiet_append : (a : ℕ) (l k : List (List ℕ)) → told_on a l ≡ [] → told_on a k ≡ [] → told_on a (l ++ k) ≡ []
quiet_append a l k one two = flat_map-append (λ line. queued_by a (words_in line)) l k ∙ rw (one, two) refl

pub quiet_one : (a : ℕ) (line : List ℕ) → queued_by a (words_in line) ≡ [] → told_on a (line ∷ []) ≡ []
quiet_one a line quiet = rw quiet refl

pub quiet_more : (a : ℕ) (line : List ℕ) (lines : List (List ℕ)) → queued_by a (words_in line) ≡ [] → told_on a lines ≡ [] → told_on a (line ∷ lines) ≡ []
quiet_more a line lines one more = rw (one, more) refl

pub quiet_if : (a : ℕ) (b : Bool) (lines : List (List ℕ)) → told_on a lines ≡ [] → told_on a (if b then lines else []) ≡ []
quiet_if a true lines quiet = quiet
quiet_if a false lines quiet = refl

pub quiet_unless : (a : ℕ) (b : Bool) (lines : List (List ℕ)) → told_on a lines ≡ [] → told_on a (if b then [] else lines) ≡ []
quiet_unless a true lines quiet = refl
quiet_unless a false lines quiet = quiet

pub quiet_option : {B : Type 0} (a : ℕ) (f : B → List (List ℕ)) → ((x : B) → told_on a (f x) ≡ []) → (o : Option B) → told_on a (option_map_or f o []) ≡ []
quiet_option a f each None = refl
quiet_option a f each (Some x) = each x

-- changes that leave queues and marks as they are

abbrev pub SameQueues : State → State → Type 0
SameQueues s t = (t.events ≡ s.events) × (t.next_event ≡ s.next_event) × (t.delivered ≡ s.delivered)

abbrev pub leaves_queues : Change → Bool
leaves_queues (changes.Push a event) = false
leaves_queues (changes.Pop a) = false
leaves_queues (changes.MarkEntity a e) = false
leaves_queues changes.NextEvent = false
leaves_queues _ = true

pub same_queues : (c : Change) (s : State) → leaves_queues c ≡ true → SameQueues s (after_change c s)
same_queues (changes.SetField e name value) s quiet = (refl, refl, refl)
same_queues (changes.ForgetFields e) s quiet = (refl, refl, refl)
same_queues (changes.CreateRoot block service priority) s quiet = (refl, refl, refl)
same_queues (changes.CreateChild parent relation block priority) s quiet = (refl, refl, refl)
same_queues (changes.Remove e) s quiet = (refl, refl, refl)
same_queues (changes.SetPriority e priority) s quiet = (refl, refl, refl)
same_queues (changes.Start kind) s quiet = (refl, refl, refl)
same_queues (changes.End a) s quiet = (refl, refl, refl)
same_queues (changes.DropContext a) s quiet = (refl, refl, refl)
same_queues (changes.Attach e a) s quiet = (refl, refl, refl)
same_queues (changes.Detach e a) s quiet = (refl, refl, refl)
same_queues (changes.SetAttr a key value) s quiet = (refl, refl, refl)
same_queues (changes.Bind name a) s quiet = (refl, refl, refl)
same_queues (changes.Unbind name) s quiet = (refl, refl, refl)
same_queues (changes.MaskOnAttach e a events) s quiet = (refl, refl, refl)
same_queues (changes.SetMask e a event on) s quiet = (refl, refl, refl)
same_queues (changes.ForgetMasks e a) s quiet = (refl, refl, refl)
same_queues (changes.Push a event) s quiet = absurd (cc)
same_queues (changes.Pop a) s quiet = absurd (cc)
same_queues (changes.MarkService a service) s quiet = (refl, refl, refl)
same_queues (changes.MarkEntity a e) s quiet = absurd (cc)
same_queues (changes.Hold a until) s quiet = (refl, refl, refl)
same_queues (changes.Release a) s quiet = (refl, refl, refl)
same_queues (changes.SetTimer spec) s quiet = (refl, refl, refl)
same_queues (changes.Cancel t) s quiet = (refl, refl, refl)
same_queues (changes.CancelAll a) s quiet = (refl, refl, refl)
same_queues (changes.Advance to) s quiet = (refl, refl, refl)
same_queues (changes.AddRow table row fields) s quiet = (refl, refl, refl)
same_queues (changes.UpdateRow table row fields) s quiet = (refl, refl, refl)
same_queues (changes.RemoveRow table row) s quiet = (refl, refl, refl)
same_queues (changes.Clock to) s quiet = (refl, refl, refl)
same_queues changes.Taken s quiet = (refl, refl, refl)
same_queues (changes.Service service state a) s quiet = (refl, refl, refl)
same_queues (changes.Root e name) s quiet = (refl, refl, refl)
same_queues changes.NextEvent s quiet = absurd (cc)

pub same_then : (s t u : State) → SameQueues s t → SameQueues t u → SameQueues s u
same_then s t u one two = (two.0 ∙ one.0, two.1 ∙ one.1, two.2 ∙ one.2)

abbrev pub AreQuiet : List Change → Type 0
AreQuiet cs = AllByRecursion (λ c. leaves_queues c ≡ true) cs

pub same_changes : (cs : List Change) (s : State) → AreQuiet cs → SameQueues s (after_changes cs s)
same_changes [] s quiet = (refl, refl, refl)
same_changes (c ∷ cs) s quiet = same_then s (after_change c s) (after_changes cs (after_change c s)) (same_queues c s quiet.0) (same_changes cs (after_change c s) quiet.1)

pub same_if : (b : Bool) (s t u : State) → SameQueues s t → SameQueues s u → SameQueues s (if b then t else u)
same_if b s t u one two = cond_both b t u (SameQueues s) (λ _. one) (λ _. two)

pub same_option : {B : Type 0} (f : B → State) (s : State) → ((x : B) → SameQueues s (f x)) → (o : Option B) → SameQueues s (option_map_or f o s)
same_option f s each None = (refl, refl, refl)
same_option f s each (Some x) = each x

pub quietly : (s t : State) (lines : List (List ℕ)) → AreEventsBelow s.next_event s.events → SameQueues s t → ((a : ℕ) → told_on a lines ≡ []) → Grows s t lines []
quietly s t lines below same quiet = stays s t lines below same.0 same.1 same.2 quiet

pub still : (s : State) → AreEventsBelow s.next_event s.events → Grows s s [] []
still s below = quietly s s [] below (refl, refl, refl) (λ a. refl)

pub grows_if : (b : Bool) (s t : State) (lines : List (List ℕ)) (fires : List Firing) → AreEventsBelow s.next_event s.events → Grows s t lines fires
    → Grows s (if b then t else s) (if b then lines else []) (if b then fires else [])
grows_if true s t lines fires below grows = grows
grows_if false s t lines fires below grows = still s below
