-- One step of playing, by what a container says of its work.
use Rattle.std.proofs.Common.{◌≡◌, ◌⊎◌, inl, inr, ℕ, ◌<◌, ◌≤◌, nat_le, zero, suc, Bool, true, false, ◌&&◌, ◌||◌, if◌then◌else◌, List, [], ◌∷◌, length, drop, slice_get, refl, sym, ◌∙◌, ap, arith, Option, Some, None, Result, Ok, Err, IsTrue, is_some, drop_of_length-le}
use Rattle.std.proofs.lemmas.Bool.{cases_Bool, leb-false, leb-true, not-true}
use Rattle.std.specs.Option.{option_map_or}
use Rattle.signal_script.specs.declared.signal.Signal.{Signal}
use Rattle.slee_disk.specs.Disk.{DiskState}
use Rattle.slee_value.specs.declared.ids.ActivityId.{ActivityId}
use Rattle.trace_history.specs.Histories.{input_of}
use Rattle.trace_history.specs.declared.choice.Choice.{Choice}
use Rattle.trace_history.specs.declared.choice.Choice.TheVariants as choices
use Rattle.router_state.specs.Next.{least, next}
use Rattle.router_state.specs.State.{State, is_used_up}
use Rattle.router_state.specs.declared.kindred.Kindred.{Kindred}
use Rattle.router_state.specs.declared.kindred.Kindred.TheVariants as kindreds
use Rattle.router_steps.specs.Histories.{solo_choice}
use Rattle.router_steps.specs.Steps.{choice_on, is_next}
use Rattle.router_durable.specs.declared.fault.Stop.{Stop}
use Rattle.router_durable.specs.declared.fault.StepFault.{StepFault}
use Rattle.router_durable.specs.declared.fault.StepFault.TheVariants as faults
use Rattle.slee_container.specs.declared.fault.Work.{Work}
use Rattle.slee_container.specs.declared.fault.Work.TheVariants as works
use Rattle.slee_container.specs.Claims.{claimed_in}
use Rattle.slee_container.specs.Container.{View, state_of}
use Rattle.slee_container.specs.Steps.{Makes, is_spent}
use Rattle.slee_container.specs.Work.{has_line, is_left, line_or, work_left, next_work}
use Rattle.slee_run.specs.Playing.{left, IsDueIn, Moves, end_of, IsSpent, Advances}
use Rattle.slee_run.specs.declared.playing.End.TheVariants as ends

parted : (x y : Bool) → (x || y) ≡ false → (x ≡ false) × (y ≡ false)
parted true y is = absurd (cc)
parted false y is = (refl, is)

not_both : (x y : Bool) → (x && y) ≡ false → y ≡ true → x ≡ false
not_both true y is holds = sym holds ∙ is
not_both false y is holds = refl

both : (x y : Bool) → (x && y) ≡ true → (x ≡ true) × (y ≡ true)
both true y is = (refl, is)
both false y is = absurd (cc)

either : (x y : Bool) → (x || y) ≡ true → x ≡ false → y ≡ true
either true y is not_x = absurd (cc)
either false y is not_x = is

or_true : (x y : Bool) → y ≡ true → (x || y) ≡ true
or_true true y is = refl
or_true false y is = is

-- the step that a container offers
record IsStepOf (s : State) (w : Work) : Type 0 where
  pub x : ℕ × Kindred
  pub chosen : least s [] ≡ Some x
  pub is : w ≡ works.Step (record { 0 = x.0 }) x.1

on_least : (s : State) (other w : Work) (found : Option (ℕ × Kindred)) → least s [] ≡ found
    → w ≡ option_map_or (λ x. works.Step (record { 0 = x.0 }) x.1) found other → ((least s [] ≡ None) × (w ≡ other)) ⊎ IsStepOf s w
on_least s other w None is w_is = inl (is, w_is)
on_least s other w (Some x) is w_is = inr (record { x = x; chosen = is; is = w_is })

abbrev numbered : ℕ → ActivityId
numbered a = record { 0 = a }

same_activity : (a b : ℕ) (k l : Kindred) → works.Step (record { 0 = a }) k ≡ works.Step (record { 0 = b }) l → a ≡ b
same_activity a b k l is =
    let rows : numbered a ≡ numbered b = cc in
    ap (λ (x : ActivityId). x.0) rows

same_kindred : (a b : ℕ) (k l : Kindred) → works.Step (record { 0 = a }) k ≡ works.Step (record { 0 = b }) l → k ≡ l
same_kindred a b k l is = cc

-- the next line
pub record IsNextLine (lines : List Signal) (n : ℕ) : Type 0 where
  pub signal : Signal
  pub at : slice_get lines n ≡ Some signal
  pub rest : List Signal
  pub left : drop n lines ≡ signal ∷ rest

pub next_line : (lines : List Signal) (n : ℕ) → n < length lines → IsNextLine lines n
next_line [] n lt = absurd (omega (arith, lt))
next_line (x ∷ xs) zero lt = record { signal = x; at = refl; rest = xs; left = refl }
next_line (x ∷ xs) (suc n) lt = behind (next_line xs n (omega (arith, lt)))
  where
    behind : IsNextLine xs n → IsNextLine (x ∷ xs) (suc n)
    behind more = record { signal = more.signal; at = more.at; rest = more.rest; left = more.left }

-- what is due, by what is least
due_line : (s : State) (lines rest : List Signal) (signal : Signal) → is_used_up s ≡ false → least s [] ≡ None → lines ≡ signal ∷ rest
    → solo_choice s lines ≡ Some (choices.Input signal, drop (length (input_of (choices.Input signal))) lines)
due_line s lines rest signal fresh none is = rw (fresh, none, is) refl

due_choice : (s : State) (lines : List Signal) (a : ℕ) (k : Kindred) → is_used_up s ≡ false → least s [] ≡ Some (a, k)
    → solo_choice s lines ≡ Some (choice_on (a, k), drop (length (input_of (choice_on (a, k)))) lines)
due_choice s lines a kindreds.Initial fresh is = rw (fresh, is) refl
due_choice s lines a kindreds.Deliver fresh is = rw (fresh, is) refl
due_choice s lines a kindreds.Finish fresh is = rw (fresh, is) refl

-- what a step does, by what the container says of it
pub fault_moved : {D : Type 0} (v : View D) (c : Choice) (f : StepFault) (w : View D) (before after : DiskState) → Makes before after v c (Err f) w → Moves v c (Err f) w
fault_moved v c faults.DiskFault w before after m = (record { history = m.step.step.0; taken = m.taken; room = m.step.step.2 }, m.step.step.1)
fault_moved v c (faults.Full size adding) w before after m = (
  record { history = ap (λ h. h.history) m.step.step.0; taken = m.taken },
  ap (λ h. h.stop) m.step.step.0,
  m.step.step.1.adds,
  m.step.step.1.above,
)
fault_moved v c faults.NoMemory w before after m = (record { history = ap (λ h. h.history) m.step.step; taken = m.taken }, ap (λ h. h.stop) m.step.step)
fault_moved v c faults.Spent w before after m = (record { history = ap (λ u. u.history) m.step; taken = ap (λ u. u.taken) m.step }, ap (λ u. u.stop) m.step, m.refused refl)

pub moved : {D : Type 0} (v : View D) (c : Choice) (r : Result ℕ StepFault) (w : View D) (before after : DiskState) → w.claims ≡ [] → Makes before after v c r w → Moves v c r w
moved v c (Ok number) w before after none m = (record { history = m.step.step.0; taken = m.taken; room = m.step.step.3 }, m.step.step.2, none)
moved v c (Err f) w before after none m = fault_moved v c f w before after m

-- the choice that is next on an activity may be made
pub initial_next : (s : State) (a : ActivityId) → next s a.0 ≡ Some kindreds.Initial → IsTrue (is_next s (choices.Initial a))
initial_next s a is = rw is refl

pub finish_next : (s : State) (a : ActivityId) → next s a.0 ≡ Some kindreds.Finish → IsTrue (is_next s (choices.Finish a))
finish_next s a is = rw is refl

module _ {D : Type 0} (v : View D) (live : v.stop ≡ None) (free : v.claims ≡ []) where
  abbrev here : State
  here = state_of v

  abbrev over : Bool
  over = is_used_up here || (nat_le v.setup.steps (length v.history) && is_left v)

  unstopped : next_work v ≡ (if over then works.Spent else work_left v)
  unstopped = rw live refl

  left_over : over ≡ false → next_work v ≡ work_left v
  left_over not_yet = unstopped ∙ ap (λ (b : Bool). if b then works.Spent else work_left v) not_yet

  spent_over : over ≡ true → next_work v ≡ works.Spent
  spent_over is = unstopped ∙ ap (λ (b : Bool). if b then works.Spent else work_left v) is

  -- what is left to do: a step, or else a line or nothing
  left_is : (w : Work) → w ≡ work_left v → ((least here [] ≡ None) × (w ≡ line_or v)) ⊎ IsStepOf here w
  left_is w is = on_least here (line_or v) w (least here []) refl
      (is ∙ ap (λ (claims : List ℕ). option_map_or (λ x. works.Step (record { 0 = x.0 }) x.1) (least here claims) (line_or v)) (ap claimed_in free))

  lines_done : (w : Work) → w ≡ line_or v → w ≡ works.Done → length v.setup.lines ≤ v.taken
  lines_done w is done = elim (cases_Bool (nat_le (length v.setup.lines) v.taken)) [
    | inl all ↦ leb-true (length v.setup.lines) v.taken all
    | inr some ↦ let never : works.Done ≡ works.Line = sym done ∙ is ∙ rw some refl in absurd (cc)
  ]

  some_line : (w : Work) → w ≡ line_or v → w ≡ works.Line → has_line v ≡ true
  some_line w is line = elim (cases_Bool (nat_le (length v.setup.lines) v.taken)) [
    | inl all ↦ let never : works.Line ≡ works.Done = sym line ∙ is ∙ rw (all, free) refl in absurd (cc)
    | inr some ↦ rw some refl
  ]

  not_spent : (w : Work) → w ≡ line_or v → w ≡ works.Spent → ⊥
  not_spent w is spent = elim (cases_Bool (nat_le (length v.setup.lines) v.taken)) [
    | inl all ↦ let never : works.Spent ≡ works.Done = sym spent ∙ is ∙ rw (all, free) refl in cc
    | inr some ↦ let never : works.Spent ≡ works.Line = sym spent ∙ is ∙ rw some refl in cc
  ]

  fresh : over ≡ false → is_used_up here ≡ false
  fresh not_yet = (parted (is_used_up here) _ not_yet).0

  fewer : over ≡ false → is_left v ≡ true → length v.history < v.setup.steps
  fewer not_yet some = leb-false v.setup.steps (length v.history) (not_both _ (is_left v) (parted (is_used_up here) _ not_yet).1 some)

  -- it is the end only where no step is left
  not_over : (w : Work) → w ≡ next_work v → (w ≡ works.Spent → ⊥) → over ≡ false
  not_over w is other = elim (cases_Bool over) [
    | inl now ↦ absurd (other (is ∙ spent_over now))
    | inr not_yet ↦ not_yet
  ]

  pub done_is : works.Done ≡ next_work v → Advances v (Some ends.Done) v
  done_is is =
      let not_yet = not_over works.Done is (λ e. cc) in
      elim (left_is works.Done (is ∙ left_over not_yet)) [
        | inl lines ↦ (
          record { history = refl; taken = refl },
          live,
          drop_of_length-le v.setup.lines (lines_done works.Done lines.1 refl),
          rw (fresh not_yet, lines.0) refl,
          fresh not_yet,
        )
        | inr step ↦ let never : works.Done ≡ works.Step (record { 0 = step.x.0 }) step.x.1 = step.is in absurd (cc)
      ]

  never_line : (w : Work) → (w ≡ works.Done → ⊥) → (w ≡ works.Line → ⊥) → w ≡ line_or v → ⊥
  never_line w done line is = elim (cases_Bool (nat_le (length v.setup.lines) v.taken)) [
    | inl all ↦ done (is ∙ rw (all, free) refl)
    | inr some ↦ line (is ∙ rw some refl)
  ]

  never : (w : Work) → (w ≡ works.Spent → ⊥) → (w ≡ works.Done → ⊥) → (w ≡ works.Line → ⊥) → ((a : ℕ) (k : Kindred) → w ≡ works.Step (record { 0 = a }) k → ⊥) → w ≡ next_work v → ⊥
  never w spent done line step is = elim (left_is w (is ∙ left_over (not_over w is spent))) [
    | inl lines ↦ never_line w done line lines.1
    | inr other ↦ step other.x.0 other.x.1 other.is
  ]

  -- it isn't stopped, and waits for no claim
  pub not_stopped : (x : Stop) → works.Stopped x ≡ next_work v → ⊥
  not_stopped x is = never (works.Stopped x) (λ e. cc) (λ e. cc) (λ e. cc) (λ a k e. cc) is

  pub not_idle : (n : ℕ) → works.Idle n ≡ next_work v → ⊥
  not_idle n is = never (works.Idle n) (λ e. cc) (λ e. cc) (λ e. cc) (λ a k e. cc) is

  -- a line that is left is due where no choice is
  line_waits : least here [] ≡ None → has_line v ≡ true → is_used_up here ≡ false → is_some (solo_choice here (left v)) ≡ true
  line_waits none some young =
      let more = leb-false (length v.setup.lines) v.taken (not-true (nat_le (length v.setup.lines) v.taken) some) in
      let line = next_line v.setup.lines v.taken more in
      ap is_some (due_line here (left v) line.rest line.signal young none line.left)

  due_waits : (found : Option (ℕ × Kindred)) → least here [] ≡ found → is_left v ≡ true → is_used_up here ≡ false → is_some (solo_choice here (left v)) ≡ true
  due_waits (Some x) is some young = rw (young, is) refl
  due_waits None is some young =
      line_waits is (by (has_line v) refl) young
    where
      by : (b : Bool) → has_line v ≡ b → has_line v ≡ true
      by true e = e
      by false e = let never : false ≡ true = sym (ap is_some is) ∙ either (has_line v) (is_some (least here [])) some e in absurd (cc)

  spent_now : over ≡ true → length v.history ≤ v.setup.steps → IsSpent here v.setup.steps v.history (left v)
  spent_now now most = elim (cases_Bool (is_used_up here)) [
    | inl up ↦ inl up
    | inr young ↦
        let rest : (nat_le v.setup.steps (length v.history) && is_left v) ≡ true = rw young at now in
        let two = both (nat_le v.setup.steps (length v.history)) (is_left v) rest in
        inr (omega (arith, most, leb-true v.setup.steps (length v.history) two.0), due_waits (least here []) refl two.1 young)
  ]

  pub spent_is : works.Spent ≡ next_work v → Advances v (Some ends.Spent) v
  spent_is is = (
    record { history = refl; taken = refl },
    live,
    λ most. elim (cases_Bool over) [
      | inl now ↦ spent_now now most
      | inr not_yet ↦ elim (left_is works.Spent (is ∙ left_over not_yet)) [
        | inl lines ↦ absurd (not_spent works.Spent lines.1 refl)
        | inr step ↦ let never : works.Spent ≡ works.Step (record { 0 = step.x.0 }) step.x.1 = step.is in absurd (cc)
      ]
    ],
  )

  line_is : works.Line ≡ next_work v → (line : IsNextLine v.setup.lines v.taken) → IsDueIn v (choices.Input line.signal)
  line_is is line =
      let not_yet = not_over works.Line is (λ e. cc) in
      elim (left_is works.Line (is ∙ left_over not_yet)) [
        | inl lines ↦ record {
          fewer = fewer not_yet (rw (some_line works.Line lines.1 refl) refl);
          due = due_line here (left v) line.rest line.signal (fresh not_yet) lines.0 line.left;
        }
        | inr step ↦ let never : works.Line ≡ works.Step (record { 0 = step.x.0 }) step.x.1 = step.is in absurd (cc)
      ]

  no_line : (a : ℕ) (k : Kindred) → works.Step (record { 0 = a }) k ≡ line_or v → ⊥
  no_line a k e = elim (cases_Bool (nat_le (length v.setup.lines) v.taken)) [
    | inl all ↦ let never : works.Step (record { 0 = a }) k ≡ works.Done = e ∙ rw (all, free) refl in cc
    | inr some ↦ let never : works.Step (record { 0 = a }) k ≡ works.Line = e ∙ rw some refl in cc
  ]

  step_is : (a : ℕ) (k : Kindred) → works.Step (record { 0 = a }) k ≡ next_work v → IsDueIn v (choice_on (a, k))
  step_is a k is =
      let not_yet = not_over (works.Step (record { 0 = a }) k) is (λ e. cc) in
      elim (left_is (works.Step (record { 0 = a }) k) (is ∙ left_over not_yet)) [
        | inl lines ↦ absurd (no_line a k lines.1)
        | inr step ↦
            let one : a ≡ step.x.0 = same_activity a step.x.0 k step.x.1 step.is in
            let two : k ≡ step.x.1 = same_kindred a step.x.0 k step.x.1 step.is in
            record {
              fewer = fewer not_yet (or_true (has_line v) (is_some (least here [])) (ap is_some step.chosen));
              due = due_choice here (left v) a k (fresh not_yet) (rw (one, two) step.chosen);
            }
      ]

  not_done : (c : Choice) → IsDueIn v c → is_used_up here ≡ false → IsTrue (is_spent v) → ⊥
  not_done c is young spent = elim (cases_Bool (nat_le v.setup.steps (length v.history))) [
    | inl all ↦ omega (arith, is.fewer, leb-true v.setup.steps (length v.history) all)
    | inr some ↦ let up : is_used_up here ≡ true = rw some at spent in let never : true ≡ false = sym up ∙ young in cc
  ]

  young_due : (c : Choice) → IsDueIn v c → is_used_up here ≡ false
  young_due c is = elim (cases_Bool (is_used_up here)) [
    | inl up ↦ let none : solo_choice here (left v) ≡ None = rw up refl in let never : ◌≡◌ {A = Option (Choice × List Signal)} None (Some (c, drop (length (input_of c)) (left v))) = sym none ∙ is.due in absurd (cc)
    | inr young ↦ young
  ]

  advanced : (c : Choice) (r : Result ℕ StepFault) (w : View D) → IsDueIn v c → Moves v c r w → Advances v (end_of r) w
  advanced c (Ok number) w is m = (c, is, m.0, m.1, m.2)
  advanced c (Err faults.DiskFault) w is m = (c, is, m.0, m.1)
  advanced c (Err (faults.Full size adding)) w is m = (m.0, m.1, c, is, m.2, m.3)
  advanced c (Err faults.NoMemory) w is m = (m.0, m.1 ∙ live)
  advanced c (Err faults.Spent) w is m = absurd (not_done c is (young_due c is) m.2)

  pub line_advances : (r : Result ℕ StepFault) (w : View D) (before after : DiskState) → works.Line ≡ next_work v → v.taken < length v.setup.lines → w.claims ≡ v.claims
      → ((signal : Signal) → slice_get v.setup.lines v.taken ≡ Some signal → Makes before after v (choices.Input signal) r w) → Advances v (end_of r) w
  line_advances r w before after is more same makes =
      let line = next_line v.setup.lines v.taken more in
      advanced (choices.Input line.signal) r w (line_is is line) (moved v (choices.Input line.signal) r w before after (same ∙ free) (makes line.signal line.at))

  pub step_advances : (a : ℕ) (k : Kindred) (r : Result ℕ StepFault) (w : View D) → works.Step (record { 0 = a }) k ≡ next_work v → Moves v (choice_on (a, k)) r w → Advances v (end_of r) w
  step_advances a k r w is moves = advanced (choice_on (a, k)) r w (step_is a k is) moves
