-- One step more of playing.
use Rattle.std.proofs.Common.{inl, inr, ◌≡◌, ℕ, ◌+◌, ◌-◌, ◌<◌, ◌≤◌, zero, suc, List, [], ◌∷◌, ◌++◌, length, length-drop, drop, refl, sym, ◌∙◌, ap, subst, arith, append_assoc, length-append, drop-drop, Option, Some, None}
use Rattle.std.proofs.lemmas.Bool.{cases_Bool}
use Rattle.std.proofs.Math.Nat.{sub-zero}
use Rattle.std.specs.Option.{option_map_or}
use Rattle.signal_script.specs.declared.signal.Signal.{Signal}
use Rattle.trace_history.specs.Histories.{choices_of, input_of, inputs_of}
use Rattle.trace_history.specs.declared.choice.Choice.{Choice}
use Rattle.trace_history.specs.declared.choice.Choice.TheVariants.{Input}
use Rattle.trace_history.specs.declared.entry.Entry.{Entry}
use Rattle.router_state.specs.Next.{least}
use Rattle.router_state.specs.State.{State, is_used_up}
use Rattle.router_state.specs.declared.kindred.Kindred.{Kindred}
use Rattle.router_state.specs.declared.kindred.Kindred.TheVariants as kindreds
use Rattle.router_steps.specs.Histories.{line_choice, replay, solo, solo_choice}
use Rattle.router_steps.specs.Payloads.{payload, payloads}
use Rattle.router_steps.specs.Steps.{after, choice_on, step_entry}
use Rattle.router_durable.proofs.HistoryLemmas.{replay-append, replay-choices, choices_of-append, payloads-append}
use Rattle.router_durable.specs.Choices.{written_format}
use Rattle.router_durable.specs.Facts.{Origin, base_of, records_since, size_after, size_added}
use Rattle.commit_journal.specs.Spelling.{records_size}
use Rattle.commit_journal.proofs.Sizes.{records_size-more}
use Rattle.slee_container.specs.Container.{View, Setup, state_of}
use Rattle.slee_run.specs.Playing.{left, IsDueIn, IsStepOn, IsStill, IsSoFar, Advances, EndsAs, IsPlayed, IsEndOf, HadRoom, stop_of}
use Rattle.slee_run.specs.declared.playing.End.{End}
use Rattle.slee_run.specs.declared.playing.End.TheVariants as ends

pub inputs_of-append : (h k : List Entry) → inputs_of (h ++ k) ≡ inputs_of h ++ inputs_of k
inputs_of-append [] k = refl
inputs_of-append (e ∷ es) k = ap (λ more. input_of e.choice ++ more) (inputs_of-append es k) ∙ sym (append_assoc (input_of e.choice) (inputs_of es) (inputs_of k))

-- ---- the run of one worker

solo-next : (n : ℕ) (s : State) (lines more : List Signal) (c : Choice) → solo_choice s lines ≡ Some (c, more) → solo (suc n) s lines ≡ step_entry s c ∷ solo n (after s c) more
solo-next n s lines more c is = rw is

pub solo-none : (n : ℕ) (s : State) (lines : List Signal) → solo_choice s lines ≡ None → solo n s lines ≡ []
solo-none zero s lines is = refl
solo-none (suc n) s lines is = rw is

-- a run that has begun
pub so_far_start : (base : State) (steps : ℕ) (lines : List Signal) → IsSoFar base steps lines [] lines
so_far_start base steps lines = record { taken = refl; count = omega arith; solo = rw (sub-zero steps) }

-- a run that has gone a step on
pub so_far_next : (base : State) (steps : ℕ) (lines : List Signal) (h : List Entry) (rest more : List Signal) (c : Choice)
    → IsSoFar base steps lines h rest → length h < steps → solo_choice (replay base h) rest ≡ Some (c, more) → input_of c ++ more ≡ rest
    → IsSoFar base steps lines (h ++ step_entry (replay base h) c ∷ []) more
so_far_next base steps lines h rest more c so_far room is takes = record {
  taken = rw (inputs_of-append h (e ∷ []), append_assoc, append_assoc, takes) so_far.taken;
  count = omega (arith, length-append h (e ∷ []));
  solo = rw (append_assoc, replay-append base h (e ∷ [])) (ap (λ tail. h ++ tail) (sym chain) ∙ so_far.solo);
}
  where
    here : State
    here = replay base h

    e : Entry
    e = step_entry here c

    left_of : ℕ
    left_of = steps - length (h ++ e ∷ [])

    one_less : steps - length h ≡ suc left_of
    one_less = omega (arith, length-append h (e ∷ []))

    chain : solo (steps - length h) here rest ≡ e ∷ solo left_of (after here c) more
    chain = ap (λ n. solo n here rest) one_less ∙ solo-next left_of here rest more c is

-- ---- what is due takes the lines that it takes

pub own_input : (a : ℕ) (kind : Kindred) → input_of (choice_on (a, kind)) ≡ []
own_input a kindreds.Initial = refl
own_input a kindreds.Deliver = refl
own_input a kindreds.Finish = refl

-- what is due on an activity or as a line: the lines that it takes
pub record IsDue (lines : List Signal) (c : Choice) : Type 0 where
  pub takes : input_of c ++ drop (length (input_of c)) lines ≡ lines
  pub most : length (input_of c) ≤ length lines

own_due : (lines : List Signal) (c : Choice) → input_of c ≡ [] → IsDue lines c
own_due lines c own = record {
  takes = ap (λ (taken : List Signal). taken ++ drop (length taken) lines) own;
  most = omega (arith, ap length own);
}

first_of : (x y : Choice × List Signal) → Some x ≡ Some y → x.0 ≡ y.0
first_of x y is = let same : x ≡ y = cc in ap (λ (p : Choice × List Signal). p.0) same

line_due : (lines more : List Signal) (c : Choice) → line_choice lines ≡ Some (c, more) → IsDue lines c
line_due [] more c is = absurd (cc)
line_due (line ∷ lines) more c is =
    subst (IsDue (line ∷ lines)) (first_of (Input line, lines) (c, more) is) (record { takes = refl; most = omega arith })

least_due : (lines more : List Signal) (c : Choice) (found : Option (ℕ × Kindred)) → option_map_or (λ x. Some (choice_on x, lines)) found (line_choice lines) ≡ Some (c, more) → IsDue lines c
least_due lines more c None is = line_due lines more c is
least_due lines more c (Some x) is =
    subst (IsDue lines) (first_of (choice_on x, lines) (c, more) is) (own_due lines (choice_on x) (own_input x.0 x.1))

no_some : (x : Choice × List Signal) → None ≡ Some x → ⊥
no_some x is = cc

due_is : (s : State) (lines more : List Signal) (c : Choice) → solo_choice s lines ≡ Some (c, more) → IsDue lines c
due_is s lines more c is = elim (cases_Bool (is_used_up s)) [
  | inl up ↦ absurd (no_some (c, more) (rw up at is))
  | inr fresh ↦ least_due lines more c (least s []) (rw fresh at is)
]

-- a step more: the run so far, and how many lines were taken
pub record IsStepped (base : State) (steps : ℕ) (lines all : List Signal) (history : List Entry) (taken : ℕ) : Type 0 where
  pub so_far : IsSoFar base steps lines history (drop taken all)
  pub within : taken ≤ length all

pub stepped : (base : State) (steps : ℕ) (lines all : List Signal) (h new : List Entry) (taken : ℕ) (c : Choice)
    → IsStepped base steps lines all h taken → length h < steps
    → solo_choice (replay base h) (drop taken all) ≡ Some (c, drop (length (input_of c)) (drop taken all))
    → new ≡ h ++ step_entry (replay base h) c ∷ []
    → IsStepped base steps lines all new (taken + length (input_of c))
stepped base steps lines all h new taken c before room is grown = record {
  so_far = subst (λ (k : List Entry). IsSoFar base steps lines k (drop (taken + length (input_of c)) all)) (sym grown)
      (subst (λ (more : List Signal). IsSoFar base steps lines (h ++ step_entry (replay base h) c ∷ []) more) (drop-drop (length (input_of c)) taken all)
      (so_far_next base steps lines h rest (drop (length (input_of c)) rest) c before.so_far room is due.takes));
  within = omega (arith, before.within, due.most, length-drop taken all);
}
  where
    rest : List Signal
    rest = drop taken all

    due : IsDue rest c
    due = due_is (replay base h) rest (drop (length (input_of c)) rest) c is

-- the size of the side with an entry more
grown_size : (o : Origin) (h : List Entry) (e : Entry) → size_after o (h ++ e ∷ []) ≡ size_after o h + size_added o h e.choice
grown_size o h e = omega (
  arith,
  ap records_size payloads_grown,
  records_size-more (records_since o h) (payload written_format (replay (base_of o) h) e.choice ∷ []),
)
  where
    payloads_grown : records_since o (h ++ e ∷ []) ≡ records_since o h ++ payload written_format (replay (base_of o) h) e.choice ∷ []
    payloads_grown =
        ap (payloads written_format (base_of o)) (choices_of-append h (e ∷ []))
        ∙ payloads-append (base_of o) (choices_of h) (e.choice ∷ [])
        ∙ ap (λ (s : State). records_since o h ++ payload written_format s e.choice ∷ []) (sym (replay-choices (base_of o) h))

-- what is played: the run so far, and how many lines were taken
pub record IsUnderWay {D : Type 0} (first v : View D) : Type 0 where
  pub same : v.setup ≡ first.setup
  pub stepped : IsStepped (base_of v.setup.origin) v.setup.steps (left first) v.setup.lines v.history v.taken
  pub live : v.stop ≡ None
  pub free : v.claims ≡ []
  pub room : HadRoom v.setup.origin v.setup.journal v.history

-- nothing was played
pub begun : {D : Type 0} (v : View D) → v.history ≡ [] → v.taken ≤ length v.setup.lines → v.claims ≡ [] → v.stop ≡ None → IsUnderWay v v
begun v none within free live = record {
  same = refl;
  stepped = subst (λ (h : List Entry). IsStepped (base_of v.setup.origin) v.setup.steps (left v) v.setup.lines h v.taken) (sym none)
      (record { so_far = so_far_start (base_of v.setup.origin) v.setup.steps (left v); within = within });
  live = live;
  free = free;
  room = λ told. inl none;
}

module _ {D : Type 0} (first v w : View D) (way : IsUnderWay first v) (same : w.setup ≡ v.setup) where
  abbrev base : State
  base = base_of v.setup.origin

  -- the step of a choice that was due
  on : (c : Choice) → IsDueIn v c → IsStepOn v c w → IsStepped base v.setup.steps (left first) v.setup.lines w.history w.taken
  on c is step =
      subst (λ (n : ℕ). IsStepped base v.setup.steps (left first) v.setup.lines w.history n) (sym step.taken)
      (stepped base v.setup.steps (left first) v.setup.lines v.history w.history v.taken c way.stepped is.fewer is.due step.history)

  fits : (c : Choice) → IsStepOn v c w → HadRoom v.setup.origin v.setup.journal w.history
  fits c step clean = inr (omega (
    arith,
    step.room clean,
    ap (size_after v.setup.origin) step.history,
    grown_size v.setup.origin v.history (step_entry (state_of v) c),
  ))

  pub goes_on : Advances v None w → IsUnderWay first w
  goes_on a = record {
    same = same ∙ way.same;
    stepped = subst (λ (u : Setup). IsStepped (base_of u.origin) u.steps (left first) u.lines w.history w.taken) (sym same) (on a.0 a.1 a.2);
    live = a.3;
    free = a.4;
    room = subst (λ (u : Setup). HadRoom u.origin u.journal w.history) (sym same) (fits a.0 a.2);
  }

  pub nearer : Advances v None w → first.setup.steps - length w.history < first.setup.steps - length v.history
  nearer a = omega (arith, a.1.fewer, ap (λ (u : Setup). u.steps) way.same, ap length a.2.history, length-append v.history (step_entry (state_of v) a.0 ∷ []))

  still : (e : End) → w.history ≡ v.history → EndsAs v.setup.journal base v.setup.steps v.history (left v) e → IsPlayed v.setup.journal base v.setup.steps (left first) w.history e
  still e is ends =
      subst (λ (h : List Entry). IsPlayed v.setup.journal base v.setup.steps (left first) h e) (sym is)
      (record { rest = left v; so_far = way.stepped.so_far; ends = ends })

  played : (e : End) → Advances v (Some e) w → IsPlayed v.setup.journal base v.setup.steps (left first) w.history e
  played ends.Done a = still ends.Done a.0.history (a.2, ap (solo_choice (state_of v)) a.2 ∙ a.3, a.4)
  played ends.Spent a = still ends.Spent a.0.history (a.2 way.stepped.so_far.count)
  played (ends.Full size adding) a = still (ends.Full size adding) a.0.history (record {
    fewer = a.3.fewer;
    choice = a.2;
    more = drop (length (input_of a.2)) (left v);
    next = a.3.due;
    adds = a.4;
    above = a.5;
  })
  played ends.DiskFault a = record { rest = drop w.taken v.setup.lines; so_far = (on a.0 a.1 a.2).so_far; ends = tt }
  played ends.NoMemory a = still ends.NoMemory a.0.history tt

  ended : (e : End) → Advances v (Some e) w → IsPlayed first.setup.journal (base_of first.setup.origin) first.setup.steps (left first) w.history e
  ended e a = subst (λ (u : Setup). IsPlayed u.journal (base_of u.origin) u.steps (left first) w.history e) way.same (played e a)

  pub stopped : (e : End) → Advances v (Some e) w → w.stop ≡ stop_of e
  stopped ends.Done a = a.1
  stopped ends.Spent a = a.1
  stopped (ends.Full size adding) a = a.1
  stopped ends.DiskFault a = a.3
  stopped ends.NoMemory a = a.1

  kept_room : IsStill v w → HadRoom v.setup.origin v.setup.journal w.history
  kept_room s = subst (λ (h : List Entry). HadRoom v.setup.origin v.setup.journal h) (sym s.history) way.room

  room_at : (e : End) → Advances v (Some e) w → HadRoom v.setup.origin v.setup.journal w.history
  room_at ends.Done a = kept_room a.0
  room_at ends.Spent a = kept_room a.0
  room_at (ends.Full size adding) a = kept_room a.0
  room_at ends.DiskFault a = fits a.0 a.2
  room_at ends.NoMemory a = kept_room a.0

  roomy_at : (e : End) → Advances v (Some e) w → HadRoom first.setup.origin first.setup.journal w.history
  roomy_at e a = subst (λ (u : Setup). HadRoom u.origin u.journal w.history) way.same (room_at e a)

  -- what is left of a container that was closed
  pub room_closed : (x : View D) (e : End) → Advances v (Some e) w → x ≡ record w { acked = x.acked; stop = x.stop; disk = x.disk } → HadRoom first.setup.origin first.setup.journal x.history
  room_closed x e a closes = subst (λ (h : List Entry). HadRoom first.setup.origin first.setup.journal h) (sym (ap (λ u. u.history) closes)) (roomy_at e a)

  pub setup_closed : (x : View D) → x ≡ record w { acked = x.acked; stop = x.stop; disk = x.disk } → x.setup ≡ first.setup
  setup_closed x closes = ap (λ u. u.setup) closes ∙ same ∙ way.same

  ended_as : (e f : End) → IsEndOf e f → IsPlayed first.setup.journal (base_of first.setup.origin) first.setup.steps (left first) w.history e
      → IsPlayed first.setup.journal (base_of first.setup.origin) first.setup.steps (left first) w.history f
  ended_as e f (inl is) p = subst (λ (x : End). IsPlayed first.setup.journal (base_of first.setup.origin) first.setup.steps (left first) w.history x) (sym is) p
  ended_as e f (inr down) p = subst (λ (x : End). IsPlayed first.setup.journal (base_of first.setup.origin) first.setup.steps (left first) w.history x) (sym down)
      (record { rest = p.rest; so_far = p.so_far; ends = tt })

  pub played_closed : (x : View D) (e f : End) → Advances v (Some e) w → x ≡ record w { acked = x.acked; stop = x.stop; disk = x.disk } → IsEndOf e f
      → IsPlayed first.setup.journal (base_of first.setup.origin) first.setup.steps (left first) x.history f
  played_closed x e f a closes is =
      subst (λ (h : List Entry). IsPlayed first.setup.journal (base_of first.setup.origin) first.setup.steps (left first) h f) (sym (ap (λ u. u.history) closes))
      (ended_as e f is (ended e a))
