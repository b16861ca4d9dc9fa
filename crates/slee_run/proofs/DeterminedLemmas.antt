-- Words, bytes and a journal determine a run.
use Rattle.std.proofs.Common.{◌≡◌, ◌≢◌, ◌⊎◌, inl, inr, ⊎_elim, ℕ, ◌+◌, ◌<◌, ◌≤◌, nat_le, true, false, List, [], ◌∷◌, ◌++◌, length, length-append, refl, sym, ◌∙◌, ap, subst, arith, append-nil, Option, Some, None, Result, Ok, Err, MatchOption, IsTrue, option_and_then}
use Rattle.std.proofs.lemmas.Bool.{cases_Bool, cases_eq, leb-true, leb-false}
use Rattle.signal_script.specs.declared.signal.Signal.{Signal}
use Rattle.slee_disk.specs.Disk.{DiskState}
use Rattle.commit_journal.specs.Reading.{Wrong, Bad as WrongAt, Other as OtherFrom, recovered}
use Rattle.commit_journal.specs.Spelling.{records_size}
use Rattle.commit_journal.proofs.Sizes.{records_size-more}
use Rattle.trace_history.specs.Histories.{inputs_of, choices_of}
use Rattle.trace_history.specs.declared.choice.Choice.{Choice}
use Rattle.trace_history.specs.declared.entry.Entry.{Entry}
use Rattle.router_state.specs.State.{State, is_used_up}
use Rattle.router_steps.specs.Steps.{after}
use Rattle.router_steps.specs.Histories.{replay}
use Rattle.router_steps.specs.Payloads.{payload, payloads}
use Rattle.router_durable.proofs.HistoryLemmas.{choices_of-append, payloads-append, replay-choices}
use Rattle.router_durable.specs.Choices.{written_format}
use Rattle.router_durable.specs.Anew.{is_anew, size_anew}
use Rattle.deploy_json.specs.declared.fault.ReadFault.{ReadFault}
use Rattle.deploy_report.specs.declared.counts.Counts.{Counts}
use Rattle.slee_run.specs.Status.{row_of, status_line}
use Rattle.slee_run.specs.Text.{IsReachedTime, IsTextOf, IsUnendedTime, checked_text, done_text, generated_text, generation_line, output_text, short_text, task_text}
use Rattle.slee_run.specs.Answers.{Outcome}
use Rattle.slee_run.specs.declared.finishing.Report.{Report}
use Rattle.deploy_model.specs.Resolving.{deployed_of}
use Rattle.deploy_json.specs.Checking.{read_as, reading_of}
use Rattle.signal_gen.specs.Generator.{generated}
use Rattle.slee_container.specs.declared.container.Mode.{Mode}
use Rattle.slee_container.specs.declared.container.Mode.TheVariants as modes
use Rattle.slee_descriptor.specs.declared.deployment.Deployment.{Deployment}
use Rattle.slee_run.specs.Determined.{IsRunOver}
use Rattle.slee_run.specs.Many.{crew_in, crew_of}
use Rattle.slee_run.proofs.CrewLemmas.{one_worker}
use Rattle.slee_run.specs.Given.{Document, IsDeployment, IsDocument, deploy_limit, lines_in, refusal_of, refusal_of_deploy}
use Rattle.slee_run.specs.declared.command.Command.{Command}
use Rattle.slee_run.specs.declared.command.Command.TheVariants as commands
use Rattle.slee_run.proofs.DeployLemmas.{one_document, same_deployed}
use Rattle.slee_run.proofs.ReadLemmas.{good_deploy, large_deploy, refusal_not_ok, unread_fault_of, within_deploy}
use Rattle.slee_run.proofs.JournalLemmas.{no_size}
use Rattle.slee_run.proofs.RunLemmas.{IsBarredShow, barred_good, counted_read, no_play, no_task, read_counts, task_apart, tends_open}
use Rattle.slee_run.specs.Words.{command_of}
use Rattle.slee_run.specs.declared.finishing.Report.TheVariants as reports
use Rattle.slee_run.specs.Checking.{IsBarred, IsCounted, IsFaulty, IsLinesFor, IsTextFor, IsCheckedAt}
use Rattle.slee_run.specs.Headline.{MayFollow, IsDoneOn, IsFullOn, IsSpentOn, EndsOn, HasNoSide, IsBefore, IsByOneOn, IsTask, IsTendedAt, IsRefusedAs, IsTrialOrNone, IsUnread, AddsFirst, IsByOne, IsByFault, Opens, Plays, Tends, command_for, command_of_task, lines_of_run, trial_steps}
use Rattle.slee_run.specs.Opening.{journal_limit, found, IsAnswerTo, IsEarly}
use Rattle.slee_run.specs.Stops.{left_on, size_behind, DoneOn, IsBegun, IsSized, IsUnbegun, IsUnwritten, KeepsJournal, MeetsJournal}
use Rattle.slee_run.specs.declared.tending.Task.{Task}
use Rattle.slee_run.specs.declared.tending.Task.TheVariants as tasks
use Rattle.slee_run.specs.declared.status.Given.TheVariants as givens
use Rattle.slee_run.specs.declared.status.Status.{Status}
use Rattle.slee_run.specs.declared.status.Status.TheVariants as statuses

-- ---- two fronts of one list

parts_of : (x y : Entry) (l m : List Entry) → x ∷ l ≡ y ∷ m → (x ≡ y) × (l ≡ m)
parts_of x y l m is = (cc, cc)

-- the longer of two fronts goes on as the shorter does
record GoesOn (h rest k : List Entry) (tail : List Entry) : Type 0 where
  pub next : Entry
  pub more : List Entry
  pub longer : k ≡ h ++ next ∷ more
  pub first : rest ≡ next ∷ (more ++ tail)

goes_on : (h rest k tail : List Entry) → h ++ rest ≡ k ++ tail → length h < length k → GoesOn h rest k tail
goes_on h rest [] tail same fewer = absurd (omega (arith, fewer))
goes_on [] rest (e ∷ k) tail same fewer = record { next = e; more = k; longer = refl; first = same }
goes_on (x ∷ h) rest (y ∷ k) tail same fewer =
    let both = parts_of x y (h ++ rest) (k ++ tail) same in
    let g = goes_on h rest k tail both.1 (omega (arith, fewer)) in
    record { next = g.next; more = g.more; longer = ap (λ (e : Entry). e ∷ k) (sym both.0) ∙ ap (λ (l : List Entry). x ∷ l) g.longer; first = g.first }

both_same : (h rest k tail : List Entry) → h ++ rest ≡ k ++ tail → length h ≡ length k → (h ≡ k) × (rest ≡ tail)
both_same [] rest [] tail same equal = (refl, same)
both_same [] rest (y ∷ k) tail same equal = absurd (omega (arith, equal))
both_same (x ∷ h) rest [] tail same equal = absurd (omega (arith, equal))
both_same (x ∷ h) rest (y ∷ k) tail same equal =
    let both = parts_of x y (h ++ rest) (k ++ tail) same in
    let two = both_same h rest k tail both.1 (omega (arith, equal)) in
    (ap (λ (e : Entry). e ∷ h) both.0 ∙ ap (λ (l : List Entry). y ∷ l) two.0, two.1)

-- the size of a side with more entries
size_more : (x : Document) (old : DiskState) (base : State) (h more : List Entry) (e : Entry) → size_behind x old base h + (5 + length (payload written_format (replay base h) e.choice)) ≤ size_behind x old base (h ++ e ∷ more)
size_more x old base h more e = omega (
  arith,
  records_size-more (left_on x old base).payloads (payloads written_format base (choices_of h)),
  records_size-more (left_on x old base).payloads (payloads written_format base (choices_of (h ++ e ∷ more))),
  ap records_size split,
  records_size-more (payloads written_format base (choices_of h)) (payload written_format (replay base h) e.choice ∷ behind),
)
  where
    behind : List (List ℕ)
    behind = payloads written_format (after (replay base h) e.choice) (choices_of more)

    split : payloads written_format base (choices_of (h ++ e ∷ more)) ≡ payloads written_format base (choices_of h) ++ payload written_format (replay base h) e.choice ∷ behind
    split =
        ap (payloads written_format base) (choices_of-append h (e ∷ more))
        ∙ payloads-append base (choices_of h) (e.choice ∷ choices_of more)
        ∙ ap (λ (s : State). payloads written_format base (choices_of h) ++ payloads written_format s (e.choice ∷ choices_of more)) (sym (replay-choices base h))

no_list : (h more : List Entry) (e : Entry) → h ++ e ∷ more ≡ [] → ⊥
no_list h more e is = omega (arith, ap length is, length-append h (e ∷ more))

-- what has no room after a front has none in a longer one
no_room : (x : Document) (old : DiskState) (base : State) (h rest k tail : List Entry) (size adding : ℕ) → h ++ rest ≡ k ++ tail → length h < length k
    → AddsFirst (replay base h) adding rest → size ≡ size_behind x old base h → journal_limit < size + adding → (k ≡ []) ⊎ (size_behind x old base k ≤ journal_limit) → ⊥
no_room x old base h rest k tail size adding same fewer adds is above room = by room
  where
    g : GoesOn h rest k tail
    g = goes_on h rest k tail same fewer

    first : adding ≡ 5 + length (payload written_format (replay base h) g.next.choice)
    first = subst (λ (l : List Entry). AddsFirst (replay base h) adding l) g.first adds

    by : (k ≡ []) ⊎ (size_behind x old base k ≤ journal_limit) → ⊥
    by (inl none) = no_list h g.more g.next (sym g.longer ∙ none)
    by (inr within) = omega (arith, within, above, is, first, ap (size_behind x old base) g.longer, size_more x old base h g.more g.next)

-- ---- lines determine how a run ends

nothing_left : (front left : List Signal) → front ++ left ≡ front → left ≡ []
nothing_left front [] is = refl
nothing_left front (x ∷ left) is = absurd (omega (arith, ap length is, length-append front (x ∷ left)))

-- a run that is done isn't spent
done_or_spent : (base : State) (steps : ℕ) (lines : List Signal) (h k : List Entry) → k ≡ h → IsDoneOn base lines h → IsSpentOn base steps lines k → ⊥
done_or_spent base steps lines h k same done spent = ⊎_elim used (λ few. more few.1.0 few.1.1) spent.spent
  where
    left : spent.taken.0 ≡ []
    left = nothing_left (inputs_of k) spent.taken.0 (spent.taken.1 ∙ sym (ap inputs_of same ∙ done.taken))

    used : is_used_up (replay base k) ≡ true → ⊥
    used up = let never : true ≡ false = sym up ∙ ap (λ (es : List Entry). is_used_up (replay base es)) same ∙ done.fresh in cc

    more : (c : Choice) → MayFollow (replay base k) spent.taken.0 c → ⊥
    more c may = done.idle c (subst (λ (es : List Entry). MayFollow (replay base es) [] c) same (subst (λ (l : List Signal). MayFollow (replay base k) l c) left may))

-- two outcomes
abbrev Same : List Entry → List Entry → Status → Status → Type 0
Same h k s t = (s ≡ t) × (h ≡ k)

-- an end that is determined
data Led (x : Document) (old : DiskState) (base : State) (steps : ℕ) (lines : List Signal) (history rest : List Entry) (status : Status) : Type 0 where
  Done : status ≡ statuses.Ok → rest ≡ [] → IsDoneOn base lines history → Led x old base steps lines history rest status
  Spent : (entries : ℕ) → status ≡ statuses.StepsSpent entries → entries ≡ length history → rest ≡ [] → IsSpentOn base steps lines history → Led x old base steps lines history rest status
  Full : (size adding : ℕ) → status ≡ statuses.Full size adding → size ≡ size_behind x old base history → AddsFirst (replay base history) adding rest → journal_limit < size + adding
      → Led x old base steps lines history rest status
  Unbegun : (size adding : ℕ) → status ≡ statuses.Full size adding → history ≡ [] → IsUnbegun x base old size adding → Led x old base steps lines history rest status

-- what a side that stands hasn't room for
led_full : (x : Document) (old : DiskState) (base : State) (steps : ℕ) (lines : List Signal) (history : List Entry) (size adding : ℕ) → IsFullOn journal_limit base steps lines history size adding ⊎ HasNoSide journal_limit history size adding
    → (one : IsByOne base steps lines history (statuses.Full size adding)) → (size ≡ size_behind x old base history) ⊎ ((history ≡ []) × IsUnbegun x base old size adding)
    → Led x old base steps lines history one.rest (statuses.Full size adding)
led_full x old base steps lines history size adding ends one (inr unbegun) = Unbegun size adding refl unbegun.0 unbegun.1
led_full x old base steps lines history size adding (inr none) one (inl is) = absurd (no_size x old base history (sym none.empty ∙ is))
led_full x old base steps lines history size adding (inl full) one (inl is) = Full size adding refl is (one.full size adding (λ none. no_size x old base history (sym none ∙ is)) refl) full.above

led : (x : Document) (old : DiskState) (base : State) (steps : ℕ) (lines : List Signal) (history : List Entry) (status : Status) (bytes : Result State Wrong) (s : State) → EndsOn base steps lines history status → (one : IsByOne base steps lines history status)
    → IsSized x base history old status → bytes ≡ Ok s → IsAnswerTo bytes status → (IsByFault status → ⊥) → Led x old base steps lines history one.rest status
led x old base steps lines history statuses.Ok bytes s ends one sized ok answer fine = Done refl (one.done refl) ends
led x old base steps lines history statuses.BadWords bytes s ends one sized ok answer fine = absurd ends
led x old base steps lines history statuses.ReadFault bytes s ends one sized ok answer fine = absurd (fine tt)
led x old base steps lines history statuses.WriteFault bytes s ends one sized ok answer fine = absurd ends
led x old base steps lines history statuses.DiskFault bytes s ends one sized ok answer fine = absurd (fine tt)
led x old base steps lines history (statuses.BadJournal side at kind) bytes s ends one sized ok answer fine = absurd (let never : Ok s ≡ Err (WrongAt side at kind) = sym ok ∙ answer in cc)
led x old base steps lines history (statuses.OtherDeployment kept_len place) bytes s ends one sized ok answer fine = absurd (let never : Ok s ≡ Err (OtherFrom kept_len place) = sym ok ∙ answer in cc)
led x old base steps lines history (statuses.Full size adding) bytes s ends one sized ok answer fine = led_full x old base steps lines history size adding ends one (sized.full size adding refl)
led x old base steps lines history (statuses.StepsSpent entries) bytes s ends one sized ok answer fine = Spent entries refl ends.0 (one.spent entries refl) ends.1
led x old base steps lines history statuses.NoMemory bytes s ends one sized ok answer fine = absurd (fine tt)
led x old base steps lines history (statuses.BadDeploy fault) bytes s ends one sized ok answer fine = absurd ends
led x old base steps lines history (statuses.BadSignals line kind) bytes s ends one sized ok answer fine = absurd ends
led x old base steps lines history (statuses.TooLarge what) bytes s ends one sized ok answer fine = absurd ends

whole_is : (h rest k tail : List Entry) → h ++ rest ≡ k ++ tail → rest ≡ [] → tail ≡ [] → h ≡ k
whole_is h rest k tail same none no_tail = sym (append-nil h) ∙ ap (λ (l : List Entry). h ++ l) (sym none) ∙ same ∙ ap (λ (l : List Entry). k ++ l) no_tail ∙ append-nil k

-- a side that isn't written is of one size
same_unwritten : (x : Document) (base : State) (z a y b : ℕ) → IsUnwritten x base z a → IsUnwritten x base y b → statuses.Full z a ≡ statuses.Full y b
same_unwritten x base z a y b one other = ap (λ (n : ℕ). statuses.Full n a) (one.0 ∙ sym other.0) ∙ ap (λ (n : ℕ). statuses.Full y n) (one.1 ∙ sym other.1)

module _ (x : Document) (old : DiskState) (base : State) (steps : ℕ) (lines : List Signal) where
  abbrev Room : List Entry → Type 0
  Room h = (h ≡ []) ⊎ (size_behind x old base h ≤ journal_limit)

  -- a run without room isn't whole
  full_or_whole : (h rest k tail : List Entry) (size adding : ℕ) → h ++ rest ≡ k ++ tail → tail ≡ [] → size ≡ size_behind x old base h → AddsFirst (replay base h) adding rest → journal_limit < size + adding → Room k → ⊥
  full_or_whole h [] k tail size adding same none is adds above room = adds
  full_or_whole h (e ∷ rest) k tail size adding same none is adds above room =
      no_room x old base h (e ∷ rest) k tail size adding same (omega (arith, ap length same, length-append h (e ∷ rest), length-append k tail, ap length none)) adds is above room

  two_full : (h rest k tail : List Entry) (s a z b : ℕ) → h ++ rest ≡ k ++ tail → s ≡ size_behind x old base h → AddsFirst (replay base h) a rest → journal_limit < s + a → Room h
      → z ≡ size_behind x old base k → AddsFirst (replay base k) b tail → journal_limit < z + b → Room k → (h ≡ k) × (statuses.Full s a ≡ statuses.Full z b)
  two_full h rest k tail s a z b same is adds above room also more beyond place = elim (cases_eq (length h) (length k)) [
    | inl equal ↦ at_once (both_same h rest k tail same equal)
    | inr other ↦ absurd (apart other)
  ]
    where
      fewer : (m n : ℕ) → m ≤ n → (m ≡ n → ⊥) → m < n
      fewer m n le other = elim (cases_Bool (nat_le n m)) [
        | inl back ↦ absurd (other (omega (arith, le, leb-true n m back)))
        | inr less ↦ leb-false n m less
      ]

      apart : (length h ≡ length k → ⊥) → ⊥
      apart other = elim (cases_Bool (nat_le (length h) (length k))) [
        | inl few ↦ no_room x old base h rest k tail s a same (fewer (length h) (length k) (leb-true (length h) (length k) few) other) adds is above place
        | inr many ↦ no_room x old base k tail h rest z b (sym same) (leb-false (length h) (length k) many) more also beyond room
      ]

      adds_same : (rest tail : List Entry) → h ≡ k → rest ≡ tail → AddsFirst (replay base h) a rest → AddsFirst (replay base k) b tail → a ≡ b
      adds_same [] tail one two adds more = absurd adds
      adds_same (e ∷ rest) [] one two adds more = absurd more
      adds_same (e ∷ rest) (f ∷ tail) one two adds more =
          adds ∙ ap (λ (y : Entry). 5 + length (payload written_format (replay base h) y.choice)) (parts_of e f rest tail two).0 ∙ ap (λ (es : List Entry). 5 + length (payload written_format (replay base es) f.choice)) one ∙ sym more

      at_once : (h ≡ k) × (rest ≡ tail) → (h ≡ k) × (statuses.Full s a ≡ statuses.Full z b)
      at_once two = (two.0, ap (λ (n : ℕ). statuses.Full n a) (is ∙ ap (size_behind x old base) two.0 ∙ sym also) ∙ ap (λ (n : ℕ). statuses.Full z n) (adds_same rest tail two.0 two.1 adds more))

  abbrev Fits : Status → Type 0
  Fits s = IsBegun s → IsTrue (is_anew (recovered x.bytes old.seen)) → size_anew x.bytes base ≤ journal_limit

  -- where a side that would be written anew has no room, no run comes to another end
  none_begun : (size adding : ℕ) (t : Status) → IsUnbegun x base old size adding → IsBegun t → Fits t → ⊥
  none_begun size adding t unbegun begun fits = omega (arith, fits begun unbegun.anew, unbegun.unwritten.1, unbegun.unwritten.2)

  begun_ok : (t : Status) → t ≡ statuses.Ok → IsBegun t
  begun_ok t is = subst IsBegun (sym is) (record { good = tt; remembered = λ e. cc; sided = λ adding e. cc })

  begun_spent : (t : Status) (n : ℕ) → t ≡ statuses.StepsSpent n → IsBegun t
  begun_spent t n is = subst IsBegun (sym is) (record { good = tt; remembered = λ e. cc; sided = λ adding e. cc })

  begun_full : (t : Status) (k : List Entry) (size adding : ℕ) → t ≡ statuses.Full size adding → size ≡ size_behind x old base k → IsBegun t
  begun_full t k size adding is stands =
      subst IsBegun (sym is) (record { good = tt; remembered = λ e. cc; sided = λ other e. let none : size ≡ 0 = cc in no_size x old base k (sym none ∙ stands) })

  on_lines : (h rest k tail : List Entry) (s t : Status) → h ++ rest ≡ k ++ tail → Room h → Room k → Fits s → Fits t → Led x old base steps lines h rest s → Led x old base steps lines k tail t → Same h k s t
  on_lines h rest k tail s t same room place fit also_fit (Done is none a) (Done also nothing b) = (is ∙ sym also, whole_is h rest k tail same none nothing)
  on_lines h rest k tail s t same room place fit also_fit (Done is none a) (Spent n also count nothing b) = absurd (done_or_spent base steps lines h k (sym (whole_is h rest k tail same none nothing)) a b)
  on_lines h rest k tail s t same room place fit also_fit (Done is none a) (Full z b also fits more above) = absurd (full_or_whole k tail h rest z b (sym same) none fits more above room)
  on_lines h rest k tail s t same room place fit also_fit (Done is none a) (Unbegun z b also nothing unbegun) = absurd (none_begun z b s unbegun (begun_ok s is) fit)
  on_lines h rest k tail s t same room place fit also_fit (Spent m is count none a) (Done also nothing b) = absurd (done_or_spent base steps lines k h (whole_is h rest k tail same none nothing) b a)
  on_lines h rest k tail s t same room place fit also_fit (Spent m is count none a) (Spent n also other nothing b) =
      let equal : h ≡ k = whole_is h rest k tail same none nothing in
      (is ∙ ap (λ (n : ℕ). statuses.StepsSpent n) (count ∙ ap length equal ∙ sym other) ∙ sym also, equal)
  on_lines h rest k tail s t same room place fit also_fit (Spent m is count none a) (Full z b also fits more above) = absurd (full_or_whole k tail h rest z b (sym same) none fits more above room)
  on_lines h rest k tail s t same room place fit also_fit (Spent m is count none a) (Unbegun z b also nothing unbegun) = absurd (none_begun z b s unbegun (begun_spent s m is) fit)
  on_lines h rest k tail s t same room place fit also_fit (Full z a is fits adds above) (Done also nothing b) = absurd (full_or_whole h rest k tail z a same nothing fits adds above place)
  on_lines h rest k tail s t same room place fit also_fit (Full z a is fits adds above) (Spent n also count nothing b) = absurd (full_or_whole h rest k tail z a same nothing fits adds above place)
  on_lines h rest k tail s t same room place fit also_fit (Full z a is fits adds above) (Full y b also within more beyond) =
      let two = two_full h rest k tail z a y b same fits adds above room within more beyond place in
      (is ∙ two.1 ∙ sym also, two.0)
  on_lines h rest k tail s t same room place fit also_fit (Full z a is fits adds above) (Unbegun y b also nothing unbegun) = absurd (none_begun y b s unbegun (begun_full s h z a is fits) fit)
  on_lines h rest k tail s t same room place fit also_fit (Unbegun z a is none unbegun) (Done also nothing b) = absurd (none_begun z a t unbegun (begun_ok t also) also_fit)
  on_lines h rest k tail s t same room place fit also_fit (Unbegun z a is none unbegun) (Spent n also count nothing b) = absurd (none_begun z a t unbegun (begun_spent t n also) also_fit)
  on_lines h rest k tail s t same room place fit also_fit (Unbegun z a is none unbegun) (Full y b also within more beyond) = absurd (none_begun z a t unbegun (begun_full t k y b also within) also_fit)
  on_lines h rest k tail s t same room place fit also_fit (Unbegun z a is none unbegun) (Unbegun y b also nothing other) = (is ∙ same_unwritten x base z a y b unbegun.unwritten other.unwritten ∙ sym also, none ∙ sym nothing)

-- a status that the bytes of sources lead to
refused_status : (refusal status : Status) → IsRefusedAs refusal status → (IsByFault status → ⊥) → status ≡ refusal
refused_status refusal status (inl is) fine = is
refused_status refusal status (inr (inl read)) fine = absurd (fine (subst IsByFault (sym read) tt))
refused_status refusal status (inr (inr out)) fine = absurd (fine (subst IsByFault (sym out) tt))

-- where nothing was opened, a run on good sources is by a fault
early_fault : (base : State) (steps : ℕ) (lines : List Signal) (history : List Entry) (status : Status) → EndsOn base steps lines history status → IsEarly status → IsByFault status
early_fault base steps lines history statuses.Ok ends early = absurd early
early_fault base steps lines history statuses.BadWords ends early = absurd ends
early_fault base steps lines history statuses.ReadFault ends early = tt
early_fault base steps lines history statuses.WriteFault ends early = absurd ends
early_fault base steps lines history statuses.DiskFault ends early = tt
early_fault base steps lines history (statuses.BadJournal side at kind) ends early = absurd early
early_fault base steps lines history (statuses.OtherDeployment kept_len place) ends early = absurd early
early_fault base steps lines history (statuses.Full size adding) ends early = absurd early
early_fault base steps lines history (statuses.StepsSpent entries) ends early = absurd early
early_fault base steps lines history statuses.NoMemory ends early = tt
early_fault base steps lines history (statuses.BadDeploy fault) ends early = absurd ends
early_fault base steps lines history (statuses.BadSignals line kind) ends early = absurd ends
early_fault base steps lines history (statuses.TooLarge what) ends early = absurd ends

-- ---- deployments

-- what a check tells of bytes
data Checked (bytes text : List ℕ) (status : Status) : Type 0 where
  Counted : (counts : Counts) → status ≡ statuses.Ok → text ≡ checked_text counts → IsCounted bytes counts → Checked bytes text status
  Faulty : (fault : ReadFault) → status ≡ statuses.BadDeploy fault → text ≡ status_line status → IsFaulty bytes fault → Checked bytes text status
  Large : status ≡ statuses.TooLarge givens.Deploy → text ≡ status_line status → deploy_limit < length bytes → Checked bytes text status

checked_as : (bytes text : List ℕ) (status : Status) → IsCheckedAt status → IsTextFor (Some bytes) text status → (IsByFault status → ⊥) → Checked bytes text status
checked_as bytes text statuses.Ok at is fine = Counted is.0 refl is.1 is.2
checked_as bytes text statuses.BadWords at is fine = absurd at
checked_as bytes text statuses.ReadFault at is fine = absurd (fine tt)
checked_as bytes text (statuses.BadDeploy fault) at is fine = Faulty fault refl is.0 is.1
checked_as bytes text (statuses.BadSignals line kind) at is fine = absurd at
checked_as bytes text statuses.WriteFault at is fine = absurd at
checked_as bytes text statuses.DiskFault at is fine = absurd at
checked_as bytes text (statuses.BadJournal side place kind) at is fine = absurd at
checked_as bytes text (statuses.OtherDeployment kept_len place) at is fine = absurd at
checked_as bytes text (statuses.Full size adding) at is fine = absurd at
checked_as bytes text (statuses.StepsSpent entries) at is fine = absurd at
checked_as bytes text statuses.NoMemory at is fine = absurd (fine tt)
checked_as bytes text (statuses.TooLarge givens.Deploy) at is fine = Large refl is.0 is.1
checked_as bytes text (statuses.TooLarge givens.Signals) at is fine = absurd at

-- the status determines the text
same_line : (x y : List ℕ) (s t : Status) → s ≡ t → x ≡ status_line s → y ≡ status_line t → (s ≡ t) × (x ≡ y)
same_line x y s t same is also = (same, is ∙ ap status_line same ∙ sym also)

one_check : (bytes x y : List ℕ) (s t : Status) → Checked bytes x s → Checked bytes y t → (s ≡ t) × (x ≡ y)
one_check bytes x y s t (Counted m is prints a) (Counted n also writes b) =
    let both : ◌≡◌ {A = Result Counts ReadFault} (Ok m) (Ok n) = sym a.counted ∙ b.counted in
    let same : m ≡ n = cc in
    (is ∙ sym also, prints ∙ ap checked_text same ∙ sym writes)
one_check bytes x y s t (Counted m is prints a) (Faulty f also writes b) = absurd (let never : Ok m ≡ Err f = sym a.counted ∙ b.first in cc)
one_check bytes x y s t (Counted m is prints a) (Large also writes more) = absurd (omega (arith, more, a.within))
one_check bytes x y s t (Faulty e is prints a) (Counted n also writes b) = absurd (let never : Err e ≡ Ok n = sym a.first ∙ b.counted in cc)
one_check bytes x y s t (Faulty e is prints a) (Faulty f also writes b) =
    let both : ◌≡◌ {A = Result Counts ReadFault} (Err e) (Err f) = sym a.first ∙ b.first in
    let same : e ≡ f = cc in
    same_line x y s t (is ∙ ap statuses.BadDeploy same ∙ sym also) prints writes
one_check bytes x y s t (Faulty e is prints a) (Large also writes more) = absurd (omega (arith, more, a.within))
one_check bytes x y s t (Large is prints more) (Counted n also writes b) = absurd (omega (arith, more, b.within))
one_check bytes x y s t (Large is prints more) (Faulty f also writes b) = absurd (omega (arith, more, b.within))
one_check bytes x y s t (Large is prints more) (Large also writes much) = same_line x y s t (is ∙ sym also) prints writes

-- ---- bytes that stand for no state

-- the status that tells what is wrong
abbrev said : Wrong → Status
said (WrongAt side at kind) = statuses.BadJournal side at kind
said (OtherFrom kept_len place) = statuses.OtherDeployment kept_len place

wrong_is : (w x : Wrong) (r q : Result State Wrong) → r ≡ q → r ≡ Err w → q ≡ Err x → said w ≡ said x
wrong_is w x r q same is also = let one : w ≡ x = cc in ap said one

told_wrong : (base : State) (steps : ℕ) (lines : List Signal) (history : List Entry) (status : Status) (w : Wrong) → EndsOn base steps lines history status → IsAnswerTo (Err w) status → (IsByFault status → ⊥) → status ≡ said w
told_wrong base steps lines history statuses.Ok w ends answer fine = absurd (cc)
told_wrong base steps lines history statuses.BadWords w ends answer fine = absurd ends
told_wrong base steps lines history statuses.ReadFault w ends answer fine = absurd (fine tt)
told_wrong base steps lines history statuses.WriteFault w ends answer fine = absurd ends
told_wrong base steps lines history statuses.DiskFault w ends answer fine = absurd (fine tt)
told_wrong base steps lines history (statuses.BadJournal side at kind) w ends answer fine = sym (wrong_is w (WrongAt side at kind) (Err w) (Err (WrongAt side at kind)) answer refl refl)
told_wrong base steps lines history (statuses.OtherDeployment kept_len place) w ends answer fine = sym (wrong_is w (OtherFrom kept_len place) (Err w) (Err (OtherFrom kept_len place)) answer refl refl)
told_wrong base steps lines history (statuses.Full size adding) w ends answer fine = absurd (cc)
told_wrong base steps lines history (statuses.StepsSpent entries) w ends answer fine = absurd (cc)
told_wrong base steps lines history statuses.NoMemory w ends answer fine = absurd (fine tt)
told_wrong base steps lines history (statuses.BadDeploy fault) w ends answer fine = absurd ends
told_wrong base steps lines history (statuses.BadSignals line kind) w ends answer fine = absurd ends
told_wrong base steps lines history (statuses.TooLarge what) w ends answer fine = absurd ends

-- ---- what a run came to, unless it is by a fault

no_fault_memory : (stood : Status) → (IsByFault stood → ⊥) → stood ≢ statuses.NoMemory
no_fault_memory stood fine is = fine (subst IsByFault (sym is) tt)

no_fault_disk : (status : Status) → (IsByFault status → ⊥) → status ≢ statuses.DiskFault
no_fault_disk status fine is = fine (subst IsByFault (sym is) tt)

-- the steps were reached and came to no end only by a fault, or where something had no room
abbrev HasNoRoom : Status → Type 0
HasNoRoom status = (size : ℕ) × (adding : ℕ) × (status ≡ statuses.Full size adding)

between : (status : Status) → IsReachedTime (row_of status).time → IsUnendedTime (row_of status).time → IsByFault status ⊎ HasNoRoom status
between statuses.Ok reached unended = absurd unended
between statuses.BadWords reached unended = absurd reached
between statuses.ReadFault reached unended = absurd reached
between statuses.WriteFault reached unended = absurd reached
between statuses.DiskFault reached unended = inl tt
between (statuses.BadJournal side at kind) reached unended = absurd reached
between (statuses.OtherDeployment kept_len place) reached unended = absurd reached
between (statuses.Full size adding) reached unended = inr (size, adding, refl)
between (statuses.StepsSpent entries) reached unended = absurd unended
between statuses.NoMemory reached unended = inl tt
between (statuses.BadDeploy fault) reached unended = absurd reached
between (statuses.BadSignals line kind) reached unended = absurd reached
between (statuses.TooLarge what) reached unended = absurd reached

-- the whole report, or the status line alone
data Prints (report : Report) (acked : List Entry) (ended : Status) (text : List ℕ) : Type 0 where
  Whole : IsReachedTime (row_of ended).time → text ≡ output_text report acked ended → Prints report acked ended text
  Alone : IsUnendedTime (row_of ended).time → ((size adding : ℕ) → ended ≡ statuses.Full size adding → size ≡ 0) → text ≡ status_line ended → Prints report acked ended text

prints_as : (report : Report) (history acked : List Entry) (ended stood : Status) (text : List ℕ) → IsTextOf report history acked ended stood text → (IsByFault stood → ⊥) → Prints report acked ended text
prints_as report history acked ended stood text (inr alone) fine = Alone alone.unended alone.anew alone.alone
prints_as report history acked ended stood text (inl reported) fine = by reported.prints
  where
    by : ((stood ≡ ended) × (text ≡ output_text report acked ended)) ⊎ ((stood ≡ statuses.NoMemory) × (text ≡ short_text report acked)) → Prints report acked ended text
    by (inl whole) = Whole reported.reached whole.1
    by (inr short) = absurd (no_fault_memory stood fine short.0)

-- where no side could be written anew
abbrev IsBare : List ℕ → Status → Type 0
IsBare text status = (adding : ℕ) → status ≡ statuses.Full 0 adding → text ≡ status_line status

bare_text : (status : Status) (text : List ℕ) → IsBare text status → ((size adding : ℕ) → status ≡ statuses.Full size adding → size ≡ 0) → HasNoRoom status → text ≡ status_line status
bare_text status text bare anew (size, adding, is) = bare adding (is ∙ ap (λ (n : ℕ). statuses.Full n adding) (anew size adding is))

one_text : (report : Report) (h k : List Entry) (s t : Status) (x y : List ℕ) → h ≡ k → s ≡ t → IsBare x s → IsBare y t → Prints report h s x → Prints report k t y → (IsByFault s → ⊥) → x ≡ y
one_text report h k s t x y acked same bare other (Whole reached is) (Whole more also) fine = is ∙ ap (λ (es : List Entry). output_text report es s) acked ∙ ap (output_text report k) same ∙ sym also
one_text report h k s t x y acked same bare other (Whole reached is) (Alone unended anew also) fine = by (between s reached (subst (λ (z : Status). IsUnendedTime (row_of z).time) (sym same) unended))
  where
    by : IsByFault s ⊎ HasNoRoom s → x ≡ y
    by (inl fault) = absurd (fine fault)
    by (inr full) = bare_text s x bare (λ size adding e. anew size adding (sym same ∙ e)) full ∙ ap status_line same ∙ sym also
one_text report h k s t x y acked same bare other (Alone unended anew is) (Whole reached also) fine = by (between s (subst (λ (z : Status). IsReachedTime (row_of z).time) (sym same) reached) unended)
  where
    by : IsByFault s ⊎ HasNoRoom s → x ≡ y
    by (inl fault) = absurd (fine fault)
    by (inr full) = is ∙ ap status_line same ∙ sym (bare_text t y other (λ size adding e. anew size adding (same ∙ e)) (subst HasNoRoom same full))
one_text report h k s t x y acked same bare other (Alone unended anew is) (Alone more again also) fine = is ∙ ap status_line same ∙ sym also

-- ---- two runs over one document

-- what is said of a run that opened the journal
pub record IsMet (x : Document) (steps : ℕ) (lines : List Signal) (old new : DiskState) (o : Outcome) : Type 0 where
  pub ends : EndsOn o.base steps lines o.history o.ended
  pub alone : IsByOne o.base steps lines o.history o.ended
  pub met : MeetsJournal x o.base o.history old new o.ended
  pub keeps : KeepsJournal x o.base o.history o.acked old new o.ended
  pub fine : IsByFault o.ended → ⊥

met_state : (x : Document) (steps : ℕ) (lines other_lines : List Signal) (old one other : DiskState) (p q : Outcome) (s : State) → IsTrue old.told → found x old ≡ Ok s
    → (p.base ≡ q.base → lines ≡ other_lines) → IsMet x steps lines old one p → IsMet x steps other_lines old other q → Same p.history q.history p.ended q.ended
met_state x steps lines other_lines old one other p q s told is lined a b =
    let same : p.base ≡ s = (a.met.opened told).from s is in
    let also : q.base ≡ s = (b.met.opened told).from s is in
    let first = subst (λ (t : State). IsByOne t steps lines p.history p.ended) same a.alone in
    let again = subst (λ (l : List Signal). IsByOne q.base steps l q.history q.ended) (sym (lined (same ∙ sym also))) b.alone in
    let second = subst (λ (t : State). IsByOne t steps lines q.history q.ended) also again in
    let back = subst (λ (l : List Signal). EndsOn q.base steps l q.history q.ended) (sym (lined (same ∙ sym also))) b.ends in
    let m = subst (λ (t : State). IsSized x t p.history old p.ended) same (a.keeps.sized told (is ∙ ap (λ (t : State). Ok t) (sym same))) in
    let n = subst (λ (t : State). IsSized x t q.history old q.ended) also (b.keeps.sized told (is ∙ ap (λ (t : State). Ok t) (sym also))) in
    on_lines x old s steps lines p.history first.rest q.history second.rest p.ended q.ended (first.front ∙ sym second.front) m.room n.room m.begun n.begun
    (led x old s steps lines p.history p.ended (found x old) s (subst (λ (t : State). EndsOn t steps lines p.history p.ended) same a.ends) first m is (a.met.opened told).answer a.fine)
    (led x old s steps lines q.history q.ended (found x old) s (subst (λ (t : State). EndsOn t steps lines q.history q.ended) also back) second n is (b.met.opened told).answer b.fine)

met_wrong : (x : Document) (steps : ℕ) (lines other_lines : List Signal) (old one other : DiskState) (p q : Outcome) (w : Wrong) → IsTrue old.told → found x old ≡ Err w
    → IsMet x steps lines old one p → IsMet x steps other_lines old other q → Same p.history q.history p.ended q.ended
met_wrong x steps lines other_lines old one other p q w told is a b = (
  told_wrong p.base steps lines p.history p.ended w a.ends (subst (λ r. IsAnswerTo r p.ended) is (a.met.opened told).answer) a.fine
      ∙ sym (told_wrong q.base steps other_lines q.history q.ended w b.ends (subst (λ r. IsAnswerTo r q.ended) is (b.met.opened told).answer) b.fine),
  (a.met.opened told).none w is ∙ sym ((b.met.opened told).none w is),
)

met : (x : Document) (steps : ℕ) (lines other_lines : List Signal) (old one other : DiskState) (p q : Outcome) (r : Result State Wrong) → IsTrue old.told → found x old ≡ r
    → (p.base ≡ q.base → lines ≡ other_lines) → IsMet x steps lines old one p → IsMet x steps other_lines old other q → Same p.history q.history p.ended q.ended
met x steps lines other_lines old one other p q (Ok s) told is lined a b = met_state x steps lines other_lines old one other p q s told is lined a b
met x steps lines other_lines old one other p q (Err w) told is lined a b = met_wrong x steps lines other_lines old one other p q w told is a b

-- ---- a task

task_wrong : (status : Status) (w : Wrong) → IsTendedAt status → IsBarredShow status → IsAnswerTo (Err w) status → (IsByFault status → ⊥) → status ≡ said w
task_wrong statuses.Ok w at good answer fine = absurd (cc)
task_wrong statuses.BadWords w at good answer fine = absurd at
task_wrong statuses.ReadFault w at good answer fine = absurd (fine tt)
task_wrong statuses.WriteFault w at good answer fine = absurd at
task_wrong statuses.DiskFault w at good answer fine = absurd (fine tt)
task_wrong (statuses.BadJournal side place kind) w at good answer fine = sym (wrong_is w (WrongAt side place kind) (Err w) (Err (WrongAt side place kind)) answer refl refl)
task_wrong (statuses.OtherDeployment kept_len place) w at good answer fine = sym (wrong_is w (OtherFrom kept_len place) (Err w) (Err (OtherFrom kept_len place)) answer refl refl)
task_wrong (statuses.Full size adding) w at good answer fine = absurd (cc)
task_wrong (statuses.StepsSpent entries) w at good answer fine = absurd at
task_wrong statuses.NoMemory w at good answer fine = absurd (fine tt)
task_wrong (statuses.BadDeploy fault) w at good answer fine = absurd good
task_wrong (statuses.BadSignals line kind) w at good answer fine = absurd at
task_wrong (statuses.TooLarge what) w at good answer fine = absurd good

task_fine : (status : Status) (s : State) → IsTendedAt status → IsBarredShow status → IsAnswerTo (Ok s) status → (IsByFault status → ⊥) → (status ≡ statuses.Ok) ⊎ HasNoRoom status
task_fine statuses.Ok s at good answer fine = inl refl
task_fine statuses.BadWords s at good answer fine = absurd at
task_fine statuses.ReadFault s at good answer fine = absurd (fine tt)
task_fine statuses.WriteFault s at good answer fine = absurd at
task_fine statuses.DiskFault s at good answer fine = absurd (fine tt)
task_fine (statuses.BadJournal side place kind) s at good answer fine = absurd (cc)
task_fine (statuses.OtherDeployment kept_len place) s at good answer fine = absurd (cc)
task_fine (statuses.Full size adding) s at good answer fine = inr (size, adding, refl)
task_fine (statuses.StepsSpent entries) s at good answer fine = absurd at
task_fine statuses.NoMemory s at good answer fine = absurd (fine tt)
task_fine (statuses.BadDeploy fault) s at good answer fine = absurd good
task_fine (statuses.BadSignals line kind) s at good answer fine = absurd at
task_fine (statuses.TooLarge what) s at good answer fine = absurd good

said_text : (task : Task) (a b : State) (m n : ℕ) (w : Wrong) → task_text task a m (said w) ≡ task_text task b n (said w)
said_text task a b m n (WrongAt side at kind) = refl
said_text task a b m n (OtherFrom kept_len place) = refl

-- nothing is done before the journal is opened but by a fault, where the deployment is good
early_task : (status : Status) → IsTendedAt status → IsBarredShow status → IsEarly status → IsByFault status
early_task statuses.Ok at good early = absurd early
early_task statuses.BadWords at good early = absurd at
early_task statuses.ReadFault at good early = tt
early_task statuses.WriteFault at good early = absurd at
early_task statuses.DiskFault at good early = tt
early_task (statuses.BadJournal side place kind) at good early = absurd early
early_task (statuses.OtherDeployment kept_len place) at good early = absurd early
early_task (statuses.Full size adding) at good early = absurd early
early_task (statuses.StepsSpent entries) at good early = absurd at
early_task statuses.NoMemory at good early = tt
early_task (statuses.BadDeploy fault) at good early = absurd good
early_task (statuses.BadSignals line kind) at good early = absurd at
early_task (statuses.TooLarge what) at good early = absurd good

-- where a task has no room, a side that is written anew has none
task_unwritten : (task : Task) (x : Document) (base : State) (generation : ℕ) (old new : DiskState) (status : Status) → DoneOn task x base generation old new status → IsTrue old.told → found x old ≡ Ok base
    → (size adding : ℕ) → status ≡ statuses.Full size adding → IsUnwritten x base size adding
task_unwritten tasks.Show x base generation old new status done told is size adding full = (done.full told is size adding full).unwritten
task_unwritten tasks.Compact x base generation old new status done told is size adding full = done.full told is size adding full

-- a task that is done had room
task_or_full : (task : Task) (x : Document) (base : State) (m n : ℕ) (old one other : DiskState) (s t : Status) → DoneOn task x base m old one s → DoneOn task x base n old other t → IsTrue old.told → found x old ≡ Ok base
    → s ≡ statuses.Ok → HasNoRoom t → ⊥
task_or_full tasks.Show x base m n old one other s t a b told is ok (size, adding, full) =
    let unbegun = b.full told is size adding full in
    let fits = (a.keeps.sized told is).begun (subst IsBegun (sym ok) (record { good = tt; remembered = λ e. cc; sided = λ more e. cc })) unbegun.anew in
    omega (arith, fits, unbegun.unwritten.1, unbegun.unwritten.2)
task_or_full tasks.Compact x base m n old one other s t a b told is ok (size, adding, full) =
    let unwritten = b.full told is size adding full in
    omega (arith, (a.done told is ok).fits, unwritten.1, unwritten.2)

-- and its text is one
one_done : (task : Task) (x : Document) (base : State) (m n : ℕ) (old one other : DiskState) (s t : Status) → DoneOn task x base m old one s → DoneOn task x base n old other t → IsTrue old.told → found x old ≡ Ok base
    → s ≡ statuses.Ok → t ≡ statuses.Ok → done_text task base m ≡ done_text task base n
one_done tasks.Show x base m n old one other s t a b told is ok fine = refl
one_done tasks.Compact x base m n old one other s t a b told is ok fine = ap generation_line ((a.done told is ok).generation_is ∙ sym (b.done told is fine).generation_is)

full_text : (task : Task) (a b : State) (m n : ℕ) (status : Status) → HasNoRoom status → task_text task a m status ≡ task_text task b n status
full_text task a b m n status (size, adding, is) = subst (λ (s : Status). task_text task a m s ≡ task_text task b n s) (sym is) refl

-- two tasks over one state
one_task : (task : Task) (x : Document) (base : State) (m n : ℕ) (old one other : DiskState) (s t : Status) → DoneOn task x base m old one s → DoneOn task x base n old other t → IsTrue old.told → found x old ≡ Ok base
    → (s ≡ statuses.Ok) ⊎ HasNoRoom s → (t ≡ statuses.Ok) ⊎ HasNoRoom t → (s ≡ t) × (task_text task base m s ≡ task_text task base n t)
one_task task x base m n old one other s t a b told is (inl ok) (inl fine) = (
  ok ∙ sym fine,
  ap (task_text task base m) ok ∙ ap (λ (l : List ℕ). l ++ status_line statuses.Ok) (one_done task x base m n old one other s t a b told is ok fine) ∙ ap (task_text task base n) (sym fine),
)
one_task task x base m n old one other s t a b told is (inl ok) (inr full) = absurd (task_or_full task x base m n old one other s t a b told is ok full)
one_task task x base m n old one other s t a b told is (inr full) (inl fine) = absurd (task_or_full task x base n m old other one t s b a told is fine full)
one_task task x base m n old one other s t a b told is (inr (z, c, full)) (inr (y, d, more)) =
    let same : s ≡ t =
    full ∙ same_unwritten x base z c y d (task_unwritten task x base m old one s a told is z c full) (task_unwritten task x base n old other t b told is y d more) ∙ sym more in
    (same, full_text task base base m n s (z, c, full) ∙ ap (task_text task base n) same)

-- the refusal of a deployment is told
one_some : (a b : Status) → ◌≡◌ {A = Option Status} (Some a) (Some b) → a ≡ b
one_some a b is = cc

faulty_refusal : (bytes : List ℕ) (fault : ReadFault) → IsFaulty bytes fault → refusal_of_deploy bytes ≡ Some (statuses.BadDeploy fault)
faulty_refusal bytes fault is = within_deploy bytes is.within ∙ unread_fault_of (reading_of bytes) fault (counted_read bytes fault is.first)

task_refused : (bytes : List ℕ) (refusal status : Status) → refusal_of_deploy bytes ≡ Some refusal → IsTendedAt status → IsBarred bytes status → IsEarly status → (IsByFault status → ⊥) → status ≡ refusal
task_refused bytes refusal statuses.Ok is at barred early fine = absurd early
task_refused bytes refusal statuses.BadWords is at barred early fine = absurd at
task_refused bytes refusal statuses.ReadFault is at barred early fine = absurd (fine tt)
task_refused bytes refusal statuses.WriteFault is at barred early fine = absurd at
task_refused bytes refusal statuses.DiskFault is at barred early fine = absurd (fine tt)
task_refused bytes refusal (statuses.BadJournal side place kind) is at barred early fine = absurd early
task_refused bytes refusal (statuses.OtherDeployment kept_len place) is at barred early fine = absurd early
task_refused bytes refusal (statuses.Full size adding) is at barred early fine = absurd early
task_refused bytes refusal (statuses.StepsSpent entries) is at barred early fine = absurd at
task_refused bytes refusal statuses.NoMemory is at barred early fine = absurd (fine tt)
task_refused bytes refusal (statuses.BadDeploy fault) is at barred early fine = one_some (statuses.BadDeploy fault) refusal (sym (faulty_refusal bytes fault barred) ∙ is)
task_refused bytes refusal (statuses.BadSignals line kind) is at barred early fine = absurd at
task_refused bytes refusal (statuses.TooLarge givens.Deploy) is at barred early fine = one_some (statuses.TooLarge givens.Deploy) refusal (sym (large_deploy bytes barred) ∙ is)
task_refused bytes refusal (statuses.TooLarge givens.Signals) is at barred early fine = absurd at

-- ---- what the words ask

data Asked (c : Command) : Type 0 where
  Play : (mode : Mode) (steps : ℕ) → c ≡ command_for mode steps → Asked c
  Tend : (task : Task) → c ≡ command_of_task task → Asked c
  Check : c ≡ commands.Check → Asked c
  Gen : (seed count : ℕ) → c ≡ commands.Gen seed count → Asked c
  Trial : (seed count : ℕ) → c ≡ commands.Trial seed count → Asked c

asked : (c : Command) → crew_of c ≡ None → Asked c
asked commands.Check one = Check refl
asked commands.Show one = Tend tasks.Show refl
asked commands.Compact one = Tend tasks.Compact refl
asked (commands.Gen seed count) one = Gen seed count refl
asked (commands.Trial seed count) one = Trial seed count refl
asked (commands.Play workers steps) one = Play modes.AllNew steps (ap (λ (n : ℕ). commands.Play n steps) (one_worker modes.AllNew workers steps one))
asked (commands.Resume workers steps) one = Play modes.SkipTaken steps (ap (λ (n : ℕ). commands.Resume n steps) (one_worker modes.SkipTaken workers steps one))

plays_open : (words : List (List ℕ)) (mode : Mode) (steps : ℕ) → Plays words mode steps → Opens words
plays_open words modes.AllNew steps plays = record { command = commands.Play 1 steps; asks = plays; opening = tt }
plays_open words modes.SkipTaken steps plays = record { command = commands.Resume 1 steps; asks = plays; opening = tt }

-- ---- one deployment

one_deployed : (bytes : List ℕ) (d e : Deployment) → IsDeployment bytes d → IsDeployment bytes e → deployed_of d.parts ≡ deployed_of e.parts
one_deployed bytes d e one other = same_deployed bytes d e one.read other.read

-- generated lines that were written
data Generated (bytes text : List ℕ) (seed count : ℕ) (status : Status) : Type 0 where
  Given : (d : Deployment) → status ≡ statuses.Ok → text ≡ generated_text seed count (deployed_of d.parts) → IsDeployment bytes d → Generated bytes text seed count status
  Faulted : (fault : ReadFault) → status ≡ statuses.BadDeploy fault → text ≡ status_line status → IsFaulty bytes fault → Generated bytes text seed count status
  Over : status ≡ statuses.TooLarge givens.Deploy → text ≡ status_line status → deploy_limit < length bytes → Generated bytes text seed count status

generated_as : (bytes text : List ℕ) (seed count : ℕ) (status : Status) → IsCheckedAt status → IsLinesFor seed count (Some bytes) text status → (IsByFault status → ⊥) → Generated bytes text seed count status
generated_as bytes text seed count statuses.Ok at is fine = Given is.0 refl is.1 is.2
generated_as bytes text seed count statuses.BadWords at is fine = absurd at
generated_as bytes text seed count statuses.ReadFault at is fine = absurd (fine tt)
generated_as bytes text seed count (statuses.BadDeploy fault) at is fine = Faulted fault refl is.0 is.1
generated_as bytes text seed count (statuses.BadSignals line kind) at is fine = absurd at
generated_as bytes text seed count statuses.WriteFault at is fine = absurd at
generated_as bytes text seed count statuses.DiskFault at is fine = absurd at
generated_as bytes text seed count (statuses.BadJournal side place kind) at is fine = absurd at
generated_as bytes text seed count (statuses.OtherDeployment kept_len place) at is fine = absurd at
generated_as bytes text seed count (statuses.Full size adding) at is fine = absurd at
generated_as bytes text seed count (statuses.StepsSpent entries) at is fine = absurd at
generated_as bytes text seed count statuses.NoMemory at is fine = absurd (fine tt)
generated_as bytes text seed count (statuses.TooLarge givens.Deploy) at is fine = Over refl is.0 is.1
generated_as bytes text seed count (statuses.TooLarge givens.Signals) at is fine = absurd at

one_generated : (bytes x y : List ℕ) (seed count : ℕ) (s t : Status) → Generated bytes x seed count s → Generated bytes y seed count t → (s ≡ t) × (x ≡ y)
one_generated bytes x y seed count s t (Given d is prints a) (Given e also writes b) =
    (is ∙ sym also, prints ∙ ap (generated_text seed count) (one_deployed bytes d e a b) ∙ sym writes)
one_generated bytes x y seed count s t (Given d is prints a) (Faulted f also writes b) = absurd (read_counts bytes f (read_as d) a.read b.first)
one_generated bytes x y seed count s t (Given d is prints a) (Over also writes more) = absurd (omega (arith, more, a.within))
one_generated bytes x y seed count s t (Faulted e is prints a) (Given d also writes b) = absurd (read_counts bytes e (read_as d) b.read a.first)
one_generated bytes x y seed count s t (Faulted e is prints a) (Faulted f also writes b) =
    let both : ◌≡◌ {A = Result Counts ReadFault} (Err e) (Err f) = sym a.first ∙ b.first in
    let same : e ≡ f = cc in
    same_line x y s t (is ∙ ap statuses.BadDeploy same ∙ sym also) prints writes
one_generated bytes x y seed count s t (Faulted e is prints a) (Over also writes more) = absurd (omega (arith, more, a.within))
one_generated bytes x y seed count s t (Over is prints more) (Given d also writes b) = absurd (omega (arith, more, b.within))
one_generated bytes x y seed count s t (Over is prints more) (Faulted f also writes b) = absurd (omega (arith, more, b.within))
one_generated bytes x y seed count s t (Over is prints more) (Over also writes much) = same_line x y s t (is ∙ sym also) prints writes

-- ---- a run that is by no fault

unread_fault : (status : Status) → IsUnread status → IsByFault status
unread_fault status (inl is) = subst IsByFault (sym is) tt
unread_fault status (inr is) = subst IsByFault (sym is) tt

record IsFine (words : List (List ℕ)) (deploy bytes : List ℕ) (old new : DiskState) (o : Outcome) : Type 0 where
  pub over : IsRunOver words deploy bytes old new o
  pub stands : o.stood ≡ o.ended
  pub stood : IsByFault o.stood → ⊥
  pub fine : IsByFault o.ended → ⊥

fine_run : (words : List (List ℕ)) (deploy bytes : List ℕ) (old new : DiskState) (o : Outcome) → IsRunOver words deploy bytes old new o → (IsByFault o.stood → ⊥) → IsFine words deploy bytes old new o
fine_run words deploy bytes old new o over stood =
    let stands : o.stood ≡ o.ended = over.run.same (no_fault_memory o.stood stood) in
    record { over = over; stands = stands; stood = stood; fine = λ fault. stood (subst IsByFault (sym stands) fault) }

-- the document of such a run
opened_by : (words : List (List ℕ)) (deploy bytes : List ℕ) (old new : DiskState) (o : Outcome) (r : IsFine words deploy bytes old new o) → Opens words → (IsEarly o.ended → IsByFault o.ended) → IsDocument (Some deploy) r.over.document
opened_by words deploy bytes old new o r opens early = by (r.over.given opens)
  where
    by : IsDocument (Some deploy) r.over.document ⊎ IsBefore o.history old new o.ended → IsDocument (Some deploy) r.over.document
    by (inl is) = is
    by (inr before) = absurd (r.fine (early before.early))

module _ (old one other : DiskState) (words : List (List ℕ)) (deploy bytes : List ℕ) (p q : Outcome) (told : IsTrue old.told)
    (first : IsFine words deploy bytes old one p) (second : IsFine words deploy bytes old other q) where
  -- equal outcomes, by what they ended with
  equal : (report : Report) → IsBare p.text p.ended → IsBare q.text q.ended → Same p.history q.history p.ended q.ended → IsTextOf report p.history p.acked p.ended p.stood p.text → IsTextOf report q.history q.acked q.ended q.stood q.text
      → (p.stood ≡ q.stood) × (p.history ≡ q.history) × (p.text ≡ q.text)
  equal report bare other_bare same x y =
      let acked : p.acked ≡ q.acked = first.over.run.legal.whole (no_fault_disk p.ended first.fine) ∙ same.1 ∙ sym (second.over.run.legal.whole (no_fault_disk q.ended second.fine)) in (
        first.stands ∙ same.0 ∙ sym second.stands,
        same.1,
        one_text report p.acked q.acked p.ended q.ended p.text q.text acked same.0 bare other_bare (prints_as report p.history p.acked p.ended p.stood p.text x first.stood)
            (prints_as report q.history q.acked q.ended q.stood q.text y second.stood) first.fine,
      )

  -- where the sources are refused
  refused_same : (refusal : Status) → (p.history ≡ []) × IsRefusedAs refusal p.ended → (q.history ≡ []) × IsRefusedAs refusal q.ended → Same p.history q.history p.ended q.ended
  refused_same refusal a b =
      (refused_status refusal p.ended a.1 first.fine ∙ sym (refused_status refusal q.ended b.1 second.fine), a.0 ∙ sym b.0)

  -- both opened one document
  documents : Opens words → (IsEarly p.ended → IsByFault p.ended) → (IsEarly q.ended → IsByFault q.ended) → second.over.document ≡ first.over.document
  documents opens a b =
      one_document deploy second.over.document first.over.document (opened_by words deploy bytes old other q second opens b) (opened_by words deploy bytes old one p first opens a)

  both_met : (opens : Opens words) (plain : (task : Task) → Tends words task → ⊥) (steps : ℕ) (lines other_lines : List Signal) → (p.base ≡ q.base → lines ≡ other_lines)
      → EndsOn p.base steps lines p.history p.ended → IsByOne p.base steps lines p.history p.ended
      → EndsOn q.base steps other_lines q.history q.ended → IsByOne q.base steps other_lines q.history q.ended → Same p.history q.history p.ended q.ended
  both_met opens plain steps lines other_lines lined a b c d =
      let same = documents opens (early_fault p.base steps lines p.history p.ended a) (early_fault q.base steps other_lines q.history q.ended c) in
      met first.over.document steps lines other_lines old one other p q (found first.over.document old) told refl lined
      (record { ends = a; alone = b; met = first.over.journal.met opens; keeps = first.over.journal.keeps opens plain; fine = first.fine })
      (record {
        ends = c;
        alone = d;
        met = subst (λ (z : Document). MeetsJournal z q.base q.history old other q.ended) same (second.over.journal.met opens);
        keeps = subst (λ (z : Document). KeepsJournal z q.base q.history q.acked old other q.ended) same (second.over.journal.keeps opens plain);
        fine = second.fine;
      })

  play_same : (opens : Opens words) (plain : (task : Task) → Tends words task → ⊥) (mode : Mode) (steps : ℕ) (o : Option Status) → refusal_of deploy bytes ≡ o
      → MatchOption o (EndsOn p.base steps (lines_of_run mode p.base (lines_in bytes)) p.history p.ended) (λ r. (p.history ≡ []) × IsRefusedAs r p.ended) → IsByOneOn p.base mode steps deploy bytes p.history p.ended
      → MatchOption o (EndsOn q.base steps (lines_of_run mode q.base (lines_in bytes)) q.history q.ended) (λ r. (q.history ≡ []) × IsRefusedAs r q.ended) → IsByOneOn q.base mode steps deploy bytes q.history q.ended
      → Same p.history q.history p.ended q.ended
  play_same opens plain mode steps None is a b c d =
      both_met opens plain steps (lines_of_run mode p.base (lines_in bytes)) (lines_of_run mode q.base (lines_in bytes)) (λ same. ap (λ (s : State). lines_of_run mode s (lines_in bytes)) same) a (b is) c (d is)
  play_same opens plain mode steps (Some refusal) is a b c d = refused_same refusal a c

  trial_same : (opens : Opens words) (plain : (task : Task) → Tends words task → ⊥) (seed count : ℕ) (o : Option Status) → MatchOption o (IsTrialOrNone p.base seed count deploy p.history p.ended) (λ r. (p.history ≡ []) × IsRefusedAs r p.ended)
      → MatchOption o (IsTrialOrNone q.base seed count deploy q.history q.ended) (λ r. (q.history ≡ []) × IsRefusedAs r q.ended) → Same p.history q.history p.ended q.ended
  trial_same opens plain seed count (Some refusal) a b = refused_same refusal a b
  trial_same opens plain seed count None (inr nothing) b = absurd (first.fine (unread_fault p.ended nothing.1))
  trial_same opens plain seed count None (inl x) (inr nothing) = absurd (second.fine (unread_fault q.ended nothing.1))
  trial_same opens plain seed count None (inl x) (inl y) =
      both_met opens plain trial_steps (generated seed count (deployed_of x.deployment.parts)) (generated seed count (deployed_of y.deployment.parts))
      (λ same. ap (generated seed count) (one_deployed deploy x.deployment y.deployment x.given y.given)) x.ends x.alone y.ends y.alone

  -- a deployment that is refused was opened by none
  unopened : (opens : Opens words) (refusal : Status) → refusal_of_deploy deploy ≡ Some refusal → (new : DiskState) (o : Outcome) (r : IsFine words deploy bytes old new o) → IsTendedAt o.ended → IsBarred deploy o.ended → o.ended ≡ refusal
  unopened opens refusal is new o r at barred = by (r.over.given opens)
    where
      none : (x : Document) → IsDocument (Some deploy) x → refusal_of_deploy deploy ≡ None
      none x document = subst (λ (b : List ℕ). refusal_of_deploy b ≡ None) document.told (good_deploy x.bytes document.deployment document.given)

      by : IsDocument (Some deploy) r.over.document ⊎ IsBefore o.history old new o.ended → o.ended ≡ refusal
      by (inl document) = let never : ◌≡◌ {A = Option Status} (Some refusal) None = sym is ∙ none r.over.document document in absurd (cc)
      by (inr before) = task_refused deploy refusal o.ended is at barred before.early r.fine

  bad_task : (task : Task) (status : Status) (a b : State) (m n : ℕ) → (status ≢ statuses.Ok) → task_text task a m status ≡ task_text task b n status
  bad_task task statuses.Ok a b m n up = absurd (up refl)
  bad_task task statuses.BadWords a b m n up = refl
  bad_task task statuses.ReadFault a b m n up = refl
  bad_task task statuses.WriteFault a b m n up = refl
  bad_task task statuses.DiskFault a b m n up = refl
  bad_task task (statuses.BadJournal side place kind) a b m n up = refl
  bad_task task (statuses.OtherDeployment kept_len place) a b m n up = refl
  bad_task task (statuses.Full size adding) a b m n up = refl
  bad_task task (statuses.StepsSpent entries) a b m n up = refl
  bad_task task statuses.NoMemory a b m n up = refl
  bad_task task (statuses.BadDeploy fault) a b m n up = refl
  bad_task task (statuses.BadSignals line kind) a b m n up = refl
  bad_task task (statuses.TooLarge what) a b m n up = refl

  -- both do the task over one journal
  task_found : (opens : Opens words) (task : Task) → Tends words task → (x : Document) → first.over.document ≡ x → second.over.document ≡ x → (r : Result State Wrong) → found x old ≡ r
      → p.history ≡ [] → q.history ≡ [] → IsTendedAt p.ended → IsTendedAt q.ended → IsBarredShow p.ended → IsBarredShow q.ended
      → (p.ended ≡ q.ended) × (task_text task p.base p.generation p.ended ≡ task_text task q.base q.generation q.ended)
  task_found opens task tends x one_is other_is (Ok s) is none nothing a b good better =
      let meets = subst (λ (z : Document). MeetsJournal z p.base p.history old one p.ended) one_is (first.over.journal.met opens) in
      let meets_too = subst (λ (z : Document). MeetsJournal z q.base q.history old other q.ended) other_is (second.over.journal.met opens) in
      let based : p.base ≡ s = (meets.opened told).from s is in
      let based_too : q.base ≡ s = (meets_too.opened told).from s is in
      let done = subst (λ (t : State). DoneOn task x t p.generation old one p.ended) based (subst (λ (z : Document). DoneOn task z p.base p.generation old one p.ended) one_is (first.over.journal.done task tends)) in
      let done_too = subst (λ (t : State). DoneOn task x t q.generation old other q.ended) based_too (subst (λ (z : Document). DoneOn task z q.base q.generation old other q.ended) other_is (second.over.journal.done task tends)) in
      let m = task_fine p.ended s a good (subst (λ r. IsAnswerTo r p.ended) is (meets.opened told).answer) first.fine in
      let n = task_fine q.ended s b better (subst (λ r. IsAnswerTo r q.ended) is (meets_too.opened told).answer) second.fine in
      let two = one_task task x s p.generation q.generation old one other p.ended q.ended done done_too told is m n in
      (two.0, ap (λ (t : State). task_text task t p.generation p.ended) based ∙ two.1 ∙ ap (λ (t : State). task_text task t q.generation q.ended) (sym based_too))
  task_found opens task tends x one_is other_is (Err w) is none nothing a b good better =
      let meets = subst (λ (z : Document). MeetsJournal z p.base p.history old one p.ended) one_is (first.over.journal.met opens) in
      let meets_too = subst (λ (z : Document). MeetsJournal z q.base q.history old other q.ended) other_is (second.over.journal.met opens) in
      let m : p.ended ≡ said w = task_wrong p.ended w a good (subst (λ r. IsAnswerTo r p.ended) is (meets.opened told).answer) first.fine in
      let n : q.ended ≡ said w = task_wrong q.ended w b better (subst (λ r. IsAnswerTo r q.ended) is (meets_too.opened told).answer) second.fine in
      (m ∙ sym n, ap (task_text task p.base p.generation) m ∙ said_text task p.base q.base p.generation q.generation w ∙ ap (task_text task q.base q.generation) (sym n))

  no_ok : (refusal status : Status) → refusal_of_deploy deploy ≡ Some refusal → status ≡ refusal → status ≢ statuses.Ok
  no_ok refusal status is same fine = refusal_not_ok deploy (is ∙ ap (λ (s : Status). Some s) (sym same ∙ fine))

  task_same : (opens : Opens words) (task : Task) → Tends words task → (o : Option Status) → refusal_of_deploy deploy ≡ o → IsTask task p.base p.generation (Some deploy) p.history p.text p.ended → IsTask task q.base q.generation (Some deploy) q.history q.text q.ended
      → (p.ended ≡ q.ended) × (task_text task p.base p.generation p.ended ≡ task_text task q.base q.generation q.ended)
  task_same opens task tends (Some refusal) is x y =
      let m = unopened opens refusal is one p first x.comes x.barred in
      let n = unopened opens refusal is other q second y.comes y.barred in
      (m ∙ sym n, ap (task_text task p.base p.generation) (m ∙ sym n) ∙ bad_task task q.ended p.base q.base p.generation q.generation (no_ok refusal q.ended is n))
  task_same opens task tends None is x y =
      let good = barred_good deploy p.ended x.barred is in
      let better = barred_good deploy q.ended y.barred is in
      task_found opens task tends first.over.document refl (documents opens (early_task p.ended x.comes good) (early_task q.ended y.comes better)) (found first.over.document old) refl x.none y.none x.comes y.comes good better

  by_asked : (c : Command) → command_of words ≡ Some c → Asked c → (p.stood ≡ q.stood) × (p.history ≡ q.history) × (p.text ≡ q.text)
  by_asked c is (Check checks) =
      let asks : command_of words ≡ Some commands.Check = is ∙ ap (λ (d : Command). Some d) checks in
      let x = first.over.run.checks asks in
      let y = second.over.run.checks asks in
      let two = one_check deploy p.text q.text p.ended q.ended (checked_as deploy p.text p.ended x.comes x.prints first.fine) (checked_as deploy q.text q.ended y.comes y.prints second.fine) in
      (first.stands ∙ two.0 ∙ sym second.stands, x.none ∙ sym y.none, two.1)
  by_asked c is (Gen seed count gens) =
      let asks : command_of words ≡ Some (commands.Gen seed count) = is ∙ ap (λ (d : Command). Some d) gens in
      let x = first.over.run.generates seed count asks in
      let y = second.over.run.generates seed count asks in
      let two = one_generated deploy p.text q.text seed count p.ended q.ended (generated_as deploy p.text seed count p.ended x.comes x.prints first.fine) (generated_as deploy q.text seed count q.ended y.comes y.prints second.fine) in
      (first.stands ∙ two.0 ∙ sym second.stands, x.none ∙ sym y.none, two.1)
  by_asked c is (Tend task tends) =
      let asks : command_of words ≡ Some (command_of_task task) = is ∙ ap (λ (d : Command). Some d) tends in
      let x = first.over.run.tends task asks in
      let y = second.over.run.tends task asks in
      let two = task_same (tends_open words task asks) task asks (refusal_of_deploy deploy) refl x y in
      (first.stands ∙ two.0 ∙ sym second.stands, x.none ∙ sym y.none, x.prints ∙ two.1 ∙ sym y.prints)
  by_asked c is (Play mode steps plays) =
      let asks : command_of words ≡ Some (command_for mode steps) = is ∙ ap (λ (d : Command). Some d) plays in
      let opens = plays_open words mode steps asks in
      let x = first.over.run.plays mode steps asks in
      let y = second.over.run.plays mode steps asks in
      equal reports.Trace (first.over.bare opens told) (second.over.bare opens told)
      (play_same opens (λ task tends. no_play words (command_of_task task) mode steps tends (task_apart task).0 (task_apart task).1 asks) mode steps (refusal_of deploy bytes) refl x.comes (first.over.run.alone mode steps asks) y.comes (second.over.run.alone mode steps asks)) x.prints y.prints
  by_asked c is (Trial seed count tries) =
      let asks : command_of words ≡ Some (commands.Trial seed count) = is ∙ ap (λ (d : Command). Some d) tries in
      let opens : Opens words = record { command = commands.Trial seed count; asks = asks; opening = tt } in
      let x = first.over.run.tries seed count asks in
      let y = second.over.run.tries seed count asks in
      equal reports.Summary (first.over.bare opens told) (second.over.bare opens told)
      (trial_same opens (no_task words (commands.Trial seed count) asks (λ e. cc) (λ e. cc)) seed count (refusal_of_deploy deploy) x.comes y.comes) x.prints y.prints

  by_command : (o : Option Command) → command_of words ≡ o → option_and_then crew_of o ≡ None → (p.stood ≡ q.stood) × (p.history ≡ q.history) × (p.text ≡ q.text)
  by_command None is one =
      let x = first.over.run.bad is in
      let y = second.over.run.bad is in
      (first.stands ∙ x.same ∙ sym y.same ∙ sym second.stands, x.none ∙ sym y.none, x.alone ∙ sym y.alone)
  by_command (Some c) is one = by_asked c is (asked c one)

pub determined : (old one other : DiskState) (words : List (List ℕ)) (deploy bytes : List ℕ) (p q : Outcome) → crew_in words ≡ None → IsTrue old.told → IsRunOver words deploy bytes old one p → IsRunOver words deploy bytes old other q
    → (IsByFault p.stood → ⊥) → (IsByFault q.stood → ⊥) → (p.stood ≡ q.stood) × (p.history ≡ q.history) × (p.text ≡ q.text)
determined old one other words deploy bytes p q alone told first second fine good =
    by_command old one other words deploy bytes p q told (fine_run words deploy bytes old one p first fine) (fine_run words deploy bytes old other q second good) (command_of words) refl alone
