-- What a run leaves on its disk, by what its container keeps.
use Rattle.std.proofs.Common.{◌≡◌, ◌≢◌, ◌⊎◌, inl, inr, ℕ, ◌≤◌, List, [], ◌∷◌, ◌++◌, length, length-append, take, drop, true, false, refl, sym, ◌∙◌, ap, subst, append-nil, Option, Some, None, Result, Ok, Err, IsOk, IsTrue, arith}
use Rattle.std.proofs.lemmas.Bool.{cases_Bool}
use Rattle.std.proofs.lemmas.List.{take_all, take-append-drop, length-take-le}
use mathlib.Core.List.{IsPrefix}
use Rattle.slee_disk.specs.Causes.{Rose}
use Rattle.slee_disk.specs.Sides.{Sides}
use Rattle.slee_disk.specs.Disk.{DiskState, is_clean}
use Rattle.slee_disk.proofs.Moments.{leaves_start, now_since, clean_told, clean_only}
use Rattle.commit_journal.specs.declared.format.Format.{Format}
use Rattle.commit_journal.specs.declared.format.Format.TheVariants.{One, Two}
use Rattle.commit_journal.specs.declared.stage.Stage.TheVariants.{Found}
use Rattle.commit_journal.specs.Reading.{Kept, Wrong, recovered}
use Rattle.commit_journal.specs.Spelling.{records_size}
use Rattle.commit_journal.proofs.Sizes.{records_size-more}
use Rattle.router_state.specs.State.{State}
use Rattle.router_steps.specs.Histories.{replay}
use Rattle.trace_history.specs.declared.entry.Entry.{Entry}
use Rattle.router_durable.specs.declared.fault.Stop.{Stop}
use Rattle.router_durable.specs.declared.fault.Stop.TheVariants as stops
use Rattle.router_durable.specs.declared.fault.OpenFault.{OpenFault}
use Rattle.router_durable.specs.declared.fault.OpenFault.TheVariants as faults
use Rattle.router_durable.specs.Anew.{is_anew, kept_left, left_by, is_first, size_anew}
use Rattle.router_durable.specs.Recovery.{restart, records, records_of}
use Rattle.router_durable.specs.Opening.{IsOpenCause, IsRefused, IsSmall, IsUntouched, IsUntouchedFor, IsLeftAlone, Opens, StandsFor}
use Rattle.router_durable.proofs.Opens.{leaves_same}
use Rattle.router_durable.specs.Core.{is_down, IsStopOf, IsHeld}
use Rattle.router_durable.specs.Facts.{Origin, base_of, origin_over, records_since, size_after, RestartsIn, StandsBefore, HasRecords, HasRecordsOrMore}
use Rattle.slee_container.specs.Container.{Setup, View, held_in, IsKept}
use Rattle.slee_run.specs.Given.{Document}
use Rattle.slee_run.specs.Headline.{IsHistory}
use Rattle.slee_run.specs.Opening.{journal_limit, found, IsAnswerTo, IsEarly, IsOpened, IsUntouchedAt, IsGood}
use Rattle.slee_run.specs.Stops.{left_on, records_behind, size_behind, RestartsAfter, RestartsSomewhere, IsBegun, IsSettled, IsKeptNow, IsUnbegun, IsUnopened, MeetsJournal, KeepsJournal, ShowsJournal, CompactsJournal}
use Rattle.slee_run.specs.Playing.{stop_of, status_after}
use Rattle.slee_run.specs.Answers.{status_of}
use Rattle.slee_run.specs.declared.playing.End.{End}
use Rattle.slee_run.specs.declared.playing.End.TheVariants as ends
use Rattle.slee_run.specs.declared.status.Status.{Status}
use Rattle.slee_run.specs.declared.status.Status.TheVariants as statuses

-- ---- nothing was played

-- the state that was found, or another
abbrev pub or_start : State → Result State Wrong → State
or_start s (Ok found) = found
or_start s (Err wrong) = s

-- the state from which nothing is played
abbrev pub base_on : Document → DiskState → State
base_on x disk = or_start x.start (found x disk)

pub no_history : (base : State) (status : Status) → IsHistory base [] [] status
no_history base status = record { legal = tt; front = ([], refl); whole = λ up. refl }

-- behind a side that is written anew there are no records
none_left : (bytes : List ℕ) (base : State) (r : Result (Option Kept) Wrong) → IsTrue (is_anew r) → (kept_left bytes base r).payloads ≡ []
none_left bytes base (Err wrong) anew = absurd (cc)
none_left bytes base (Ok None) anew = refl
none_left bytes base (Ok (Some kept)) anew = by kept.head.format anew
  where
    by : (f : Format) → IsTrue (is_first f) → (left_by base Found kept f).payloads ≡ []
    by One first = refl
    by Two first = absurd (cc)

pub stands_somewhere : (x : Document) (old : DiskState) (base : State) (image : Sides) → StandsFor x.start x.bytes base old.seen image → RestartsSomewhere x old base [] image
stands_somewhere x old base image stands = by stands.records
  where
    by : (records x.bytes image ≡ records x.bytes old.seen) ⊎ (IsTrue (is_anew (recovered x.bytes old.seen)) × (records x.bytes image ≡ [])) → RestartsSomewhere x old base [] image
    by (inl same) = inr (record { state = stands.state; records = same })
    by (inr none) = inl (record {
      part = [];
      front = ([], refl);
      some = omega arith;
      state = stands.state;
      records = none.1 ∙ sym (append-nil (left_on x old base).payloads ∙ none_left x.bytes base (recovered x.bytes old.seen) none.0);
    })

seen_stands : (x : Document) (d : DiskState) (base : State) (image : Sides) → found x d ≡ Ok base → image ≡ d.seen → StandsFor x.start x.bytes base d.seen image
seen_stands x d base image is same = record { state = ap (restart x.start x.bytes) same ∙ is; records = inl (ap (records x.bytes) same) }

still : (d : DiskState) → IsUntouched d d
still d = record { told = refl; seen = refl; images = λ image now. now; settled = λ side is. is }

pub alone_still : (d : DiskState) → IsLeftAlone d d
alone_still d = record { untouched = still d; moments = leaves_start d d.images (λ image now. now) }

early_answer : (bytes : Result State Wrong) (status : Status) → IsEarly status → IsAnswerTo bytes status
early_answer bytes statuses.Ok early = absurd early
early_answer bytes statuses.BadWords early = tt
early_answer bytes statuses.ReadFault early = tt
early_answer bytes statuses.WriteFault early = absurd early
early_answer bytes statuses.DiskFault early = absurd early
early_answer bytes (statuses.BadJournal side at kind) early = absurd early
early_answer bytes (statuses.OtherDeployment kept_len place) early = absurd early
early_answer bytes (statuses.Full size adding) early = absurd early
early_answer bytes (statuses.StepsSpent entries) early = absurd early
early_answer bytes statuses.NoMemory early = tt
early_answer bytes (statuses.BadDeploy fault) early = tt
early_answer bytes (statuses.BadSignals line kind) early = tt
early_answer bytes (statuses.TooLarge what) early = tt

early_untouched : (d : DiskState) (status : Status) → IsEarly status → IsUntouchedAt status d d
early_untouched d statuses.Ok early = absurd early
early_untouched d statuses.BadWords early = still d
early_untouched d statuses.ReadFault early = still d
early_untouched d statuses.WriteFault early = absurd early
early_untouched d statuses.DiskFault early = absurd early
early_untouched d (statuses.BadJournal side at kind) early = absurd early
early_untouched d (statuses.OtherDeployment kept_len place) early = absurd early
early_untouched d (statuses.Full size adding) early = absurd early
early_untouched d (statuses.StepsSpent entries) early = absurd early
early_untouched d statuses.NoMemory early = tt
early_untouched d (statuses.BadDeploy fault) early = still d
early_untouched d (statuses.BadSignals line kind) early = still d
early_untouched d (statuses.TooLarge what) early = still d

early_full : (status : Status) → IsEarly status → (size adding : ℕ) → status ≡ statuses.Full size adding → ⊥
early_full status early size adding full = subst IsEarly full early

begins : (start : State) (bytes : Result State Wrong) (status : Status) → IsAnswerTo bytes status → IsOpened bytes (or_start start bytes) [] status
begins start bytes status answer = record { from = λ s is. ap (or_start start) is; none = λ wrong is. refl; answer = answer }

early_ended : (status : Status) → IsEarly status → IsGood status → status ≢ statuses.NoMemory → ⊥
early_ended statuses.Ok early good more = early
early_ended statuses.BadWords early good more = good
early_ended statuses.ReadFault early good more = good
early_ended statuses.WriteFault early good more = good
early_ended statuses.DiskFault early good more = good
early_ended (statuses.BadJournal side at kind) early good more = good
early_ended (statuses.OtherDeployment kept_len place) early good more = good
early_ended (statuses.Full size adding) early good more = early
early_ended (statuses.StepsSpent entries) early good more = early
early_ended statuses.NoMemory early good more = more refl
early_ended (statuses.BadDeploy fault) early good more = good
early_ended (statuses.BadSignals line kind) early good more = good
early_ended (statuses.TooLarge what) early good more = good

early_up : (status : Status) → IsEarly status → status ≢ statuses.DiskFault
early_up status early is = subst IsEarly is early

module _ (x : Document) (d : DiskState) (status : Status) (early : IsEarly status) where
  -- the disk wasn't touched
  pub untouched_met : MeetsJournal x (base_on x d) [] d d status
  untouched_met = record {
    opened = λ told. begins x.start (found x d) status (early_answer (found x d) status early);
    untouched = early_untouched d status early;
    alone = λ told wrong is. alone_still d;
    failed = λ is. absurd (early_up status early is);
  }

  unopened : (is : found x d ≡ Ok (base_on x d)) → IsUnopened x (base_on x d) [] d d status
  unopened is = record {
    none = refl;
    untouched = λ up. still d;
    stays = leaves_same (recovered x.bytes d.seen) d d (λ image now. now);
    now = λ clean image now. stands_somewhere x d (base_on x d) image (seen_stands x d (base_on x d) image is (clean_only d clean image now));
  }

  pub untouched : KeepsJournal x (base_on x d) [] [] d d status
  untouched = record {
    safe = λ clean is image since.
        let leaves = leaves_start d (StandsFor x.start x.bytes (base_on x d) d.seen) (λ image now. seen_stands x d (base_on x d) image is (clean_only d clean image now)) in
        stands_somewhere x d (base_on x d) image (leaves.each image since);
    held = λ told is. inr (unopened is);
    settled = λ told is begun. absurd (early_ended status early begun.good begun.remembered);
    sized = λ told is. record {
      full = λ size adding is_full. absurd (early_full status early size adding is_full);
      room = inl refl;
      begun = λ begun anew. absurd (early_ended status early begun.good begun.remembered);
    };
  }

  pub untouched_shows : ShowsJournal x (base_on x d) d d status
  untouched_shows = record { keeps = untouched; full = λ told is size adding is_full. absurd (early_full status early size adding is_full) }

  pub untouched_compacts : status ≢ statuses.Ok → (generation : ℕ) → CompactsJournal x (base_on x d) generation d d status
  untouched_compacts fine generation = record {
    moments = λ clean is image since.
        let leaves = leaves_start d (StandsFor x.start x.bytes (base_on x d) d.seen) (λ image now. seen_stands x d (base_on x d) image is (clean_only d clean image now)) in
        (leaves.each image since).state;
    now = λ told is. inr (unopened is);
    done = λ told is ok. absurd (fine ok);
    kept = λ told is other up. inr (still d);
    full = λ told is size adding is_full. absurd (early_full status early size adding is_full);
  }

-- ---- what is left behind is what stood, unless it is written anew

abbrev pub IsCurrent : Document → DiskState → Type 0
IsCurrent x d = (recovered x.bytes d.seen ≡ Ok None) ⊎ (is_anew (recovered x.bytes d.seen) ≡ false)

pub left_records : (x : Document) (d : DiskState) (base : State) → IsCurrent x d → (left_on x d base).payloads ≡ records x.bytes d.seen
left_records x d base current = by (recovered x.bytes d.seen) current
  where
    by_format : (kept : Kept) (f : Format) → is_first f ≡ false → (left_by base Found kept f).payloads ≡ kept.payloads
    by_format kept One is = absurd (cc)
    by_format kept Two is = refl

    by : (r : Result (Option Kept) Wrong) → (r ≡ Ok None) ⊎ (is_anew r ≡ false) → (kept_left x.bytes base r).payloads ≡ records_of r
    by (Err wrong) current = refl
    by (Ok None) current = refl
    by (Ok (Some kept)) (inl is) = absurd (cc)
    by (Ok (Some kept)) (inr is) = by_format kept kept.head.format is

-- ---- opening was refused

refused_answer : (x : Document) (old : DiskState) (fault : OpenFault) → IsOpenCause x.start journal_limit x.bytes old.seen fault → IsAnswerTo (found x old) (status_of fault)
refused_answer x old faults.DiskFault cause = tt
refused_answer x old (faults.BadJournal side at kind) cause = cause
refused_answer x old (faults.OtherDeployment kept_len place) cause = cause
refused_answer x old (faults.Full size adding) cause = subst IsOk (sym cause.1) refl
refused_answer x old faults.NoMemory cause = tt

refused_untouched : (old new : DiskState) (fault : OpenFault) → IsUntouchedFor fault old new → IsUntouchedAt (status_of fault) old new
refused_untouched old new faults.DiskFault for = tt
refused_untouched old new (faults.BadJournal side at kind) for = for
refused_untouched old new (faults.OtherDeployment kept_len place) for = for
refused_untouched old new (faults.Full size adding) for = tt
refused_untouched old new faults.NoMemory for = tt

refused_still : (old new : DiskState) (fault : OpenFault) → IsUntouchedFor fault old new → status_of fault ≢ statuses.DiskFault → IsUntouched old new
refused_still old new faults.DiskFault for up = absurd (up refl)
refused_still old new (faults.BadJournal side at kind) for up = for
refused_still old new (faults.OtherDeployment kept_len place) for up = for
refused_still old new (faults.Full size adding) for up = for
refused_still old new faults.NoMemory for up = for

-- what is refused for the size is a side that would be written anew
pub refused_size : (bytes : List ℕ) (fault : OpenFault) → IsSmall journal_limit bytes fault → (size adding : ℕ) → status_of fault ≡ statuses.Full size adding → size ≡ 0
refused_size bytes faults.DiskFault small size adding is = absurd (cc)
refused_size bytes (faults.BadJournal side at kind) small size adding is = absurd (cc)
refused_size bytes (faults.OtherDeployment kept_len place) small size adding is = absurd (cc)
refused_size bytes (faults.Full length_of more) small size adding is = let same : length_of ≡ size = cc in sym same ∙ small.1.0
refused_size bytes faults.NoMemory small size adding is = absurd (cc)

pub one_state : (s t : State) (r : Result State Wrong) → r ≡ Ok s → r ≡ Ok t → s ≡ t
one_state s t r p q = cc (sym p ∙ q)

refused_full : (x : Document) (old : DiskState) (base : State) (fault : OpenFault) → found x old ≡ Ok base → IsOpenCause x.start journal_limit x.bytes old.seen fault → (size adding : ℕ) → status_of fault ≡ statuses.Full size adding → IsUnbegun x base old size adding
refused_full x old base faults.DiskFault is cause size adding full = absurd (cc)
refused_full x old base (faults.BadJournal side at kind) is cause size adding full = absurd (cc)
refused_full x old base (faults.OtherDeployment kept_len place) is cause size adding full = absurd (cc)
refused_full x old base (faults.Full length_of more) is cause size adding full =
    let size_is : length_of ≡ size = cc in
    let adding_is : more ≡ adding = cc in
    let same = one_state cause.0 base (found x old) cause.1 is in
    subst (λ (n : ℕ). IsUnbegun x base old n adding) size_is
    (subst (λ (n : ℕ). IsUnbegun x base old length_of n) adding_is
    (record { anew = cause.2; unwritten = (cause.3.0, cause.3.1 ∙ ap (size_anew x.bytes) same, cause.3.2) }))
refused_full x old base faults.NoMemory is cause size adding full = absurd (cc)

refused_begun : (bytes : List ℕ) (fault : OpenFault) → IsSmall journal_limit bytes fault → IsBegun (status_of fault) → ⊥
refused_begun bytes faults.DiskFault small begun = begun.good
refused_begun bytes (faults.BadJournal side at kind) small begun = begun.good
refused_begun bytes (faults.OtherDeployment kept_len place) small begun = begun.good
refused_begun bytes (faults.Full size adding) small begun = begun.sided adding (ap (λ (n : ℕ). statuses.Full n adding) small.1.0)
refused_begun bytes faults.NoMemory small begun = begun.remembered refl

refused_failed : (old new : DiskState) (fault : OpenFault) → (fault ≡ faults.DiskFault → Rose old.faults new.faults) → status_of fault ≡ statuses.DiskFault → Rose old.faults new.faults
refused_failed old new faults.DiskFault failed is = failed refl
refused_failed old new (faults.BadJournal side at kind) failed is = absurd (cc)
refused_failed old new (faults.OtherDeployment kept_len place) failed is = absurd (cc)
refused_failed old new (faults.Full size adding) failed is = absurd (cc)
refused_failed old new faults.NoMemory failed is = absurd (cc)

pub refused_other : (fault : OpenFault) → status_of fault ≢ statuses.Ok
refused_other faults.DiskFault is = cc
refused_other (faults.BadJournal side at kind) is = cc
refused_other (faults.OtherDeployment kept_len place) is = cc
refused_other (faults.Full size adding) is = cc
refused_other faults.NoMemory is = cc

module _ (x : Document) (old new : DiskState) (fault : OpenFault) (r : IsRefused old new x.start x.bytes journal_limit fault) where
  pub refused_met : MeetsJournal x (base_on x old) [] old new (status_of fault)
  refused_met = record {
    opened = λ told. begins x.start (found x old) (status_of fault) (refused_answer x old fault (r.cause told));
    untouched = refused_untouched old new fault r.untouched;
    alone = r.left_alone;
    failed = refused_failed old new fault r.failed;
  }

  not_opened : (told : IsTrue old.told) (is : found x old ≡ Ok (base_on x old)) → IsUnopened x (base_on x old) [] old new (status_of fault)
  not_opened told is = record {
    none = refl;
    untouched = refused_still old new fault r.untouched;
    stays = r.stays told;
    now = λ clean image now. stands_somewhere x old (base_on x old) image (now_since old new _ (r.any_moment clean (base_on x old) is) image now);
  }

  pub refused : KeepsJournal x (base_on x old) [] [] old new (status_of fault)
  refused = record {
    safe = λ clean is image since. stands_somewhere x old (base_on x old) image ((r.any_moment clean (base_on x old) is).each image since);
    held = λ told is. inr (not_opened told is);
    settled = λ told is begun. absurd (refused_begun x.bytes fault r.small begun);
    sized = λ told is. record {
      full = λ size adding full. inr (refl, refused_full x old (base_on x old) fault is (r.cause told) size adding full);
      room = inl refl;
      begun = λ begun anew. absurd (refused_begun x.bytes fault r.small begun);
    };
  }

  pub refused_shows : ShowsJournal x (base_on x old) old new (status_of fault)
  refused_shows = record { keeps = refused; full = λ told is size adding full. refused_full x old (base_on x old) fault is (r.cause told) size adding full }

  pub refused_compacts : (generation : ℕ) → CompactsJournal x (base_on x old) generation old new (status_of fault)
  refused_compacts generation = record {
    moments = λ clean is image since. ((r.any_moment clean (base_on x old) is).each image since).state;
    now = λ told is. inr (not_opened told is);
    done = λ told is ok. absurd (refused_other fault ok);
    kept = λ told is other up. inr (refused_still old new fault r.untouched up);
    full = λ told is size adding full. (refused_full x old (base_on x old) fault is (r.cause told) size adding full).unwritten;
  }

-- ---- a container was opened

pub no_fault : (s : State) (w : Wrong) (r : Result State Wrong) → r ≡ Ok s → r ≡ Err w → ⊥
no_fault s w r p q = cc

pub whole_prefix : (part history : List Entry) → IsPrefix part history → length history ≤ length part → part ≡ history
whole_prefix part history front all = by front.0 front.1
  where
    by : (more : List Entry) → part ++ more ≡ history → part ≡ history
    by [] is = sym (append-nil part) ∙ is
    by (e ∷ more) is = absurd (omega (arith, all, ap length is, length-append part (e ∷ more)))

good_up : (status : Status) → IsGood status → status ≢ statuses.DiskFault
good_up status good is = subst IsGood is good

-- a side that stands has bytes
pub no_size : (x : Document) (old : DiskState) (base : State) (history : List Entry) → 0 ≡ size_behind x old base history → ⊥
no_size x old base history is = omega (arith, is)

-- What is known of a container's origin, by what its journal was opened over.
pub record GoesOver (x : Document) (old : DiskState) (o : Origin) : Type 0 where
  pub told : IsTrue old.told → IsTrue o.told
  pub clean : IsTrue (is_clean old) → IsTrue o.clean
  pub whole : o.torn ≡ false
  pub moment : o.moment ≡ old.moment
  pub faults : o.faults ≡ old.faults
  pub initial : o.initial ≡ x.start
  pub deployed : o.deployment ≡ x.bytes
  pub base : IsTrue old.told → found x old ≡ Ok (base_of o)
  pub before : IsTrue old.told → o.before ≡ records x.bytes old.seen
  pub found : IsTrue old.told → o.found ≡ (left_on x old (base_of o)).payloads
  pub snapshot : IsTrue old.told → o.snapshot ≡ (left_on x old (base_of o)).head.snapshot
  pub fits : IsTrue old.told → IsTrue (is_anew (recovered x.bytes old.seen)) → size_anew x.bytes (base_of o) ≤ journal_limit

-- the same of a container that was opened, whatever was done with it since
pub goes_over : {D : Type 0} (x : Document) (old now : DiskState) (first last : View D) → Opens old now x.start x.bytes journal_limit (held_in first) → last.setup ≡ first.setup → GoesOver x old last.setup.origin
goes_over x old now first last opens same = record {
  told = λ is. subst IsTrue (sym (ap (λ (o : Origin). o.told) over)) is;
  clean = λ is. subst IsTrue (sym (ap (λ (o : Origin). o.clean) over)) is;
  whole = ap (λ (o : Origin). o.torn) over;
  moment = ap (λ (o : Origin). o.moment) over;
  faults = ap (λ (o : Origin). o.faults) over;
  initial = ap (λ (o : Origin). o.initial) over;
  deployed = ap (λ (o : Origin). o.deployment) over;
  base = λ told. opens.state told ∙ ap (λ (s : State). Ok s) base_first;
  before = λ told. ap (λ (o : Origin). o.before) origin_first ∙ opens.before told;
  found = λ told. ap (λ (o : Origin). o.found) origin_first ∙ (opens.left told).found ∙ ap (λ (s : State). (left_on x old s).payloads) base_first;
  snapshot = λ told. ap (λ (o : Origin). o.snapshot) origin_first ∙ (opens.left told).snapshot ∙ ap (λ (s : State). (left_on x old s).head.snapshot) base_first;
  fits = λ told anew. subst (λ (s : State). size_anew x.bytes s ≤ journal_limit) base_first (opens.fits told anew);
}
  where
    origin_first : last.setup.origin ≡ first.setup.origin
    origin_first = ap (λ (u : Setup). u.origin) same

    over : last.setup.origin ≡ origin_over x.start x.bytes old first.setup.origin
    over = origin_first ∙ opens.origin

    base_first : replay (base_of first.setup.origin) first.history ≡ base_of last.setup.origin
    base_first = ap (replay (base_of first.setup.origin)) opens.history ∙ sym (ap base_of origin_first)

module _ {D : Type 0} (disk_of : D → DiskState) (x : Document) (old : DiskState) (last : View D) (status : Status)
    (over : GoesOver x old last.setup.origin) (kept_last : IsKept (disk_of last.disk) last)
    (down : is_down last.stop ≡ true → status ≡ statuses.DiskFault) (fell : status ≡ statuses.DiskFault → last.stop ≡ Some stops.DiskFault)
    (whole : is_down last.stop ≡ false → last.acked ≡ length last.history)
    (full : (size adding : ℕ) → status ≡ statuses.Full size adding → last.stop ≡ Some (stops.Full size adding))
    (answer : IsOk (found x old) → IsAnswerTo (found x old) status) (late : IsUntouchedAt status old (disk_of last.disk))
    (room : IsTrue last.setup.origin.told → (last.history ≡ []) ⊎ (size_after last.setup.origin last.history ≤ journal_limit)) where
  abbrev origin : Origin
  origin = last.setup.origin

  abbrev acked : List Entry
  acked = take last.acked last.history

  kept : IsHeld (disk_of last.disk) (held_in last)
  kept = kept_last.held

  stands : status ≢ statuses.DiskFault → is_down last.stop ≡ false
  stands up = elim (cases_Bool (is_down last.stop)) [
    | inl is_fallen ↦ absurd (up (down is_fallen))
    | inr stays ↦ stays
  ]

  least : length acked ≡ last.acked
  least = length-take-le last.acked last.history kept.acked

  restart_is : (image : Sides) → restart origin.initial origin.deployment image ≡ restart x.start x.bytes image
  restart_is image = ap (λ (s : State). restart s origin.deployment image) over.initial ∙ ap (λ (d : List ℕ). restart x.start d image) over.deployed

  records_are : (image : Sides) → records origin.deployment image ≡ records x.bytes image
  records_are image = ap (λ (d : List ℕ). records d image) over.deployed

  behind : IsTrue old.told → (history : List Entry) → origin.found ++ records_since origin history ≡ records_behind x old (base_of origin) history
  behind told history = ap (λ (ps : List (List ℕ)). ps ++ records_since origin history) (over.found told)

  after : IsTrue old.told → (m n : ℕ) (image : Sides) → n ≤ m → RestartsIn origin last.history m image → RestartsAfter x old (base_of origin) last.history n image
  after told m n image fewer r = record {
    part = r.part;
    front = r.front;
    some = omega (arith, fewer, r.some);
    state = sym (restart_is image) ∙ r.state;
    records = sym (records_are image) ∙ r.records ∙ behind told r.part;
  }

  -- the records of so many entries
  has : IsTrue old.told → (n : ℕ) (image : Sides) → HasRecords origin last.history n image → records x.bytes image ≡ records_behind x old (base_of origin) (take n last.history)
  has told n image is =
      sym (records_are image) ∙ is ∙ ap (λ (ps : List (List ℕ)). ps ++ records_since origin (take n last.history)) (kept.counted (over.told told)) ∙ behind told (take n last.history)

  has_or_more : IsTrue old.told → (image : Sides) → HasRecordsOrMore origin last.history last.acked image
      → (records x.bytes image ≡ records_behind x old (base_of origin) acked) ⊎ (records x.bytes image ≡ records_behind x old (base_of origin) last.history)
  has_or_more told image (inl few) = inl (has told last.acked image few)
  has_or_more told image (inr all) = inr (has told (length last.history) image all ∙ ap (records_behind x old (base_of origin)) (take_all (length last.history) last.history (omega arith)))

  again_from : RestartsIn origin last.history last.acked (disk_of last.disk).seen → last.acked ≡ length last.history → found x (disk_of last.disk) ≡ Ok (replay (base_of origin) acked)
  again_from r all =
      let part : r.part ≡ last.history = whole_prefix r.part last.history r.front (omega (arith, all, r.some)) in
      let both : acked ≡ last.history = take_all last.acked last.history (omega (arith, all)) in
      sym (restart_is (disk_of last.disk).seen) ∙ r.state ∙ ap (λ (h : List Entry). Ok (replay (base_of origin) h)) (part ∙ sym both)

  size_is : IsTrue old.told → size_after origin last.history ≡ size_behind x old (base_of origin) last.history
  size_is told = omega (
    arith,
    kept.sized (over.told told),
    ap length over.deployed,
    ap length (over.snapshot told),
    ap records_size (over.found told),
    records_size-more (left_on x old (base_of origin)).payloads (records_since origin last.history),
  )

  fitted : IsTrue old.told → (last.history ≡ []) ⊎ (size_after origin last.history ≤ journal_limit) → (last.history ≡ []) ⊎ (size_behind x old (base_of origin) last.history ≤ journal_limit)
  fitted told (inl nothing) = inl nothing
  fitted told (inr within) = inr (omega (arith, size_is told, within))

  sized : (size adding : ℕ) → IsTrue old.told → IsStopOf origin last.setup.journal last.history (disk_of last.disk) (Some (stops.Full size adding))
      → size ≡ size_behind x old (base_of origin) last.history
  sized size adding told cause = cause.1.stands (over.told told) ∙ size_is told

  settled : IsTrue old.told → status ≢ statuses.DiskFault → IsSettled x (base_of origin) acked old (disk_of last.disk)
  settled told up = record {
    rest = kept.rest (over.told told) (stands up);
    records = has told last.acked (disk_of last.disk).seen (kept.records (over.told told) (stands up));
    again = again_from (kept.again (over.told told) (stands up)) (whole (stands up));
    current = ap (λ (d : List ℕ). is_anew (recovered d (disk_of last.disk).seen)) (sym over.deployed) ∙ kept.current (over.told told) (stands up);
  }

  kept_now : IsTrue old.told → IsKeptNow x (base_of origin) last.history acked old (disk_of last.disk) status
  kept_now told = record {
    now = λ image left. after told last.acked (length acked) image (omega (arith, least)) (kept.safe.now (over.told told) over.whole image left);
    batch = λ image left. has_or_more told image (kept.batch (over.told told) over.whole image left);
    kept = settled told;
  }

  moment : IsTrue old.told → (image : Sides) → RestartsIn origin last.history 0 image ⊎ StandsBefore origin image → RestartsSomewhere x old (base_of origin) last.history image
  moment told image (inl r) = inl (after told 0 0 image (omega arith) r)
  moment told image (inr stands) = inr (record { state = sym (restart_is image) ∙ stands.state; records = sym (records_are image) ∙ stands.records ∙ over.before told })

  pub met : MeetsJournal x (base_of origin) last.history old (disk_of last.disk) status
  met = record {
    opened = λ told. record {
      from = λ s is. one_state (base_of origin) s (found x old) (over.base told) is;
      none = λ wrong is. absurd (no_fault (base_of origin) wrong (found x old) (over.base told) is);
      answer = answer (subst IsOk (sym (over.base told)) refl);
    };
    untouched = late;
    alone = λ told wrong is. absurd (no_fault (base_of origin) wrong (found x old) (over.base told) is);
    failed = λ is. subst (λ (n : ℕ). Rose n (disk_of last.disk).faults) over.faults (subst (λ (s : Option Stop). IsStopOf origin last.setup.journal last.history (disk_of last.disk) s) (fell is) kept.cause);
  }

  pub keeps : KeepsJournal x (base_of origin) last.history acked old (disk_of last.disk) status
  keeps = record {
    safe = λ clean at image since. moment (clean_told old clean) image (kept.safe.since (over.clean clean) over.whole image (subst (λ t. (disk_of last.disk).since t image) (sym over.moment) since));
    held = λ told is. inl (kept_now told);
    settled = λ told is begun. settled told (good_up status begun.good);
    sized = λ told is. record {
      full = λ size adding is_full. inl (sized size adding told (subst (λ (s : Option Stop). IsStopOf origin last.setup.journal last.history (disk_of last.disk) s) (full size adding is_full) kept.cause));
      room = fitted told (room (over.told told));
      begun = λ begun anew. over.fits told anew;
    };
  }

  pub stop_size : IsTrue old.told → (size adding : ℕ) → last.stop ≡ Some (stops.Full size adding) → size ≡ size_behind x old (base_of origin) last.history
  stop_size told size adding is = sized size adding told (subst (λ (s : Option Stop). IsStopOf origin last.setup.journal last.history (disk_of last.disk) s) is kept.cause)

  pub history_kept : IsHistory (base_of origin) last.history acked status
  history_kept = record {
    legal = kept.legal;
    front = (drop last.acked last.history, take-append-drop last.acked last.history);
    whole = λ up. take_all last.acked last.history (omega (arith, whole (stands up)));
  }

-- the status of an end
pub end_answer : (bytes : Result State Wrong) (entries : ℕ) (e : End) → IsOk bytes → IsAnswerTo bytes (status_after entries e)
end_answer bytes entries ends.Done ok = ok
end_answer bytes entries ends.Spent ok = ok
end_answer bytes entries (ends.Full size adding) ok = ok
end_answer bytes entries ends.DiskFault ok = tt
end_answer bytes entries ends.NoMemory ok = tt

pub end_late : (old new : DiskState) (entries : ℕ) (e : End) → IsUntouchedAt (status_after entries e) old new
end_late old new entries ends.Done = tt
end_late old new entries ends.Spent = tt
end_late old new entries (ends.Full size adding) = tt
end_late old new entries ends.DiskFault = tt
end_late old new entries ends.NoMemory = tt

pub end_down : (entries : ℕ) (e : End) → is_down (stop_of e) ≡ true → status_after entries e ≡ statuses.DiskFault
end_down entries ends.Done fell = cc
end_down entries ends.Spent fell = cc
end_down entries (ends.Full size adding) fell = cc
end_down entries ends.DiskFault fell = refl
end_down entries ends.NoMemory fell = cc

pub end_full : (entries : ℕ) (e : End) (size adding : ℕ) → status_after entries e ≡ statuses.Full size adding → stop_of e ≡ Some (stops.Full size adding)
end_full entries ends.Done size adding is = absurd cc
end_full entries ends.Spent size adding is = absurd cc
end_full entries (ends.Full length more) size adding is = cc
end_full entries ends.DiskFault size adding is = absurd cc
end_full entries ends.NoMemory size adding is = absurd cc

pub end_fell : (entries : ℕ) (e : End) → status_after entries e ≡ statuses.DiskFault → stop_of e ≡ Some stops.DiskFault
end_fell entries ends.Done is = absurd cc
end_fell entries ends.Spent is = absurd cc
end_fell entries (ends.Full size adding) is = absurd cc
end_fell entries ends.DiskFault is = refl
end_fell entries ends.NoMemory is = absurd cc
