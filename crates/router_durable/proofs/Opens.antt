-- A router that was just opened.
use Rattle.std.proofs.Common.{◌≡◌, ◌≢◌, ◌⊎◌, ⊎_elim, inl, inr, ℕ, ◌+◌, ◌<◌, ◌≤◌, ◌^◌, List, [], ◌∷◌, ◌++◌, length, map, Bool, true, false, if◌then◌else◌, refl, sym, ◌∙◌, ap, subst, append-nil, Option, Some, None, Result, Ok, Err, IsTrue, arith}
use Rattle.std.specs.Str.{bytes_eq}
use Rattle.std.proofs.lemmas.Slice.Eq.{bytes_eq-Decides}
use mathlib.Core.List.{IsPrefix}
use Rattle.slee_disk.specs.declared.side.Side.{Side}
use Rattle.slee_disk.specs.declared.side.Side.TheVariants.{A}
use Rattle.slee_disk.specs.Causes.{Rose}
use Rattle.slee_disk.specs.Sides.{Sides, on, other}
use Rattle.slee_disk.specs.Disk.{DiskState, Looks, LeavesOnly, is_clean}
use Rattle.slee_disk.proofs.Moments.{leaves_then, leaves_what, leaves_call, clean_told}
use Rattle.commit_journal.specs.declared.stage.Stage.{Stage}
use Rattle.commit_journal.specs.declared.stage.Stage.TheVariants.{Ready, Found}
use Rattle.commit_journal.specs.declared.stage.Stage.TheVariants as stages
use Rattle.commit_journal.specs.declared.format.Format.{Format}
use Rattle.commit_journal.specs.declared.format.Format.TheVariants.{One, Two}
use Rattle.commit_journal.specs.declared.record.Record.{Record}
use Rattle.commit_journal.specs.declared.fault.BeginFault.{BeginFault}
use Rattle.commit_journal.specs.declared.fault.JournalFault.{JournalFault}
use Rattle.commit_journal.specs.declared.fault.JournalFault.TheVariants as journal_faults
use Rattle.commit_journal.specs.Beginning.{MayLeave, size_left}
use Rattle.commit_journal.specs.Reading.{Kept, Wrong, Bad, recovered, first_gate, front}
use Rattle.commit_journal.specs.Spelling.{Head, format_number, spelled, size}
use Rattle.commit_journal.specs.Kept.{StandsIn, IsWhole, Keeps, Stands, side_renewed, renewed}
use Rattle.commit_journal.specs.Journal.{View, payloads_on, IsOpenedAs, IsDurable, StaysClean, size_begun}
use Rattle.commit_journal.specs.Views.{payload_of, located, kept_first, IsCause}
use Rattle.commit_journal.proofs.Pending.{leaves_itself, leaves_look, leaves_more}
use Rattle.commit_journal.proofs.Sizes.{length-stands}
use Rattle.commit_journal.proofs.Sound.{payloads_on_stands}
use Rattle.commit_journal.proofs.Spelled.{front_again}
use Rattle.deploy_model.specs.Deployed.{Deployed}
use Rattle.script_types.specs.Program.{Program}
use Rattle.trace_history.specs.declared.entry.Entry.{Entry}
use Rattle.router_core.specs.States.{IsOwn}
use Rattle.router_laws_kept.specs.Kept.{CanBeKept, IsKeepable}
use Rattle.router_laws_kept.proofs.Keeping.{kept_again}
use Rattle.router_state.specs.Initial.{initial}
use Rattle.router_state.specs.Restoring.{snapshot_text, state_of_snapshot}
use Rattle.router_state.specs.Snapshot.{spelled_state}
use Rattle.router_state.specs.State.{State}
use Rattle.router_steps.specs.Histories.{replay}
use Rattle.slee_descriptor.specs.declared.deployment.Deployment.{Deployment as Served}
use Rattle.router_durable.specs.declared.fault.OpenFault.{OpenFault}
use Rattle.router_durable.specs.declared.fault.OpenFault.TheVariants as faults
use Rattle.router_durable.specs.Anew.{size_anew, is_first, is_anew, left_by, kept_left, IsFullAnew}
use Rattle.router_durable.specs.Choices.{after_all, written_format}
use Rattle.router_durable.specs.Compacting.{Compacts}
use Rattle.router_durable.specs.Core.{Held, IsSound, IsSoundWith}
use Rattle.router_durable.specs.declared.fault.Stop.{Stop}
use Rattle.router_durable.specs.Facts.{AreRead, Origin, origin_of, told_on, snapshot_in, snapshot_on, base_of, records_since, RestartsIn, StandsBefore}
use Rattle.router_durable.specs.Opening.{fault_of, IsOpenCause, IsReplayCause, IsSmall, IsUntouched, IsUntouchedFor, IsLeftAlone, IsRefused, LeavesAs, LeavesOf, Leaves, Opens, StandsFor}
use Rattle.router_durable.specs.Recovery.{misfit, choices_in, Past, unless_misfit, past_from, past_on, past_of, past, end_of, restart, records_of, records}
use Rattle.router_durable.specs.Replaying.{Replays}
use Rattle.router_durable.specs.Taking.{start_left, records_left, kept_taken, size_taken, LeavesTaken, StandsOrTaken, Takes, IsShort, IsTaken, IsLarge, IsNotTaken}
use Rattle.router_durable.proofs.Recovers.{payloads_located, past_again}
use Rattle.router_durable.proofs.Replays.{read_from, replayed_kept, replayed_deployment, replayed_program}
use Rattle.router_durable.proofs.Steps.{prefix_refl, held, is_held}

-- ---- what the bytes of a disk stand for, by the journal that was opened

module _ {D : Type 0} (d : Deployed) (p : Program) (deployment : List ℕ) (sides : Sides) (v : View D) (opened : IsOpenedAs deployment (recovered deployment sides) v)
    (are : v.records ≡ located (first_gate v.kept.head) v.kept.payloads) where
  abbrev state_zero : State
  state_zero = initial d p

  pub payloads_are : map payload_of v.records ≡ v.kept.payloads
  payloads_are = ap (map payload_of) are ∙ payloads_located (first_gate v.kept.head) v.kept.payloads

  none_of : v.kept ≡ kept_first deployment → v.records ≡ []
  none_of is = are ∙ ap (λ (k : Kept). located (first_gate k.head) k.payloads) is

  past_blank : v.kept ≡ kept_first deployment → past_on state_zero v.kept.side v.kept.head v.records ≡ Ok (record { start = state_zero; choices = [] })
  past_blank is =
      let one : past_on state_zero v.kept.side v.kept.head v.records ≡ past_on state_zero A (kept_first deployment).head v.records = ap (λ (k : Kept). past_on state_zero k.side k.head v.records) is in
      let two : past_on state_zero A (kept_first deployment).head v.records ≡ past_on state_zero A (kept_first deployment).head [] = ap (past_on state_zero A (kept_first deployment).head) (none_of is) in
      let three : past_on state_zero A (kept_first deployment).head [] ≡ Ok (record { start = state_zero; choices = [] }) = refl in
      one ∙ two ∙ three

  past_by : past state_zero deployment sides ≡ past_on state_zero v.kept.side v.kept.head v.records
  past_by = ⊎_elim
      (λ x. let read : past state_zero deployment sides ≡ past_of state_zero (Ok (Some v.kept)) = ap (past_of state_zero) x.1 in read ∙ ap (past_on state_zero v.kept.side v.kept.head) (sym are))
      (λ x. let read : past state_zero deployment sides ≡ past_of state_zero (Ok None) = ap (past_of state_zero) x.1 in read ∙ sym (past_blank x.2))
      opened

  pub records_by : records deployment sides ≡ map payload_of v.records
  records_by = ⊎_elim
      (λ x. ap records_of x.1 ∙ sym payloads_are)
      (λ x. ap records_of x.1 ∙ sym (ap (map payload_of) (none_of x.2)))
      opened

  pub state_by : (start s : State) → Replays d p v.kept.head v.records start s → restart state_zero deployment sides ≡ Ok s
  state_by start s replays =
      let n = format_number v.kept.head.format in
      ap end_of past_by
      ∙ ap (λ (x : Option State). end_of (past_from v.kept.side n v.records x)) replays.started
      ∙ ap (λ m. end_of (unless_misfit v.kept.side m (record { start = start; choices = choices_in n (map payload_of v.records) }))) replays.fits
      ∙ ap (λ (t : State). Ok t) (sym replays.state)

  pub fault_by : (wrong : Wrong) → past_on state_zero v.kept.side v.kept.head v.records ≡ Err wrong → restart state_zero deployment sides ≡ Err wrong
  fault_by wrong is = ap end_of (past_by ∙ is)

  -- sides that stand for the same are read as the same
  pub stands_same : (image : Sides) → v.kept.head.deployment ≡ deployment → Stands v.stage v.kept image → recovered deployment image ≡ recovered deployment sides
  stands_same image named stands = ⊎_elim
      (λ x.
      let keeps : Keeps v.kept image = subst (λ (s : Stage). Stands s v.kept image) x.0 stands in
      subst (λ (b : List ℕ). recovered b image ≡ Ok (Some v.kept)) named keeps ∙ sym x.1)
      (λ x.
      let blank : recovered v.kept.head.deployment image ≡ Ok None = subst (λ (s : Stage). Stands s v.kept image) x.0 stands in
      subst (λ (b : List ℕ). recovered b image ≡ Ok None) named blank ∙ sym x.1)
      opened

-- ---- what is kept then

-- What stands on a side of the second format behind the opening: its snapshot stands for the start, and behind its records is the
-- state.
pub record Based (d : Deployed) (p : Program) (deployment : List ℕ) (s start : State) (head : Head) (rs : List Record) : Type 0 where
  pub based : state_of_snapshot written_format d p head.snapshot ≡ Some start
  pub read : AreRead start (map payload_of rs)
  pub state : s ≡ after_all start (choices_in written_format (map payload_of rs))
  pub format : head.format ≡ Two
  pub named : head.deployment ≡ deployment

-- a snapshot that is written stands for the state
pub text_stands : (d : Deployed) (p : Program) (s : State) → CanBeKept s → s.deployment ≡ d → s.program ≡ p → IsShort s One → state_of_snapshot written_format d p (snapshot_text written_format s) ≡ Some s
text_stands d p s kept deployed programmed short =
    let text = snapshot_text written_format s in
    ap (λ (e : Deployed). state_of_snapshot written_format e p text) (sym deployed)
    ∙ ap (λ (q : Program). state_of_snapshot written_format s.deployment q text) (sym programmed)
    ∙ kept_again written_format s kept short

pub alone_based : (d : Deployed) (p : Program) (deployment : List ℕ) (s : State) (head : Head) → head.format ≡ Two → head.deployment ≡ deployment → state_of_snapshot written_format d p head.snapshot ≡ Some s → Based d p deployment s s head []
alone_based d p deployment s head format named based = record {
  based = based;
  read = record { given = tt; enabled = tt; again = tt; spelled = refl };
  state = refl;
  format = format;
  named = named;
}

based_left : (d : Deployed) (p : Program) (deployment : List ℕ) (stage : Stage) (kept : Kept) (rs : List Record) (start s : State) → kept.head.deployment ≡ deployment → Replays d p kept.head rs start s
    → CanBeKept s → s.deployment ≡ d → s.program ≡ p → IsShort s kept.head.format
    → Based d p deployment s (start_left s start kept.head.format) (left_by s stage kept kept.head.format).head (records_left rs kept.head.format)
based_left d p deployment stage kept rs start s named replays can deployed programmed = by kept.head.format refl
  where
    by : (f : Format) → kept.head.format ≡ f → IsShort s f → Based d p deployment s (start_left s start f) (left_by s stage kept f).head (records_left rs f)
    by One is short = alone_based d p deployment s (left_by s stage kept One).head refl named (text_stands d p s can deployed programmed short)
    by Two is short = record {
      based = ap (λ (f : Format). state_of_snapshot (format_number f) d p kept.head.snapshot) (sym is) ∙ replays.started;
      read = read_from start rs (ap (λ (f : Format). misfit (format_number f) start rs) (sym is) ∙ replays.fits);
      state = replays.state ∙ ap (λ (f : Format). after_all start (choices_in (format_number f) (map payload_of rs))) is;
      format = is;
      named = named;
    }

-- sides that keep it stand for the state, and have its records
pub based_stands : (d : Deployed) (p : Program) (deployment : List ℕ) (s start : State) (head : Head) (rs : List Record) → Based d p deployment s start head rs → (kept : Kept) (image : Sides) → kept.head ≡ head → kept.payloads ≡ map payload_of rs
    → Keeps kept image → (restart (initial d p) deployment image ≡ Ok s) × (records deployment image ≡ map payload_of rs)
based_stands d p deployment s start head rs based kept image same are keeps =
    let cs = choices_in written_format (map payload_of rs) in
    let is : recovered deployment image ≡ Ok (Some kept) = subst (λ (b : List ℕ). recovered b image ≡ Ok (Some kept)) (ap (λ (h : Head). h.deployment) same ∙ based.named) keeps in
    let past_is = past_again (initial d p) start deployment image kept cs is (ap (λ (h : Head). state_of_snapshot written_format d p h.snapshot) same ∙ based.based) (ap (λ (h : Head). h.format) same ∙ based.format)
    (are ∙ based.read.spelled) based.read.again based.read.given based.read.enabled in
    (ap end_of past_is ∙ ap (λ (t : State). Ok t) (sym based.state), ap records_of is ∙ are)

-- the records that stand then are those that are kept then
left_payloads : (s : State) (stage : Stage) (kept : Kept) (rs : List Record) (f : Format) → map payload_of rs ≡ kept.payloads → map payload_of (records_left rs f) ≡ (left_by s stage kept f).payloads
left_payloads s stage kept rs One is = refl
left_payloads s stage kept rs Two is = is

-- what is kept then, by what reads gave
left_read : {D : Type 0} (deployment : List ℕ) (s : State) (read : Result (Option Kept) Wrong) (v : View D) → IsOpenedAs deployment read v → kept_taken s v ≡ kept_left deployment s read
left_read {D} deployment s read v opened = ⊎_elim
    (λ x. ap (λ (g : Stage). left_by s g v.kept v.kept.head.format) x.0 ∙ sym (ap (kept_left deployment s) x.1))
    (λ x. ap (λ (k : Kept). left_by s v.stage k k.head.format) x.2 ∙ sym (ap (kept_left deployment s) x.1))
    opened

-- ---- a side that ends with its last gate

told_bytes : (told : Bool) (bytes : List ℕ) → IsTrue told → (if told then bytes else []) ≡ bytes
told_bytes true bytes is = refl
told_bytes false bytes is = absurd (cc is)

text_on_stands : (kept : Kept) (at : ℕ) (tail : List ℕ) (sides : Sides) → StandsIn kept at tail sides → snapshot_on (on kept.side sides) ≡ kept.head.snapshot
text_on_stands kept at tail sides stands = ap snapshot_in (ap front stands.here ∙ front_again kept.head kept.payloads stands.gate tail stands.fits_head)

-- ---- the facts of a router over a side that counts, and of which nothing is pending

-- a router that begins there, before its first step
module _ {D : Type 0} (disk_of : D → DiskState) (d : Deployed) (p : Program) (deployment : List ℕ) (s start : State) (w : View D) (opened : D) (read : List Record)
    (keepable : CanBeKept s) (based : Based d p deployment s start w.kept.head w.records) (stage : w.stage ≡ Ready) (batch : w.batch ≡ []) where
  abbrev pub origin : Origin
  origin = origin_of disk_of (initial d p) deployment opened read start w false

  abbrev was : DiskState
  was = disk_of opened

  abbrev now : DiskState
  now = disk_of w.disk

  pub keeps_restarts : (kept : Kept) (image : Sides) → kept.head ≡ w.kept.head → kept.payloads ≡ map payload_of w.records → Keeps kept image → RestartsIn origin [] 0 image
  keeps_restarts kept image head are keeps =
      let stands = based_stands d p deployment s start w.kept.head w.records based kept image head are keeps in
      record {
        part = [];
        front = prefix_refl [];
        some = omega arith;
        state = stands.0 ∙ ap (λ (t : State). Ok t) based.state;
        records = stands.1 ∙ sym (append-nil (map payload_of w.records));
      }

  module _ (told : IsTrue was.told → IsTrue now.told) (durable : IsTrue was.told → IsDurable w.kept now) (payloads : IsTrue was.told → w.kept.payloads ≡ map payload_of w.records)
      (later : IsTrue (is_clean was) → was.moment ≤ now.moment) (rising : was.faults ≤ now.faults)
      (since : IsTrue (is_clean was) → (image : Sides) → now.since was.moment image → RestartsIn origin [] 0 image ⊎ StandsBefore origin image) where
    bytes : IsTrue was.told → origin.counting ≡ on w.kept.side now.seen
    bytes is = told_bytes now.told (on w.kept.side now.seen) (told is)

    abbrev last_gate : ℕ
    last_gate = length (spelled w.kept.head w.kept.payloads)

    pub fresh_sound : IsSound w now origin [] 0 None
    fresh_sound = record {
      legal = tt;
      again = tt;
      found = based.read;
      based = based.based;
      keepable = subst CanBeKept based.state keepable;
      named = based.named;
      stands = refl;
      format = based.format;
      stage = λ up. stage;
      batch = λ up. batch;
      within = omega arith;
      tells = clean_told was;
      kept = λ is up. payloads is ∙ sym (append-nil (map payload_of w.records));
      seen = λ is up. (durable is).seen;
      rest = λ is up. (durable is).clean;
      whole = λ up. refl;
      left = λ is whole down. absurd (cc down);
      counted = λ is. ap payloads_on (bytes is) ∙ payloads_on_stands w.kept last_gate [] now.seen (durable is).whole ∙ payloads is;
      text = λ is. ap snapshot_on (bytes is) ∙ text_on_stands w.kept last_gate [] now.seen (durable is).whole;
      sized = λ is. ap length (bytes is) ∙ length-stands w.kept last_gate now.seen (durable is).whole ∙ ap (size w.kept.head) (payloads is);
      safe = record {
        told = told;
        later = later;
        since = λ clean whole. since clean;
        now = λ is whole image left. keeps_restarts w.kept image refl (payloads is) ((durable is).images image left);
      };
      faults = rising;
      cause = tt;
    }

    pub fresh_sound_with : (b : Served) (t : State) → t ≡ s → IsOwn b t → IsSoundWith w now origin [] 0 None b t
    fresh_sound_with b t is own = record { sound = fresh_sound; state = is ∙ based.state; own = own }

-- what the side keeps then
pub leaves_kept : {D : Type 0} (disk_of : D → DiskState) (begin : State) (deployment : List ℕ) (opened : D) (read : List Record) (start : State) (w : View D) (torn : Bool) (kept : Kept) → w.kept ≡ kept → w.kept.head.deployment ≡ deployment
    → map payload_of w.records ≡ kept.payloads → IsTrue (disk_of w.disk).told → IsDurable w.kept (disk_of w.disk) → Leaves deployment kept (disk_of w.disk).seen (origin_of disk_of begin deployment opened read start w torn)
leaves_kept {D} disk_of begin deployment opened read start w torn kept is named are told durable = record {
  keeps = subst (λ (b : List ℕ). recovered b (disk_of w.disk).seen ≡ Ok (Some w.kept)) named durable.seen ∙ ap (λ (k : Kept). Ok (Some k)) is;
  snapshot = ap (λ (k : Kept). k.head.snapshot) is;
  found = are;
  counting = told_bytes (disk_of w.disk).told (on w.kept.side (disk_of w.disk).seen) told ∙ ap (λ (k : Kept). on k.side (disk_of w.disk).seen) is;
}

pub front_none : (part : List Entry) → IsPrefix part [] → part ≡ []
front_none [] front = refl
front_none (e ∷ es) front = let never : e ∷ (es ++ front.0) ≡ [] = front.1 in absurd (cc never)

-- ---- a crash in the opening

-- what opening a journal says of the disk
pub record Opened {D : Type 0} (disk_of : D → DiskState) (old : DiskState) (deployment : List ℕ) (j : View D) : Type 0 where
  pub opened : IsTrue old.told → IsOpenedAs deployment (recovered deployment old.seen) j
  pub records : IsTrue old.told → j.records ≡ located (first_gate j.kept.head) j.kept.payloads
  pub named : j.kept.head.deployment ≡ deployment
  pub plain : j.stage ≡ stages.Blank → j.kept.head.snapshot ≡ []
  pub seen : IsTrue old.told → Stands j.stage j.kept old.seen
  pub looks : Looks old (disk_of j.disk) ⊥
  pub stays : IsTrue (is_clean old) → StaysClean old (disk_of j.disk)
  pub idle : j.batch ≡ []

-- what was seen is left until then
pub restart_left : (first : State) (old new : DiskState) (deployment : List ℕ) (s : State) → LeavesOnly old new (λ image. image ≡ old.seen) → restart first deployment old.seen ≡ Ok s → LeavesOnly old new (StandsFor first deployment s old.seen)
restart_left first old new deployment s leaves is =
    leaves_what old new _ _ leaves (λ image same. record { state = ap (restart first deployment) same ∙ is; records = inl (ap (records deployment) same) })

-- ---- nothing was written

pub looks_untouched : (old new : DiskState) (failed : Type 0) → Looks old new failed → IsUntouched old new
looks_untouched old new failed looks = record { told = looks.passes.told; seen = looks.seen; images = looks.images; settled = looks.settled }

pub looks_alone : (old new : DiskState) (failed : Type 0) → Looks old new failed → IsLeftAlone old new
looks_alone old new failed looks = record {
  untouched = looks_untouched old new failed looks;
  moments = leaves_call old new old.images failed (λ image now. now) looks.passes looks.images;
}

leaves_of : (kept : Kept) (f : Format) (old new : DiskState) → ((image : Sides) → new.images image → old.images image) → LeavesOf kept f old new
leaves_of kept One old new same = leaves_itself (other kept.side) 0 old new same
leaves_of kept Two old new same = leaves_itself kept.side (size kept.head kept.payloads) old new same

-- nothing else may be left than before
pub leaves_same : (read : Result (Option Kept) Wrong) (old new : DiskState) → ((image : Sides) → new.images image → old.images image) → LeavesAs read old new
leaves_same (Err wrong) old new same = same
leaves_same (Ok None) old new same = leaves_itself A 0 old new same
leaves_same (Ok (Some kept)) old new same = leaves_of kept kept.head.format old new same

-- of what was read so much is left alone
leaves_taken : (stage : Stage) (kept : Kept) (f : Format) (old mid new : DiskState) → Looks old mid ⊥ → LeavesTaken stage kept f mid new → LeavesTaken stage kept f old new
leaves_taken stage kept One old mid new looks leaves = leaves_more (side_renewed stage kept.side) 0 old mid new (leaves_look (side_renewed stage kept.side) 0 old mid ⊥ looks) leaves
leaves_taken stage kept Two old mid new looks leaves = leaves_more kept.side (size_left stage kept) old mid new (leaves_look kept.side (size_left stage kept) old mid ⊥ looks) leaves

leaves_found : (kept : Kept) (f : Format) (old new : DiskState) → LeavesTaken Found kept f old new → LeavesOf kept f old new
leaves_found kept One old new leaves = leaves
leaves_found kept Two old new leaves = leaves

leaves_read : {D : Type 0} (deployment : List ℕ) (read : Result (Option Kept) Wrong) (v : View D) (old mid new : DiskState) → IsOpenedAs deployment read v → Looks old mid ⊥
    → LeavesTaken v.stage v.kept v.kept.head.format mid new → LeavesAs read old new
leaves_read {D} deployment read v old mid new opened looks leaves =
    let all = leaves_taken v.stage v.kept v.kept.head.format old mid new looks leaves in
    ⊎_elim
    (λ x. subst (λ (r : Result (Option Kept) Wrong). LeavesAs r old new) (sym x.1)
    (leaves_found v.kept v.kept.head.format old new (subst (λ (g : Stage). LeavesTaken g v.kept v.kept.head.format old new) x.0 all)))
    (λ x. subst (λ (r : Result (Option Kept) Wrong). LeavesAs r old new) (sym x.1)
    (subst (λ (k : Kept). LeavesTaken stages.Blank k k.head.format old new) x.2 (subst (λ (g : Stage). LeavesTaken g v.kept v.kept.head.format old new) x.0 all)))
    opened

begun_blank : (stage : Stage) (head : Head) (limit : ℕ) → limit < size_begun stage head → stage ≡ stages.Blank
begun_blank stages.Blank head limit above = refl
begun_blank stages.Found head limit above = absurd (omega (arith, above))
begun_blank stages.Ready head limit above = absurd (omega (arith, above))
begun_blank stages.Stopped head limit above = absurd (omega (arith, above))

-- a side is refused for its size: that of the state, or of the first one
abbrev FullBy : List ℕ → State → State → ℕ → Stage → Format → ℕ → ℕ → Type 0
FullBy deployment first s limit stage f size adding = ((f ≡ One) × IsFullAnew limit deployment s size adding) ⊎ ((stage ≡ stages.Blank) × IsFullAnew limit deployment first size adding)

-- the first state has no bytes
first_text : (d : Deployed) (p : Program) → snapshot_text written_format (initial d p) ≡ []
first_text d p =
    let bytes = spelled_state written_format (initial d p) in
    ap (λ b. if b then [] else bytes) ((bytes_eq-Decides bytes bytes).1 refl)

-- a side that is written anew, by its size
size_first : (d : Deployed) (p : Program) (deployment : List ℕ) (head : Head) → head.deployment ≡ deployment → head.snapshot ≡ [] → size head [] ≡ size_anew deployment (initial d p)
size_first d p deployment head named plain = omega (arith, ap length named, ap length plain, ap length (first_text d p))

size_renewed : (deployment : List ℕ) (s : State) (stage : Stage) (kept : Kept) → kept.head.deployment ≡ deployment → size (left_by s stage kept One).head [] ≡ size_anew deployment s
size_renewed deployment s stage kept named = omega (arith, ap length named)

untouched_then : (a b c : DiskState) → IsUntouched a b → IsUntouched b c → IsUntouched a c
untouched_then a b c one two = record {
  told = two.told ∙ one.told;
  seen = two.seen ∙ one.seen;
  images = λ image now. one.images image (two.images image now);
  settled = λ side is. two.settled side (one.settled side is);
}

untouched_for : (fault : OpenFault) (a b c : DiskState) → IsUntouched a b → IsUntouchedFor fault b c → IsUntouchedFor fault a c
untouched_for faults.DiskFault a b c one two = tt
untouched_for (faults.BadJournal side at kind) a b c one two = untouched_then a b c one two
untouched_for (faults.OtherDeployment kept_len place) a b c one two = untouched_then a b c one two
untouched_for (faults.Full size adding) a b c one two = untouched_then a b c one two
untouched_for faults.NoMemory a b c one two = untouched_then a b c one two

module _ {D : Type 0} (disk_of : D → DiskState) (a : D) (d : Deployed) (p : Program) (keepable : IsKeepable d p) (deployment : List ℕ) (j : View D) (o : Opened disk_of (disk_of a) deployment j)
    (start s : State) (replays : Replays d p j.kept.head j.records start s) (w : View D) (takes : Takes disk_of s j w) where
  abbrev old_disk : DiskState
  old_disk = disk_of a

  abbrev now_disk : DiskState
  now_disk = disk_of w.disk

  abbrev zero_state : State
  zero_state = initial d p

  told_there : IsTrue old_disk.told → IsTrue (disk_of j.disk).told
  told_there told = subst IsTrue (sym o.looks.passes.told) told

  can : CanBeKept s
  can = replayed_kept d p keepable j.kept.head j.records start s replays

  pub state_found : IsTrue old_disk.told → restart zero_state deployment old_disk.seen ≡ Ok s
  state_found told = state_by d p deployment old_disk.seen j (o.opened told) (o.records told) start s replays

  -- what stands as before
  module _ (told : IsTrue old_disk.told) (image : Sides) (stands : Stands j.stage j.kept image) where
    same_read : recovered deployment image ≡ recovered deployment old_disk.seen
    same_read = stands_same d p deployment old_disk.seen j (o.opened told) (o.records told) image o.named stands

    pub state_before : restart zero_state deployment image ≡ Ok s
    state_before = ap (λ (r : Result (Option Kept) Wrong). end_of (past_of zero_state r)) same_read ∙ state_found told

    pub records_before : records deployment image ≡ records deployment old_disk.seen
    records_before = ap records_of same_read

  -- a side that is taken over stands for the state
  module _ (short : IsShort s j.kept.head.format) where
    based_then : Based d p deployment s (start_left s start j.kept.head.format) (kept_taken s j).head (records_left j.records j.kept.head.format)
    based_then =
        based_left d p deployment j.stage j.kept j.records start s o.named replays can (replayed_deployment d p keepable j.kept.head j.records start s replays)
        (replayed_program d p keepable j.kept.head j.records start s replays) short

    payloads_then : IsTrue old_disk.told → map payload_of (records_left j.records j.kept.head.format) ≡ (kept_taken s j).payloads
    payloads_then told = left_payloads s j.stage j.kept j.records j.kept.head.format (payloads_are d p deployment old_disk.seen j (o.opened told) (o.records told))

  anew_first : j.kept.head.format ≡ One → IsTrue old_disk.told → IsTrue (is_anew (recovered deployment old_disk.seen))
  anew_first is told = ⊎_elim
      (λ x. ap is_anew x.1 ∙ ap is_first is)
      (λ x. ap is_anew x.1)
      (o.opened told)

  anew_blank : j.stage ≡ stages.Blank → IsTrue old_disk.told → IsTrue (is_anew (recovered deployment old_disk.seen))
  anew_blank blank told = ⊎_elim
      (λ x. let never : Found ≡ stages.Blank = sym x.0 ∙ blank in absurd (cc never))
      (λ x. ap is_anew x.1)
      (o.opened told)

  -- by which format it is
  records_stand : (f : Format) → j.kept.head.format ≡ f → IsTrue old_disk.told → (image : Sides) → records deployment image ≡ (left_by s j.stage j.kept f).payloads
      → (records deployment image ≡ records deployment old_disk.seen) ⊎ (IsTrue (is_anew (recovered deployment old_disk.seen)) × (records deployment image ≡ []))
  records_stand One is told image are = inr (anew_first is told, are)
  records_stand Two is told image are = inl (are ∙ sym (payloads_are d p deployment old_disk.seen j (o.opened told) (o.records told)) ∙ sym (records_by d p deployment old_disk.seen j (o.opened told) (o.records told)))

  taken_stands : IsTrue old_disk.told → (image : Sides) → StandsOrTaken s j image → StandsFor zero_state deployment s old_disk.seen image
  taken_stands told image stands = ⊎_elim
      (λ before. record { state = state_before told image before; records = inl (records_before told image before) })
      (λ taken.
      let stood = based_stands d p deployment s (start_left s start j.kept.head.format) (kept_taken s j).head (records_left j.records j.kept.head.format) (based_then taken.0) (kept_taken s j) image refl
      (sym (payloads_then taken.0 told)) taken.1 in
      record { state = stood.0; records = records_stand j.kept.head.format refl told image (stood.1 ∙ payloads_then taken.0 told) })
      stands

  -- from the opening's start on
  all_leaves : IsTrue (is_clean old_disk) → LeavesOnly old_disk now_disk (StandsOrTaken s j)
  all_leaves clean =
      leaves_then old_disk (disk_of j.disk) now_disk (StandsOrTaken s j)
      (leaves_what old_disk (disk_of j.disk) _ _ (o.stays clean).leaves (λ image same. inl (subst (Stands j.stage j.kept) (sym same) (o.seen (clean_told old_disk clean)))))
      (takes.leaves (o.stays clean).clean)

  state_leaves : IsTrue (is_clean old_disk) → LeavesOnly old_disk now_disk (StandsFor zero_state deployment s old_disk.seen)
  state_leaves clean = leaves_what old_disk now_disk _ _ (all_leaves clean) (taken_stands (clean_told old_disk clean))

  -- ---- it is taken over

  module _ (taken : IsTaken disk_of s j w) (limit : ℕ) (limited : j.limit ≡ limit) where
    abbrev start_then : State
    start_then = start_left s start j.kept.head.format

    abbrev pub origin_then : Origin
    origin_then = origin_of disk_of zero_state deployment a j.records start_then w false

    based_now : Based d p deployment s start_then w.kept.head w.records
    based_now =
        subst (λ (h : Head). Based d p deployment s start_then h w.records) (sym taken.head)
        (subst (λ (rs : List Record). Based d p deployment s start_then (kept_taken s j).head rs) (sym taken.records) (based_then taken.short))

    payloads_now : IsTrue old_disk.told → map payload_of w.records ≡ (kept_taken s j).payloads
    payloads_now told = ap (map payload_of) taken.records ∙ payloads_then taken.short told

    kept_now : IsTrue old_disk.told → w.kept ≡ kept_taken s j
    kept_now told = taken.kept (told_there told)

    told_now : IsTrue old_disk.told → IsTrue now_disk.told
    told_now told = subst IsTrue (sym takes.told) (told_there told)

    since_then : IsTrue (is_clean old_disk) → (image : Sides) → now_disk.since old_disk.moment image → RestartsIn origin_then [] 0 image ⊎ StandsBefore origin_then image
    since_then clean image left =
        let told = clean_told old_disk clean in
        ⊎_elim
        (λ before. inr (record {
          state = state_before told image before ∙ ap (λ (t : State). Ok t) based_now.state;
          records = records_before told image before ∙ records_by d p deployment old_disk.seen j (o.opened told) (o.records told);
        }))
        (λ is. inl (keeps_restarts disk_of d p deployment s start_then w a j.records can based_now taken.stage taken.batch (kept_taken s j) image (sym taken.head) (sym (payloads_now told)) is.1))
        ((all_leaves clean).each image left)

    module _ (b : Served) (t : State) (is : t ≡ s) (own : IsOwn b t) where
      pub sound_opened : IsSoundWith w now_disk origin_then [] 0 None b t
      sound_opened =
          fresh_sound_with disk_of d p deployment s start_then w a j.records can based_now taken.stage taken.batch told_now (λ told. taken.durable (told_there told))
          (λ told. ap (λ (k : Kept). k.payloads) (kept_now told) ∙ sym (payloads_now told))
          (λ clean. (all_leaves clean).later) (omega (arith, o.looks.passes.faults, takes.rising)) since_then b t is own

    fits_then : IsTrue old_disk.told → IsTrue (is_anew (recovered deployment old_disk.seen)) → size_anew deployment s ≤ limit
    fits_then told anew = by j.kept.head.format refl taken.fits
      where
        by : (f : Format) → j.kept.head.format ≡ f → size_taken j.stage j.kept f (left_by s j.stage j.kept f) ≤ j.limit → size_anew deployment s ≤ limit
        by One is fits = omega (arith, fits, limited, size_renewed deployment s j.stage j.kept o.named)
        by Two is fits = ⊎_elim
            (λ x. let never : false ≡ true = sym (ap is_anew x.1 ∙ ap is_first is) ∙ anew in absurd (cc never))
            (λ x.
            let first : Ok s ≡ Ok zero_state = sym (state_found told) ∙ ap (λ (r : Result (Option Kept) Wrong). end_of (past_of zero_state r)) x.1 in
            let same : s ≡ zero_state = cc first in
            let sized : size j.kept.head [] ≤ j.limit = subst (λ (g : Stage). size_begun g j.kept.head ≤ j.limit) x.0 fits in
            omega (arith, sized, limited, size_first d p deployment j.kept.head o.named (o.plain x.0), ap (size_anew deployment) same))
            (o.opened told)

    pub opens_then : Opens old_disk now_disk zero_state deployment limit (held origin_then w [] 0 None)
    opens_then = record {
      history = refl;
      acked = refl;
      stop = refl;
      limited = taken.limit ∙ limited;
      origin = refl;
      state = λ told. state_found told ∙ ap (λ (t : State). Ok t) based_now.state;
      before = λ told. sym (records_by d p deployment old_disk.seen j (o.opened told) (o.records told));
      left = λ told.
          let left : kept_taken s j ≡ kept_left deployment (base_of origin_then) (recovered deployment old_disk.seen) =
          left_read deployment s (recovered deployment old_disk.seen) j (o.opened told) ∙ ap (λ (t : State). kept_left deployment t (recovered deployment old_disk.seen)) based_now.state in
          leaves_kept disk_of zero_state deployment a j.records start_then w false _ (kept_now told ∙ left) based_now.named (payloads_now told ∙ ap (λ (k : Kept). k.payloads) left) (told_now told) (taken.durable (told_there told));
      fits = λ told anew. subst (λ (t : State). size_anew deployment t ≤ limit) based_now.state (fits_then told anew);
      any_moment = λ clean. subst (λ (t : State). LeavesOnly old_disk now_disk (StandsFor zero_state deployment t old_disk.seen)) based_now.state (state_leaves clean);
      held = is_held w now_disk origin_then [] 0 None (sound_opened_alone);
    }
      where
        sound_opened_alone : IsSound w now_disk origin_then [] 0 None
        sound_opened_alone =
            fresh_sound disk_of d p deployment s start_then w a j.records can based_now taken.stage taken.batch told_now (λ told. taken.durable (told_there told))
            (λ told. ap (λ (k : Kept). k.payloads) (kept_now told) ∙ sym (payloads_now told))
            (λ clean. (all_leaves clean).later) (omega (arith, o.looks.passes.faults, takes.rising)) since_then

  -- ---- it is refused

  module _ (limit : ℕ) (limited : j.limit ≡ limit) (fault : OpenFault) (refused : IsNotTaken disk_of s j fault w) where
    -- a fault for the size, by which format it is
    full_by : (f : Format) → j.kept.head.format ≡ f → (size_of adding : ℕ) → IsLarge (size_taken j.stage j.kept f (left_by s j.stage j.kept f)) j.limit (faults.Full size_of adding)
        → FullBy deployment (initial d p) s limit j.stage f size_of adding
    full_by One is size_of adding large = inl (refl, (large.0, large.1 ∙ size_renewed deployment s j.stage j.kept o.named, omega (arith, large.1, large.2, limited)))
    full_by Two is size_of adding large =
        let blank = begun_blank j.stage j.kept.head j.limit large.2 in
        let sized : size_begun j.stage j.kept.head ≡ size j.kept.head [] = ap (λ (g : Stage). size_begun g j.kept.head) blank in
        let first = size_first d p deployment j.kept.head o.named (o.plain blank) in
        inr (blank, (large.0, large.1 ∙ sized ∙ first, omega (arith, large.1, large.2, limited)))

    small_then : (fault : OpenFault) → IsLarge (size_taken j.stage j.kept j.kept.head.format (kept_taken s j)) j.limit fault → IsSmall limit deployment fault
    small_then (faults.BadJournal side at kind) large = absurd large
    small_then (faults.OtherDeployment kept_len place) large = absurd large
    small_then (faults.Full size_of adding) large = ⊎_elim (λ x. (s, x.1)) (λ x. (initial d p, x.1)) (full_by j.kept.head.format refl size_of adding large)
    small_then faults.DiskFault large = tt
    small_then faults.NoMemory large = tt

    blank_state : j.stage ≡ stages.Blank → IsTrue old_disk.told → restart zero_state deployment old_disk.seen ≡ Ok zero_state
    blank_state blank told = ⊎_elim {C = restart zero_state deployment old_disk.seen ≡ Ok zero_state}
        (λ x. let never : Found ≡ stages.Blank = sym x.0 ∙ blank in absurd (cc never))
        (λ x.
        let read : restart zero_state deployment old_disk.seen ≡ end_of (past_of zero_state (Ok None)) = ap (λ (r : Result (Option Kept) Wrong). end_of (past_of zero_state r)) x.1 in
        read)
        (o.opened told)

    cause_then : (fault : OpenFault) → IsLarge (size_taken j.stage j.kept j.kept.head.format (kept_taken s j)) j.limit fault → IsTrue old_disk.told → IsOpenCause zero_state limit deployment old_disk.seen fault
    cause_then (faults.BadJournal side at kind) large told = absurd large
    cause_then (faults.OtherDeployment kept_len place) large told = absurd large
    cause_then (faults.Full size_of adding) large told = ⊎_elim
        (λ x. (s, state_found told, anew_first x.0 told, x.1))
        (λ x.
        let first : restart zero_state deployment old_disk.seen ≡ Ok zero_state = blank_state x.0 told in
        (zero_state, first, anew_blank x.0 told, x.1))
        (full_by j.kept.head.format refl size_of adding large)
    cause_then faults.DiskFault large told = tt
    cause_then faults.NoMemory large told = tt

    pub refused_then : IsRefused old_disk now_disk zero_state deployment limit fault
    refused_then = record {
      cause = λ told. cause_then fault refused.cause told;
      small = small_then fault refused.cause;
      failed = λ is. let up = refused.rose is in omega (arith, up, o.looks.passes.faults);
      untouched = untouched_for fault old_disk (disk_of j.disk) now_disk (looks_untouched old_disk (disk_of j.disk) ⊥ o.looks) refused.untouched;
      any_moment = λ clean t is.
          let found : Ok s ≡ Ok t = sym (state_found (clean_told old_disk clean)) ∙ is in
          let same : s ≡ t = cc found in
          subst (λ (u : State). LeavesOnly old_disk now_disk (StandsFor zero_state deployment u old_disk.seen)) same (state_leaves clean);
      stays = λ told. leaves_read deployment (recovered deployment old_disk.seen) j old_disk (disk_of j.disk) now_disk (o.opened told) o.looks (takes.stays (told_there told));
      left_alone = λ told wrong is. let never : Ok s ≡ Err wrong = sym (state_found told) ∙ is in absurd (cc never);
    }

-- ---- a fault for the size

small_of_journal : (limit : ℕ) (deployment : List ℕ) (fault : JournalFault) → IsSmall limit deployment (fault_of fault)
small_of_journal limit deployment journal_faults.DiskFault = tt
small_of_journal limit deployment (journal_faults.BadJournal side at kind) = tt
small_of_journal limit deployment (journal_faults.OtherDeployment kept_len place) = tt
small_of_journal limit deployment journal_faults.NoMemory = tt

small_of_replay : (limit : ℕ) (deployment : List ℕ) (past : Result Past Wrong) (fault : OpenFault) → IsReplayCause past fault → IsSmall limit deployment fault
small_of_replay limit deployment past faults.DiskFault cause = tt
small_of_replay limit deployment past (faults.BadJournal side at kind) cause = tt
small_of_replay limit deployment past (faults.OtherDeployment kept_len place) cause = tt
small_of_replay limit deployment past (faults.Full size adding) cause = absurd cause
small_of_replay limit deployment past faults.NoMemory cause = tt

-- ---- why it isn't opened

-- a fault that isn't the disk's is no reason to ask whether the disk has failed
abbrev IsNotDisk : OpenFault → Type 0
IsNotDisk fault = fault ≡ faults.DiskFault → ⊥

-- what the fault of a journal says of the bytes
cause_of_journal : (first : State) (limit : ℕ) (deployment : List ℕ) (sides : Sides) (fault : JournalFault) → IsCause fault (recovered deployment sides) → IsOpenCause first limit deployment sides (fault_of fault)
cause_of_journal first limit deployment sides journal_faults.DiskFault is = tt
cause_of_journal first limit deployment sides (journal_faults.BadJournal side at kind) is = ap (λ r. end_of (past_of first r)) is
cause_of_journal first limit deployment sides (journal_faults.OtherDeployment kept_len place) is = ap (λ r. end_of (past_of first r)) is
cause_of_journal first limit deployment sides journal_faults.NoMemory is = tt

disk_of_journal : (fault : JournalFault) → fault_of fault ≡ faults.DiskFault → fault ≡ journal_faults.DiskFault
disk_of_journal journal_faults.DiskFault is = refl
disk_of_journal (journal_faults.BadJournal side at kind) is = absurd (cc is)
disk_of_journal (journal_faults.OtherDeployment kept_len place) is = absurd (cc is)
disk_of_journal journal_faults.NoMemory is = absurd (cc is)

-- nothing is written where it isn't the disk's fault
left_for : (fault : OpenFault) (old new : DiskState) → IsUntouched old new → IsUntouchedFor fault old new
left_for faults.DiskFault old new same = tt
left_for (faults.BadJournal side at kind) old new same = same
left_for (faults.OtherDeployment kept_len place) old new same = same
left_for (faults.Full size adding) old new same = same
left_for faults.NoMemory old new same = same

-- the journal isn't opened
pub refused_by_journal : (old new : DiskState) (first : State) (deployment : List ℕ) (limit : ℕ) (fault : JournalFault) → (IsTrue old.told → IsCause fault (recovered deployment old.seen)) → Looks old new (fault ≡ journal_faults.DiskFault)
    → (IsTrue (is_clean old) → StaysClean old new) → IsRefused old new first deployment limit (fault_of fault)
refused_by_journal old new first deployment limit fault cause looks stays = record {
  cause = λ told. cause_of_journal first limit deployment old.seen fault (cause told);
  small = small_of_journal limit deployment fault;
  failed = λ is. looks.passes.cause (disk_of_journal fault is);
  untouched = left_for (fault_of fault) old new (looks_untouched old new (fault ≡ journal_faults.DiskFault) looks);
  any_moment = λ clean s is. restart_left first old new deployment s (stays clean).leaves is;
  stays = λ told. leaves_same (recovered deployment old.seen) old new looks.images;
  left_alone = λ told wrong is. looks_alone old new (fault ≡ journal_faults.DiskFault) looks;
}

-- it is opened, and nothing was written yet
refused_looking : (old new : DiskState) (first : State) (deployment : List ℕ) (limit : ℕ) (fault : OpenFault) → (IsTrue old.told → IsOpenCause first limit deployment old.seen fault) → IsSmall limit deployment fault → IsNotDisk fault
    → Looks old new ⊥ → (IsTrue (is_clean old) → StaysClean old new) → IsRefused old new first deployment limit fault
refused_looking old new first deployment limit fault cause small other looks stays = record {
  cause = cause;
  small = small;
  failed = λ is. absurd (other is);
  untouched = left_for fault old new (looks_untouched old new ⊥ looks);
  any_moment = λ clean s is. restart_left first old new deployment s (stays clean).leaves is;
  stays = λ told. leaves_same (recovered deployment old.seen) old new looks.images;
  left_alone = λ told wrong is. looks_alone old new ⊥ looks;
}

not_by_replay : (past : Result Past Wrong) (fault : OpenFault) → IsReplayCause past fault → IsNotDisk fault
not_by_replay past faults.DiskFault cause is = cause
not_by_replay past (faults.BadJournal side at kind) cause is = cc is
not_by_replay past (faults.OtherDeployment kept_len place) cause is = absurd cause
not_by_replay past (faults.Full size adding) cause is = absurd cause
not_by_replay past faults.NoMemory cause is = cc is

-- what was found isn't replayed
pub refused_by_replay : {D : Type 0} (disk_of : D → DiskState) (old : DiskState) (d : Deployed) (p : Program) (deployment : List ℕ) (limit : ℕ) (v : View D) (o : Opened disk_of old deployment v) (fault : OpenFault)
    → IsReplayCause (past_on (initial d p) v.kept.side v.kept.head v.records) fault → IsRefused old (disk_of v.disk) (initial d p) deployment limit fault
refused_by_replay {D} disk_of old d p deployment limit v o fault cause =
    refused_looking old (disk_of v.disk) (initial d p) deployment limit fault (λ told. by told fault cause) (small_of_replay limit deployment past_is fault cause) (not_by_replay past_is fault cause) o.looks o.stays
  where
    past_is : Result Past Wrong
    past_is = past_on (initial d p) v.kept.side v.kept.head v.records

    by : IsTrue old.told → (fault : OpenFault) → IsReplayCause past_is fault → IsOpenCause (initial d p) limit deployment old.seen fault
    by told faults.DiskFault cause = absurd cause
    by told (faults.BadJournal side at kind) cause = fault_by d p deployment old.seen v (o.opened told) (o.records told) (Bad side at kind) cause
    by told (faults.OtherDeployment kept_len place) cause = absurd cause
    by told (faults.Full size adding) cause = absurd cause
    by told faults.NoMemory cause = tt

-- ---- the fields of the core

pub same_origin : {D : Type 0} (disk_of : D → DiskState) (first : State) (deployment : List ℕ) (x y : D) (j k l m : View D) (s t : State) (torn : Bool) → x ≡ y → j ≡ k → l ≡ m → s ≡ t
    → origin_of disk_of first deployment x j.records s l torn ≡ origin_of disk_of first deployment y k.records t m torn
same_origin {D} disk_of first deployment x y j k l m s t torn p q r e =
    ap (λ (z : D). origin_of disk_of first deployment z j.records s l torn) p
    ∙ ap (λ (v : View D). origin_of disk_of first deployment y v.records s l torn) q
    ∙ ap (λ (v : View D). origin_of disk_of first deployment y k.records s v torn) r
    ∙ ap (λ (u : State). origin_of disk_of first deployment y k.records u m torn) e

pub with_fields : {D : Type 0} (j : View D) (disk : DiskState) (o p : Origin) (h : List Entry) (b : Served) (s : State) → o ≡ p → h ≡ [] → IsSoundWith j disk p [] 0 None b s → IsSoundWith j disk o h 0 None b s
with_fields j disk o p h b s same empty sound =
    subst (λ (x : Origin). IsSoundWith j disk x h 0 None b s) (sym same)
    (subst (λ (x : List Entry). IsSoundWith j disk p x 0 None b s) (sym empty) sound)

pub with_held : {D : Type 0} (old new : DiskState) (first : State) (bytes : List ℕ) (limit : ℕ) (j : View D) (o p : Origin) (h : List Entry) → o ≡ p → h ≡ []
    → Opens old new first bytes limit (held p j [] 0 None) → Opens old new first bytes limit (held o j h 0 None)
with_held old new first bytes limit j o p h same empty opens =
    subst (λ (x : Origin). Opens old new first bytes limit (held x j h 0 None)) (sym same)
    (subst (λ (x : List Entry). Opens old new first bytes limit (held p j x 0 None)) (sym empty) opens)

-- the same over an origin that is the same
pub rebased : {D : Type 0} (j : View D) (disk : DiskState) (o p : Origin) (h : List Entry) (acked : ℕ) (stop : Option Stop) (b : Served) (s : State) → o ≡ p → IsSoundWith j disk p h acked stop b s → IsSoundWith j disk o h acked stop b s
rebased j disk o p h acked stop b s same sound = subst (λ (x : Origin). IsSoundWith j disk x h acked stop b s) (sym same) sound

pub with_origin : {D : Type 0} (before after : DiskState) (old : Held D) (r : Result ℕ BeginFault) (o p : Origin) (j : View D) (h : List Entry) (acked : ℕ) (stop : Option Stop) → o ≡ p
    → Compacts before after old r (held p j h acked stop) → Compacts before after old r (held o j h acked stop)
with_origin before after old r o p j h acked stop same compacts = subst (λ (x : Origin). Compacts before after old r (held x j h acked stop)) (sym same) compacts
