-- A journal that is taken over: begun, or renewed where it is of the first format.
use Rattle.std.proofs.Common.{◌≡◌, ◌≢◌, ◌⊎◌, ⊎_elim, inl, inr, ℕ, ◌<◌, ◌≤◌, List, [], ◌++◌, length, refl, sym, ◌∙◌, ap, subst, append-nil, Result, Ok, Err, IsTrue, arith}
use Rattle.slee_disk.specs.Causes.{Rose}
use Rattle.slee_disk.specs.Sides.{Sides}
use Rattle.slee_disk.specs.Disk.{DiskState, LeavesOnly, is_clean}
use Rattle.slee_disk.proofs.Moments.{leaves_start, leaves_what, clean_only, clean_told}
use Rattle.commit_journal.specs.declared.fault.BeginFault.{BeginFault}
use Rattle.commit_journal.specs.declared.fault.BeginFault.TheVariants as begin_faults
use Rattle.commit_journal.specs.declared.format.Format.{Format}
use Rattle.commit_journal.specs.declared.format.Format.TheVariants.{One, Two}
use Rattle.commit_journal.specs.declared.record.Record.{Record}
use Rattle.commit_journal.specs.declared.stage.Stage.{Stage}
use Rattle.commit_journal.specs.declared.stage.Stage.TheVariants.{Ready}
use Rattle.commit_journal.specs.Beginning.{MayLeave, size_left}
use Rattle.commit_journal.specs.Journal.{View, GoesOn, IsBegun, IsDurable, IsLeft, IsRefusedBegin, IsRefusedRenewal, IsRenewed, IsSameSide, IsTooLarge, LeavesInRenewal, size_begun}
use Rattle.commit_journal.specs.Kept.{Keeps, Stands, StandsOrBegun, StandsOrRenewed, side_renewed, renewed, with_more}
use Rattle.commit_journal.specs.Reading.{Kept}
use Rattle.commit_journal.specs.Spelling.{format_number, size}
use Rattle.commit_journal.proofs.Pending.{leaves_itself}
use Rattle.router_state.specs.Restoring.{snapshot_text}
use Rattle.router_state.specs.State.{State}
use Rattle.router_durable.specs.declared.fault.OpenFault.{OpenFault}
use Rattle.router_durable.specs.declared.fault.OpenFault.TheVariants as faults
use Rattle.router_durable.specs.Anew.{left_by}
use Rattle.router_durable.specs.Choices.{written_format}
use Rattle.router_durable.specs.Opening.{begin_fault_of, IsUntouched, IsUntouchedFor}
use Rattle.router_durable.specs.Taking.{start_left, records_left, kept_taken, size_taken, LeavesTaken, StandsOrTaken, Takes, IsShort, IsTaken, IsLarge, IsNotTaken}

-- ---- which format it is

pub is_two : (f : Format) (n : ℕ) → n ≡ format_number f → n ≡ 2 → f ≡ Two
is_two One n is two = absurd (omega (arith, is, two))
is_two Two n is two = refl

pub is_one : (f : Format) (n : ℕ) → n ≡ format_number f → n ≢ 2 → f ≡ One
is_one One n is other = refl
is_one Two n is other = absurd (other is)

-- the start then
pub start_two : (s start t : State) (f : Format) → f ≡ Two → t ≡ start → t ≡ start_left s start f
start_two s start t f two is = is ∙ sym (ap (start_left s start) two)

pub start_one : (s start t : State) (f : Format) → f ≡ One → t ≡ s → t ≡ start_left s start f
start_one s start t f one is = is ∙ sym (ap (start_left s start) one)

still : (disk : DiskState) → IsUntouched disk disk
still disk = record { told = refl; seen = refl; images = λ image left. left; settled = λ side is. is }

-- what a fault of the journal leaves
left_untouched : {D : Type 0} (disk_of : D → DiskState) (v w : View D) (fault : BeginFault) → IsLeft v w fault → IsUntouchedFor (begin_fault_of fault) (disk_of v.disk) (disk_of w.disk)
left_untouched disk_of v w begin_faults.DiskFault left = tt
left_untouched disk_of v w (begin_faults.Full size_of adding) left = subst (λ (x : View _). IsUntouched (disk_of v.disk) (disk_of x.disk)) (sym left) (still (disk_of v.disk))
left_untouched disk_of v w begin_faults.NoMemory left = subst (λ (x : View _). IsUntouched (disk_of v.disk) (disk_of x.disk)) (sym left) (still (disk_of v.disk))

is_large : (n limit : ℕ) (fault : BeginFault) → IsTooLarge n limit fault → IsLarge n limit (begin_fault_of fault)
is_large n limit begin_faults.DiskFault large = tt
is_large n limit (begin_faults.Full size_of adding) large = large
is_large n limit begin_faults.NoMemory large = tt

device : (fault : BeginFault) → begin_fault_of fault ≡ faults.DiskFault → fault ≡ begin_faults.DiskFault
device begin_faults.DiskFault is = refl
device (begin_faults.Full size_of adding) is = absurd (cc is)
device begin_faults.NoMemory is = absurd (cc is)

-- ---- it is begun

module _ {D : Type 0} (disk_of : D → DiskState) (s : State) (v w : View D) (two : v.kept.head.format ≡ Two) where
  kept_two : kept_taken s v ≡ v.kept
  kept_two = ap (left_by s v.stage v.kept) two

  short_two : IsShort s v.kept.head.format
  short_two = subst (IsShort s) (sym two) tt

  pub begin_takes : (disk_of w.disk).told ≡ (disk_of v.disk).told → (disk_of v.disk).faults ≤ (disk_of w.disk).faults
      → (IsTrue (is_clean (disk_of v.disk)) → LeavesOnly (disk_of v.disk) (disk_of w.disk) (StandsOrBegun v.stage v.kept))
      → (IsTrue (disk_of v.disk).told → MayLeave v.kept.side (size_left v.stage v.kept) (disk_of v.disk) (disk_of w.disk)) → Takes disk_of s v w
  begin_takes told rising leaves stays = record {
    told = told;
    rising = rising;
    leaves = λ clean. leaves_what (disk_of v.disk) (disk_of w.disk) _ _ (leaves clean) (λ image stands. ⊎_elim inl (λ keeps. inr (short_two, subst (λ (k : Kept). Keeps k image) (sym kept_two) keeps)) stands);
    stays = λ is. subst (λ (f : Format). LeavesTaken v.stage v.kept f (disk_of v.disk) (disk_of w.disk)) (sym two) (stays is);
  }

  pub begin_taken : w.stage ≡ Ready → w.batch ≡ [] → IsSameSide v w → size_begun v.stage v.kept.head ≤ v.limit → (IsTrue (disk_of v.disk).told → IsBegun disk_of v w) → IsTaken disk_of s v w
  begin_taken stage batch same fits begun = record {
    stage = stage;
    batch = batch;
    limit = same.limit;
    head = same.head ∙ sym (ap (λ (k : Kept). k.head) kept_two);
    records = same.records ∙ sym (ap (records_left v.records) two);
    short = short_two;
    fits = subst (λ (f : Format). size_taken v.stage v.kept f (kept_taken s v) ≤ v.limit) (sym two) fits;
    kept = λ told. ap (λ (x : View D). x.kept) (begun told).same ∙ sym kept_two;
    durable = λ told. (begun told).durable;
  }

  pub begin_refused : (fault : BeginFault) → IsRefusedBegin v w fault → (fault ≡ begin_faults.DiskFault → Rose (disk_of v.disk).faults (disk_of w.disk).faults) → IsNotTaken disk_of s v (begin_fault_of fault) w
  begin_refused fault refused rose = record {
    cause = subst (λ (f : Format). IsLarge (size_taken v.stage v.kept f (kept_taken s v)) v.limit (begin_fault_of fault)) (sym two) (is_large (size_begun v.stage v.kept.head) v.limit fault refused.cause);
    rose = λ is. rose (device fault is);
    untouched = left_untouched disk_of v w fault refused.left;
  }

-- ---- it is renewed

module _ {D : Type 0} (disk_of : D → DiskState) (s : State) (v w : View D) (one : v.kept.head.format ≡ One) (idle : v.batch ≡ []) where
  -- there is no memory for its text
  pub nothing_takes : (IsTrue (disk_of v.disk).told → Stands v.stage v.kept (disk_of v.disk).seen) → Takes disk_of s v v
  nothing_takes stands = record {
    told = refl;
    rising = omega arith;
    leaves = λ clean. leaves_start (disk_of v.disk) (StandsOrTaken s v) (λ image now. inl (subst (Stands v.stage v.kept) (sym (clean_only (disk_of v.disk) clean image now)) (stands (clean_told (disk_of v.disk) clean))));
    stays = λ is. subst (λ (f : Format). LeavesTaken v.stage v.kept f (disk_of v.disk) (disk_of v.disk)) (sym one) (leaves_itself (side_renewed v.stage v.kept.side) 0 (disk_of v.disk) (disk_of v.disk) (λ image now. now));
  }

  pub nothing_taken : IsNotTaken disk_of s v faults.NoMemory v
  nothing_taken = record { cause = tt; rose = λ is. absurd (cc is); untouched = still (disk_of v.disk) }

  module _ (text : List ℕ) (is_text : text ≡ snapshot_text written_format s) (short : IsShort s One) where
    kept_one : renewed v.stage v.kept text ≡ kept_taken s v
    kept_one = ap (renewed v.stage v.kept) is_text ∙ sym (ap (left_by s v.stage v.kept) one)

    short_one : IsShort s v.kept.head.format
    short_one = subst (IsShort s) (sym one) short

    whole : with_more v.kept v.batch ≡ v.kept
    whole =
        ap (λ (ps : List (List ℕ)). with_more v.kept ps) idle
        ∙ ap (λ (ps : List (List ℕ)). record { side = v.kept.side; head = v.kept.head; payloads = ps }) (append-nil v.kept.payloads)

    either : w.batch ≡ [] → LeavesInRenewal disk_of v text w → LeavesOnly (disk_of v.disk) (disk_of w.disk) (StandsOrRenewed v.stage v.kept text)
    either flushed leaves =
        let left = leaves.flushed flushed in
        subst (λ (k : Kept). LeavesOnly (disk_of v.disk) (disk_of w.disk) (StandsOrRenewed v.stage k text)) whole
        (subst (λ (x : D). LeavesOnly (disk_of x) (disk_of w.disk) (StandsOrRenewed v.stage (with_more v.kept v.batch) text)) (left.at_once idle) left.second)

    pub renewal_takes : w.batch ≡ [] → (disk_of w.disk).told ≡ (disk_of v.disk).told → (disk_of v.disk).faults ≤ (disk_of w.disk).faults
        → (IsTrue (is_clean (disk_of v.disk)) → LeavesInRenewal disk_of v text w) → (v.batch ≡ [] → MayLeave (side_renewed v.stage v.kept.side) 0 (disk_of v.disk) (disk_of w.disk)) → Takes disk_of s v w
    renewal_takes flushed told rising leaves stays = record {
      told = told;
      rising = rising;
      leaves = λ clean. leaves_what (disk_of v.disk) (disk_of w.disk) _ _ (either flushed (leaves clean))
          (λ image stands. ⊎_elim inl (λ keeps. inr (short_one, subst (λ (k : Kept). Keeps k image) kept_one keeps)) stands);
      stays = λ is. subst (λ (f : Format). LeavesTaken v.stage v.kept f (disk_of v.disk) (disk_of w.disk)) (sym one) (stays idle);
    }

    pub renewal_taken : (n : ℕ) → GoesOn v text w n → w.limit ≡ v.limit → size (renewed v.stage v.kept text).head [] ≤ v.limit → (IsTrue (disk_of v.disk).told → IsRenewed disk_of v text w) → IsTaken disk_of s v w
    renewal_taken n goes limit fits renewal = record {
      stage = goes.ready;
      batch = goes.empty;
      limit = limit;
      head = goes.head ∙ ap (λ (k : Kept). k.head) kept_one;
      records = goes.records ∙ sym (ap (records_left v.records) one);
      short = short_one;
      fits = subst (λ (f : Format). size_taken v.stage v.kept f (kept_taken s v) ≤ v.limit) (sym one) (subst (λ (k : Kept). size k.head [] ≤ v.limit) kept_one fits);
      kept = λ told. ap (λ (x : View D). x.kept) (renewal told).same ∙ kept_one;
      durable = λ told. (renewal told).durable;
    }

    pub renewal_refused : (fault : BeginFault) → IsRefusedRenewal v text w fault → (fault ≡ begin_faults.DiskFault → Rose (disk_of v.disk).faults (disk_of w.disk).faults) → IsNotTaken disk_of s v (begin_fault_of fault) w
    renewal_refused fault refused rose = record {
      cause = subst (λ (f : Format). IsLarge (size_taken v.stage v.kept f (kept_taken s v)) v.limit (begin_fault_of fault)) (sym one)
          (subst (λ (k : Kept). IsLarge (size k.head []) v.limit (begin_fault_of fault)) kept_one (is_large (size (renewed v.stage v.kept text).head []) v.limit fault refused.cause));
      rose = λ is. rose (device fault is);
      untouched = left_untouched disk_of v w fault refused.left;
    }

-- nothing waits in the batch, then neither afterwards
pub idle_after : {D : Type 0} (v w : View D) → v.batch ≡ [] → (w.batch ≡ v.batch) ⊎ (w.batch ≡ []) → w.batch ≡ []
idle_after v w idle unwritten = ⊎_elim (λ same. same ∙ idle) (λ none. none) unwritten
