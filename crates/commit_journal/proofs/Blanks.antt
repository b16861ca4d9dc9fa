-- What a crash leaves while a blank side is made one closed gate, or an open side is closed.
use Rattle.std.proofs.Common.{◌≡◌, ◌≢◌, ◌⊎◌, inl, inr, ⊎_elim, ℕ, ◌+◌, ◌≤◌, ◌<◌, eqb, cond, List, [], ◌∷◌, ◌++◌, length, get_or, take, drop, Option, Some, None, refl, sym, ◌∙◌, ap, subst, arith, length-take}
use Rattle.std.proofs.lemmas.Bool.{cases_eq}
use Rattle.std.proofs.lemmas.Bool.Decides.{nat_tests}
use Rattle.std.proofs.lemmas.List.{drop_all}
use Rattle.slee_disk.specs.declared.side.Side.{Side}
use Rattle.slee_disk.specs.Sides.{Sides, on, other, Torn, Cut, Holds, AtSide}
use Rattle.slee_disk.specs.Disk.{DiskState, Looks, Changes, LeavesOnly, Only}
use Rattle.slee_disk.proofs.Moments.{Reached, reached_start, reached_call, reached_look, looks_leave, leaves_then, leaves_what}
use Rattle.commit_journal.specs.Spelling.{Head}
use Rattle.commit_journal.specs.Reading.{header_at, header_or_not, Blank, front}
use Rattle.commit_journal.specs.Gate.{EndsShut, IsShutOrOpen}
use Rattle.commit_journal.specs.Rewriting.{IsRewritten}
use Rattle.commit_journal.specs.Blank.{IsBlankOn, IsOneShut, BlankBeside, IsBlankOrOpen, IsBlankOrSame}

-- ---- blank sides

not_blank : (o : Option (Head × List ℕ)) → header_or_not o ≡ Blank → ⊥
not_blank None e = cc
not_blank (Some x) e = cc

pub blank_long : (bytes : List ℕ) → front bytes ≡ Blank → 1 < length bytes → get_or bytes 0 0 ≢ 1
unfolding front
blank_long [] blank long = absurd (omega arith)
blank_long (g ∷ []) blank long = absurd (omega arith)
blank_long (g ∷ b ∷ bytes) blank long = λ is_open. not_blank (header_at (b ∷ bytes)) (sym (ap (λ t. cond t (header_or_not (header_at (b ∷ bytes))) Blank) (ap (λ n. eqb n 1) is_open)) ∙ blank)

pub blank_short : (bytes : List ℕ) → length bytes ≤ 1 → front bytes ≡ Blank
unfolding front
blank_short [] short = refl
blank_short (g ∷ []) short = refl
blank_short (g ∷ b ∷ bytes) short = absurd (omega arith)

pub blank_shut : (bytes : List ℕ) → get_or bytes 0 0 ≢ 1 → front bytes ≡ Blank
unfolding front
blank_shut [] shut = refl
blank_shut (g ∷ []) shut = refl
blank_shut (g ∷ b ∷ bytes) shut = grind (arith, nat_tests)

first_kept : (s c : List ℕ) → 1 < length s → Cut 1 s c → get_or c 0 0 ≡ get_or s 0 0
first_kept [] c long cut = absurd (omega arith)
first_kept (g ∷ s) [] long cut = absurd (omega (arith, cut.no_shorter))
first_kept (g ∷ s) (h ∷ c) long cut = ap (λ (l : List ℕ). get_or l 0 0) cut.before

-- ---- a blank side is made one closed gate

module _ (side : Side) (old : DiskState) (blank : IsBlankOn side old.seen) where
  abbrev there : List ℕ
  there = on (other side) old.seen

  abbrev P : Sides → Type 0
  P = BlankBeside side there

  module _ (only : Only old.seen old) where
    pub blank_start : Reached old old P
    blank_start = reached_start old P (λ image now.
        let same : image ≡ old.seen = only image now in
        subst P (sym same) (record { blank = blank; elsewhere = refl }))

    -- calls that only look come before
    pub blank_cut : (mid new : DiskState) (f : Type 0) → Reached old mid P → ((image : Sides) → mid.images image → image ≡ old.seen) → 1 < length (on side old.seen) → Changes side (Cut 1) mid new f → Reached old new P
    blank_cut mid new f so_far still long changes = reached_call old mid new P f so_far changes.passes (λ image now.
        let from = changes.images image now in
        let same : from.0 ≡ old.seen = still from.0 from.1 in
        let cut : Cut 1 (on side old.seen) (on side image) = subst (λ (s : Sides). Cut 1 (on side s) (on side image)) same from.2.here in
        let shut : get_or (on side image) 0 0 ≢ 1 = λ is. blank_long (on side old.seen) blank long (sym (first_kept (on side old.seen) (on side image) long cut) ∙ is) in
        record { blank = blank_shut (on side image) shut; elsewhere = from.2.there ∙ ap (on (other side)) same })

    pub blank_write : (mid new : DiskState) (f : Type 0) → Reached old mid P → ((image : Sides) → mid.images image → image ≡ old.seen) → length (on side old.seen) ≤ 1 → Changes side (Torn 0 1) mid new f → Reached old new P
    blank_write mid new f so_far still short changes = reached_call old mid new P f so_far changes.passes (λ image now.
        let from = changes.images image now in
        let same : from.0 ≡ old.seen = still from.0 from.1 in
        let torn : Torn 0 1 (on side old.seen) (on side image) = subst (λ (s : Sides). Torn 0 1 (on side s) (on side image)) same from.2.here in
        record { blank = blank_short (on side image) (omega (arith, torn.no_longer, short)); elsewhere = from.2.there ∙ ap (on (other side)) same })

  pub one_cut : (mid new : Sides) → mid ≡ old.seen → 1 < length (on side old.seen) → AtSide side (λ a b. b ≡ take 1 a) mid new → IsOneShut side there new
  one_cut mid new seen long done =
      let is : on side new ≡ take 1 (on side old.seen) = done.here ∙ ap (λ (s : Sides). take 1 (on side s)) seen in
      record {
        length = ap length is ∙ (let n : length (take 1 (on side old.seen)) ≡ 1 = omega (arith, length-take 1 (on side old.seen), long) in n);
        shut = λ open_gate. blank_long (on side old.seen) blank long (first_of_take (on side old.seen) ∙ sym (ap (λ (l : List ℕ). get_or l 0 0) is) ∙ open_gate);
        elsewhere = done.there ∙ ap (on (other side)) seen;
      }
    where
      first_of_take : (l : List ℕ) → get_or l 0 0 ≡ get_or (take 1 l) 0 0
      first_of_take [] = refl
      first_of_take (x ∷ l) = refl

  pub one_written : (mid new : Sides) → mid ≡ old.seen → length (on side old.seen) ≤ 1 → AtSide side (Holds 0 (0 ∷ [])) mid new → IsOneShut side there new
  one_written mid new seen short done =
      let holds : Holds 0 (0 ∷ []) (on side old.seen) (on side new) = subst (λ (s : Sides). Holds 0 (0 ∷ []) (on side s) (on side new)) seen done.here in
      let is : on side new ≡ 0 ∷ [] = holds ∙ ap (λ (l : List ℕ). 0 ∷ l) (drop_all 1 (on side old.seen) short) in
      record { length = ap length is; shut = λ open_gate. (let no : 0 ≡ 1 = sym (ap (λ (l : List ℕ). get_or l 0 0) is) ∙ open_gate in absurd (omega (arith, no))); elsewhere = done.there ∙ ap (on (other side)) seen }

  pub one_there : (new : Sides) → new ≡ old.seen → length (on side old.seen) ≤ 1 → (first rest : List ℕ) → first ≡ take 1 (on side old.seen) ++ drop (length (take 1 (on side old.seen))) (1 ∷ []) → get_or first 0 0 ≢ 1 → IsOneShut side there new
  one_there new seen short first rest is shut =
      let facts = by_cases (on side old.seen) short first is shut in
      record { length = ap (λ (s : Sides). length (on side s)) seen ∙ facts.0; shut = λ open_gate. facts.1 (ap (λ (s : Sides). get_or (on side s) 0 0) (sym seen) ∙ open_gate); elsewhere = ap (on (other side)) seen }
    where
      by_cases : (l : List ℕ) → length l ≤ 1 → (first : List ℕ) → first ≡ take 1 l ++ drop (length (take 1 l)) (1 ∷ []) → get_or first 0 0 ≢ 1 → (length l ≡ 1) × (get_or l 0 0 ≢ 1)
      by_cases [] short first is shut = absurd (shut (ap (λ (x : List ℕ). get_or x 0 0) is))
      by_cases (g ∷ []) short first is shut = (refl, λ open_gate. shut (ap (λ (x : List ℕ). get_or x 0 0) is ∙ open_gate))
      by_cases (g ∷ h ∷ l) short first is shut = absurd (omega arith)

-- it is the same after a look
pub one_look : (side : Side) (beside : List ℕ) (old new : DiskState) (f : Type 0) → IsOneShut side beside old.seen → Looks old new f → IsOneShut side beside new.seen
one_look side beside old new f one looks = subst (IsOneShut side beside) (sym looks.seen) one

pub beside_look : (side : Side) (beside : List ℕ) (old new : DiskState) (f : Type 0) → BlankBeside side beside old.seen → Looks old new f → BlankBeside side beside new.seen
beside_look side beside old new f blank looks = subst (BlankBeside side beside) (sym looks.seen) blank

pub one_ends : (side : Side) (beside : List ℕ) (sides : Sides) → IsOneShut side beside sides → EndsShut side 0 sides
one_ends side beside sides one = record { length = one.length ∙ (let n : 1 ≡ 0 + 1 = omega arith in n); shut = one.shut }

pub blank_or_open : (side : Side) (bytes beside : List ℕ) (image : Sides) → IsShutOrOpen side [] bytes beside image → IsBlankOrOpen side bytes beside image
blank_or_open side bytes beside image stands =
    record {
      here = ⊎_elim (λ shut. inl (blank_shut (on side image) (λ open_gate. shut.2 (sym (ap (λ (l : List ℕ). get_or l 0 0) shut.3) ∙ open_gate)))) (λ opened. inr opened) stands.here;
      elsewhere = stands.elsewhere;
    }

-- ---- the other side is made sure of, and a blank side is written

module _ (side : Side) (bytes : List ℕ) (old sure : DiskState) (f : Type 0) (looks : Looks old sure f) (blank : IsBlankOn side old.seen) (only : Only old.seen old) where
  abbrev R : Sides → Type 0
  R = IsBlankOrOpen side bytes (on (other side) old.seen)

  pub sure_start : LeavesOnly old sure R
  sure_start = looks_leave old sure f R only (record { here = inl blank; elsewhere = refl }) looks

  pub sure_shut : (shut : DiskState) → LeavesOnly sure shut (BlankBeside side (on (other side) sure.seen)) → LeavesOnly old shut R
  sure_shut shut leaves = leaves_then old sure shut R sure_start (leaves_what sure shut _ R leaves (λ image is. record { here = inl is.blank; elsewhere = is.elsewhere ∙ ap (on (other side)) looks.seen }))

  pub sure_open : (shut new : DiskState) → LeavesOnly sure shut (BlankBeside side (on (other side) sure.seen)) → on (other side) shut.seen ≡ on (other side) sure.seen
      → LeavesOnly shut new (IsShutOrOpen side [] bytes (on (other side) shut.seen)) → LeavesOnly old new R
  sure_open shut new first beside second =
      leaves_then old shut new R (sure_shut shut first) (leaves_what shut new _ R second (λ image stands.
      blank_or_open side bytes (on (other side) old.seen) image (subst (λ (l : List ℕ). IsShutOrOpen side [] bytes l image) (beside ∙ ap (on (other side)) looks.seen) stands)))

-- ---- an open side is closed

-- what a look at the first byte gives, where 0 stands for no byte
pub record IsFirst (bytes : List ℕ) (count : ℕ) (first : List ℕ) : Type 0 where
  pub count_is : count ≡ length (take 1 bytes)
  pub first_is : first ≡ take 1 bytes ++ drop count (0 ∷ [])

first_same : (l : List ℕ) (n : ℕ) (first : List ℕ) → IsFirst l n first → get_or first 0 0 ≡ get_or l 0 0
first_same [] n first look = ap (λ (x : List ℕ). get_or x 0 0) (look.first_is ∙ ap (λ k. drop k (0 ∷ [])) look.count_is)
first_same (g ∷ l) n first look = ap (λ (x : List ℕ). get_or x 0 0) look.first_is

-- an open gate over which any byte was written
torn_first : (s c : List ℕ) → get_or s 0 0 ≡ 1 → Torn 0 1 s c → (front c ≡ Blank) ⊎ (c ≡ s)
torn_first [] c is_open torn = absurd (omega (arith, is_open))
torn_first (g ∷ s) [] is_open torn = inl (blank_short [] (omega arith))
torn_first (g ∷ s) (h ∷ c) is_open torn =
    let behind : c ≡ s = torn.after in
    elim (cases_eq h 1) [
      | inl still ↦ inr (ap (λ n. n ∷ c) (still ∙ sym is_open) ∙ ap (λ (l : List ℕ). g ∷ l) behind)
      | inr shut ↦ inl (blank_shut (h ∷ c) shut)
    ]

module _ (side : Side) (old : DiskState) where
  abbrev Q : Sides → Type 0
  Q = IsBlankOrSame side old.seen

  pub seen_not_open : (new : Sides) → new ≡ old.seen → (n : ℕ) (first : List ℕ) → IsFirst (on side old.seen) n first → get_or first 0 0 ≢ 1 → BlankBeside side (on (other side) old.seen) new
  seen_not_open new seen n first look shut = record {
    blank = ap (λ (s : Sides). front (on side s)) seen ∙ blank_shut (on side old.seen) (λ open_gate. shut (first_same (on side old.seen) n first look ∙ open_gate));
    elsewhere = ap (on (other side)) seen;
  }

  pub seen_closed : (mid new : Sides) → mid ≡ old.seen → AtSide side (Holds 0 (0 ∷ [])) mid new → BlankBeside side (on (other side) old.seen) new
  seen_closed mid new seen done = record {
    blank = blank_shut (on side new) (λ open_gate. (let no : 0 ≡ 1 = sym (ap (λ (l : List ℕ). get_or l 0 0) done.here) ∙ open_gate in absurd (omega (arith, no))));
    elsewhere = done.there ∙ ap (on (other side)) seen;
  }

  module _ (only : Only old.seen old) where
    pub close_start : Reached old old Q
    close_start = reached_start old Q (λ image now. (let same : image ≡ old.seen = only image now in record { here = inr (ap (on side) same); elsewhere = ap (on (other side)) same }))

    pub close_write : (mid new : DiskState) (f g : Type 0) → Looks old mid f → (n : ℕ) (first : List ℕ) → IsFirst (on side old.seen) n first → get_or first 0 0 ≡ 1 → Changes side (Torn 0 1) mid new g → Reached old new Q
    close_write mid new f g looks n first look open_gate changes = reached_call old mid new Q g (reached_look old old mid Q f close_start looks) changes.passes (λ image now.
        let from = changes.images image now in
        let same : from.0 ≡ old.seen = only from.0 (looks.images from.0 from.1) in
        let torn : Torn 0 1 (on side old.seen) (on side image) = subst (λ (s : Sides). Torn 0 1 (on side s) (on side image)) same from.2.here in
        record { here = torn_first (on side old.seen) (on side image) (sym (first_same (on side old.seen) n first look) ∙ open_gate) torn; elsewhere = from.2.there ∙ ap (on (other side)) same })

-- ---- a side is written anew

pub closed_rewritten : (side : Side) (bytes : List ℕ) (old image : Sides) → IsBlankOrSame side old image → IsRewritten side bytes old image
closed_rewritten side bytes old image is = record { here = ⊎_elim (λ blank. inr (inl blank)) (λ same. inl same) is.here; elsewhere = is.elsewhere }

pub written_rewritten : (side : Side) (bytes : List ℕ) (old mid image : Sides) → on (other side) mid ≡ on (other side) old → IsBlankOrOpen side bytes (on (other side) mid) image → IsRewritten side bytes old image
written_rewritten side bytes old mid image beside is = record { here = ⊎_elim (λ blank. inr (inl blank)) (λ opened. inr (inr opened)) is.here; elsewhere = is.elsewhere ∙ beside }
