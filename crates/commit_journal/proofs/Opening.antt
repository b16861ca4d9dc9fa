-- What a crash leaves while bytes are written behind a closed gate and it is opened.
use Rattle.std.proofs.Common.{◌≡◌, ◌≢◌, ◌⊎◌, inl, inr, ℕ, ◌+◌, ◌-◌, ◌<◌, min, List, [], ◌∷◌, ◌++◌, length, get_or, take, drop, replicate, Result, OnOk, IsTrue, refl, sym, ◌∙◌, ap, subst, arith, append_assoc, length-append, length-take, take-append-drop}
use Rattle.std.proofs.lemmas.Bool.{cases_eq}
use Rattle.std.proofs.lemmas.List.{take_at, drop_at, take_all, drop_all, drop_more, append-nil, take-append-le}
use Rattle.slee_disk.specs.declared.side.Side.{Side}
use Rattle.slee_disk.specs.Sides.{Sides, on, other, Holds, Torn, AtSide}
use Rattle.slee_disk.specs.Disk.{DiskState, Looks, Changes, Only, is_clean}
use Rattle.slee_disk.proofs.Moments.{Reached, reached_start, reached_call, clean_told, clean_settled, clean_of, settled_both, tells, on_ok}
use Rattle.commit_journal.specs.Gate.{IsShut, EndsShut, IsShutOrOpen, IsOpened}
use Rattle.commit_journal.specs.Settling.{SettlesSide}

-- ---- on lists

split_at : (at : ℕ) (bytes : List ℕ) → at < length bytes → bytes ≡ take at bytes ++ get_or bytes at 0 ∷ drop (at + 1) bytes
split_at at bytes lt = sym (take-append-drop at bytes) ∙ ap (λ (l : List ℕ). take at bytes ++ l) (drop_more bytes at 0 lt)

module _ (at : ℕ) (bytes old : List ℕ) (size : length old ≡ at + 1) where
  abbrev front : List ℕ
  front = take at old

  abbrev gate : ℕ
  gate = get_or old at 0

  whole : old ≡ front ++ gate ∷ []
  whole = split_at at old (omega (arith, size)) ∙ ap (λ (l : List ℕ). front ++ gate ∷ l) (drop_all (at + 1) old (omega (arith, size)))

  front_size : length front ≡ at
  front_size = omega (arith, length-take at old, size)

  -- the gate stands in each outcome of a write behind it
  torn_behind : (n : ℕ) (c : List ℕ) → gate ≢ 1 → Torn (at + 1) n old c → IsShut front c
  torn_behind n c shut torn =
      let same : min (at + 1) (length old) ≡ at + 1 = omega (arith, size) in
      let begins : take (at + 1) c ≡ old = ap (λ (k : ℕ). take k c) (sym same) ∙ torn.before ∙ take_all (at + 1) old (omega (arith, size)) in
      let parts : c ≡ old ++ drop (at + 1) c = sym (take-append-drop (at + 1) c) ∙ ap (λ (l : List ℕ). l ++ drop (at + 1) c) begins in
      (gate, drop (at + 1) c, shut, parts ∙ ap (λ (l : List ℕ). l ++ drop (at + 1) c) whole ∙ append_assoc front (gate ∷ []) (drop (at + 1) c))

  abbrev staged : List ℕ
  staged = front ++ gate ∷ bytes

  written_behind : (c : List ℕ) → Holds (at + 1) bytes old c → c ≡ staged
  written_behind c holds =
      holds
      ∙ ap (λ (l : List ℕ). l ++ bytes ++ drop (at + 1 + length bytes) old) (take_at old (replicate (at + 1 - length old) 0) (at + 1) size)
      ∙ ap (λ (l : List ℕ). old ++ bytes ++ l) (drop_all (at + 1 + length bytes) old (omega (arith, size)))
      ∙ append-nil (old ++ bytes)
      ∙ ap (λ (l : List ℕ). l ++ bytes) whole ∙ append_assoc front (gate ∷ []) bytes

  staged_front : take at staged ≡ front
  staged_front = take_at front (gate ∷ bytes) at front_size

  staged_size : length staged ≡ at + 1 + length bytes
  staged_size = omega (arith, length-append front (gate ∷ bytes), front_size)

  staged_back : drop (at + 1) staged ≡ bytes
  staged_back = ap (λ (l : List ℕ). drop (at + 1) l) (sym (append_assoc front (gate ∷ []) bytes)) ∙ drop_at (front ++ gate ∷ []) bytes (at + 1) (omega (arith, length-append front (gate ∷ []), front_size))

  -- what was written stands whole behind each outcome of the write of the gate
  torn_gate : (c : List ℕ) → Torn at 1 staged c → IsShut front c ⊎ (c ≡ front ++ 1 ∷ bytes)
  torn_gate c torn =
      let same : min at (length staged) ≡ at = omega (arith, staged_size) in
      let begins : take at c ≡ front = ap (λ (k : ℕ). take k c) (sym same) ∙ torn.before ∙ staged_front in
      let ends : drop (at + 1) c ≡ bytes = torn.after ∙ staged_back in
      let parts : c ≡ front ++ get_or c at 0 ∷ bytes =
      split_at at c (omega (arith, torn.no_shorter, staged_size)) ∙ ap (λ (l : List ℕ). l ++ get_or c at 0 ∷ drop (at + 1) c) begins ∙ ap (λ (l : List ℕ). front ++ get_or c at 0 ∷ l) ends in
      elim (cases_eq (get_or c at 0) 1) [
        | inl open_gate ↦ inr (parts ∙ ap (λ (k : ℕ). front ++ k ∷ bytes) open_gate)
        | inr shut ↦ inl (get_or c at 0, bytes, shut, parts)
      ]

  written_gate : (c : List ℕ) → Holds at (1 ∷ []) staged c → c ≡ front ++ 1 ∷ bytes
  written_gate c holds =
      holds
      ∙ ap (λ (l : List ℕ). l ++ (1 ∷ []) ++ drop (at + 1) staged) (take-append-le at staged (replicate (at - length staged) 0) (omega (arith, staged_size)) ∙ staged_front)
      ∙ ap (λ (l : List ℕ). (front ++ 1 ∷ []) ++ l) staged_back
      ∙ append_assoc front (1 ∷ []) bytes

-- ---- on disks

-- these bytes stand on a side, and those on the other one
pub record IsStaged (side : Side) (here there : List ℕ) (sides : Sides) : Type 0 where
  pub here_is : on side sides ≡ here
  pub there_is : on (other side) sides ≡ there

module _ (side : Side) (at : ℕ) (bytes : List ℕ) (old : DiskState) (ends : EndsShut side at old.seen) where
  abbrev was : List ℕ
  was = on side old.seen

  abbrev there : List ℕ
  there = on (other side) old.seen

  abbrev P : Sides → Type 0
  P = IsShutOrOpen side (take at was) bytes there

  abbrev behind : List ℕ
  behind = take at was ++ get_or was at 0 ∷ bytes

  -- what reads give after the bytes are written
  pub seen_staged : (mid new : DiskState) (failed : Type 0) → AtSide side (Holds (at + 1) bytes) old.seen mid.seen → Looks mid new failed → IsStaged side behind there new.seen
  seen_staged mid new failed written looks = record {
    here_is = ap (on side) looks.seen ∙ written_behind at bytes was ends.length (on side mid.seen) written.here;
    there_is = ap (on (other side)) looks.seen ∙ written.there;
  }

  -- and after the gate is opened
  pub seen_opened : (first : Sides) (mid new : DiskState) (failed : Type 0) → IsStaged side behind there first → AtSide side (Holds at (1 ∷ [])) first mid.seen → Looks mid new failed → IsOpened side (take at was) bytes there new.seen
  seen_opened first mid new failed staged written looks = record {
    here = ap (on side) looks.seen ∙ written_gate at bytes was ends.length (on side mid.seen) (subst (λ (s : List ℕ). Holds at (1 ∷ []) s (on side mid.seen)) staged.here_is written.here);
    elsewhere = ap (on (other side)) looks.seen ∙ written.there ∙ staged.there_is;
  }

  module _ (only : Only old.seen old) where
    pub gate_start : Reached old old P
    gate_start = reached_start old P (λ image now.
        let same : image ≡ old.seen = only image now in
        subst P (sym same) (record { here = inl (get_or was at 0, [], ends.shut, whole at bytes was ends.length); elsewhere = refl }))

    pub gate_written : (new : DiskState) (failed : Type 0) → Changes side (Torn (at + 1) (length bytes)) old new failed → Reached old new P
    gate_written new failed changes = reached_call old old new P failed gate_start changes.passes (λ image now.
        let from = changes.images image now in
        let same : from.0 ≡ old.seen = only from.0 from.1 in
        let here : Torn (at + 1) (length bytes) was (on side image) = subst (λ (s : Sides). Torn (at + 1) (length bytes) (on side s) (on side image)) same from.2.here in
        record { here = inl (torn_behind at bytes was ends.length (length bytes) (on side image) ends.shut here); elsewhere = from.2.there ∙ ap (on (other side)) same })

    pub images_staged : (mid new : DiskState) (failed : Type 0) → Reached old mid P → AtSide side (Holds (at + 1) bytes) old.seen mid.seen → Looks mid new failed
        → ((image : Sides) → new.images image → on side image ≡ on side mid.seen) → (image : Sides) → new.images image → IsStaged side behind there image
    images_staged mid new failed so_far written looks durable image now = record {
      here_is = durable image now ∙ written_behind at bytes was ends.length (on side mid.seen) written.here;
      there_is = (so_far.now image (looks.images image now)).elsewhere;
    }

    pub gate_opening : (mid new : DiskState) (failed : Type 0) → Reached old mid P → ((image : Sides) → mid.images image → IsStaged side behind there image) → Changes side (Torn at 1) mid new failed → Reached old new P
    gate_opening mid new failed so_far staged changes = reached_call old mid new P failed so_far changes.passes (λ image now.
        let from = changes.images image now in
        let before = staged from.0 from.1 in
        let here : Torn at 1 behind (on side image) = subst (λ (s : List ℕ). Torn at 1 s (on side image)) before.here_is from.2.here in
        record { here = torn_gate at bytes was ends.length (on side image) here; elsewhere = from.2.there ∙ before.there_is })

-- a clean disk is clean again once the one side that was written is settled
pub clean_again : (side : Side) (old new : DiskState) → IsTrue (is_clean old) → new.told ≡ old.told → IsTrue (new.settled side) → new.settled (other side) ≡ old.settled (other side) → IsTrue (is_clean new)
clean_again side old new clean told here there =
    clean_of new (tells old.told new.told told (clean_told old clean)) (settled_both side new here (subst IsTrue (sym there) (clean_settled old clean (other side))))

-- and so it is where the other side was settled before
pub clean_end : {T E : Type 0} (side : Side) (old new : DiskState) (r : Result T E) → SettlesSide side old new r → new.told ≡ old.told → IsTrue old.told → IsTrue (old.settled (other side)) → OnOk r (IsTrue (is_clean new))
clean_end side old new r settles same told beside =
    on_ok r _ _ (settles.here told) (λ here. clean_of new (tells old.told new.told same told) (settled_both side new here (subst IsTrue (sym settles.there) beside)))
