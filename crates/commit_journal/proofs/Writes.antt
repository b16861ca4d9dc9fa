-- What the sides stand for while a batch is written, or while what stands behind the last gate is cut.
use Rattle.std.proofs.Common.{◌≡◌, ◌≢◌, inl, inr, ⊎_elim, ℕ, ◌+◌, List, [], ◌∷◌, ◌++◌, length, get_or, take, drop, sym, ◌∙◌, ap, subst, arith, append_assoc, length-append, take-append-drop}
use Rattle.std.specs.List.{flat_map, AllByRecursion}
use Rattle.std.proofs.lemmas.List.{take_at}
use Rattle.std.proofs.lemmas.List.Concat.{flat_map-append}
use Rattle.std.proofs.Math.Seq.{get_or-append_seam}
use Rattle.slee_disk.specs.Sides.{Sides, on, other, Cut, AtSide}
use Rattle.slee_disk.specs.Disk.{DiskState, Looks, Changes, Only}
use Rattle.slee_disk.proofs.Moments.{Reached, reached_start, reached_call}
use Rattle.commit_journal.specs.Gate.{IsShut, EndsShut, IsShutOrOpen, IsOpened}
use Rattle.commit_journal.specs.Spelling.{Head, recorded, header, spelled, FitsText, records_size}
use Rattle.commit_journal.specs.Reading.{Header, front, Counts, counting, Kept}
use Rattle.commit_journal.specs.Kept.{StandsIn, StandsFound, with_more, Keeps, KeepsOrMore, batched}
use Rattle.commit_journal.proofs.Spelled.{front_again}
use Rattle.commit_journal.proofs.Sizes.{length-batched}
use Rattle.commit_journal.proofs.Batches.{all_more}
use Rattle.commit_journal.proofs.Counting.{counts_still, keeps}

pub spelled_more : (head : Head) (ps batch : List (List ℕ)) → spelled head (ps ++ batch) ≡ spelled head ps ++ flat_map recorded batch
spelled_more head ps batch = ap (λ (l : List ℕ). 1 ∷ (header head ++ l)) (flat_map-append recorded ps batch) ∙ ap (λ (l : List ℕ). 1 ∷ l) (sym (append_assoc (header head) (flat_map recorded ps) (flat_map recorded batch)))

module _ (kept : Kept) (at : ℕ) (tail : List ℕ) (sides : Sides) (stands : StandsIn kept at tail sides) where
  abbrev whole : List ℕ
  whole = spelled kept.head kept.payloads

  was : front (on kept.side sides) ≡ Header kept.head (flat_map recorded kept.payloads ++ stands.gate ∷ tail)
  was = ap front stands.here ∙ front_again kept.head kept.payloads stands.gate tail stands.fits_head

  -- other payloads, or another end, behind the same header
  counts_in : (ps : List (List ℕ)) (new : Sides) (gate : ℕ) (rest : List ℕ) → on kept.side new ≡ spelled kept.head ps ++ gate ∷ rest → on (other kept.side) new ≡ on (other kept.side) sides → counting (front new.a) (front new.b) ≡ Counts kept.side
  counts_in ps new gate rest here elsewhere = counts_still kept.side kept.head _ _ sides new was (ap front here ∙ front_again kept.head ps gate rest stands.fits_head) elsewhere stands.counts

  pub stands_with : (new : Sides) (gate : ℕ) (rest : List ℕ) → gate ≢ 1 → on kept.side new ≡ whole ++ gate ∷ rest → on (other kept.side) new ≡ on (other kept.side) sides → StandsIn kept at rest new
  stands_with new gate rest shut here elsewhere = record { gate = gate; shut = shut; here = here; place = stands.place; counts = counts_in kept.payloads new gate rest here elsewhere; fits_head = stands.fits_head; fits = stands.fits }

  pub stands_keeps : Keeps kept sides
  stands_keeps = keeps kept sides stands.gate tail stands.fits_head stands.fits stands.shut stands.here stands.counts

  pub stands_front : take at (on kept.side sides) ≡ whole
  stands_front = ap (take at) stands.here ∙ take_at whole (stands.gate ∷ tail) at (sym stands.place)

-- what the gate's two states stand for
module _ (kept : Kept) (at : ℕ) (sides : Sides) (stands : StandsIn kept at [] sides) where
  pub stands_ends : EndsShut kept.side at sides
  stands_ends = record {
    length = ap length stands.here ∙ length-append (whole kept at [] sides stands) (stands.gate ∷ []) ∙ ap (λ n. n + 1) (sym stands.place);
    shut = λ open_gate. stands.shut (sym (get_or-append_seam (whole kept at [] sides stands) stands.gate [] 0) ∙ sym (ap (λ (l : List ℕ). get_or l (length (whole kept at [] sides stands)) 0) stands.here) ∙ ap (λ n. get_or (on kept.side sides) n 0) (sym stands.place) ∙ open_gate);
  }

  pub opened_here : (batch : List (List ℕ)) (behind here : List ℕ) → 1 ∷ behind ≡ batched batch → here ≡ take at (on kept.side sides) ++ 1 ∷ behind → here ≡ spelled kept.head (kept.payloads ++ batch) ++ 0 ∷ []
  opened_here batch behind here is opened =
      opened ∙ ap (λ (l : List ℕ). l ++ 1 ∷ behind) (stands_front kept at [] sides stands) ∙ ap (λ (l : List ℕ). spelled kept.head kept.payloads ++ l) is ∙ sym (append_assoc (spelled kept.head kept.payloads) (flat_map recorded batch) (0 ∷ [])) ∙ ap (λ (l : List ℕ). l ++ 0 ∷ []) (sym (spelled_more kept.head kept.payloads batch))

  pub keeps_either : (batch : List (List ℕ)) (behind : List ℕ) (image : Sides) → AllByRecursion FitsText batch → 1 ∷ behind ≡ batched batch
      → IsShutOrOpen kept.side (take at (on kept.side sides)) behind (on (other kept.side) sides) image → KeepsOrMore kept batch image
  keeps_either batch behind image fits is image_is =
      let shut_case : IsShut (take at (on kept.side sides)) (on kept.side image) → Keeps kept image = λ shut.
      let here : on kept.side image ≡ whole kept at [] sides stands ++ shut.0 ∷ shut.1 = shut.3 ∙ ap (λ (l : List ℕ). l ++ shut.0 ∷ shut.1) (stands_front kept at [] sides stands) in
      stands_keeps kept at shut.1 image (stands_with kept at [] sides stands image shut.0 shut.1 shut.2 here image_is.elsewhere) in
      let open_case : (on kept.side image ≡ take at (on kept.side sides) ++ 1 ∷ behind) → Keeps (with_more kept batch) image = λ opened.
      let here = opened_here batch behind (on kept.side image) is opened in
      keeps (with_more kept batch) image 0 [] stands.fits_head (all_more kept.payloads batch stands.fits fits) (omega arith) here (counts_in kept at [] sides stands (kept.payloads ++ batch) image 0 [] here image_is.elsewhere) in
      ⊎_elim (λ shut. inl (shut_case shut)) (λ opened. inr (open_case opened)) image_is.here

  -- and once it is open for good
  pub stands_more : (batch : List (List ℕ)) (behind : List ℕ) (new : Sides) → AllByRecursion FitsText batch → 1 ∷ behind ≡ batched batch
      → IsOpened kept.side (take at (on kept.side sides)) behind (on (other kept.side) sides) new → StandsIn (with_more kept batch) (at + records_size batch) [] new
  stands_more batch behind new fits is opened =
      let here = opened_here batch behind (on kept.side new) is opened.here in
      record {
        gate = 0;
        shut = omega arith;
        here = here;
        place = omega (arith, stands.place, length-batched batch, length-append (flat_map recorded batch) (0 ∷ []), ap length (spelled_more kept.head kept.payloads batch), length-append (spelled kept.head kept.payloads) (flat_map recorded batch));
        counts = counts_in kept at [] sides stands (kept.payloads ++ batch) new 0 [] here opened.elsewhere;
        fits_head = stands.fits_head;
        fits = all_more kept.payloads batch stands.fits fits;
      }

-- ---- what stands behind the last gate is cut

module _ (kept : Kept) (at : ℕ) (old : DiskState) (found : StandsFound kept at old.seen) where
  abbrev st : StandsIn kept at found.tail old.seen
  st = found.stands

  begins : take (at + 1) (on kept.side old.seen) ≡ spelled kept.head kept.payloads ++ st.gate ∷ []
  begins =
      ap (take (at + 1)) (st.here ∙ sym (append_assoc (spelled kept.head kept.payloads) (st.gate ∷ []) found.tail))
      ∙ take_at (spelled kept.head kept.payloads ++ st.gate ∷ []) found.tail (at + 1) (omega (arith, length-append (spelled kept.head kept.payloads) (st.gate ∷ []), st.place))

  cut_image : (image : Sides) → Cut (at + 1) (on kept.side old.seen) (on kept.side image) → on (other kept.side) image ≡ on (other kept.side) old.seen → Keeps kept image
  cut_image image cut there =
      let c = on kept.side image in
      let front_is : take (at + 1) c ≡ spelled kept.head kept.payloads ++ st.gate ∷ [] = cut.before ∙ begins in
      let parts : c ≡ spelled kept.head kept.payloads ++ st.gate ∷ drop (at + 1) c =
      sym (take-append-drop (at + 1) c) ∙ ap (λ (l : List ℕ). l ++ drop (at + 1) c) front_is ∙ append_assoc (spelled kept.head kept.payloads) (st.gate ∷ []) (drop (at + 1) c) in
      stands_keeps kept at (drop (at + 1) c) image (stands_with kept at found.tail old.seen st image st.gate (drop (at + 1) c) st.shut parts there)

  pub found_keeps : Keeps kept old.seen
  found_keeps = stands_keeps kept at found.tail old.seen st

  pub cut_call : (new : DiskState) (f : Type 0) → Only old.seen old → Changes kept.side (Cut (at + 1)) old new f → Reached old new (Keeps kept)
  cut_call new f only changes =
      reached_call old old new (Keeps kept) f (reached_start old (Keeps kept) (λ image now. subst (Keeps kept) (sym (only image now)) found_keeps)) changes.passes (λ image now.
      let from = changes.images image now in
      let same : from.0 ≡ old.seen = only from.0 from.1 in
      cut_image image (subst (λ (s : Sides). Cut (at + 1) (on kept.side s) (on kept.side image)) same from.2.here) (from.2.there ∙ ap (on (other kept.side)) same))

  pub cut_stands : (mid new : DiskState) (g : Type 0) → AtSide kept.side (λ a b. b ≡ take (at + 1) a) old.seen mid.seen → Looks mid new g → StandsIn kept at [] new.seen
  cut_stands mid new g done looks =
      let here : on kept.side new.seen ≡ spelled kept.head kept.payloads ++ st.gate ∷ [] = ap (on kept.side) looks.seen ∙ done.here ∙ begins in
      stands_with kept at found.tail old.seen st new.seen st.gate [] st.shut here (ap (on (other kept.side)) looks.seen ∙ done.there)
