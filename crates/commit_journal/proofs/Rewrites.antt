-- What the sides stand for while a side is written anew.
use Rattle.std.proofs.Common.{◌≡◌, ◌⊎◌, inl, inr, ℕ, List, [], ◌∷◌, ◌++◌, length, None, Ok, refl, sym, ◌∙◌, ap, subst, arith, length-append}
use Rattle.std.specs.List.{flat_map}
use Rattle.std.proofs.lemmas.List.{append-nil}
use Rattle.slee_disk.specs.declared.side.Side.{Side}
use Rattle.slee_disk.specs.declared.side.Side.TheVariants.{A, B}
use Rattle.slee_disk.specs.Sides.{Sides, on, other}
use Rattle.slee_disk.proofs.Moments.{same_sides}
use Rattle.commit_journal.specs.Spelling.{Head, header, recorded, spelled, FitsHead}
use Rattle.commit_journal.specs.Reading.{Front, Blank, Header, front, next, by_generations, Neither, Counts, counting, Kept, recovered}
use Rattle.commit_journal.specs.Kept.{StandsIn, AreBlank, Keeps}
use Rattle.commit_journal.specs.Blank.{IsBlankOn}
use Rattle.commit_journal.specs.Rewriting.{IsRewritten}
use Rattle.commit_journal.proofs.Spelled.{front_again}
use Rattle.commit_journal.proofs.Recovers.{reads_nothing}
use Rattle.commit_journal.proofs.Writes.{stands_keeps}
use Rattle.commit_journal.proofs.Newer.{newer_a, newer_b}

by_case : {X Y Z P : Type 0} → X ⊎ Y ⊎ Z → (X → P) → (Y → P) → (Z → P) → P
by_case (inl x) f g h = f x
by_case (inr (inl y)) f g h = g y
by_case (inr (inr z)) f g h = h z

pub other_twice : (side : Side) → other (other side) ≡ side
other_twice A = refl
other_twice B = refl

-- ---- which side counts

pub blank_here : (side : Side) (sides : Sides) → AreBlank sides → IsBlankOn side sides
blank_here A sides blank = blank.0
blank_here B sides blank = blank.1

two_blank : (side : Side) (sides : Sides) → IsBlankOn side sides → IsBlankOn (other side) sides → counting (front sides.a) (front sides.b) ≡ Neither
two_blank A sides here there = ap (λ (f : Front). counting f (front sides.b)) here ∙ ap (λ (f : Front). counting Blank f) there
two_blank B sides here there = ap (λ (f : Front). counting f (front sides.b)) there ∙ ap (λ (f : Front). counting Blank f) here

one_counts : (side : Side) (sides : Sides) (head : Head) (rest : List ℕ) → front (on side sides) ≡ Header head rest → IsBlankOn (other side) sides → counting (front sides.a) (front sides.b) ≡ Counts side
one_counts A sides head rest here there = ap (λ (f : Front). counting f (front sides.b)) here ∙ ap (λ (f : Front). counting (Header head rest) f) there
one_counts B sides head rest here there = ap (λ (f : Front). counting f (front sides.b)) there ∙ ap (λ (f : Front). counting Blank f) here

-- the side of the next generation counts
next_counts : (side : Side) (sides : Sides) (new old : Head) (r s : List ℕ) → front (on side sides) ≡ Header new r → front (on (other side) sides) ≡ Header old s → new.generation ≡ next old.generation → counting (front sides.a) (front sides.b) ≡ Counts side
next_counts A sides new old r s here there later =
    ap (λ (f : Front). counting f (front sides.b)) here ∙ ap (λ (f : Front). counting (Header new r) f) there ∙ ap (λ n. by_generations n old.generation) later ∙ newer_a old.generation
next_counts B sides new old r s here there later =
    ap (λ (f : Front). counting f (front sides.b)) there ∙ ap (λ (f : Front). counting (Header old s) f) here ∙ ap (λ n. by_generations old.generation n) later ∙ newer_b old.generation

-- ---- the side that is written

module _ (side : Side) (head : Head) (behind : List ℕ) (fits : FitsHead head) (is : behind ≡ header head ++ 0 ∷ []) where
  abbrev new : Kept
  new = record { side = side; head = head; payloads = [] }

  pub spelled_here : (bytes : List ℕ) → bytes ≡ 1 ∷ behind → bytes ≡ spelled head [] ++ 0 ∷ []
  spelled_here bytes opened = opened ∙ ap (λ (l : List ℕ). 1 ∷ l) is ∙ ap (λ (l : List ℕ). 1 ∷ (l ++ 0 ∷ [])) (sym (append-nil (header head)))

  begins_here : (sides : Sides) → on side sides ≡ 1 ∷ behind → front (on side sides) ≡ Header head (0 ∷ [])
  begins_here sides opened = ap front (spelled_here (on side sides) opened) ∙ front_again head [] 0 [] fits

  stands_here : (sides : Sides) → on side sides ≡ 1 ∷ behind → counting (front sides.a) (front sides.b) ≡ Counts side → StandsIn new (length behind) [] sides
  stands_here sides opened counts = record {
    gate = 0;
    shut = omega arith;
    here = spelled_here (on side sides) opened;
    place = omega (arith, ap length is, length-append (header head) (0 ∷ []), ap length (append-nil (header head)));
    counts = counts;
    fits_head = fits;
    fits = tt;
  }

  -- while both sides were blank
  module _ (old : Sides) (blank : AreBlank old) where
    pub first_stands : (sides : Sides) → on side sides ≡ 1 ∷ behind → on (other side) sides ≡ on (other side) old → StandsIn new (length behind) [] sides
    first_stands sides opened elsewhere = stands_here sides opened (one_counts side sides head (0 ∷ []) (begins_here sides opened) (ap front elsewhere ∙ blank_here (other side) old blank))

    pub first_image : (image : Sides) → IsRewritten side behind old image → (recovered head.deployment image ≡ Ok None) ⊎ Keeps new image
    first_image image stands =
        let there : IsBlankOn (other side) image = ap front stands.elsewhere ∙ blank_here (other side) old blank in
        let of_blank : IsBlankOn side image → (recovered head.deployment image ≡ Ok None) ⊎ Keeps new image = λ here. inl (reads_nothing head.deployment image (two_blank side image here there)) in
        let of_same : (on side image ≡ on side old) → (recovered head.deployment image ≡ Ok None) ⊎ Keeps new image = λ same. of_blank (ap front same ∙ blank_here side old blank) in
        let of_open : (on side image ≡ 1 ∷ behind) → (recovered head.deployment image ≡ Ok None) ⊎ Keeps new image = λ opened.
        inr (stands_keeps new (length behind) [] image (first_stands image opened stands.elsewhere)) in
        by_case stands.here of_same of_blank of_open

  -- while the other side stands, with the generation before
  module _ (kept : Kept) (at : ℕ) (tail : List ℕ) (old : Sides) (beside : side ≡ other kept.side) (later : head.generation ≡ next kept.head.generation) (stands : StandsIn kept at tail old) where
    kept_is : kept.side ≡ other side
    kept_is = sym (ap other beside ∙ other_twice kept.side)

    still_there : (sides : Sides) → on (other side) sides ≡ on (other side) old → on kept.side sides ≡ on kept.side old
    still_there sides elsewhere = ap (λ (s : Side). on s sides) kept_is ∙ elsewhere ∙ ap (λ (s : Side). on s old) (sym kept_is)

    begins_there : (sides : Sides) → on (other side) sides ≡ on (other side) old → front (on (other side) sides) ≡ Header kept.head (flat_map recorded kept.payloads ++ stands.gate ∷ tail)
    begins_there sides elsewhere = ap (λ (s : Side). front (on s sides)) (sym kept_is) ∙ ap front (still_there sides elsewhere ∙ stands.here) ∙ front_again kept.head kept.payloads stands.gate tail stands.fits_head

    pub next_stands : (sides : Sides) → on side sides ≡ 1 ∷ behind → on (other side) sides ≡ on (other side) old → StandsIn new (length behind) [] sides
    next_stands sides opened elsewhere = stands_here sides opened (next_counts side sides head kept.head _ _ (begins_here sides opened) (begins_there sides elsewhere) later)

    -- a blank side leaves what stood
    old_stands : (sides : Sides) → on (other side) sides ≡ on (other side) old → IsBlankOn side sides → StandsIn kept at tail sides
    old_stands sides elsewhere blank = record {
      gate = stands.gate;
      shut = stands.shut;
      here = still_there sides elsewhere ∙ stands.here;
      place = stands.place;
      counts = subst (λ (s : Side). counting (front sides.a) (front sides.b) ≡ Counts s) (sym kept_is) (one_counts (other side) sides kept.head _ (begins_there sides elsewhere) (ap (λ (s : Side). front (on s sides)) (other_twice side) ∙ blank));
      fits_head = stands.fits_head;
      fits = stands.fits;
    }

    pub next_image : (image : Sides) → IsRewritten side behind old image → Keeps kept image ⊎ Keeps new image
    next_image image rewritten =
        let of_blank : IsBlankOn side image → Keeps kept image ⊎ Keeps new image = λ blank. inl (stands_keeps kept at tail image (old_stands image rewritten.elsewhere blank)) in
        let of_same : (on side image ≡ on side old) → Keeps kept image ⊎ Keeps new image = λ same.
        let all : image ≡ old = same_sides side image old same rewritten.elsewhere in
        inl (subst (Keeps kept) (sym all) (stands_keeps kept at tail old stands)) in
        let of_open : (on side image ≡ 1 ∷ behind) → Keeps kept image ⊎ Keeps new image = λ opened. inr (stands_keeps new (length behind) [] image (next_stands image opened rewritten.elsewhere)) in
        by_case rewritten.here of_same of_blank of_open
