-- How long spellings are.
use Rattle.std.proofs.Common.{◌≡◌, ℕ, ◌+◌, List, [], ◌∷◌, ◌++◌, length, refl, ◌∙◌, ap, arith, length-append}
use Rattle.std.specs.List.{flat_map}
use Rattle.std.proofs.lemmas.List.Concat.{flat_map-cons}
use Rattle.slee_value.specs.Bytes.{spelled_u64, spelled_bytes}
use Rattle.commit_journal.specs.declared.format.Format.{Format}
use Rattle.commit_journal.specs.declared.format.Format.TheVariants.{One, Two}
use Rattle.commit_journal.specs.Spelling.{magic, Head, recorded, header, spelled, records_size, size}
use Rattle.slee_disk.specs.Sides.{Sides, on}
use Rattle.commit_journal.specs.Reading.{Kept}
use Rattle.commit_journal.specs.Kept.{batched, StandsIn}

pub length-recorded : (ps : List (List ℕ)) → length (flat_map recorded ps) ≡ records_size ps
length-recorded [] = refl
length-recorded (p ∷ ps) = omega (arith, ap length (flat_map-cons recorded p ps), length-append (recorded p) (flat_map recorded ps), length-recorded ps)

pub records_size-more : (ps qs : List (List ℕ)) → records_size (ps ++ qs) ≡ records_size ps + records_size qs
records_size-more [] qs = omega arith
records_size-more (p ∷ ps) qs = omega (arith, records_size-more ps qs)

length-magic : (format : Format) → length (magic format) ≡ 6
length-magic One = refl
length-magic Two = refl

pub length-header : (head : Head) → length (header head) ≡ 22 + length head.deployment + length head.snapshot
length-header head =
    let rest = spelled_u64 head.generation ++ (spelled_bytes head.deployment ++ spelled_bytes head.snapshot) in
    omega (arith, length-append (magic head.format) rest, length-magic head.format, length-append (spelled_bytes head.deployment) (spelled_bytes head.snapshot))

pub length-spelled : (head : Head) (ps : List (List ℕ)) → length (spelled head ps) + 1 ≡ size head ps
length-spelled head ps = omega (arith, length-append (header head) (flat_map recorded ps), length-header head, length-recorded ps)

pub length-batched : (batch : List (List ℕ)) → length (batched batch) ≡ records_size batch + 1
length-batched batch = omega (arith, length-append (flat_map recorded batch) (0 ∷ []), length-recorded batch)

-- a side with nothing behind its last gate
pub length-stands : (kept : Kept) (at : ℕ) (sides : Sides) → StandsIn kept at [] sides → length (on kept.side sides) ≡ size kept.head kept.payloads
length-stands kept at sides stands = ap length stands.here ∙ omega (arith, length-append (spelled kept.head kept.payloads) (stands.gate ∷ []), length-spelled kept.head kept.payloads)
