-- Which side counts, and what the sides then stand for.
use Rattle.std.proofs.Common.{◌≡◌, ◌≢◌, ℕ, Bool, true, cond, List, [], ◌∷◌, ◌++◌, length, Some, Ok, Err, refl, sym, ◌∙◌, ap, arith, append_assoc}
use Rattle.std.specs.List.{flat_map, AllByRecursion}
use Rattle.std.specs.Str.{bytes_eq}
use Rattle.std.proofs.lemmas.List.Concat.{flat_map-append}
use Rattle.std.proofs.lemmas.Slice.Eq.{bytes_eq-Decides}
use Rattle.slee_disk.specs.declared.side.Side.{Side}
use Rattle.slee_disk.specs.declared.side.Side.TheVariants.{A, B}
use Rattle.slee_disk.specs.Sides.{Sides, on, other}
use Rattle.commit_journal.specs.Spelling.{Head, recorded, header, spelled, FitsText, FitsHead}
use Rattle.commit_journal.specs.Reading.{payloads_of, Front, Blank, NoHeader, Header, front, first_difference, Other, Counts, counting, Kept, with_records, with_front, with_counting, recovered}
use Rattle.commit_journal.specs.Kept.{Keeps}
use Rattle.commit_journal.proofs.Spelled.{payloads_again, front_again}

-- which side counts is told by the headers alone
by_header : (head : Head) (r s : List ℕ) (o : Front) → counting (Header head r) o ≡ counting (Header head s) o
by_header head r s Blank = refl
by_header head r s NoHeader = refl
by_header head r s (Header h t) = refl

by_header_2 : (head : Head) (r s : List ℕ) (o : Front) → counting o (Header head r) ≡ counting o (Header head s)
by_header_2 head r s Blank = refl
by_header_2 head r s NoHeader = refl
by_header_2 head r s (Header h t) = refl

pub counts_still : (side : Side) (head : Head) (r s : List ℕ) (old new : Sides) → front (on side old) ≡ Header head r → front (on side new) ≡ Header head s → on (other side) new ≡ on (other side) old
    → counting (front old.a) (front old.b) ≡ Counts side → counting (front new.a) (front new.b) ≡ Counts side
counts_still A head r s old new was is same counts =
    ap (λ (f : Front). counting f (front new.b)) is ∙ ap (λ (l : List ℕ). counting (Header head s) (front l)) same ∙ by_header head s r (front old.b) ∙ ap (λ (f : Front). counting f (front old.b)) (sym was) ∙ counts
counts_still B head r s old new was is same counts =
    ap (λ (f : Front). counting (front new.a) f) is ∙ ap (λ (l : List ℕ). counting (front l) (Header head s)) same ∙ by_header_2 head s r (front old.a) ∙ ap (λ (f : Front). counting (front old.a) f) (sym was) ∙ counts

pub chosen : (deployment : List ℕ) (side : Side) (sides : Sides) → counting (front sides.a) (front sides.b) ≡ Counts side → recovered deployment sides ≡ with_front deployment side (front (on side sides))
unfolding recovered
chosen deployment A sides counts = ap (with_counting deployment (front sides.a) (front sides.b)) counts
chosen deployment B sides counts = ap (with_counting deployment (front sides.a) (front sides.b)) counts

-- a side that counts, is spelled so, and ends with a closed gate
pub keeps : (kept : Kept) (sides : Sides) (gate : ℕ) (rest : List ℕ) → FitsHead kept.head → AllByRecursion FitsText kept.payloads → gate ≢ 1 → on kept.side sides ≡ spelled kept.head kept.payloads ++ gate ∷ rest
    → counting (front sides.a) (front sides.b) ≡ Counts kept.side → Keeps kept sides
keeps kept sides gate rest fits_head fits shut here counts =
    let head = kept.head in
    let bytes = flat_map recorded kept.payloads ++ gate ∷ rest in
    let begins : front (on kept.side sides) ≡ Header head bytes = ap front here ∙ front_again head kept.payloads gate rest fits_head in
    let reads : payloads_of bytes ≡ Ok kept.payloads = payloads_again (length bytes) kept.payloads gate rest fits shut (omega arith) in
    let same : bytes_eq head.deployment head.deployment ≡ true = (bytes_eq-Decides head.deployment head.deployment).1 refl in
    chosen head.deployment kept.side sides counts
    ∙ ap (with_front head.deployment kept.side) begins
    ∙ ap (with_records head.deployment kept.side head) reads
    ∙ ap (λ (t : Bool). cond t (Ok (Some kept)) (Err (Other (length head.deployment) (first_difference head.deployment head.deployment)))) same

pub spelled_more : (head : Head) (ps batch : List (List ℕ)) → spelled head (ps ++ batch) ≡ spelled head ps ++ flat_map recorded batch
spelled_more head ps batch = ap (λ (l : List ℕ). 1 ∷ (header head ++ l)) (flat_map-append recorded ps batch) ∙ ap (λ (l : List ℕ). 1 ∷ l) (sym (append_assoc (header head) (flat_map recorded ps) (flat_map recorded batch)))

pub all_more : (ps qs : List (List ℕ)) → AllByRecursion FitsText ps → AllByRecursion FitsText qs → AllByRecursion FitsText (ps ++ qs)
all_more [] qs p q = q
all_more (x ∷ ps) qs p q = (p.0, all_more ps qs p.1 q)
