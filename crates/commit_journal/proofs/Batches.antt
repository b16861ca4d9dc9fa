-- A batch and its bytes.
use Rattle.std.proofs.Common.{◌≡◌, ◌≢◌, ℕ, ◌+◌, ◌-◌, ◌<◌, List, [], ◌∷◌, ◌++◌, length, set, take, drop, refl, sym, ◌∙◌, ap, subst, arith, append_assoc, length-append}
use Rattle.std.specs.List.{flat_map, AllByRecursion}
use Rattle.std.proofs.lemmas.List.{append-nil, take_rest}
use Rattle.std.proofs.lemmas.List.Concat.{flat_map-append}
use Rattle.std.proofs.Math.Seq.{set-append_seam}
use Rattle.slee_value.specs.Bytes.{spelled_bytes}
use Rattle.commit_journal.specs.Spelling.{recorded, FitsText, records_size}
use Rattle.commit_journal.specs.Kept.{batched}
use Rattle.commit_journal.specs.Batch.{or_none, payloads_in, IsBatch}
use Rattle.commit_journal.proofs.Spelled.{payloads_again}
use Rattle.commit_journal.proofs.Sizes.{length-batched}

pub all_more : (ps qs : List (List ℕ)) → AllByRecursion FitsText ps → AllByRecursion FitsText qs → AllByRecursion FitsText (ps ++ qs)
all_more [] qs p q = q
all_more (x ∷ ps) qs p q = (p.0, all_more ps qs p.1 q)

pub payloads_in_batched : (batch : List (List ℕ)) → AllByRecursion FitsText batch → payloads_in (batched batch) ≡ batch
unfolding payloads_in
payloads_in_batched batch fits = ap or_none (payloads_again (length (batched batch)) batch 0 [] fits (omega arith) (omega arith))

pub payloads_in_none : payloads_in (0 ∷ []) ≡ []
payloads_in_none = payloads_in_batched [] tt

-- the bytes of fitting payloads are a batch
pub batch_of : (bytes : List ℕ) (batch : List (List ℕ)) → AllByRecursion FitsText batch → bytes ≡ batched batch → IsBatch bytes
batch_of bytes batch fits is =
    let same : payloads_in bytes ≡ batch = ap payloads_in is ∙ payloads_in_batched batch fits in
    record { spelled = is ∙ ap batched (sym same); fits = subst (AllByRecursion FitsText) (sym same) fits }

pub none_is_batch : (bytes : List ℕ) → bytes ≡ 0 ∷ [] → IsBatch bytes
none_is_batch bytes is = batch_of bytes [] tt is

pub some_bytes : (bytes : List ℕ) → IsBatch bytes → length bytes ≡ records_size (payloads_in bytes) + 1
some_bytes bytes batch = ap length batch.spelled ∙ length-batched (payloads_in bytes)

no_records : (batch : List (List ℕ)) → records_size batch ≡ 0 → batch ≡ []
no_records [] none = refl
no_records (p ∷ ps) none = absurd (omega arith)

-- one byte is the batch of no payload
pub nothing_in : (bytes : List ℕ) → IsBatch bytes → length bytes ≡ 1 → payloads_in bytes ≡ []
nothing_in bytes batch one = no_records (payloads_in bytes) (omega (arith, some_bytes bytes batch, one))

pub emptied : (bytes rest : List ℕ) → 0 < length bytes → rest ≡ take 1 bytes → set rest 0 0 ≡ 0 ∷ []
emptied [] rest some is = absurd (omega arith)
emptied (b ∷ bytes) rest some is = ap (λ (l : List ℕ). set l 0 0) is

behind_batched : (bytes : List ℕ) (batch : List (List ℕ)) → batch ≢ [] → bytes ≡ batched batch → 1 ∷ drop 1 bytes ≡ batched batch
behind_batched bytes [] some is = absurd (some refl)
behind_batched bytes (p ∷ ps) some is = ap (λ (l : List ℕ). 1 ∷ drop 1 l) is

-- what stands behind the gate before a batch
pub behind_is : (bytes : List ℕ) → IsBatch bytes → payloads_in bytes ≢ [] → 1 ∷ take (length bytes - 1) (drop 1 bytes) ≡ batched (payloads_in bytes)
behind_is bytes batch some = ap (λ (l : List ℕ). 1 ∷ l) (take_rest bytes 1) ∙ behind_batched bytes (payloads_in bytes) some batch.spelled

-- ---- the bytes of a batch, with one payload more
pub batched_more : (batch : List (List ℕ)) (payload : List ℕ) → set (batched batch) (length (batched batch) - 1) 1 ++ (spelled_bytes payload ++ 0 ∷ []) ≡ batched (batch ++ payload ∷ [])
batched_more batch payload =
    let records = flat_map recorded batch in
    let last : length (batched batch) - 1 ≡ length records = omega (arith, length-append records (0 ∷ [])) in
    ap (λ n. set (batched batch) n 1 ++ (spelled_bytes payload ++ 0 ∷ [])) last
    ∙ ap (λ (l : List ℕ). l ++ (spelled_bytes payload ++ 0 ∷ [])) (set-append_seam records 0 [] 1)
    ∙ append_assoc records (1 ∷ []) (spelled_bytes payload ++ 0 ∷ [])
    ∙ sym (append_assoc records (recorded payload) (0 ∷ []))
    ∙ ap (λ (l : List ℕ). records ++ l ++ 0 ∷ []) (sym (append-nil (recorded payload)))
    ∙ ap (λ (l : List ℕ). l ++ 0 ∷ []) (sym (flat_map-append recorded batch (payload ∷ [])))

-- one payload more in a batch
pub more_in : (bytes new : List ℕ) (payload : List ℕ) → IsBatch bytes → FitsText payload → new ≡ set bytes (length bytes - 1) 1 ++ (spelled_bytes payload ++ 0 ∷ []) → new ≡ batched (payloads_in bytes ++ payload ∷ [])
more_in bytes new payload batch fits is = is ∙ ap (λ (l : List ℕ). set l (length l - 1) 1 ++ (spelled_bytes payload ++ 0 ∷ [])) batch.spelled ∙ batched_more (payloads_in bytes) payload

pub more_is_batch : (bytes new : List ℕ) (payload : List ℕ) → IsBatch bytes → FitsText payload → new ≡ batched (payloads_in bytes ++ payload ∷ []) → IsBatch new
more_is_batch bytes new payload batch fits is = batch_of new (payloads_in bytes ++ payload ∷ []) (all_more (payloads_in bytes) (payload ∷ []) batch.fits (fits, tt)) is

pub more_payloads : (bytes new : List ℕ) (payload : List ℕ) → IsBatch bytes → FitsText payload → new ≡ batched (payloads_in bytes ++ payload ∷ []) → payloads_in new ≡ payloads_in bytes ++ payload ∷ []
more_payloads bytes new payload batch fits is = ap payloads_in is ∙ payloads_in_batched (payloads_in bytes ++ payload ∷ []) (all_more (payloads_in bytes) (payload ∷ []) batch.fits (fits, tt))
