-- The parts of effects are read as they are spelled.
use Rattle.std.proofs.Common.{◌≡◌, ℕ, ◌^◌, ◌<◌, List, [], ◌∷◌, ◌++◌, Ok, refl, subst, arith}
use Rattle.std.specs.Prelude.{⊤}
use Rattle.std.specs.Int.{w32, w64}
use Rattle.slee_value.specs.declared.keep.Keep.{Keep}
use Rattle.slee_value.specs.declared.keep.Keep.TheVariants.{All, Last, NoneMissed}
use Rattle.slee_value.specs.Bytes.{spelled_u32, spelled_u64, spelling_of_value, Fits as FitsValue}
use Rattle.slee_value.specs.Reading.{mapped, number_at, value_at}
use Rattle.slee_value.proofs.ReadLemmas.{AreBytes, Takes, Begins, Reads, IsCase, case_again, case_bytes, ok_is}
use Rattle.slee_value.proofs.TagLemmas.{IsRow, AreRows, none_left, one_more, case_row, reads_tagged}
use Rattle.slee_value.proofs.PartLemmas.{reads_u32, reads_u64}
use Rattle.slee_value.proofs.ValueLemmas.{reads_value}
use Rattle.slee_effect.specs.declared.tag.TheConstants.{KNOWN, FRESH, PLAIN, NEW_ACTIVITY, NEW_TIMER, KEEP_ALL, KEEP_LAST, KEEP_NONE}
use Rattle.slee_effect.specs.declared.reference.Ref.{Ref}
use Rattle.slee_effect.specs.declared.reference.Ref.TheVariants.{Known, Fresh}
use Rattle.slee_effect.specs.declared.value.Val.{Val}
use Rattle.slee_effect.specs.declared.value.Val.TheVariants.{Plain, NewActivity, NewTimer}
use Rattle.slee_effect.specs.Bytes.{spelled_keep, spelled_ref, spelled_val}
use Rattle.slee_effect.specs.Fitting.{FitsRef, FitsVal}
use Rattle.slee_effect.specs.Reading.{nothing_at, keeps_by_tag, keep_at, refs_by_tag, ref_at, vals_by_tag, val_at}

-- ---- nothing

pub reads_nothing : Reads (λ (u : Unit {0}). []) (λ u. ⊤) nothing_at
reads_nothing = record {
  takes = λ bytes x h e. subst (λ (z : Unit {0} × List ℕ). Takes bytes [] z.1 × ⊤) (ok_is (tt, bytes) x e) (record { parts = refl; rest_bytes = h }, tt);
  again = λ x rest f. refl;
  stuck = λ bytes f h e. absurd cc;
  some = (tt, [], tt, refl);
  bytes = λ x f. tt;
  loosen = λ x f. f;
}

-- ---- which occurrences are kept

keep_case : (tag : ℕ) (keep : Keep) → spelled_keep keep ≡ tag ∷ [] → ((bytes : List ℕ) → keep_at (tag ∷ bytes) ≡ Ok (keep, bytes)) → IsCase spelled_keep (λ k. ⊤) keep_at tag (λ (u : Unit {0}). keep) (λ u. []) (λ u. ⊤) nothing_at
keep_case tag keep spells reads = record { spells = λ x. spells; fit = λ x f. f; loosens = λ x f. f; reads = λ bytes. reads bytes }

keep_again : (x : Keep) (rest : List ℕ) → ⊤ → keep_at (spelled_keep x ++ rest) ≡ Ok (x, rest)
keep_again All rest h = refl
keep_again Last rest h = refl
keep_again NoneMissed rest h = refl

keep_bytes : (x : Keep) → ⊤ → AreBytes (spelled_keep x)
keep_bytes All h = (omega arith, tt)
keep_bytes Last h = (omega arith, tt)
keep_bytes NoneMissed h = (omega arith, tt)

keep_some : Begins spelled_keep (λ keep. ⊤) []
keep_some = (All, KEEP_ALL ∷ [], tt, refl)

keep_row : (tag : ℕ) (keep : Keep) → spelled_keep keep ≡ tag ∷ [] → ((bytes : List ℕ) → keep_at (tag ∷ bytes) ≡ Ok (keep, bytes)) → IsRow spelled_keep (λ k. ⊤) (λ k. ⊤) keep_at tag (mapped (λ (u : Unit {0}). keep) nothing_at)
keep_row tag keep spells reads = case_row spelled_keep (λ k. ⊤) (λ k. ⊤) keep_at keep_again keep_bytes keep_some tag (λ (u : Unit {0}). keep) (λ u. []) (λ u. ⊤) (λ u. ⊤) nothing_at (keep_case tag keep spells reads) reads_nothing

keep_rows : AreRows spelled_keep (λ k. ⊤) (λ k. ⊤) keep_at keeps_by_tag
keep_rows =
    one_more _ _ (keep_row KEEP_ALL All refl (λ bytes. refl)) (one_more _ _ (keep_row KEEP_LAST Last refl (λ bytes. refl)) (one_more _ _ (keep_row KEEP_NONE NoneMissed refl (λ bytes. refl)) none_left))

pub reads_keep : Reads spelled_keep (λ keep. ⊤) keep_at
reads_keep = reads_tagged spelled_keep (λ k. ⊤) (λ k. ⊤) keeps_by_tag keep_again keep_bytes keep_some (λ x f. f) keep_rows

-- ---- references

known_case : IsCase spelled_ref FitsRef ref_at KNOWN (λ n. Known n) spelled_u64 (λ n. n < 2 ^ 64) (number_at w64)
known_case = record { spells = λ x. refl; fit = λ x f. f; loosens = λ x f. f; reads = λ bytes. refl }

fresh_case : IsCase spelled_ref FitsRef ref_at FRESH (λ n. Fresh n) spelled_u32 (λ n. n < 2 ^ 32) (number_at w32)
fresh_case = record { spells = λ x. refl; fit = λ x f. f; loosens = λ x f. f; reads = λ bytes. refl }

ref_again : (x : Ref) (rest : List ℕ) → FitsRef x → ref_at (spelled_ref x ++ rest) ≡ Ok (x, rest)
ref_again (Known n) rest f = case_again _ _ _ _ _ _ _ _ _ _ known_case reads_u64 n rest f
ref_again (Fresh n) rest f = case_again _ _ _ _ _ _ _ _ _ _ fresh_case reads_u32 n rest f

ref_bytes : (x : Ref) → FitsRef x → AreBytes (spelled_ref x)
ref_bytes (Known n) f = case_bytes _ _ _ _ _ _ _ _ _ _ known_case reads_u64 n (omega arith) f
ref_bytes (Fresh n) f = case_bytes _ _ _ _ _ _ _ _ _ _ fresh_case reads_u32 n (omega arith) f

ref_some : Begins spelled_ref FitsRef []
ref_some = (Known 0, spelled_ref (Known 0), omega arith, refl)

ref_rows : AreRows spelled_ref FitsRef FitsRef ref_at refs_by_tag
ref_rows =
    one_more _ _ (case_row spelled_ref FitsRef FitsRef ref_at ref_again ref_bytes ref_some KNOWN (λ n. Known n) spelled_u64 (λ n. n < 2 ^ 64) (λ n. n < 2 ^ 64) (number_at w64) known_case reads_u64)
    (one_more _ _ (case_row spelled_ref FitsRef FitsRef ref_at ref_again ref_bytes ref_some FRESH (λ n. Fresh n) spelled_u32 (λ n. n < 2 ^ 32) (λ n. n < 2 ^ 32) (number_at w32) fresh_case reads_u32) none_left)

pub reads_ref : Reads spelled_ref FitsRef ref_at
reads_ref = reads_tagged spelled_ref FitsRef FitsRef refs_by_tag ref_again ref_bytes ref_some (λ x f. f) ref_rows

-- ---- values

plain_case : IsCase spelled_val FitsVal val_at PLAIN (λ v. Plain v) spelling_of_value FitsValue value_at
plain_case = record { spells = λ x. refl; fit = λ x f. f; loosens = λ x f. f; reads = λ bytes. refl }

activity_case : IsCase spelled_val FitsVal val_at NEW_ACTIVITY (λ n. NewActivity n) spelled_u32 (λ n. n < 2 ^ 32) (number_at w32)
activity_case = record { spells = λ x. refl; fit = λ x f. f; loosens = λ x f. f; reads = λ bytes. refl }

timer_case : IsCase spelled_val FitsVal val_at NEW_TIMER (λ n. NewTimer n) spelled_u32 (λ n. n < 2 ^ 32) (number_at w32)
timer_case = record { spells = λ x. refl; fit = λ x f. f; loosens = λ x f. f; reads = λ bytes. refl }

val_again : (x : Val) (rest : List ℕ) → FitsVal x → val_at (spelled_val x ++ rest) ≡ Ok (x, rest)
val_again (Plain v) rest f = case_again _ _ _ _ _ _ _ _ _ _ plain_case reads_value v rest f
val_again (NewActivity n) rest f = case_again _ _ _ _ _ _ _ _ _ _ activity_case reads_u32 n rest f
val_again (NewTimer n) rest f = case_again _ _ _ _ _ _ _ _ _ _ timer_case reads_u32 n rest f

val_bytes : (x : Val) → FitsVal x → AreBytes (spelled_val x)
val_bytes (Plain v) f = case_bytes _ _ _ _ _ _ _ _ _ _ plain_case reads_value v (omega arith) f
val_bytes (NewActivity n) f = case_bytes _ _ _ _ _ _ _ _ _ _ activity_case reads_u32 n (omega arith) f
val_bytes (NewTimer n) f = case_bytes _ _ _ _ _ _ _ _ _ _ timer_case reads_u32 n (omega arith) f

pub example_val : Val
example_val = NewActivity 0

pub example_fits : FitsVal example_val
unfolding example_val
example_fits = omega arith

val_some : Begins spelled_val FitsVal []
val_some = (example_val, spelled_val example_val, example_fits, refl)

val_rows : AreRows spelled_val FitsVal FitsVal val_at vals_by_tag
val_rows =
    one_more _ _ (case_row spelled_val FitsVal FitsVal val_at val_again val_bytes val_some PLAIN (λ v. Plain v) spelling_of_value FitsValue FitsValue value_at plain_case reads_value)
    (one_more _ _ (case_row spelled_val FitsVal FitsVal val_at val_again val_bytes val_some NEW_ACTIVITY (λ n. NewActivity n) spelled_u32 (λ n. n < 2 ^ 32) (λ n. n < 2 ^ 32) (number_at w32) activity_case reads_u32)
    (one_more _ _ (case_row spelled_val FitsVal FitsVal val_at val_again val_bytes val_some NEW_TIMER (λ n. NewTimer n) spelled_u32 (λ n. n < 2 ^ 32) (λ n. n < 2 ^ 32) (number_at w32) timer_case reads_u32) none_left))

pub reads_val : Reads spelled_val FitsVal val_at
reads_val = reads_tagged spelled_val FitsVal FitsVal vals_by_tag val_again val_bytes val_some (λ x f. f) val_rows
