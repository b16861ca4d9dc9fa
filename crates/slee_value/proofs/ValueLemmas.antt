-- Values are read as they are spelled.
use Rattle.std.proofs.Common.{◌≡◌, ℕ, zero, suc, ◌+◌, ◌^◌, ◌<◌, ℤ, Bool, false, List, [], ◌∷◌, ◌++◌, length, Result, Ok, Err, refl, sym, ap, subst, ◌∙◌, arith, FitsSigned}
use Rattle.std.specs.Prelude.{⊤}
use Rattle.std.specs.Int.{w64}
use Rattle.slee_value.specs.declared.value.Value.{Value}
use Rattle.slee_value.specs.declared.value.Value.TheVariants.{Int, Text, Bool as Flag, Activity, Timer}
use Rattle.slee_value.specs.declared.tag.TheConstants.{INT_TAG, TEXT_TAG, FLAG_TAG, ACTIVITY_TAG, TIMER_TAG}
use Rattle.slee_value.specs.Bytes.{spelled_u64, spelled_i64, spelled_text, spelled_flag, spelling_of_value, FitsText, Fits}
use Rattle.slee_value.specs.Reading.{Part, Rows, mapped, number_at, i64_at, text_at, flag_at, values_by_tag, value_at}
use Rattle.slee_value.proofs.TagLemmas.{IsRow, AreRows, none_left, one_more, case_row, reads_tagged}
use Rattle.slee_value.proofs.ReadLemmas.{AreBytes, Begins, Reads, IsCase, case_again}
use Rattle.slee_value.proofs.PartLemmas.{reads_u64, reads_i64, reads_flag}
use Rattle.slee_value.proofs.TextPartLemmas.{reads_text}

abbrev IsValueCase : {A : Type 0} → ℕ → (A → Value) → (A → List ℕ) → (A → Type 0) → (List ℕ → Part A) → Type 0
IsValueCase tag make spell fits body = IsCase spelling_of_value Fits value_at tag make spell fits body

int_case : IsValueCase INT_TAG (λ z. Int z) spelled_i64 (FitsSigned w64) i64_at
int_case = record { spells = λ x. refl; fit = λ x f. f; loosens = λ x f. f; reads = λ bytes. refl }

text_case : IsValueCase TEXT_TAG (λ text. Text text) spelled_text FitsText text_at
text_case = record { spells = λ x. refl; fit = λ x f. f; loosens = λ x f. f; reads = λ bytes. refl }

flag_case : IsValueCase FLAG_TAG (λ flag. Flag flag) spelled_flag (λ flag. ⊤) flag_at
flag_case = record { spells = λ x. refl; fit = λ x f. f; loosens = λ x f. f; reads = λ bytes. refl }

activity_case : IsValueCase ACTIVITY_TAG (λ n. Activity (record { 0 = n })) spelled_u64 (λ n. n < 2 ^ 64) (number_at w64)
activity_case = record { spells = λ x. refl; fit = λ x f. f; loosens = λ x f. f; reads = λ bytes. refl }

timer_case : IsValueCase TIMER_TAG (λ n. Timer (record { 0 = n })) spelled_u64 (λ n. n < 2 ^ 64) (number_at w64)
timer_case = record { spells = λ x. refl; fit = λ x f. f; loosens = λ x f. f; reads = λ bytes. refl }

value_again : (x : Value) (rest : List ℕ) → Fits x → value_at (spelling_of_value x ++ rest) ≡ Ok (x, rest)
value_again (Int z) rest f = case_again _ _ _ _ _ _ _ _ _ _ int_case reads_i64 z rest f
value_again (Text text) rest f = case_again _ _ _ _ _ _ _ _ _ _ text_case reads_text text rest f
value_again (Flag flag) rest f = case_again _ _ _ _ _ _ _ _ _ _ flag_case reads_flag flag rest f
value_again (Activity activity) rest f = case_again _ _ _ _ _ _ _ _ _ _ activity_case reads_u64 activity.0 rest f
value_again (Timer timer) rest f = case_again _ _ _ _ _ _ _ _ _ _ timer_case reads_u64 timer.0 rest f

value_some : Begins spelling_of_value Fits []
value_some = (Flag false, FLAG_TAG ∷ 0 ∷ [], tt, refl)

value_bytes : (x : Value) → Fits x → AreBytes (spelling_of_value x)
value_bytes (Int z) f = (omega arith, reads_i64.bytes z f)
value_bytes (Text text) f = (omega arith, reads_text.bytes text f)
value_bytes (Flag flag) f = (omega arith, reads_flag.bytes flag f)
value_bytes (Activity activity) f = (omega arith, reads_u64.bytes activity.0 f)
value_bytes (Timer timer) f = (omega arith, reads_u64.bytes timer.0 f)

abbrev IsValueRow : ℕ → (List ℕ → Part Value) → Type 0
IsValueRow tag body = IsRow spelling_of_value Fits Fits value_at tag body

abbrev AreValueRows : Rows Value → Type 0
AreValueRows rows = AreRows spelling_of_value Fits Fits value_at rows

value_row : {A : Type 0} (tag : ℕ) (make : A → Value) (spell : A → List ℕ) (fits : A → Type 0) (body : List ℕ → Part A) → IsValueCase tag make spell fits body → Reads spell fits body → IsValueRow tag (mapped make body)
value_row tag make spell fits body is reads = case_row spelling_of_value Fits Fits value_at value_again value_bytes value_some tag make spell fits fits body is reads

infixr 10 ◌&◌
◌&◌ : {row : ℕ × (List ℕ → Part Value)} {rows : Rows Value} → IsRow spelling_of_value Fits Fits value_at row.0 row.1 → AreRows spelling_of_value Fits Fits value_at rows → AreRows spelling_of_value Fits Fits value_at (row ∷ rows)
◌&◌ {row} {rows} here others = one_more row rows here others

value_rows : AreValueRows values_by_tag
value_rows =
    value_row INT_TAG (λ z. Int z) spelled_i64 (FitsSigned w64) i64_at int_case reads_i64
    & value_row TEXT_TAG (λ text. Text text) spelled_text FitsText text_at text_case reads_text
    & value_row FLAG_TAG (λ flag. Flag flag) spelled_flag (λ flag. ⊤) flag_at flag_case reads_flag
    & value_row ACTIVITY_TAG (λ n. Activity (record { 0 = n })) spelled_u64 (λ n. n < 2 ^ 64) (number_at w64) activity_case reads_u64
    & value_row TIMER_TAG (λ n. Timer (record { 0 = n })) spelled_u64 (λ n. n < 2 ^ 64) (number_at w64) timer_case reads_u64
    & none_left

pub reads_value : Reads spelling_of_value Fits value_at
reads_value = reads_tagged spelling_of_value Fits Fits values_by_tag value_again value_bytes value_some (λ x f. f) value_rows
