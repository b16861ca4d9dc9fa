-- Each effect is read as it is spelled.
use Rattle.std.proofs.Common.{◌≡◌, ℕ, zero, suc, ◌+◌, ◌^◌, ◌<◌, ℤ, Bool, List, [], ◌∷◌, ◌++◌, length, Option, Ok, Err, refl, arith, FitsSigned}
use Rattle.std.specs.Prelude.{⊤}
use Rattle.std.specs.Int.{w8, w64}
use Rattle.slee_value.specs.declared.keep.Keep.{Keep}
use Rattle.slee_value.specs.Order.{names_of}
use Rattle.slee_value.specs.Bytes.{spelled_u64, spelled_i8, spelled_i64, spelled_text, spelled_flag, spelled_option, FitsOption, FitsText}
use Rattle.slee_value.specs.Reading.{Part, Rows, mapped, pair, number_at, i8_at, i64_at, flag_at, option_at, text_at}
use Rattle.slee_value.proofs.ReadLemmas.{AreBytes, Begins, ReadsBy, spell_pair, fits_pair, reads_pair, IsCaseBy, case_again, case_bytes}
use Rattle.slee_value.proofs.TagLemmas.{IsRow, AreRows, none_left, one_more, case_row, reads_tagged}
use Rattle.slee_value.proofs.BytesLemmas.{reads_option}
use Rattle.slee_value.proofs.PartLemmas.{reads_u64, reads_i8, reads_i64, reads_flag}
use Rattle.slee_value.proofs.TextPartLemmas.{reads_text}
use Rattle.slee_effect.specs.declared.reference.Ref.{Ref}
use Rattle.slee_effect.specs.declared.value.Val.{Val}
use Rattle.slee_effect.specs.declared.tag.TheConstants.{SET_FIELD, SET_ATTR, CREATE, REMOVE, SET_PRIORITY, ATTACH, DETACH, SET_MASK, FIRE, NEW_NULL, END_NULL, SET_TIMER, CANCEL_TIMER, BIND, UNBIND, EMIT, USAGE, SUSPEND, RESUME}
use Rattle.slee_effect.specs.declared.effect.Effect.{Effect}
use Rattle.slee_effect.specs.declared.effect.Effect.TheVariants.{SetField, SetAttr, Create, Remove, SetPriority, Attach, Detach, SetMask, Fire, NewNull, EndNull, SetTimer, CancelTimer, Bind, Unbind, Emit, Usage, Suspend, Resume}
use Rattle.slee_effect.specs.Bytes.{spelled_keep, spelled_ref, spelled_val, spelled_fields, spelled_effect}
use Rattle.slee_effect.specs.Fitting.{FitsRef, FitsVal, AreLooseFields, AreRisingFields, FitsEffect, IsLooseEffect}
use Rattle.slee_effect.specs.Reading.{nothing_at, keep_at, ref_at, val_at, fields_at, effects_by_tag, effect_at}
use Rattle.slee_effect.proofs.PieceLemmas.{reads_nothing, reads_keep, reads_ref, reads_val}
use Rattle.slee_effect.proofs.FieldLemmas.{rise_loosely, reads_fields}

-- ---- shapes: how a part is spelled, what fits, and how it is read

record Shape (A : Type 0) : Type 1 where
  spell : A → List ℕ
  fits : A → Type 0
  loose : A → Type 0
  read : List ℕ → Part A

abbrev IsRead : {A : Type 0} → Shape A → Type 0
IsRead s = ReadsBy s.spell s.fits s.loose s.read

abbrev both : {A B : Type 0} → Shape A → Shape B → Shape (A × B)
both a b = record { spell = spell_pair a.spell b.spell; fits = fits_pair a.fits b.fits; loose = fits_pair a.loose b.loose; read = pair a.read b.read }

read_both : {A B : Type 0} (a : Shape A) (b : Shape B) → IsRead a → IsRead b → IsRead (both a b)
read_both a b p q = reads_pair a.spell a.fits a.loose a.read b.spell b.fits b.loose b.read p q

abbrev strict : {A : Type 0} → (A → List ℕ) → (A → Type 0) → (List ℕ → Part A) → Shape A
strict spell fits read = record { spell = spell; fits = fits; loose = fits; read = read }

abbrev nothing : Shape (Unit {0})
nothing = strict (λ u. []) (λ u. ⊤) nothing_at

abbrev one : Shape Ref
one = strict spelled_ref FitsRef ref_at

abbrev text : Shape (List ℕ)
text = strict spelled_text FitsText text_at

abbrev val : Shape Val
val = strict spelled_val FitsVal val_at

abbrev rank : Shape ℤ
rank = strict spelled_i8 (FitsSigned w8) i8_at

abbrev amount : Shape ℤ
amount = strict spelled_i64 (FitsSigned w64) i64_at

abbrev moment : Shape ℕ
moment = strict spelled_u64 (λ n. n < 2 ^ 64) (number_at w64)

abbrev flag : Shape Bool
flag = strict spelled_flag (λ f. ⊤) flag_at

abbrev kept : Shape Keep
kept = strict spelled_keep (λ k. ⊤) keep_at

abbrev option : Shape (Option (List ℕ))
option = strict (spelled_option spelled_text) (FitsOption FitsText) (option_at text_at)

abbrev fields : Shape (List (List ℕ × Val))
fields = record { spell = spelled_fields; fits = AreRisingFields; loose = AreLooseFields; read = fields_at }

abbrev setting : Shape (Ref × (List ℕ × Val))
setting = both one (both text val)

read_setting : IsRead setting
read_setting = read_both one (both text val) reads_ref (read_both text val reads_text reads_val)

abbrev creation : Shape (Ref × (List ℕ × ℤ))
creation = both one (both text rank)

read_creation : IsRead creation
read_creation = read_both one (both text rank) reads_ref (read_both text rank reads_text reads_i8)

abbrev ranked : Shape (Ref × ℤ)
ranked = both one rank

read_ranked : IsRead ranked
read_ranked = read_both one rank reads_ref reads_i8

abbrev two : Shape (Ref × Ref)
two = both one one

read_two : IsRead two
read_two = read_both one one reads_ref reads_ref

abbrev masked : Shape (Ref × (Ref × (List ℕ × Bool)))
masked = both one (both one (both text flag))

read_masked : IsRead masked
read_masked = read_both one (both one (both text flag)) reads_ref (read_both one (both text flag) reads_ref (read_both text flag reads_text reads_flag))

abbrev firing : Shape (Ref × (List ℕ × (Option (List ℕ) × List (List ℕ × Val))))
firing = both one (both text (both option fields))

read_firing : IsRead firing
read_firing = read_both one (both text (both option fields)) reads_ref (read_both text (both option fields) reads_text (read_both option fields (reads_option spelled_text FitsText FitsText text_at reads_text) reads_fields))

abbrev timed : Shape (Ref × (ℕ × (ℕ × (ℕ × Keep))))
timed = both one (both moment (both moment (both moment kept)))

read_timed : IsRead timed
read_timed = read_both one (both moment (both moment (both moment kept))) reads_ref (read_both moment (both moment (both moment kept)) reads_u64 (read_both moment (both moment kept) reads_u64 (read_both moment kept reads_u64 reads_keep)))

abbrev bound : Shape (List ℕ × Ref)
bound = both text one

read_bound : IsRead bound
read_bound = read_both text one reads_text reads_ref

abbrev said : Shape (Ref × List ℕ)
said = both one text

read_said : IsRead said
read_said = read_both one text reads_ref reads_text

abbrev counted : Shape (Ref × (List ℕ × ℤ))
counted = both one (both text amount)

read_counted : IsRead counted
read_counted = read_both one (both text amount) reads_ref (read_both text amount reads_text reads_i64)

abbrev delayed : Shape (Ref × ℕ)
delayed = both one moment

read_delayed : IsRead delayed
read_delayed = read_both one moment reads_ref reads_u64

-- ---- the effects by their first byte

abbrev IsEffectCase : {A : Type 0} → ℕ → (A → Effect) → Shape A → Type 0
IsEffectCase tag make s = IsCaseBy spelled_effect FitsEffect IsLooseEffect effect_at tag make s.spell s.fits s.loose s.read

set_field_case : IsEffectCase SET_FIELD (λ p. SetField p.0 p.1.0 p.1.1) setting
set_field_case = record { spells = λ x. refl; fit = λ x f. f; loosens = λ x f. f; reads = λ bytes. refl }

set_attr_case : IsEffectCase SET_ATTR (λ p. SetAttr p.0 p.1.0 p.1.1) setting
set_attr_case = record { spells = λ x. refl; fit = λ x f. f; loosens = λ x f. f; reads = λ bytes. refl }

create_case : IsEffectCase CREATE (λ p. Create p.0 p.1.0 p.1.1) creation
create_case = record { spells = λ x. refl; fit = λ x f. f; loosens = λ x f. f; reads = λ bytes. refl }

remove_case : IsEffectCase REMOVE (λ p. Remove p) one
remove_case = record { spells = λ x. refl; fit = λ x f. f; loosens = λ x f. f; reads = λ bytes. refl }

set_priority_case : IsEffectCase SET_PRIORITY (λ p. SetPriority p.0 p.1) ranked
set_priority_case = record { spells = λ x. refl; fit = λ x f. f; loosens = λ x f. f; reads = λ bytes. refl }

attach_case : IsEffectCase ATTACH (λ p. Attach p.0 p.1) two
attach_case = record { spells = λ x. refl; fit = λ x f. f; loosens = λ x f. f; reads = λ bytes. refl }

detach_case : IsEffectCase DETACH (λ p. Detach p.0 p.1) two
detach_case = record { spells = λ x. refl; fit = λ x f. f; loosens = λ x f. f; reads = λ bytes. refl }

set_mask_case : IsEffectCase SET_MASK (λ p. SetMask p.0 p.1.0 p.1.1.0 p.1.1.1) masked
set_mask_case = record { spells = λ x. refl; fit = λ x f. f; loosens = λ x f. f; reads = λ bytes. refl }

fire_case : IsEffectCase FIRE (λ p. Fire p.0 p.1.0 p.1.1.0 p.1.1.1) firing
fire_case = record { spells = λ x. refl; fit = λ x f. f; loosens = λ x f. f; reads = λ bytes. refl }

new_null_case : IsEffectCase NEW_NULL (λ p. NewNull) nothing
new_null_case = record { spells = λ x. refl; fit = λ x f. f; loosens = λ x f. f; reads = λ bytes. refl }

end_null_case : IsEffectCase END_NULL (λ p. EndNull p) one
end_null_case = record { spells = λ x. refl; fit = λ x f. f; loosens = λ x f. f; reads = λ bytes. refl }

set_timer_case : IsEffectCase SET_TIMER (λ p. SetTimer p.0 p.1.0 p.1.1.0 p.1.1.1.0 p.1.1.1.1) timed
set_timer_case = record { spells = λ x. refl; fit = λ x f. f; loosens = λ x f. f; reads = λ bytes. refl }

cancel_timer_case : IsEffectCase CANCEL_TIMER (λ p. CancelTimer p) one
cancel_timer_case = record { spells = λ x. refl; fit = λ x f. f; loosens = λ x f. f; reads = λ bytes. refl }

bind_case : IsEffectCase BIND (λ p. Bind p.0 p.1) bound
bind_case = record { spells = λ x. refl; fit = λ x f. f; loosens = λ x f. f; reads = λ bytes. refl }

unbind_case : IsEffectCase UNBIND (λ p. Unbind p) text
unbind_case = record { spells = λ x. refl; fit = λ x f. f; loosens = λ x f. f; reads = λ bytes. refl }

emit_case : IsEffectCase EMIT (λ p. Emit p.0 p.1) said
emit_case = record { spells = λ x. refl; fit = λ x f. f; loosens = λ x f. f; reads = λ bytes. refl }

usage_case : IsEffectCase USAGE (λ p. Usage p.0 p.1.0 p.1.1) counted
usage_case = record { spells = λ x. refl; fit = λ x f. f; loosens = λ x f. f; reads = λ bytes. refl }

suspend_case : IsEffectCase SUSPEND (λ p. Suspend p.0 p.1) delayed
suspend_case = record { spells = λ x. refl; fit = λ x f. f; loosens = λ x f. f; reads = λ bytes. refl }

resume_case : IsEffectCase RESUME (λ p. Resume p) one
resume_case = record { spells = λ x. refl; fit = λ x f. f; loosens = λ x f. f; reads = λ bytes. refl }

pub effect_again : (x : Effect) (rest : List ℕ) → FitsEffect x → effect_at (spelled_effect x ++ rest) ≡ Ok (x, rest)
effect_again (SetField entity name value) rest f = case_again _ _ _ _ _ _ _ _ _ _ set_field_case read_setting (entity, (name, value)) rest f
effect_again (SetAttr activity key value) rest f = case_again _ _ _ _ _ _ _ _ _ _ set_attr_case read_setting (activity, (key, value)) rest f
effect_again (Create parent relation priority) rest f = case_again _ _ _ _ _ _ _ _ _ _ create_case read_creation (parent, (relation, priority)) rest f
effect_again (Remove entity) rest f = case_again _ _ _ _ _ _ _ _ _ _ remove_case reads_ref entity rest f
effect_again (SetPriority entity priority) rest f = case_again _ _ _ _ _ _ _ _ _ _ set_priority_case read_ranked (entity, priority) rest f
effect_again (Attach entity activity) rest f = case_again _ _ _ _ _ _ _ _ _ _ attach_case read_two (entity, activity) rest f
effect_again (Detach entity activity) rest f = case_again _ _ _ _ _ _ _ _ _ _ detach_case read_two (entity, activity) rest f
effect_again (SetMask entity activity event on) rest f = case_again _ _ _ _ _ _ _ _ _ _ set_mask_case read_masked (entity, (activity, (event, on))) rest f
effect_again (Fire activity event service row) rest f = case_again _ _ _ _ _ _ _ _ _ _ fire_case read_firing (activity, (event, (service, row))) rest f
effect_again NewNull rest f = case_again _ _ _ _ _ _ _ _ _ _ new_null_case reads_nothing tt rest f
effect_again (EndNull activity) rest f = case_again _ _ _ _ _ _ _ _ _ _ end_null_case reads_ref activity rest f
effect_again (SetTimer activity start period times keep) rest f = case_again _ _ _ _ _ _ _ _ _ _ set_timer_case read_timed (activity, (start, (period, (times, keep)))) rest f
effect_again (CancelTimer timer) rest f = case_again _ _ _ _ _ _ _ _ _ _ cancel_timer_case reads_ref timer rest f
effect_again (Bind name activity) rest f = case_again _ _ _ _ _ _ _ _ _ _ bind_case read_bound (name, activity) rest f
effect_again (Unbind name) rest f = case_again _ _ _ _ _ _ _ _ _ _ unbind_case reads_text name rest f
effect_again (Emit entity words) rest f = case_again _ _ _ _ _ _ _ _ _ _ emit_case read_said (entity, words) rest f
effect_again (Usage entity name number) rest f = case_again _ _ _ _ _ _ _ _ _ _ usage_case read_counted (entity, (name, number)) rest f
effect_again (Suspend activity until) rest f = case_again _ _ _ _ _ _ _ _ _ _ suspend_case read_delayed (activity, until) rest f
effect_again (Resume activity) rest f = case_again _ _ _ _ _ _ _ _ _ _ resume_case reads_ref activity rest f

effect_bytes : (x : Effect) → FitsEffect x → AreBytes (spelled_effect x)
effect_bytes (SetField entity name value) f = case_bytes _ _ _ _ _ _ _ _ _ _ set_field_case read_setting (entity, (name, value)) (omega arith) f
effect_bytes (SetAttr activity key value) f = case_bytes _ _ _ _ _ _ _ _ _ _ set_attr_case read_setting (activity, (key, value)) (omega arith) f
effect_bytes (Create parent relation priority) f = case_bytes _ _ _ _ _ _ _ _ _ _ create_case read_creation (parent, (relation, priority)) (omega arith) f
effect_bytes (Remove entity) f = case_bytes _ _ _ _ _ _ _ _ _ _ remove_case reads_ref entity (omega arith) f
effect_bytes (SetPriority entity priority) f = case_bytes _ _ _ _ _ _ _ _ _ _ set_priority_case read_ranked (entity, priority) (omega arith) f
effect_bytes (Attach entity activity) f = case_bytes _ _ _ _ _ _ _ _ _ _ attach_case read_two (entity, activity) (omega arith) f
effect_bytes (Detach entity activity) f = case_bytes _ _ _ _ _ _ _ _ _ _ detach_case read_two (entity, activity) (omega arith) f
effect_bytes (SetMask entity activity event on) f = case_bytes _ _ _ _ _ _ _ _ _ _ set_mask_case read_masked (entity, (activity, (event, on))) (omega arith) f
effect_bytes (Fire activity event service row) f = case_bytes _ _ _ _ _ _ _ _ _ _ fire_case read_firing (activity, (event, (service, row))) (omega arith) f
effect_bytes NewNull f = case_bytes _ _ _ _ _ _ _ _ _ _ new_null_case reads_nothing tt (omega arith) f
effect_bytes (EndNull activity) f = case_bytes _ _ _ _ _ _ _ _ _ _ end_null_case reads_ref activity (omega arith) f
effect_bytes (SetTimer activity start period times keep) f = case_bytes _ _ _ _ _ _ _ _ _ _ set_timer_case read_timed (activity, (start, (period, (times, keep)))) (omega arith) f
effect_bytes (CancelTimer timer) f = case_bytes _ _ _ _ _ _ _ _ _ _ cancel_timer_case reads_ref timer (omega arith) f
effect_bytes (Bind name activity) f = case_bytes _ _ _ _ _ _ _ _ _ _ bind_case read_bound (name, activity) (omega arith) f
effect_bytes (Unbind name) f = case_bytes _ _ _ _ _ _ _ _ _ _ unbind_case reads_text name (omega arith) f
effect_bytes (Emit entity words) f = case_bytes _ _ _ _ _ _ _ _ _ _ emit_case read_said (entity, words) (omega arith) f
effect_bytes (Usage entity name number) f = case_bytes _ _ _ _ _ _ _ _ _ _ usage_case read_counted (entity, (name, number)) (omega arith) f
effect_bytes (Suspend activity until) f = case_bytes _ _ _ _ _ _ _ _ _ _ suspend_case read_delayed (activity, until) (omega arith) f
effect_bytes (Resume activity) f = case_bytes _ _ _ _ _ _ _ _ _ _ resume_case reads_ref activity (omega arith) f

effect_some : Begins spelled_effect IsLooseEffect []
effect_some = (NewNull, NEW_NULL ∷ [], tt, refl)

abbrev IsEffectRow : ℕ × (List ℕ → Part Effect) → Type 0
IsEffectRow row = IsRow spelled_effect FitsEffect IsLooseEffect effect_at row.0 row.1

abbrev AreEffectRows : Rows Effect → Type 0
AreEffectRows rows = AreRows spelled_effect FitsEffect IsLooseEffect effect_at rows

row_by : {A : Type 0} (tag : ℕ) (make : A → Effect) (s : Shape A) → IsEffectCase tag make s → IsRead s → IsRow spelled_effect FitsEffect IsLooseEffect effect_at tag (mapped make s.read)
row_by tag make s is reads = case_row spelled_effect FitsEffect IsLooseEffect effect_at effect_again effect_bytes effect_some tag make s.spell s.fits s.loose s.read is reads

infixr 10 ◌&◌
◌&◌ : {row : ℕ × (List ℕ → Part Effect)} {rows : Rows Effect} → IsRow spelled_effect FitsEffect IsLooseEffect effect_at row.0 row.1 → AreRows spelled_effect FitsEffect IsLooseEffect effect_at rows → AreRows spelled_effect FitsEffect IsLooseEffect effect_at (row ∷ rows)
◌&◌ {row} {rows} here others = one_more row rows here others

effect_rows : AreEffectRows effects_by_tag
effect_rows =
    row_by SET_FIELD (λ p. SetField p.0 p.1.0 p.1.1) setting set_field_case read_setting
    & row_by SET_ATTR (λ p. SetAttr p.0 p.1.0 p.1.1) setting set_attr_case read_setting
    & row_by CREATE (λ p. Create p.0 p.1.0 p.1.1) creation create_case read_creation
    & row_by REMOVE (λ p. Remove p) one remove_case reads_ref
    & row_by SET_PRIORITY (λ p. SetPriority p.0 p.1) ranked set_priority_case read_ranked
    & row_by ATTACH (λ p. Attach p.0 p.1) two attach_case read_two
    & row_by DETACH (λ p. Detach p.0 p.1) two detach_case read_two
    & row_by SET_MASK (λ p. SetMask p.0 p.1.0 p.1.1.0 p.1.1.1) masked set_mask_case read_masked
    & row_by FIRE (λ p. Fire p.0 p.1.0 p.1.1.0 p.1.1.1) firing fire_case read_firing
    & row_by NEW_NULL (λ p. NewNull) nothing new_null_case reads_nothing
    & row_by END_NULL (λ p. EndNull p) one end_null_case reads_ref
    & row_by SET_TIMER (λ p. SetTimer p.0 p.1.0 p.1.1.0 p.1.1.1.0 p.1.1.1.1) timed set_timer_case read_timed
    & row_by CANCEL_TIMER (λ p. CancelTimer p) one cancel_timer_case reads_ref
    & row_by BIND (λ p. Bind p.0 p.1) bound bind_case read_bound
    & row_by UNBIND (λ p. Unbind p) text unbind_case reads_text
    & row_by EMIT (λ p. Emit p.0 p.1) said emit_case read_said
    & row_by USAGE (λ p. Usage p.0 p.1.0 p.1.1) counted usage_case read_counted
    & row_by SUSPEND (λ p. Suspend p.0 p.1) delayed suspend_case read_delayed
    & row_by RESUME (λ p. Resume p) one resume_case reads_ref
    & none_left

loosen_effect : (x : Effect) → FitsEffect x → IsLooseEffect x
loosen_effect (SetField entity name value) f = f
loosen_effect (SetAttr activity key value) f = f
loosen_effect (Create parent relation priority) f = f
loosen_effect (Remove entity) f = f
loosen_effect (SetPriority entity priority) f = f
loosen_effect (Attach entity activity) f = f
loosen_effect (Detach entity activity) f = f
loosen_effect (SetMask entity activity event on) f = f
loosen_effect (Fire activity event service row) f = (f.0, (f.1.0, (f.1.1.0, (f.1.1.1.0, rise_loosely (names_of row) f.1.1.1.1))))
loosen_effect NewNull f = f
loosen_effect (EndNull activity) f = f
loosen_effect (SetTimer activity start period times keep) f = f
loosen_effect (CancelTimer timer) f = f
loosen_effect (Bind name activity) f = f
loosen_effect (Unbind name) f = f
loosen_effect (Emit entity words) f = f
loosen_effect (Usage entity name number) f = f
loosen_effect (Suspend activity until) f = f
loosen_effect (Resume activity) f = f

pub reads_effect : ReadsBy spelled_effect FitsEffect IsLooseEffect effect_at
reads_effect = reads_tagged spelled_effect FitsEffect IsLooseEffect effects_by_tag effect_again effect_bytes effect_some loosen_effect effect_rows
