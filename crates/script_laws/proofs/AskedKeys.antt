-- How many keys a run and a delivery ask for, one after another.
use Rattle.std.proofs.Common.{◌≡◌, ◌+◌, ◌*◌, ◌<◌, ◌≤◌, true, false, Bool, ℕ, suc, List, [], ◌∷◌, ◌++◌, length, map, Option, Some, None, Ok, refl, sym, ap, ◌∙◌, subst, append-nil, append_assoc, length-append}
use Rattle.std.specs.Prelude.{◌||◌, cond, slice_get}
use Rattle.std.specs.List.{list_any}
use native.Mathlib.Omega.{arith}
use Rattle.std.proofs.lemmas.List.Folds.{list_any-append}
use Rattle.slee_value.specs.declared.ids.EntityId.{EntityId}
use Rattle.slee_value.specs.declared.ids.ActivityId.{ActivityId}
use Rattle.slee_value.specs.declared.value.Value.{Value}
use Rattle.script_types.specs.Codes.{Codes}
use Rattle.script_types.specs.Program.{Steps, BlockProgram, Program}
use Rattle.script_types.specs.Programs.{program_of}
use Rattle.script_meaning.specs.declared.key.Key.{Key}
use Rattle.script_meaning.specs.declared.seen.Seen.{Seen}
use Rattle.script_meaning.specs.declared.seen.Seen.TheVariants as seen
use Rattle.script_meaning.specs.declared.outcome.Args.{Args}
use Rattle.script_meaning.specs.declared.which.Part.{Part}
use Rattle.script_meaning.specs.declared.which.Part.TheVariants as part
use Rattle.script_meaning.specs.Seeing.{same_key}
use Rattle.script_meaning.specs.Answers.{Answers, kept}
use Rattle.script_meaning.specs.Running.{key_limit}
use Rattle.script_meaning.specs.Meaning.{Before, nothing_before, Meaning, Done, Need, Unchecked, script_in, meaning_in}
use Rattle.script_meaning.specs.Delivery.{Delivery, Complete, Wants, NotChecked, callback_args, delivered_by, handled, handler_of, with_block, delivered}
use Rattle.script_laws.specs.Asking.{lacked_in, lacked_by, WereAsked}
use Rattle.script_laws.specs.Dependence.{Extends}
use Rattle.script_laws.specs.Fitting.{IsSound, IsSoundDelivery}
use Rattle.script_laws.proofs.SafeCalls.{meaning_is_sound}
use Rattle.script_laws.proofs.SafeDeliveries.{handler_place, delivery_is_sound}
use Rattle.script_laws.proofs.LikeMeaning.{meaning_reads}
use Rattle.script_laws.proofs.ReadKeys.{IsTotal, comes_to_end, AreSound, callbacks_over, handler_over, delivery_keys, few_in_delivery, delivery_lacks}
use Rattle.script_laws.proofs.KnownMore.{kept_extends}
use Rattle.script_laws.proofs.DistinctKeys.{AreApart, AreAmong, apart_among}

-- the answers that are known, and one to every other key
abbrev or_flag : Option Seen → Option Seen
or_flag None = Some (seen.Flag false)
or_flag (Some answer) = Some answer

abbrev filled : List (Key × Seen) → Answers
filled known key = or_flag (kept known key)

is_answered : (o : Option Seen) → or_flag o ≡ None → ⊥
is_answered None h = cc
is_answered (Some answer) h = cc

filled_total : (known : List (Key × Seen)) → IsTotal (filled known)
filled_total known key h = is_answered (kept known key) h

filled_extends : (known : List (Key × Seen)) → Extends (kept known) (filled known)
filled_extends known key answer is = ap or_flag is

extends_then : (one two three : Answers) → Extends one two → Extends two three → Extends one three
extends_then one two three g h key answer is = h key answer (g key answer is)

unknown_first : (b : Bool) (one : Seen) (o p : Option Seen) → (o ≡ None → p ≡ None) → cond b (Some one) o ≡ None → cond b (Some one) p ≡ None
unknown_first true one o p go h = h
unknown_first false one o p go h = go h

-- what isn't known among more wasn't known among fewer
unknown_before : (known more : List (Key × Seen)) (key : Key) → kept (known ++ more) key ≡ None → kept known key ≡ None
unknown_before [] more key h = refl
unknown_before (x ∷ known) more key h = unknown_first (same_key x.0 key) x.1 (kept (known ++ more) key) (kept known key) (unknown_before known more key) h

other_rest : (b : Bool) (one : Seen) (o : Option Seen) → cond b (Some one) o ≡ None → o ≡ None
other_rest true one o h = cc
other_rest false one o h = h

other_first : (b : Bool) (one : Seen) (o : Option Seen) → cond b (Some one) o ≡ None → b ≡ false
other_first true one o h = cc
other_first false one o h = refl

-- a key that isn't known is none of those that are
unknown_other : (known : List (Key × Seen)) (pair : Key × Seen) (key : Key) → kept (known ++ pair ∷ []) key ≡ None → same_key pair.0 key ≡ false
unknown_other [] pair key h = other_first (same_key pair.0 key) pair.1 None h
unknown_other (x ∷ known) pair key h = unknown_other known pair key (other_rest (same_key x.0 key) x.1 (kept (known ++ pair ∷ []) key) h)

-- the keys that were asked for, the last one among them
abbrev asked_keys : List (Key × Seen) → Key → List Key
asked_keys [] key = key ∷ []
asked_keys (pair ∷ learned) key = pair.0 ∷ asked_keys learned key

asked_length : (learned : List (Key × Seen)) (key : Key) → length (asked_keys learned key) ≡ length learned + 1
asked_length [] key = refl
asked_length (pair ∷ learned) key = omega (arith, asked_length learned key)

-- what asks for what it doesn't know
abbrev AsksUnknown : (Answers → Option Key) → Type 0
AsksUnknown lacks = (answers : Answers) (key : Key) → lacks answers ≡ Some key → answers key ≡ None

no_pair : (known : List (Key × Seen)) (lacks : Answers → Option Key) (key : Key) → lacks (kept (known ++ [])) ≡ Some key → lacks (kept known) ≡ Some key
no_pair known lacks key h = subst (λ l. lacks (kept l) ≡ Some key) (append-nil known) h

next_pair : (known : List (Key × Seen)) (pair : Key × Seen) (learned : List (Key × Seen)) (lacks : Answers → Option Key) (key : Key) → lacks (kept (known ++ pair ∷ learned)) ≡ Some key → lacks (kept ((known ++ pair ∷ []) ++ learned)) ≡ Some key
next_pair known pair learned lacks key h = subst (λ l. lacks (kept l) ≡ Some key) (sym (append_assoc known (pair ∷ []) learned)) h

-- what is asked for later is apart from a key that can't be unknown
later_apart : (lacks : Answers → Option Key) (first : Key) (known learned : List (Key × Seen)) (key : Key) → AsksUnknown lacks → ((k : Key) → kept known k ≡ None → same_key first k ≡ false) → WereAsked lacks known learned → lacks (kept (known ++ learned)) ≡ Some key → list_any (same_key first) (asked_keys learned key) ≡ false
later_apart lacks first known [] key asks apart asked h = ap (λ b. b || false) (apart key (asks (kept known) key (no_pair known lacks key h)))
later_apart lacks first known (pair ∷ learned) key asks apart asked h =
    ap (λ b. b || list_any (same_key first) (asked_keys learned key)) (apart pair.0 (asks (kept known) pair.0 asked.0))
    ∙ later_apart lacks first (known ++ pair ∷ []) learned key asks (λ k unknown. apart k (unknown_before known (pair ∷ []) k unknown)) asked.1 (next_pair known pair learned lacks key h)

asked_apart : (lacks : Answers → Option Key) (known learned : List (Key × Seen)) (key : Key) → AsksUnknown lacks → WereAsked lacks known learned → lacks (kept (known ++ learned)) ≡ Some key → AreApart (asked_keys learned key)
asked_apart lacks known [] key asks asked h = (refl, tt)
asked_apart lacks known (pair ∷ learned) key asks asked h =
    let later = next_pair known pair learned lacks key h in
    (later_apart lacks pair.0 (known ++ pair ∷ []) learned key asks (λ k unknown. unknown_other known pair k unknown) asked.1 later, asked_apart lacks (known ++ pair ∷ []) learned key asks asked.1 later)

asked_among : (lacks : Answers → Option Key) (all : Answers) (read : List Key) (known learned : List (Key × Seen)) (key : Key) → ((answers : Answers) (k : Key) → Extends answers all → lacks answers ≡ Some k → list_any (same_key k) read ≡ true) → Extends (kept (known ++ learned)) all → WereAsked lacks known learned → lacks (kept (known ++ learned)) ≡ Some key → AreAmong (asked_keys learned key) read
asked_among lacks all read known [] key reads more asked h =
    (reads (kept known) key (subst (λ l. Extends (kept l) all) (append-nil known) more) (no_pair known lacks key h), tt)
asked_among lacks all read known (pair ∷ learned) key reads more asked h = (
  reads (kept known) pair.0 (extends_then (kept known) (kept (known ++ pair ∷ learned)) all (kept_extends known (pair ∷ learned)) more) asked.0,
  asked_among lacks all read (known ++ pair ∷ []) learned key reads (subst (λ l. Extends (kept l) all) (sym (append_assoc known (pair ∷ []) learned)) more) asked.1 (next_pair known pair learned lacks key h),
)

one_of : (k key : Key) → Some k ≡ Some key → k ≡ key
one_of k key e = cc

-- scripts are sound where the one that is there is
sound_by : (answers : Answers) (run : Steps → Before → Meaning) (o : Option Steps) → ((s : Steps) (before : Before) → o ≡ Some s → length before.keys ≤ key_limit → IsSound answers before (run s before)) → AreSound answers run o
sound_by answers run None h = tt
sound_by answers run (Some steps) h = λ before few. h steps before refl few

callback_sound : (all : Codes) (program : Program) (answers : Answers) (number : ℕ) (block : BlockProgram) (e : EntityId) (a : ActivityId) → program_of all ≡ Ok program → slice_get program number ≡ Some block → (t : List ℕ) → AreSound answers (callbacks_over answers program block e a t) block.exception × AreSound answers (callbacks_over answers program block e a t) block.rolled_back
callback_sound all program answers number block e a made there t = (
  sound_by answers (callbacks_over answers program block e a t) block.exception (λ s before is few. meaning_is_sound all program made answers number block part.Exception s e (callback_args a t) before there is few),
  sound_by answers (callbacks_over answers program block e a t) block.rolled_back (λ s before is few. meaning_is_sound all program made answers number block part.RolledBack s e (callback_args a t) before there is few),
)

wants_of : (delivery : Delivery) (key : Key) → lacked_by delivery ≡ Some key → delivery ≡ Wants key
wants_of (Complete x) key h = cc
wants_of (Wants k) key h = ap Wants (one_of k key h)
wants_of NotChecked key h = cc

need_of : (meaning : Meaning) (key : Key) → lacked_in meaning ≡ Some key → meaning ≡ Need key
need_of (Done report) key h = cc
need_of (Need k) key h = ap Need (one_of k key h)
need_of Unchecked key h = cc

-- a script of a checked block asks for few keys
pub few_asked_in : (all : Codes) (program : Program) (number : ℕ) (block : BlockProgram) (which : Part) (steps : Steps) (e : EntityId) (arguments : Args) (known learned : List (Key × Seen)) (key : Key) → program_of all ≡ Ok program → slice_get program number ≡ Some block → script_in block which ≡ Some steps → WereAsked (λ answers. lacked_in (meaning_in answers program block steps e arguments nothing_before)) known learned → meaning_in (kept (known ++ learned)) program block steps e arguments nothing_before ≡ Need key → length learned < key_limit
few_asked_in all program number block which steps e arguments known learned key made there is asked h =
    let run : Answers → Meaning = λ answers. meaning_in answers program block steps e arguments nothing_before in
    let lacks : Answers → Option Key = λ answers. lacked_in (run answers) in
    let answers : Answers = filled (known ++ learned) in
    let sound : (given : Answers) → IsSound given nothing_before (run given) = λ given. meaning_is_sound all program made given number block which steps e arguments nothing_before there is (omega arith) in
    let end = comes_to_end answers nothing_before (run answers) (filled_total (known ++ learned)) (sound answers) in
    let few : length end.0.keys ≤ key_limit = omega (arith, (subst (IsSound answers nothing_before) end.1 (sound answers)).2) in
    let asks : AsksUnknown lacks = λ given k lacking. subst (IsSound given nothing_before) (need_of (run given) k lacking) (sound given) in
    let last : lacks (kept (known ++ learned)) ≡ Some key = ap lacked_in h in
    let apart = asked_apart lacks known learned key asks asked last in
    let among = asked_among lacks answers end.0.keys known learned key (λ given k more lacking. meaning_reads given answers program block steps e arguments nothing_before k end.0 more (need_of (run given) k lacking) end.1) (filled_extends (known ++ learned)) asked last in
    omega (arith, few, apart_among (asked_keys learned key) end.0.keys apart among, asked_length learned key)

-- a delivery to an entity of a checked block asks for few keys
few_asked_by : (all : Codes) (program : Program) (number : ℕ) (block : BlockProgram) (steps : Steps) (e : EntityId) (a : ActivityId) (event : List ℕ) (fields : List (List ℕ × Value)) (known learned : List (Key × Seen)) (key : Key) → program_of all ≡ Ok program → slice_get program number ≡ Some block → handler_of event block ≡ Some steps → WereAsked (λ answers. lacked_by (delivered_by answers program block steps e a fields)) known learned → delivered_by (kept (known ++ learned)) program block steps e a fields ≡ Wants key → length learned < 2 * key_limit
few_asked_by all program number block steps e a event fields known learned key made there is asked h =
    let run : Answers → Delivery = λ answers. delivered_by answers program block steps e a fields in
    let lacks : Answers → Option Key = λ answers. lacked_by (run answers) in
    let answers : Answers = filled (known ++ learned) in
    let place = handler_place event block.handlers steps is in
    let own : IsSound answers nothing_before (handler_over answers program block steps e a fields) = meaning_is_sound all program made answers number block (part.On place.0) steps e (record { activity = a; fields = fields; failure = [] }) nothing_before there place.1 (omega arith) in
    let sound = callback_sound all program answers number block e a made there in
    let read : List Key = delivery_keys (callbacks_over answers program block e a) block (handler_over answers program block steps e a fields) in
    let few : length read ≤ 2 * key_limit = few_in_delivery answers (callbacks_over answers program block e a) block (handler_over answers program block steps e a fields) own sound in
    let asks : AsksUnknown lacks = λ given k lacking. subst (IsSoundDelivery given) (wants_of (run given) k lacking) (delivery_is_sound all program made given number block steps e a event fields there is) in
    let last : lacks (kept (known ++ learned)) ≡ Some key = ap lacked_by h in
    let apart = asked_apart lacks known learned key asks asked last in
    let among = asked_among lacks answers read known learned key (λ given k more lacking. delivery_lacks given answers program block steps e a fields k (filled_total (known ++ learned)) more own sound (wants_of (run given) k lacking)) (filled_extends (known ++ learned)) asked last in
    omega (arith, few, apart_among (asked_keys learned key) read apart among, asked_length learned key)

few_asked_if_handled : (all : Codes) (program : Program) (number : ℕ) (block : BlockProgram) (o : Option Steps) (e : EntityId) (a : ActivityId) (event : List ℕ) (fields : List (List ℕ × Value)) (known learned : List (Key × Seen)) (key : Key) → program_of all ≡ Ok program → slice_get program number ≡ Some block → handler_of event block ≡ o → WereAsked (λ answers. lacked_by (handled o (λ steps. delivered_by answers program block steps e a fields))) known learned → handled o (λ steps. delivered_by (kept (known ++ learned)) program block steps e a fields) ≡ Wants key → length learned < 2 * key_limit
few_asked_if_handled all program number block None e a event fields known learned key made there is asked h = cc
few_asked_if_handled all program number block (Some steps) e a event fields known learned key made there is asked h = few_asked_by all program number block steps e a event fields known learned key made there is asked h

few_asked_if_there : (all : Codes) (program : Program) (number : ℕ) (o : Option BlockProgram) (e : EntityId) (a : ActivityId) (event : List ℕ) (fields : List (List ℕ × Value)) (known learned : List (Key × Seen)) (key : Key) → program_of all ≡ Ok program → slice_get program number ≡ o → WereAsked (λ answers. lacked_by (with_block o (λ block. handled (handler_of event block) (λ steps. delivered_by answers program block steps e a fields)))) known learned → with_block o (λ block. handled (handler_of event block) (λ steps. delivered_by (kept (known ++ learned)) program block steps e a fields)) ≡ Wants key → length learned < 2 * key_limit
few_asked_if_there all program number None e a event fields known learned key made there asked h = cc
few_asked_if_there all program number (Some block) e a event fields known learned key made there asked h = few_asked_if_handled all program number block (handler_of event block) e a event fields known learned key made there refl asked h

pub few_asked : (all : Codes) (program : Program) (number : ℕ) (e : EntityId) (a : ActivityId) (event : List ℕ) (fields : List (List ℕ × Value)) (known learned : List (Key × Seen)) (key : Key) → program_of all ≡ Ok program → WereAsked (λ answers. lacked_by (delivered answers program number e a event fields)) known learned → delivered (kept (known ++ learned)) program number e a event fields ≡ Wants key → length learned < 2 * key_limit
few_asked all program number e a event fields known learned key made asked h = few_asked_if_there all program number (slice_get program number) e a event fields known learned key made refl asked h

unknown_if_handled : (all : Codes) (program : Program) (number : ℕ) (block : BlockProgram) (o : Option Steps) (e : EntityId) (a : ActivityId) (event : List ℕ) (fields : List (List ℕ × Value)) (answers : Answers) (key : Key) → program_of all ≡ Ok program → slice_get program number ≡ Some block → handler_of event block ≡ o → handled o (λ steps. delivered_by answers program block steps e a fields) ≡ Wants key → answers key ≡ None
unknown_if_handled all program number block None e a event fields answers key made there is h = cc
unknown_if_handled all program number block (Some steps) e a event fields answers key made there is h = subst (IsSoundDelivery answers) h (delivery_is_sound all program made answers number block steps e a event fields there is)

unknown_if_there : (all : Codes) (program : Program) (number : ℕ) (o : Option BlockProgram) (e : EntityId) (a : ActivityId) (event : List ℕ) (fields : List (List ℕ × Value)) (answers : Answers) (key : Key) → program_of all ≡ Ok program → slice_get program number ≡ o → with_block o (λ block. handled (handler_of event block) (λ steps. delivered_by answers program block steps e a fields)) ≡ Wants key → answers key ≡ None
unknown_if_there all program number None e a event fields answers key made there h = cc
unknown_if_there all program number (Some block) e a event fields answers key made there h = unknown_if_handled all program number block (handler_of event block) e a event fields answers key made there refl h

-- a key that a delivery asks for has no answer
pub unknown_asked : (all : Codes) (program : Program) (number : ℕ) (e : EntityId) (a : ActivityId) (event : List ℕ) (fields : List (List ℕ × Value)) (answers : Answers) (key : Key) → program_of all ≡ Ok program → delivered answers program number e a event fields ≡ Wants key → answers key ≡ None
unknown_asked all program number e a event fields answers key made h = unknown_if_there all program number (slice_get program number) e a event fields answers key made refl h
