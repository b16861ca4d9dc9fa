-- Texts, values, options, keys and convergence names are read again.
use Rattle.std.proofs.Common.{◌≡◌, ℕ, ◌^◌, ◌<◌, ◌≤◌, List, ◌++◌, length, refl, ◌∙◌, arith}
use Rattle.std.specs.Prelude.{Ok, Option, Some, None, option_map}
use Rattle.std.specs.List.{AllByRecursion}
use Rattle.std.specs.Int.{w32}
use Rattle.std.proofs.lemmas.List.{length-append}
use Rattle.slee_value.specs.Bytes.{spelled_u32, spelled_u64, spelled_text, spelled_option, spelling_of_value, Fits, FitsOption, FitsText}
use Rattle.slee_value.specs.Reading.{Part, number_at, option_at, text_at, value_at}
use Rattle.slee_value.specs.declared.convergence.ConvName.{ConvName}
use Rattle.slee_value.specs.declared.ids.ActivityId.{ActivityId}
use Rattle.slee_value.specs.declared.ids.EventId.{EventId}
use Rattle.slee_value.specs.declared.value.Value.{Value}
use Rattle.slee_value.specs.declared.value.Value.TheVariants.{Int, Text, Bool as Flag, Activity, Timer}
use Rattle.slee_value.proofs.PartLemmas.{reads_u32, reads_u64}
use Rattle.slee_value.proofs.TextPartLemmas.{reads_text}
use Rattle.slee_value.proofs.ValueLemmas.{reads_value}
use Rattle.router_state.specs.Parsing.{activity_of, conv_at, event_of, keyed_at, pair_at, pairs_at, u64_at}
use Rattle.router_state.specs.Snapshot.{listed, spelled_conv, spelled_pair}
use Rattle.router_laws_snapshots.proofs.Again.{Again, again_items, front, step}

pub again_u32 : Again spelled_u32 (λ n. n < 2 ^ 32) (λ n. n) (number_at w32)
again_u32 = record { back = λ n rest fits short. reads_u32.again n rest fits; some = λ n. omega arith }

pub again_text : Again spelled_text FitsText (λ text. text) text_at
again_text = record { back = λ text rest fits short. reads_text.again text rest fits; some = λ text. omega (arith, length-append (spelled_u32 (length text)) text) }

pub again_value : Again spelling_of_value Fits (λ v. v) value_at
again_value = record { back = λ v rest fits short. reads_value.again v rest fits; some = value_long }
  where
    value_long : (v : Value) → 1 ≤ length (spelling_of_value v)
    value_long (Int n) = omega arith
    value_long (Text text) = omega arith
    value_long (Flag flag) = omega arith
    value_long (Activity a) = omega arith
    value_long (Timer t) = omega arith

-- a name and its value fit
abbrev pub FitsPair : List ℕ × Value → Type 0
FitsPair p = FitsText p.0 × Fits p.1

pub again_pair : Again spelled_pair FitsPair (λ p. p) pair_at
again_pair = record {
  back = λ p rest fits short.
      step text_at _ (spelled_text p.0) (spelling_of_value p.1) rest p.0 (λ more. reads_text.again p.0 more fits.0)
      ∙ front value_at _ (spelling_of_value p.1) rest p.1 (λ more. reads_value.again p.1 more fits.1);
  some = λ p. omega (arith, again_text.some p.0, length-append (spelled_text p.0) (spelling_of_value p.1));
}

pub again_pairs : Again (listed spelled_pair) (AllByRecursion FitsPair) (λ ps. ps) pairs_at
again_pairs = again_items spelled_pair FitsPair pair_at again_pair

-- an option whose item is read again, seen by view
pub option_again : {A B : Type 0} (spell : A → List ℕ) (fits : A → Type 0) (view : A → B) (read : List ℕ → Part B) → ((x : A) (rest : List ℕ) → fits x → read (spell x ++ rest) ≡ Ok (view x, rest))
    → (o : Option A) (rest : List ℕ) → FitsOption fits o → option_at read (spelled_option spell o ++ rest) ≡ Ok (option_map view o, rest)
option_again spell fits view read again None rest fit = refl
option_again spell fits view read again (Some x) rest fit = front read _ (spell x) rest (view x) (λ more. again x more fit)

-- so is one whose item is read as itself
pub option_same : {A : Type 0} (spell : A → List ℕ) (fits : A → Type 0) (read : List ℕ → Part A) → ((x : A) (rest : List ℕ) → fits x → read (spell x ++ rest) ≡ Ok (x, rest))
    → (o : Option A) (rest : List ℕ) → FitsOption fits o → option_at read (spelled_option spell o ++ rest) ≡ Ok (o, rest)
option_same spell fits read again None rest fit = refl
option_same spell fits read again (Some x) rest fit = front read _ (spell x) rest x (λ more. again x more fit)

-- a key that fits leads back to this number
pub record HasKey (number_named : List ℕ → Option ℕ) (key : List ℕ) (n : ℕ) : Type 0 where
  pub fits : FitsText key
  pub leads : number_named key ≡ Some n

pub keyed_again : (number_named : List ℕ → Option ℕ) (key : List ℕ) (n : ℕ) (rest : List ℕ) → HasKey number_named key n → keyed_at number_named (spelled_text key ++ rest) ≡ Ok (n, rest)
keyed_again number_named key n rest has = front text_at _ (spelled_text key) rest key (λ more. reads_text.again key more has.fits) ∙ rw has.leads refl

-- ---- convergence names

pub record FitsConv (name : ConvName) : Type 0 where
  pub activity : FitsOption (λ (a : ActivityId). a.0 < 2 ^ 64) name.activity
  pub address : FitsOption FitsText name.address
  pub event_type : FitsOption FitsText name.event_type
  pub event : FitsOption (λ (v : EventId). v.0 < 2 ^ 64) name.event
  pub custom : FitsOption FitsText name.custom

activity_back : (o : Option ActivityId) → activity_of (option_map (λ (a : ActivityId). a.0) o) ≡ o
activity_back None = refl
activity_back (Some a) = refl

event_back : (o : Option EventId) → event_of (option_map (λ (v : EventId). v.0) o) ≡ o
event_back None = refl
event_back (Some v) = refl

pub conv_again : (name : ConvName) (rest : List ℕ) → FitsConv name → conv_at (spelled_conv name ++ rest) ≡ Ok (name, rest)
conv_again name rest fit =
    let e4 = spelled_option spelled_text name.custom in
    let e3 = spelled_option (λ (v : EventId). spelled_u64 v.0) name.event ++ e4 in
    let e2 = spelled_option spelled_text name.event_type ++ e3 in
    let e1 = spelled_option spelled_text name.address ++ e2 in
    step (option_at u64_at) _ (spelled_option (λ (a : ActivityId). spelled_u64 a.0) name.activity) e1 rest (option_map (λ (a : ActivityId). a.0) name.activity)
    (λ more. option_again (λ (a : ActivityId). spelled_u64 a.0) (λ a. a.0 < 2 ^ 64) (λ a. a.0) u64_at (λ a rest fits. reads_u64.again a.0 rest fits) name.activity more fit.activity)
    ∙ step (option_at text_at) _ (spelled_option spelled_text name.address) e2 rest name.address (λ more. option_same spelled_text FitsText text_at reads_text.again name.address more fit.address)
    ∙ step (option_at text_at) _ (spelled_option spelled_text name.event_type) e3 rest name.event_type (λ more. option_same spelled_text FitsText text_at reads_text.again name.event_type more fit.event_type)
    ∙ step (option_at u64_at) _ (spelled_option (λ (v : EventId). spelled_u64 v.0) name.event) e4 rest (option_map (λ (v : EventId). v.0) name.event)
    (λ more. option_again (λ (v : EventId). spelled_u64 v.0) (λ v. v.0 < 2 ^ 64) (λ v. v.0) u64_at (λ v rest fits. reads_u64.again v.0 rest fits) name.event more fit.event)
    ∙ front (option_at text_at) _ e4 rest name.custom (λ more. option_same spelled_text FitsText text_at reads_text.again name.custom more fit.custom)
    ∙ rw (activity_back name.activity, event_back name.event) refl
