-- What is read of bytes stood in them: parts behind one another, lists, options, and numbers of what has a name.
use Rattle.std.proofs.Common.{◌≡◌, ℕ, zero, suc, ◌+◌, ◌<◌, ◌==◌, ℤ, Bool, true, false, List, [], ◌∷◌, ◌++◌, bytes_eq, length, refl, sym, ap, ◌∙◌, subst, inl, inr, arith}
use Rattle.std.specs.Prelude.{Result, Ok, Err, Option, Some, None, cond, flat_map, if◌then◌else◌, not, position, slice_get, nat_lt}
use Rattle.std.specs.Option.{option_map_or}
use Rattle.std.specs.Int.{w32, w64}
use Rattle.std.specs.List.{prefix_len}
use Rattle.std.proofs.lemmas.Bool.{cases_Bool, cond_both, ltb-true}
use Rattle.std.proofs.lemmas.Option.{same_Some}
use Rattle.std.proofs.lemmas.Slice.Eq.{bytes_eq-Decides}
use Rattle.slee_value.specs.Bytes.{spelled_u32, spelled_u64, spelled_i8, spelled_flag, spelled_option, spelled_text, spelling_of_value}
use Rattle.slee_value.specs.Reading.{Fault, Part, ◌>>=◌, flag_at, i8_at, mapped, number_at, option_at, text_at, value_at}
use Rattle.slee_value.specs.declared.value.Value.{Value}
use Rattle.slee_value.proofs.ReadLemmas.{AreBytes, Takes, Takes-then, ok_is}
use Rattle.slee_value.proofs.PartLemmas.{reads_u32, reads_u64, reads_i8, reads_flag}
use Rattle.slee_value.proofs.TextPartLemmas.{reads_text}
use Rattle.slee_value.proofs.ValueLemmas.{reads_value}
use Rattle.slee_effect.specs.Bytes.{spelled_keep}
use Rattle.slee_effect.specs.Reading.{keep_at}
use Rattle.slee_effect.proofs.PieceLemmas.{reads_keep}
use Rattle.router_state.specs.Parsing.{found, items_at, keyed_at, list_at, pair_at, pairs_at, u32_at, u64_at}
use Rattle.router_state.specs.Snapshot.{listed, spelled_pair}

-- what is read stood at the front, spelled
pub record Spells {A : Type 0} (spell : A → List ℕ) (read : List ℕ → Part A) : Type 0 where
  pub took : (bytes : List ℕ) (x : A × List ℕ) → AreBytes bytes → read bytes ≡ Ok x → Takes bytes (spell x.0) x.1

-- one part of what was read, and what follows from it
pub first_part : {A B : Type 0} {P : Type 0} (spell : A → List ℕ) (read : List ℕ → Part A) (f : A × List ℕ → Part B) (bytes : List ℕ) (y : B × List ℕ) → Spells spell read → AreBytes bytes → (read bytes >>= f) ≡ Ok y
    → ((x : A × List ℕ) → Takes bytes (spell x.0) x.1 → f x ≡ Ok y → P) → P
first_part {A} {B} {P} spell read f bytes y spells are is on = by (read bytes) refl is
  where
    by : (r : Part A) → read bytes ≡ r → (r >>= f) ≡ Ok y → P
    by (Ok x) own is = on x (spells.took bytes x are own) is
    by (Err fault) own is = absurd (cc)

-- nothing was taken
pub takes_none : (bytes : List ℕ) → AreBytes bytes → Takes bytes [] bytes
takes_none bytes are = record { parts = refl; rest_bytes = are }

-- the same bytes, spelled otherwise
pub takes_as : (bytes text other rest : List ℕ) → text ≡ other → Takes bytes text rest → Takes bytes other rest
takes_as bytes text other rest same takes = subst (λ t. Takes bytes t rest) same takes

-- what was made of what was read
pub spells_mapped : {A B : Type 0} (make : A → B) (spell : A → List ℕ) (other : B → List ℕ) (read : List ℕ → Part A) → ((x : A) → spell x ≡ other (make x)) → Spells spell read → Spells other (mapped make read)
spells_mapped make spell other read same spells = record {
  took = λ bytes y are is.
      first_part spell read _ bytes y spells are is (λ x takes e.
      subst (λ z. Takes bytes (other z.0) z.1) (ok_is (make x.0, x.1) y e) (takes_as bytes (spell x.0) (other (make x.0)) x.1 (same x.0) takes));
}

-- ---- numbers, flags, texts, values

pub spells_u32 : Spells spelled_u32 u32_at
spells_u32 = record { took = λ bytes x are is. (reads_u32.takes bytes x are is).0 }

pub spells_u64 : Spells spelled_u64 u64_at
spells_u64 = record { took = λ bytes x are is. (reads_u64.takes bytes x are is).0 }

pub spells_i8 : Spells spelled_i8 i8_at
spells_i8 = record { took = λ bytes x are is. (reads_i8.takes bytes x are is).0 }

pub spells_flag : Spells spelled_flag flag_at
spells_flag = record { took = λ bytes x are is. (reads_flag.takes bytes x are is).0 }

pub spells_text : Spells spelled_text text_at
spells_text = record { took = λ bytes x are is. (reads_text.takes bytes x are is).0 }

pub spells_value : Spells spelling_of_value value_at
spells_value = record { took = λ bytes x are is. (reads_value.takes bytes x are is).0 }

pub spells_keep : Spells spelled_keep keep_at
spells_keep = record { took = λ bytes x are is. (reads_keep.takes bytes x are is).0 }

pub spells_pair : Spells spelled_pair pair_at
spells_pair = record {
  took = λ bytes y are is.
      first_part spelled_text text_at _ bytes y spells_text are is (λ name t1 e1.
      first_part spelling_of_value value_at _ name.1 y spells_value t1.rest_bytes e1 (λ value t2 e2.
      subst (λ z. Takes bytes (spelled_pair z.0) z.1) (ok_is ((name.0, value.0), value.1) y e2) (Takes-then bytes (spelled_text name.0) name.1 (spelling_of_value value.0) value.1 t1 t2)));
}

-- ---- lists

module _ {A : Type 0} (spell : A → List ℕ) (read : List ℕ → Part A) (spells : Spells spell read) where
  items_took : (n : ℕ) (bytes : List ℕ) (y : List A × List ℕ) → AreBytes bytes → items_at read n bytes ≡ Ok y → Takes bytes (flat_map spell y.0) y.1 × (length y.0 ≡ n)
  items_took zero bytes y are is = (let none : List A = [] in subst (λ (z : List A × List ℕ). Takes bytes (flat_map spell z.0) z.1 × (length z.0 ≡ 0)) (ok_is (none, bytes) y is) (takes_none bytes are, refl))
  items_took (suc n) bytes y are is =
      first_part spell read _ bytes y spells are is (λ x t1 e1. more x t1 (items_at read n x.1) (λ xs own. items_took n x.1 xs t1.rest_bytes own) refl e1)
    where
      more : (x : A × List ℕ) → Takes bytes (spell x.0) x.1 → (r : Part (List A)) → ((xs : List A × List ℕ) → items_at read n x.1 ≡ Ok xs → Takes x.1 (flat_map spell xs.0) xs.1 × (length xs.0 ≡ n)) → items_at read n x.1 ≡ r → (r >>= λ xs. Ok (x.0 ∷ xs.0, xs.1)) ≡ Ok y
          → Takes bytes (flat_map spell y.0) y.1 × (length y.0 ≡ suc n)
      more x t1 (Err fault) rest own e = absurd (cc)
      more x t1 (Ok xs) rest own e =
          let later = rest xs own in
          subst (λ (z : List A × List ℕ). Takes bytes (flat_map spell z.0) z.1 × (length z.0 ≡ suc n)) (ok_is (x.0 ∷ xs.0, xs.1) y e)
          (Takes-then bytes (spell x.0) x.1 (flat_map spell xs.0) xs.1 t1 later.0, ap (λ k. suc k) later.1)

  pub spells_list : Spells (listed spell) (list_at read)
  spells_list = record {
    took = λ bytes y are is.
        first_part spelled_u64 (number_at w64) _ bytes y spells_u64 are is (λ n t1 e1.
        (let all = items_took n.0 n.1 y t1.rest_bytes e1 in
        takes_as bytes (spelled_u64 n.0 ++ flat_map spell y.0) (listed spell y.0) y.1 (ap (λ k. spelled_u64 k ++ flat_map spell y.0) (sym all.1)) (Takes-then bytes (spelled_u64 n.0) n.1 (flat_map spell y.0) y.1 t1 all.0)));
  }

pub spells_pairs : Spells (listed spelled_pair) pairs_at
spells_pairs = spells_list spelled_pair pair_at spells_pair

-- ---- options

module _ {A : Type 0} (spell : A → List ℕ) (read : List ℕ → Part A) (spells : Spells spell read) where
  some_took : (rest : List ℕ) (y : Option A × List ℕ) → AreBytes (1 ∷ rest) → mapped (λ item. Some item) read rest ≡ Ok y → Takes (1 ∷ rest) (spelled_option spell y.0) y.1
  some_took rest y are is =
      first_part spell read _ rest y spells are.1 is (λ x takes e.
      (let found : Option A = Some x.0 in
      subst (λ (z : Option A × List ℕ). Takes (1 ∷ rest) (spelled_option spell z.0) z.1) (ok_is (found, x.1) y e)
      (record { parts = ap (λ bytes. 1 ∷ bytes) takes.parts; rest_bytes = takes.rest_bytes })))

  option_took : (bytes : List ℕ) (y : Option A × List ℕ) → AreBytes bytes → option_at read bytes ≡ Ok y → Takes bytes (spelled_option spell y.0) y.1
  option_took [] y are is = absurd (cc)
  option_took (zero ∷ rest) y are is = (let none : Option A = None in subst (λ (z : Option A × List ℕ). Takes (0 ∷ rest) (spelled_option spell z.0) z.1) (ok_is (none, rest) y is) (record { parts = refl; rest_bytes = are.1 }))
  option_took (suc zero ∷ rest) y are is = some_took rest y are is
  option_took (suc (suc b) ∷ rest) y are is = absurd (cc)

  pub spells_option : Spells (spelled_option spell) (option_at read)
  spells_option = record { took = option_took }

-- ---- numbers of what has a name

-- the item at the first place at which a test passes, passes it
pub place_passes : {X : Type 0} (p : X → Bool) (xs : List X) (n : ℕ) → position p xs ≡ Some n → (x : X) × (slice_get xs n ≡ Some x) × (p x ≡ true)
place_passes {X} p xs n is = by (nat_lt (prefix_len (λ x. not (p x)) xs) (length xs)) refl is
  where
    there : (xs : List X) → prefix_len (λ x. not (p x)) xs < length xs → (x : X) × (slice_get xs (prefix_len (λ x. not (p x)) xs) ≡ Some x) × (p x ≡ true)
    there [] less = absurd (omega (arith, less))
    there (x ∷ xs) less = elim (cases_Bool (p x)) [
      | inl passes ↦ rw passes (x, refl, passes)
      | inr fails ↦ (let more = there xs (below (prefix_len (λ x. not (p x)) xs) (length xs) (rw fails at less)) in rw fails (more.0, next x xs (prefix_len (λ x. not (p x)) xs) ∙ more.1, more.2))
    ]
      where
        next : (x : X) (xs : List X) (n : ℕ) → slice_get (x ∷ xs) (1 + n) ≡ slice_get xs n
        next x xs n = (let suc_is : 1 + n ≡ suc n = omega arith in rw suc_is refl)

        below : (n k : ℕ) → 1 + n < suc k → n < k
        below n k less = omega (arith, less)

    by : (b : Bool) → nat_lt (prefix_len (λ x. not (p x)) xs) (length xs) ≡ b → cond b (Some (prefix_len (λ x. not (p x)) xs)) None ≡ Some n → (x : X) × (slice_get xs n ≡ Some x) × (p x ≡ true)
    by true less is =
        subst (λ k. (x : X) × (slice_get xs k ≡ Some x) × (p x ≡ true)) (same_Some (prefix_len (λ x. not (p x)) xs) n is) (there xs (ltb-true (prefix_len (λ x. not (p x)) xs) (length xs) less))
    by false less is = absurd (cc)

-- the key of this number is the name that led to it
pub key_there : {X : Type 0} (key : X → List ℕ) (xs : List X) (name : List ℕ) (n : ℕ) → position (λ x. bytes_eq (key x) name) xs ≡ Some n → option_map_or key (slice_get xs n) [] ≡ name
key_there key xs name n is =
    let there = place_passes (λ x. bytes_eq (key x) name) xs n is in
    ap (λ o. option_map_or key o []) there.1 ∙ (bytes_eq-Decides (key there.0) name).0 there.2

pub spells_keyed : (number_named : List ℕ → Option ℕ) (key : ℕ → List ℕ) → ((name : List ℕ) (n : ℕ) → number_named name ≡ Some n → key n ≡ name) → Spells (λ n. spelled_text (key n)) (keyed_at number_named)
spells_keyed number_named key leads = record {
  took = λ bytes y are is. first_part spelled_text text_at _ bytes y spells_text are is (λ name takes e. by bytes y name takes (number_named name.0) refl e);
}
  where
    by : (bytes : List ℕ) (y : ℕ × List ℕ) (name : List ℕ × List ℕ) → Takes bytes (spelled_text name.0) name.1 → (o : Option ℕ) → number_named name.0 ≡ o → found o name.1 ≡ Ok y → Takes bytes (spelled_text (key y.0)) y.1
    by bytes y name takes None own e = absurd (cc)
    by bytes y name takes (Some n) own e =
        subst (λ (z : ℕ × List ℕ). Takes bytes (spelled_text (key z.0)) z.1) (ok_is (n, name.1) y e) (takes_as bytes (spelled_text name.0) (spelled_text (key n)) name.1 (ap spelled_text (sym (leads name.0 n own))) takes)
