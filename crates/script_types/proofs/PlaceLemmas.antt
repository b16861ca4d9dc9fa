-- A map whose keys are told apart by their bytes: what a change at some bytes leaves at any bytes.
use Rattle.std.proofs.Common.{◌≡◌, ℕ, List, Bool, true, false, Option, Some, None, refl, sym, subst, ◌∙◌, cond, true≢false, is_some, Bor, position, find, slice_get, length, nat_lt, arith}
use Rattle.std.specs.Option.{option_or, option_copied, option_and_then}
use Rattle.std.specs.List.{position_from, position_or_len}
use Rattle.std.proofs.lemmas.Iterator.Adapters.{position_from-zero}
use Rattle.std.proofs.lemmas.List.Folds.{find_at}
use Rattle.std.proofs.lemmas.Option.{slice_get_past}
use Rattle.std.specs.Str.{bytes_eq}
use Rattle.std.specs.HashMap.{HashMap, get_by, UpdatesBy}
use Rattle.std.specs.Map.{lookup, KeepsOthers, IsKeyTest, AreApart}
use Rattle.std.proofs.lemmas.Slice.Eq.{bytes_eq-Decides}
use Rattle.std.specs.Cmp.Lexicographic.{nat_list_eq_equiv}
use Rattle.script_types.specs.Places.{only_at}

apart : (bs cs ks : List ℕ) → bytes_eq bs cs ≡ false → bytes_eq bs ks ≡ true → bytes_eq cs ks ≡ false
apart bs cs ks n y = nat_list_eq_equiv.symm cs ks ∙ sym (nat_list_eq_equiv.congr bs ks cs y) ∙ n

other_entries : {K X : Type 0} (eq : K → K → Bool) (test : K → Bool) (old new : List (K × X)) → KeepsOthers eq test old new → (other : K → Bool) → IsKeyTest eq other → AreApart test other → lookup other new ≡ lookup other old
unfolding KeepsOthers
other_entries eq test old new h = h

or_none : {V : Type 0} → (o : Option V) → o ≡ option_or o None
or_none None = refl
or_none (Some i) = refl

module _ {K S : Type 0} (bytes : K → List ℕ) where
  -- what a map has at these bytes
  abbrev found : HashMap K ℕ S → List ℕ → Option ℕ
  found m q = get_by (λ k. bytes_eq q (bytes k)) m

  noted_at : (m n : HashMap K ℕ S) (bs : List ℕ) (v : ℕ) → UpdatesBy (λ x y. bytes_eq (bytes x) (bytes y)) (λ k. bytes_eq bs (bytes k)) m n (Some v) → found m bs ≡ None
      → (q : List ℕ) (b : Bool) → bytes_eq bs q ≡ b → found n q ≡ option_or (found m q) (cond b (Some v) None)
  noted_at m n bs v h none q true e = let same = (bytes_eq-Decides bs q).0 e in subst (λ l. found n l ≡ option_or (found m l) (Some v)) same (rw none h.1)
  noted_at m n bs v h none q false e = other_entries _ _ _ _ h.3 _ (λ x y. nat_list_eq_equiv.congr q (bytes x) (bytes y)) (λ k. apart bs q (bytes k) e) ∙ or_none (found m q)

  -- a name that nothing had is that of this place
  pub noted : (m n : HashMap K ℕ S) (bs : List ℕ) (v : ℕ) → UpdatesBy (λ x y. bytes_eq (bytes x) (bytes y)) (λ k. bytes_eq bs (bytes k)) m n (Some v) → found m bs ≡ None
      → (q : List ℕ) → found n q ≡ option_or (found m q) (only_at bs v q)
  noted m n bs v h none q = noted_at m n bs v h none q _ refl

-- what a look-up that found nothing answers
pub absent_by : {V : Type 0} → (r : Option (Bor V)) (o : Option V) → option_copied r ≡ o → is_some r ≡ false → o ≡ None
absent_by None o e h = sym e
absent_by (Some x) o e h = absurd (true≢false h)

-- the two ways to tell the first place
pub place_from : {A : Type 0} → (p : A → Bool) (xs : List A) → position p xs ≡ position_from p 0 xs
place_from p xs = position_from-zero p xs

past : {A : Type 0} → (xs : List A) (n : ℕ) (b : Bool) → nat_lt n (length xs) ≡ b → slice_get xs n ≡ option_and_then (slice_get xs) (cond b (Some n) None)
past xs n true e = refl
past xs n false e = slice_get_past xs n (grind arith)

-- the first item is the one in the first place
pub item_at : {A : Type 0} → (p : A → Bool) (xs : List A) → find p xs ≡ option_and_then (slice_get xs) (position p xs)
item_at p xs = find_at p xs ∙ past xs (position_or_len p xs) _ refl
