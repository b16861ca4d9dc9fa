-- Numbers and flags: each is read as it is spelled.
use Rattle.std.proofs.Common.{◌≡◌, ℕ, zero, suc, ◌+◌, ◌-◌, ◌^◌, ◌<◌, ◌≤◌, ℤ, Bool, true, false, cond, ltb, List, [], ◌∷◌, ◌++◌, length, get_or, take, drop, replicate, Result, Ok, Err, refl, sym, ap, subst, ◌∙◌, append_assoc, arith, FitsSigned, Fits}
use Rattle.std.specs.Prelude.{⊤}
use Rattle.std.specs.Int.{Width, w8, w32, w64, byte_len, from_le_bytes, to_le_bytes, cast_signed, cast_unsigned}
use Rattle.std.proofs.lemmas.Bool.{ltb-false, ltb-true, le-ltb}
use Rattle.std.proofs.lemmas.List.{append-nil, take_at, drop_at, take-append-drop, length-append, length-take, length-replicate}
use Rattle.std.proofs.lemmas.Nat.{le_bytes_4, le_bytes_8, from_le_bytes-to_le_bytes_4, from_le_bytes-to_le_bytes_8}
use Rattle.std.proofs.lemmas.Int.{of_z-to_z, to_z-of_z}
use Rattle.std.proofs.Math.Facts.{sfits_to_z, Fits-of_z}
use Rattle.slee_value.specs.declared.fault.ValueBad.TheVariants as bad
use Rattle.slee_value.specs.Bytes.{spelled_u32, spelled_u64, spelled_i8, spelled_i64, spelled_flag}
use Rattle.slee_value.specs.Reading.{Fault, Part, mapped, byte_at as first_byte, number_at, i8_at, i64_at, flag_at, refuse}
use Rattle.slee_value.proofs.ReadLemmas.{AreBytes, bytes_append, bytes_left, bytes_right, byte_at, Takes, Begins, IsStuck, Reads, reads_mapped, no_case, no_bytes, ok_is, err_is}

-- a test that did not fail, and one that did
pub guard_ok : {A : Type 0} (b : Bool) (d : Fault) (x y : A) → cond b (Err d) (Ok x) ≡ Ok y → (b ≡ false) × (x ≡ y)
guard_ok true d x y e = absurd cc
guard_ok false d x y e = (refl, cc)

pub guard_err : {A : Type 0} (b : Bool) (d f : Fault) (x : A) → cond b (Err d) (Ok x) ≡ Err f → (b ≡ true) × (d ≡ f)
guard_err true d f x e = (refl, cc)
guard_err false d f x e = absurd cc

pub zeros_are_bytes : (n : ℕ) → AreBytes (replicate n 0)
zeros_are_bytes zero = tt
zeros_are_bytes (suc n) = (omega arith, zeros_are_bytes n)

-- ---- numbers

pub record IsWide (w : Width) (limit : ℕ) : Type 0 where
  pub len : (n : ℕ) → length (to_le_bytes w n) ≡ byte_len w
  pub back : (bytes : List ℕ) → length bytes ≡ byte_len w → AreBytes bytes → to_le_bytes w (from_le_bytes w bytes) ≡ bytes
  pub again : (n : ℕ) → n < limit → from_le_bytes w (to_le_bytes w n) ≡ n
  pub bytes : (n : ℕ) → AreBytes (to_le_bytes w n)
  pub below : (bytes : List ℕ) → AreBytes bytes → from_le_bytes w bytes < limit

pub wide32 : IsWide w32 (2 ^ 32)
wide32 = record {
  len = λ n. refl;
  bytes = λ n. (omega arith, (omega arith, (omega arith, (omega arith, tt))));
  back = λ bytes len h. le_bytes_4 bytes _ len (λ i. byte_at bytes i h) refl;
  again = λ n lt. from_le_bytes-to_le_bytes_4 n lt;
  below = λ bytes h. omega (arith, byte_at bytes 0 h, byte_at bytes 1 h, byte_at bytes 2 h, byte_at bytes 3 h);
}

pub wide64 : IsWide w64 (2 ^ 64)
wide64 = record {
  len = λ n. refl;
  bytes = λ n. (omega arith, (omega arith, (omega arith, (omega arith, (omega arith, (omega arith, (omega arith, (omega arith, tt))))))));
  back = λ bytes len h. le_bytes_8 bytes _ len (λ i. byte_at bytes i h) refl;
  again = λ n lt. from_le_bytes-to_le_bytes_8 n lt;
  below = λ bytes h. omega (arith, byte_at bytes 0 h, byte_at bytes 1 h, byte_at bytes 2 h, byte_at bytes 3 h, byte_at bytes 4 h, byte_at bytes 5 h, byte_at bytes 6 h, byte_at bytes 7 h);
}

take_bytes : (n : ℕ) (bytes : List ℕ) → AreBytes bytes → AreBytes (take n bytes)
take_bytes n bytes h = bytes_left (take n bytes) (drop n bytes) (subst AreBytes (sym (take-append-drop n bytes)) h)

drop_bytes : (n : ℕ) (bytes : List ℕ) → AreBytes bytes → AreBytes (drop n bytes)
drop_bytes n bytes h = bytes_right (take n bytes) (drop n bytes) (subst AreBytes (sym (take-append-drop n bytes)) h)

module _ (w : Width) (limit : ℕ) (wide : IsWide w limit) where
  number_takes : (bytes : List ℕ) (x : ℕ × List ℕ) → AreBytes bytes → number_at w bytes ≡ Ok x → Takes bytes (to_le_bytes w x.0) x.1 × (x.0 < limit)
  number_takes bytes x h e =
      let g = guard_ok (ltb (length bytes) (byte_len w)) (record { left = 0; kind = bad.Short }) (from_le_bytes w (take (byte_len w) bytes), drop (byte_len w) bytes) x e in
      let long : byte_len w ≤ length bytes = ltb-false _ _ g.0 in
      let front = take_bytes (byte_len w) bytes h in
      let whole : Takes bytes (to_le_bytes w (from_le_bytes w (take (byte_len w) bytes))) (drop (byte_len w) bytes) = record {
        parts = rw (wide.back (take (byte_len w) bytes) (omega (arith, length-take (byte_len w) bytes)) front) (sym (take-append-drop (byte_len w) bytes));
        rest_bytes = drop_bytes (byte_len w) bytes h;
      } in
      subst (λ (p : ℕ × List ℕ). Takes bytes (to_le_bytes w p.0) p.1 × (p.0 < limit)) g.1 (whole, wide.below (take (byte_len w) bytes) front)

  number_again : (n : ℕ) (rest : List ℕ) → n < limit → number_at w (to_le_bytes w n ++ rest) ≡ Ok (n, rest)
  number_again n rest lt =
      let len = wide.len n in
      let long : ltb (length (to_le_bytes w n ++ rest)) (byte_len w) ≡ false = le-ltb _ _ (omega (arith, length-append (to_le_bytes w n) rest)) in
      rw (long, take_at (to_le_bytes w n) rest (byte_len w) len, drop_at (to_le_bytes w n) rest (byte_len w) len, wide.again n lt) refl

  -- any bytes that are too few begin a number
  number_begins : (bytes : List ℕ) → AreBytes bytes → length bytes ≤ byte_len w → Begins (to_le_bytes w) (λ n. n < limit) bytes
  number_begins bytes h short =
      let pad : List ℕ = replicate (byte_len w - length bytes) 0 in
      let all : AreBytes (bytes ++ pad) = bytes_append bytes pad h (zeros_are_bytes (byte_len w - length bytes)) in
      let len : length (bytes ++ pad) ≡ byte_len w = omega (arith, length-append bytes pad, length-replicate {A = ℕ} (byte_len w - length bytes) 0) in
      (from_le_bytes w (bytes ++ pad), pad, wide.below (bytes ++ pad) all, wide.back (bytes ++ pad) len all)

  number_stuck : (bytes : List ℕ) (f : Fault) → AreBytes bytes → number_at w bytes ≡ Err f → IsStuck (to_le_bytes w) (λ n. n < limit) bytes f.left
  number_stuck bytes f h e =
      let g = guard_err (ltb (length bytes) (byte_len w)) (record { left = 0; kind = bad.Short }) f (from_le_bytes w (take (byte_len w) bytes), drop (byte_len w) bytes) e in
      let short : length bytes < byte_len w = ltb-true _ _ g.0 in
      record {
        front = bytes;
        back = [];
        parts = sym (append-nil bytes);
        left_is = ap (λ (d : Fault). d.left) g.1;
        begins = number_begins bytes h (omega arith);
        ends = λ b more k q. absurd cc;
      }

  pub reads_number : Reads (to_le_bytes w) (λ n. n < limit) (number_at w)
  reads_number = record { takes = number_takes; again = number_again; stuck = number_stuck; some = number_begins [] tt (omega arith); bytes = λ n f. wide.bytes n; loosen = λ n f. f }

pub reads_u32 : Reads spelled_u32 (λ n. n < 2 ^ 32) (number_at w32)
reads_u32 = reads_number w32 (2 ^ 32) wide32

pub reads_u64 : Reads spelled_u64 (λ n. n < 2 ^ 64) (number_at w64)
reads_u64 = reads_number w64 (2 ^ 64) wide64

pub reads_i64 : Reads spelled_i64 (FitsSigned w64) i64_at
reads_i64 = reads_mapped (cast_signed w64) (cast_unsigned w64) spelled_u64 (λ n. n < 2 ^ 64) spelled_i64 (FitsSigned w64) (number_at w64)
    (λ n lt. ap spelled_u64 (of_z-to_z w64 n lt))
    (λ n lt. sfits_to_z {w = w64} {n = n} (record { fits = lt }))
    (λ z f. refl)
    (λ z f. (Fits-of_z {w = w64} {z = z} f).fits)
    (λ z f. to_z-of_z w64 z f)
    reads_u64

-- ---- bytes

byte_takes : (bytes : List ℕ) (x : ℕ × List ℕ) → AreBytes bytes → first_byte bytes ≡ Ok x → Takes bytes (x.0 ∷ []) x.1 × (x.0 < 2 ^ 8)
byte_takes [] x h e = absurd cc
byte_takes (b ∷ bytes) x h e = subst (λ (z : ℕ × List ℕ). Takes (b ∷ bytes) (z.0 ∷ []) z.1 × (z.0 < 2 ^ 8)) (ok_is (b, bytes) x e) (record { parts = refl; rest_bytes = h.1 }, omega (arith, h.0))

byte_stuck : (bytes : List ℕ) (f : Fault) → AreBytes bytes → first_byte bytes ≡ Err f → IsStuck (λ (b : ℕ). b ∷ []) (λ b. b < 2 ^ 8) bytes f.left
byte_stuck [] f h e = subst (IsStuck (λ (b : ℕ). b ∷ []) (λ b. b < 2 ^ 8) []) (ap (λ (d : Fault). d.left) (err_is {A = ℕ × List ℕ} _ f e)) (no_bytes (λ (b : ℕ). b ∷ []) (λ b. b < 2 ^ 8) (λ b. b < 2 ^ 8) first_byte (0, 0 ∷ [], omega arith, refl))
byte_stuck (b ∷ bytes) f h e = absurd cc

reads_byte : Reads (λ (b : ℕ). b ∷ []) (λ b. b < 2 ^ 8) first_byte
reads_byte = record {
  takes = byte_takes;
  again = λ x rest f. refl;
  stuck = byte_stuck;
  some = (0, 0 ∷ [], omega arith, refl);
  bytes = λ x f. (omega (arith, f), tt);
  loosen = λ x f. f;
}

pub reads_i8 : Reads spelled_i8 (FitsSigned w8) i8_at
reads_i8 = reads_mapped (cast_signed w8) (cast_unsigned w8) (λ (b : ℕ). b ∷ []) (λ b. b < 2 ^ 8) spelled_i8 (FitsSigned w8) first_byte
    (λ n lt. ap (λ (b : ℕ). b ∷ []) (of_z-to_z w8 n lt))
    (λ n lt. sfits_to_z {w = w8} {n = n} (record { fits = lt }))
    (λ z f. refl)
    (λ z f. (Fits-of_z {w = w8} {z = z} f).fits)
    (λ z f. to_z-of_z w8 z f)
    reads_byte

-- ---- flags

flag_takes : (bytes : List ℕ) (x : Bool × List ℕ) → AreBytes bytes → flag_at bytes ≡ Ok x → Takes bytes (spelled_flag x.0) x.1 × ⊤
flag_takes [] x h e = absurd cc
flag_takes (zero ∷ bytes) x h e = subst (λ (z : Bool × List ℕ). Takes (0 ∷ bytes) (spelled_flag z.0) z.1 × ⊤) (ok_is (false, bytes) x e) (record { parts = refl; rest_bytes = h.1 }, tt)
flag_takes (suc zero ∷ bytes) x h e = subst (λ (z : Bool × List ℕ). Takes (1 ∷ bytes) (spelled_flag z.0) z.1 × ⊤) (ok_is (true, bytes) x e) (record { parts = refl; rest_bytes = h.1 }, tt)
flag_takes (suc (suc b) ∷ bytes) x h e = absurd cc

flag_again : (x : Bool) (rest : List ℕ) → ⊤ → flag_at (spelled_flag x ++ rest) ≡ Ok (x, rest)
flag_again true rest h = refl
flag_again false rest h = refl

flag_some : Begins spelled_flag (λ flag. ⊤) []
flag_some = (false, 0 ∷ [], tt, refl)

flag_stuck : (bytes : List ℕ) (f : Fault) → AreBytes bytes → flag_at bytes ≡ Err f → IsStuck spelled_flag (λ flag. ⊤) bytes f.left
flag_stuck [] f h e = subst (λ (n : ℕ). IsStuck spelled_flag (λ flag. ⊤) [] n) (ap (λ (d : Fault). d.left) (err_is {A = Bool × List ℕ} _ f e)) (no_bytes spelled_flag (λ flag. ⊤) (λ flag. ⊤) flag_at flag_some)
flag_stuck (zero ∷ bytes) f h e = absurd cc
flag_stuck (suc zero ∷ bytes) f h e = absurd cc
flag_stuck (suc (suc b) ∷ bytes) f h e = no_case spelled_flag (λ flag. ⊤) (λ flag. ⊤) flag_at (suc (suc b)) bytes f flag_again flag_some (λ more. (record { left = suc (length more); kind = bad.Flag }, refl)) (ap (λ (d : Fault). d.left) (err_is {A = Bool × List ℕ} _ f e))

flag_bytes : (x : Bool) → ⊤ → AreBytes (spelled_flag x)
flag_bytes true h = (omega arith, tt)
flag_bytes false h = (omega arith, tt)

pub reads_flag : Reads spelled_flag (λ flag. ⊤) flag_at
reads_flag = record { takes = flag_takes; again = flag_again; stuck = flag_stuck; some = flag_some; bytes = flag_bytes; loosen = λ flag f. f }
