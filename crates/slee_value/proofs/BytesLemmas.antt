-- Bytes of any kind and options are read as they are spelled.
use Rattle.std.proofs.Common.{◌≡◌, ℕ, zero, suc, ◌+◌, ◌-◌, ◌^◌, ◌<◌, ◌≤◌, Bool, true, false, cond, ltb, List, [], ◌∷◌, ◌++◌, length, take, drop, replicate, Option, Some, None, Ok, Err, refl, sym, ap, subst, ◌∙◌, append_assoc, arith, inl, inr}
use Rattle.std.specs.Int.{w32, from_le_bytes}
use Rattle.std.specs.List.{AllByRecursion}
use Rattle.std.proofs.lemmas.Bool.{ltb-false, ltb-true, le-ltb}
use Rattle.std.proofs.lemmas.List.{append-nil, take_at, drop_at, take-append-drop, length-append, length-take, length-replicate}
use Rattle.slee_value.specs.declared.fault.ValueBad.TheVariants as bad
use Rattle.slee_value.specs.Bytes.{spelled_u32, spelled_bytes, spelled_option, FitsBytes, FitsOption}
use Rattle.slee_value.specs.Reading.{Fault, Part, ◌>>=◌, mapped, number_at, bytes_at, option_at}
use Rattle.slee_value.proofs.ReadLemmas.{AreBytes, bytes_append, bytes_left, bytes_right, Takes, Takes-then, Begins, IsStuck, IsStuckBy, Reads, ReadsBy, IsCaseBy, case_takes, case_again, case_bytes, case_stuck, no_case, no_bytes, bind_ok, bind_err, ok_is, err_is}
use Rattle.slee_value.proofs.PartLemmas.{guard_ok, guard_err, zeros_are_bytes, reads_u32}

each_of : (bytes : List ℕ) → AreBytes bytes → AllByRecursion (λ (b : ℕ). b < 256) bytes
each_of [] h = tt
each_of (b ∷ bytes) h = (h.0, each_of bytes h.1)

bytes_of : (bytes : List ℕ) → AllByRecursion (λ (b : ℕ). b < 256) bytes → AreBytes bytes
bytes_of [] h = tt
bytes_of (b ∷ bytes) h = (h.0, bytes_of bytes h.1)

abbrev counted : ℕ × List ℕ → Part (List ℕ)
counted n = cond (ltb (length n.1) n.0) (Err (record { left = 0; kind = bad.Short })) (Ok (take n.0 n.1, drop n.0 n.1))

bytes_takes : (bytes : List ℕ) (x : List ℕ × List ℕ) → AreBytes bytes → bytes_at bytes ≡ Ok x → Takes bytes (spelled_bytes x.0) x.1 × FitsBytes x.0
bytes_takes bytes x h e =
    let b = bind_ok (number_at w32 bytes) counted x e in
    let n = b.0 in
    let t = reads_u32.takes bytes n h b.1 in
    let g = guard_ok (ltb (length n.1) n.0) (record { left = 0; kind = bad.Short }) (take n.0 n.1, drop n.0 n.1) x b.2 in
    let within : n.0 ≤ length n.1 = ltb-false _ _ g.0 in
    let len : length (take n.0 n.1) ≡ n.0 = omega (arith, length-take n.0 n.1) in
    let halves : AreBytes (take n.0 n.1 ++ drop n.0 n.1) = subst AreBytes (sym (take-append-drop n.0 n.1)) t.0.rest_bytes in
    let second : Takes n.1 (take n.0 n.1) (drop n.0 n.1) = record { parts = sym (take-append-drop n.0 n.1); rest_bytes = bytes_right (take n.0 n.1) (drop n.0 n.1) halves } in
    let both = Takes-then bytes (spelled_u32 n.0) n.1 (take n.0 n.1) (drop n.0 n.1) t.0 second in
    let all : Takes bytes (spelled_bytes (take n.0 n.1)) (drop n.0 n.1) = subst (λ (k : ℕ). Takes bytes (spelled_u32 k ++ take n.0 n.1) (drop n.0 n.1)) (sym len) both in
    subst (λ (p : List ℕ × List ℕ). Takes bytes (spelled_bytes p.0) p.1 × FitsBytes p.0) g.1
    (all, record { each = each_of (take n.0 n.1) (bytes_left (take n.0 n.1) (drop n.0 n.1) halves); short = omega (arith, t.1) })

bytes_again : (x rest : List ℕ) → FitsBytes x → bytes_at (spelled_bytes x ++ rest) ≡ Ok (x, rest)
bytes_again x rest f =
    let grouped : spelled_bytes x ++ rest ≡ spelled_u32 (length x) ++ (x ++ rest) = append_assoc (spelled_u32 (length x)) x rest in
    let long : ltb (length (x ++ rest)) (length x) ≡ false = le-ltb _ _ (omega (arith, length-append x rest)) in
    ap bytes_at grouped ∙ ap (λ (r : Part ℕ). r >>= counted) (reads_u32.again (length x) (x ++ rest) f.short)
    ∙ rw (long, take_at x rest (length x) refl, drop_at x rest (length x) refl) refl

-- filled up with zeros to a length
filled : (bytes : List ℕ) (n : ℕ) → AreBytes bytes → length bytes ≤ n → n < 2 ^ 32 → (pad : List ℕ) × FitsBytes (bytes ++ pad) × (length (bytes ++ pad) ≡ n)
filled bytes n h le lt =
    let pad : List ℕ = replicate (n - length bytes) 0 in
    let len : length (bytes ++ pad) ≡ n = omega (arith, length-append bytes pad, length-replicate {A = ℕ} (n - length bytes) 0) in
    (pad, record { each = each_of (bytes ++ pad) (bytes_append bytes pad h (zeros_are_bytes (n - length bytes))); short = omega (arith, len) }, len)

-- where they end too early
short_stuck : (bytes : List ℕ) (n : ℕ) (rest : List ℕ) → Takes bytes (spelled_u32 n) rest → n < 2 ^ 32 → length rest < n → IsStuck spelled_bytes FitsBytes bytes 0
short_stuck bytes n rest t lt few =
    let p = filled rest n t.rest_bytes (omega arith) lt in
    record {
      front = bytes;
      back = [];
      parts = sym (append-nil bytes);
      left_is = refl;
      begins = (rest ++ p.0, p.0, p.1, ap (λ (k : ℕ). spelled_u32 k ++ (rest ++ p.0)) p.2 ∙ sym (append_assoc (spelled_u32 n) rest p.0) ∙ ap (λ (l : List ℕ). l ++ p.0) (sym t.parts));
      ends = λ b more k q. absurd cc;
    }

bytes_some : Begins spelled_bytes FitsBytes []
bytes_some = ([], 0 ∷ 0 ∷ 0 ∷ 0 ∷ [], record { each = tt; short = omega arith }, refl)

-- where the count ends too early
count_stuck : (bytes : List ℕ) (f : Fault) → AreBytes bytes → number_at w32 bytes ≡ Err f → IsStuck spelled_bytes FitsBytes bytes f.left
count_stuck bytes f h e =
    let s = reads_u32.stuck bytes f h e in
    let g = guard_err (ltb (length bytes) 4) (record { left = 0; kind = bad.Short }) f (from_le_bytes w32 (take 4 bytes), drop 4 bytes) e in
    let none : length s.back ≡ 0 = s.left_is ∙ sym (ap (λ (d : Fault). d.left) g.1) in
    let z = filled [] s.begins.0 tt (omega arith) s.begins.2 in
    record {
      front = s.front;
      back = s.back;
      parts = s.parts;
      left_is = s.left_is;
      begins = (z.0, s.begins.1 ++ z.0, z.1, ap (λ (k : ℕ). spelled_u32 k ++ z.0) z.2 ∙ ap (λ (l : List ℕ). l ++ z.0) s.begins.3 ∙ append_assoc s.front s.begins.1 z.0);
      ends = λ b more k q. absurd (omega (arith, none, ap length k));
    }

bytes_stuck : (bytes : List ℕ) (f : Fault) → AreBytes bytes → bytes_at bytes ≡ Err f → IsStuck spelled_bytes FitsBytes bytes f.left
bytes_stuck bytes f h e = elim (bind_err (number_at w32 bytes) counted f e) [
  | inl d ↦ count_stuck bytes f h d
  | inr p ↦
      let t = reads_u32.takes bytes p.0 h p.1 in
      let g = guard_err (ltb (length p.0.1) p.0.0) (record { left = 0; kind = bad.Short }) f (take p.0.0 p.0.1, drop p.0.0 p.0.1) p.2 in
      subst (IsStuck spelled_bytes FitsBytes bytes) (ap (λ (d : Fault). d.left) g.1) (short_stuck bytes p.0.0 p.0.1 t.0 t.1 (ltb-true _ _ g.0))
]

pub reads_bytes : Reads spelled_bytes FitsBytes bytes_at
reads_bytes = record {
  takes = bytes_takes;
  again = bytes_again;
  stuck = bytes_stuck;
  some = bytes_some;
  bytes = λ x f. bytes_append (spelled_u32 (length x)) x (reads_u32.bytes (length x) f.short) (bytes_of x f.each);
  loosen = λ x f. f;
}

-- ---- options

module _ {A : Type 0} (spell : A → List ℕ) (fits loose : A → Type 0) (read : List ℕ → Part A) (reads : ReadsBy spell fits loose read) where
  some_case : IsCaseBy (spelled_option spell) (FitsOption fits) (FitsOption loose) (option_at read) 1 (λ x. Some x) spell fits loose read
  some_case = record { spells = λ x. refl; fit = λ x f. f; loosens = λ x f. f; reads = λ bytes. refl }

  option_takes : (bytes : List ℕ) (x : Option A × List ℕ) → AreBytes bytes → option_at read bytes ≡ Ok x → Takes bytes (spelled_option spell x.0) x.1 × FitsOption fits x.0
  option_takes [] x h e = absurd cc
  option_takes (zero ∷ bytes) x h e = subst (λ (z : Option A × List ℕ). Takes (0 ∷ bytes) (spelled_option spell z.0) z.1 × FitsOption fits z.0) (ok_is (None, bytes) x e) (record { parts = refl; rest_bytes = h.1 }, tt)
  option_takes (suc zero ∷ bytes) x h e = case_takes _ _ _ _ _ _ _ _ _ _ some_case reads bytes x h e
  option_takes (suc (suc b) ∷ bytes) x h e = absurd cc

  option_again : (x : Option A) (rest : List ℕ) → FitsOption fits x → option_at read (spelled_option spell x ++ rest) ≡ Ok (x, rest)
  option_again None rest f = refl
  option_again (Some x) rest f = case_again _ _ _ _ _ _ _ _ _ _ some_case reads x rest f

  option_bytes : (x : Option A) → FitsOption fits x → AreBytes (spelled_option spell x)
  option_bytes None f = (omega arith, tt)
  option_bytes (Some x) f = case_bytes _ _ _ _ _ _ _ _ _ _ some_case reads x (omega arith) f

  option_some : Begins (spelled_option spell) (FitsOption loose) []
  option_some = (None, 0 ∷ [], tt, refl)

  option_stuck : (bytes : List ℕ) (f : Fault) → AreBytes bytes → option_at read bytes ≡ Err f → IsStuckBy (spelled_option spell) (FitsOption fits) (FitsOption loose) bytes f.left
  option_stuck [] f h e = subst (IsStuckBy (spelled_option spell) (FitsOption fits) (FitsOption loose) []) (ap (λ (d : Fault). d.left) (err_is {A = Option A × List ℕ} _ f e)) (no_bytes (spelled_option spell) (FitsOption fits) (FitsOption loose) (option_at read) option_some)
  option_stuck (zero ∷ bytes) f h e = absurd cc
  option_stuck (suc zero ∷ bytes) f h e = case_stuck _ _ _ _ _ _ _ _ _ _ some_case reads option_again option_bytes bytes f h e
  option_stuck (suc (suc b) ∷ bytes) f h e =
      no_case (spelled_option spell) (FitsOption fits) (FitsOption loose) (option_at read) (suc (suc b)) bytes f option_again option_some (λ more. (record { left = suc (length more); kind = bad.Flag }, refl))
      (ap (λ (d : Fault). d.left) (err_is {A = Option A × List ℕ} _ f e))

  option_loosen : (x : Option A) → FitsOption fits x → FitsOption loose x
  option_loosen None f = tt
  option_loosen (Some x) f = reads.loosen x f

  pub reads_option : ReadsBy (spelled_option spell) (FitsOption fits) (FitsOption loose) (option_at read)
  reads_option = record { takes = option_takes; again = option_again; stuck = option_stuck; some = option_some; bytes = option_bytes; loosen = option_loosen }
