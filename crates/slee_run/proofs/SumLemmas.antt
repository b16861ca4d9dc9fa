-- What stands behind the first space of a line, and the counts with a line more.
use Rattle.std.proofs.Common.{◌≡◌, ℕ, ◌+◌, ◌-◌, ◌<◌, ◌≤◌, ◌==◌, zero, suc, Bool, true, false, List, [], ◌∷◌, length, get_or, take, drop, drop_of_length-le, refl, sym, ◌∙◌, ap, subst, arith, eq-eqb, ne_eqb, add-one}
use Rattle.std.proofs.lemmas.Bool.{eqb-true}
use Rattle.std.proofs.lemmas.List.{take_rest}
use Rattle.std.specs.List.{fold, starts_with}
use Rattle.std.specs.Prelude.{codes}
use Rattle.memchr.specs.Find.{NoneBefore, Nowhere, Passes, is_byte}
use Rattle.signal_script.specs.Lines.{lines_of}
use Rattle.slee_run.specs.Summary.{AreBelow, behind_space, no_lines, one_if, with_line}
use Rattle.slee_run.specs.declared.summing.Summary.{Summary}

-- ---- the first space

behind_at : (bs : List ℕ) (i : ℕ) → i < length bs → ((k : ℕ) → k < i → get_or bs k 0 ≡ 32 → ⊥) → get_or bs i 0 ≡ 32 → behind_space bs ≡ drop (suc i) bs
behind_at [] i within before here = absurd (omega arith)
behind_at (b ∷ bs) zero within before here = rw (eq-eqb b 32 here) refl
behind_at (b ∷ bs) (suc i) within before here =
    rw (ne_eqb b 32 (before 0 (omega arith)))
    (behind_at bs i (omega arith) (λ k lt. before (suc k) (omega arith)) here)

none_behind : (bs : List ℕ) → ((k : ℕ) → k < length bs → get_or bs k 0 ≡ 32 → ⊥) → behind_space bs ≡ []
none_behind [] before = refl
none_behind (b ∷ bs) before =
    rw (ne_eqb b 32 (before 0 (omega arith)))
    (none_behind bs (λ k lt. before (suc k) (omega arith)))

nothing_left : (bs : List ℕ) → drop (length bs) bs ≡ []
nothing_left bs = drop_of_length-le bs (omega arith)

pub space_found : (bs : List ℕ) (i : ℕ) → NoneBefore (Passes (is_byte 32) bs) 0 (length bs) i × Passes (is_byte 32) bs i
    → take (length bs - (i + 1)) (drop (i + 1) bs) ≡ behind_space bs
space_found bs i is =
    rw (take_rest bs (i + 1), add-one)
    (sym (behind_at bs i is.0.high (λ k lt at. is.0.before k (omega arith) lt (eq-eqb _ 32 at)) (eqb-true _ 32 is.1)))

pub space_missing : (bs : List ℕ) → Nowhere (Passes (is_byte 32) bs) 0 (length bs) → take (length bs - length bs) (drop (length bs) bs) ≡ behind_space bs
space_missing bs is =
    rw (take_rest bs (length bs), nothing_left bs)
    (sym (none_behind bs (λ k lt at. is k (omega arith) lt (eq-eqb _ 32 at))))

-- ---- a line more

pub line_counted : (s new : Summary) (rest line after : List ℕ) (all : Summary) → lines_of rest ≡ line ∷ lines_of after → new ≡ with_line s line → fold with_line s (lines_of rest) ≡ all
    → fold with_line new (lines_of after) ≡ all
line_counted s new rest line after all cut is same = rw is (ap (fold with_line s) (sym cut) ∙ same)

pub none_below : (n : ℕ) → 0 < n → AreBelow n no_lines
none_below n some = record { inputs = some; started = some; deliveries = some; refused = some }

pub below_wider : (n m : ℕ) (s : Summary) → n ≤ m → AreBelow n s → AreBelow m s
below_wider n m s le is = record {
  inputs = omega (arith, le, is.inputs);
  started = omega (arith, le, is.started);
  deliveries = omega (arith, le, is.deliveries);
  refused = omega (arith, le, is.refused);
}

counted : (n k : ℕ) (is : Bool) → k < n → k + one_if is < n + 1
counted n k true less = omega (arith, less)
counted n k false less = omega (arith, less)

pub below_more : (n : ℕ) (s new : Summary) (line : List ℕ) → new ≡ with_line s line → AreBelow n s → AreBelow (n + 1) new
below_more n s new line is below = subst (AreBelow (n + 1)) (sym is) (record {
  inputs = counted n s.inputs (starts_with (λ b c. b == c) (behind_space line) (codes "input ")) below.inputs;
  started = counted n s.started (starts_with (λ b c. b == c) (behind_space line) (codes " started ")) below.started;
  deliveries = counted n s.deliveries (starts_with (λ b c. b == c) (behind_space line) (codes "deliver ")) below.deliveries;
  refused = counted n s.refused (starts_with (λ b c. b == c) (behind_space line) (codes " refused ")) below.refused;
})
