-- The moments of a timer's due occurrences.
use Rattle.std.proofs.Common.{◌≡◌, ℕ, ◌+◌, ◌-◌, ◌*◌, ◌<◌, ◌≤◌, ◌^◌, zero, suc, Bool, true, false, refl, arith, inl, inr}
use Rattle.std.specs.Prelude.{◌/◌, ◌==◌, ◌&&◌, ◌||◌, nat_lt, nat_le, min}
use Rattle.std.proofs.Math.Nat.{div-mul-le_self, suc-mul}
use Rattle.std.proofs.lemmas.Bool.{cases_Bool}
use Rattle.std.proofs.lemmas.Bool.Decides.{nat_tests}
use Rattle.std.proofs.lemmas.Nat.{mul-le}
use Rattle.slee_value.specs.declared.keep.Keep.{Keep}
use Rattle.slee_value.specs.declared.keep.Keep.TheVariants as keeps
use Rattle.router_state.specs.Timers.{due_count, repeated, goes_on, last_moment}
use Rattle.router_state.specs.declared.rows.Timer.{Timer}
use Rattle.router_state.specs.Timing.{moment_of, is_last_at, kept_count}

due_few : (t : Timer) (to k : ℕ) → k < due_count t to → (t.next ≤ to) × (k ≤ (to - t.next) / t.period)
due_few t to k few = elim (cases_Bool (nat_lt to t.next)) [
  | inl early ↦ let none : k < 0 = rw early at few in absurd (omega arith)
  | inr late ↦
      let reached : t.next ≤ to = grind (arith, nat_tests) in
      let rest = rw late at few in (
        reached,
        elim (cases_Bool (t.period == 0)) [
          | inl once ↦ let one : k < 1 = rw once at rest in omega arith
          | inr many ↦
              let more = rw many at rest in
              elim (cases_Bool (t.left == 0)) [
                | inl endless ↦ let some : k < repeated t to = rw endless at more in omega arith
                | inr ends ↦ let some : k < min (repeated t to) t.left = rw ends at more in omega arith
              ]
        ],
      )
]

-- a due occurrence's moment is no later than the moment
pub due_within : (t : Timer) (to k : ℕ) → k < due_count t to → t.next + k * t.period ≤ to
due_within t to k few =
    let parts = due_few t to k few in
    omega (arith, parts, mul-le k t.period ((to - t.next) / t.period) t.period parts.1 (omega arith), div-mul-le_self (to - t.next) t.period)

first_behind : (count next period to : ℕ) → ((k : ℕ) → k < count → next + k * period ≤ to) → next + count * period ≤ next + to + period
first_behind zero next period to all = omega arith
first_behind (suc k) next period to all = omega (arith, all k (omega arith), suc-mul k period)

-- the first occurrence that isn't due comes less than a period later
pub behind_within : (t : Timer) (to : ℕ) → t.next + due_count t to * t.period ≤ t.next + to + t.period
behind_within t to = first_behind (due_count t to) t.next t.period to (λ k few. due_within t to k few)

-- the last of some occurrences
pub last_is : (to : ℕ) (t : Timer) (n : ℕ) → 0 < n → is_last_at to t n ≡ (moment_of t (n - 1) == to)
last_is to t zero some = absurd (omega arith)
last_is to t (suc k) some = let one : suc k - 1 ≡ k = omega arith in rw one refl

-- no more are fired than are due
pub kept_within : (keep : Keep) (to : ℕ) (t : Timer) (n : ℕ) → kept_count keep to t n ≤ n
kept_within keeps.All to t n = omega arith
kept_within keeps.Last to t n = omega arith
kept_within keeps.NoneMissed to t zero = omega arith
kept_within keeps.NoneMissed to t (suc k) = elim (cases_Bool (is_last_at to t (suc k))) [ inl is ↦ rw is (omega arith) | inr is ↦ rw is (omega arith) ]

both_true : (a b : Bool) → (a && b) ≡ true → (a ≡ true) × (b ≡ true)
both_true true true passes = (refl, refl)
both_true true false passes = cc
both_true false b passes = cc

-- the next moment of a timer that goes on
pub moment_fits : (t : Timer) (used : ℕ) → goes_on t used ≡ true → t.next < 2 ^ 64 → t.next + used * t.period < 2 ^ 64
moment_fits t used goes fits = elim (cases_Bool (used == 0)) [
  | inl none ↦ let unused : used ≡ 0 = grind (arith, nat_tests) in rw unused (omega arith)
  | inr some ↦
      let rest : ((t.left == 0 || nat_lt used t.left) && nat_le (t.next + used * t.period) last_moment) ≡ true = rw some at goes in
      let low = (both_true (t.left == 0 || nat_lt used t.left) (nat_le (t.next + used * t.period) last_moment) rest).1 in
      let within : t.next + used * t.period ≤ 4000000000000000 = grind (arith, nat_tests) in
      omega arith
]
