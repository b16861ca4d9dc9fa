-- A line that is read from a payload can be taken exactly where it isn't too long.
use Rattle.std.proofs.Common.{◌≡◌, ◌≢◌, ℕ, suc, ◌-◌, ◌≤◌, ◌==◌, nat_le, if◌then◌else◌, inl, inr, take, drop, List, [], ◌∷◌, length, Bool, true, false, ◌&&◌, sym, ◌∙◌, ap, subst, length-drop, Some, None, Ok, Err, arith}
use Rattle.std.proofs.lemmas.Bool.{and_parts, cases_Bool, le-leb, leb-true, leb-false, false_from_ne_true, ne_eqb}
use Rattle.std.specs.Int.{w32, from_le_bytes}
use Rattle.signal_script.specs.declared.signal.Signal.{Signal}
use Rattle.signal_script.specs.Signals.{Reading, signal_unbounded, is_signal}
use Rattle.signal_script.proofs.LawLemmas.{unbounded_valid}
use Rattle.trace_history.specs.declared.choice.Choice.{Choice}
use Rattle.trace_history.specs.declared.choice.Choice.TheVariants as choices
use Rattle.router_steps.specs.Payloads.{activity_in, choice_in, choice_of_bytes, input_in, input_of_line, is_delivered}

line_read : (read : Reading Signal) (signal : Signal) → input_of_line read ≡ Some (choices.Input signal) → read ≡ Ok signal
line_read (Err bad) signal is = absurd (cc)
line_read (Ok other) signal is = let same : other ≡ signal = cc in ap Ok same

same_limit : (n : ℕ) → 4 ≤ n → nat_le (n - 4) 4096 ≡ nat_le (suc n) 4101
same_limit n long = elim (cases_Bool (nat_le (n - 4) 4096)) [
  | inl short ↦ short ∙ sym (le-leb (suc n) 4101 (omega (arith, long, leb-true (n - 4) 4096 short)))
  | inr more ↦ more ∙ sym (false_from_ne_true (nat_le (suc n) 4101) (λ is. absurd (omega (arith, long, leb-false (n - 4) 4096 more, leb-true (suc n) 4101 is))))
]

same_limit_behind : (n : ℕ) → 8 ≤ n → nat_le (n - 8) 4101 ≡ nat_le n 4109
same_limit_behind n long = elim (cases_Bool (nat_le (n - 8) 4101)) [
  | inl short ↦ short ∙ sym (le-leb n 4109 (omega (arith, long, leb-true (n - 8) 4101 short)))
  | inr more ↦ more ∙ sym (false_from_ne_true (nat_le n 4109) (λ is. absurd (omega (arith, long, leb-false (n - 8) 4101 more, leb-true n 4109 is))))
]

input_read : (bytes : List ℕ) (signal : Signal) → input_in bytes ≡ Some (choices.Input signal) → is_signal signal ≡ nat_le (suc (length bytes)) 4101
input_read bytes signal is = elim (cases_Bool (nat_le 4 (length bytes) && (from_le_bytes w32 (take 4 bytes) == length (drop 4 bytes)))) [
  | inl fits ↦
      let long = leb-true 4 (length bytes) (and_parts (nat_le 4 (length bytes)) _ fits).0 in
      let line = line_read (signal_unbounded (drop 4 bytes)) signal (rw fits at is) in
      unbounded_valid (drop 4 bytes) signal line ∙ ap (λ n. nat_le n 4096) (length-drop 4 bytes) ∙ same_limit (length bytes) long
  | inr fails ↦ let never : None ≡ Some (choices.Input signal) = rw fails at is in absurd (cc)
]

no_input : (b : Bool) (x : Choice) (signal : Signal) → (x ≡ choices.Input signal → ⊥) → (if b then Some x else None) ≡ Some (choices.Input signal) → ⊥
no_input true x signal other is = other (cc)
no_input false x signal other is = cc

bytes_read : (bytes : List ℕ) (signal : Signal) → choice_of_bytes bytes ≡ Some (choices.Input signal) → is_signal signal ≡ nat_le (length bytes) 4101
bytes_read [] signal is = absurd (cc)
bytes_read (kind ∷ rest) signal is = elim (cases_Bool (kind == 1)) [
  | inl one ↦ input_read rest signal (rw one at is)
  | inr not_one ↦ elim (cases_Bool (kind == 2)) [
    | inl two ↦ absurd (no_input (length rest == 8) (choices.Initial (activity_in rest)) signal (λ same. cc) (rw (not_one, two) at is))
    | inr not_two ↦ elim (cases_Bool (kind == 3)) [
      | inl three ↦ absurd (no_input (nat_le 8 (length rest) && is_delivered (drop 8 rest)) (choices.Deliver (activity_in rest)) signal (λ same. cc) (rw (not_one, not_two, three) at is))
      | inr not_three ↦ elim (cases_Bool (kind == 4)) [
        | inl four ↦ absurd (no_input (length rest == 8) (choices.Finish (activity_in rest)) signal (λ same. cc) (rw (not_one, not_two, not_three, four) at is))
        | inr not_four ↦ let never : None ≡ Some (choices.Input signal) = rw (not_one, not_two, not_three, not_four) at is in absurd (cc)
      ]
    ]
  ]
]

behind_clock : (bytes : List ℕ) (signal : Signal) → (if nat_le 8 (length bytes) then choice_of_bytes (drop 8 bytes) else None) ≡ Some (choices.Input signal) → is_signal signal ≡ nat_le (length bytes) 4109
behind_clock bytes signal is = elim (cases_Bool (nat_le 8 (length bytes))) [
  | inl long ↦
      bytes_read (drop 8 bytes) signal (rw long at is) ∙ ap (λ n. nat_le n 4101) (length-drop 8 bytes) ∙ same_limit_behind (length bytes) (leb-true 8 (length bytes) long)
  | inr short ↦ let never : None ≡ Some (choices.Input signal) = rw short at is in absurd (cc)
]

-- in the second format, and in any other
pub input_two : (format : ℕ) (bytes : List ℕ) (signal : Signal) → format ≡ 2 → choice_in format bytes ≡ Some (choices.Input signal) → is_signal signal ≡ nat_le (length bytes) 4109
input_two format bytes signal two is = behind_clock bytes signal (subst (λ f. choice_in f bytes ≡ Some (choices.Input signal)) two is)

pub input_other : (format : ℕ) (bytes : List ℕ) (signal : Signal) → format ≢ 2 → choice_in format bytes ≡ Some (choices.Input signal) → is_signal signal ≡ nat_le (length bytes) 4101
input_other format bytes signal other is =
    bytes_read bytes signal (subst (λ b. (if b then (if nat_le 8 (length bytes) then choice_of_bytes (drop 8 bytes) else None) else choice_of_bytes bytes) ≡ Some (choices.Input signal)) (ne_eqb format 2 other) is)
