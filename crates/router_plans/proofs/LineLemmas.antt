-- The line of a heading.
use Rattle.std.proofs.Common.{◌≡◌, ℕ, ◌^◌, ◌-◌, ◌<◌, ◌≤◌, true, take, drop, List, length, codes, ap, arith, nat_le, length-append}
use Rattle.std.proofs.lemmas.Bool.{and_parts, leb-true}
use Rattle.std.proofs.lemmas.List.{take_rest}
use Rattle.signal_script.specs.declared.signal.Signal.{Signal}
use Rattle.signal_script.specs.Lines.{is_line}
use Rattle.signal_script.specs.Signals.{is_of_form, is_signal, spelled}
use Rattle.router_steps.specs.Lines.{input_heading}

-- a line that a signal is spelled by is short
pub short_line : (signal : Signal) → is_signal signal ≡ true → length (spelled signal) ≤ 4096
short_line signal is =
    let line = (and_parts (is_of_form signal) (is_line (spelled signal)) is).1 in
    leb-true (length (spelled signal)) 4096 (and_parts (nat_le (length (spelled signal)) 4096) _ line).0

pub line_fits : (signal : Signal) (bytes : List ℕ) → bytes ≡ spelled signal → is_signal signal ≡ true → length bytes < 2 ^ 32
line_fits signal bytes is valid = omega (arith, short_line signal valid, ap length is)

-- what stands behind the word of a heading
pub behind_word : (heading : List ℕ) → take (length heading - 6) (drop 6 heading) ≡ drop 6 heading
behind_word heading = take_rest heading 6

-- is the line
pub line_behind : (heading line : List ℕ) → heading ≡ input_heading line → drop 6 heading ≡ line
line_behind heading line is = ap (drop 6) is

-- and the heading has the word
pub word_there : (heading line : List ℕ) → heading ≡ input_heading line → 6 ≤ length heading
word_there heading line is = omega (arith, ap length is, length-append (codes "input ") line)
