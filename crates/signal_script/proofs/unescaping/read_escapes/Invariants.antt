use Rattle.std.proofs.Common.{◌≡◌, length}
use Rattle.signal_script.specs.WordText.{unescaped}
use Rattle.signal_script.proofs.WordTextLemmas.{with_bytes}
use Rattle.signal_script.proofs.unescaping.read_escapes.Given as goal

-- the bytes so far, and those of the rest
abbrev pub invariant-loop-rest : goal.invariant-loop-rest
invariant-loop-rest l = unescaped l.word l.text ≡ with_bytes l.made.items (unescaped l.word l.rest)

abbrev pub decreases-loop-rest : goal.decreases-loop-rest
decreases-loop-rest l = length l.rest
