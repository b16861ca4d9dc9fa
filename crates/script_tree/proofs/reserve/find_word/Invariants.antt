use Rattle.std.proofs.Common.{◌≡◌, drop}
use Rattle.script_tree.specs.Words.{find_word}
use Rattle.script_tree.proofs.reserve.find_word.Given as goal

-- no word before this one is it
abbrev pub invariant-loop-word : goal.invariant-loop-word
invariant-loop-word l = find_word (drop l.word-index l.words) l.bytes ≡ find_word l.words l.bytes
