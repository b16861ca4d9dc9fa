-- the words that are left give the same
use Rattle.std.proofs.Common.{◌≡◌, length}
use Rattle.router_steps.specs.Values.{text_given}
use Rattle.router_inputs.proofs.values.text_given.Given as goal

abbrev pub invariant-words : goal.invariant-words
invariant-words l = text_given l.fn.name l.fn.words ≡ text_given l.fn.name l.left

abbrev pub decreases-words : goal.decreases-words
decreases-words l = length l.left
