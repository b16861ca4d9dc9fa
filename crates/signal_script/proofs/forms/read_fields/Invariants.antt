use Rattle.std.proofs.Common.{◌≡◌, [], option_copied, suc, length}
use Rattle.std.specs.Option.{option_map_or}
use Rattle.signal_script.specs.Lines.{words_behind}
use Rattle.signal_script.specs.Signals.{fields_of}
use Rattle.signal_script.proofs.forms.read_fields.Given as goal

-- the fields so far, and those of the words that are left
abbrev pub invariant-fields : goal.invariant-fields
invariant-fields l = fields_of [] (words_behind (option_copied l.fn.behind)) ≡ fields_of l.made (words_behind (option_copied l.left))

abbrev pub decreases-fields : goal.decreases-fields
decreases-fields l = option_map_or (λ text. suc (length text.now)) l.left 0
