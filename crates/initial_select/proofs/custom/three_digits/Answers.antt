use Rattle.std.proofs.Common.{◌∙◌, ap}
use Rattle.std.specs.List.{fold}
use Rattle.initial_select.specs.Digits.{noted}
use Rattle.initial_select.proofs.DigitLemmas.{three_noted}
use Rattle.initial_select.proofs.custom.three_digits.Goals as goal

pub returns : goal.returns
returns c = c.from.ensures ∙ c.in_ok-note_digits.ensures ∙ ap (λ ys. fold noted ys c.args.input.now) c.new-digits.ensures.items ∙ three_noted c.args.input.now
