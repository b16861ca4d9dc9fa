use Rattle.std.proofs.Common.{rules, ◌≡◌, ◌∷◌, true, bytes_eq}
use Rattle.signal_script.specs.Lines.{words_of}
use Rattle.usage_totals.proofs.UsageLemmas.{behind_same}
use Rattle.usage_totals.proofs.usage.behind.Goals as goal

pub returns-then-is_word : goal.returns-then-is_word
returns-then-is_word c =
    let cut : words_of c.args.line.now ≡ c.in_ok-first.first.now ∷ words_of c.in_ok-first.rest.now = search rules in
    let same : bytes_eq c.in_ok-first.first.now c.args.word.now ≡ true = search rules in
    behind_same c.in_ok-first.first.now c.args.word.now c.in_ok-first.rest.now c.args.line.now cut same
