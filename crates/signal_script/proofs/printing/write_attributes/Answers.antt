use Rattle.std.proofs.Common.{◌++◌, ◌∙◌, List, ℕ, true, sym, ap}
use Rattle.slee_value.specs.Escape.{escaped}
use Rattle.signal_script.specs.Signals.{field_words, verb_word}
use Rattle.signal_script.proofs.PrintLemmas.{words_in_front}
use Rattle.signal_script.proofs.printing.write_attributes.Goals as goal

pub returns : goal.returns
returns c =
    c.in_ok-write_fields.ensures
    ∙ ap (λ (line : List ℕ). line ++ field_words c.args.fields.now) c.in_ok-write_row.ensures
    ∙ sym (words_in_front c.args.line.now.items (verb_word c.args.verb) c.args.table.now (escaped true c.args.row.now) c.args.fields.now)
