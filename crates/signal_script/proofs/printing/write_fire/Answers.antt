use Rattle.std.proofs.Common.{◌++◌, ◌∷◌, ◌∙◌, List, ℕ, codes, sym, ap}
use Rattle.signal_script.specs.Signals.{field_words, spelled_event}
use Rattle.signal_script.proofs.PrintLemmas.{three_in_front}
use Rattle.signal_script.proofs.printing.write_fire.Goals as goal

pub returns : goal.returns
returns c =
    c.in_ok-write_fields.ensures
    ∙ ap (λ (line : List ℕ). line ++ field_words c.args.fields.now) c.in_ok-write_event.ensures
    ∙ ap (λ (line : List ℕ). (line ++ 32 ∷ spelled_event c.args.event.now c.args.service.now) ++ field_words c.args.fields.now) c.in_ok-write_pair.ensures
    ∙ ap (λ (name : List ℕ). ((c.args.line.now.items ++ (codes "fire" ++ 32 ∷ name)) ++ 32 ∷ spelled_event c.args.event.now c.args.service.now) ++ field_words c.args.fields.now) c.as_bytes.ensures.bytes
    ∙ sym (three_in_front c.args.line.now.items (codes "fire") c.args.name.now (spelled_event c.args.event.now c.args.service.now) c.args.fields.now)
