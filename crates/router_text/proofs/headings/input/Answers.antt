use Rattle.std.proofs.Common.{List, ℕ, ◌∙◌, ◌++◌, ap}
use Rattle.signal_script.specs.Signals.{spelled}
use Rattle.router_text.proofs.TextLemmas.{heading_is_utf8}
use Rattle.router_text.proofs.headings.input.Goals as goal

pub unwrap-requires : goal.unwrap-requires
unwrap-requires c =
    c.from_utf8.ensures.succeeds
    (heading_is_utf8 c.args.signal.now _ (c.in_ok-print_signal.ensures.ok ∙ ap (λ (front : List ℕ). front ++ spelled c.args.signal.now) c.in_ok-bytes.ensures.items) c.requires)
