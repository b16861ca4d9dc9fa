use Rattle.std.proofs.Common.{false, List, ℕ, ◌∙◌, ◌++◌, ap}
use Rattle.slee_value.specs.Escape.{escaped}
use Rattle.router_text.proofs.TextLemmas.{escaped_is_utf8}
use Rattle.router_text.proofs.telling.escaped.Goals as goal

pub unwrap-requires : goal.unwrap-requires
unwrap-requires c =
    c.from_utf8.ensures.succeeds
    (escaped_is_utf8 c.args.text.now _ (c.in_ok-escape.ensures.ok ∙ ap (λ (front : List ℕ). front ++ escaped false c.as_bytes.result.now) c.new-bytes.ensures.items ∙ ap (λ (bs : List ℕ). escaped false bs) c.as_bytes.ensures.bytes) c.as_bytes.ensures.utf8)
