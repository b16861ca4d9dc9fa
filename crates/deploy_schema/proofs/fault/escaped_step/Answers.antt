use Rattle.std.proofs.Common.{◌≡◌, ◌∙◌, ◌++◌, sym, subst, IsUtf8}
use Rattle.deploy_schema.specs.Pointers.{escaped}
use Rattle.deploy_schema.proofs.Escapes.{escaped_is_utf8}
use Rattle.deploy_schema.proofs.fault.escaped_step.Goals as goal

pub from_utf8_unchecked-requires : goal.from_utf8_unchecked-requires
from_utf8_unchecked-requires c =
    let e : c.push_escaped.new.step.items ≡ escaped c.as_bytes.result.now = c.in_ok-push_escaped.ensures ∙ (λ i. c.new-step.ensures.items i ++ escaped c.as_bytes.result.now) in
    subst IsUtf8 (sym e) (escaped_is_utf8 c.as_bytes.result.now c.as_bytes.ensures.utf8)
