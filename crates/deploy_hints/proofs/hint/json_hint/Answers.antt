use Rattle.std.proofs.Common.{true≢false, sym, ◌∙◌}
use Rattle.deploy_hints.proofs.Json.{no_value, value_is}
use Rattle.deploy_hints.proofs.hint.json_hint.Goals as goal

pub returns-in-Ok : goal.returns-in-Ok
returns-in-Ok c = (_, value_is c.args.bytes.now _ c.in-Ok.ensures.ok.0 c.in-Ok.ensures.ok.1)

pub returns : goal.returns
returns c = no_value c.args.bytes.now (c.in-Err.ensures.err (λ m. true≢false (sym (c.is_memory.ensures.1 m) ∙ c.if-is_memory.false)))
