use Rattle.std.proofs.Common.{true≢false, sym, ◌∙◌}
use Rattle.deploy_hints.proofs.Json.{in_document, in_nothing}
use Rattle.deploy_hints.proofs.hint.script_hint.Goals as goal

pub returns-in-Ok : goal.returns-in-Ok
returns-in-Ok c = in_document c.args.bytes.now c.args.pointer.now c.args.fault _ c.document_hint.result c.in-Ok.ensures.ok.0 c.in-Ok.ensures.ok.1 c.document_hint.ensures

pub returns-else-is_memory : goal.returns-else-is_memory
returns-else-is_memory c = in_nothing c.args.bytes.now c.args.pointer.now c.args.fault (c.in-Err.ensures.err (λ m. true≢false (sym (c.is_memory.ensures.1 m) ∙ c.if-is_memory.false)))
