use Rattle.std.proofs.Common.{◌∙◌, ap, is_some}
use Rattle.script_check_calls.proofs.LookupLemmas.{some_copied, service_is}
use Rattle.script_check_calls.proofs.lookup.is_service.Goals as goal

pub returns : goal.returns
returns c = c.is_some.ensures ∙ some_copied c.find.result ∙ ap is_some c.find.ensures ∙ service_is c.args.key.now c.args.services.now
