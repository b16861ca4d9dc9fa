use Rattle.std.proofs.Common.{ap, option_copied}
use Rattle.script_types.specs.CodesOf.{codes_of}
use Rattle.check_hints.proofs.Fields.{of_built_in, of_none}
use Rattle.check_hints.proofs.deployed.told_of_handler.Goals as goal

pub told_with_fields-requires : goal.told_with_fields-requires
told_with_fields-requires c = of_built_in c.as_bytes-name.result.now c.args.handler.now.event (codes_of c.args.home.now.codes.now) c.named.result c.in-Some.event c.in_ok-fields.fields c.as_bytes-name.ensures.bytes c.named.ensures c.in-Some.is c.in_ok-fields.ensures

pub told_with_fields-requires-in-None : goal.told_with_fields-requires-in-None
told_with_fields-requires-in-None c = of_none c.as_bytes-name.result.now c.args.handler.now.event (codes_of c.args.home.now.codes.now) c.named.result (option_copied c.event_named.result) c.new.result c.as_bytes-name.ensures.bytes c.named.ensures c.in_default.not-Some c.event_named.ensures (ap option_copied c.in-None.is) c.new.ensures
