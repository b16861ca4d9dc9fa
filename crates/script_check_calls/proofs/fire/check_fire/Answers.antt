use Rattle.std.proofs.Common.{map, arith}
use Rattle.script_tree.specs.Tree.{tree_of, field_of}
use Rattle.script_check_calls.proofs.FieldLemmas.{tokens_of_fire}
use Rattle.script_check_calls.proofs.fire.check_fire.Goals as goal

pub check_fields-requires : goal.check_fields-requires
check_fields-requires c =
    let all = tokens_of_fire c.args.name.now (tree_of c.args.x.now) c.args.service.now (map field_of c.args.fields.now) in
    omega (arith, all, c.requires, c.in_ok-activity.ensures.tokens, c.tokens_in_service-for_service.ensures.spelled)
