use Rattle.std.proofs.Common.{sym, subst}
use Rattle.std.specs.Prelude.{codes}
use Rattle.serde_json.specs.Data.{Items}
use Rattle.serde_json.specs.View.{view}
use Rattle.deploy_schema.specs.Numbers.{items_at}
use Rattle.deploy_json.specs.Sources.{Tells, items_misread, member_misread}
use Rattle.deploy_json.specs.Shapes.{EachItem, IsHandler}
use Rattle.deploy_json.proofs.block.handlers_in.Goals as goal

pub build_handlers-requires : goal.build_handlers-requires
build_handlers-requires c = subst (EachItem IsHandler) (sym c.items_in.ensures) c.requires

pub returns-in-Err-clause-fault : goal.returns-in-Err-clause-fault
returns-in-Err-clause-fault c =
    let of = member_misread (codes "on") in
    let P : Items → Type 0 = λ ds. Tells (items_misread of 0 ds) c.in-Err.fault in
    c.under.ensures (items_misread of 0 (items_at (codes "events") (view c.args.value.now))) (subst P c.items_in.ensures c.in-Err.ensures.fault)
