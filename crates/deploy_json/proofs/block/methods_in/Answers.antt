use Rattle.std.proofs.Common.{Option, sym, subst, ap}
use Rattle.std.specs.Prelude.{codes}
use Rattle.serde_json.specs.Data.{Members}
use Rattle.serde_json.specs.View.{view}
use Rattle.deploy_schema.specs.Names.{members_or_none, members_at}
use Rattle.deploy_json.specs.Sources.{Tells, entries_misread, member_misread}
use Rattle.deploy_json.specs.Shapes.{EachMember, IsMethod}
use Rattle.deploy_json.proofs.block.methods_in.Goals as goal

pub build_methods-requires : goal.build_methods-requires
build_methods-requires c =
    let P : Option Members → Type 0 = λ o. EachMember IsMethod (members_or_none o) in
    subst P (sym c.in-Some.ensures) c.requires

pub returns-in-Err-clause-fault : goal.returns-in-Err-clause-fault
returns-in-Err-clause-fault c =
    let of = member_misread (codes "do") in
    let P : Members → Type 0 = λ ms. Tells (entries_misread of ms) c.in-Err.fault in
    c.under.ensures (entries_misread of (members_at (codes "methods") (view c.args.value.now))) (subst P (ap members_or_none c.in-Some.ensures) c.in-Err.ensures.fault)
