use Rattle.std.proofs.Common.{sym, subst}
use Rattle.std.specs.Prelude.{codes}
use Rattle.serde_json.specs.Data.{Items}
use Rattle.serde_json.specs.View.{view}
use Rattle.deploy_schema.specs.Numbers.{items_at}
use Rattle.deploy_json.specs.Sources.{Tells, items_misread, block_misread}
use Rattle.deploy_json.specs.Shapes.{EachItem, IsBlock}
use Rattle.deploy_json.proofs.document.blocks_in.Goals as goal

pub build_blocks-requires : goal.build_blocks-requires
build_blocks-requires c = subst (EachItem IsBlock) (sym c.items_in.ensures) c.requires

pub returns-in-Err-clause-fault : goal.returns-in-Err-clause-fault
returns-in-Err-clause-fault c =
    let of = block_misread in
    let P : Items → Type 0 = λ ds. Tells (items_misread of 0 ds) c.in-Err.fault in
    c.under.ensures (items_misread of 0 (items_at (codes "blocks") (view c.args.document.now))) (subst P c.items_in.ensures c.in-Err.ensures.fault)
