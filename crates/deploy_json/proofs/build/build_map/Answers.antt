use Rattle.std.proofs.Common.{Option, sym, subst}
use Rattle.serde_json.specs.Data.{Members}
use Rattle.deploy_schema.specs.Names.{members_or_none}
use Rattle.deploy_json.specs.Shapes.{EachMember}
use Rattle.deploy_json.proofs.build.build_map.Goals as goal

pub build_members-requires : goal.build_members-requires
build_members-requires g c =
    let P : Option Members → Type 0 = λ o. EachMember (g.B.BuildEntry.fits_entry c.args.form.now) (members_or_none o) in
    subst P (sym c.in-Some.ensures) c.requires
