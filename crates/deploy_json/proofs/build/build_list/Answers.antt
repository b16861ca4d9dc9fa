use Rattle.std.proofs.Common.{sym, subst}
use Rattle.deploy_json.specs.Shapes.{EachItem}
use Rattle.deploy_json.proofs.build.build_list.Goals as goal

pub build_items-requires : goal.build_items-requires
build_items-requires g c = subst (EachItem (g.B.Build.fits c.args.form.now)) (sym c.items_in.ensures) c.requires
