-- The words for what may be wrong with a deployment.
use Rattle.std.specs.Prelude.{codes}
use Rattle.script_tree.specs.Tree.{Bytes}
use Rattle.script_tree.specs.declared.fault.SyntaxBad.{SyntaxBad}
use Rattle.script_tree.specs.declared.fault.SyntaxBad.TheVariants as misfits
use Rattle.script_types.specs.declared.misuse.CheckBad.{CheckBad}
use Rattle.script_types.specs.declared.misuse.CheckBad.TheVariants as misuses
use Rattle.deploy_model.specs.declared.fault.DeployBad.{DeployBad}
use Rattle.deploy_model.specs.declared.fault.DeployBad.TheVariants as shapes

abbrev pub shape_word : DeployBad → Bytes
shape_word shapes.WrongType = codes "type"
shape_word shapes.Missing = codes "missing"
shape_word shapes.UnknownMember = codes "unknown-member"
shape_word shapes.BadName = codes "bad-name"
shape_word shapes.Repeated = codes "repeated"
shape_word shapes.UnknownName = codes "unknown-name"
shape_word shapes.Range = codes "range"
shape_word shapes.Alias = codes "alias"

abbrev pub syntax_word : SyntaxBad → Bytes
syntax_word misfits.Token = codes "token"
syntax_word misfits.Expected = codes "expected"
syntax_word misfits.Deep = codes "deep"
syntax_word misfits.End = codes "end"

abbrev pub check_word : CheckBad → Bytes
check_word misuses.Name = codes "name"
check_word misuses.Mismatch = codes "mismatch"
check_word misuses.Count = codes "count"
check_word misuses.Place = codes "place"
