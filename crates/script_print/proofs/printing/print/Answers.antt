use Rattle.std.proofs.Common.{rules, ◌≡◌, ◌++◌, ap, ◌∙◌}
use Rattle.script_tree.specs.Script.{tree_of_script}
use Rattle.script_print.specs.Layout.{printed}
use Rattle.script_print.proofs.Texts.{added_again, printed_text}
use Rattle.script_print.proofs.printing.print.Goals as goal

pub returns-clause-again : goal.returns-clause-again
returns-clause-again c =
    let added : c.extend_from_slice.new.self.items ≡ c.args.into.now.items ++ printed (tree_of_script c.args.script.now) = search rules in
    added_again c.args.into.now.items c.extend_from_slice.new.self.items (tree_of_script c.args.script.now) c.text.ensures.written.whole added
