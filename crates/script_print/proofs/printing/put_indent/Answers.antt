use Rattle.std.proofs.Common.{rules, ◌≡◌, ◌++◌, ◌∷◌, []}
use Rattle.script_print.proofs.Indents.{indented_more}
use Rattle.script_print.proofs.printing.put_indent.Goals as goal

pub braces-preserved : goal.braces-preserved
braces-preserved c =
    let added : c.extend_from_slice.new.self.items ≡ c.braces.text.items ++ 32 ∷ 32 ∷ [] = search rules in
    indented_more c.braces.text.items c.extend_from_slice.new.self.items _ c.args.depth c.braces.brace (search rules) added c.braces.invariant
