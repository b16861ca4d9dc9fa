use Rattle.std.proofs.Common.{ap, rules, ◌∙◌, ◌≡◌}
use Rattle.slee_run.specs.Text.{lines_text}
use Rattle.slee_run.proofs.generating.text_of.Goals as goal

pub returns : goal.returns
returns c =
    let added : c.add_lines.new.text.items ≡ lines_text c.as_slice.result.now = search rules in
    added ∙ ap lines_text c.as_slice.ensures.same
