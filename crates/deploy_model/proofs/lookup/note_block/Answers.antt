use Rattle.std.proofs.Common.{◌≡◌, ◌∙◌, ap, ℕ, List}
use Rattle.deploy_model.specs.Firsts.{answer_of}
use Rattle.deploy_model.specs.Rules.{or_later}
use Rattle.deploy_model.specs.Tables.{kind_of, alias_in}
use Rattle.deploy_model.proofs.lookup.note_block.Goals as goal

pub returns : goal.returns
returns c = λ q.
    let same : (n : List ℕ) → answer_of c.in_ok-attributes.attributes n ≡ kind_of c.args.block.now.attributes n = λ n. c.in_ok-attributes.ensures n ∙ (λ i. kind_of (c.as_slice.ensures i) n) in
    c.in_ok-note_aliases.ensures q ∙ (λ i. or_later (answer_of c.args.kinds.now q) (alias_in (λ n. same n i) (c.as_slice-2.ensures i) q))
