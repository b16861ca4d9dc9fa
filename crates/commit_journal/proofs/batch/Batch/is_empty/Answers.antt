use Rattle.std.proofs.Common.{◌≡◌, ℕ, ◌+◌, List, length, eqb, IsTrue, sym, ap, ◌∙◌, arith}
use Rattle.std.proofs.lemmas.Bool.{eqb-true}
use Rattle.std.proofs.lemmas.Bool.Decides.{nat_tests}
use Rattle.commit_journal.specs.Spelling.{records_size}
use Rattle.commit_journal.proofs.Batches.{nothing_in, some_bytes}
use Rattle.commit_journal.proofs.batch.Batch.is_empty.Goals as goal

one_is : (n : ℕ) → n ≡ 1 → IsTrue (eqb n 1)
one_is n is = grind (arith, nat_tests)

pub returns : goal.returns
returns c =
    let bytes = c.self.inside.bytes.items in
    let count : c.len.result ≡ length bytes = c.len.ensures ∙ c.self.inside.bytes.ok.0 in (
      λ one. sym c.self.view_is ∙ nothing_in bytes c.self.invariant (sym count ∙ eqb-true _ _ one),
      λ none. one_is _ (count ∙ some_bytes bytes c.self.invariant ∙ ap (λ (b : List (List ℕ)). records_size b + 1) (c.self.view_is ∙ none)),
    )
