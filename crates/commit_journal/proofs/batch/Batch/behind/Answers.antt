use Rattle.std.proofs.Common.{◌≡◌, ◌-◌, ◌∷◌, List, ℕ, length, take, drop, ap, sym, ◌∙◌, arith, length-take, length-drop}
use Rattle.commit_journal.specs.Spelling.{records_size}
use Rattle.commit_journal.specs.Kept.{batched}
use Rattle.commit_journal.specs.Batch.{payloads_in}
use Rattle.commit_journal.proofs.Batches.{behind_is, some_bytes}
use Rattle.commit_journal.proofs.batch.Batch.behind.Goals as goal

pub returns-clause-behind : goal.returns-clause-behind
returns-clause-behind c some =
    let bytes = c.self.inside.bytes.items in
    ap (λ (l : List ℕ). 1 ∷ take (length l - 1) (drop 1 l)) c.deref.ensures.value
    ∙ behind_is bytes c.self.invariant (λ none. some (sym c.self.view_is ∙ none))
    ∙ ap batched c.self.view_is

pub returns-clause-size : goal.returns-clause-size
returns-clause-size c =
    let bytes = c.self.inside.bytes.items in
    let size = some_bytes bytes c.self.invariant in
    let here : length (take (length bytes - 1) (drop 1 bytes)) ≡ records_size (payloads_in bytes) = omega (arith, size, length-take (length bytes - 1) (drop 1 bytes), length-drop 1 bytes) in
    ap (λ (l : List ℕ). length (take (length l - 1) (drop 1 l))) c.deref.ensures.value ∙ here ∙ ap records_size c.self.view_is
