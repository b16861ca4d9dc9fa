use Rattle.std.proofs.Common.{◌≡◌, ◌<◌, ◌-◌, ◌++◌, ◌∷◌, [], List, ℕ, length, set, ap, ◌∙◌, arith}
use Rattle.std.proofs.lemmas.List.{set-append_left}
use Rattle.slee_value.specs.Bytes.{spelled_bytes}
use Rattle.commit_journal.proofs.Batches.{some_bytes, more_in, more_is_batch, more_payloads}
use Rattle.commit_journal.proofs.batch.Batch.push.Goals as goal

written : (bytes payload new piece : List ℕ) (gate : ℕ) → gate ≡ length bytes - 1 → 0 < length bytes → new ≡ bytes ++ piece → piece ≡ spelled_bytes payload ++ 0 ∷ [] → set new gate 1 ≡ set bytes (length bytes - 1) 1 ++ (spelled_bytes payload ++ 0 ∷ [])
written bytes payload new piece gate place some is made =
    ap (λ (l : List ℕ). set l gate 1) (is ∙ ap (λ (l : List ℕ). bytes ++ l) made)
    ∙ set-append_left bytes (spelled_bytes payload ++ 0 ∷ []) gate 1 (omega (arith, place, some))
    ∙ ap (λ n. set bytes n 1 ++ (spelled_bytes payload ++ 0 ∷ [])) place

pub invariant_of-self-2 : goal.invariant_of-self-2
invariant_of-self-2 c =
    let bytes = c.self.inside.bytes.items in
    let payload = c.args.payload.now in
    let piece : c.deref.result.now ≡ spelled_bytes payload ++ 0 ∷ [] =
    c.deref.ensures.value ∙ c.in_ok-push.ensures.items ∙ ap (λ (l : List ℕ). l ++ 0 ∷ []) (c.in_ok-write_bytes.ensures.ok ∙ ap (λ (l : List ℕ). l ++ spelled_bytes payload) c.new-piece.ensures.items) in
    let new = written bytes payload _ _ (c.len-gate.result - 1) (ap (λ n. n - 1) (c.len-gate.ensures ∙ c.self.inside.bytes.ok.0)) (omega (arith, some_bytes bytes c.self.invariant)) c.in_ok-extend_from_slice.ensures.items piece in
    more_is_batch bytes _ payload c.self.invariant c.requires (more_in bytes _ payload c.self.invariant c.requires new)

pub returns-clause-ok : goal.returns-clause-ok
returns-clause-ok c =
    let bytes = c.self.inside.bytes.items in
    let payload = c.args.payload.now in
    let piece : c.deref.result.now ≡ spelled_bytes payload ++ 0 ∷ [] =
    c.deref.ensures.value ∙ c.in_ok-push.ensures.items ∙ ap (λ (l : List ℕ). l ++ 0 ∷ []) (c.in_ok-write_bytes.ensures.ok ∙ ap (λ (l : List ℕ). l ++ spelled_bytes payload) c.new-piece.ensures.items) in
    let new = written bytes payload _ _ (c.len-gate.result - 1) (ap (λ n. n - 1) (c.len-gate.ensures ∙ c.self.inside.bytes.ok.0)) (omega (arith, some_bytes bytes c.self.invariant)) c.in_ok-extend_from_slice.ensures.items piece in
    more_payloads bytes _ payload c.self.invariant c.requires (more_in bytes _ payload c.self.invariant c.requires new) ∙ ap (λ (b : List (List ℕ)). b ++ payload ∷ []) c.self.view_is
