use Rattle.std.proofs.Common.{◌≡◌, ◌∙◌, ◌++◌, ap, subst, ℕ, List, Option, option_and_then, slice_get, find, bytes_eq}
use Rattle.std.specs.Prelude.{IfOk, codes}
use Rattle.std.specs.Option.{option_map_or}
use Rattle.deploy_model.specs.Firsts.{answer_of}
use Rattle.deploy_model.specs.Tables.{key_number}
use Rattle.slee_descriptor.proofs.Aliases.{found_at}
use Rattle.slee_descriptor.proofs.block_coding.AttributeCoding.key.Goals as goal

pub returns : goal.returns
returns c =
    let b = c.args.self.now.block.now in
    let name = c.args.name.now in
    let place : c.get-place.result ≡ key_number (λ (a : List ℕ × List ℕ). a.0) b.aliases name = c.get-place.ensures ∙ ap (answer_of c.args.self.now.aliases.now) c.as_str.ensures.bytes ∙ c.args.self.now.indexed name in
    let own : List ℕ = b.key ++ codes "." ++ name in
    let same : option_map_or (λ (a : List ℕ × List ℕ). a.1) (option_and_then (slice_get c.as_slice.result.now) c.get-place.result) own ≡ option_map_or (λ (a : List ℕ × List ℕ). a.1) (find (λ (a : List ℕ × List ℕ). bytes_eq name a.0) b.aliases) own =
    (λ i. option_map_or (λ (a : List ℕ × List ℕ). a.1) (option_and_then (slice_get (c.as_slice.ensures i)) c.get-place.result) own)
    ∙ ap (λ (o : Option (List ℕ × List ℕ)). option_map_or (λ (a : List ℕ × List ℕ). a.1) o own) (found_at (λ (a : List ℕ × List ℕ). bytes_eq name a.0) b.aliases c.get-place.result place) in
    let P : List ℕ → Type 0 = λ x. IfOk c.alias_or_own.result (λ t. t ≡ x) in
    subst P same c.alias_or_own.ensures
