use Rattle.std.proofs.Common.{rules, ◌≡◌, Some, sym, ap, ◌∙◌, subst}
use mathlib.Core.Option.{some-injective}
use Rattle.slee_turn.specs.Knowledge.{Knowledge}
use Rattle.slee_turn.specs.Passes.{Continues}
use Rattle.slee_turn.proofs.KeptLemmas.{closes}
use Rattle.slee_turn.proofs.turnstile.Turnstile.close.Goals as goal

pub unwrap-requires : goal.unwrap-requires
unwrap-requires g c =
    let mine = ap (λ p. p.known) c.pass.view_is in
    let end = closes g.G.Grows.setup g.G.Grows.history _ _ _ _ (ap (λ v. v.phase) mine ∙ c.requires.first.0.1) (ap (λ v. v.number) mine ∙ c.requires.first.1) (ap (λ v. v.out) mine ∙ c.requires.joined) c.close_with-closed.ensures.values.2 in
    let found : c.take-value.result ≡ Some end.0 = some-injective _ _ (sym c.take-value.ensures.value ∙ end.1) in
    search rules

pub returns : goal.returns
returns g c =
    let mine = ap (λ p. p.known) c.pass.view_is in
    let end = closes g.G.Grows.setup g.G.Grows.history _ _ _ _ (ap (λ v. v.phase) mine ∙ c.requires.first.0.1) (ap (λ v. v.number) mine ∙ c.requires.first.1) (ap (λ v. v.out) mine ∙ c.requires.joined) c.close_with-closed.ensures.values.2 in
    let found : c.take-value.result ≡ Some end.0 = some-injective _ _ (sym c.take-value.ensures.value ∙ end.1) in
    let got : c.unwrap.result ≡ end.0 = search rules in
    subst (λ (x : Knowledge × g.row.G.Denot). Continues g.G.Grows.setup g.G.Grows.history x.0 x.1) (λ i. (mine i, sym got i)) record { setup = end.2; seen = end.3; heard = end.4 }
