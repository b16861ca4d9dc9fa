use Rattle.std.proofs.Common.{rules, ◌≡◌, [], ◌∷◌, Some, None, sym, ap, ◌∙◌, subst}
use mathlib.Core.List.{IsPrefix}
use Rattle.atomic_table.specs.Table.{rest}
use Rattle.slee_turn.specs.Knowledge.{inside}
use Rattle.slee_turn.specs.Passes.{slots_of}
use Rattle.slee_turn.proofs.KeptLemmas.{tells_length, frees_turn}
use Rattle.slee_turn.proofs.turnstile.Turnstile.give.Goals as goal

pub store-requires : goal.store-requires
store-requires g c =
    let known = ap (λ p. p.known) c.pass.view_is in
    let moved = c.exchange-gone.ensures.3 in
    let view = ap (λ m. m.0) moved in
    let is_inside : c.exchange-gone.new.seat.me.0.phase ≡ inside = ap (λ v. v.phase) (view ∙ known) ∙ c.requires.turn.1 in
    let was : c.pass.inside.seat.me.1 ≡ (0, None) ∷ [] = c.pass.invariant.2 ∙ ap (slots_of None) (ap (λ v. v.phase) known ∙ c.requires.turn.1) in
    let carried : c.exchange-gone.new.seat.me.1 ≡ (0, Some c.args.value) ∷ [] = ap (λ m. m.1) moved ∙ ap (λ cs. (0, Some c.args.value) ∷ rest cs) was in
    let same_setup : g.G.Grows.setup c.args.value ≡ c.exchange-gone.new.seat.me.0.setup = c.requires.setup ∙ ap (λ v. v.setup) (sym (view ∙ known)) in
    let grown : IsPrefix c.exchange-gone.new.seat.me.0.seen (g.G.Grows.history c.args.value) = subst (λ v. IsPrefix v.seen (g.G.Grows.history c.args.value)) (sym (view ∙ known)) c.requires.grown in
    (search rules, search rules, tells_length g.G.Grows.setup g.G.Grows.history _ _ _ _ c.args.value is_inside carried same_setup grown (search rules))

pub store-requires-2 : goal.store-requires-2
store-requires-2 g c =
    let known = ap (λ p. p.known) c.pass.view_is in
    let moved = c.exchange-gone.ensures.3 in
    let view = ap (λ m. m.0) moved in
    let was : c.pass.inside.seat.me.1 ≡ (0, None) ∷ [] = c.pass.invariant.2 ∙ ap (slots_of None) (ap (λ v. v.phase) known ∙ c.requires.turn.1) in
    let carried : c.exchange-gone.new.seat.me.1 ≡ (0, Some c.args.value) ∷ [] = ap (λ m. m.1) moved ∙ ap (λ cs. (0, Some c.args.value) ∷ rest cs) was in
    let told = c.store.ensures.2 c.args.value carried in
    let same_setup : g.G.Grows.setup c.args.value ≡ c.store.new.seat.me.0.setup = c.requires.setup ∙ (ap (λ v. v.setup) (sym (view ∙ known)) ∙ ap (λ m. m.0.setup) (sym told)) in
    (search rules, search rules, frees_turn g.G.Grows.setup g.G.Grows.history _ _ _ c.args.value (ap (λ m. m.0.phase) told) (ap (λ m. m.1) told ∙ carried) same_setup (ap (λ m. m.0.seen) (sym told)))
