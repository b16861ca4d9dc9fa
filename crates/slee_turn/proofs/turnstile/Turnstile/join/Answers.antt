use Rattle.std.proofs.Common.{rules, ◌≡◌, ℕ, [], None, sym, ap, ◌∙◌, subst}
use Rattle.slee_turn.specs.Numbers.{IsAmong, Rises, merged}
use Rattle.slee_turn.specs.Knowledge.{free, Knowledge}
use Rattle.slee_turn.specs.Passes.{slots_of}
use Rattle.slee_turn.specs.Rule.{IsLive}
use Rattle.slee_turn.proofs.NumberLemmas.{merged_apart}
use Rattle.slee_turn.proofs.KeptLemmas.{joins_passes, looks}
use Rattle.slee_turn.proofs.turnstile.Turnstile.join.Goals as goal

pub join_seat-requires : goal.join_seat-requires
join_seat-requires g c =
    let mine = ap (λ p. p.known) c.pass.view_is in
    let theirs = ap (λ p. p.known) c.other.view_is in
    let is_free : c.pass.inside.seat.me.0.phase ≡ free = ap (λ v. v.phase) mine ∙ c.requires.pass.1 in
    let is_free' : c.other.inside.seat.me.0.phase ≡ free = ap (λ v. v.phase) theirs ∙ c.requires.other.1 in
    let empty : c.other.inside.seat.me.1 ≡ [] = c.other.invariant.2 ∙ ap (slots_of None) is_free' in
    let listed : IsAmong c.other.inside.seat.me.0.number c.pass.inside.seat.me.0.out = subst (λ (x : Knowledge × Knowledge). IsAmong x.0.number x.1.out) (λ i. (sym theirs i, sym mine i)) c.requires.out in
    (search rules, search rules, empty, search rules, joins_passes g.G.Grows.setup g.G.Grows.history _ _ _ _ is_free is_free' listed)

pub load-requires : goal.load-requires
load-requires g c =
    let live : IsLive c.join_seat.new.seat.me.0.phase = subst (λ m. IsLive m.0.phase) (sym c.join_seat.ensures.2) c.pass.invariant.3 in
    (search rules, search rules, looks g.G.Grows.setup g.G.Grows.history _ _ _ live)

pub returns-clause-apart : goal.returns-clause-apart
returns-clause-apart g c =
    let mine = ap (λ p. p.known) c.pass.view_is in
    let theirs = ap (λ p. p.known) c.other.view_is in
    let joined = ap (λ m. m.0.mine) c.join_seat.ensures.2 in
    let rises : Rises (merged c.pass.inside.seat.me.0.mine c.other.inside.seat.me.0.mine) = subst Rises joined c.load.ensures.2.1 in
    subst (λ (x : Knowledge × Knowledge). (z : ℕ) → IsAmong z x.0.mine → IsAmong z x.1.mine → ⊥) (λ i. (mine i, theirs i)) (merged_apart _ _ rises)
