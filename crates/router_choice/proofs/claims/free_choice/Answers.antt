-- an activity that is claimed has none, and the others have what is next there
use Rattle.std.proofs.Common.{◌≡◌, ◌==◌, true, false, map, refl, sym, ap, ◌∙◌}
use Rattle.std.specs.Prelude.{is_some}
use Rattle.std.specs.List.{list_any}
use Rattle.router_state.specs.Contexts.{activity_at}
use Rattle.router_choice.proofs.LeastLemmas.{claimed_by_number}
use Rattle.router_choice.proofs.claims.free_choice.Goals as goal

pub returns-then-is_claimed : goal.returns-then-is_claimed
returns-then-is_claimed c =
    let taken : list_any (λ b. b == c.args.activity.0) (map (λ a. a.0) c.args.claimed.now) ≡ true = sym (claimed_by_number c.args.activity.0 c.args.claimed.now) ∙ sym c.is_claimed.ensures ∙ c.if-is_claimed.true in
    rw taken refl

pub returns-in-Some : goal.returns-in-Some
returns-in-Some c =
    let free : list_any (λ b. b == c.args.activity.0) (map (λ a. a.0) c.args.claimed.now) ≡ false = sym (claimed_by_number c.args.activity.0 c.args.claimed.now) ∙ sym c.is_claimed.ensures ∙ c.if-is_claimed.false in
    let there : is_some (activity_at c.args.stores.now.state.activities c.args.activity.0) ≡ true = ap (λ rows. is_some (activity_at rows c.args.activity.0)) (sym c.contexts.ensures.activities) ∙ ap is_some (sym c.in-Some.ensures) in
    c.next.ensures ∙ (rw (free, there) refl)
