-- what is asked is what the state says
use Rattle.std.proofs.Common.{◌≡◌, ℕ, ◌==◌, List, refl, sym, ap, subst, ◌∙◌}
use Rattle.std.specs.List.{list_any}
use Rattle.deploy_model.specs.Deployed.{Deployed, handles, handlers_of}
use Rattle.router_state.specs.State.{State}
use Rattle.router_choice.proofs.HandlerLemmas.{handlers_are}
use Rattle.router_choice.proofs.receiving.receiver.Goals as goal

pub returns : goal.returns
returns c =
    let s : State = c.args.stores.now.state in
    let event : List ℕ = c.args.event.now.name in
    c.next_unmarked.ensures s c.args.event.now (record {
      entities = c.tree.ensures.entities;
      masks = c.masks.ensures;
      event = refl;
      target = refl;
      blocks = λ b. subst (λ (bs : List ℕ). list_any (λ block. block == b) bs ≡ handles s.deployment b event) (sym (c.handlers.ensures ∙ ap (λ (e : Deployed). handlers_of e event) c.requires)) (handlers_are s.deployment event b);
      delivered = λ e. ap (λ marks. Rattle.router_state.specs.Queues.is_delivered marks c.args.activity.0 e) c.queues.ensures.delivered;
    }) (rw c.tree.ensures.entities c.order.ensures)
