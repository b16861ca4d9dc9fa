-- The first attachment of the list whose entity may receive the event is that of the first of all eligible entities.
use Rattle.std.proofs.Common.{Bool, ◌≡◌, ℕ, ◌==◌, List, Option, None, sym, ap, ◌∙◌}
use Rattle.std.specs.Prelude.{◌&&◌, option_map}
use Rattle.std.specs.List.{filter, find}
use Rattle.router_state.specs.declared.rows.Entity.{Entity}
use Rattle.router_state.specs.declared.rows.Event.{Event}
use Rattle.router_state.specs.declared.rows.Link.{Link}
use Rattle.router_state.specs.declared.rows.Mask.{Mask}
use Rattle.router_state.specs.State.{State}
use Rattle.router_state.specs.Paths.{least_path}
use Rattle.router_state.specs.Contexts.{links_on}
use Rattle.router_state.specs.Next.{is_eligible, first}
use Rattle.rows_sorted.specs.Keys.{Rises}
use Rattle.router_state.specs.Keys.{entity_key}
use Rattle.rows_sorted.proofs.OrderLemmas.{order_filter}
use Rattle.router_order.specs.Asked.{IsAbout, is_wanted, passes}
use Rattle.router_order.specs.Listed.{Agrees}
use Rattle.router_order.proofs.LinkLemmas.{all_on, has, linked_is}
use Rattle.router_order.proofs.ListingLemmas.{listing_order}
use Rattle.router_order.proofs.FirstLemmas.{IsListedBefore, first_of, on_path}
use Rattle.router_order.proofs.NextLemmas.{eligible_is}

module _ (s : State) (a : ℕ) (v : Event) (es : List Entity) (ms : List Mask) (name bs : List ℕ) (service : Option ℕ) (ds : ℕ → Bool) (about : IsAbout s a v es ms name bs service ds) where
  pub first_listed : (rows : List Link) → Agrees es s.links rows → Rises entity_key es
      → option_map (λ (l : Link). l.entity) (find (passes es (is_wanted es ms a name bs service ds)) (links_on rows a)) ≡ option_map (λ (row : Entity). row.number) (first s a v)
  first_listed rows agrees rises =
      let ls = links_on rows a in
      let order = on_path es a ls (all_on a rows) (order_filter (IsListedBefore es) (λ l. l.activity.0 == a) rows (listing_order es rows agrees.listing)) in
      first_of es (is_wanted es ms a name bs service ds) (is_eligible s a v) ls rises order eligible
      ∙ ap (λ (all : List Entity). option_map (λ (row : Entity). row.number) (least_path all None (filter (is_eligible s a v) all))) about.entities
    where
      eligible : (row : Entity) → is_eligible s a v row ≡ (has (links_on rows a) row.number.0 && is_wanted es ms a name bs service ds row)
      eligible row =
          eligible_is s a v es ms name bs service ds about row
          ∙ ap (λ b. b && is_wanted es ms a name bs service ds row) (sym (agrees.members row.number.0 a) ∙ linked_is rows row.number.0 a)
