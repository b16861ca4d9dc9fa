-- Attachments that rise, put into the order of paths one after another.
use Rattle.std.proofs.Common.{◌≡◌, ℕ, ◌+◌, ◌<◌, ◌≤◌, List, ◌∷◌, ◌++◌, length, get_or, take, drop, sym, ap, subst, ◌∙◌}
use Rattle.std.specs.Prelude.{IsTrue}
use Rattle.std.proofs.lemmas.List.{drop_more, take_all, take_more, take-append-drop}
use Rattle.rows_sorted.specs.Orders.{rises_by}
use Rattle.router_state.specs.Contexts.{link_before, with_link}
use Rattle.router_state.specs.Keys.{link_key}
use Rattle.router_state.specs.declared.rows.Entity.{Entity}
use Rattle.router_state.specs.declared.rows.Link.{Link}
use Rattle.router_order.specs.Listed.{Agrees}
use Rattle.snapshot_stores.proofs.FillLemmas.{last_put}
use Rattle.snapshot_stores.proofs.OrderedLemmas as orders

next_link : (links : List Link) (i : ℕ) (d : Link) → i < length links → IsTrue (rises_by link_before links) → with_link (take i links) (get_or links i d).entity.0 (get_or links i d).activity.0 ≡ take (i + 1) links
next_link links i d within rises =
    let whole : take i links ++ get_or links i d ∷ drop (i + 1) links ≡ links = ap (λ (ls : List Link). take i links ++ ls) (sym (drop_more links i d within)) ∙ take-append-drop i links in
    last_put link_key link_before orders.links (take i links) (get_or links i d) (drop (i + 1) links) (subst (λ (ls : List Link). IsTrue (rises_by link_before ls)) (sym whole) rises) ∙ sym (take_more links i d within)

-- one attachment more is in order
pub agrees_more : (es : List Entity) (links after : List Link) (i : ℕ) (d : Link) → i < length links → IsTrue (rises_by link_before links)
    → Agrees es (with_link (take i links) (get_or links i d).entity.0 (get_or links i d).activity.0) after → Agrees es (take (i + 1) links) after
agrees_more es links after i d within rises agrees = subst (λ (ls : List Link). Agrees es ls after) (next_link links i d within rises) agrees

-- all are
pub agrees_all : (es : List Entity) (links rows : List Link) (i : ℕ) → length links ≤ i → Agrees es (take i links) rows → Agrees es links rows
agrees_all es links rows i over agrees = subst (λ (ls : List Link). Agrees es ls rows) (take_all i links over) agrees
