-- The next item of an array and the next member of an object, as they stand in memory.
use Rattle.std.proofs.Common.{◌≡◌, ℕ, zero, suc, ◌+◌, ◌<◌, List, [], ◌∷◌, length, get_or, drop, sym, subst, arith, string_bytes}
use Rattle.std.specs.Prelude.{String}
use Rattle.std.specs.declared.alloc.Global.{Global}
use Rattle.serde_json.specs.Data.{Data, Items, no_items, item}
use Rattle.serde_json.specs.View.{view, items_view, members_view}
use Rattle.serde_json.specs.declared.value.Value.{Value}
use Rattle.script_tree.specs.Tree.{Bytes}
use Rattle.deploy_json.specs.Shapes.{EachItem, EachMember}

pub item_next : (P : Data → Type 0) (vs : List Value) (i : ℕ) (v : Value) → i < length vs → v ≡ get_or vs i v → EachItem P (items_view (drop i vs)) → P (view v)
item_next P [] i v below is each = absurd (omega arith)
item_next P (x ∷ vs) zero v below is each = subst (λ y. P (view y)) (sym is) each.0
item_next P (x ∷ vs) (suc i) v below is each = item_next P vs i v (omega arith) is each

tail_at : (P : Data → Type 0) (vs : List Value) (i : ℕ) → i < length vs → EachItem P (items_view (drop i vs)) → EachItem P (items_view (drop (suc i) vs))
tail_at P [] i below each = absurd (omega arith)
tail_at P (x ∷ vs) zero below each = each.1
tail_at P (x ∷ vs) (suc i) below each = tail_at P vs i (omega arith) each

pub items_rest : (P : Data → Type 0) (vs : List Value) (i : ℕ) → i < length vs → EachItem P (items_view (drop i vs)) → EachItem P (items_view (drop (i + 1) vs))
items_rest P vs i below each =
    let e : suc i ≡ i + 1 = omega arith in
    subst (λ k. EachItem P (items_view (drop k vs))) e (tail_at P vs i below each)

pub member_next : (P : Bytes → Data → Type 0) (ms : List (String Global × Value)) (m : String Global × Value) (rest : List (String Global × Value)) → ms ≡ m ∷ rest → EachMember P (members_view ms) → P (string_bytes m.0) (view m.1)
member_next P ms m rest e each = (subst (λ l. EachMember P (members_view l)) e each).0

pub members_rest : (P : Bytes → Data → Type 0) (ms : List (String Global × Value)) (m : String Global × Value) (rest : List (String Global × Value)) → ms ≡ m ∷ rest → EachMember P (members_view ms) → EachMember P (members_view rest)
members_rest P ms m rest e each = (subst (λ l. EachMember P (members_view l)) e each).1

-- where nothing is asked of an item
pub any_items : (ds : Items) → EachItem (λ d. Unit {0}) ds
any_items no_items = tt
any_items (item d ds) = (tt, any_items ds)
