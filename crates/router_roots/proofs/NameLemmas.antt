-- What changes of the convergence names leave of the named roots.
use Rattle.std.proofs.Common.{◌≡◌, ℕ, ◌==◌, List, Option, Some, None, refl, sym, subst, ◌∙◌}
use Rattle.std.specs.Prelude.{IsTrue, not, option_map}
use Rattle.std.specs.List.{filter, find}
use Rattle.slee_value.specs.declared.convergence.ConvName.{ConvName}
use Rattle.rows_sorted.specs.Keys.{is_key, pair_key, Rises}
use Rattle.rows_sorted.specs.Orders.{put, rises_by}
use Rattle.rows_sorted.proofs.OrderLemmas.{filter_rises}
use Rattle.rows_index.specs.Index.{entry_before, entry_key, IsIndex}
use Rattle.rows_index.specs.declared.entry.Entry.{Entry}
use Rattle.rows_index.proofs.FoundLemmas.{none_at}
use Rattle.rows_index.proofs.KeptLemmas.{cut_is_free, put_over}
use Rattle.rows_index.proofs.RowLemmas.{all_stay, indexed_cut, indexed_put}
use Rattle.router_state.specs.Keys.{root_name_key}
use Rattle.router_state.specs.Trees.{root_name_at, root_name_before, with_root_name, without_root_name}
use Rattle.router_state.specs.declared.rows.RootName.{RootName}
use Rattle.router_state.proofs.AgreeLemmas.{root_name_order, root_name_put}
use Rattle.router_roots.specs.Names.{name_number}
use Rattle.router_roots.specs.Roots.{name_entry}

abbrev entity_of : RootName → ℕ
entity_of row = row.entity.0

abbrev name_part : RootName → ℕ
name_part row = name_number row.name

pub names_rise : (rows : List RootName) → IsTrue (rises_by root_name_before rows) → Rises root_name_key rows
names_rise rows rises = root_name_order rows ∙ rises

pub mapped : {X Y : Type 0} (f : X → Y) (o : Option X) (y : Y) → option_map f o ≡ Some y → (x : X) × (o ≡ Some x) × (f x ≡ y)
mapped f None y is = absurd cc
mapped f (Some x) y is = (x, refl, cc)

pub unmapped : {X Y : Type 0} (f : X → Y) (o : Option X) → option_map f o ≡ None → o ≡ None
unmapped f None is = refl
unmapped f (Some x) is = absurd cc

-- a root that has a name is listed no more under it
pub name_removed : (rows : List RootName) (e : ℕ) (name : ConvName) (entries : List Entry) → IsTrue (rises_by root_name_before rows) → IsIndex name_entry rows entries → root_name_at rows e ≡ Some name
    → IsIndex name_entry (without_root_name rows e) (filter (λ x. not (is_key (entry_key x) (pair_key (name_number name) e))) entries)
name_removed rows e name entries rises index is =
    let found = mapped (λ (row : RootName). row.name) (find (λ (row : RootName). row.entity.0 == e) rows) name is in
    let cut = indexed_cut entity_of name_part root_name_key (λ x. refl) e found.0 rows entries (names_rise rows rises) index found.1 in
    subst (λ (own : ConvName). IsIndex name_entry (without_root_name rows e) (filter (λ x. not (is_key (entry_key x) (pair_key (name_number own) e))) entries)) found.2 cut

-- where the entity has no name, all stay
pub none_unnamed : (rows : List RootName) (e : ℕ) → root_name_at rows e ≡ None → without_root_name rows e ≡ rows
none_unnamed rows e is =
    let none = unmapped (λ (row : RootName). row.name) (find (λ (row : RootName). row.entity.0 == e) rows) is in
    all_stay (λ (row : RootName). row.entity.0 == e) rows (none_at (λ (row : RootName). row.entity.0 == e) rows none)

-- a name that is put where the entity has none
pub name_put : (rows : List RootName) (e : ℕ) (name : ConvName) (entries : List Entry) → IsTrue (rises_by root_name_before rows) → IsIndex name_entry (without_root_name rows e) entries
    → IsIndex name_entry (with_root_name rows e name) (put entry_before (record { key = name_number name; number = e }) entries)
name_put rows e name entries rises index =
    let row : RootName = record { entity = record { 0 = e }; name = name } in
    let left = without_root_name rows e in
    let same : with_root_name rows e name ≡ put root_name_before row left = sym (put_over entity_of row rows) in
    indexed_put entity_of name_part root_name_key (λ x. refl) row left (with_root_name rows e name) entries
    (filter_rises root_name_key (λ other. not (other.entity.0 == e)) rows (names_rise rows rises)) index (cut_is_free entity_of e rows) (same ∙ sym (root_name_put row left))
