-- Rows of the stores that have one list, and when these hold them.
use Rattle.std.specs.Prelude.{◌≡◌, ℕ, IsTrue}
use Rattle.rows_sorted.specs.Orders.{are_below, rises_by, rises_in}
use Rattle.deploy_model.specs.Deployed.{Deployed}
use Rattle.router_state.specs.Fields.{field_before}
use Rattle.router_state.specs.Masks.{mask_before}
use Rattle.router_state.specs.Profiles.{row_before}
use Rattle.router_state.specs.Trees.{root_name_before}
use Rattle.router_stores.specs.TableSpecs.{specs_of}
use Rattle.snapshot_stores.specs.declared.flat.FlatRows.{FlatRows}
use Rattle.snapshot_stores.specs.declared.flat.FlatStores.{FlatStores}

-- the rows rise, and timers' numbers are below the next one
pub record AreFlat (next : ℕ) (given : FlatRows) : Type 0 where
  pub fields : IsTrue (rises_by field_before given.fields.items)
  pub masks : IsTrue (rises_by mask_before given.masks.items)
  pub root_names : IsTrue (rises_by root_name_before given.root_names.items)
  pub timers : IsTrue (rises_in (λ row. row.number.0) given.timers.items)
  pub timers_below : IsTrue (are_below (λ row. row.number.0) next given.timers.items)
  pub rows : IsTrue (rises_by row_before given.rows.items)

-- the stores hold them
pub record HoldFlat (d : Deployed) (number : ℕ) (given : FlatRows) (stores : FlatStores) : Type 0 where
  pub fields : stores.fields.rows ≡ given.fields.items
  pub masks : stores.masks.rows ≡ given.masks.items
  pub root_names : stores.root_names.rows ≡ given.root_names.items
  pub timers : stores.timers.timers ≡ given.timers.items
  pub next : stores.timers.next ≡ number
  pub rows : stores.profiles.rows ≡ given.rows.items
  pub tables : stores.profiles.tables ≡ specs_of d
