-- A component that stands for the item that was noted first.
use Rattle.std.proofs.Common.{◌≡◌, ℕ, List, Bool, true, false, ◌&&◌, Option, Some, None, refl, ap, ◌∙◌, cond}
use Rattle.std.proofs.lemmas.Slice.Eq.{bytes_eq-Decides}
use Rattle.std.proofs.lemmas.Bool.{and_parts}
use Rattle.std.specs.Str.{bytes_eq}
use Rattle.slee_value.specs.declared.component.ComponentId.{ComponentId}
use Rattle.deploy_model.specs.Rules.{or_later, is_same_id}
use Rattle.deploy_model.specs.Ids.{only_id}
use Rattle.deploy_schema.proofs.Noting.{turned, later_none}

-- a component by its three texts
id_by : (id : ComponentId) (name vendor version : List ℕ) → name ≡ id.name → vendor ≡ id.vendor → version ≡ id.version → record { name = name; vendor = vendor; version = version } ≡ id
id_by id name vendor version a b c = λ i. record { name = a i; vendor = b i; version = c i }

-- components with the same texts are the same
same_id : (q id : ComponentId) → is_same_id q id ≡ true → q ≡ id
same_id q id h =
    let one = and_parts _ _ h in
    let two = and_parts _ _ one.1 in
    id_by id q.name q.vendor q.version
    ((bytes_eq-Decides q.name id.name).0 one.0)
    ((bytes_eq-Decides q.vendor id.vendor).0 two.0)
    ((bytes_eq-Decides q.version id.version).0 two.1)

noted_at : (f : ComponentId → Option ℕ) (id : ComponentId) (n : ℕ) (q : ComponentId) (b : Bool) → is_same_id q id ≡ b → f id ≡ None → cond b (Some n) (f q) ≡ or_later (f q) (cond b (Some n) None)
noted_at f id n q true e none = rw (ap f (same_id q id e) ∙ none)
noted_at f id n q false e none = later_none (f q)

-- whichever is asked for which
turned_id : (id q : ComponentId) → is_same_id id q ≡ is_same_id q id
turned_id id q = rw (turned id.name q.name, turned id.vendor q.vendor, turned id.version q.version)

-- a component that stood for nothing stands for this item
pub noted_id : (f : ComponentId → Option ℕ) (id : ComponentId) (n : ℕ) (q : ComponentId) → f id ≡ None → cond (is_same_id id q) (Some n) (f q) ≡ or_later (f q) (only_id id n q)
noted_id f id n q none = rw (turned_id id q) (noted_at f id n q _ refl none)
