-- A delivery is of the head event, to the first of the entities that may receive it; a finish comes when there is none.
use Rattle.std.proofs.Common.{◌≡◌, ℕ, Bool, true, false, List, [], ◌∷◌, refl, sym, ◌∙◌, inl, inr, Option, Some, None}
use Rattle.std.specs.Prelude.{is_some, option_map}
use Rattle.std.proofs.lemmas.Bool.{cases_Bool, false≢true}
use Rattle.slee_value.specs.declared.ids.ActivityId.{ActivityId}
use Rattle.router_laws.specs.Forest.{IsIn}
use Rattle.router_laws_histories.proofs.ByPriority.{first_is}
use Rattle.router_laws_histories.proofs.Receiving.{chained, first_in}
use Rattle.router_laws_histories.proofs.Stepped.{mapped_some}
use Rattle.router_laws_histories.proofs.Waiting.{next_free}
use Rattle.router_laws_histories.specs.Words.{IsFirstOf}
use Rattle.router_state.specs.State.{State}
use Rattle.router_state.specs.Next.{due_service, eligible, first, next_for, receives_at}
use Rattle.router_state.specs.Paths.{earlier, least_path}
use Rattle.router_state.specs.Queues.{head_event}
use Rattle.router_state.specs.declared.rows.Entity.{Entity}
use Rattle.router_state.specs.declared.rows.Event.{Event}
use Rattle.router_steps.specs.Scripts.{delivered_in}
use Rattle.router_steps.specs.Steps.{Receipt, delivery_at, delivery_to, is_finish, is_next}
use Rattle.trace_history.specs.declared.choice.Choice.TheVariants as choices

-- the head event, and the first of those that may receive it
abbrev IsFirstReceipt : State → Receipt → Type 0
IsFirstReceipt s x = (head_event s.events x.activity ≡ Some x.event) × (first s x.activity x.event ≡ Some x.entity)

first_receipt : (s : State) (a : ℕ) (x : Receipt) → delivery_at s a ≡ Some x → IsFirstReceipt s x
first_receipt s a x is =
    chained (IsFirstReceipt s) (delivery_to s a) (receives_at s a) x is
    (λ pair found told. mapped_some (IsFirstReceipt s) (λ found. record { activity = a; event = pair.0; entity = pair.1; delivered = found }) (delivered_in s a pair.0 pair.1) x told
    (λ outcome _. chained (λ (y : Event × Entity). (head_event s.events a ≡ Some y.0) × (first s a y.0 ≡ Some y.1))
    (λ v. option_map (λ row. (v, row)) (first s a v)) (head_event s.events a) pair found
    (λ v head picked. mapped_some (λ (y : Event × Entity). (head_event s.events a ≡ Some y.0) × (first s a y.0 ≡ Some y.1)) (λ row. (v, row)) (first s a v) pair picked
    (λ row least. (head, least)))))

pub delivered_first : (s : State) (a : ℕ) (x : Receipt) → delivery_at s a ≡ Some x
    → (head_event s.events x.activity ≡ Some x.event) × IsIn x.entity (eligible s x.activity x.event) × IsFirstOf s.entities x.entity (eligible s x.activity x.event)
delivered_first s a x is =
    let both = first_receipt s a x is in
    (both.0, first_in s.entities (eligible s x.activity x.event) x.entity both.1, first_is s.entities (eligible s x.activity x.event) x.entity both.1)

-- where nothing is first, there is nothing

some_best : (rows : List Entity) (best : Entity) (ys : List Entity) → is_some (least_path rows (Some best) ys) ≡ true
some_best rows best [] = refl
some_best rows best (y ∷ ys) = some_best rows (earlier rows (Some best) y) ys

none_first : (rows ys : List Entity) → is_some (least_path rows None ys) ≡ false → ys ≡ []
none_first rows [] none = refl
none_first rows (y ∷ ys) none = absurd (false≢true (sym none ∙ some_best rows y ys))

pub finished_last : (s : State) (a : ActivityId) (v : Event) → is_next s (choices.Finish a) ≡ true → head_event s.events a.0 ≡ Some v → eligible s a.0 v ≡ []
finished_last s a v on head =
    let free = next_free s a.0 is_finish on in
    let last : is_finish (next_for s a.0 v) ≡ true = rw (free, head) at on in
    elim (cases_Bool (is_some (due_service s a.0 v))) [
      | inl due ↦ absurd (false≢true (rw due at last))
      | inr no_service ↦ (elim (cases_Bool (is_some (first s a.0 v))) [
        | inl there ↦ absurd (false≢true (rw (no_service, there) at last))
        | inr none ↦ none_first s.entities (eligible s a.0 v) none
      ])
    ]
