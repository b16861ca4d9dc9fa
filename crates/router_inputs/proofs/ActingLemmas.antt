-- What a line does was tested so far that its changes can be made.
use Rattle.std.proofs.Common.{◌≡◌, ℕ, ◌+◌, ◌<◌, Bool, true, false, List, [], ◌∷◌, Option, Some, None, Result, Ok, Err, length, refl, sym, ap, ◌∙◌, arith, inl, inr}
use Rattle.std.specs.Prelude.{not, nat_lt, ◌&&◌, ◌||◌, slice_get, position, is_some, is_none, if◌then◌else◌}
use Rattle.std.specs.List.{list_all, list_any, position_from}
use Rattle.std.specs.Str.{bytes_eq}
use Rattle.std.proofs.lemmas.Iterator.Adapters.{position_from-zero}
use Rattle.std.proofs.lemmas.Bool.{cases_Bool}
use Rattle.std.proofs.lemmas.Bool.Decides.{nat_tests}
use Rattle.std.proofs.lemmas.Option.{slice_get_within}
use Rattle.slee_value.specs.declared.value.Value.{Value}
use Rattle.signal_script.specs.declared.signal.Signal.{Signal}
use Rattle.signal_script.specs.declared.signal.Signal.TheVariants as signals
use Rattle.deploy_model.specs.Deployed.{DeployedTable, table_attributes, table_named, service_named}
use Rattle.router_state.specs.State.{State}
use Rattle.router_state.specs.Ordered.{IsOrdered}
use Rattle.router_state.specs.Contexts.{external, is_active, has_name}
use Rattle.router_state.specs.Fitting.{has_table, is_fit_row}
use Rattle.router_state.specs.Profiles.{is_row, row_at, are_unique}
use Rattle.router_state.specs.Timing.{ending_suspensions, fired, fired_in_all, occurrence_limit}
use Rattle.router_state.specs.Services.{is_inactive, is_active as is_active_service}
use Rattle.router_state.specs.declared.rows.Activity.{Activity}
use Rattle.router_state.specs.declared.rows.ProfileRow.{ProfileRow}
use Rattle.router_state.specs.declared.rows.Service.{Service}
use Rattle.router_steps.specs.declared.refusal.Refusal.{Refusal}
use Rattle.router_steps.specs.declared.refusal.Refusal.TheVariants as refusals
use Rattle.router_steps.specs.Actions.{Action, StartActivity, EndActivity, FireEvent, SetClock, ActivateService, StopService, ChangeRow, RowAdded, RowUpdated, RowRemoved, action_of, adding, updating, removing, and_then, there_or, refused_if, open_activity, declared_event, target_of, values_of, firing, service_of_key, is_duplicate, row_values, table_of_name}
use Rattle.router_steps.specs.Values.{fields_given}
use Rattle.router_inputs.specs.Acting.{can_take}
use Rattle.router_inputs.proofs.GivenLemmas.{given_are_declared}
use Rattle.router_inputs.proofs.LookupLemmas.{found_by_number}

-- what follows from what is there
then_can : {A : Type 0} (s : State) (o : Result A Refusal) (f : A → Result Action Refusal) → ((x : A) → o ≡ Ok x → can_take (f x) s ≡ true) → can_take (and_then o f) s ≡ true
then_can s (Ok x) f can = can x refl
then_can s (Err why) f can = refl

-- a refusal, or else this
unless_can : (s : State) (b : Bool) (why : Refusal) (r : Result Action Refusal) → (b ≡ false → can_take r s ≡ true) → can_take (if b then Err why else r) s ≡ true
unless_can s true why r can = refl
unless_can s false why r can = can refl

-- what is there
there : {A : Type 0} (why : Refusal) (o : Option A) (x : A) → there_or why o ≡ Ok x → o ≡ Some x
there why None x is = absurd (cc)
there why (Some y) x is = let own : y ≡ x = cc in ap Some own

-- what was looked up by way of something else
by_way : {A B : Type 0} (o : Result A Refusal) (f : A → Result B Refusal) (y : B) → and_then o f ≡ Ok y → (x : A) × (o ≡ Ok x) × (f x ≡ Ok y)
by_way (Ok x) f y is = (x, refl, is)
by_way (Err why) f y is = absurd (cc)

-- what isn't refused
not_refused : {A : Type 0} (b : Bool) (why : Refusal) (x y : A) → refused_if b why x ≡ Ok y → (b ≡ false) × (x ≡ y)
not_refused true why x y is = absurd (cc)
not_refused false why x y is = (refl, cc)

start_can : (s : State) (name : List ℕ) → can_take (action_of s (signals.Start name)) s ≡ true
start_can s name = by (external s.activities name) refl
  where
    by : (o : Option Activity) → external s.activities name ≡ o → can_take (refused_if (is_some o) refusals.Exists (StartActivity name)) s ≡ true
    by None none = rw none refl
    by (Some row) some = refl

open_is_active : (s : State) (name : List ℕ) (row : Activity) → IsOrdered s → open_activity s name ≡ Ok row → is_active s.activities row.number.0 ≡ true
open_is_active s name row ordered is =
    let way = by_way (there_or refusals.UnknownActivity (external s.activities name)) (λ (row : Activity). refused_if row.ending refusals.Ending row) row is in
    let found = there refusals.UnknownActivity (external s.activities name) way.0 way.1 in
    let open_one = not_refused way.0.ending refusals.Ending way.0 row way.2 in
    let at_number = found_by_number (λ (row : Activity). has_name row.kind name) way.0 s.activities ordered.activities found in
    rw (← open_one.1, at_number, open_one.0) refl

end_can : (s : State) (name : List ℕ) → IsOrdered s → can_take (action_of s (signals.End name)) s ≡ true
end_can s name ordered = then_can s (open_activity s name) (λ row. Ok (EndActivity row.number.0)) (λ row is. open_is_active s name row ordered is)

fire_can : (s : State) (a : ℕ) (event : List ℕ) (service : Option (List ℕ)) (words : List (List ℕ × List ℕ)) → can_take (firing s a event service words) s ≡ true
fire_can s a event service words =
    then_can s (declared_event s.deployment event) (λ declared. and_then (target_of s.deployment service) (λ target. and_then (values_of declared.fields words) (λ values. Ok (FireEvent a event values target)))) (λ declared _.
    then_can s (target_of s.deployment service) (λ target. and_then (values_of declared.fields words) (λ values. Ok (FireEvent a event values target))) (λ target _.
    then_can s (values_of declared.fields words) (λ values. Ok (FireEvent a event values target)) (λ values _. refl)))

service_there : (s : State) (key : List ℕ) (x : ℕ × Service) → service_of_key s key ≡ Ok x → nat_lt x.0 (length s.services) ≡ true
service_there s key x is =
    let way = by_way (there_or refusals.UnknownService (service_named s.deployment key)) (λ n. and_then (there_or refusals.UnknownService (slice_get s.services n)) (λ row. Ok (n, row))) x is in
    let more = by_way (there_or refusals.UnknownService (slice_get s.services way.0)) (λ row. Ok (way.0, row)) x way.2 in
    let row = there refusals.UnknownService (slice_get s.services way.0) more.0 more.1 in
    let low : way.0 < length s.services = slice_get_within s.services way.0 more.0 row in
    let number : way.0 ≡ x.0 = ok_first way.0 more.0 x more.2 in
    rw (← number) (grind (arith, nat_tests, low))
  where
    ok_first : (n : ℕ) (row : Service) (x : ℕ × Service) → ◌≡◌ {A = Result (ℕ × Service) Refusal} (Ok (n, row)) (Ok x) → n ≡ x.0
    ok_first n row x is = let own : (n, row) ≡ x = cc in ap (λ (p : ℕ × Service). p.0) own

-- tables

within_from : {X : Type 0} (p : X → Bool) (i n : ℕ) (xs : List X) → position_from p i xs ≡ Some n → n < i + length xs
within_from p i n [] none = absurd (cc)
within_from p i n (x ∷ xs) is = elim (cases_Bool (p x)) [
  | inl here ↦
      let first : Some i ≡ Some n = rw here at is in
      let own : i ≡ n = cc in
      omega (arith, own)
  | inr apart ↦
      let later : position_from p (i + 1) xs ≡ Some n = rw apart at is in
      let low = within_from p (i + 1) n xs later in
      omega (arith, low)
]

place_within : {X : Type 0} (p : X → Bool) (xs : List X) (n : ℕ) → position p xs ≡ Some n → nat_lt n (length xs) ≡ true
place_within p xs n is = let low = within_from p 0 n xs (sym (position_from-zero p xs) ∙ is) in grind (arith, nat_tests, low)

some_there : {X : Type 0} (o : Option X) → is_none o ≡ false → is_some o ≡ true
some_there None is = absurd (cc)
some_there (Some x) is = refl

table_there : (s : State) (name : List ℕ) (n : ℕ) → table_of_name s name ≡ Ok n → has_table s.deployment n ≡ true
table_there s name n is = place_within (λ (t : DeployedTable). bytes_eq t.name name) s.deployment.tables n (there refusals.UnknownTable (table_named s.deployment name) n is)

-- values that are no other row's
apart : (s : State) (n : ℕ) (row : List ℕ) (values : List (List ℕ × Value)) (rows : List ProfileRow)
    → list_any (λ other. if is_row n row other then false else not (are_unique s.deployment (record { table = n; row = row; attributes = values }) other)) rows ≡ false
    → list_all (λ other. is_row n row other || are_unique s.deployment (record { table = n; row = row; attributes = values }) other) rows ≡ true
apart s n row values [] none = refl
apart s n row values (x ∷ rows) none =
    by (is_row n row x) (are_unique s.deployment (record { table = n; row = row; attributes = values }) x) (apart s n row values rows) none
  where
    by : (b u : Bool)
        → (list_any (λ other. if is_row n row other then false else not (are_unique s.deployment (record { table = n; row = row; attributes = values }) other)) rows ≡ false
        → list_all (λ other. is_row n row other || are_unique s.deployment (record { table = n; row = row; attributes = values }) other) rows ≡ true)
        → ((if b then false else not u) || list_any (λ other. if is_row n row other then false else not (are_unique s.deployment (record { table = n; row = row; attributes = values }) other)) rows) ≡ false
        → ((b || u) && list_all (λ other. is_row n row other || are_unique s.deployment (record { table = n; row = row; attributes = values }) other) rows) ≡ true
    by true u more is = more is
    by false true more is = more is
    by false false more is = absurd (cc)

fit_row : (s : State) (n : ℕ) (row : List ℕ) (words : List (List ℕ × List ℕ)) (values : List (List ℕ × Value)) → has_table s.deployment n ≡ true → row_values s n row words ≡ Ok values
    → is_fit_row s.deployment s.rows (record { table = n; row = row; attributes = values }) ≡ true
fit_row s n row words values table is =
    let way = by_way (values_of (table_attributes s.deployment n) words) (λ values. refused_if (is_duplicate s n row values) refusals.Duplicate values) values is in
    let given = there refusals.BadFields (fields_given (table_attributes s.deployment n) words) way.0 way.1 in
    let own = not_refused (is_duplicate s n row way.0) refusals.Duplicate way.0 values way.2 in
    let declared = given_are_declared (table_attributes s.deployment n) words way.0 given in
    let others = apart s n row way.0 s.rows own.0 in
    rw (← own.1, table, declared, others) refl

add_can : (s : State) (n : ℕ) (row : List ℕ) (words : List (List ℕ × List ℕ)) → has_table s.deployment n ≡ true → can_take (adding s n row words) s ≡ true
add_can s n row words table =
    unless_can s (is_some (row_at s.rows n row)) refusals.RowExists (and_then (row_values s n row words) (λ values. Ok (ChangeRow n row (RowAdded values)))) (λ new.
    then_can s (row_values s n row words) (λ values. Ok (ChangeRow n row (RowAdded values))) (λ values is.
    let fit = fit_row s n row words values table is in rw (fit, new) refl))

update_can : (s : State) (n : ℕ) (row : List ℕ) (words : List (List ℕ × List ℕ)) → has_table s.deployment n ≡ true → can_take (updating s n row words) s ≡ true
update_can s n row words table =
    unless_can s (is_none (row_at s.rows n row)) refusals.NoRow (and_then (row_values s n row words) (λ values. Ok (ChangeRow n row (RowUpdated values)))) (λ old.
    then_can s (row_values s n row words) (λ values. Ok (ChangeRow n row (RowUpdated values))) (λ values is.
    let fit = fit_row s n row words values table is in
    let own = some_there (row_at s.rows n row) old in rw (fit, own) refl))

remove_can : (s : State) (n : ℕ) (row : List ℕ) → has_table s.deployment n ≡ true → can_take (removing s n row) s ≡ true
remove_can s n row table =
    unless_can s (is_none (row_at s.rows n row)) refusals.NoRow (Ok (ChangeRow n row RowRemoved)) (λ old.
    let own = some_there (row_at s.rows n row) old in rw (table, own) refl)

clock_can : (s : State) (to : ℕ) → can_take (action_of s (signals.Clock to)) s ≡ true
clock_can s to =
    unless_can s (nat_lt to s.clock) refusals.ClockBack (if nat_lt occurrence_limit (fired_in_all to s.timers) then Err refusals.TooMany else Ok (SetClock to (ending_suspensions to s.suspensions) (fired to s.timers))) (λ _.
    unless_can s (nat_lt occurrence_limit (fired_in_all to s.timers)) refusals.TooMany (Ok (SetClock to (ending_suspensions to s.suspensions) (fired to s.timers))) (λ _. refl))

-- what a line does can be done
pub acts : (s : State) (signal : Signal) → IsOrdered s → can_take (action_of s signal) s ≡ true
acts s (signals.Start name) ordered = start_can s name
acts s (signals.End name) ordered = end_can s name ordered
acts s (signals.Fire name event service words) ordered =
    then_can s (open_activity s name) (λ row. firing s row.number.0 event service words) (λ row is. fire_can s row.number.0 event service words)
acts s (signals.Clock to) ordered = clock_can s to
acts s (signals.Activate key) ordered =
    then_can s (service_of_key s key) (λ x. refused_if (not (is_inactive x.1.state)) refusals.NotInactive (ActivateService x.0)) (λ x is.
    unless_can s (not (is_inactive x.1.state)) refusals.NotInactive (Ok (ActivateService x.0)) (λ _. service_there s key x is))
acts s (signals.Deactivate key) ordered =
    then_can s (service_of_key s key) (λ x. refused_if (not (is_active_service x.1.state)) refusals.NotActive (StopService x.0 x.1.activity.0)) (λ x is.
    unless_can s (not (is_active_service x.1.state)) refusals.NotActive (Ok (StopService x.0 x.1.activity.0)) (λ _. service_there s key x is))
acts s (signals.ProfileAdd name row words) ordered = then_can s (table_of_name s name) (λ n. adding s n row words) (λ n is. add_can s n row words (table_there s name n is))
acts s (signals.ProfileUpdate name row words) ordered = then_can s (table_of_name s name) (λ n. updating s n row words) (λ n is. update_can s n row words (table_there s name n is))
acts s (signals.ProfileRemove name row) ordered = then_can s (table_of_name s name) (λ n. removing s n row) (λ n is. remove_can s n row (table_there s name n is))
