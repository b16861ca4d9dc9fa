-- Tickets that are told to be the same are one.
use Rattle.std.proofs.Common.{◌≡◌, ℕ, Bool, true, false, ◌==◌, ◌&&◌, List, [], ◌∷◌, Option, Some, None, refl, ◌∙◌, ap, subst, inl, inr, arith}
use Rattle.std.specs.Prelude.{bytes_eq}
use Rattle.std.proofs.lemmas.Bool.{cases_Bool}
use Rattle.std.proofs.lemmas.Bool.Decides.{nat_tests}
use Rattle.std.proofs.lemmas.Slice.Eq.{bytes_eq-Decides}
use Rattle.slee_value.specs.declared.value.Value.{Value}
use Rattle.script_meaning.specs.Same.{same_field, same_list, same_option}
use Rattle.script_meaning.specs.declared.seen.Seen.TheVariants as seens
use Rattle.router_state.specs.declared.rows.Event.{Event}
use Rattle.tx_attempt.specs.declared.ticket.Ticket.{Ticket}
use Rattle.tx_attempt.proofs.SameLemmas.{seen_is, seen_itself}
use Rattle.slee_container.specs.Claims.{IsClaim}
use Rattle.slee_container.specs.Same.{is_among, same_event, same_ticket}

number_is : (m n : ℕ) → (m == n) ≡ true → m ≡ n
number_is m n h = grind (arith, nat_tests)

number_itself : (n : ℕ) → (n == n) ≡ true
number_itself n = grind (arith, nat_tests)

text_is : (x y : List ℕ) → bytes_eq x y ≡ true → x ≡ y
text_is x y h = (bytes_eq-Decides x y).0 h

text_itself : (x : List ℕ) → bytes_eq x x ≡ true
text_itself x = (bytes_eq-Decides x x).1 refl

left_of : (a b : Bool) → (a && b) ≡ true → a ≡ true
left_of true b h = refl
left_of false b h = cc

right_of : (a b : Bool) → (a && b) ≡ true → b ≡ true
right_of true b h = h
right_of false b h = cc

both_of : (a b : Bool) → a ≡ true → b ≡ true → (a && b) ≡ true
both_of true b g h = h
both_of false b g h = g

-- fields are compared as rows are

row_of : (x y : List (List ℕ × Value)) → seens.Row (Some x) ≡ seens.Row (Some y) → x ≡ y
row_of x y h = cc

fields_are : (x y : List (List ℕ × Value)) → same_list same_field x y ≡ true → x ≡ y
fields_are x y h = row_of x y (seen_is (seens.Row (Some x)) (seens.Row (Some y)) h)

fields_themselves : (x : List (List ℕ × Value)) → same_list same_field x x ≡ true
fields_themselves x = seen_itself (seens.Row (Some x))

target_is : (x y : Option ℕ) → same_option (λ a b. a == b) x y ≡ true → x ≡ y
target_is None None h = refl
target_is None (Some n) h = cc
target_is (Some m) None h = cc
target_is (Some m) (Some n) h = ap (λ (k : ℕ). Some k) (number_is m n h)

target_itself : (x : Option ℕ) → same_option (λ a b. a == b) x x ≡ true
target_itself None = refl
target_itself (Some n) = number_itself n

-- events

abbrev event_of : ℕ → List ℕ → List (List ℕ × Value) → Option ℕ → Event
event_of id name fields target = record { id = record { 0 = id }; name = name; fields = fields; target = target }

event_is : (x y : Event) → same_event x y ≡ true → x ≡ y
event_is x y h =
    let id = number_is x.id.0 y.id.0 (left_of (x.id.0 == y.id.0) _ h) in
    let more = right_of (x.id.0 == y.id.0) _ h in
    let name = text_is x.name y.name (left_of (bytes_eq x.name y.name) _ more) in
    let rest = right_of (bytes_eq x.name y.name) _ more in
    let fields = fields_are x.fields y.fields (left_of (same_list same_field x.fields y.fields) _ rest) in
    let target = target_is x.target y.target (right_of (same_list same_field x.fields y.fields) _ rest) in
    ap (λ (n : ℕ). event_of n x.name x.fields x.target) id
    ∙ ap (λ (s : List ℕ). event_of y.id.0 s x.fields x.target) name
    ∙ ap (λ (f : List (List ℕ × Value)). event_of y.id.0 y.name f x.target) fields
    ∙ ap (λ (o : Option ℕ). event_of y.id.0 y.name y.fields o) target

event_itself : (x : Event) → same_event x x ≡ true
event_itself x =
    both_of (x.id.0 == x.id.0) _ (number_itself x.id.0)
    (both_of (bytes_eq x.name x.name) _ (text_itself x.name) (both_of (same_list same_field x.fields x.fields) _ (fields_themselves x.fields) (target_itself x.target)))

-- tickets

abbrev ticket_of : ℕ → ℕ → Event → ℕ → ℕ → Ticket
ticket_of number activity event entity block =
    record { number = number; activity = record { 0 = activity }; event = event; entity = record { 0 = entity }; block = block }

ticket_is : (t u : Ticket) → same_ticket t u ≡ true → t ≡ u
ticket_is t u h =
    let number = number_is t.number u.number (left_of (t.number == u.number) _ h) in
    let one = right_of (t.number == u.number) _ h in
    let activity = number_is t.activity.0 u.activity.0 (left_of (t.activity.0 == u.activity.0) _ one) in
    let two = right_of (t.activity.0 == u.activity.0) _ one in
    let event = event_is t.event u.event (left_of (same_event t.event u.event) _ two) in
    let three = right_of (same_event t.event u.event) _ two in
    let entity = number_is t.entity.0 u.entity.0 (left_of (t.entity.0 == u.entity.0) _ three) in
    let block = number_is t.block u.block (right_of (t.entity.0 == u.entity.0) _ three) in
    ap (λ (n : ℕ). ticket_of n t.activity.0 t.event t.entity.0 t.block) number
    ∙ ap (λ (n : ℕ). ticket_of u.number n t.event t.entity.0 t.block) activity
    ∙ ap (λ (v : Event). ticket_of u.number u.activity.0 v t.entity.0 t.block) event
    ∙ ap (λ (n : ℕ). ticket_of u.number u.activity.0 u.event n t.block) entity
    ∙ ap (λ (n : ℕ). ticket_of u.number u.activity.0 u.event u.entity.0 n) block

ticket_itself : (t : Ticket) → same_ticket t t ≡ true
ticket_itself t =
    both_of (t.number == t.number) _ (number_itself t.number)
    (both_of (t.activity.0 == t.activity.0) _ (number_itself t.activity.0)
    (both_of (same_event t.event t.event) _ (event_itself t.event) (both_of (t.entity.0 == t.entity.0) _ (number_itself t.entity.0) (number_itself t.block))))

-- a ticket that is told to be one of the claims is one, and another isn't

pub among_is : (t : Ticket) (claims : List Ticket) → is_among t claims ≡ true → IsClaim t claims
among_is t [] h = absurd cc
among_is t (u ∷ us) h = elim (cases_Bool (same_ticket t u)) [
  | inl same ↦ inl (ticket_is t u same)
  | inr other ↦ inr (among_is t us (rw other at h))
]

pub among_isnt : (t : Ticket) (claims : List Ticket) → is_among t claims ≡ false → IsClaim t claims → ⊥
among_isnt t [] h is = elim is [ ]
among_isnt t (u ∷ us) h (inl same) =
    let itself : same_ticket t u ≡ true = subst (λ (x : Ticket). same_ticket t x ≡ true) same (ticket_itself t) in
    let wrong : true ≡ false = rw itself at h in
    cc
among_isnt t (u ∷ us) h (inr more) = elim (cases_Bool (same_ticket t u)) [
  | inl same ↦ let wrong : true ≡ false = rw same at h in cc
  | inr other ↦ among_isnt t us (rw other at h) more
]
