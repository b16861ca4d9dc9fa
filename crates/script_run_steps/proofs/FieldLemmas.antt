-- Fields in byte order of their names.
use Rattle.std.proofs.Common.{◌≡◌, ◌<◌, ◌+◌, ℕ, zero, suc, Bool, true, false, ◌&&◌, ◌||◌, List, [], ◌∷◌, map, length, drop, get_or, refl, sym, ap, ◌∙◌, subst, drop-cons, add-one, Less, Equal, Greater}
use Rattle.std.specs.Prelude.{cond, bytes_eq}
use Rattle.std.specs.List.{list_any, insert}
use Rattle.std.specs.declared.cmp.Ordering.{Ordering}
use Rattle.std.specs.Ordering.{is_lt, is_eq, ordering_reverse}
use Rattle.std.proofs.lemmas.Cmp.{nat_list_cmp_total}
use Rattle.std.proofs.lemmas.Map.Text.{is_eq-slice_cmp}
use Rattle.slee_value.specs.Order.{byte_order, is_below, rises, names_of}
use Rattle.slee_effect.specs.declared.value.Val.{Val}
use Rattle.script_types.specs.declared.checked_step.FieldTerm.{FieldTerm}
use Rattle.script_types.specs.Program.{Term}
use Rattle.script_types.specs.ProgramOf.{term_of, field_term_of}
use Rattle.script_meaning.specs.Running.{Setting, State, Ending, Gave, Broke, Needs, Stays, Run, then_run}
use Rattle.script_meaning.specs.Terms.{eval}
use Rattle.script_meaning.specs.Doing.{put_field, fields_of}
use Rattle.script_run_machine.specs.declared.stop.Stop.{Stop}
use Rattle.script_run_machine.specs.Agreeing.{Stops}
use Rattle.script_run_machine.specs.Machines.{MachineState}
use Rattle.script_run_terms.proofs.RunLemmas.{stops_then}
use Rattle.script_run_steps.specs.Firing.{place_in, AreApart, names_in}

put_first_is : (x y : List ℕ × Val) (ys : List (List ℕ × Val)) → put_field x ys ≡ insert ys (place_in x.0 ys) x → (b : Bool) → cond b (x ∷ y ∷ ys) (y ∷ put_field x ys) ≡ insert (y ∷ ys) (cond b zero (suc (place_in x.0 ys))) x
put_first_is x y ys h true = refl
put_first_is x y ys h false = ap (λ z. y ∷ z) h

-- a field is put in its place
pub put_field_is : (x : List ℕ × Val) (xs : List (List ℕ × Val)) → put_field x xs ≡ insert xs (place_in x.0 xs) x
put_field_is x [] = refl
put_field_is x (y ∷ ys) = put_first_is x y ys (put_field_is x ys) (is_below x.0 y.0)

turned : (o : Ordering) → is_lt (ordering_reverse o) ≡ false → is_eq (ordering_reverse o) ≡ false → is_lt o ≡ true
turned Less h k = refl
turned Equal h k = cc
turned Greater h k = cc

-- a name that is neither below another nor the same is above it
above : (x y : List ℕ) → is_below x y ≡ false → bytes_eq x y ≡ false → is_below y x ≡ true
above x y low other =
    let e : byte_order x y ≡ ordering_reverse (byte_order y x) = nat_list_cmp_total.antisymm x y in
    turned (byte_order y x) (ap is_lt (sym e) ∙ low) (ap is_eq (sym e) ∙ is_eq-slice_cmp x y ∙ other)

both : (a b : Bool) → a ≡ true → b ≡ true → (a && b) ≡ true
both true b h k = k
both false b h k = cc

first_of : (a b : Bool) → (a && b) ≡ true → a ≡ true
first_of true b h = refl
first_of false b h = cc

second_of : (a b : Bool) → (a && b) ≡ true → b ≡ true
second_of true b h = h
second_of false b h = cc

neither : (a b : Bool) → (a || b) ≡ false → (a ≡ false) × (b ≡ false)
neither true b h = cc
neither false b h = (refl, h)

rest_rises : (y : List ℕ) (zs : List (List ℕ)) → rises (y ∷ zs) ≡ true → rises zs ≡ true
rest_rises y [] h = refl
rest_rises y (z ∷ zs) h = second_of (is_below y z) (rises (z ∷ zs)) h

-- a name before fields among which a later one is put
before_put : (y : List ℕ) (x : List ℕ × Val) (ys : List (List ℕ × Val)) → is_below y x.0 ≡ true → rises (y ∷ names_of ys) ≡ true → rises (names_of (put_field x ys)) ≡ true → rises (y ∷ names_of (put_field x ys)) ≡ true
before_put y x [] low h k = both (is_below y x.0) true low refl
before_put y x (z ∷ zs) low h k = by (is_below x.0 z.0) k
  where
    by : (b : Bool) → rises (names_of (cond b (x ∷ z ∷ zs) (z ∷ put_field x zs))) ≡ true → rises (y ∷ names_of (cond b (x ∷ z ∷ zs) (z ∷ put_field x zs))) ≡ true
    by true k = both (is_below y x.0) (rises (x.0 ∷ z.0 ∷ names_of zs)) low k
    by false k = both (is_below y z.0) (rises (z.0 ∷ names_of (put_field x zs))) (first_of (is_below y z.0) (rises (z.0 ∷ names_of zs)) h) k

rises_with : (x y : List ℕ × Val) (ys : List (List ℕ × Val)) → rises (names_of (y ∷ ys)) ≡ true → list_any (bytes_eq x.0) (names_of (y ∷ ys)) ≡ false → (list_any (bytes_eq x.0) (names_of ys) ≡ false → rises (names_of (put_field x ys)) ≡ true) → (b : Bool) → is_below x.0 y.0 ≡ b → rises (names_of (cond b (x ∷ y ∷ ys) (y ∷ put_field x ys))) ≡ true
rises_with x y ys h new rest true low = both (is_below x.0 y.0) (rises (y.0 ∷ names_of ys)) low h
rises_with x y ys h new rest false high =
    let n = neither (bytes_eq x.0 y.0) (list_any (bytes_eq x.0) (names_of ys)) new in
    before_put y.0 x ys (above x.0 y.0 high n.0) h (rest n.1)

-- fields rise with a new one among them
put_rises : (x : List ℕ × Val) (ys : List (List ℕ × Val)) → rises (names_of ys) ≡ true → list_any (bytes_eq x.0) (names_of ys) ≡ false → rises (names_of (put_field x ys)) ≡ true
put_rises x [] h new = refl
put_rises x (y ∷ ys) h new = rises_with x y ys h new (λ k. put_rises x ys (rest_rises y.0 (names_of ys) h) k) (is_below x.0 y.0) refl

any_of : (a b : Bool) → a ≡ false → b ≡ false → (a || b) ≡ false
any_of true b h k = cc
any_of false b h k = k

apart_with : (n : List ℕ) (x y : List ℕ × Val) (ys : List (List ℕ × Val)) → bytes_eq n x.0 ≡ false → list_any (bytes_eq n) (names_of (y ∷ ys)) ≡ false → (list_any (bytes_eq n) (names_of ys) ≡ false → list_any (bytes_eq n) (names_of (put_field x ys)) ≡ false) → (b : Bool) → list_any (bytes_eq n) (names_of (cond b (x ∷ y ∷ ys) (y ∷ put_field x ys))) ≡ false
apart_with n x y ys h k rest true = any_of (bytes_eq n x.0) (list_any (bytes_eq n) (names_of (y ∷ ys))) h k
apart_with n x y ys h k rest false =
    let m = neither (bytes_eq n y.0) (list_any (bytes_eq n) (names_of ys)) k in
    any_of (bytes_eq n y.0) (list_any (bytes_eq n) (names_of (put_field x ys))) m.0 (rest m.1)

-- a name that is neither that of the new field nor among the others
put_apart : (n : List ℕ) (x : List ℕ × Val) (ys : List (List ℕ × Val)) → bytes_eq n x.0 ≡ false → list_any (bytes_eq n) (names_of ys) ≡ false → list_any (bytes_eq n) (names_of (put_field x ys)) ≡ false
put_apart n x [] h k = any_of (bytes_eq n x.0) false h refl
put_apart n x (y ∷ ys) h k = apart_with n x y ys h k (λ m. put_apart n x ys h m) (is_below x.0 y.0)

gave_then : {A B : Type 0} (m : Ending A) (g : A → Run B) (y : B) (st : State) → then_run m g ≡ Gave y st → (x : A) × (mid : State) × (g x mid ≡ Gave y st)
gave_then (Gave x mid) g y st h = (x, mid, h)
gave_then (Broke kind text mid) g y st h = cc
gave_then (Needs key) g y st h = cc
gave_then Stays g y st h = cc

-- the fields of an event that has none twice rise
fields_rise_from : (s : Setting) (fields : List (List ℕ × Term)) (given : List (List ℕ)) (done : List (List ℕ × Val)) (st : State) (xs : List (List ℕ × Val)) (end : State) → AreApart given (names_in fields) → ((n : List ℕ) → list_any (bytes_eq n) given ≡ false → list_any (bytes_eq n) (names_of done) ≡ false) → rises (names_of done) ≡ true → fields_of s fields done st ≡ Gave xs end → rises (names_of xs) ≡ true
fields_rise_from s [] given done st xs end apart new up h = let same : done ≡ xs = cc in ap (λ z. rises (names_of z)) (sym same) ∙ up
fields_rise_from s (y ∷ more) given done st xs end apart new up h =
    let go : Val → Run (List (List ℕ × Val)) = λ x. fields_of s more (put_field (y.0, x) done) in
    let r = gave_then (eval s y.1 st) go xs end h in
    fields_rise_from s more (y.0 ∷ given) (put_field (y.0, r.0) done) r.1 xs end apart.1
    (λ n k. let m = neither (bytes_eq n y.0) (list_any (bytes_eq n) given) k in put_apart n (y.0, r.0) done m.0 (new n m.1))
    (put_rises (y.0, r.0) done up (new y.0 apart.0)) r.2

pub fields_rise : (s : Setting) (fields : List (List ℕ × Term)) (st : State) (xs : List (List ℕ × Val)) (end : State) → AreApart [] (names_in fields) → fields_of s fields [] st ≡ Gave xs end → rises (names_of xs) ≡ true
fields_rise s fields st xs end apart h = fields_rise_from s fields [] [] st xs end apart (λ n k. refl) refl h

module _ (s : Setting) (fields : List FieldTerm) (i : ℕ) (f : FieldTerm) (done : List (List ℕ × Val)) where
  abbrev rest : Val → Run (List (List ℕ × Val))
  rest x = fields_of s (map field_term_of (drop (i + 1) fields)) (put_field (f.name, x) done)

  fields_next : (st : State) → i < length fields → f ≡ get_or fields i f → fields_of s (map field_term_of (drop i fields)) done st ≡ then_run (eval s (term_of f.term) st) rest
  fields_next st lt is =
      let go : List FieldTerm → Ending (List (List ℕ × Val)) = λ xs. fields_of s (map field_term_of xs) done st in
      let split : drop i fields ≡ f ∷ drop (i + 1) fields = rw (drop-cons fields i f, add-one, ← is) refl in
      ap go split

  -- what stops a field stops all
  pub fields_stop : (st : State) (new : MachineState) (e : Stop) (total : Ending (List (List ℕ × Val))) → i < length fields → f ≡ get_or fields i f → fields_of s (map field_term_of (drop i fields)) done st ≡ total → Stops (eval s (term_of f.term) st) new e → Stops total new e
  fields_stop st new e total lt is so_far h = subst (λ (t : Ending (List (List ℕ × Val))). Stops t new e) (sym (fields_next st lt is) ∙ so_far) (stops_then (eval s (term_of f.term) st) rest new e h)

  -- a field more is in its place
  pub fields_step : (more : List (List ℕ × Val)) (x : Val) (st new : State) (total : Ending (List (List ℕ × Val))) → i < length fields → f ≡ get_or fields i f → fields_of s (map field_term_of (drop i fields)) done st ≡ total → eval s (term_of f.term) st ≡ Gave x new → more ≡ put_field (f.name, x) done → fields_of s (map field_term_of (drop (i + 1) fields)) more new ≡ total
  fields_step more x st new total lt is so_far given same =
      ap (λ d. fields_of s (map field_term_of (drop (i + 1) fields)) d new) same ∙ sym (ap (λ r. then_run r rest) given) ∙ sym (fields_next st lt is) ∙ so_far
