-- The fields of an event are read as they are spelled, and their names rise.
use Rattle.std.proofs.Common.{◌≡◌, ℕ, zero, suc, ◌^◌, ◌<◌, Bool, true, false, ◌&&◌, List, [], ◌∷◌, ◌++◌, length, Option, Some, None, Ok, refl, sym, ap, subst, ◌∙◌, arith}
use Rattle.std.specs.Int.{w32}
use Rattle.std.specs.Prelude.{⊤}
use Rattle.std.specs.List.{flat_map, AllByRecursion}
use Rattle.std.proofs.lemmas.List.Concat.{flat_map-cons}
use Rattle.slee_value.specs.Order.{is_below, rises, names_of}
use Rattle.slee_value.specs.Bytes.{spelled_text, FitsText}
use Rattle.slee_value.specs.Reading.{Part, ◌>>=◌, mapped, number_at}
use Rattle.slee_value.proofs.ReadLemmas.{AreBytes, Takes, ReadsBy, reads_pair, ok_is}
use Rattle.slee_effect.specs.declared.value.Val.{Val}
use Rattle.slee_effect.specs.Bytes.{spelled_val, spelled_field, spelled_fields}
use Rattle.slee_effect.specs.Fitting.{FitsVal, FitsField, RiseLoosely, AreRisingFields, AreLooseFields}
use Rattle.slee_effect.specs.Names.{follows}
use Rattle.slee_effect.specs.Reading.{name_at, val_at, field_at, rows_at, fields_at}
use Rattle.slee_effect.proofs.NameReading.{FitsName, Climbs, LooseName, reads_name}
use Rattle.slee_effect.proofs.ThenLemmas.{reads_same, reads_refit, reads_made, after, spell_after, fits_after, reads_after, same_cons, reads_counted}
use Rattle.slee_effect.proofs.PieceLemmas.{reads_val, example_val}

-- ---- fields, one after the other

abbrev FitsRow : Option (List ℕ) → List ℕ × Val → Type 0
FitsRow before row = FitsName before row.0 × FitsVal row.1

abbrev LooseRow : Option (List ℕ) → List ℕ × Val → Type 0
LooseRow before row = LooseName before row.0 × FitsVal row.1

reads_row : (before : Option (List ℕ)) → ReadsBy spelled_field (FitsRow before) (LooseRow before) (field_at before)
reads_row before = reads_pair spelled_text (FitsName before) (LooseName before) (name_at before) spelled_val FitsVal FitsVal val_at (reads_name before) reads_val

and_both : (a b : Bool) → (a && b) ≡ true → (a ≡ true) × (b ≡ true)
and_both true b e = (refl, e)
and_both false b e = absurd cc

-- whether the names rise, and behind the one before
abbrev rises_behind : Option (List ℕ) → List (List ℕ) → Bool
rises_behind None names = rises names
rises_behind (Some before) names = rises (before ∷ names)

-- the same, but behind a name that leaves no room
abbrev LooseBehind : Option (List ℕ) → List (List ℕ) → Type 0
LooseBehind before [] = ⊤
LooseBehind before (name ∷ names) = Climbs before name × RiseLoosely (name ∷ names)

abbrev LooseRows : ℕ → Option (List ℕ) → List (List ℕ × Val) → Type 0
LooseRows n before rows = (length rows ≡ n) × (AllByRecursion FitsField rows × LooseBehind before (names_of rows))

abbrev FitsRows : ℕ → Option (List ℕ) → List (List ℕ × Val) → Type 0
FitsRows n before rows = (length rows ≡ n) × (AllByRecursion FitsField rows × (rises_behind before (names_of rows) ≡ true))

abbrev spelled_rows : List (List ℕ × Val) → List ℕ
spelled_rows rows = flat_map spelled_field rows

no_rows : (before : Option (List ℕ)) → rises_behind before [] ≡ true
no_rows None = refl
no_rows (Some before) = refl

rise_on : (name : List ℕ) (names : List (List ℕ)) → FitsText name → LooseBehind (Some name) names → RiseLoosely (name ∷ names)
rise_on name [] t l = tt
rise_on name (next ∷ names) t l = (l.0 t.utf8, l.1)

pub rise_loosely : (names : List (List ℕ)) → rises names ≡ true → RiseLoosely names
rise_loosely [] e = tt
rise_loosely (x ∷ []) e = tt
rise_loosely (x ∷ y ∷ names) e = (let b = and_both (is_below x y) (rises (y ∷ names)) e in (λ room. b.0, rise_loosely (y ∷ names) b.1))

loosely : (before : Option (List ℕ)) (names : List (List ℕ)) → rises_behind before names ≡ true → LooseBehind before names
loosely before [] e = tt
loosely None (name ∷ names) e = (tt, rise_loosely (name ∷ names) e)
loosely (Some before) (name ∷ names) e = (let b = and_both (is_below before name) (rises (name ∷ names)) e in (λ u room. b.0, rise_loosely (name ∷ names) b.1))

behind_none : (names : List (List ℕ)) → LooseBehind None names → RiseLoosely names
behind_none [] l = tt
behind_none (name ∷ names) l = l.1

nil_of : (rows : List (List ℕ × Val)) → length rows ≡ 0 → rows ≡ []
nil_of [] e = refl
nil_of (r ∷ rows) e = absurd (omega arith)

abbrev first_row : List (List ℕ × Val) → (List ℕ × Val) × List (List ℕ × Val)
first_row [] = (([], example_val), [])
first_row (r ∷ rows) = (r, rows)

both_and : (a b : Bool) → a ≡ true → b ≡ true → (a && b) ≡ true
both_and true b p q = q
both_and false b p q = absurd cc

behind_both : (before : Option (List ℕ)) (name : List ℕ) (names : List (List ℕ)) → follows before name ≡ true → rises (name ∷ names) ≡ true → rises_behind before (name ∷ names) ≡ true
behind_both None name names p q = q
behind_both (Some before) name names p q = both_and (is_below before name) (rises (name ∷ names)) p q

both_behind : (before : Option (List ℕ)) (name : List ℕ) (names : List (List ℕ)) → rises_behind before (name ∷ names) ≡ true → (follows before name ≡ true) × (rises (name ∷ names) ≡ true)
both_behind None name names p = (refl, p)
both_behind (Some before) name names p = and_both (is_below before name) (rises (name ∷ names)) p

abbrev Row : Type 0
Row = List ℕ × Val

abbrev join_rows : Row × List Row → List Row
join_rows p = p.0 ∷ p.1

module _ (n : ℕ) (before : Option (List ℕ)) (next : (name : Option (List ℕ)) → ReadsBy spelled_rows (FitsRows n name) (LooseRows n name) (rows_at n name)) where
  abbrev rest_at : Row → List ℕ → Part (List Row)
  rest_at row bytes = rows_at n (Some row.0) bytes

  abbrev spell_two : Row × List Row → List ℕ
  spell_two = spell_after spelled_field spelled_rows

  abbrev fits_two : Row × List Row → Type 0
  fits_two = fits_after (FitsRow before) (λ row. FitsRows n (Some row.0))

  abbrev loose_two : Row × List Row → Type 0
  loose_two = fits_after (LooseRow before) (λ row. LooseRows n (Some row.0))

  reads_two : ReadsBy spell_two fits_two loose_two (after (field_at before) rest_at)
  reads_two = reads_after spelled_field (FitsRow before) (LooseRow before) (field_at before) spelled_rows (λ row. FitsRows n (Some row.0)) (λ row. LooseRows n (Some row.0)) rest_at (reads_row before) (λ row. next (Some row.0))

  two_fit : (p : Row × List Row) → fits_two p → FitsRows (suc n) before (join_rows p)
  two_fit p f = (ap suc f.1.0, (((f.0.0.0, f.0.1), f.1.1.0), behind_both before p.0.0 (names_of p.1) f.0.0.1 f.1.1.1))

  two_loose : (p : Row × List Row) → loose_two p → LooseRows (suc n) before (join_rows p)
  two_loose p f = (ap suc f.1.0, (((f.0.0.0, f.0.1), f.1.1.0), (f.0.0.1, rise_on p.0.0 (names_of p.1) f.0.0.0 f.1.1.1)))

  first_spells : (rows : List Row) → FitsRows (suc n) before rows → spell_two (first_row rows) ≡ spelled_rows rows
  first_spells [] f = absurd (omega (arith, f.0))
  first_spells (r ∷ rows) f = sym (flat_map-cons spelled_field r rows)

  first_fits : (rows : List Row) → FitsRows (suc n) before rows → fits_two (first_row rows)
  first_fits [] f = absurd (omega (arith, f.0))
  first_fits (r ∷ rows) f =
      let b = both_behind before r.0 (names_of rows) f.1.1 in
      (((f.1.0.0.0, b.0), f.1.0.0.1), (omega (arith, f.0), (f.1.0.1, b.1)))

  first_back : (rows : List Row) → FitsRows (suc n) before rows → join_rows (first_row rows) ≡ rows
  first_back [] f = absurd (omega (arith, f.0))
  first_back (r ∷ rows) f = refl

  reads_more : ReadsBy spelled_rows (FitsRows (suc n) before) (LooseRows (suc n) before) (mapped join_rows (after (field_at before) rest_at))
  reads_more = reads_made join_rows first_row spell_two fits_two loose_two spelled_rows (FitsRows (suc n) before) (LooseRows (suc n) before) (after (field_at before) rest_at)
      (λ p f. flat_map-cons spelled_field p.0 p.1) two_fit two_loose first_spells first_fits first_back reads_two

  more_same : (bytes : List ℕ) → rows_at (suc n) before bytes ≡ mapped join_rows (after (field_at before) rest_at) bytes
  unfolding rows_at
  more_same bytes = same_cons (field_at before bytes) rest_at

  pub reads_rows_suc : ReadsBy spelled_rows (FitsRows (suc n) before) (LooseRows (suc n) before) (rows_at (suc n) before)
  reads_rows_suc = reads_same spelled_rows (FitsRows (suc n) before) (LooseRows (suc n) before) (mapped join_rows (after (field_at before) rest_at)) (rows_at (suc n) before) more_same reads_more

reads_rows_zero : (before : Option (List ℕ)) → ReadsBy spelled_rows (FitsRows 0 before) (LooseRows 0 before) (rows_at 0 before)
unfolding rows_at
reads_rows_zero before = record {
  takes = λ bytes x h e. subst (λ (z : List Row × List ℕ). Takes bytes (spelled_rows z.0) z.1 × FitsRows 0 before z.0) (ok_is ([], bytes) x e) (record { parts = refl; rest_bytes = h }, (refl, (tt, no_rows before)));
  again = λ x rest f. subst (λ (z : List Row). zero_at (spelled_rows z ++ rest) ≡ Ok (z, rest)) (sym (nil_of x f.0)) refl;
  stuck = λ bytes f h e. absurd cc;
  some = ([], [], (refl, (tt, tt)), refl);
  bytes = λ x f. subst (λ (z : List Row). AreBytes (spelled_rows z)) (sym (nil_of x f.0)) tt;
  loosen = λ x f. (f.0, (f.1.0, loosely before (names_of x) f.1.1));
}
  where
    zero_at : List ℕ → Part (List Row)
    zero_at bytes = Ok ([], bytes)

reads_rows : (n : ℕ) (before : Option (List ℕ)) → ReadsBy spelled_rows (FitsRows n before) (LooseRows n before) (rows_at n before)
reads_rows zero before = reads_rows_zero before
reads_rows (suc n) before = reads_rows_suc n before (λ name. reads_rows n name)

pub reads_fields : ReadsBy spelled_fields AreRisingFields AreLooseFields fields_at
reads_fields = reads_refit spelled_fields (λ rows. (length rows < 2 ^ 32) × (AllByRecursion FitsField rows × (rises (names_of rows) ≡ true))) (λ rows. (length rows < 2 ^ 32) × (AllByRecursion FitsField rows × LooseBehind None (names_of rows))) AreRisingFields AreLooseFields fields_at
    (λ rows f. ((f.0, f.1.0), f.1.1))
    (λ rows f. (f.0.0, (f.0.1, f.1)))
    (λ rows f. ((f.0, f.1.0), behind_none (names_of rows) f.1.1))
    (reads_counted spelled_rows (λ rows. AllByRecursion FitsField rows × (rises (names_of rows) ≡ true)) (λ rows. AllByRecursion FitsField rows × LooseBehind None (names_of rows)) (λ n. rows_at n None) (λ n. reads_rows n None))

-- what the fields that were read are
pub fields_rise : (bytes : List ℕ) (n : ℕ) (rest : List ℕ) (x : List Row × List ℕ) → AreBytes bytes → number_at w32 bytes ≡ Ok (n, rest) → rows_at n None rest ≡ Ok x → rises (names_of x.0) ≡ true
fields_rise bytes n rest x h e d =
    let all : fields_at bytes ≡ Ok x = ap (λ (r : Part ℕ). r >>= λ k. rows_at k.0 None k.1) e ∙ d in
    (reads_fields.takes bytes x h all).1.1
