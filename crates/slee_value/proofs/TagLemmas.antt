-- Parts that are told apart by their first byte are read as they are spelled, where each row of the table is.
use Rattle.std.proofs.Common.{◌≡◌, ℕ, ◌+◌, ◌<◌, Bool, true, false, cond, eqb, eqb-true, List, [], ◌∷◌, ◌++◌, length, Ok, Err, refl, sym, ap, subst, ◌∙◌, arith}
use Rattle.slee_value.specs.declared.fault.ValueBad.TheVariants as bad
use Rattle.slee_value.specs.Reading.{Fault, Part, mapped, Rows, no_row, row_of, tagged}
use Rattle.slee_value.proofs.ReadLemmas.{AreBytes, Takes, Begins, IsStuckBy, ReadsBy, IsCaseBy, case_takes, case_stuck, no_case, no_bytes, err_is}

-- what is read behind a first byte, where the whole is read so
pub record IsRow {C : Type 0} (spell : C → List ℕ) (fits loose : C → Type 0) (read : List ℕ → Part C) (tag : ℕ) (body : List ℕ → Part C) : Type 0 where
  pub takes : ((bytes : List ℕ) → read (tag ∷ bytes) ≡ body bytes) → (bytes : List ℕ) (x : C × List ℕ) → AreBytes (tag ∷ bytes) → body bytes ≡ Ok x → Takes (tag ∷ bytes) (spell x.0) x.1 × fits x.0
  pub stuck : ((bytes : List ℕ) → read (tag ∷ bytes) ≡ body bytes) → (bytes : List ℕ) (f : Fault) → AreBytes (tag ∷ bytes) → body bytes ≡ Err f → IsStuckBy spell fits loose (tag ∷ bytes) f.left

-- each row of a table is one
pub data AreRows {C : Type 0} (spell : C → List ℕ) (fits loose : C → Type 0) (read : List ℕ → Part C) : Rows C → Type 0 where
  none_left : AreRows spell fits loose read []
  one_more : (row : ℕ × (List ℕ → Part C)) (rows : Rows C) → IsRow spell fits loose read row.0 row.1 → AreRows spell fits loose read rows → AreRows spell fits loose read (row ∷ rows)

module _ {C : Type 0} (spell : C → List ℕ) (fits loose : C → Type 0) (read : List ℕ → Part C)
    (again : (x : C) (rest : List ℕ) → fits x → read (spell x ++ rest) ≡ Ok (x, rest)) (are_bytes : (x : C) → fits x → AreBytes (spell x)) (some : Begins spell loose []) where
  -- the row of a case
  pub case_row : {A : Type 0} (tag : ℕ) (make : A → C) (spell' : A → List ℕ) (fits' loose' : A → Type 0) (body : List ℕ → Part A)
      → IsCaseBy spell fits loose read tag make spell' fits' loose' body → ReadsBy spell' fits' loose' body → IsRow spell fits loose read tag (mapped make body)
  case_row tag make spell' fits' loose' body is reads = record {
    takes = λ same bytes x h e. case_takes spell fits loose read tag make spell' fits' loose' body is reads bytes x h (same bytes ∙ e);
    stuck = λ same bytes f h e. case_stuck spell fits loose read tag make spell' fits' loose' body is reads again are_bytes bytes f h (same bytes ∙ e);
  }

  no_row_is : (tag : ℕ) → IsRow spell fits loose read tag no_row
  no_row_is tag = record {
    takes = λ same bytes x h e. absurd cc;
    stuck = λ same bytes f h e.
        no_case spell fits loose read tag bytes f again some (λ more. (record { left = length more + 1; kind = bad.Tag }, same more)) (omega (arith, ap (λ (d : Fault). d.left) (err_is {A = C × List ℕ} _ f e)));
  }

  chosen_row : (row : ℕ × (List ℕ → Part C)) (rows : Rows C) (tag : ℕ) (same : Bool) → eqb tag row.0 ≡ same → IsRow spell fits loose read row.0 row.1 → IsRow spell fits loose read tag (row_of rows tag)
      → IsRow spell fits loose read tag (cond same row.1 (row_of rows tag))
  chosen_row row rows tag true e here behind = subst (λ (n : ℕ). IsRow spell fits loose read n row.1) (sym (eqb-true tag row.0 e)) here
  chosen_row row rows tag false e here behind = behind

  row_is : (rows : Rows C) (tag : ℕ) → AreRows spell fits loose read rows → IsRow spell fits loose read tag (row_of rows tag)
  row_is [] tag all = no_row_is tag
  row_is (row ∷ rows) tag (one_more _ _ here others) = chosen_row row rows tag (eqb tag row.0) refl here (row_is rows tag others)

module _ {C : Type 0} (spell : C → List ℕ) (fits loose : C → Type 0) (rows : Rows C)
    (again : (x : C) (rest : List ℕ) → fits x → tagged rows (spell x ++ rest) ≡ Ok (x, rest)) (are_bytes : (x : C) → fits x → AreBytes (spell x)) (some : Begins spell loose []) (loosen : (x : C) → fits x → loose x)
    (all : AreRows spell fits loose (tagged rows) rows) where
  tagged_takes : (bytes : List ℕ) (x : C × List ℕ) → AreBytes bytes → tagged rows bytes ≡ Ok x → Takes bytes (spell x.0) x.1 × fits x.0
  tagged_takes [] x h e = absurd cc
  tagged_takes (tag ∷ bytes) x h e = (row_is spell fits loose (tagged rows) again are_bytes some rows tag all).takes (λ more. refl) bytes x h e

  tagged_stuck : (bytes : List ℕ) (f : Fault) → AreBytes bytes → tagged rows bytes ≡ Err f → IsStuckBy spell fits loose bytes f.left
  tagged_stuck [] f h e = subst (IsStuckBy spell fits loose []) (ap (λ (d : Fault). d.left) (err_is {A = C × List ℕ} _ f e)) (no_bytes spell fits loose (tagged rows) some)
  tagged_stuck (tag ∷ bytes) f h e = (row_is spell fits loose (tagged rows) again are_bytes some rows tag all).stuck (λ more. refl) bytes f h e

  pub reads_tagged : ReadsBy spell fits loose (tagged rows)
  reads_tagged = record { takes = tagged_takes; again = again; stuck = tagged_stuck; some = some; bytes = are_bytes; loosen = loosen }
