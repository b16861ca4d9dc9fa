-- The numbers beside a row that was found under a key.
use Rattle.std.proofs.Common.{◌≡◌, ◌<◌, ℕ, zero, suc, List, [], ◌∷◌, length, get_or, slice_index_or, map, Option, Some, None, refl, sym, ap, ◌∙◌, arith}
use Rattle.slee_value.specs.declared.value.Value.{Value}
use Rattle.script_meaning.specs.declared.seen.Seen.{Seen}
use Rattle.script_meaning.specs.declared.seen.Seen.TheVariants as s
use Rattle.script_meaning.specs.Answers.{row_in}
use Rattle.script_meaning.specs.Running.{State, Ending, Gave}
use Rattle.script_types.specs.Codes.{number_in}
use Rattle.script_run_machine.specs.Numbering.{numbers_seen}

of_names : (names : List (List ℕ)) (row : List (List ℕ × Value)) → map (number_in names) (map (λ f. f.0) row) ≡ map (λ f. number_in names f.0) row
of_names names [] = refl
of_names names (f ∷ row) = ap (λ l. number_in names f.0 ∷ l) (of_names names row)

numbers_in : (names : List (List ℕ)) (seen : Option Seen) (row : List (List ℕ × Value)) → row_in seen ≡ Some row → numbers_seen names seen ≡ map (λ f. number_in names f.0) row
numbers_in names (Some (s.Row (Some fields))) row e = let same : fields ≡ row = cc in of_names names fields ∙ ap (λ (l : List (List ℕ × Value)). map (λ f. number_in names f.0) l) same
numbers_in names (Some (s.Row None)) row e = absurd cc
numbers_in names (Some (s.Next x)) row e = absurd cc
numbers_in names (Some (s.Held x)) row e = absurd cc
numbers_in names (Some (s.Ids x)) row e = absurd cc
numbers_in names (Some (s.Number x)) row e = absurd cc
numbers_in names (Some (s.Ac x)) row e = absurd cc
numbers_in names (Some (s.Flag x)) row e = absurd cc
numbers_in names (Some (s.Masks x)) row e = absurd cc
numbers_in names (Some (s.Refers x)) row e = absurd cc
numbers_in names None row e = absurd cc

pub row_numbers : (names : List (List ℕ)) (numbers : List (Option ℕ)) (looked seen : Option Seen) (row : List (List ℕ × Value)) → numbers ≡ numbers_seen names looked → looked ≡ seen → row_in seen ≡ Some row → numbers ≡ map (λ f. number_in names f.0) row
row_numbers names numbers looked seen row own same found = own ∙ ap (numbers_seen names) same ∙ numbers_in names seen row found

-- runs that end the same give the same
pub same_given : {A : Type 0} (x y : A) (st st2 : State) → ◌≡◌ {A = Ending A} (Gave x st) (Gave y st2) → x ≡ y
same_given x y st st2 e = cc

-- the number beside an attribute is that of its name
pub number_beside : (names : List (List ℕ)) (fields : List (List ℕ × Value)) (numbers : List (Option ℕ)) (i : ℕ) (f : List ℕ × Value) → numbers ≡ map (λ f. number_in names f.0) fields → i < length fields → f ≡ get_or fields i f → slice_index_or numbers i None ≡ number_in names f.0
number_beside names [] numbers i f same lt is = absurd (omega arith)
number_beside names (y ∷ fields) numbers zero f same lt is = ap (λ l. slice_index_or l zero None) same ∙ ap (λ z. number_in names z.0) (sym is)
number_beside names (y ∷ fields) numbers (suc i) f same lt is = ap (λ l. slice_index_or l (suc i) None) same ∙ number_beside names fields (map (λ f. number_in names f.0) fields) i f refl (omega arith) is
