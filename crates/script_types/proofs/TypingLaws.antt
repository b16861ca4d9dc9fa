-- Codes are well typed exactly where the check of all their scripts in order finds no fault.
use Rattle.std.proofs.Common.{◌≡◌, ◌<◌, ◌+◌, ℕ, zero, suc, List, [], ◌∷◌, ◌++◌, length, map, Option, Some, None, Result, Ok, Err, refl, ap, subst, ◌∙◌, arith}
use Rattle.std.proofs.lemmas.List.{map-append}
use Rattle.std.specs.Prelude.{slice_get}
use Rattle.std.specs.List.{range_with_len}
use Rattle.script_types.specs.declared.misuse.Misuse.{Misuse}
use Rattle.script_types.specs.declared.codes.CodePart.{CodePart}
use Rattle.script_types.specs.declared.codes.CodePart.TheVariants as p
use Rattle.script_types.specs.declared.codes.CodePlace.{CodePlace}
use Rattle.script_types.specs.Codes.{Codes, Block, Handler, Method}
use Rattle.script_types.specs.TypingResult.{Checked, ◌>>=◌}
use Rattle.script_types.specs.Typing.{check_of, WellTyped, parts_of, places_in, fault_or, first_fault, check_codes}

-- a check of two parts finds no fault where neither part has one
pub checked_then : {A B : Type 0} (m : Checked A) (f : A → Checked B) (y : B) → (m >>= f) ≡ Ok y → (x : A) × (m ≡ Ok x) × (f x ≡ Ok y)
checked_then (Ok x) f y h = (x, refl, h)
checked_then (Err fault) f y h = cc

fault_or-ok : (place : CodePlace) (r : Checked (Unit {0})) (rest : Result (Unit {0}) (CodePlace × Misuse)) → fault_or place r rest ≡ Ok tt → (r ≡ Ok tt) × (rest ≡ Ok tt)
fault_or-ok place (Ok x) rest h = (refl, h)
fault_or-ok place (Err fault) rest h = cc

-- none of these scripts has a fault
abbrev AllFine : Codes → List CodePlace → Type 0
AllFine all [] = Unit {0}
AllFine all (place ∷ more) = (check_of all place ≡ Ok tt) × AllFine all more

first_fault-fine : (all : Codes) (places : List CodePlace) → first_fault all places ≡ Ok tt → AllFine all places
first_fault-fine all [] h = tt
first_fault-fine all (place ∷ more) h =
    let both = fault_or-ok place (check_of all place) (first_fault all more) h in
    (both.0, first_fault-fine all more both.1)

AllFine-left : (all : Codes) (xs ys : List CodePlace) → AllFine all (xs ++ ys) → AllFine all xs
AllFine-left all [] ys h = tt
AllFine-left all (x ∷ xs) ys h = (h.0, AllFine-left all xs ys h.1)

AllFine-right : (all : Codes) (xs ys : List CodePlace) → AllFine all (xs ++ ys) → AllFine all ys
AllFine-right all [] ys h = h
AllFine-right all (x ∷ xs) ys h = AllFine-right all xs ys h.1

abbrev at : ℕ → CodePart → CodePlace
at n part = record { block = n; part = part }

range-fine : (all : Codes) (n : ℕ) (c : ℕ → CodePart) (a len k m : ℕ) → AllFine all (map (at n) (map c (range_with_len a len))) → k < len → a + k ≡ m → check_of all (at n (c m)) ≡ Ok tt
range-fine all n c a zero k m h lt e = absurd (let bad : ⊥ = omega arith in bad)
range-fine all n c a (suc len) zero m h lt e = let same : a ≡ m = omega arith in subst (λ m. check_of all (at n (c m)) ≡ Ok tt) same h.0
range-fine all n c a (suc len) (suc k) m h lt e = range-fine all n c (a + 1) len k m h.1 (omega arith) (omega arith)

get-in : {A : Type 0} (xs : List A) (k : ℕ) (y : A) → slice_get xs k ≡ Some y → k < length xs
get-in [] k y h = cc
get-in (x ∷ xs) zero y h = omega arith
get-in (x ∷ xs) (suc k) y h = let less = get-in xs k y h in omega arith

-- the scripts of a block are among those of all blocks
block-fine : (all : Codes) (n : ℕ) (blocks : List Block) (i m : ℕ) (b : Block) → AllFine all (places_in n blocks) → slice_get blocks i ≡ Some b → n + i ≡ m → AllFine all (map (at m) (parts_of b))
block-fine all n [] i m b h e f = cc
block-fine all n (x ∷ more) zero m b h e f =
    let same : n ≡ m = omega arith in
    let block : x ≡ b = cc in
    subst (λ b. AllFine all (map (at m) (parts_of b))) block (subst (λ m. AllFine all (map (at m) (parts_of x))) same (AllFine-left all (map (at n) (parts_of x)) (places_in (suc n) more) h))
block-fine all n (x ∷ more) (suc i) m b h e f = block-fine all (suc n) more i m b (AllFine-right all (map (at n) (parts_of x)) (places_in (suc n) more) h) e (omega arith)

abbrev handlers_of : ℕ → Block → List CodePlace
handlers_of n b = map (at n) (map p.Handler (range_with_len 0 (length b.handlers)))

abbrev methods_of : ℕ → Block → List CodePlace
methods_of n b = map (at n) (map p.Method (range_with_len 0 (length b.methods)))

abbrev others_of : ℕ → List CodePlace
others_of n = at n p.Exception ∷ at n p.RolledBack ∷ at n p.Remove ∷ []

parts-split : (n : ℕ) (b : Block) → map (at n) (parts_of b) ≡ handlers_of n b ++ (methods_of n b ++ others_of n)
parts-split n b =
    map-append (at n) (map p.Handler (range_with_len 0 (length b.handlers))) (map p.Method (range_with_len 0 (length b.methods)) ++ p.Exception ∷ p.RolledBack ∷ p.Remove ∷ [])
    ∙ ap (λ ps. handlers_of n b ++ ps) (map-append (at n) (map p.Method (range_with_len 0 (length b.methods))) (p.Exception ∷ p.RolledBack ∷ p.Remove ∷ []))

handler-fine : (all : Codes) (n k : ℕ) (b : Block) (o : Option Handler) → slice_get all.blocks n ≡ Some b → slice_get b.handlers k ≡ o → AllFine all (handlers_of n b) → check_of all (at n (p.Handler k)) ≡ Ok tt
handler-fine all n k b None e f h = rw (e, f) refl
handler-fine all n k b (Some x) e f h = range-fine all n p.Handler 0 (length b.handlers) k k h (get-in b.handlers k x f) (omega arith)

method-fine : (all : Codes) (n k : ℕ) (b : Block) (o : Option Method) → slice_get all.blocks n ≡ Some b → slice_get b.methods k ≡ o → AllFine all (methods_of n b) → check_of all (at n (p.Method k)) ≡ Ok tt
method-fine all n k b None e f h = rw (e, f) refl
method-fine all n k b (Some x) e f h = range-fine all n p.Method 0 (length b.methods) k k h (get-in b.methods k x f) (omega arith)

part-fine : (all : Codes) (n : ℕ) (b : Block) (part : CodePart) → slice_get all.blocks n ≡ Some b → AllFine all (handlers_of n b ++ (methods_of n b ++ others_of n)) → check_of all (at n part) ≡ Ok tt
part-fine all n b (p.Handler k) e h = handler-fine all n k b (slice_get b.handlers k) e refl (AllFine-left all (handlers_of n b) (methods_of n b ++ others_of n) h)
part-fine all n b (p.Method k) e h = method-fine all n k b (slice_get b.methods k) e refl (AllFine-left all (methods_of n b) (others_of n) (AllFine-right all (handlers_of n b) (methods_of n b ++ others_of n) h))
part-fine all n b p.Exception e h = (AllFine-right all (methods_of n b) (others_of n) (AllFine-right all (handlers_of n b) (methods_of n b ++ others_of n) h)).0
part-fine all n b p.RolledBack e h = (AllFine-right all (methods_of n b) (others_of n) (AllFine-right all (handlers_of n b) (methods_of n b ++ others_of n) h)).1.0
part-fine all n b p.Remove e h = (AllFine-right all (methods_of n b) (others_of n) (AllFine-right all (handlers_of n b) (methods_of n b ++ others_of n) h)).1.1.0

place-fine : (all : Codes) (n : ℕ) (part : CodePart) (o : Option Block) → slice_get all.blocks n ≡ o → AllFine all (places_in 0 all.blocks) → check_of all (at n part) ≡ Ok tt
place-fine all n part None e h = rw e refl
place-fine all n part (Some b) e h = part-fine all n b part e (subst (AllFine all) (parts-split n b) (block-fine all 0 all.blocks n n b h e (omega arith)))

-- where the check of all scripts finds no fault, no script has one
pub check_codes-well_typed : (all : Codes) → check_codes all ≡ Ok tt → WellTyped all
check_codes-well_typed all h place = place-fine all place.block place.part (slice_get all.blocks place.block) refl (first_fault-fine all (places_in 0 all.blocks) h)

first_fault-none : (all : Codes) (places : List CodePlace) → WellTyped all → first_fault all places ≡ Ok tt
first_fault-none all [] w = refl
first_fault-none all (place ∷ more) w = rw (w place) (first_fault-none all more w)

-- and the other way round
pub well_typed-check_codes : (all : Codes) → WellTyped all → check_codes all ≡ Ok tt
well_typed-check_codes all w = first_fault-none all (places_in 0 all.blocks) w
