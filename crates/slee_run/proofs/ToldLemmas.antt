-- What is told of a run as bytes determines what was told.
use Rattle.std.proofs.Common.{◌≡◌, ℕ, ◌<◌, ◌^◌, ◌||◌, Bool, true, false, not, List, [], ◌∷◌, ◌++◌, append_assoc, drop, flat_map, length, zero, suc, refl, sym, ◌∙◌, ap, Result, Ok, arith}
use Rattle.std.proofs.lemmas.Bool.{and_parts}
use Rattle.std.specs.List.{list_all, list_any}
use Rattle.std.specs.Int.{w64}
use Rattle.slee_value.specs.Bytes.{spelled_u64}
use Rattle.slee_value.specs.Reading.{number_at}
use Rattle.slee_value.proofs.ReadLemmas.{one_spelling}
use Rattle.slee_value.proofs.PartLemmas.{reads_u64}
use Rattle.signal_script.specs.Lines.{is_control, is_line, is_plain}
use Rattle.signal_script.specs.Signals.{is_of_form, is_signal, signal_of, spelled}
use Rattle.signal_script.specs.declared.fault.SignalBad.{SignalBad}
use Rattle.signal_script.specs.declared.signal.Signal.{Signal}
use Rattle.signal_script.proofs.LawLemmas.{printed_read}
use Rattle.router_state.specs.State.{State}
use Rattle.router_state.specs.Snapshot.{listed, spelled_activity_2, spelled_behind, spelled_entity, spelled_service, spelled_state}
use Rattle.slee_container.specs.Turns.{line_told}

-- ---- lines

heads : (x y : ℕ) (xs ys : List ℕ) → x ∷ xs ≡ y ∷ ys → (x ≡ y) × (xs ≡ ys)
heads x y xs ys is = (cc, cc)

no_some : (x : ℕ) (xs : List ℕ) → [] ≡ x ∷ xs → ⊥
no_some x xs is = cc

neither : (x y : Bool) → (x || y) ≡ false → (x ≡ false) × (y ≡ false)
neither true y is = absurd (cc)
neither false y is = (refl, is)

end_is_control : is_control 10 ≡ true
end_is_control = refl

true_isnt_false : true ≡ false → ⊥
true_isnt_false is = cc

record AreSame (xs ys rest more : List ℕ) : Type 0 where
  pub front : xs ≡ ys
  pub behind : rest ≡ more

-- lines have no end within
same_front : (xs ys rest more : List ℕ) → list_any is_control xs ≡ false → list_any is_control ys ≡ false → xs ++ 10 ∷ rest ≡ ys ++ 10 ∷ more → AreSame xs ys rest more
same_front [] [] rest more one two is = record { front = refl; behind = (heads 10 10 rest more is).1 }
same_front [] (y ∷ ys) rest more one two is =
    let at = heads 10 y rest (ys ++ 10 ∷ more) is in
    absurd (true_isnt_false (ap is_control at.0 ∙ (neither (is_control y) (list_any is_control ys) two).0))
same_front (x ∷ xs) [] rest more one two is =
    let at = heads x 10 (xs ++ 10 ∷ rest) more is in
    absurd (true_isnt_false (ap is_control (sym at.0) ∙ (neither (is_control x) (list_any is_control xs) one).0))
same_front (x ∷ xs) (y ∷ ys) rest more one two is =
    let at = heads x y (xs ++ 10 ∷ rest) (ys ++ 10 ∷ more) is in
    let s = same_front xs ys rest more (neither (is_control x) (list_any is_control xs) one).1 (neither (is_control y) (list_any is_control ys) two).1 at.1 in
    record { front = ap (λ (z : ℕ). z ∷ xs) at.0 ∙ ap (λ (l : List ℕ). y ∷ l) s.front; behind = s.behind }

not_it : (b : Bool) → not b ≡ true → b ≡ false
not_it true is = absurd (cc)
not_it false is = refl

plain : (x : Signal) → is_signal x ≡ true → list_any is_control (spelled x) ≡ false
plain x valid =
    let line = (and_parts (is_of_form x) (is_line (spelled x)) valid).1 in
    let text = (and_parts _ (is_plain (spelled x)) line).1 in
    not_it (list_any is_control (spelled x)) (and_parts (not (list_any is_control (spelled x))) _ text).0

abbrev Read : Type 0
Read = Result Signal SignalBad

ok_same : (x y : Signal) (r : Read) → r ≡ Ok x → r ≡ Ok y → x ≡ y
ok_same x y r one two = cc (sym one ∙ two)

one_signal : (x y : Signal) → is_signal x ≡ true → is_signal y ≡ true → spelled x ≡ spelled y → x ≡ y
one_signal x y valid other same = ok_same x y (signal_of (spelled x)) (printed_read x valid) (ap signal_of same ∙ printed_read y other)

told_more : (x : Signal) (xs : List Signal) → flat_map line_told (x ∷ xs) ≡ spelled x ++ 10 ∷ flat_map line_told xs
told_more x xs = append_assoc (spelled x) (10 ∷ []) (flat_map line_told xs)

some_told : (x : Signal) (xs : List Signal) → [] ≡ flat_map line_told (x ∷ xs) → ⊥
some_told x xs is = by (spelled x) (is ∙ told_more x xs)
  where
    by : (l : List ℕ) → [] ≡ l ++ 10 ∷ flat_map line_told xs → ⊥
    by [] e = no_some 10 _ e
    by (b ∷ bs) e = no_some b _ e

-- lines that are told so are the same
pub same_lines : (xs ys : List Signal) → list_all is_signal xs ≡ true → list_all is_signal ys ≡ true → flat_map line_told xs ≡ flat_map line_told ys → xs ≡ ys
same_lines [] [] all each is = refl
same_lines [] (y ∷ ys) all each is = absurd (some_told y ys is)
same_lines (x ∷ xs) [] all each is = absurd (some_told x xs (sym is))
same_lines (x ∷ xs) (y ∷ ys) all each is =
    let one = and_parts (is_signal x) (list_all is_signal xs) all in
    let two = and_parts (is_signal y) (list_all is_signal ys) each in
    let s = same_front (spelled x) (spelled y) (flat_map line_told xs) (flat_map line_told ys) (plain x one.0) (plain y two.0) (sym (told_more x xs) ∙ (is ∙ told_more y ys)) in
    ap (λ (z : Signal). z ∷ xs) (one_signal x y one.0 two.0 s.front) ∙ ap (λ (l : List Signal). y ∷ l) (same_lines xs ys one.1 two.1 s.behind)

-- what is left of lines that signals can give is so too
pub all_behind : (n : ℕ) (xs : List Signal) → list_all is_signal xs ≡ true → list_all is_signal (drop n xs) ≡ true
all_behind zero xs all = all
all_behind (suc n) [] all = refl
all_behind (suc n) (x ∷ xs) all = all_behind n xs (and_parts (is_signal x) (list_all is_signal xs) all).1

-- ---- the count of inputs

split_same : (xs ys rest more : List ℕ) → length xs ≡ length ys → xs ++ rest ≡ ys ++ more → rest ≡ more
split_same [] [] rest more len is = is
split_same [] (y ∷ ys) rest more len is = absurd (omega (arith, len))
split_same (x ∷ xs) [] rest more len is = absurd (omega (arith, len))
split_same (x ∷ xs) (y ∷ ys) rest more len is = split_same xs ys rest more (omega (arith, len)) (heads x y (xs ++ rest) (ys ++ more) is).1

regroup : (a b c d e : List ℕ) → ((a ++ (b ++ c)) ++ d) ++ e ≡ a ++ (b ++ (c ++ (d ++ e)))
regroup a b c d e = append_assoc (a ++ (b ++ c)) d e ∙ (append_assoc a (b ++ c) (d ++ e) ∙ ap (λ (l : List ℕ). a ++ l) (append_assoc b c (d ++ e)))

-- what a state is told as, behind its clock and its count of inputs
abbrev behind_counts : State → List ℕ
behind_counts s =
    flat_map spelled_u64 (s.next_entity ∷ s.next_activity ∷ s.next_timer ∷ s.next_event ∷ [])
    ++ ((listed spelled_service s.services ++ listed (spelled_entity s) s.entities) ++ (listed (spelled_activity_2 s) s.activities ++ spelled_behind s))

counts_first : (s : State) → spelled_state 2 s ≡ spelled_u64 s.clock ++ (spelled_u64 s.inputs ++ behind_counts s)
counts_first s =
    regroup (spelled_u64 s.clock) (spelled_u64 s.inputs) (flat_map spelled_u64 (s.next_entity ∷ s.next_activity ∷ s.next_timer ∷ s.next_event ∷ []))
    (listed spelled_service s.services ++ listed (spelled_entity s) s.entities) (listed (spelled_activity_2 s) s.activities ++ spelled_behind s)

-- states that are told so have taken as many lines
pub same_inputs : (s t : State) → s.inputs < 2 ^ 64 → t.inputs < 2 ^ 64 → spelled_state 2 s ≡ spelled_state 2 t → s.inputs ≡ t.inputs
same_inputs s t few less is =
    let behind : spelled_u64 s.inputs ++ behind_counts s ≡ spelled_u64 t.inputs ++ behind_counts t =
    split_same (spelled_u64 s.clock) (spelled_u64 t.clock) _ _ refl (sym (counts_first s) ∙ (is ∙ counts_first t)) in
    (one_spelling spelled_u64 (λ n. n < 2 ^ 64) (λ n. n < 2 ^ 64) (number_at w64) reads_u64 s.inputs t.inputs (behind_counts s) (behind_counts t) few less behind).0
