-- Usage totals that are written line after line.
use Rattle.std.proofs.Common.{◌≡◌, ℕ, suc, ◌+◌, ◌<◌, ◌≤◌, List, [], ◌∷◌, ◌++◌, length, get_or, take, drop, drop-cons, take-append-drop, sym, ◌∙◌, ap, subst, arith, append-nil, map, Option, Result, Ok, IsErr}
use Rattle.std.proofs.KnownBytes.{Appends-nil, Appends-trans}
use Rattle.std.proofs.lemmas.Grind.{flat_map-append}
use Rattle.std.proofs.lemmas.List.{map-append, take_all, take_more}
use Rattle.std.specs.Io.KnownBytes.{Appends}
use Rattle.slee_disk.specs.Writes.{Writes}
use Rattle.slee_disk.proofs.WritesLemmas.{writes_as, writes_stop, writes_then}
use Rattle.trace_history.specs.Lines.{line_text, line_texts}
use Rattle.usage_totals.specs.Totals.{total_line}
use Rattle.usage_totals.specs.declared.total.Total.{Total}

-- the lines of totals
abbrev pub rows_text : List Total → List ℕ
rows_text totals = line_texts (map total_line totals)

-- these bytes are out
pub record IsOut {K : Type 0} (contents : K → Option (List ℕ)) (faults : K → ℕ) (old new : K) (bytes : List ℕ) : Type 0 where
  pub later : faults old ≤ faults new
  pub text : Appends (contents old) (contents new) bytes

rows_append : (xs ys : List Total) → rows_text (xs ++ ys) ≡ rows_text xs ++ rows_text ys
rows_append xs ys = ap line_texts (map-append total_line xs ys) ∙ flat_map-append line_text (map total_line xs) (map total_line ys)

rows_more : (xs : List Total) (total : Total) → rows_text (xs ++ total ∷ []) ≡ rows_text xs ++ line_text (total_line total)
rows_more xs total = rows_append xs (total ∷ []) ∙ ap (λ (rest : List ℕ). rows_text xs ++ rest) (append-nil (line_text (total_line total)))

pub none_out : {K : Type 0} (contents : K → Option (List ℕ)) (faults : K → ℕ) (k : K) → IsOut contents faults k k []
none_out contents faults k = record { later = omega arith; text = Appends-nil (contents k) }

module _ {K : Type 0} (contents : K → Option (List ℕ)) (faults : K → ℕ) (old mid new : K) (totals : List Total) (i : ℕ) (total : Total) (lt : i < length totals) (is : total ≡ get_or totals i total)
    (out : IsOut contents faults old mid (rows_text (take i totals))) where
  so_far : rows_text (take (i + 1) totals) ≡ rows_text (take i totals) ++ line_text (total_line total)
  so_far = ap rows_text (take_more totals i total lt ∙ ap (λ (x : Total). take i totals ++ x ∷ []) (sym is)) ∙ rows_more (take i totals) total

  whole : rows_text (take i totals) ++ (line_text (total_line total) ++ rows_text (drop (suc i) totals)) ≡ rows_text totals
  whole =
      sym (rows_append (take i totals) (total ∷ drop (suc i) totals))
      ∙ ap (λ (rest : List Total). rows_text (take i totals ++ rest)) (ap (λ (x : Total). x ∷ drop (suc i) totals) is ∙ sym (drop-cons totals i total lt))
      ∙ ap rows_text (take-append-drop i totals)

  -- one line more
  pub row_out : {T E : Type 0} (x : T) → Writes {E = E} contents faults mid new (line_text (total_line total)) (Ok x) → IsOut contents faults old new (rows_text (take (i + 1) totals))
  row_out x w = record {
    later = omega (arith, out.later, w.later);
    text = subst (Appends (contents old) (contents new)) (sym so_far) (Appends-trans _ _ _ _ _ out.text w.ok);
  }

  -- the sink failed at a line
  pub row_stopped : {T E S F : Type 0} (q : Result T E) (r : Result S F) → IsErr q → IsErr r → Writes contents faults mid new (line_text (total_line total)) q → Writes contents faults old new (rows_text totals) r
  row_stopped {T = T} {E = E} q r bad failed w =
      let before : Writes {T = ℕ} {E = E} contents faults old mid (rows_text (take i totals)) (Ok 0) = record { later = out.later; ok = out.text; err = tt; failed = tt } in
      writes_as contents faults old new (rows_text (take i totals) ++ (line_text (total_line total) ++ rows_text (drop (suc i) totals))) (rows_text totals) r whole
      (writes_then contents faults old mid new (rows_text (take i totals)) (line_text (total_line total) ++ rows_text (drop (suc i) totals)) 0 r before
      (writes_stop contents faults mid new (line_text (total_line total)) (rows_text (drop (suc i) totals)) q r bad failed w))

-- all of them are out
pub all_out : {K T E : Type 0} (contents : K → Option (List ℕ)) (faults : K → ℕ) (old new : K) (totals : List Total) (i : ℕ) (x : T) → length totals ≤ i → IsOut contents faults old new (rows_text (take i totals))
    → Writes {E = E} contents faults old new (rows_text totals) (Ok x)
all_out contents faults old new totals i x all out = record {
  later = out.later;
  ok = subst (λ (ts : List Total). Appends (contents old) (contents new) (rows_text ts)) (take_all i totals all) out.text;
  err = tt;
  failed = tt;
}
