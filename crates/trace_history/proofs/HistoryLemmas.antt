-- The text of a history, one entry more, and where the texts of its entries end.
use Rattle.std.proofs.Common.{◌≡◌, ℕ, ◌+◌, ◌-◌, ◌<◌, ◌≤◌, zero, suc, List, ◌∷◌, [], ◌++◌, length, take, drop, refl, ◌∙◌, ap, sym, arith, add-zero, append-nil, append_assoc, length-append, get_or, decimal, ⊎_elim}
use Rattle.std.proofs.Math.Nat.{eq-or-lt_of_le}
use Rattle.std.proofs.Math.ListN.{get_or-append}
use Rattle.std.proofs.Math.Seq.{take-append_seam, take-length, get_or-append_seam}
use Rattle.std.proofs.lemmas.List.{take-append-le}
use Rattle.trace_history.specs.Lines.{line_texts}
use Rattle.trace_history.specs.Trace.{entry_text, trace_from, trace_text}
use Rattle.trace_history.specs.Ends.{AreEndsOf}
use Rattle.trace_history.specs.declared.entry.Entry.{Entry}

pub none_end : AreEndsOf [] []
none_end = record { number = refl; each = λ i lt. absurd (omega arith) }

-- one entry more
trace_next : (number : ℕ) (front : List Entry) (e : Entry) → trace_from number (front ++ e ∷ []) ≡ trace_from number front ++ entry_text (number + length front) e.lines
trace_next number [] e = rw (add-zero number, append-nil) refl
trace_next number (x ∷ front) e =
    ap (λ rest. entry_text number x.lines ++ rest) (trace_next (number + 1) front e ∙ ap (λ n. trace_from (number + 1) front ++ entry_text n e.lines) (omega arith))
    ∙ sym (append_assoc (entry_text number x.lines) (trace_from (number + 1) front) (entry_text (number + length (x ∷ front)) e.lines))

-- some entries, and then the others
trace_cut : (number count : ℕ) (history : List Entry) → count ≤ length history
    → trace_from number (take count history) ++ trace_from (number + count) (drop count history) ≡ trace_from number history
trace_cut number zero history fits = ap (λ n. trace_from n history) (add-zero number)
trace_cut number (suc count) [] fits = absurd (omega arith)
trace_cut number (suc count) (e ∷ history) fits =
    append_assoc (entry_text number e.lines) (trace_from (number + 1) (take count history)) (trace_from (number + suc count) (drop count history))
    ∙ ap (λ rest. entry_text number e.lines ++ rest)
    (ap (λ n. trace_from (number + 1) (take count history) ++ trace_from n (drop count history)) (omega arith) ∙ trace_cut (number + 1) count history (omega arith))

-- the text of an entry more
pub text_more : (entries : List Entry) (e : Entry) (number : ℕ) (text new lines : List ℕ) → number ≡ length entries + 1 → text ≡ trace_text entries → lines ≡ line_texts e.lines
    → new ≡ text ++ (decimal number ++ 32 ∷ lines) → new ≡ trace_text (entries ++ e ∷ [])
text_more entries e number text new lines number_is before lines_is grown =
    grown ∙ ap (λ front. front ++ (decimal number ++ 32 ∷ lines)) before
    ∙ ap (λ more. trace_text entries ++ (decimal number ++ 32 ∷ more)) lines_is
    ∙ ap (λ n. trace_text entries ++ entry_text n e.lines) (number_is ∙ omega arith)
    ∙ sym (trace_next 1 entries e)

-- the text of the first entries is a front of the text
pub text_cut : (entries : List Entry) (count end : ℕ) (text : List ℕ) → count ≤ length entries → text ≡ trace_text entries → end ≡ length (trace_text (take count entries))
    → take end text ≡ trace_text (take count entries)
text_cut entries count end text fits is end_is =
    ap (λ n. take n text) end_is ∙ ap (λ t. take (length (trace_text (take count entries))) t) (is ∙ sym (trace_cut 1 count entries fits))
    ∙ take-append_seam (trace_text (take count entries)) (trace_from (1 + count) (drop count entries))

-- the end of an entry that was there stays
end_stays : (entries : List Entry) (e : Entry) (ends : List ℕ) (end i : ℕ) → AreEndsOf entries ends → i < length entries
    → get_or (ends ++ end ∷ []) i 0 ≡ length (trace_text (take (i + 1) (entries ++ e ∷ [])))
end_stays entries e ends end i were lt =
    get_or-append ends (end ∷ []) 0 i (omega (arith, were.number)) ∙ were.each i lt
    ∙ ap (λ (front : List Entry). length (trace_text front)) (sym (take-append-le (i + 1) entries (e ∷ []) (omega arith)))

-- and that of the new one is where all text ends
end_comes : (entries : List Entry) (e : Entry) (ends : List ℕ) (end i : ℕ) → AreEndsOf entries ends → end ≡ length (trace_text (entries ++ e ∷ [])) → i ≡ length entries
    → get_or (ends ++ end ∷ []) i 0 ≡ length (trace_text (take (i + 1) (entries ++ e ∷ [])))
end_comes entries e ends end i were end_is is =
    ap (λ n. get_or (ends ++ end ∷ []) n 0) (is ∙ sym were.number) ∙ get_or-append_seam ends end [] 0 ∙ end_is
    ∙ ap (λ (front : List Entry). length (trace_text front)) (sym (take-length (entries ++ e ∷ [])) ∙ ap (λ n. take n (entries ++ e ∷ [])) (length-append entries (e ∷ []) ∙ ap (λ n. n + 1) (sym is)))

-- one end more
pub ends_more : (entries : List Entry) (e : Entry) (ends more text : List ℕ) (end : ℕ) → AreEndsOf entries ends → text ≡ trace_text (entries ++ e ∷ []) → end ≡ length text
    → more ≡ ends ++ end ∷ [] → AreEndsOf (entries ++ e ∷ []) more
ends_more entries e ends more text end were text_is end_is grown = record {
  number = ap length grown ∙ length-append ends (end ∷ []) ∙ ap (λ n. n + 1) were.number ∙ sym (length-append entries (e ∷ []));
  each = λ i lt. ap (λ (xs : List ℕ). get_or xs i 0) grown ∙ ⊎_elim
      (λ is. end_comes entries e ends end i were (end_is ∙ ap length text_is) is)
      (λ lower. end_stays entries e ends end i were lower)
      (eq-or-lt_of_le (omega (arith, lt, length-append entries (e ∷ []))));
}

-- the end of the first entries
pub end_of : (entries : List Entry) (ends : List ℕ) (count : ℕ) → AreEndsOf entries ends → 1 ≤ count → count ≤ length entries → get_or ends (count - 1) 0 ≡ length (trace_text (take count entries))
end_of entries ends count are first last =
    are.each (count - 1) (omega arith) ∙ ap (λ n. length (trace_text (take n entries))) (omega arith)

-- how long the text of an entry is
pub entry_length : (number : ℕ) (lines : List (List ℕ)) → length (entry_text number lines) ≡ length (decimal number) + 1 + length (line_texts lines)
entry_length number lines = length-append (decimal number) (32 ∷ line_texts lines) ∙ omega arith

-- what is left of the room for text
pub room_left : (number n before after room held : ℕ) (text new : List ℕ) (lines : List (List ℕ)) → number ≡ n + 1 → new ≡ text ++ (decimal number ++ 32 ∷ line_texts lines)
    → before ≤ after → room ≡ before - length text → held ≡ after - length new → room ≤ held + length (entry_text (n + 1) lines)
room_left number n before after room held text new lines is grown wider room_is held_is = omega (arith, room_is, held_is, wider, length_is)
  where
    length_is : length new ≡ length text + length (entry_text (n + 1) lines)
    length_is = ap length grown ∙ length-append text (decimal number ++ 32 ∷ line_texts lines) ∙ ap (λ k. length text + length (entry_text k lines)) is
