-- How a text between quotes is read run by run.
use Rattle.std.proofs.Common.{◌≡◌, ◌≤◌, ◌<◌, ◌+◌, ℕ, suc, Bool, true, false, cond, ◌&&◌, [], ◌∷◌, ◌++◌, length, take, drop, get_or, Option, Some, None, IsTrue, IsUtf8, IsCharBoundary, refl, sym, ap, ◌∙◌, arith, append_assoc, subst}
use Rattle.std.specs.Prelude.{◌==◌, not, nat_lt, nat_le}
use Rattle.std.specs.List.{prefix_len, list_all}
use Rattle.std.proofs.lemmas.List.{append-nil, length-append, length-drop}
use Rattle.std.proofs.lemmas.List.Sums.{prefix_len-le-length, prefix_len_stops}
use Rattle.std.proofs.lemmas.Str.{IsCharBoundary-after_ascii}
use Rattle.std.proofs.lemmas.Bool.Decides.{nat_tests}
use Rattle.script_tree.specs.declared.quote.Stop.{Stop}
use Rattle.script_tree.specs.declared.quote.Stop.TheVariants as stops
use Rattle.script_tree.specs.Tree.{Bytes}
use Rattle.script_tree.specs.declared.lexeme.Quote.{Quote}
use Rattle.script_tree.specs.Words.{quoted, quoted_byte, is_byte_of_text, is_literal}
use Rattle.script_tree.specs.Lexer.{quote_of, with_byte, escape_of, escape_then}
use Rattle.script_tree.specs.Quotes.{is_plain, escape_in, stop_in, behind_run}

and_parts : (a b : Bool) → (a && b) ≡ true → (a ≡ true) × (b ≡ true)
and_parts true b h = (refl, h)
and_parts false b h = absurd cc

and_both : (a b : Bool) → a ≡ true → b ≡ true → (a && b) ≡ true
and_both true b h l = l
and_both false b h l = absurd cc

not_true : (a : Bool) → not a ≡ true → a ≡ false
not_true true h = absurd cc
not_true false h = refl

-- ---- runs of plain bytes

record Plain (b : ℕ) : Type 0 where
  quote : (b == 34) ≡ false
  low : nat_lt b 32 ≡ false
  backslash : (b == 92) ≡ false

plain_is : (b : ℕ) → is_plain b ≡ true → Plain b
plain_is b h =
    let first = and_parts (nat_le 32 b) (not (b == 34) && not (b == 92)) h in
    let rest = and_parts (not (b == 34)) (not (b == 92)) first.1 in
    let at_least : nat_le 32 b ≡ true = first.0 in
    record { quote = not_true (b == 34) rest.0; low = grind (arith, nat_tests); backslash = not_true (b == 92) rest.1 }

one_plain : (b : ℕ) (bs : Bytes) → Plain b → quote_of false (b ∷ bs) ≡ with_byte b 1 (quote_of false bs)
one_plain b bs p = rw (p.quote, p.low, p.backslash) refl

with_run : (b : ℕ) (bs : Bytes) (n : ℕ) (o : Option Quote) → with_byte b 1 (behind_run bs n o) ≡ behind_run (b ∷ bs) (1 + n) o
with_run b bs n None = refl
with_run b bs n (Some q) = let e : 1 + (n + q.size) ≡ 1 + n + q.size = omega arith in ap (λ m. Some (let x : Quote = record { text = b ∷ bs ++ q.text; size = m } in x)) e

no_run : (o : Option Quote) → o ≡ behind_run [] 0 o
no_run None = refl
no_run (Some q) = let e : q.size ≡ 0 + q.size = omega arith in ap (λ m. Some (let x : Quote = record { text = q.text; size = m } in x)) e

pub plain_run : (bs : Bytes) (n : ℕ) → n ≡ prefix_len is_plain bs → quote_of false bs ≡ behind_run (take n bs) n (quote_of false (drop n bs))
plain_run [] n h = rw h refl
plain_run (b ∷ bs) n h = by_first (is_plain b) refl (plain_run bs (prefix_len is_plain bs) refl)
  where
    by_first : (a : Bool) → is_plain b ≡ a → quote_of false bs ≡ behind_run (take (prefix_len is_plain bs) bs) (prefix_len is_plain bs) (quote_of false (drop (prefix_len is_plain bs) bs)) → quote_of false (b ∷ bs) ≡ behind_run (take n (b ∷ bs)) n (quote_of false (drop n (b ∷ bs)))
    by_first true e more =
        let m = prefix_len is_plain bs in
        let k : n ≡ suc m = h ∙ ap (λ a. cond a (1 + m) 0) e ∙ omega arith in
        let j : n ≡ 1 + m = omega arith in
        one_plain b bs (plain_is b e) ∙ ap (with_byte b 1) more ∙ with_run b (take m bs) m (quote_of false (drop m bs))
        ∙ ap (λ i. behind_run (b ∷ take m bs) i (quote_of false (drop m bs))) (sym j)
        ∙ ap (λ i. behind_run (take i (b ∷ bs)) n (quote_of false (drop i (b ∷ bs)))) (sym k)
    by_first false e more =
        let k : n ≡ 0 = h ∙ ap (λ a. cond a (1 + prefix_len is_plain bs) 0) e in
        no_run (quote_of false (b ∷ bs)) ∙ ap (λ i. behind_run (take i (b ∷ bs)) i (quote_of false (drop i (b ∷ bs)))) (sym k)

-- no plain byte comes first
abbrev pub no_plain : Bytes → Bool
no_plain [] = true
no_plain (b ∷ bs) = not (is_plain b)

pub run_stops : (bs : Bytes) (n : ℕ) → n ≡ prefix_len is_plain bs → no_plain (drop n bs) ≡ true
run_stops [] n h = rw h refl
run_stops (b ∷ bs) n h = by_first (is_plain b) refl (run_stops bs (prefix_len is_plain bs) refl)
  where
    by_first : (a : Bool) → is_plain b ≡ a → no_plain (drop (prefix_len is_plain bs) bs) ≡ true → no_plain (drop n (b ∷ bs)) ≡ true
    by_first true e more =
        let m = prefix_len is_plain bs in
        let k : n ≡ suc m = h ∙ ap (λ a. cond a (1 + m) 0) e ∙ omega arith in
        ap (λ i. no_plain (drop i (b ∷ bs))) k ∙ more
    by_first false e more =
        let k : n ≡ 0 = h ∙ ap (λ a. cond a (1 + prefix_len is_plain bs) 0) e in
        ap (λ i. no_plain (drop i (b ∷ bs))) k ∙ ap not e

-- ---- what ends a run

abbrev pub by_stop : Stop → Option Quote → Option Quote
by_stop stops.Closed rest = Some (record { text = []; size = 0 })
by_stop (stops.Escape c) rest = with_byte c 2 rest
by_stop stops.Broken rest = None

low_byte : (b : ℕ) → is_plain b ≡ false → (b == 34) ≡ false → (b == 92) ≡ false → nat_lt b 32 ≡ true
low_byte b h q l = grind (arith, nat_tests)

escaped_is : (bs : Bytes) → quote_of true bs ≡ by_stop (escape_in bs) (quote_of false (drop 1 bs))
escaped_is [] = refl
escaped_is (c ∷ cs) = at_quote (c == 34) refl
  where
    at_letter : (a : Bool) → (c == 34) ≡ false → (c == 92) ≡ false → (c == 110) ≡ a → quote_of true (c ∷ cs) ≡ by_stop (escape_in (c ∷ cs)) (quote_of false (drop 1 (c ∷ cs)))
    at_letter true e f g = rw (e, f, g) refl
    at_letter false e f g = rw (e, f, g) refl

    at_backslash : (a : Bool) → (c == 34) ≡ false → (c == 92) ≡ a → quote_of true (c ∷ cs) ≡ by_stop (escape_in (c ∷ cs)) (quote_of false (drop 1 (c ∷ cs)))
    at_backslash true e f = rw (e, f) refl
    at_backslash false e f = at_letter (c == 110) e f refl

    at_quote : (a : Bool) → (c == 34) ≡ a → quote_of true (c ∷ cs) ≡ by_stop (escape_in (c ∷ cs)) (quote_of false (drop 1 (c ∷ cs)))
    at_quote true e = rw e refl
    at_quote false e = at_backslash (c == 92) e refl

pub run_ends : (bs : Bytes) → no_plain bs ≡ true → quote_of false bs ≡ by_stop (stop_in bs) (quote_of false (drop 2 bs))
run_ends [] h = refl
run_ends (b ∷ bs) h = at_quote (b == 34) refl
  where
    at_backslash : (a : Bool) → (b == 34) ≡ false → (b == 92) ≡ a → quote_of false (b ∷ bs) ≡ by_stop (stop_in (b ∷ bs)) (quote_of false (drop 1 bs))
    at_backslash true e f =
        let is : b ≡ 92 = grind (arith, nat_tests) in
        let low : nat_lt b 32 ≡ false = rw is refl in
        rw (e, low, f) (escaped_is bs)
    at_backslash false e f = let low = low_byte b (not_true (is_plain b) h) e f in rw (e, low, f) refl

    at_quote : (a : Bool) → (b == 34) ≡ a → quote_of false (b ∷ bs) ≡ by_stop (stop_in (b ∷ bs)) (quote_of false (drop 1 bs))
    at_quote true e = rw e refl
    at_quote false e = at_backslash (b == 92) e refl

-- ---- runs behind one another

behind_both : (xs ys : Bytes) (m n : ℕ) (o : Option Quote) → behind_run xs m (behind_run ys n o) ≡ behind_run (xs ++ ys) (m + n) o
behind_both xs ys m n None = refl
behind_both xs ys m n (Some q) =
    let e : m + (n + q.size) ≡ m + n + q.size = omega arith in
    ap (λ (x : Bytes × ℕ). Some (let y : Quote = record { text = x.0; size = x.1 } in y)) (let p : (xs ++ (ys ++ q.text), m + (n + q.size)) ≡ (xs ++ ys ++ q.text, m + n + q.size) = rw (append_assoc xs ys q.text, e) refl in p)

one_byte : (b n : ℕ) (o : Option Quote) → with_byte b n o ≡ behind_run (b ∷ []) n o
one_byte b n None = refl
one_byte b n (Some q) = refl

-- what was read of a text behind its quote, and what is left of it
pub record Reading (behind text : Bytes) (size : ℕ) (rest : Bytes) : Type 0 where
  pub so_far : behind_run text size (quote_of false rest) ≡ quote_of false behind
  pub length_so : size + length rest ≡ length behind

pub reads : (behind : Bytes) → Reading behind [] 0 behind
reads behind = record { so_far = sym (no_run (quote_of false behind)); length_so = omega arith }

-- a run, up to what ends it
pub read_run : (behind text rest : Bytes) (size n : ℕ) → Reading behind text size rest → n ≡ prefix_len is_plain rest → behind_run (text ++ take n rest) (size + n) (by_stop (stop_in (drop n rest)) (quote_of false (drop 2 (drop n rest)))) ≡ quote_of false behind
read_run behind text rest size n r h =
    ap (behind_run (text ++ take n rest) (size + n)) (sym (run_ends (drop n rest) (run_stops rest n h)))
    ∙ sym (behind_both text (take n rest) size n (quote_of false (drop n rest)))
    ∙ ap (behind_run text size) (sym (plain_run rest n h)) ∙ r.so_far

pub read_on : (behind text rest : Bytes) (size n c : ℕ) → Reading behind text size rest → n ≡ prefix_len is_plain rest → stop_in (drop n rest) ≡ stops.Escape c → 2 ≤ length (drop n rest) → Reading behind ((text ++ take n rest) ++ c ∷ []) (size + n + 2) (drop 2 (drop n rest))
read_on behind text rest size n c r h e two =
    let len = r.length_so in
    let le : n ≤ length rest = omega (arith, h, prefix_len-le-length is_plain rest) in
    let one = length-drop n rest in
    let other = length-drop 2 (drop n rest) in
    record {
      so_far =
          sym (behind_both (text ++ take n rest) (c ∷ []) (size + n) 2 (quote_of false (drop 2 (drop n rest))))
          ∙ ap (behind_run (text ++ take n rest) (size + n)) (sym (one_byte c 2 (quote_of false (drop 2 (drop n rest)))) ∙ ap (λ x. by_stop x (quote_of false (drop 2 (drop n rest)))) (sym e))
          ∙ read_run behind text rest size n r h;
      length_so = omega arith;
    }

pub closes : (behind text rest : Bytes) (size n : ℕ) → Reading behind text size rest → n ≡ prefix_len is_plain rest → stop_in (drop n rest) ≡ stops.Closed → quote_of false behind ≡ Some (record { text = text ++ take n rest; size = size + n })
closes behind text rest size n r h e =
    let add : size + n + 0 ≡ size + n = omega arith in
    sym (read_run behind text rest size n r h) ∙ ap (λ x. behind_run (text ++ take n rest) (size + n) (by_stop x (quote_of false (drop 2 (drop n rest))))) e
    ∙ ap (λ (x : Bytes × ℕ). Some (let y : Quote = record { text = x.0; size = x.1 } in y)) (let p : ((text ++ take n rest) ++ [], size + n + 0) ≡ (text ++ take n rest, size + n) = rw (append-nil (text ++ take n rest), add) refl in p)

pub breaks : (behind text rest : Bytes) (size n : ℕ) → Reading behind text size rest → n ≡ prefix_len is_plain rest → stop_in (drop n rest) ≡ stops.Broken → quote_of false behind ≡ None
breaks behind text rest size n r h e = sym (read_run behind text rest size n r h) ∙ ap (λ x. behind_run (text ++ take n rest) (size + n) (by_stop x (quote_of false (drop 2 (drop n rest))))) e

-- ---- where a text may be cut

plain_high : (b : ℕ) → 128 ≤ b → is_plain b ≡ true
plain_high b h = grind (arith, nat_tests)

pub boundary_run : (bs : Bytes) (n : ℕ) → n ≡ prefix_len is_plain bs → IsCharBoundary bs n
boundary_run bs n h = (omega (arith, h, prefix_len-le-length is_plain bs), λ lt high. absurd (clash n lt h high))
  where
    clash : (n : ℕ) → n < length bs → n ≡ prefix_len is_plain bs → 128 ≤ get_or bs n 0 → ⊥
    clash n lt h high =
        let stop : is_plain (get_or bs (prefix_len is_plain bs) 0) ≡ false = prefix_len_stops is_plain bs 0 (omega (arith, h)) in
        let other = ap (λ i. is_plain (get_or bs i 0)) h ∙ stop in
        let yes = plain_high (get_or bs n 0) high in
        cc

-- an escape is two bytes of ASCII
pub record Two (bs : Bytes) : Type 0 where
  pub both : 2 ≤ length bs
  pub boundary : IsCharBoundary bs 2

escape_low : (bs : Bytes) (c : ℕ) → escape_in bs ≡ stops.Escape c → (1 ≤ length bs) × (get_or bs 0 0 < 128)
escape_low [] c h = absurd cc
escape_low (b ∷ bs) c h = at_quote (b == 34) refl
  where
    at_letter : (a : Bool) → (b == 34) ≡ false → (b == 92) ≡ false → (b == 110) ≡ a → (1 ≤ length (b ∷ bs)) × (b < 128)
    at_letter true e f g = let is : b ≡ 110 = grind (arith, nat_tests) in (omega arith, omega arith)
    at_letter false e f g = let no : stops.Broken ≡ stops.Escape c = rw (e, f, g) at h in absurd cc

    at_backslash : (a : Bool) → (b == 34) ≡ false → (b == 92) ≡ a → (1 ≤ length (b ∷ bs)) × (b < 128)
    at_backslash true e f = let is : b ≡ 92 = grind (arith, nat_tests) in (omega arith, omega arith)
    at_backslash false e f = at_letter (b == 110) e f refl

    at_quote : (a : Bool) → (b == 34) ≡ a → (1 ≤ length (b ∷ bs)) × (b < 128)
    at_quote true e = let is : b ≡ 34 = grind (arith, nat_tests) in (omega arith, omega arith)
    at_quote false e = at_backslash (b == 92) e refl

pub escape_two : (bs : Bytes) (c : ℕ) → IsUtf8 bs → stop_in bs ≡ stops.Escape c → Two bs
escape_two [] c u h = absurd cc
escape_two (b ∷ bs) c u h = at_quote (b == 34) refl
  where
    at_backslash : (a : Bool) → (b == 34) ≡ false → (b == 92) ≡ a → Two (b ∷ bs)
    at_backslash true e f =
        let g : escape_in bs ≡ stops.Escape c = rw (e, f) at h in
        let low = escape_low bs c g in
        let lt : 1 < length (b ∷ bs) = omega (arith, low.0) in
        record { both = omega arith; boundary = IsCharBoundary-after_ascii (b ∷ bs) 1 u lt low.1 }
    at_backslash false e f = let no : stops.Broken ≡ stops.Escape c = rw (e, f) at h in absurd cc

    at_quote : (a : Bool) → (b == 34) ≡ a → Two (b ∷ bs)
    at_quote true e = let no : stops.Closed ≡ stops.Escape c = rw e at h in absurd cc
    at_quote false e = at_backslash (b == 92) e refl

pub escape_ascii : (bs : Bytes) (c : ℕ) → stop_in bs ≡ stops.Escape c → c < 128
escape_ascii [] c h = absurd cc
escape_ascii (b ∷ bs) c h = at_quote (b == 34) refl
  where
    inner : (xs : Bytes) → escape_in xs ≡ stops.Escape c → c < 128
    inner [] g = absurd cc
    inner (x ∷ xs) g = at_q (x == 34) refl
      where
        at_n : (a : Bool) → (x == 34) ≡ false → (x == 92) ≡ false → (x == 110) ≡ a → c < 128
        at_n true e f k = let no : stops.Escape 10 ≡ stops.Escape c = rw (e, f, k) at g in let is : 10 ≡ c = cc in omega arith
        at_n false e f k = let no : stops.Broken ≡ stops.Escape c = rw (e, f, k) at g in absurd cc

        at_b : (a : Bool) → (x == 34) ≡ false → (x == 92) ≡ a → c < 128
        at_b true e f = let no : stops.Escape 92 ≡ stops.Escape c = rw (e, f) at g in let is : 92 ≡ c = cc in omega arith
        at_b false e f = at_n (x == 110) e f refl

        at_q : (a : Bool) → (x == 34) ≡ a → c < 128
        at_q true e = let no : stops.Escape 34 ≡ stops.Escape c = rw e at g in let is : 34 ≡ c = cc in omega arith
        at_q false e = at_b (x == 92) e refl

    at_backslash : (a : Bool) → (b == 34) ≡ false → (b == 92) ≡ a → c < 128
    at_backslash true e f = let g : escape_in bs ≡ stops.Escape c = rw (e, f) at h in inner bs g
    at_backslash false e f = let no : stops.Broken ≡ stops.Escape c = rw (e, f) at h in absurd cc

    at_quote : (a : Bool) → (b == 34) ≡ a → c < 128
    at_quote true e = let no : stops.Closed ≡ stops.Escape c = rw e at h in absurd cc
    at_quote false e = at_backslash (b == 92) e refl

-- ---- what is read can be written so

abbrev Written : Option Quote → Type 0
Written None = Unit {0}
Written (Some q) = (list_all is_byte_of_text q.text ≡ true) × (length (quoted q.text) ≡ q.size)

written_cond : (a : Bool) (x y : Option Quote) → (a ≡ true → Written x) → (a ≡ false → Written y) → Written (cond a x y)
written_cond true x y h l = h refl
written_cond false x y h l = l refl

written_with : (b n : ℕ) (o : Option Quote) → is_byte_of_text b ≡ true → length (quoted_byte b) ≡ n → Written o → Written (with_byte b n o)
written_with b n None h l w = tt
written_with b n (Some q) h l w = (and_both (is_byte_of_text b) (list_all is_byte_of_text q.text) h w.0, length-append (quoted_byte b) (quoted q.text) ∙ (let e = w.1 in omega arith))

plain_text : (b : ℕ) → nat_lt b 32 ≡ false → is_byte_of_text b ≡ true
plain_text b h = grind (arith, nat_tests)

plain_one : (b : ℕ) → (b == 34) ≡ false → nat_lt b 32 ≡ false → (b == 92) ≡ false → length (quoted_byte b) ≡ 1
plain_one b h l k = let m : (b == 10) ≡ false = grind (arith, nat_tests) in rw (h, k, m) refl

written_escape : (b : ℕ) (rest : Option Quote) → Written rest → Written (escape_then (escape_of b) rest)
written_escape b rest w = at_quote (b == 34) refl
  where
    at_letter : (a : Bool) → (b == 34) ≡ false → (b == 92) ≡ false → (b == 110) ≡ a → Written (escape_then (escape_of b) rest)
    at_letter true e f g = rw (e, f, g) (written_with 10 2 rest refl refl w)
    at_letter false e f g = rw (e, f, g) tt

    at_backslash : (a : Bool) → (b == 34) ≡ false → (b == 92) ≡ a → Written (escape_then (escape_of b) rest)
    at_backslash true e f = rw (e, f) (written_with 92 2 rest refl refl w)
    at_backslash false e f = at_letter (b == 110) e f refl

    at_quote : (a : Bool) → (b == 34) ≡ a → Written (escape_then (escape_of b) rest)
    at_quote true e = rw e (written_with 34 2 rest refl refl w)
    at_quote false e = at_backslash (b == 92) e refl

written_both : (bs : Bytes) → Written (quote_of false bs) × Written (quote_of true bs)
written_both [] = (tt, tt)
written_both (b ∷ bs) =
    let both = written_both bs in (
      written_cond (b == 34) (Some (record { text = []; size = 0 })) (cond (nat_lt b 32) None (cond (b == 92) (quote_of true bs) (with_byte b 1 (quote_of false bs)))) (λ e. (refl, refl))
          (λ e. written_cond (nat_lt b 32) None (cond (b == 92) (quote_of true bs) (with_byte b 1 (quote_of false bs))) (λ f. tt)
          (λ f. written_cond (b == 92) (quote_of true bs) (with_byte b 1 (quote_of false bs)) (λ g. both.1)
          (λ g. written_with b 1 (quote_of false bs) (plain_text b f) (plain_one b e f g) both.0))),
      written_escape b (quote_of false bs) both.0,
    )

pub quote_literal : (bs text : Bytes) (size : ℕ) → quote_of false bs ≡ Some (record { text = text; size = size }) → size ≤ 4096 → IsTrue (is_literal text)
quote_literal bs text size h le =
    let w = subst Written h (written_both bs).0 in
    and_both (list_all is_byte_of_text text) (nat_le (length (quoted text)) 4096) w.0 (small (length (quoted text)) size w.1 le)
  where
    small : (m n : ℕ) → m ≡ n → n ≤ 4096 → nat_le m 4096 ≡ true
    small m n e le = grind (arith, nat_tests)

-- ---- the same, of what the loop has at hand

pub closes_in : (behind text rest run whole after : Bytes) (size n : ℕ) → Reading behind text size rest → n ≡ prefix_len is_plain rest → run ≡ take n rest → after ≡ drop n rest → whole ≡ text ++ run → stops.Closed ≡ stop_in after → Some (let x : Quote = record { text = whole; size = size + n } in x) ≡ quote_of false behind
closes_in behind text rest run whole after size n r h er ea ew es =
    ap (λ (xs : Bytes). Some (let x : Quote = record { text = xs; size = size + n } in x)) (ew ∙ ap (λ xs. text ++ xs) er) ∙ sym (closes behind text rest size n r h (ap stop_in (sym ea) ∙ sym es))

pub breaks_in : (behind text rest after : Bytes) (size n : ℕ) → Reading behind text size rest → n ≡ prefix_len is_plain rest → after ≡ drop n rest → stops.Broken ≡ stop_in after → None ≡ quote_of false behind
breaks_in behind text rest after size n r h ea es = sym (breaks behind text rest size n r h (ap stop_in (sym ea) ∙ sym es))

pub read_on_in : (behind text rest run mid whole coded after further : Bytes) (size n b char : ℕ) → Reading behind text size rest → n ≡ prefix_len is_plain rest → run ≡ take n rest → after ≡ drop n rest → mid ≡ text ++ run → stops.Escape b ≡ stop_in after → char ≡ b → (char < 128 → coded ≡ char ∷ []) → whole ≡ mid ++ coded → further ≡ drop 2 after → 2 ≤ length after → Reading behind whole (size + n + 2) further
read_on_in behind text rest run mid whole coded after further size n b char r h er ea em es ec code ew ef two =
    let small : b < 128 = escape_ascii after b (sym es) in
    let c : coded ≡ b ∷ [] = code (omega arith) ∙ ap (λ x. x ∷ []) ec in
    let w : whole ≡ (text ++ take n rest) ++ b ∷ [] = ew ∙ ap (λ xs. mid ++ xs) c ∙ ap (λ xs. xs ++ b ∷ []) (em ∙ ap (λ xs. text ++ xs) er) in
    let g : further ≡ drop 2 (drop n rest) = ef ∙ ap (drop 2) ea in
    let le : 2 ≤ length (drop n rest) = omega (arith, ap length ea) in
    let all = read_on behind text rest size n b r h (ap stop_in (sym ea) ∙ sym es) le in
    subst (λ (xs : Bytes). Reading behind whole (size + n + 2) xs) (sym g) (subst (λ (xs : Bytes). Reading behind xs (size + n + 2) (drop 2 (drop n rest))) (sym w) all)
