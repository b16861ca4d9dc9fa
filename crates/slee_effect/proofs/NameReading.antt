-- The name of a field is read as it is spelled, and comes after the one before.
use Rattle.std.proofs.Common.{◌≡◌, ℕ, ◌+◌, ◌-◌, ◌^◌, ◌<◌, ◌≤◌, Bool, true, false, cond, ltb, List, [], ◌∷◌, ◌++◌, length, take, drop, Option, Some, None, Ok, Err, refl, sym, ap, subst, ◌∙◌, append_assoc, arith, inl, inr, ◌⊎◌, IsUtf8}
use Rattle.std.specs.Str.{is_utf8}
use Rattle.std.specs.Prelude.{⊤}
use Rattle.std.proofs.lemmas.Str.{IsUtf8-from_is_utf8, is_utf8-from_IsUtf8, IsUtf8-append}
use Rattle.std.proofs.lemmas.Bool.{cases_lt, lt-ltb, le-ltb}
use Rattle.std.proofs.lemmas.List.{append-nil, take_at, take-append-drop, take-append-le, length-append, length-drop, length-take}
use Rattle.slee_value.specs.Order.{is_below}
use Rattle.slee_value.specs.Bytes.{spelled_u32, spelled_text, FitsText}
use Rattle.slee_value.specs.Reading.{Fault, Part, text_at}
use Rattle.slee_value.specs.declared.fault.ValueBad.TheVariants as bad
use Rattle.slee_value.proofs.ReadLemmas.{AreBytes, Takes, Begins, IsStuckBy, ReadsBy, err_is}
use Rattle.slee_value.proofs.TextPartLemmas.{reads_text}
use Rattle.slee_effect.specs.Names.{IsName, follows}
use Rattle.slee_effect.specs.Reading.{fall_behind, in_order, name_at}
use Rattle.slee_effect.proofs.BelowLemmas.{below_whole}
use Rattle.slee_effect.proofs.CapLemmas.{letters_go, text_of}
use Rattle.slee_effect.proofs.NameLemmas.{name_rises, name_open, NameFalls, name_falls, EndsBefore, front_open, open_begins}

abbrev pub FitsName : Option (List ℕ) → List ℕ → Type 0
FitsName before name = FitsText name × (follows before name ≡ true)

none_follows : (before : Option (List ℕ)) (name rest : List ℕ) → FitsText name → fall_behind before (spelled_text name ++ rest) ≡ None → follows before name ≡ true
none_follows None name rest f e = refl
none_follows (Some before) name rest f e = name_rises before name rest f e

follows_none : (before : Option (List ℕ)) (name rest : List ℕ) → FitsName before name → fall_behind before (spelled_text name ++ rest) ≡ None
follows_none None name rest f = refl
follows_none (Some before) name rest f = name_open before name rest f

in_order_ok : {A : Type 0} (o : Option ℕ) (read : Part A) (x : A × List ℕ) → in_order o read ≡ Ok x → (o ≡ None) × (read ≡ Ok x)
in_order_ok None read x e = (refl, e)
in_order_ok (Some left) (Ok y) x e = absurd cc
in_order_ok (Some left) (Err f) x e = absurd (by (ltb f.left left) e)
  where
    by : (c : Bool) → cond c (Err (record { left = left; kind = bad.Tag })) (Err f) ≡ Ok x → ⊥
    by true q = cc
    by false q = cc

name_takes : (before : Option (List ℕ)) (bytes : List ℕ) (x : List ℕ × List ℕ) → AreBytes bytes → name_at before bytes ≡ Ok x → Takes bytes (spelled_text x.0) x.1 × FitsName before x.0
name_takes before bytes x h e =
    let o = in_order_ok (fall_behind before bytes) (text_at bytes) x e in
    let t = reads_text.takes bytes x h o.1 in
    (t.0, (t.1, none_follows before x.0 x.1 t.1 (ap (fall_behind before) (sym t.0.parts) ∙ o.0)))

name_again : (before : Option (List ℕ)) (x rest : List ℕ) → FitsName before x → name_at before (spelled_text x ++ rest) ≡ Ok (x, rest)
name_again before x rest f = ap (λ (o : Option ℕ). in_order o (text_at (spelled_text x ++ rest))) (follows_none before x rest f) ∙ reads_text.again x rest f.0

-- a fault of the text itself
text_part_stuck : (before : Option (List ℕ)) (bytes : List ℕ) (f : Fault) → AreBytes bytes → text_at bytes ≡ Err f → IsStuckBy spelled_text (FitsName before) FitsText bytes f.left
text_part_stuck before bytes f h e =
    let s = reads_text.stuck bytes f h e in
    record { front = s.front; back = s.back; parts = s.parts; left_is = s.left_is; begins = s.begins; ends = λ b more k q. s.ends b more k (q.0, q.1, q.2.0, q.3) }

-- a name that falls
fall_stuck : (before : List ℕ) (bytes : List ℕ) (left : ℕ) → NameFalls before bytes left → Begins spelled_text FitsText (take (length bytes - left) bytes)
    → IsStuckBy spelled_text (FitsName (Some before)) FitsText bytes left
fall_stuck before bytes left falls begins =
    let m : ℕ = length bytes - left in
    record {
      front = take m bytes;
      back = drop m bytes;
      parts = sym (take-append-drop m bytes);
      left_is = length-drop m bytes ∙ (let k : length bytes - m ≡ left = omega (arith, falls.within) in k);
      begins = begins;
      ends = λ b more k q.
          let all : bytes ≡ (take m bytes ++ b ∷ []) ++ more = sym (take-append-drop m bytes) ∙ ap (λ (z : List ℕ). take m bytes ++ z) k ∙ sym (append_assoc (take m bytes) (b ∷ []) more) in
          let size : length (take m bytes ++ b ∷ []) ≡ length bytes + 1 - left = omega (arith, falls.within, falls.some, length-append (take m bytes) (b ∷ []), length-take m bytes) in
          let cut : take m bytes ++ b ∷ [] ≡ take (length bytes + 1 - left) bytes = sym (take_at (take m bytes ++ b ∷ []) more (length bytes + 1 - left) size) ∙ ap (take (length bytes + 1 - left)) (sym all) in
          falls.none q.0 q.1 q.2.0 (q.3 ∙ ap (λ (z : List ℕ). z ++ q.1) cut) q.2.1;
    }

-- a front of what begins a text
shorter_begins : (m : ℕ) (front : List ℕ) → Begins spelled_text FitsText front → Begins spelled_text FitsText (take m front)
shorter_begins m front b = (b.0, drop m front ++ b.1, b.2, b.3 ∙ ap (λ (z : List ℕ). z ++ b.1) (sym (take-append-drop m front)) ∙ append_assoc (take m front) (drop m front) b.1)

begins_read : (before bytes : List ℕ) (x : List ℕ × List ℕ) (left : ℕ) → AreBytes bytes → text_at bytes ≡ Ok x → NameFalls before bytes left → Begins spelled_text FitsText (take (length bytes - left) bytes)
begins_read before bytes x left h e falls =
    let t = reads_text.takes bytes x h e in
    let whole : length (spelled_text x.0) ≡ 4 + length x.0 = length-append (spelled_u32 (length x.0)) x.0 in
    let inside = falls.in_name (length x.0) (x.0 ++ x.1) (t.0.parts ∙ append_assoc (spelled_u32 (length x.0)) x.0 x.1) t.1.short in
    let size : length bytes ≡ length (spelled_text x.0) + length x.1 = ap length t.0.parts ∙ length-append (spelled_text x.0) x.1 in
    let cut : take (length bytes - left) bytes ≡ take (length bytes - left) (spelled_text x.0) = ap (take (length bytes - left)) t.0.parts ∙ take-append-le (length bytes - left) (spelled_text x.0) x.1 (omega (arith, inside, length-append x.0 x.1)) in
    subst (Begins spelled_text FitsText) (sym cut) (shorter_begins (length bytes - left) (spelled_text x.0) (x.0, [], t.1, sym (append-nil (spelled_text x.0))))

begins_fault : (bytes : List ℕ) (g : Fault) (left : ℕ) → AreBytes bytes → text_at bytes ≡ Err g → g.left < left → Begins spelled_text FitsText (take (length bytes - left) bytes)
begins_fault bytes g left h e lt =
    let s = reads_text.stuck bytes g h e in
    let len : length bytes ≡ length s.front + length s.back = ap length s.parts ∙ length-append s.front s.back in
    let cut : take (length bytes - left) bytes ≡ take (length bytes - left) s.front = ap (take (length bytes - left)) s.parts ∙ take-append-le (length bytes - left) s.front s.back (omega (arith, s.left_is)) in
    subst (Begins spelled_text FitsText) (sym cut) (shorter_begins (length bytes - left) s.front s.begins)

-- with a fall at so many bytes left: where the text has no fault before it, the fall is the fault
fall_first : (before : List ℕ) (bytes : List ℕ) (f : Fault) (left : ℕ) → AreBytes bytes → NameFalls before bytes left → (read : Part (List ℕ)) → text_at bytes ≡ read → in_order (Some left) read ≡ Err f
    → IsStuckBy spelled_text (FitsName (Some before)) FitsText bytes f.left
fall_first before bytes f left h falls (Ok x) r e =
    subst (λ (g : Fault). IsStuckBy spelled_text (FitsName (Some before)) FitsText bytes g.left) (err_is {A = List ℕ × List ℕ} (record { left = left; kind = bad.Tag }) f e)
    (fall_stuck before bytes left falls (begins_read before bytes x left h r falls))
fall_first before bytes f left h falls (Err g) r e = by (cases_lt g.left left)
  where
    by : (g.left < left) ⊎ (left ≤ g.left) → IsStuckBy spelled_text (FitsName (Some before)) FitsText bytes f.left
    by (inl lt) =
        subst (λ (k : Fault). IsStuckBy spelled_text (FitsName (Some before)) FitsText bytes k.left) (err_is {A = List ℕ × List ℕ} (record { left = left; kind = bad.Tag }) f (rw (lt-ltb g.left left lt) at e))
        (fall_stuck before bytes left falls (begins_fault bytes g left h r lt))
    by (inr le) = text_part_stuck (Some before) bytes f h (r ∙ (rw (le-ltb g.left left le) at e))

name_by : (before : Option (List ℕ)) (bytes : List ℕ) (f : Fault) → AreBytes bytes → (o : Option ℕ) → fall_behind before bytes ≡ o → in_order o (text_at bytes) ≡ Err f → IsStuckBy spelled_text (FitsName before) FitsText bytes f.left
name_by before bytes f h None o e = text_part_stuck before bytes f h e
name_by None bytes f h (Some left) o e = absurd cc
name_by (Some before) bytes f h (Some left) o e = fall_first before bytes f left h (name_falls before bytes left h o) (text_at bytes) refl e

pub name_stuck : (before : Option (List ℕ)) (bytes : List ℕ) (f : Fault) → AreBytes bytes → name_at before bytes ≡ Err f → IsStuckBy spelled_text (FitsName before) FitsText bytes f.left
name_stuck before bytes f h e = name_by before bytes f h (fall_behind before bytes) refl e

-- with this fault the bytes before it end before the fall
fault_ends : (bytes : List ℕ) (o : Option ℕ) (read : Part (List ℕ)) (f : Fault) (m : ℕ) → m + f.left ≤ length bytes → in_order o read ≡ Err f → EndsBefore m bytes o
fault_ends bytes None read f m le e = tt
fault_ends bytes (Some left) (Ok x) f m le e = (let same : left ≡ f.left = ap (λ (d : Fault). d.left) (err_is {A = List ℕ × List ℕ} (record { left = left; kind = bad.Tag }) f e) in omega arith)
fault_ends bytes (Some left) (Err g) f m le e = by (cases_lt g.left left)
  where
    by : (g.left < left) ⊎ (left ≤ g.left) → m + left ≤ length bytes
    by (inl lt) = (let same : left ≡ f.left = ap (λ (d : Fault). d.left) (err_is {A = List ℕ × List ℕ} (record { left = left; kind = bad.Tag }) f (rw (lt-ltb g.left left lt) at e)) in omega arith)
    by (inr ge) = (let same : g.left ≡ f.left = ap (λ (d : Fault). d.left) (err_is {A = List ℕ × List ℕ} g f (rw (le-ltb g.left left ge) at e)) in omega arith)

pub begins_next : (before : Option (List ℕ)) (bytes : List ℕ) (f : Fault) (m : ℕ) → IsName before → 0 < length (take m bytes) → m + f.left ≤ length bytes → in_order (fall_behind before bytes) (text_at bytes) ≡ Err f → Begins spelled_text FitsText (take m bytes) → Begins spelled_text (FitsName before) (take m bytes)
begins_next None bytes f m u some le e b = (b.0, b.1, (b.2, refl), b.3)
begins_next (Some before) bytes f m u some le e b = open_begins before (take m bytes) u b some (front_open before bytes m (fall_behind (Some before) bytes) refl (fault_ends bytes (fall_behind (Some before) bytes) (text_at bytes) f m le e))

-- a name comes after the one before, unless that one leaves no room for it
abbrev pub Climbs : Option (List ℕ) → List ℕ → Type 0
Climbs None name = ⊤
Climbs (Some before) name = IsUtf8 before → length before + 1 < 2 ^ 32 → is_below before name ≡ true

abbrev pub LooseName : Option (List ℕ) → List ℕ → Type 0
LooseName before name = FitsText name × Climbs before name

climbs : (before : Option (List ℕ)) (name : List ℕ) → follows before name ≡ true → Climbs before name
climbs None name e = tt
climbs (Some before) name e = λ u room. e

true_false : {A : Type 0} (b : Bool) → b ≡ true → b ≡ false → A
true_false b p q = absurd cc

no_text : {A : Type 0} (before : List ℕ) → is_utf8 before ≡ false → IsUtf8 before → A
no_text before e u = true_false (is_utf8 before) (is_utf8-from_IsUtf8 before u) e

some_name : (before : Option (List ℕ)) → Begins spelled_text (LooseName before) []
some_name None = (reads_text.some.0, reads_text.some.1, (reads_text.some.2, tt), reads_text.some.3)
some_name (Some before) = by (is_utf8 before) refl (cases_lt (length before + 1) (2 ^ 32))
  where
    any : (IsUtf8 before → length before + 1 < 2 ^ 32 → ⊥) → Begins spelled_text (LooseName (Some before)) []
    any none = (reads_text.some.0, reads_text.some.1, (reads_text.some.2, λ u room. absurd (none u room)), reads_text.some.3)

    by : (t : Bool) → is_utf8 before ≡ t → (length before + 1 < 2 ^ 32) ⊎ (2 ^ 32 ≤ length before + 1) → Begins spelled_text (LooseName (Some before)) []
    by false e _ = any (λ u room. no_text before e u)
    by true e (inr h) = any (λ u room. absurd (omega arith))
    by true e (inl h) =
        let name : List ℕ = before ++ 97 ∷ [] in
        let text : FitsText name = record { utf8 = IsUtf8-append before (97 ∷ []) (IsUtf8-from_is_utf8 before e) (text_of 128 (97 ∷ []) (letters_go 128 1)); short = omega (arith, length-append before (97 ∷ [])) } in
        (name, spelled_text name, (text, λ u room. below_whole before 97 []), refl)

-- the bytes before the fault begin a name that comes after the one before
begins_loose : (before : Option (List ℕ)) (front : List ℕ) → Begins spelled_text FitsText front → (IsName before → 0 < length front → Begins spelled_text (FitsName before) front) → Begins spelled_text (LooseName before) front
begins_loose before [] b next = some_name before
begins_loose None (x ∷ front) b next = (b.0, b.1, (b.2, tt), b.3)
begins_loose (Some before) (x ∷ front) b next = by (is_utf8 before) refl
  where
    by : (t : Bool) → is_utf8 before ≡ t → Begins spelled_text (LooseName (Some before)) (x ∷ front)
    by true e = (let n = next (IsUtf8-from_is_utf8 before e) (omega arith) in (n.0, n.1, (n.2.0, λ u room. n.2.1), n.3))
    by false e = (b.0, b.1, (b.2, λ u room. no_text before e u), b.3)

pub stuck_begins : (before : Option (List ℕ)) (bytes : List ℕ) (f : Fault) → name_at before bytes ≡ Err f → (s : IsStuckBy spelled_text (FitsName before) FitsText bytes f.left) → IsName before → 0 < length s.front → Begins spelled_text (FitsName before) s.front
stuck_begins before bytes f e s u some =
    let len : length bytes ≡ length s.front + length s.back = ap length s.parts ∙ length-append s.front s.back in
    let front : take (length s.front) bytes ≡ s.front = ap (take (length s.front)) s.parts ∙ take_at s.front s.back (length s.front) refl in
    subst (Begins spelled_text (FitsName before)) front (begins_next before bytes f (length s.front) u (omega (arith, ap length front)) (omega (arith, s.left_is)) e (subst (Begins spelled_text FitsText) (sym front) s.begins))

name_stops : (before : Option (List ℕ)) (bytes : List ℕ) (f : Fault) → AreBytes bytes → name_at before bytes ≡ Err f → IsStuckBy spelled_text (FitsName before) (LooseName before) bytes f.left
name_stops before bytes f h e =
    let s = name_stuck before bytes f h e in
    record { front = s.front; back = s.back; parts = s.parts; left_is = s.left_is; begins = begins_loose before s.front s.begins (λ u some. stuck_begins before bytes f e s u some); ends = s.ends }

pub reads_name : (before : Option (List ℕ)) → ReadsBy spelled_text (FitsName before) (LooseName before) (name_at before)
reads_name before = record {
  takes = name_takes before;
  again = name_again before;
  stuck = name_stops before;
  some = some_name before;
  bytes = λ x f. reads_text.bytes x f.0;
  loosen = λ x f. (f.0, climbs before x f.1);
}
