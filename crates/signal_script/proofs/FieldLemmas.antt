-- Fields whose names and values stand one after another in a text: one more, and the first of them.
use Rattle.std.proofs.Common.{◌≡◌, ℕ, ◌+◌, ◌-◌, ◌≤◌, ◌==◌, suc, Bool, true, ◌&&◌, nat_le, IsTrue, List, [], ◌∷◌, ◌++◌, length, take, drop, slice_range, refl, sym, ◌∙◌, ap, arith, append_assoc, append-nil, length-append, IsUtf8}
use Rattle.std.proofs.Math.Seq.{take-append_seam, drop-append_seam, drop-append-add, take-length}
use Rattle.std.proofs.lemmas.List.{take-append-le, drop-append-le, length-drop}
use Rattle.std.proofs.lemmas.List.Folds.{list_all-append}
use Rattle.std.proofs.lemmas.Bool.{and_parts, and_from}
use Rattle.std.proofs.lemmas.Bool.Decides.{nat_tests}
use Rattle.std.proofs.lemmas.Str.{IsUtf8-from_is_utf8, is_utf8-from_IsUtf8}
use Rattle.std.specs.List.{list_all}
use Rattle.std.specs.Str.{is_utf8}
use Rattle.slee_value.specs.Name.{is_name}
use Rattle.slee_value.proofs.NameLemmas.{name_is_utf8}
use Rattle.signal_script.specs.Fields.{fields_behind, are_ends, is_text_field, AreFields}
use Rattle.signal_script.specs.declared.fields.FieldEnds.{FieldEnds}

pub no_fields : AreFields [] 0 []
no_fields = record { rising = refl; texts = refl }

pub one_each : (text : List ℕ) (from : ℕ) (ends : List FieldEnds) → length (fields_behind text from ends) ≡ length ends
one_each text from [] = refl
one_each text from (e ∷ es) = ap (λ n. suc n) (one_each text e.value es)

-- what the ends say of the first of them
pub record Rises (len from : ℕ) (e : FieldEnds) (es : List FieldEnds) : Type 0 where
  pub name : from ≤ e.name
  pub value : e.name ≤ e.value
  pub rest : are_ends len e.value es ≡ true

pub rises : (len from : ℕ) (e : FieldEnds) (es : List FieldEnds) → are_ends len from (e ∷ es) ≡ true → Rises len from e es
rises len from e es is =
    let first = and_parts (nat_le from e.name) (nat_le e.name e.value && are_ends len e.value es) is in
    let second = and_parts (nat_le e.name e.value) (are_ends len e.value es) first.1 in
    record { name = grind (arith, nat_tests, first.0); value = grind (arith, nat_tests, second.0); rest = second.1 }

pub from_here : (len from : ℕ) → are_ends len from [] ≡ true → from ≡ len
from_here len from is = grind (arith, nat_tests)

-- no end stands behind the text
pub within : (len from : ℕ) (ends : List FieldEnds) → are_ends len from ends ≡ true → from ≤ len
within len from [] is = let same = from_here len from is in omega (arith, same)
within len from (e ∷ es) is =
    let r = rises len from e es is in
    let last = within len e.value es r.rest in
    omega (arith, r.name, r.value, last)

-- a part of a text stays where more comes behind it
part_stays : (text more : List ℕ) (from to : ℕ) → from ≤ to → to ≤ length text → slice_range (text ++ more) from to ≡ slice_range text from to
part_stays text more from to rise fits =
    ap (λ (l : List ℕ). take (to - from) l) (drop-append-le from text more (omega (arith, rise, fits)))
    ∙ take-append-le (to - from) (drop from text) more (omega (arith, length-drop from text, rise, fits))

-- the part that comes behind a text
part_comes : (text part more : List ℕ) (from to : ℕ) → from ≡ length text → to ≡ length text + length part → slice_range (text ++ (part ++ more)) from to ≡ part
part_comes text part more from to from_is to_is =
    ap (λ n. take n (drop from (text ++ (part ++ more)))) (omega (arith, from_is, to_is))
    ∙ ap (λ n. take (length part) (drop n (text ++ (part ++ more)))) from_is
    ∙ ap (λ (l : List ℕ). take (length part) l) (drop-append_seam text (part ++ more))
    ∙ take-append_seam part more

-- fields stay where more text comes behind theirs, and an end more
fields_more : (text more : List ℕ) (from : ℕ) (ends : List FieldEnds) (e : FieldEnds) → are_ends (length text) from ends ≡ true
    → fields_behind (text ++ more) from (ends ++ e ∷ []) ≡ fields_behind text from ends ++ (slice_range (text ++ more) (length text) e.name, slice_range (text ++ more) e.name e.value) ∷ []
fields_more text more from [] e is = ap (λ n. (slice_range (text ++ more) n e.name, slice_range (text ++ more) e.name e.value) ∷ []) (from_here (length text) from is)
fields_more text more from (x ∷ xs) e is =
    let r = rises (length text) from x xs is in
    let last = within (length text) x.value xs r.rest in
    ap (λ (l : List ℕ). (l, slice_range (text ++ more) x.name x.value) ∷ fields_behind (text ++ more) x.value (xs ++ e ∷ [])) (part_stays text more from x.name r.name (omega (arith, r.value, last)))
    ∙ ap (λ (l : List ℕ). (slice_range text from x.name, l) ∷ fields_behind (text ++ more) x.value (xs ++ e ∷ [])) (part_stays text more x.name x.value r.value last)
    ∙ ap (λ (l : List (List ℕ × List ℕ)). (slice_range text from x.name, slice_range text x.name x.value) ∷ l) (fields_more text more x.value xs e r.rest)

-- a field more, as the code adds it
pub field_added : (text name value new : List ℕ) (ends more : List FieldEnds) (e : FieldEnds) → are_ends (length text) 0 ends ≡ true
    → new ≡ (text ++ name) ++ value → more ≡ ends ++ e ∷ [] → e.name ≡ length text + length name → e.value ≡ length text + length name + length value
    → fields_behind new 0 more ≡ fields_behind text 0 ends ++ (name, value) ∷ []
field_added text name value new ends more e is new_is more_is name_end value_end =
    ap (λ (l : List ℕ). fields_behind l 0 more) whole
    ∙ ap (λ (l : List FieldEnds). fields_behind (text ++ (name ++ value)) 0 l) more_is
    ∙ fields_more text (name ++ value) 0 ends e is
    ∙ ap (λ (l : List ℕ). fields_behind text 0 ends ++ (l, slice_range (text ++ (name ++ value)) e.name e.value) ∷ []) (part_comes text name value (length text) e.name refl name_end)
    ∙ ap (λ (l : List ℕ). fields_behind text 0 ends ++ (name, l) ∷ []) value_is
  where
    whole : new ≡ text ++ (name ++ value)
    whole = new_is ∙ append_assoc text name value

    value_is : slice_range (text ++ (name ++ value)) e.name e.value ≡ value
    value_is =
        ap (λ (l : List ℕ). slice_range l e.name e.value) (sym (append_assoc text name value) ∙ ap (λ (l : List ℕ). (text ++ name) ++ l) (sym (append-nil value)))
        ∙ part_comes (text ++ name) value [] e.name e.value (name_end ∙ sym (length-append text name)) (value_end ∙ ap (λ n. n + length value) (sym (length-append text name)))

-- the ends go on rising
ends_more : (len more from : ℕ) (ends : List FieldEnds) (e : FieldEnds) → are_ends len from ends ≡ true → len ≤ e.name → e.name ≤ e.value → e.value ≡ more
    → are_ends more from (ends ++ e ∷ []) ≡ true
ends_more len more from [] e is name value last =
    let same = from_here len from is in
    and_from (nat_le from e.name) _ (grind (arith, nat_tests, same, name)) (and_from (nat_le e.name e.value) _ (grind (arith, nat_tests, value)) (grind (arith, nat_tests, last)))
ends_more len more from (x ∷ xs) e is name value last =
    let r = rises len from x xs is in
    and_from (nat_le from x.name) _ (grind (arith, nat_tests, r.name)) (and_from (nat_le x.name x.value) _ (grind (arith, nat_tests, r.value)) (ends_more len more x.value xs e r.rest name value last))

-- and the fields are names and texts
pub fields_stay : (text name value new : List ℕ) (ends more : List FieldEnds) (e : FieldEnds) → AreFields text 0 ends → IsTrue (is_name name) → IsUtf8 value
    → new ≡ (text ++ name) ++ value → more ≡ ends ++ e ∷ [] → e.name ≡ length text + length name → e.value ≡ length text + length name + length value
    → AreFields new 0 more
fields_stay text name value new ends more e were named utf8 new_is more_is name_end value_end = record {
  rising = ap (λ (l : List FieldEnds). are_ends (length new) 0 l) more_is
      ∙ ends_more (length text) (length new) 0 ends e were.rising (omega (arith, name_end)) (omega (arith, name_end, value_end)) (value_end ∙ sym long);
  texts = ap (λ (l : List (List ℕ × List ℕ)). list_all is_text_field l) (field_added text name value new ends more e were.rising new_is more_is name_end value_end)
      ∙ list_all-append is_text_field (fields_behind text 0 ends) ((name, value) ∷ [])
      ∙ and_from _ _ were.texts (and_from _ _ (and_from (is_name name) (is_utf8 value) named (is_utf8-from_IsUtf8 value utf8)) refl);
}
  where
    long : length new ≡ length text + length name + length value
    long = ap length new_is ∙ length-append (text ++ name) value ∙ ap (λ n. n + length value) (length-append text name)

-- none is left
pub none_left : (text : List ℕ) (from : ℕ) (ends : List FieldEnds) → ends ≡ [] → fields_behind text from ends ≡ []
none_left text from ends is = ap (λ (l : List FieldEnds). fields_behind text from l) is

-- the first of them, and the others
pub record FirstLeft (text : List ℕ) (from : ℕ) (ends : List FieldEnds) (e : FieldEnds) (es : List FieldEnds) : Type 0 where
  pub name_end : from ≤ e.name
  pub value_end : e.name ≤ e.value
  pub within : e.value ≤ length text
  pub named : IsTrue (is_name (slice_range text from e.name))
  pub name_utf8 : IsUtf8 (slice_range text from e.name)
  pub value_utf8 : IsUtf8 (slice_range text e.name e.value)
  pub rest : AreFields text e.value es
  pub whole : fields_behind text from ends ≡ (slice_range text from e.name, slice_range text e.name e.value) ∷ fields_behind text e.value es

pub first_left : (text : List ℕ) (from : ℕ) (ends : List FieldEnds) (e : FieldEnds) (es : List FieldEnds) → AreFields text from ends → ends ≡ e ∷ es → FirstLeft text from ends e es
first_left text from ends e es are is =
    let r = rises (length text) from e es (ap (λ (l : List FieldEnds). are_ends (length text) from l) (sym is) ∙ are.rising) in
    let all = and_parts (is_text_field (slice_range text from e.name, slice_range text e.name e.value)) (list_all is_text_field (fields_behind text e.value es))
    (ap (λ (l : List FieldEnds). list_all is_text_field (fields_behind text from l)) (sym is) ∙ are.texts) in
    let both = and_parts (is_name (slice_range text from e.name)) (is_utf8 (slice_range text e.name e.value)) all.0 in
    record {
      name_end = r.name;
      value_end = r.value;
      within = within (length text) e.value es r.rest;
      named = both.0;
      name_utf8 = name_is_utf8 (slice_range text from e.name) both.0;
      value_utf8 = IsUtf8-from_is_utf8 (slice_range text e.name e.value) both.1;
      rest = record { rising = r.rest; texts = all.1 };
      whole = ap (λ (l : List FieldEnds). fields_behind text from l) is;
    }
