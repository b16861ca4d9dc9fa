-- The texts in a JSON value are UTF-8 where the text of the value is.
use Rattle.std.proofs.Common.{◌≡◌, ℕ, ◌<◌, ◌≤◌, ◌==◌, ◌&&◌, zero, suc, Bool, true, false, List, [], ◌∷◌, ◌++◌, length, refl, sym, subst, arith, inl, inr, Option, Some, None}
use Rattle.std.specs.List.{AllByRecursion, starts_with}
use Rattle.std.specs.Ordering.{match_ordering, nat_cmp}
use Rattle.std.specs.Cmp.Lexicographic.{slice_cmp}
use Rattle.std.specs.declared.cmp.Ordering.{Ordering}
use Rattle.std.specs.declared.cmp.Ordering.TheVariants as order
use Rattle.std.specs.Prelude.{cond, drop, nat_eq, option_and_then, option_map, take, ◌-◌}
use Rattle.std.specs.Str.{IsUtf8}
use Rattle.std.proofs.lemmas.Bool.{cases_Bool, cond_both}
use lib.Utf8.{encode}
use Rattle.json.specs.Json as json
use Rattle.json.specs.Json.{Parse, after_end_array, items, items_step, members, members_step, parse_map, read_key, value, value_with}
use Rattle.json.specs.Lex.{Class, Lexeme, Mode, Place, after_comma, after_key, after_value, backslash, begins_colon, between, class, colon, comma, fresh, if_allowed, in_escape, in_string, in_word, lex, lex_byte, may_begin, may_close, operator, operator_lexeme, other, place_token, punctuate, quote, space, string_token, token, tokens}
use Rattle.json.specs.Text.{content, plain}
use Rattle.json.specs.Token.{Token}
use Rattle.json.specs.Ascii as ascii
use Rattle.json.specs.Word.{after_number, ends_word, head, literal, number_before, word}
use Rattle.serde_json.specs.Data.{Data, Items, Members, array, boolean, item, member, no_items, no_members, null, number, object, put, string}
use Rattle.serde_json.specs.Read.{max_depth, number_of, of_items, of_json, of_members, read}
use Rattle.router_laws_read.proofs.JsonContents.{content_utf8}
use Rattle.router_laws_read.specs.Texts.{EachHasTexts, HasTexts, HaveTexts}
use Rattle.router_laws_spelled.proofs.Characters.{all_high, apart, by_characters}

some_same : {A : Type 0} {x y : A} → Some x ≡ Some y → x ≡ y
some_same same = cc

-- lexemes

-- the text of a token that is a string
abbrev TokenText : Token → Type 0
TokenText (Token.string s) = IsUtf8 s
TokenText _ = Unit {0}

abbrev LexemeText : Lexeme → Type 0
LexemeText (token t) = TokenText t
LexemeText comma = Unit {0}
LexemeText colon = Unit {0}

abbrev LexemesText : List Lexeme → Type 0
LexemesText ls = AllByRecursion LexemeText ls

literal_text : (b : Bool) (t : Token) → TokenText t → TokenText (cond b t Token.bad)
literal_text true t own = own
literal_text false t own = tt

literal_is : (name : List ℕ) (t : Token) (xs : List ℕ) → TokenText t → TokenText (literal name t xs)
literal_is name t xs own = literal_text (starts_with nat_eq xs name && ends_word (drop (length name) xs)) t own

number_text : (xs : List ℕ) (o : Option (List ℕ)) → TokenText (number_before xs o)
number_text xs None = tt
number_text xs (Some rest) = literal_text (ends_word rest) (Token.number (take (length xs - length rest) xs)) tt

word_text : (xs : List ℕ) → TokenText (word xs)
unfolding word
word_text xs =
    let third : Token = cond (head xs == ascii.lower_n) (literal ascii.null_text Token.null xs) (number_before xs (after_number xs)) in
    let second : Token = cond (head xs == ascii.lower_f) (literal ascii.false_text (Token.boolean false) xs) third in
    cond_both (head xs == ascii.lower_t) (literal ascii.true_text (Token.boolean true) xs) second TokenText (λ _. literal_is ascii.true_text (Token.boolean true) xs tt)
    (λ _. cond_both (head xs == ascii.lower_f) (literal ascii.false_text (Token.boolean false) xs) third TokenText (λ _. literal_is ascii.false_text (Token.boolean false) xs tt)
    (λ _. cond_both (head xs == ascii.lower_n) (literal ascii.null_text Token.null xs) (number_before xs (after_number xs)) TokenText (λ _. literal_is ascii.null_text Token.null xs tt) (λ _. number_text xs (after_number xs))))

operator_text : (x : ℕ) → LexemeText (operator_lexeme x)
operator_text x = elim (cases_Bool (x == 123)) [
  | inl a ↦ rw a tt
  | inr na ↦ (elim (cases_Bool (x == 125)) [
    | inl b ↦ rw (na, b) tt
    | inr nb ↦ (elim (cases_Bool (x == 91)) [
      | inl c ↦ rw (na, nb, c) tt
      | inr nc ↦ (elim (cases_Bool (x == 93)) [
        | inl d ↦ rw (na, nb, nc, d) tt
        | inr nd ↦ (elim (cases_Bool (x == 44)) [
          | inl e ↦ rw (na, nb, nc, nd, e) tt
          | inr ne ↦ rw (na, nb, nc, nd, ne) tt
        ])
      ])
    ])
  ])
]

string_text : (xs : List ℕ) → IsUtf8 xs → (o : Option (List ℕ)) → content plain xs ≡ o → TokenText (string_token o)
string_text xs u None is = tt
string_text xs u (Some s) is = content_utf8 xs s u is

-- a byte that isn't inside a character
byte_text : (m : Mode) (c : Class) (x : ℕ) (xs : List ℕ) (k : Mode → List Lexeme) → IsUtf8 xs → ((next : Mode) → LexemesText (k next)) → LexemesText (lex_byte m c x xs k)
byte_text between quote x xs k u each = (string_text xs u (content plain xs) refl, each in_string)
byte_text between backslash x xs k u each = (tt, each in_word)
byte_text between operator x xs k u each = (operator_text x, each between)
byte_text between space x xs k u each = each between
byte_text between other x xs k u each = (word_text (x ∷ xs), each in_word)
byte_text in_word quote x xs k u each = each in_word
byte_text in_word backslash x xs k u each = each in_word
byte_text in_word operator x xs k u each = (operator_text x, each between)
byte_text in_word space x xs k u each = each between
byte_text in_word other x xs k u each = each in_word
byte_text in_string quote x xs k u each = each between
byte_text in_string backslash x xs k u each = each in_escape
byte_text in_string operator x xs k u each = each in_string
byte_text in_string space x xs k u each = each in_string
byte_text in_string other x xs k u each = each in_string
byte_text in_escape c x xs k u each = each in_string

-- a byte from 128 on
other_text : (m : Mode) (x : ℕ) (xs : List ℕ) (k : Mode → List Lexeme) → ((next : Mode) → LexemesText (k next)) → LexemesText (lex_byte m other x xs k)
other_text between x xs k each = (word_text (x ∷ xs), each in_word)
other_text in_word x xs k each = each in_word
other_text in_string x xs k each = each in_string
other_text in_escape x xs k each = each in_string

high_other : (x : ℕ) → 128 ≤ x → class x ≡ other
high_other x high =
    rw (
      apart x 34 high (omega arith),
      apart x 92 high (omega arith),
      apart x 123 high (omega arith),
      apart x 125 high (omega arith),
      apart x 91 high (omega arith),
      apart x 93 high (omega arith),
      apart x 58 high (omega arith),
      apart x 44 high (omega arith),
      apart x 32 high (omega arith),
      apart x 9 high (omega arith),
      apart x 10 high (omega arith),
      apart x 13 high (omega arith),
    ) refl

abbrev LexText : List ℕ → Type 0
LexText xs = (m : Mode) → LexemesText (lex m xs)

lex_low : (b : ℕ) (bs : List ℕ) → b < 128 → IsUtf8 bs → LexText bs → LexText (b ∷ bs)
unfolding lex
lex_low b bs small u each m = byte_text m (class b) b bs (λ next. lex next bs) u each

lex_run : (hs bs : List ℕ) → AllByRecursion (λ h. 128 ≤ h) hs → LexText bs → LexText (hs ++ bs)
unfolding lex
lex_run [] bs high each m = each m
lex_run (h ∷ hs) bs high each m = subst (λ c. LexemesText (lex_byte m c h (hs ++ bs) (λ next. lex next (hs ++ bs)))) (sym (high_other h high.0)) (other_text m h (hs ++ bs) (λ next. lex next (hs ++ bs)) (lex_run hs bs high.1 each))

lex_none : LexText []
unfolding lex
lex_none m = tt

lex_text : (xs : List ℕ) → IsUtf8 xs → LexText xs
lex_text xs u = by_characters LexText lex_none lex_low (λ c bs valid large more each. lex_run (encode c) bs (all_high c large) each) xs u

-- tokens

abbrev TokensText : List Token → Type 0
TokensText ts = AllByRecursion TokenText ts

allowed : (b : Bool) (t : Token) (k : Place → List Token) (next : Place) → TokenText t → ((p : Place) → TokensText (k p)) → TokensText (if_allowed b t k next)
allowed true t k next own each = (own, each next)
allowed false t k next own each = (tt, tt)

placed : (p : Place) (t : Token) (b : Bool) (k : Place → List Token) → TokenText t → ((next : Place) → TokensText (k next)) → TokensText (place_token p t b k)
placed p Token.begin_object b k own each = allowed (may_begin p) Token.begin_object k fresh tt each
placed p Token.end_object b k own each = allowed (may_close p) Token.end_object k after_value tt each
placed p Token.begin_array b k own each = allowed (may_begin p) Token.begin_array k fresh tt each
placed p Token.end_array b k own each = allowed (may_close p) Token.end_array k after_value tt each
placed p (Token.key s) b k own each = (tt, tt)
placed p (Token.string s) true k own each = allowed (may_begin p) (Token.key s) k after_key tt each
placed p (Token.string s) false k own each = allowed (may_begin p) (Token.string s) k after_value own each
placed p (Token.number s) b k own each = allowed (may_begin p) (Token.number s) k after_value tt each
placed p (Token.boolean v) b k own each = allowed (may_begin p) (Token.boolean v) k after_value tt each
placed p Token.null b k own each = allowed (may_begin p) Token.null k after_value tt each
placed p Token.bad b k own each = (tt, tt)

punctuated : (p : Place) (ls : List Lexeme) → LexemesText ls → TokensText (punctuate p ls)
unfolding punctuate
punctuated fresh [] all = tt
punctuated after_value [] all = tt
punctuated after_comma [] all = (tt, tt)
punctuated after_key [] all = (tt, tt)
punctuated fresh (token t ∷ ls) all = placed fresh t (begins_colon ls) (λ next. punctuate next ls) all.0 (λ next. punctuated next ls all.1)
punctuated after_value (token t ∷ ls) all = placed after_value t (begins_colon ls) (λ next. punctuate next ls) all.0 (λ next. punctuated next ls all.1)
punctuated after_comma (token t ∷ ls) all = placed after_comma t (begins_colon ls) (λ next. punctuate next ls) all.0 (λ next. punctuated next ls all.1)
punctuated after_key (token t ∷ ls) all = placed after_key t (begins_colon ls) (λ next. punctuate next ls) all.0 (λ next. punctuated next ls all.1)
punctuated fresh (comma ∷ ls) all = (tt, tt)
punctuated after_value (comma ∷ ls) all = punctuated after_comma ls all.1
punctuated after_comma (comma ∷ ls) all = (tt, tt)
punctuated after_key (comma ∷ ls) all = (tt, tt)
punctuated fresh (colon ∷ ls) all = (tt, tt)
punctuated after_value (colon ∷ ls) all = (tt, tt)
punctuated after_comma (colon ∷ ls) all = (tt, tt)
punctuated after_key (colon ∷ ls) all = punctuated fresh ls all.1

-- values

abbrev mutual
  JsonText : json.Json → Type 0
  JsonText json.null = Unit {0}
  JsonText (json.boolean b) = Unit {0}
  JsonText (json.number s) = Unit {0}
  JsonText (json.string s) = IsUtf8 s
  JsonText (json.array js) = ItemsText js
  JsonText (json.object ms) = MembersText ms

  ItemsText : json.Items → Type 0
  ItemsText json.no_items = Unit {0}
  ItemsText (json.item j js) = JsonText j × ItemsText js

  MembersText : json.Members → Type 0
  MembersText json.no_members = Unit {0}
  MembersText (json.member k j ms) = JsonText j × MembersText ms

-- what a parser gives of tokens whose texts are UTF-8
abbrev Gives : {A : Type 0} → (A → Type 0) → Option (A × List Token) → Type 0
Gives P None = Unit {0}
Gives P (Some p) = P p.0 × TokensText p.1

abbrev Parses : {A : Type 0} → (A → Type 0) → Parse A → Type 0
Parses P f = (ts : List Token) → TokensText ts → Gives P (f ts)

mapped : {A B : Type 0} (P : A → Type 0) (Q : B → Type 0) (f : A → B) (r : Option (A × List Token)) → ((x : A) → P x → Q (f x)) → Gives P r → Gives Q (parse_map f r)
mapped P Q f None each own = tt
mapped P Q f (Some p) each own = (each p.0 own.0, own.1)

chained : {A B : Type 0} (P : A → Type 0) (Q : B → Type 0) (r : Option (A × List Token)) (g : A × List Token → Option (B × List Token)) → Gives P r → ((p : A × List Token) → P p.0 → TokensText p.1 → Gives Q (g p)) → Gives Q (option_and_then g r)
chained P Q None g own each = tt
chained P Q (Some p) g own each = each p own.0 own.1

ended : (ts : List Token) → TokensText ts → (rest : List Token) → after_end_array ts ≡ Some rest → TokensText rest
ended [] all rest is = absurd (cc)
ended (Token.begin_object ∷ ts) all rest is = absurd (cc)
ended (Token.end_object ∷ ts) all rest is = absurd (cc)
ended (Token.begin_array ∷ ts) all rest is = absurd (cc)
ended (Token.end_array ∷ ts) all rest is = subst TokensText (some_same is) all.1
ended (Token.key s ∷ ts) all rest is = absurd (cc)
ended (Token.string s ∷ ts) all rest is = absurd (cc)
ended (Token.number s ∷ ts) all rest is = absurd (cc)
ended (Token.boolean b ∷ ts) all rest is = absurd (cc)
ended (Token.null ∷ ts) all rest is = absurd (cc)
ended (Token.bad ∷ ts) all rest is = absurd (cc)

keyed : Parses (λ (k : Option (List ℕ)). Unit {0}) read_key
keyed [] all = tt
keyed (Token.begin_object ∷ ts) all = tt
keyed (Token.end_object ∷ ts) all = (tt, all.1)
keyed (Token.begin_array ∷ ts) all = tt
keyed (Token.end_array ∷ ts) all = tt
keyed (Token.key s ∷ ts) all = (tt, all.1)
keyed (Token.string s ∷ ts) all = tt
keyed (Token.number s ∷ ts) all = tt
keyed (Token.boolean b ∷ ts) all = tt
keyed (Token.null ∷ ts) all = tt
keyed (Token.bad ∷ ts) all = tt

items_text : (f : Parse json.Json) → Parses JsonText f → (n : ℕ) → Parses ItemsText (items f n)
unfolding items
items_text f each zero ts all = tt
items_text f each (suc n) ts all = by (items_text f each n) (after_end_array ts) refl
  where
    by : Parses ItemsText (items f n) → (o : Option (List Token)) → after_end_array ts ≡ o → Gives ItemsText (items_step f (items f n) ts o)
    by again (Some rest) end = (tt, ended ts all rest end)
    by again None end = chained JsonText ItemsText (f ts) _ (each ts all) (λ p own more. mapped ItemsText ItemsText (json.item p.0) (items f n p.1) (λ js others. (own, others)) (again p.1 more))

members_text : (f : Parse json.Json) → Parses JsonText f → (n : ℕ) → Parses MembersText (members f n)
unfolding members
members_text f each zero ts all = tt
members_text f each (suc n) ts all = chained (λ (k : Option (List ℕ)). Unit {0}) MembersText (read_key ts) _ (keyed ts all) (λ p own more. by (members_text f each n) p.0 p.1 more)
  where
    by : Parses MembersText (members f n) → (k : Option (List ℕ)) (us : List Token) → TokensText us → Gives MembersText (members_step f (members f n) k us)
    by again None us more = (tt, more)
    by again (Some k) us more = chained JsonText MembersText (f us) _ (each us more) (λ p own rest. mapped MembersText MembersText (json.member k p.0) (members f n p.1) (λ ms others. (own, others)) (again p.1 rest))

with_text : (a : Parse json.Items) (o : Parse json.Members) → Parses ItemsText a → Parses MembersText o → Parses JsonText (value_with a o)
with_text a o one two [] all = tt
with_text a o one two (Token.begin_object ∷ ts) all = mapped MembersText JsonText json.object (o ts) (λ ms own. own) (two ts all.1)
with_text a o one two (Token.end_object ∷ ts) all = tt
with_text a o one two (Token.begin_array ∷ ts) all = mapped ItemsText JsonText json.array (a ts) (λ js own. own) (one ts all.1)
with_text a o one two (Token.end_array ∷ ts) all = tt
with_text a o one two (Token.key s ∷ ts) all = tt
with_text a o one two (Token.string s ∷ ts) all = (all.0, all.1)
with_text a o one two (Token.number s ∷ ts) all = (tt, all.1)
with_text a o one two (Token.boolean b ∷ ts) all = (tt, all.1)
with_text a o one two (Token.null ∷ ts) all = (tt, all.1)
with_text a o one two (Token.bad ∷ ts) all = tt

value_text : (depth : ℕ) → Parses JsonText (value depth)
unfolding value
value_text zero = with_text (λ ts. None) (λ ts. None) (λ ts all. tt) (λ ts all. tt)
value_text (suc depth) =
    with_text (λ ts. items (value depth) (length ts) ts) (λ ts. members (value depth) (length ts) ts) (λ ts all. items_text (value depth) (value_text depth) (length ts) ts all) (λ ts all. members_text (value depth) (value_text depth) (length ts) ts all)

-- data

split : {A B : Type 0} (o : Option A) (f : A → Option B) (y : B) → option_and_then f o ≡ Some y → (x : A) × ((o ≡ Some x) × (f x ≡ Some y))
split None f y e = cc
split (Some x) f y e = (x, (refl, e))

from_map : {A B : Type 0} (o : Option A) (f : A → B) (y : B) → option_map f o ≡ Some y → (x : A) × ((o ≡ Some x) × (f x ≡ y))
from_map None f y e = cc
from_map (Some x) f y e = (x, (refl, cc))

put_by : (o : Ordering) (k l : List ℕ) (d e : Data) (ms : Members) → HasTexts d → HasTexts e × EachHasTexts ms → EachHasTexts (put k d ms)
    → EachHasTexts (match_ordering o (member k d (member l e ms)) (member l d ms) (member l e (put k d ms)))
put_by order.Less k l d e ms mine all rest = (mine, all)
put_by order.Equal k l d e ms mine all rest = (mine, all.1)
put_by order.Greater k l d e ms mine all rest = (all.0, rest)

put_texts : (k : List ℕ) (d : Data) (ms : Members) → HasTexts d → EachHasTexts ms → EachHasTexts (put k d ms)
put_texts k d no_members mine all = (mine, tt)
put_texts k d (member l e ms) mine all = put_by (slice_cmp nat_cmp k l) k l d e ms mine all (put_texts k d ms mine all.1)

mutual
  data_texts : (j : json.Json) (d : Data) → JsonText j → of_json j ≡ Some d → HasTexts d
  data_texts json.null d own e = let same : null ≡ d = cc in subst HasTexts same tt
  data_texts (json.boolean b) d own e = let same : boolean b ≡ d = cc in subst HasTexts same tt
  data_texts (json.number s) d own e = let found = from_map (number_of s) number d e in subst HasTexts found.1.1 tt
  data_texts (json.string s) d own e = let same : string s ≡ d = cc in subst HasTexts same own
  data_texts (json.array js) d own e = let found = from_map (of_items js) array d e in subst HasTexts found.1.1 (items_texts js found.0 own found.1.0)
  data_texts (json.object ms) d own e = let found = from_map (of_members ms no_members) object d e in subst HasTexts found.1.1 (members_texts ms no_members found.0 own tt found.1.0)

  items_texts : (js : json.Items) (ds : Items) → ItemsText js → of_items js ≡ Some ds → HaveTexts ds
  items_texts json.no_items ds own e = let same : no_items ≡ ds = cc in subst HaveTexts same tt
  items_texts (json.item j js) ds own e =
      let first = split (of_json j) (λ d. option_map (item d) (of_items js)) ds e in
      let rest = from_map (of_items js) (item first.0) ds first.1.1 in
      subst HaveTexts rest.1.1 (data_texts j first.0 own.0 first.1.0, items_texts js rest.0 own.1 rest.1.0)

  members_texts : (ms : json.Members) (found r : Members) → MembersText ms → EachHasTexts found → of_members ms found ≡ Some r → EachHasTexts r
  members_texts json.no_members found r own all e = let same : found ≡ r = cc in subst EachHasTexts same all
  members_texts (json.member k j ms) found r own all e =
      let first = split (of_json j) (λ d. of_members ms (put k d found)) r e in
      members_texts ms (put k first.0 found) r own.1 (put_texts k first.0 found (data_texts j first.0 own.0 first.1.0) all) first.1.1

-- a text that is read has texts in UTF-8
pub read_texts : (text : List ℕ) (d : Data) → IsUtf8 text → read text ≡ Some d → HasTexts d
read_texts text d u e =
    let found = split (option_and_then (λ p. json.if_last p.0 p.1) (value max_depth (tokens text))) of_json d e in
    data_texts found.0 d (last (value max_depth (tokens text)) (value_text max_depth (tokens text) (punctuated fresh (lex between text) (lex_text text u between))) found.0 found.1.0) found.1.1
  where
    last_text : (j : json.Json) (ts : List Token) (found : json.Json) → JsonText j → json.if_last j ts ≡ Some found → JsonText found
    last_text j [] found own is = subst JsonText (some_same is) own
    last_text j (t ∷ ts) found own is = absurd (cc)

    last : (o : Option (json.Json × List Token)) → Gives JsonText o → (j : json.Json) → option_and_then (λ p. json.if_last p.0 p.1) o ≡ Some j → JsonText j
    last None own j is = absurd (cc)
    last (Some p) own j is = last_text p.0 p.1 j own.0 is
