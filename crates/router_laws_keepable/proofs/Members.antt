-- A JSON value has no more members than its text has bytes.
use Rattle.std.proofs.Common.{◌≡◌, ℕ, ◌+◌, ◌≤◌, ◌==◌, zero, suc, Bool, true, false, List, [], ◌∷◌, length, refl, subst, arith, inl, inr, Option, Some, None}
use Rattle.std.specs.Ordering.{match_ordering, nat_cmp}
use Rattle.std.specs.Cmp.Lexicographic.{slice_cmp}
use Rattle.std.specs.declared.cmp.Ordering.{Ordering}
use Rattle.std.specs.declared.cmp.Ordering.TheVariants as order
use Rattle.std.specs.Prelude.{option_and_then, option_map}
use Rattle.json.specs.Json as json
use Rattle.json.specs.Json.{Parse, after_end_array, items, items_step, members, members_step, parse_map, read_key, value, value_with}
use Rattle.json.specs.Lex.{Class, Lexeme, Mode, Place, after_comma, after_key, after_value, backslash, begins_colon, between, class, colon, comma, fresh, if_allowed, in_escape, in_string, in_word, lex, lex_byte, may_begin, may_close, operator, other, place_token, punctuate, quote, space, token, tokens}
use Rattle.json.specs.Token.{Token}
use Rattle.serde_json.specs.Data.{Data, Items, Members, array, boolean, item, member, no_items, no_members, null, number, object, put, string}
use Rattle.serde_json.specs.Read.{max_depth, number_of, of_items, of_json, of_members, read}

some_same : {A : Type 0} {x y : A} → Some x ≡ Some y → x ≡ y
some_same same = cc

-- lexemes

byte_few : (m : Mode) (c : Class) (x n : ℕ) (xs : List ℕ) (k : Mode → List Lexeme) → ((next : Mode) → length (k next) ≤ n) → length (lex_byte m c x xs k) ≤ suc n
byte_few between quote x n xs k each = omega (arith, each in_string)
byte_few between backslash x n xs k each = omega (arith, each in_word)
byte_few between operator x n xs k each = omega (arith, each between)
byte_few between space x n xs k each = omega (arith, each between)
byte_few between other x n xs k each = omega (arith, each in_word)
byte_few in_word quote x n xs k each = omega (arith, each in_word)
byte_few in_word backslash x n xs k each = omega (arith, each in_word)
byte_few in_word operator x n xs k each = omega (arith, each between)
byte_few in_word space x n xs k each = omega (arith, each between)
byte_few in_word other x n xs k each = omega (arith, each in_word)
byte_few in_string quote x n xs k each = omega (arith, each between)
byte_few in_string backslash x n xs k each = omega (arith, each in_escape)
byte_few in_string operator x n xs k each = omega (arith, each in_string)
byte_few in_string space x n xs k each = omega (arith, each in_string)
byte_few in_string other x n xs k each = omega (arith, each in_string)
byte_few in_escape c x n xs k each = omega (arith, each in_string)

lex_few : (xs : List ℕ) (m : Mode) → length (lex m xs) ≤ length xs
unfolding lex
lex_few [] m = omega arith
lex_few (b ∷ bs) m = byte_few m (class b) b (length bs) bs (λ next. lex next bs) (λ next. lex_few bs next)

-- tokens

allowed : (b : Bool) (t : Token) (k : Place → List Token) (next : Place) (n : ℕ) → ((p : Place) → length (k p) ≤ suc n) → length (if_allowed b t k next) ≤ suc (suc n)
allowed true t k next n each = omega (arith, each next)
allowed false t k next n each = omega arith

placed : (p : Place) (t : Token) (b : Bool) (k : Place → List Token) (n : ℕ) → ((next : Place) → length (k next) ≤ suc n) → length (place_token p t b k) ≤ suc (suc n)
placed p Token.begin_object b k n each = allowed (may_begin p) Token.begin_object k fresh n each
placed p Token.end_object b k n each = allowed (may_close p) Token.end_object k after_value n each
placed p Token.begin_array b k n each = allowed (may_begin p) Token.begin_array k fresh n each
placed p Token.end_array b k n each = allowed (may_close p) Token.end_array k after_value n each
placed p (Token.key s) b k n each = omega arith
placed p (Token.string s) true k n each = allowed (may_begin p) (Token.key s) k after_key n each
placed p (Token.string s) false k n each = allowed (may_begin p) (Token.string s) k after_value n each
placed p (Token.number s) b k n each = allowed (may_begin p) (Token.number s) k after_value n each
placed p (Token.boolean v) b k n each = allowed (may_begin p) (Token.boolean v) k after_value n each
placed p Token.null b k n each = allowed (may_begin p) Token.null k after_value n each
placed p Token.bad b k n each = omega arith

longer : (m n : ℕ) → m ≤ suc n → m ≤ suc (suc n)
longer m n less = omega (arith, less)

punctuated : (p : Place) (ls : List Lexeme) → length (punctuate p ls) ≤ suc (length ls)
unfolding punctuate
punctuated fresh [] = omega arith
punctuated after_value [] = omega arith
punctuated after_comma [] = omega arith
punctuated after_key [] = omega arith
punctuated fresh (token t ∷ ls) = placed fresh t (begins_colon ls) (λ next. punctuate next ls) (length ls) (λ next. punctuated next ls)
punctuated after_value (token t ∷ ls) = placed after_value t (begins_colon ls) (λ next. punctuate next ls) (length ls) (λ next. punctuated next ls)
punctuated after_comma (token t ∷ ls) = placed after_comma t (begins_colon ls) (λ next. punctuate next ls) (length ls) (λ next. punctuated next ls)
punctuated after_key (token t ∷ ls) = placed after_key t (begins_colon ls) (λ next. punctuate next ls) (length ls) (λ next. punctuated next ls)
punctuated fresh (comma ∷ ls) = omega arith
punctuated after_value (comma ∷ ls) = longer (length (punctuate after_comma ls)) (length ls) (punctuated after_comma ls)
punctuated after_comma (comma ∷ ls) = omega arith
punctuated after_key (comma ∷ ls) = omega arith
punctuated fresh (colon ∷ ls) = omega arith
punctuated after_value (colon ∷ ls) = omega arith
punctuated after_comma (colon ∷ ls) = omega arith
punctuated after_key (colon ∷ ls) = longer (length (punctuate fresh ls)) (length ls) (punctuated fresh ls)

tokens_few : (text : List ℕ) → length (tokens text) ≤ suc (length text)
tokens_few text = omega (arith, punctuated fresh (lex between text), lex_few text between)

-- values

-- how many members a value has, with those of the values in it
abbrev mutual
  json_size : json.Json → ℕ
  json_size json.null = 0
  json_size (json.boolean b) = 0
  json_size (json.number s) = 0
  json_size (json.string s) = 0
  json_size (json.array js) = items_size js
  json_size (json.object ms) = members_size ms

  items_size : json.Items → ℕ
  items_size json.no_items = 0
  items_size (json.item j js) = json_size j + items_size js

  members_size : json.Members → ℕ
  members_size json.no_members = 0
  members_size (json.member k j ms) = suc (json_size j + members_size ms)

abbrev key_size : Option (List ℕ) → ℕ
key_size None = 0
key_size (Some k) = 1

-- what a parser gives of so many tokens has, with the tokens that it leaves, no more than they are
abbrev Within : {A : Type 0} → (A → ℕ) → ℕ → Option (A × List Token) → Type 0
Within size n None = Unit {0}
Within size n (Some p) = size p.0 + length p.1 ≤ n

abbrev Parses : {A : Type 0} → (A → ℕ) → Parse A → Type 0
Parses size f = (ts : List Token) → Within size (length ts) (f ts)

added : {A B : Type 0} (P : A → ℕ) (Q : B → ℕ) (f : A → B) (a m n : ℕ) (r : Option (A × List Token)) → a + m ≤ n → ((x : A) → Q (f x) ≤ a + P x) → Within P m r → Within Q n (parse_map f r)
added P Q f a m n None less each own = tt
added P Q f a m n (Some p) less each own = omega (arith, less, each p.0, own)

chained : {A B : Type 0} (P : A → ℕ) (Q : B → ℕ) (n m : ℕ) (r : Option (A × List Token)) (g : A × List Token → Option (B × List Token)) → Within P n r → ((p : A × List Token) → P p.0 + length p.1 ≤ n → Within Q m (g p)) → Within Q m (option_and_then g r)
chained P Q n m None g own each = tt
chained P Q n m (Some p) g own each = each p own

ended : (ts rest : List Token) → after_end_array ts ≡ Some rest → length rest ≤ length ts
ended [] rest is = absurd (cc)
ended (Token.begin_object ∷ ts) rest is = absurd (cc)
ended (Token.end_object ∷ ts) rest is = absurd (cc)
ended (Token.begin_array ∷ ts) rest is = absurd (cc)
ended (Token.end_array ∷ ts) rest is = subst (λ us. length us ≤ suc (length ts)) (some_same is) (omega arith)
ended (Token.key s ∷ ts) rest is = absurd (cc)
ended (Token.string s ∷ ts) rest is = absurd (cc)
ended (Token.number s ∷ ts) rest is = absurd (cc)
ended (Token.boolean b ∷ ts) rest is = absurd (cc)
ended (Token.null ∷ ts) rest is = absurd (cc)
ended (Token.bad ∷ ts) rest is = absurd (cc)

keyed : Parses key_size read_key
keyed [] = tt
keyed (Token.begin_object ∷ ts) = tt
keyed (Token.end_object ∷ ts) = omega arith
keyed (Token.begin_array ∷ ts) = tt
keyed (Token.end_array ∷ ts) = tt
keyed (Token.key s ∷ ts) = omega arith
keyed (Token.string s ∷ ts) = tt
keyed (Token.number s ∷ ts) = tt
keyed (Token.boolean b ∷ ts) = tt
keyed (Token.null ∷ ts) = tt
keyed (Token.bad ∷ ts) = tt

items_few : (f : Parse json.Json) → Parses json_size f → (n : ℕ) → Parses items_size (items f n)
unfolding items
items_few f each zero ts = tt
items_few f each (suc n) ts = by (items_few f each n) (after_end_array ts) refl
  where
    by : Parses items_size (items f n) → (o : Option (List Token)) → after_end_array ts ≡ o → Within items_size (length ts) (items_step f (items f n) ts o)
    by again (Some rest) end = omega (arith, ended ts rest end)
    by again None end =
        chained json_size items_size (length ts) (length ts) (f ts) _ (each ts)
        (λ p less. added items_size items_size (json.item p.0) (json_size p.0) (length p.1) (length ts) (items f n p.1) less (λ js. omega arith) (again p.1))

members_few : (f : Parse json.Json) → Parses json_size f → (n : ℕ) → Parses members_size (members f n)
unfolding members
members_few f each zero ts = tt
members_few f each (suc n) ts = chained key_size members_size (length ts) (length ts) (read_key ts) _ (keyed ts) (λ p less. by (members_few f each n) p.0 p.1 less)
  where
    within : (a b c n : ℕ) → 1 + c ≤ n → a + b ≤ c → suc a + b ≤ n
    within a b c n one two = omega (arith, one, two)

    by : Parses members_size (members f n) → (k : Option (List ℕ)) (us : List Token) → key_size k + length us ≤ length ts → Within members_size (length ts) (members_step f (members f n) k us)
    by again None us less = less
    by again (Some k) us less =
        chained json_size members_size (length us) (length ts) (f us) _ (each us)
        (λ p more. added members_size members_size (json.member k p.0) (suc (json_size p.0)) (length p.1) (length ts) (members f n p.1) (within (json_size p.0) (length p.1) (length us) (length ts) less more) (λ ms. omega arith) (again p.1))

with_few : (a : Parse json.Items) (o : Parse json.Members) → Parses items_size a → Parses members_size o → Parses json_size (value_with a o)
with_few a o one two [] = tt
with_few a o one two (Token.begin_object ∷ ts) = added members_size json_size json.object 0 (length ts) (suc (length ts)) (o ts) (omega arith) (λ ms. omega arith) (two ts)
with_few a o one two (Token.end_object ∷ ts) = tt
with_few a o one two (Token.begin_array ∷ ts) = added items_size json_size json.array 0 (length ts) (suc (length ts)) (a ts) (omega arith) (λ js. omega arith) (one ts)
with_few a o one two (Token.end_array ∷ ts) = tt
with_few a o one two (Token.key s ∷ ts) = tt
with_few a o one two (Token.string s ∷ ts) = omega arith
with_few a o one two (Token.number s ∷ ts) = omega arith
with_few a o one two (Token.boolean b ∷ ts) = omega arith
with_few a o one two (Token.null ∷ ts) = omega arith
with_few a o one two (Token.bad ∷ ts) = tt

value_few : (depth : ℕ) → Parses json_size (value depth)
unfolding value
value_few zero = with_few (λ ts. None) (λ ts. None) (λ ts. tt) (λ ts. tt)
value_few (suc depth) =
    with_few (λ ts. items (value depth) (length ts) ts) (λ ts. members (value depth) (length ts) ts) (λ ts. items_few (value depth) (value_few depth) (length ts) ts) (λ ts. members_few (value depth) (value_few depth) (length ts) ts)

-- data

abbrev mutual
  pub data_size : Data → ℕ
  data_size null = 0
  data_size (boolean b) = 0
  data_size (number n) = 0
  data_size (string s) = 0
  data_size (array ds) = sum_items ds
  data_size (object ms) = sum_members ms

  pub sum_items : Items → ℕ
  sum_items no_items = 0
  sum_items (item d ds) = data_size d + sum_items ds

  pub sum_members : Members → ℕ
  sum_members no_members = 0
  sum_members (member k d ms) = suc (data_size d + sum_members ms)

split : {A B : Type 0} (o : Option A) (f : A → Option B) (y : B) → option_and_then f o ≡ Some y → (x : A) × ((o ≡ Some x) × (f x ≡ Some y))
split None f y e = cc
split (Some x) f y e = (x, (refl, e))

from_map : {A B : Type 0} (o : Option A) (f : A → B) (y : B) → option_map f o ≡ Some y → (x : A) × ((o ≡ Some x) × (f x ≡ y))
from_map None f y e = cc
from_map (Some x) f y e = (x, (refl, cc))

put_by : (o : Ordering) (k l : List ℕ) (d e : Data) (ms : Members) → sum_members (put k d ms) ≤ suc (data_size d + sum_members ms)
    → sum_members (match_ordering o (member k d (member l e ms)) (member l d ms) (member l e (put k d ms))) ≤ suc (data_size d + suc (data_size e + sum_members ms))
put_by order.Less k l d e ms rest = omega arith
put_by order.Equal k l d e ms rest = omega arith
put_by order.Greater k l d e ms rest = omega (arith, rest)

put_few : (k : List ℕ) (d : Data) (ms : Members) → sum_members (put k d ms) ≤ suc (data_size d + sum_members ms)
put_few k d no_members = omega arith
put_few k d (member l e ms) = put_by (slice_cmp nat_cmp k l) k l d e ms (put_few k d ms)

mutual
  data_few : (j : json.Json) (d : Data) → of_json j ≡ Some d → data_size d ≤ json_size j
  data_few json.null d e = let same : null ≡ d = cc in subst (λ x. data_size x ≤ 0) same (omega arith)
  data_few (json.boolean b) d e = let same : boolean b ≡ d = cc in subst (λ x. data_size x ≤ 0) same (omega arith)
  data_few (json.number s) d e = let found = from_map (number_of s) number d e in subst (λ x. data_size x ≤ 0) found.1.1 (omega arith)
  data_few (json.string s) d e = let same : string s ≡ d = cc in subst (λ x. data_size x ≤ 0) same (omega arith)
  data_few (json.array js) d e = let found = from_map (of_items js) array d e in subst (λ x. data_size x ≤ items_size js) found.1.1 (listed_few js found.0 found.1.0)
  data_few (json.object ms) d e = let found = from_map (of_members ms no_members) object d e in subst (λ x. data_size x ≤ members_size ms) found.1.1 (omega (arith, named_few ms no_members found.0 found.1.0))

  listed_few : (js : json.Items) (ds : Items) → of_items js ≡ Some ds → sum_items ds ≤ items_size js
  listed_few json.no_items ds e = let same : no_items ≡ ds = cc in subst (λ x. sum_items x ≤ 0) same (omega arith)
  listed_few (json.item j js) ds e =
      let first = split (of_json j) (λ d. option_map (item d) (of_items js)) ds e in
      let rest = from_map (of_items js) (item first.0) ds first.1.1 in
      subst (λ x. sum_items x ≤ json_size j + items_size js) rest.1.1 (omega (arith, data_few j first.0 first.1.0, listed_few js rest.0 rest.1.0))

  named_few : (ms : json.Members) (found r : Members) → of_members ms found ≡ Some r → sum_members r ≤ members_size ms + sum_members found
  named_few json.no_members found r e = let same : found ≡ r = cc in subst (λ x. sum_members x ≤ 0 + sum_members found) same (omega arith)
  named_few (json.member k j ms) found r e =
      let first = split (of_json j) (λ d. of_members ms (put k d found)) r e in
      omega (arith, data_few j first.0 first.1.0, put_few k first.0 found, named_few ms (put k first.0 found) r first.1.1)

-- a text that is read has at most one member more than bytes
pub read_few : (text : List ℕ) (d : Data) → read text ≡ Some d → data_size d ≤ suc (length text)
read_few text d e =
    let found = split (option_and_then (λ p. json.if_last p.0 p.1) (value max_depth (tokens text))) of_json d e in
    omega (arith, data_few found.0 d found.1.1, last (value max_depth (tokens text)) (length (tokens text)) (value_few max_depth (tokens text)) found.0 found.1.0, tokens_few text)
  where
    last_few : (j : json.Json) (ts : List Token) (n : ℕ) (found : json.Json) → json_size j + length ts ≤ n → json.if_last j ts ≡ Some found → json_size found ≤ n
    last_few j [] n found own is = subst (λ x. json_size x ≤ n) (some_same is) (omega (arith, own))
    last_few j (t ∷ ts) n found own is = absurd (cc)

    last : (o : Option (json.Json × List Token)) (n : ℕ) → Within json_size n o → (j : json.Json) → option_and_then (λ p. json.if_last p.0 p.1) o ≡ Some j → json_size j ≤ n
    last None n own j is = absurd (cc)
    last (Some p) n own j is = last_few p.0 p.1 n j own is
