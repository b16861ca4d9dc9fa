-- A signal has one spelling.
use Rattle.std.proofs.Common.{◌≡◌, ℕ, ◌<◌, ◌≤◌, ◌^◌, Bool, true, false, not, ◌&&◌, ◌==◌, if◌then◌else◌, nat_lt, nat_le, List, [], ◌∷◌, codes, decimal, length, map, find, refl, sym, ◌∙◌, ap, subst, arith, Option, Some, None, Ok, Err, inl, inr}
use Rattle.std.proofs.lemmas.Bool.{cases_Bool, and_parts, and_from}
use Rattle.std.proofs.lemmas.Bool.Decides.{nat_tests}
use Rattle.std.proofs.lemmas.Slice.Eq.{bytes_eq-Decides}
use Rattle.std.proofs.lemmas.List.Splits.{join_with_byte-slice_split}
use Rattle.std.proofs.lemmas.Fmt.{decimal_is_IsNumeral}
use Rattle.std.proofs.lemmas.Str.Parse.{digit_from_value}
use Rattle.std.specs.List.{list_all, list_any, join_with_byte}
use Rattle.std.specs.Option.{option_map_or}
use Rattle.std.specs.Str.{bytes_eq, is_utf8}
use Rattle.std.specs.Str.Parse.{AllDigits}
use Rattle.slee_value.specs.Name.{is_name}
use Rattle.slee_value.specs.Escape.{escaped}
use Rattle.signal_script.specs.Lines.{words_of, is_plain, is_line, is_control, line_limit}
use Rattle.signal_script.specs.Signals.{and_then, name_of, is_event, event_of, moment_of, row_of, fields_of, only_word, only_two, two_or_more, one_name, one_moment, event_fired, row_given, row_named, verb_word, all_verbs, verb_of, signal_of_verb, signal_of_words, signal_of_bytes, signal_unbounded, signal_of, spelled_event, spelled_field, spelled_words, spelled, is_name_or_none, are_fields, is_of_form, is_signal, clock_limit}
use Rattle.signal_script.specs.declared.fault.SignalBad.TheVariants as bads
use Rattle.signal_script.specs.declared.verb.Verb.{Verb}
use Rattle.signal_script.specs.declared.verb.Verb.TheVariants as verbs
use Rattle.signal_script.specs.declared.signal.Signal.{Signal}
use Rattle.signal_script.specs.declared.signal.Signal.TheVariants as signals
use Rattle.signal_script.proofs.WordLemmas.{lacks}
use Rattle.signal_script.proofs.SpellingLemmas.{then_ok, tested_ok, name_lacks, words_joined, escaped_no_space, event_back, event_no_space, moment_back, row_back, fields_back, fields_no_space}
use Rattle.signal_script.proofs.GivenLemmas.{then_given, tested_given, event_given, moment_given, row_is_given, fields_given, one_given, two_given, more_given}

-- a signal's words are read as the signal

name_back : (name : List ℕ) → is_name name ≡ true → one_name (name ∷ []) ≡ Ok name
name_back name is = tested_ok is_name bads.Name name is

fire_back : (name event : List ℕ) (service : Option (List ℕ)) (fields : List (List ℕ × List ℕ)) → is_of_form (signals.Fire name event service fields) ≡ true
    → event_fired (name ∷ spelled_event event service ∷ map spelled_field fields) ≡ Ok (signals.Fire name event service fields)
fire_back name event service fields is =
    let named = and_parts (is_name name) _ is in
    let evented = and_parts (is_event event) (is_name_or_none service && are_fields [] fields) named.1 in
    let rest = and_parts (is_name_or_none service) (are_fields [] fields) evented.1 in
    then_ok (name_of name) name _ (tested_ok is_name bads.Name name named.0)
    ∙ then_ok (event_of (spelled_event event service)) (event, service) _ (event_back event service evented.0 rest.0)
    ∙ then_ok (fields_of [] (map spelled_field fields)) fields _ (fields_back [] fields rest.1)

row_given_back : (table row : List ℕ) (fields : List (List ℕ × List ℕ)) → (is_name table && (nat_lt 0 (length row) && are_fields [] fields)) ≡ true
    → row_given (table ∷ escaped true row ∷ map spelled_field fields) ≡ Ok (table, row, fields)
row_given_back table row fields is =
    let named = and_parts (is_name table) _ is in
    let rest = and_parts (nat_lt 0 (length row)) (are_fields [] fields) named.1 in
    then_ok (name_of table) table _ (tested_ok is_name bads.Name table named.0)
    ∙ then_ok (row_of (escaped true row)) row _ (row_back row rest.0)
    ∙ then_ok (fields_of [] (map spelled_field fields)) fields _ (fields_back [] fields rest.1)

row_named_back : (table row : List ℕ) → (is_name table && nat_lt 0 (length row)) ≡ true
    → row_named (table ∷ escaped true row ∷ []) ≡ Ok (table, row)
row_named_back table row is =
    let named = and_parts (is_name table) (nat_lt 0 (length row)) is in
    then_ok (name_of table) table _ (tested_ok is_name bads.Name table named.0)
    ∙ then_ok (row_of (escaped true row)) row _ (row_back row named.1)

pub words_back : (signal : Signal) → is_of_form signal ≡ true → signal_of_words (spelled_words signal) ≡ Ok signal
words_back (signals.Start name) is = then_ok (one_name (name ∷ [])) name _ (name_back name is)
words_back (signals.End name) is = then_ok (one_name (name ∷ [])) name _ (name_back name is)
words_back (signals.Fire name event service fields) is = fire_back name event service fields is
words_back (signals.Clock to) is = then_ok (one_moment (decimal to ∷ [])) to _ (moment_back to is)
words_back (signals.Activate service) is = then_ok (one_name (service ∷ [])) service _ (name_back service is)
words_back (signals.Deactivate service) is = then_ok (one_name (service ∷ [])) service _ (name_back service is)
words_back (signals.ProfileAdd table row fields) is =
    then_ok (row_given (table ∷ escaped true row ∷ map spelled_field fields)) (table, row, fields) _ (row_given_back table row fields is)
words_back (signals.ProfileUpdate table row fields) is =
    then_ok (row_given (table ∷ escaped true row ∷ map spelled_field fields)) (table, row, fields) _ (row_given_back table row fields is)
words_back (signals.ProfileRemove table row) is =
    then_ok (row_named (table ∷ escaped true row ∷ [])) (table, row) _ (row_named_back table row is)

-- no word of a signal has a space

digit_no_space : (c : ℕ) → 48 ≤ c → not (c == 32) ≡ true
digit_no_space c from = grind (arith, nat_tests)

digits_no_space : (ds : List ℕ) → AllDigits 10 ds → lacks 32 ds ≡ true
digits_no_space [] all = refl
digits_no_space (c ∷ cs) all =
    let digit = digit_from_value c all.0 in
    and_from (not (c == 32)) (lacks 32 cs) (digit_no_space c (omega arith)) (digits_no_space cs all.1)

moment_no_space : (to : ℕ) → nat_le to clock_limit ≡ true → lacks 32 (decimal to) ≡ true
moment_no_space to is =
    let small : to ≤ 4000000000000000 = grind (arith, nat_tests) in
    let fits : to < 2 ^ 64 = omega arith in
    digits_no_space (decimal to) (decimal_is_IsNumeral to fits).0.1

alone : (name : List ℕ) → is_name name ≡ true → list_all (lacks 32) (name ∷ []) ≡ true
alone name is = and_from (lacks 32 name) true (name_lacks 32 name refl is) refl

with_row : (table row : List ℕ) (words : List (List ℕ)) → is_name table ≡ true → list_all (lacks 32) words ≡ true
    → list_all (lacks 32) (table ∷ escaped true row ∷ words) ≡ true
with_row table row words is rest =
    and_from (lacks 32 table) _ (name_lacks 32 table refl is)
    (and_from (lacks 32 (escaped true row)) (list_all (lacks 32) words) (escaped_no_space row) rest)

with_attributes : (table row : List ℕ) (fields : List (List ℕ × List ℕ)) → (is_name table && (nat_lt 0 (length row) && are_fields [] fields)) ≡ true
    → list_all (lacks 32) (table ∷ escaped true row ∷ map spelled_field fields) ≡ true
with_attributes table row fields is =
    let named = and_parts (is_name table) _ is in
    let rest = and_parts (nat_lt 0 (length row)) (are_fields [] fields) named.1 in
    with_row table row (map spelled_field fields) named.0 (fields_no_space [] fields rest.1)

fire_no_space : (name event : List ℕ) (service : Option (List ℕ)) (fields : List (List ℕ × List ℕ)) → is_of_form (signals.Fire name event service fields) ≡ true
    → list_all (lacks 32) (name ∷ spelled_event event service ∷ map spelled_field fields) ≡ true
fire_no_space name event service fields is =
    let named = and_parts (is_name name) _ is in
    let evented = and_parts (is_event event) (is_name_or_none service && are_fields [] fields) named.1 in
    let rest = and_parts (is_name_or_none service) (are_fields [] fields) evented.1 in
    and_from (lacks 32 name) _ (name_lacks 32 name refl named.0)
    (and_from (lacks 32 (spelled_event event service)) (list_all (lacks 32) (map spelled_field fields)) (event_no_space event service evented.0 rest.0) (fields_no_space [] fields rest.1))

words_of_line : (signal : Signal) → is_of_form signal ≡ true → words_of (spelled signal) ≡ spelled_words signal
words_of_line (signals.Start name) is = words_joined (codes "start") (name ∷ []) refl (alone name is)
words_of_line (signals.End name) is = words_joined (codes "end") (name ∷ []) refl (alone name is)
words_of_line (signals.Fire name event service fields) is =
    words_joined (codes "fire") (name ∷ spelled_event event service ∷ map spelled_field fields) refl (fire_no_space name event service fields is)
words_of_line (signals.Clock to) is =
    words_joined (codes "clock") (decimal to ∷ []) refl (and_from (lacks 32 (decimal to)) true (moment_no_space to is) refl)
words_of_line (signals.Activate service) is = words_joined (codes "activate") (service ∷ []) refl (alone service is)
words_of_line (signals.Deactivate service) is = words_joined (codes "deactivate") (service ∷ []) refl (alone service is)
words_of_line (signals.ProfileAdd table row fields) is =
    words_joined (codes "profile-add") (table ∷ escaped true row ∷ map spelled_field fields) refl (with_attributes table row fields is)
words_of_line (signals.ProfileUpdate table row fields) is =
    words_joined (codes "profile-update") (table ∷ escaped true row ∷ map spelled_field fields) refl (with_attributes table row fields is)
words_of_line (signals.ProfileRemove table row) is =
    words_joined (codes "profile-remove") (table ∷ escaped true row ∷ []) refl (with_row table row [] (and_parts (is_name table) (nat_lt 0 (length row)) is).0 refl)

-- a line's tests

if_true : {A : Type 0} (test : Bool) (here there : A) → test ≡ true → (if test then here else there) ≡ here
if_true test here there is = rw is refl

if_false : {A : Type 0} (test : Bool) (here there : A) → test ≡ false → (if test then here else there) ≡ there
if_false test here there is = rw is refl

not_true : (b : Bool) → not b ≡ true → b ≡ false
not_true true is = cc
not_true false is = refl

bytes_some : (line : List ℕ) (signal : Signal) → words_of line ≡ spelled_words signal → signal_of_words (words_of line) ≡ Ok signal → signal_of_bytes line ≡ Ok signal
bytes_some [] (signals.Start name) words is = cc
bytes_some [] (signals.End name) words is = cc
bytes_some [] (signals.Fire name event service fields) words is = cc
bytes_some [] (signals.Clock to) words is = cc
bytes_some [] (signals.Activate service) words is = cc
bytes_some [] (signals.Deactivate service) words is = cc
bytes_some [] (signals.ProfileAdd table row fields) words is = cc
bytes_some [] (signals.ProfileUpdate table row fields) words is = cc
bytes_some [] (signals.ProfileRemove table row) words is = cc
bytes_some (b ∷ bs) signal words is = is

plain_back : (signal : Signal) → is_of_form signal ≡ true → is_plain (spelled signal) ≡ true → signal_unbounded (spelled signal) ≡ Ok signal
plain_back signal form plain =
    let parts = and_parts (not (list_any is_control (spelled signal))) (is_utf8 (spelled signal)) plain in
    let words = words_of_line signal form in
    if_false (list_any is_control (spelled signal)) _ _ (not_true (list_any is_control (spelled signal)) parts.0)
    ∙ if_true (is_utf8 (spelled signal)) _ _ parts.1
    ∙ bytes_some (spelled signal) signal words (ap signal_of_words words ∙ words_back signal form)

pub printed_unbounded : (signal : Signal) → is_signal signal ≡ true → signal_unbounded (spelled signal) ≡ Ok signal
printed_unbounded signal valid =
    let parts = and_parts (is_of_form signal) (is_line (spelled signal)) valid in
    plain_back signal parts.0 (and_parts (nat_le (length (spelled signal)) line_limit) (is_plain (spelled signal)) parts.1).1

pub printed_read : (signal : Signal) → is_signal signal ≡ true → signal_of (spelled signal) ≡ Ok signal
printed_read signal valid =
    let parts = and_parts (is_of_form signal) (is_line (spelled signal)) valid in
    let line = and_parts (nat_le (length (spelled signal)) line_limit) (is_plain (spelled signal)) parts.1 in
    if_true (nat_le (length (spelled signal)) line_limit) _ _ line.0 ∙ plain_back signal parts.0 line.1

same_words : (a b c d : List ℕ) (xs ys : List (List ℕ)) → a ≡ b → c ≡ d → xs ≡ ys → a ∷ c ∷ xs ≡ b ∷ d ∷ ys
same_words a b c d xs ys first second rest = cc

-- what words give
pub record IsGiven (words : List (List ℕ)) (signal : Signal) : Type 0 where
  pub spelled : spelled_words signal ≡ words
  pub form : is_of_form signal ≡ true

one_name_given : (make : List ℕ → Signal) (verb : List ℕ) (words : List (List ℕ)) (signal : Signal)
    → ((name : List ℕ) → spelled_words (make name) ≡ verb ∷ name ∷ []) → ((name : List ℕ) → is_name name ≡ true → is_of_form (make name) ≡ true)
    → and_then (one_name words) (λ name. Ok (make name)) ≡ Ok signal → IsGiven (verb ∷ words) signal
one_name_given make verb words signal spells forms is =
    let both = then_given (one_name words) (λ name. Ok (make name)) signal is in
    let inner = then_given (only_word words) name_of both.first both.is in
    let name = tested_given is_name bads.Name inner.first both.first inner.last in
    let made : Ok (make both.first) ≡ Ok signal = both.last in
    let same : make both.first ≡ signal = cc in
    subst (λ (s : Signal). IsGiven (verb ∷ words) s) same (record {
      spelled = spells both.first ∙ ap (λ (w : List ℕ). verb ∷ w ∷ []) name.same ∙ ap (λ (ws : List (List ℕ)). verb ∷ ws) (one_given words inner.first inner.is);
      form = forms both.first name.passes;
    })

clock_given : (words : List (List ℕ)) (signal : Signal) → and_then (one_moment words) (λ to. Ok (signals.Clock to)) ≡ Ok signal → IsGiven (codes "clock" ∷ words) signal
clock_given words signal is =
    let both = then_given (one_moment words) (λ to. Ok (signals.Clock to)) signal is in
    let inner = then_given (only_word words) moment_of both.first both.is in
    let moment = moment_given inner.first both.first inner.last in
    let made : Ok (signals.Clock both.first) ≡ Ok signal = both.last in
    let same : signals.Clock both.first ≡ signal = cc in
    subst (λ (s : Signal). IsGiven (codes "clock" ∷ words) s) same (record {
      spelled = ap (λ (w : List ℕ). codes "clock" ∷ w ∷ []) moment.spelled ∙ ap (λ (ws : List (List ℕ)). codes "clock" ∷ ws) (one_given words inner.first inner.is);
      form = moment.below;
    })

fire_given : (words : List (List ℕ)) (signal : Signal) → event_fired words ≡ Ok signal → IsGiven (codes "fire" ∷ words) signal
fire_given words signal is =
    let shape = then_given (two_or_more words) _ signal is in
    let parts = shape.first in
    let named = then_given (name_of parts.0) _ signal shape.last in
    let evented = then_given (event_of parts.1) _ signal named.last in
    let fielded = then_given (fields_of [] parts.2) _ signal evented.last in
    let name = tested_given is_name bads.Name parts.0 named.first named.is in
    let event = event_given parts.1 evented.first evented.is in
    let fields = fields_given [] parts.2 fielded.first fielded.is in
    let made : Ok (signals.Fire named.first evented.first.0 evented.first.1 fielded.first) ≡ Ok signal = fielded.last in
    let same : signals.Fire named.first evented.first.0 evented.first.1 fielded.first ≡ signal = cc in
    subst (λ (s : Signal). IsGiven (codes "fire" ∷ words) s) same (record {
      spelled = ap (λ (ws : List (List ℕ)). codes "fire" ∷ ws)
          (same_words named.first parts.0 (spelled_event evented.first.0 evented.first.1) parts.1 (map spelled_field fielded.first) parts.2
          name.same event.spelled (ap (map spelled_field) fields.same ∙ fields.spelled)
          ∙ more_given words parts shape.is);
      form = and_from (is_name named.first) _ name.passes
          (and_from (is_event evented.first.0) _ event.event (and_from (is_name_or_none evented.first.1) _ event.service
          (subst (λ (fs : List (List ℕ × List ℕ)). are_fields [] fs ≡ true) (sym fields.same) fields.new)));
    })

-- a table, a row and its attributes
record IsRowGiven (words : List (List ℕ)) (table row : List ℕ) (fields : List (List ℕ × List ℕ)) : Type 0 where
  pub spelled : table ∷ escaped true row ∷ map spelled_field fields ≡ words
  pub form : (is_name table && (nat_lt 0 (length row) && are_fields [] fields)) ≡ true

attributes_given : (words : List (List ℕ)) (given : List ℕ × List ℕ × List (List ℕ × List ℕ)) → row_given words ≡ Ok given → IsRowGiven words given.0 given.1 given.2
attributes_given words given is =
    let shape = then_given (two_or_more words) _ given is in
    let parts = shape.first in
    let named = then_given (name_of parts.0) _ given shape.last in
    let rowed = then_given (row_of parts.1) _ given named.last in
    let fielded = then_given (fields_of [] parts.2) _ given rowed.last in
    let name = tested_given is_name bads.Name parts.0 named.first named.is in
    let row = row_is_given parts.1 rowed.first rowed.is in
    let fields = fields_given [] parts.2 fielded.first fielded.is in
    let made : Ok (named.first, rowed.first, fielded.first) ≡ Ok given = fielded.last in
    let same : (named.first, rowed.first, fielded.first) ≡ given = cc in
    subst (λ (g : List ℕ × List ℕ × List (List ℕ × List ℕ)). IsRowGiven words g.0 g.1 g.2) same (record {
      spelled = same_words named.first parts.0 (escaped true rowed.first) parts.1 (map spelled_field fielded.first) parts.2
          name.same row.spelled (ap (map spelled_field) fields.same ∙ fields.spelled)
          ∙ more_given words parts shape.is;
      form = and_from (is_name named.first) _ name.passes (and_from (nat_lt 0 (length rowed.first)) _ row.some
          (subst (λ (fs : List (List ℕ × List ℕ)). are_fields [] fs ≡ true) (sym fields.same) fields.new));
    })

row_line_given : (make : List ℕ → List ℕ → List (List ℕ × List ℕ) → Signal) (verb : List ℕ) (words : List (List ℕ)) (signal : Signal)
    → ((table row : List ℕ) (fields : List (List ℕ × List ℕ)) → spelled_words (make table row fields) ≡ verb ∷ table ∷ escaped true row ∷ map spelled_field fields)
    → ((table row : List ℕ) (fields : List (List ℕ × List ℕ)) → (is_name table && (nat_lt 0 (length row) && are_fields [] fields)) ≡ true → is_of_form (make table row fields) ≡ true)
    → and_then (row_given words) (λ given. Ok (make given.0 given.1 given.2)) ≡ Ok signal → IsGiven (verb ∷ words) signal
row_line_given make verb words signal spells forms is =
    let both = then_given (row_given words) (λ given. Ok (make given.0 given.1 given.2)) signal is in
    let row = attributes_given words both.first both.is in
    let made : Ok (make both.first.0 both.first.1 both.first.2) ≡ Ok signal = both.last in
    let same : make both.first.0 both.first.1 both.first.2 ≡ signal = cc in
    subst (λ (s : Signal). IsGiven (verb ∷ words) s) same (record {
      spelled = spells both.first.0 both.first.1 both.first.2 ∙ ap (λ (ws : List (List ℕ)). verb ∷ ws) row.spelled;
      form = forms both.first.0 both.first.1 both.first.2 row.form;
    })

removal_given : (words : List (List ℕ)) (signal : Signal) → and_then (row_named words) (λ named. Ok (signals.ProfileRemove named.0 named.1)) ≡ Ok signal
    → IsGiven (codes "profile-remove" ∷ words) signal
removal_given words signal is =
    let both = then_given (row_named words) (λ named. Ok (signals.ProfileRemove named.0 named.1)) signal is in
    let shape = then_given (only_two words) _ both.first both.is in
    let parts = shape.first in
    let named = then_given (name_of parts.0) _ both.first shape.last in
    let rowed = then_given (row_of parts.1) _ both.first named.last in
    let name = tested_given is_name bads.Name parts.0 named.first named.is in
    let row = row_is_given parts.1 rowed.first rowed.is in
    let pair : Ok (named.first, rowed.first) ≡ Ok both.first = rowed.last in
    let pair_is : (named.first, rowed.first) ≡ both.first = cc in
    let made : Ok (signals.ProfileRemove both.first.0 both.first.1) ≡ Ok signal = both.last in
    let made_is : signals.ProfileRemove both.first.0 both.first.1 ≡ signal = cc in
    let same : signals.ProfileRemove named.first rowed.first ≡ signal =
    ap (λ (p : List ℕ × List ℕ). signals.ProfileRemove p.0 p.1) pair_is ∙ made_is in
    subst (λ (s : Signal). IsGiven (codes "profile-remove" ∷ words) s) same (record {
      spelled = ap (λ (ws : List (List ℕ)). codes "profile-remove" ∷ ws)
          (same_words named.first parts.0 (escaped true rowed.first) parts.1 [] [] name.same row.spelled refl ∙ two_given words parts shape.is);
      form = and_from (is_name named.first) _ name.passes row.some;
    })

verb_given : (verb : Verb) (words : List (List ℕ)) (signal : Signal) → signal_of_verb words verb ≡ Ok signal → IsGiven (verb_word verb ∷ words) signal
verb_given verbs.Start words signal is = one_name_given signals.Start (codes "start") words signal (λ name. refl) (λ name valid. valid) is
verb_given verbs.End words signal is = one_name_given signals.End (codes "end") words signal (λ name. refl) (λ name valid. valid) is
verb_given verbs.Fire words signal is = fire_given words signal is
verb_given verbs.Clock words signal is = clock_given words signal is
verb_given verbs.Activate words signal is = one_name_given signals.Activate (codes "activate") words signal (λ name. refl) (λ name valid. valid) is
verb_given verbs.Deactivate words signal is = one_name_given signals.Deactivate (codes "deactivate") words signal (λ name. refl) (λ name valid. valid) is
verb_given verbs.ProfileAdd words signal is =
    row_line_given signals.ProfileAdd (codes "profile-add") words signal (λ table row fields. refl) (λ table row fields valid. valid) is
verb_given verbs.ProfileUpdate words signal is =
    row_line_given signals.ProfileUpdate (codes "profile-update") words signal (λ table row fields. refl) (λ table row fields valid. valid) is
verb_given verbs.ProfileRemove words signal is = removal_given words signal is

-- a verb's word is the word
verb_found : (word : List ℕ) (all : List Verb) (verb : Verb) → find (λ v. bytes_eq word (verb_word v)) all ≡ Some verb → verb_word verb ≡ word
verb_found word [] verb is = cc
verb_found word (v ∷ all) verb is = elim (cases_Bool (bytes_eq word (verb_word v))) [
  | inl here ↦
      let e : Some v ≡ Some verb = rw here at is in
      let same : v ≡ verb = cc in
      ap verb_word (sym same) ∙ sym ((bytes_eq-Decides word (verb_word v)).0 here)
  | inr other ↦ verb_found word all verb (rw other at is)
]

pub given : (words : List (List ℕ)) (signal : Signal) → signal_of_words words ≡ Ok signal → IsGiven words signal
given [] signal is = cc
given (word ∷ words) signal is = by (verb_of word) refl is
  where
    by : (o : Option Verb) → verb_of word ≡ o → option_map_or (signal_of_verb words) o (Err bads.Verb) ≡ Ok signal → IsGiven (word ∷ words) signal
    by None found e = cc
    by (Some verb) found e =
        subst (λ (w : List ℕ). IsGiven (w ∷ words) signal) (verb_found word all_verbs verb found) (verb_given verb words signal e)

-- what a line gives
record IsLineOf (line : List ℕ) (signal : Signal) : Type 0 where
  pub spelled : spelled signal ≡ line
  pub form : is_of_form signal ≡ true
  pub plain : is_plain line ≡ true

in_bytes : (line : List ℕ) (signal : Signal) → signal_of_bytes line ≡ Ok signal → signal_of_words (words_of line) ≡ Ok signal
in_bytes [] signal is = cc
in_bytes (b ∷ bs) signal is = is

unbounded_given : (line : List ℕ) (signal : Signal) → signal_unbounded line ≡ Ok signal → IsLineOf line signal
unbounded_given line signal is = by (list_any is_control line) refl (is_utf8 line) refl is
  where
    by : (control : Bool) → list_any is_control line ≡ control → (utf8 : Bool) → is_utf8 line ≡ utf8
        → (if control then Err bads.Control else (if utf8 then signal_of_bytes line else Err bads.Utf8)) ≡ Ok signal → IsLineOf line signal
    by true controlled utf8 valid e = cc
    by false controlled false valid e = cc
    by false controlled true valid e =
        let words = given (words_of line) signal (in_bytes line signal e) in
        record {
          spelled = ap (join_with_byte 32) words.spelled ∙ join_with_byte-slice_split 32 line;
          form = words.form;
          plain = and_from (not (list_any is_control line)) (is_utf8 line) (rw controlled refl) valid;
        }

line_given : (line : List ℕ) (signal : Signal) → signal_of line ≡ Ok signal → (nat_le (length line) line_limit ≡ true) × IsLineOf line signal
line_given line signal is = by (nat_le (length line) line_limit) refl is
  where
    by : (short : Bool) → nat_le (length line) line_limit ≡ short → (if short then signal_unbounded line else Err bads.Long) ≡ Ok signal
        → (nat_le (length line) line_limit ≡ true) × IsLineOf line signal
    by true fits e = (fits, unbounded_given line signal e)
    by false fits e = cc

pub read_spelled : (line : List ℕ) (signal : Signal) → signal_of line ≡ Ok signal → spelled signal ≡ line
read_spelled line signal is = (line_given line signal is).1.spelled

-- its signal is one that a line gives exactly where the line isn't too long
pub unbounded_valid : (line : List ℕ) (signal : Signal) → signal_unbounded line ≡ Ok signal → is_signal signal ≡ nat_le (length line) line_limit
unbounded_valid line signal is =
    let given = unbounded_given line signal is in
    ap (λ (bytes : List ℕ). is_of_form signal && is_line bytes) given.spelled ∙ by (nat_le (length line) line_limit) (is_of_form signal) (is_plain line) given.form given.plain
  where
    by : (short form plain : Bool) → form ≡ true → plain ≡ true → (form && (short && plain)) ≡ short
    by true form plain is_form is_plain = rw (is_form, is_plain) refl
    by false form plain is_form is_plain = rw is_form refl

pub read_valid : (line : List ℕ) (signal : Signal) → signal_of line ≡ Ok signal → is_signal signal ≡ true
read_valid line signal is =
    let read = line_given line signal is in
    unbounded_valid line signal (sym (if_true (nat_le (length line) line_limit) (signal_unbounded line) (Err bads.Long) read.0) ∙ is) ∙ read.0
