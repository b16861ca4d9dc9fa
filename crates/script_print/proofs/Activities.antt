-- A statement on activities, or of a timer, as it is spelled, is read as that statement.
use Rattle.std.proofs.Common.{◌≡◌, ◌≤◌, ◌+◌, ◌-◌, ℕ, List, [], ◌∷◌, ◌++◌, Option, Some, None, true, false, ◌&&◌, refl, sym, ap, ◌∙◌, arith, append_assoc}
use Rattle.std.specs.Prelude.{nat_le}
use Rattle.std.specs.List.{list_all}
use Rattle.std.proofs.lemmas.List.{append-nil}
use Rattle.std.proofs.lemmas.Bool.Decides.{nat_tests}
use Rattle.slee_value.specs.declared.keep.Keep.{Keep}
use Rattle.slee_value.specs.declared.keep.Keep.TheVariants as keeps
use Rattle.script_tree.specs.declared.symbol.Verb.{Verb}
use Rattle.script_tree.specs.declared.symbol.Fixed.TheVariants as x
use Rattle.script_tree.specs.declared.symbol.Symbol.TheVariants as s
use Rattle.script_tree.specs.declared.lexeme.Lexeme.{Lexeme}
use Rattle.script_tree.specs.declared.lexeme.Lexeme.TheVariants as t
use Rattle.script_tree.specs.declared.tree.Who.TheVariants as w
use Rattle.script_tree.specs.Words.{is_identifier, is_literal}
use Rattle.script_tree.specs.Tree as tree
use Rattle.script_tree.specs.Tree.{Bytes, Expression, OnActivities, SettingTimer, Statement}
use Rattle.script_tree.specs.Spelling.{fixed, spell_expression, spell_service, spell_field, spell_more_fields, spell_fields, spell_on_activities, spell_repeat, spell_keep, spell_timer, fits, option_fits, who_fits, field_fits, on_activities_fits, repeat_fits, timer_fits}
use Rattle.script_tree.specs.Grammar.{Part, Item, AName, AText, AWho, ATree, AStatement, ABlock, Make, Attaching, Detaching, Masking, Unmasking, Firing, ForService, WithField, Binding, Repeating, Doing, CountingUsage, Name, Text, Level, One, MoreService, MoreFields, NextField, MoreRepeat, MoreKeep, verdict}
use Rattle.script_tree.specs.Grammar as g
use Rattle.script_print.proofs.Levels.{lasts, made}
use Rattle.script_print.proofs.Expressions.{and_parts, depth_fits, again}
use Rattle.script_print.proofs.Statements.{four, semicolon, last, inner, more, added, Reads}

-- ---- firing

abbrev fire : Bytes → Expression → Option Bytes → List (Bytes × Expression) → Item
fire event a service fields = AStatement (tree.Activity (tree.Fire event a service fields))

-- what stands behind the activity
abbrev behind_fire : Option Bytes → List (Bytes × Expression) → List Lexeme → List Lexeme
behind_fire service fields rest = ((spell_service service ++ spell_fields fields) ++ semicolon) ++ rest

fire_last : (service : Option Bytes) (fields : List (Bytes × Expression)) (rest : List Lexeme) → lasts 9 (behind_fire service fields rest) ≡ true
fire_last (Some name) fields rest = refl
fire_last None [] rest = refl
fire_last None (f ∷ fields) rest = refl

service_again : (service : Option Bytes) (fields : List (Bytes × Expression)) (event : Bytes) (a : Expression) (ps : List Part) (is : List Item) (d : ℕ) (rest : List Lexeme) → verdict (MoreService ∷ MoreFields ∷ ps) (fire event a None [] ∷ is) d (behind_fire service fields rest) ≡ verdict (MoreFields ∷ ps) (fire event a service [] ∷ is) d ((spell_fields fields ++ semicolon) ++ rest)
unfolding verdict
service_again None [] event a ps is d rest = refl
service_again None (f ∷ fields) event a ps is d rest = refl
service_again (Some name) fields event a ps is d rest = made ForService (MoreFields ∷ ps) (AText name ∷ fire event a None [] ∷ is) d ((spell_fields fields ++ semicolon) ++ rest)

fields_open : (ps : List Part) (is : List Item) (d : ℕ) (ts : List Lexeme) → d + 1 ≤ 64 → verdict (MoreFields ∷ ps) is d (fixed x.OpenCurly ∷ ts) ≡ verdict (Name ∷ One x.Colon ∷ Level 8 ∷ Make WithField ∷ NextField ∷ One x.CloseCurly ∷ ps) is (d + 1) ts
unfolding verdict
fields_open ps is d ts le = let e : nat_le 64 d ≡ false = grind (arith, nat_tests) in rw e refl

fields_close : (ps : List Part) (is : List Item) (d : ℕ) (ts : List Lexeme) → verdict (NextField ∷ One x.CloseCurly ∷ ps) is (d + 1) (fixed x.CloseCurly ∷ ts) ≡ verdict ps is d ts
unfolding verdict
fields_close ps is d ts = let e : d + 1 - 1 ≡ d = omega arith in ap (λ n. verdict ps is n ts) e

fields_last : (fields : List (Bytes × Expression)) (rest : List Lexeme) → lasts 9 ((spell_more_fields fields ++ semicolon) ++ rest) ≡ true
fields_last [] rest = refl
fields_last (f ∷ fields) rest = refl

-- a field's value, and the fields behind it
field_again : (f : Bytes × Expression) (ts : List Lexeme) (event : Bytes) (a : Expression) (service : Option Bytes) (read : List (Bytes × Expression)) (ps : List Part) (is : List Item) (d : ℕ) (rest : List Lexeme) → fits d f.1 ≡ true → lasts 9 ((ts ++ semicolon) ++ rest) ≡ true → verdict (Level 8 ∷ Make WithField ∷ ps) (AName f.0 ∷ fire event a service read ∷ is) d (((spell_expression f.1 ++ ts) ++ semicolon) ++ rest) ≡ verdict ps (fire event a service (read ++ f ∷ []) ∷ is) d ((ts ++ semicolon) ++ rest)
field_again f ts event a service read ps is d rest h ends =
    inner f.1 ts (Make WithField ∷ ps) (AName f.0 ∷ fire event a service read ∷ is) d rest h ends ∙ made WithField ps (ATree f.1 ∷ AName f.0 ∷ fire event a service read ∷ is) d ((ts ++ semicolon) ++ rest)

next_fields : (fields : List (Bytes × Expression)) (event : Bytes) (a : Expression) (service : Option Bytes) (read : List (Bytes × Expression)) (ps : List Part) (is : List Item) (d : ℕ) (rest : List Lexeme) → list_all (field_fits (d + 1)) fields ≡ true → verdict (NextField ∷ One x.CloseCurly ∷ ps) (fire event a service read ∷ is) (d + 1) ((spell_more_fields fields ++ semicolon) ++ rest) ≡ verdict ps (fire event a service (read ++ fields) ∷ is) d (fixed x.Semicolon ∷ rest)
unfolding verdict
next_fields [] event a service read ps is d rest h = fields_close ps (fire event a service read ∷ is) d (fixed x.Semicolon ∷ rest) ∙ ap (λ z. verdict ps (fire event a service z ∷ is) d (fixed x.Semicolon ∷ rest)) (sym (append-nil read))
next_fields (f ∷ fields) event a service read ps is d rest h =
    let p = and_parts (field_fits (d + 1) f) (list_all (field_fits (d + 1)) fields) h in
    let r = and_parts (is_identifier f.0) (fits (d + 1) f.1) p.0 in
    field_again f (spell_more_fields fields) event a service read (NextField ∷ One x.CloseCurly ∷ ps) is (d + 1) rest r.1 (fields_last fields rest)
    ∙ next_fields fields event a service (read ++ f ∷ []) ps is d rest p.1
    ∙ ap (λ z. verdict ps (fire event a service z ∷ is) d (fixed x.Semicolon ∷ rest)) (append_assoc read (f ∷ []) fields)

fields_again : (fields : List (Bytes × Expression)) (event : Bytes) (a : Expression) (service : Option Bytes) (ps : List Part) (is : List Item) (d : ℕ) (rest : List Lexeme) → list_all (field_fits (d + 1)) fields ≡ true → verdict (MoreFields ∷ One x.Semicolon ∷ ps) (fire event a service [] ∷ is) d ((spell_fields fields ++ semicolon) ++ rest) ≡ verdict ps (fire event a service fields ∷ is) d rest
unfolding verdict
fields_again [] event a service ps is d rest h = refl
fields_again (f ∷ fields) event a service ps is d rest h =
    let p = and_parts (field_fits (d + 1) f) (list_all (field_fits (d + 1)) fields) h in
    let r = and_parts (is_identifier f.0) (fits (d + 1) f.1) p.0 in
    fields_open (One x.Semicolon ∷ ps) (fire event a service [] ∷ is) d (((spell_field f ++ spell_more_fields fields) ++ semicolon) ++ rest) (depth_fits f.1 (d + 1) r.1)
    ∙ field_again f (spell_more_fields fields) event a service [] (NextField ∷ One x.CloseCurly ∷ One x.Semicolon ∷ ps) is (d + 1) rest r.1 (fields_last fields rest)
    ∙ next_fields fields event a service (f ∷ []) (One x.Semicolon ∷ ps) is d rest p.1

-- ---- statements on activities

pub on_activities : (y : OnActivities) (d : ℕ) → on_activities_fits d y ≡ true → Reads (tree.Activity y) (spell_on_activities y) d
unfolding verdict
on_activities (tree.Attach w.Own a) d h = λ b ps is rest.
    last a (Make Attaching ∷ One x.Semicolon ∷ more ps) (AWho w.Own ∷ ABlock b ∷ is) d rest (and_parts (who_fits w.Own) (fits d a) h).1 ∙ added (tree.Activity (tree.Attach w.Own a)) b ps is d rest
on_activities (tree.Attach (w.Child name) a) d h = λ b ps is rest.
    last a (Make Attaching ∷ One x.Semicolon ∷ more ps) (AWho (w.Child name) ∷ ABlock b ∷ is) d rest (and_parts (who_fits (w.Child name)) (fits d a) h).1
    ∙ added (tree.Activity (tree.Attach (w.Child name) a)) b ps is d rest
on_activities (tree.Detach w.Own a) d h = λ b ps is rest.
    last a (Make Detaching ∷ One x.Semicolon ∷ more ps) (AWho w.Own ∷ ABlock b ∷ is) d rest (and_parts (who_fits w.Own) (fits d a) h).1 ∙ added (tree.Activity (tree.Detach w.Own a)) b ps is d rest
on_activities (tree.Detach (w.Child name) a) d h = λ b ps is rest.
    last a (Make Detaching ∷ One x.Semicolon ∷ more ps) (AWho (w.Child name) ∷ ABlock b ∷ is) d rest (and_parts (who_fits (w.Child name)) (fits d a) h).1
    ∙ added (tree.Activity (tree.Detach (w.Child name) a)) b ps is d rest
on_activities (tree.Mask event a) d h = λ b ps is rest.
    last a (Make Masking ∷ One x.Semicolon ∷ more ps) (AText event ∷ ABlock b ∷ is) d rest (and_parts (is_literal event) (fits d a) h).1 ∙ added (tree.Activity (tree.Mask event a)) b ps is d rest
on_activities (tree.Unmask event a) d h = λ b ps is rest.
    last a (Make Unmasking ∷ One x.Semicolon ∷ more ps) (AText event ∷ ABlock b ∷ is) d rest (and_parts (is_literal event) (fits d a) h).1 ∙ added (tree.Activity (tree.Unmask event a)) b ps is d rest
on_activities (tree.Fire event a service fields) d h = λ b ps is rest.
    let p = and_parts (is_literal event) (fits d a && (option_fits is_literal service && list_all (field_fits (d + 1)) fields)) h in
    let r = and_parts (fits d a) (option_fits is_literal service && list_all (field_fits (d + 1)) fields) p.1 in
    let u = and_parts (option_fits is_literal service) (list_all (field_fits (d + 1)) fields) r.1 in
    let parts = MoreService ∷ MoreFields ∷ One x.Semicolon ∷ more ps in
    inner a (spell_service service ++ spell_fields fields) (Make Firing ∷ parts) (AText event ∷ ABlock b ∷ is) d rest r.0 (fire_last service fields rest)
    ∙ made Firing parts (ATree a ∷ AText event ∷ ABlock b ∷ is) d (behind_fire service fields rest)
    ∙ service_again service fields event a (One x.Semicolon ∷ more ps) (ABlock b ∷ is) d rest
    ∙ fields_again fields event a service (more ps) (ABlock b ∷ is) d rest u.1
    ∙ added (tree.Activity (tree.Fire event a service fields)) b ps is d rest
on_activities (tree.Null name) d h = λ b ps is rest. added (tree.Activity (tree.Null name)) b ps is d rest
on_activities (tree.Bind a e) d h = λ b ps is rest.
    let p = and_parts (fits d a) (fits d e) h in
    inner a (fixed x.To ∷ spell_expression e) (One x.To ∷ Level 8 ∷ Make Binding ∷ One x.Semicolon ∷ more ps) (ABlock b ∷ is) d rest p.0 refl
    ∙ last e (Make Binding ∷ One x.Semicolon ∷ more ps) (ATree a ∷ ABlock b ∷ is) d rest p.1
    ∙ added (tree.Activity (tree.Bind a e)) b ps is d rest

-- ---- timers

abbrev timer : Bytes → Expression → Expression → Option (Expression × Expression) → Option Keep → Item
timer name a e repeat keep = AStatement (tree.Timer (record { name = name; activity = a; start = e; repeat = repeat; keep = keep }))

keep_last : (keep : Option Keep) (rest : List Lexeme) → lasts 9 ((spell_keep keep ++ semicolon) ++ rest) ≡ true
keep_last None rest = refl
keep_last (Some keep) rest = refl

repeat_last : (repeat : Option (Expression × Expression)) (keep : Option Keep) (rest : List Lexeme) → lasts 9 (((spell_repeat repeat ++ spell_keep keep) ++ semicolon) ++ rest) ≡ true
repeat_last None keep rest = keep_last keep rest
repeat_last (Some r) keep rest = refl

no_repeat : (keep : Option Keep) (ps : List Part) (is : List Item) (d : ℕ) (rest : List Lexeme) → verdict (MoreRepeat ∷ ps) is d ((spell_keep keep ++ semicolon) ++ rest) ≡ verdict ps is d ((spell_keep keep ++ semicolon) ++ rest)
unfolding verdict
no_repeat None ps is d rest = refl
no_repeat (Some keep) ps is d rest = refl

repeat_again : (repeat : Option (Expression × Expression)) (keep : Option Keep) (name : Bytes) (a e : Expression) (ps : List Part) (is : List Item) (d : ℕ) (rest : List Lexeme) → option_fits (repeat_fits d) repeat ≡ true → verdict (MoreRepeat ∷ ps) (timer name a e None None ∷ is) d (((spell_repeat repeat ++ spell_keep keep) ++ semicolon) ++ rest) ≡ verdict ps (timer name a e repeat None ∷ is) d ((spell_keep keep ++ semicolon) ++ rest)
unfolding verdict
repeat_again None keep name a e ps is d rest h = no_repeat keep ps (timer name a e None None ∷ is) d rest
repeat_again (Some r) keep name a e ps is d rest h =
    let p = and_parts (fits d r.0) (fits d r.1) h in
    let times = fixed x.Times ∷ spell_expression r.1 in
    ap (verdict (Level 8 ∷ One x.Times ∷ Level 8 ∷ Make Repeating ∷ ps) (timer name a e None None ∷ is) d) (four (spell_expression r.0) times (spell_keep keep) semicolon rest)
    ∙ again r.0 (One x.Times ∷ Level 8 ∷ Make Repeating ∷ ps) (timer name a e None None ∷ is) d (((times ++ spell_keep keep) ++ semicolon) ++ rest) p.0 refl
    ∙ inner r.1 (spell_keep keep) (Make Repeating ∷ ps) (ATree r.0 ∷ timer name a e None None ∷ is) d rest p.1 (keep_last keep rest)
    ∙ made Repeating ps (ATree r.1 ∷ ATree r.0 ∷ timer name a e None None ∷ is) d ((spell_keep keep ++ semicolon) ++ rest)

keep_again : (keep : Option Keep) (name : Bytes) (a e : Expression) (repeat : Option (Expression × Expression)) (ps : List Part) (is : List Item) (d : ℕ) (rest : List Lexeme) → verdict (MoreKeep ∷ One x.Semicolon ∷ ps) (timer name a e repeat None ∷ is) d ((spell_keep keep ++ semicolon) ++ rest) ≡ verdict ps (timer name a e repeat keep ∷ is) d rest
unfolding verdict
keep_again None name a e repeat ps is d rest = refl
keep_again (Some keeps.All) name a e repeat ps is d rest = refl
keep_again (Some keeps.Last) name a e repeat ps is d rest = refl
keep_again (Some keeps.NoneMissed) name a e repeat ps is d rest = refl

pub timer_again : (y : SettingTimer) (d : ℕ) → timer_fits d y ≡ true → Reads (tree.Timer y) (spell_timer y) d
unfolding verdict
timer_again y d h = λ b ps is rest.
    let p = and_parts (is_identifier y.name) (fits d y.activity && (fits d y.start && option_fits (repeat_fits d) y.repeat)) h in
    let r = and_parts (fits d y.activity) (fits d y.start && option_fits (repeat_fits d) y.repeat) p.1 in
    let u = and_parts (fits d y.start) (option_fits (repeat_fits d) y.repeat) r.1 in
    let behind = spell_repeat y.repeat ++ spell_keep y.keep in
    let parts = MoreRepeat ∷ MoreKeep ∷ One x.Semicolon ∷ more ps in
    inner y.activity (fixed x.At ∷ (spell_expression y.start ++ behind)) (One x.At ∷ Level 8 ∷ Make g.SettingTimer ∷ parts) (AName y.name ∷ ABlock b ∷ is) d rest r.0 refl
    ∙ inner y.start behind (Make g.SettingTimer ∷ parts) (ATree y.activity ∷ AName y.name ∷ ABlock b ∷ is) d rest u.0 (repeat_last y.repeat y.keep rest)
    ∙ made g.SettingTimer parts (ATree y.start ∷ ATree y.activity ∷ AName y.name ∷ ABlock b ∷ is) d ((behind ++ semicolon) ++ rest)
    ∙ repeat_again y.repeat y.keep y.name y.activity y.start (MoreKeep ∷ One x.Semicolon ∷ more ps) (ABlock b ∷ is) d rest u.1
    ∙ keep_again y.keep y.name y.activity y.start y.repeat (more ps) (ABlock b ∷ is) d rest
    ∙ added (tree.Timer y) b ps is d rest

-- ---- statements of one expression

pub doing : (verb : Verb) (a : Expression) (d : ℕ) → fits d a ≡ true → Reads (tree.Do verb a) (t.Symbol (s.Verb verb) ∷ spell_expression a) d
unfolding verdict
doing verb a d h = λ b ps is rest. last a (Make (Doing verb) ∷ One x.Semicolon ∷ more ps) (ABlock b ∷ is) d rest h ∙ added (tree.Do verb a) b ps is d rest

pub usage : (name : Bytes) (a : Expression) (d : ℕ) → fits d a ≡ true → Reads (tree.Usage name a) (fixed x.Usage ∷ t.Name name ∷ spell_expression a) d
unfolding verdict
usage name a d h = λ b ps is rest. last a (Make CountingUsage ∷ One x.Semicolon ∷ more ps) (AName name ∷ ABlock b ∷ is) d rest h ∙ added (tree.Usage name a) b ps is d rest

pub rollback : (d : ℕ) → Reads tree.Rollback (fixed x.Rollback ∷ []) d
unfolding verdict
rollback d = λ b ps is rest. added tree.Rollback b ps is d rest
