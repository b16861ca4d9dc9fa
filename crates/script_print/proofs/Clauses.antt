-- Statements with parts that may be left out, and with lists, that the grammar's table reads are spelled as their trees.
use Rattle.std.proofs.Common.{◌≡◌, ◌≤◌, ◌+◌, ℕ, List, [], ◌∷◌, ◌++◌, length, Bool, true, ◌&&◌, inl, inr, Option, Some, None, refl, sym, ap, ◌∙◌, arith, append_assoc}
use Rattle.std.specs.Prelude.{nat_le}
use Rattle.std.specs.List.{list_all}
use Rattle.slee_value.specs.declared.keep.Keep.{Keep}
use Rattle.script_tree.specs.declared.symbol.Fixed.TheVariants as x
use Rattle.script_tree.specs.declared.lexeme.Lexeme.{Lexeme}
use Rattle.script_tree.specs.declared.lexeme.Lexeme.TheVariants as t
use Rattle.script_tree.specs.Words.{is_identifier, is_literal}
use Rattle.script_tree.specs.Tree as tree
use Rattle.script_tree.specs.Tree.{Bytes, Expression, Statements}
use Rattle.script_tree.specs.Spelling.{fixed, spell_expression, spell_arguments, spell_result, spell_priority, spell_service, spell_fields, spell_repeat, spell_keep, level, fits, field_fits, option_fits, repeat_fits}
use Rattle.script_tree.specs.Grammar.{Part, Item, AName, AText, ATree, AStatement, One, Name, Text, Level, KeepWord, Make, MorePriority, WithPriority, MoreService, ForService, MoreFields, MoreRepeat, Repeating, MoreKeep, Keeping, Arguments, MoreResult, WithResult, Creating, Calling, Firing, SettingTimer, Fine, verdict}
use Rattle.script_print.proofs.Expressions.{and_parts}
use Rattle.script_print.specs.Proper.{is_proper}
use Rattle.script_print.proofs.Steps.{and_join, behind, unmade, one_read, opening_room, le_true, name_read, text_read}
use Rattle.script_print.proofs.Operands.{Expressions}
use Rattle.script_print.proofs.Optional.{Came, Begins, maybe_read, keep_read, firing, all_fields_read, calling, arguments_read}
use Rattle.script_print.proofs.Sentences.{ReadStatement, before_read, name_before}

-- ---- what may come behind a statement's first parts

-- a part that was read, or not: how it is spelled, whether it fits, and what it makes of the statement before it
pub record ReadPart (A : Type 0) (spells : A → List Lexeme) (fitting : A → Bool) (makes : A → Item) (ps : List Part) (is : List Item) (d : ℕ) (ts : List Lexeme) (s : Statements) : Type 0 where
  pub part : A
  pub rest : List Lexeme
  pub spelled : ts ≡ spells part ++ rest
  pub fine : fitting part ≡ true
  pub shorter : length rest ≤ length ts
  pub good : list_all is_proper rest ≡ true
  pub goes : verdict ps (makes part ∷ is) d rest ≡ Fine s

abbrev create : Bytes → Bytes → Option Expression → Item
create relation child priority = AStatement (tree.Entity (tree.Create relation child priority))

begins_priority : Begins MorePriority x.Priority (Level 8 ∷ Make WithPriority ∷ [])
begins_priority = record { first = λ token. refl; may_miss = refl; changes_nothing = λ is. refl; no_bracket = refl }

abbrev ReadPriority : Bytes → Bytes → List Part → List Item → ℕ → List Lexeme → Statements → Type 0
ReadPriority relation child ps is d ts s = ReadPart (Option Expression) spell_priority (option_fits (fits d)) (create relation child) ps is d ts s

priority_came : (n : ℕ) → Expressions n → (relation child : Bytes) (ps : List Part) (is : List Item) (d : ℕ) (ts : List Lexeme) (s : Statements) → length ts ≤ n → d ≤ 64 → Came x.Priority (Level 8 ∷ Make WithPriority ∷ ps) (create relation child None ∷ is) d ts s → ReadPriority relation child ps is d ts s
priority_came n reads relation child ps is d ts s le deep came =
    let a = reads 8 (Make WithPriority ∷ ps) (create relation child None ∷ is) d came.rest s (omega (arith, le, ap length came.spelled)) deep came.good came.goes in
    record {
      part = Some a.tree;
      rest = a.rest;
      spelled = came.spelled ∙ behind (fixed x.Priority) a.spelled;
      fine = (and_parts (nat_le (level a.tree) 8) (fits d a.tree) a.fine).1;
      shorter = omega (arith, ap length came.spelled, a.shorter);
      good = a.good;
      goes = unmade WithPriority ps (ATree a.tree ∷ create relation child None ∷ is) d a.rest s a.goes;
    }

priority_read : (n : ℕ) → Expressions n → (relation child : Bytes) (ps : List Part) (is : List Item) (d : ℕ) (ts : List Lexeme) (s : Statements) → length ts ≤ n → d ≤ 64 → list_all is_proper ts ≡ true → verdict (MorePriority ∷ ps) (create relation child None ∷ is) d ts ≡ Fine s → ReadPriority relation child ps is d ts s
priority_read n reads relation child ps is d ts s le deep g h =
    elim (maybe_read MorePriority x.Priority (Level 8 ∷ Make WithPriority ∷ []) begins_priority ps (create relation child None ∷ is) d ts s g h) [
      | inl e ↦ record { part = None; rest = ts; spelled = refl; fine = refl; shorter = omega arith; good = g; goes = e }
      | inr came ↦ priority_came n reads relation child ps is d ts s le deep came
    ]

begins_service : Begins MoreService x.For (Text ∷ Make ForService ∷ [])
begins_service = record { first = λ token. refl; may_miss = refl; changes_nothing = λ is. refl; no_bracket = refl }

abbrev fire_for : Bytes → Expression → Option Bytes → Item
fire_for event a service = firing event a service []

abbrev ReadService : Bytes → Expression → List Part → List Item → ℕ → List Lexeme → Statements → Type 0
ReadService event a ps is d ts s = ReadPart (Option Bytes) spell_service (option_fits is_literal) (fire_for event a) ps is d ts s

service_came : (event : Bytes) (a : Expression) (ps : List Part) (is : List Item) (d : ℕ) (ts : List Lexeme) (s : Statements) → Came x.For (Text ∷ Make ForService ∷ ps) (firing event a None [] ∷ is) d ts s → ReadService event a ps is d ts s
service_came event a ps is d ts s came =
    let text = text_read (Make ForService ∷ ps) (firing event a None [] ∷ is) d came.rest s came.good came.goes in
    record {
      part = Some text.text;
      rest = text.rest;
      spelled = came.spelled ∙ behind (fixed x.For) text.spelled;
      fine = text.fine;
      shorter = omega (arith, ap length came.spelled, ap length text.spelled);
      good = text.good;
      goes = unmade ForService ps (AText text.text ∷ firing event a None [] ∷ is) d text.rest s text.goes;
    }

service_read : (event : Bytes) (a : Expression) (ps : List Part) (is : List Item) (d : ℕ) (ts : List Lexeme) (s : Statements) → list_all is_proper ts ≡ true → verdict (MoreService ∷ ps) (firing event a None [] ∷ is) d ts ≡ Fine s → ReadService event a ps is d ts s
service_read event a ps is d ts s g h =
    elim (maybe_read MoreService x.For (Text ∷ Make ForService ∷ []) begins_service ps (firing event a None [] ∷ is) d ts s g h) [
      | inl e ↦ record { part = None; rest = ts; spelled = refl; fine = refl; shorter = omega arith; good = g; goes = e }
      | inr came ↦ service_came event a ps is d ts s came
    ]

begins_result : Begins MoreResult x.As (Name ∷ Make WithResult ∷ [])
begins_result = record { first = λ token. refl; may_miss = refl; changes_nothing = λ is. refl; no_bracket = refl }

abbrev call : Bytes → Bytes → List Expression → Option Bytes → Item
call child method arguments result = AStatement (tree.Entity (tree.Call child method arguments result))

abbrev ReadResult : Bytes → Bytes → List Expression → List Part → List Item → ℕ → List Lexeme → Statements → Type 0
ReadResult child method arguments ps is d ts s = ReadPart (Option Bytes) spell_result (option_fits is_identifier) (call child method arguments) ps is d ts s

result_came : (child method : Bytes) (arguments : List Expression) (ps : List Part) (is : List Item) (d : ℕ) (ts : List Lexeme) (s : Statements) → Came x.As (Name ∷ Make WithResult ∷ ps) (calling child method arguments ∷ is) d ts s → ReadResult child method arguments ps is d ts s
result_came child method arguments ps is d ts s came =
    let name = name_read (Make WithResult ∷ ps) (calling child method arguments ∷ is) d came.rest s came.good came.goes in
    record {
      part = Some name.name;
      rest = name.rest;
      spelled = came.spelled ∙ behind (fixed x.As) name.spelled;
      fine = name.fine;
      shorter = omega (arith, ap length came.spelled, ap length name.spelled);
      good = name.good;
      goes = unmade WithResult ps (AName name.name ∷ calling child method arguments ∷ is) d name.rest s name.goes;
    }

result_read : (child method : Bytes) (arguments : List Expression) (ps : List Part) (is : List Item) (d : ℕ) (ts : List Lexeme) (s : Statements) → list_all is_proper ts ≡ true → verdict (MoreResult ∷ ps) (calling child method arguments ∷ is) d ts ≡ Fine s → ReadResult child method arguments ps is d ts s
result_read child method arguments ps is d ts s g h =
    elim (maybe_read MoreResult x.As (Name ∷ Make WithResult ∷ []) begins_result ps (calling child method arguments ∷ is) d ts s g h) [
      | inl e ↦ record { part = None; rest = ts; spelled = refl; fine = refl; shorter = omega arith; good = g; goes = e }
      | inr came ↦ result_came child method arguments ps is d ts s came
    ]

abbrev timer : Bytes → Expression → Expression → Option (Expression × Expression) → Option Keep → Item
timer name a b repeat keep = AStatement (tree.Timer (record { name = name; activity = a; start = b; repeat = repeat; keep = keep }))

begins_repeat : Begins MoreRepeat x.Every (Level 8 ∷ One x.Times ∷ Level 8 ∷ Make Repeating ∷ [])
begins_repeat = record { first = λ token. refl; may_miss = refl; changes_nothing = λ is. refl; no_bracket = refl }

abbrev ReadRepeat : Bytes → Expression → Expression → List Part → List Item → ℕ → List Lexeme → Statements → Type 0
ReadRepeat name a b ps is d ts s = ReadPart (Option (Expression × Expression)) spell_repeat (option_fits (repeat_fits d)) (λ r. timer name a b r None) ps is d ts s

repeat_came : (n : ℕ) → Expressions n → (name : Bytes) (a b : Expression) (ps : List Part) (is : List Item) (d : ℕ) (ts : List Lexeme) (s : Statements) → length ts ≤ n → d ≤ 64 → Came x.Every (Level 8 ∷ One x.Times ∷ Level 8 ∷ Make Repeating ∷ ps) (timer name a b None None ∷ is) d ts s → ReadRepeat name a b ps is d ts s
repeat_came n reads name a b ps is d ts s le deep came =
    let period = before_read n reads x.Times refl (Level 8 ∷ Make Repeating ∷ ps) (timer name a b None None ∷ is) d came.rest s (omega (arith, le, ap length came.spelled)) deep came.good came.goes in
    let times = reads 8 (Make Repeating ∷ ps) (ATree period.tree ∷ timer name a b None None ∷ is) d period.rest s (omega (arith, le, ap length came.spelled, period.shorter)) deep period.good period.goes in
    record {
      part = Some (period.tree, times.tree);
      rest = times.rest;
      spelled = came.spelled ∙ behind (fixed x.Every) (period.spelled ∙ ap (λ l. spell_expression period.tree ++ fixed x.Times ∷ l) times.spelled ∙ sym (append_assoc (spell_expression period.tree) (fixed x.Times ∷ spell_expression times.tree) times.rest));
      fine = and_join (fits d period.tree) (fits d times.tree) period.fine (and_parts (nat_le (level times.tree) 8) (fits d times.tree) times.fine).1;
      shorter = omega (arith, ap length came.spelled, period.shorter, times.shorter);
      good = times.good;
      goes = unmade Repeating ps (ATree times.tree ∷ ATree period.tree ∷ timer name a b None None ∷ is) d times.rest s times.goes;
    }

repeat_read : (n : ℕ) → Expressions n → (name : Bytes) (a b : Expression) (ps : List Part) (is : List Item) (d : ℕ) (ts : List Lexeme) (s : Statements) → length ts ≤ n → d ≤ 64 → list_all is_proper ts ≡ true → verdict (MoreRepeat ∷ ps) (timer name a b None None ∷ is) d ts ≡ Fine s → ReadRepeat name a b ps is d ts s
repeat_read n reads name a b ps is d ts s le deep g h =
    elim (maybe_read MoreRepeat x.Every (Level 8 ∷ One x.Times ∷ Level 8 ∷ Make Repeating ∷ []) begins_repeat ps (timer name a b None None ∷ is) d ts s g h) [
      | inl e ↦ record { part = None; rest = ts; spelled = refl; fine = refl; shorter = omega arith; good = g; goes = e }
      | inr came ↦ repeat_came n reads name a b ps is d ts s le deep came
    ]

begins_keep : Begins MoreKeep x.Keep (KeepWord ∷ [])
begins_keep = record { first = λ token. refl; may_miss = refl; changes_nothing = λ is. refl; no_bracket = refl }

abbrev any : Option Keep → Bool
any keep = true

abbrev ReadKept : Bytes → Expression → Expression → Option (Expression × Expression) → List Part → List Item → ℕ → List Lexeme → Statements → Type 0
ReadKept name a b r ps is d ts s = ReadPart (Option Keep) spell_keep any (timer name a b r) ps is d ts s

kept_came : (name : Bytes) (a b : Expression) (r : Option (Expression × Expression)) (ps : List Part) (is : List Item) (d : ℕ) (ts : List Lexeme) (s : Statements) → Came x.Keep (KeepWord ∷ ps) (timer name a b r None ∷ is) d ts s → ReadKept name a b r ps is d ts s
kept_came name a b r ps is d ts s came =
    let k = keep_read ps (timer name a b r None ∷ is) d came.rest s came.good came.goes in
    record {
      part = Some k.keep;
      rest = k.rest;
      spelled = came.spelled ∙ behind (fixed x.Keep) k.spelled;
      fine = refl;
      shorter = omega (arith, ap length came.spelled, ap length k.spelled);
      good = k.good;
      goes = unmade (Keeping k.keep) ps (timer name a b r None ∷ is) d k.rest s k.goes;
    }

kept_read : (name : Bytes) (a b : Expression) (r : Option (Expression × Expression)) (ps : List Part) (is : List Item) (d : ℕ) (ts : List Lexeme) (s : Statements) → list_all is_proper ts ≡ true → verdict (MoreKeep ∷ ps) (timer name a b r None ∷ is) d ts ≡ Fine s → ReadKept name a b r ps is d ts s
kept_read name a b r ps is d ts s g h =
    elim (maybe_read MoreKeep x.Keep (KeepWord ∷ []) begins_keep ps (timer name a b r None ∷ is) d ts s g h) [
      | inl e ↦ record { part = None; rest = ts; spelled = refl; fine = refl; shorter = omega arith; good = g; goes = e }
      | inr came ↦ kept_came name a b r ps is d ts s came
    ]

-- ---- the statements

pub create_read : (n : ℕ) → Expressions n → (ps : List Part) (is : List Item) (d : ℕ) (ts : List Lexeme) (s : Statements) → length ts ≤ n → d ≤ 64 → list_all is_proper ts ≡ true → verdict (Name ∷ One x.As ∷ Name ∷ Make Creating ∷ MorePriority ∷ One x.Semicolon ∷ ps) is d ts ≡ Fine s → ReadStatement ps is d (fixed x.Create ∷ ts) s
create_read n reads ps is d ts s le deep g h =
    let relation = name_before x.As refl (Name ∷ Make Creating ∷ MorePriority ∷ One x.Semicolon ∷ ps) is d ts s g h in
    let child = name_read (Make Creating ∷ MorePriority ∷ One x.Semicolon ∷ ps) (AName relation.name ∷ is) d relation.rest s relation.good relation.goes in
    let made = unmade Creating (MorePriority ∷ One x.Semicolon ∷ ps) (AName child.name ∷ AName relation.name ∷ is) d child.rest s child.goes in
    let priority = priority_read n reads relation.name child.name (One x.Semicolon ∷ ps) is d child.rest s (omega (arith, le, relation.shorter, ap length child.spelled)) deep child.good made in
    let end = one_read x.Semicolon ps (create relation.name child.name priority.part ∷ is) d priority.rest s priority.good priority.goes in
    record {
      statement = tree.Entity (tree.Create relation.name child.name priority.part);
      rest = end.rest;
      spelled = behind (fixed x.Create) (relation.spelled ∙ behind (t.Name relation.name) (behind (fixed x.As) (child.spelled ∙ behind (t.Name child.name) (priority.spelled ∙ ap (λ l. spell_priority priority.part ++ l) end.spelled ∙ sym (append_assoc (spell_priority priority.part) (fixed x.Semicolon ∷ []) end.rest)))));
      fine = and_join (is_identifier relation.name) (is_identifier child.name && option_fits (fits d) priority.part) relation.fine (and_join (is_identifier child.name) (option_fits (fits d) priority.part) child.fine priority.fine);
      shorter = omega (arith, relation.shorter, ap length child.spelled, priority.shorter, ap length end.spelled);
      good = end.good;
      goes = end.goes;
    }

pub call_read : (n : ℕ) → Expressions n → (ps : List Part) (is : List Item) (d : ℕ) (ts : List Lexeme) (s : Statements) → length ts ≤ n → d ≤ 64 → list_all is_proper ts ≡ true → verdict (Name ∷ One x.Dot ∷ Name ∷ One x.OpenRound ∷ Make Calling ∷ Arguments ∷ One x.CloseRound ∷ MoreResult ∷ One x.Semicolon ∷ ps) is d ts ≡ Fine s → ReadStatement ps is d (fixed x.Call ∷ ts) s
call_read n reads ps is d ts s le deep g h =
    let last = MoreResult ∷ One x.Semicolon ∷ ps in
    let list = Arguments ∷ One x.CloseRound ∷ last in
    let child = name_before x.Dot refl (Name ∷ One x.OpenRound ∷ Make Calling ∷ list) is d ts s g h in
    let method = name_read (One x.OpenRound ∷ Make Calling ∷ list) (AName child.name ∷ is) d child.rest s child.good child.goes in
    let bracket = one_read x.OpenRound (Make Calling ∷ list) (AName method.name ∷ AName child.name ∷ is) d method.rest s method.good method.goes in
    let room = opening_room d bracket.room in
    let made = unmade Calling list (AName method.name ∷ AName child.name ∷ is) (d + 1) bracket.rest s bracket.goes in
    let all = arguments_read n reads last child.name method.name is d bracket.rest s (omega (arith, le, child.shorter, ap length method.spelled, ap length bracket.spelled)) room bracket.good made in
    let result = result_read child.name method.name all.arguments (One x.Semicolon ∷ ps) is d all.rest s all.good all.goes in
    let end = one_read x.Semicolon ps (call child.name method.name all.arguments result.part ∷ is) d result.rest s result.good result.goes in
    record {
      statement = tree.Entity (tree.Call child.name method.name all.arguments result.part);
      rest = end.rest;
      spelled = behind (fixed x.Call) (child.spelled ∙ behind (t.Name child.name) (behind (fixed x.Dot) (method.spelled ∙ behind (t.Name method.name) (bracket.spelled ∙ behind (fixed x.OpenRound) (all.spelled ∙ ap (λ l. spell_arguments all.arguments ++ fixed x.CloseRound ∷ l) (result.spelled ∙ ap (λ l. spell_result result.part ++ l) end.spelled) ∙ call_spelled (spell_arguments all.arguments) (spell_result result.part) end.rest)))));
      fine = and_join (is_identifier child.name) (is_identifier method.name && (nat_le (d + 1) 64 && (list_all (fits (d + 1)) all.arguments && option_fits is_identifier result.part))) child.fine
          (and_join (is_identifier method.name) (nat_le (d + 1) 64 && (list_all (fits (d + 1)) all.arguments && option_fits is_identifier result.part)) method.fine
          (and_join (nat_le (d + 1) 64) (list_all (fits (d + 1)) all.arguments && option_fits is_identifier result.part) (le_true (d + 1) 64 room)
          (and_join (list_all (fits (d + 1)) all.arguments) (option_fits is_identifier result.part) all.fine result.fine)));
      shorter = omega (arith, child.shorter, ap length method.spelled, ap length bracket.spelled, all.shorter, result.shorter, ap length end.spelled);
      good = end.good;
      goes = end.goes;
    }
  where
    call_spelled : (a r rest : List Lexeme) → a ++ fixed x.CloseRound ∷ (r ++ fixed x.Semicolon ∷ rest) ≡ ((a ++ fixed x.CloseRound ∷ r) ++ fixed x.Semicolon ∷ []) ++ rest
    call_spelled a r rest = simp append_assoc

pub fire_read : (n : ℕ) → Expressions n → (ps : List Part) (is : List Item) (d : ℕ) (ts : List Lexeme) (s : Statements) → length ts ≤ n → d ≤ 64 → list_all is_proper ts ≡ true → verdict (Text ∷ One x.On ∷ Level 8 ∷ Make Firing ∷ MoreService ∷ MoreFields ∷ One x.Semicolon ∷ ps) is d ts ≡ Fine s → ReadStatement ps is d (fixed x.Fire ∷ ts) s
fire_read n reads ps is d ts s le deep g h =
    let last = MoreService ∷ MoreFields ∷ One x.Semicolon ∷ ps in
    let event = text_read (One x.On ∷ Level 8 ∷ Make Firing ∷ last) is d ts s g h in
    let on = one_read x.On (Level 8 ∷ Make Firing ∷ last) (AText event.text ∷ is) d event.rest s event.good event.goes in
    let a = reads 8 (Make Firing ∷ last) (AText event.text ∷ is) d on.rest s (omega (arith, le, ap length event.spelled, ap length on.spelled)) deep on.good on.goes in
    let made = unmade Firing last (ATree a.tree ∷ AText event.text ∷ is) d a.rest s a.goes in
    let service = service_read event.text a.tree (MoreFields ∷ One x.Semicolon ∷ ps) is d a.rest s a.good made in
    let fields = all_fields_read n reads (One x.Semicolon ∷ ps) event.text a.tree service.part is d service.rest s (omega (arith, le, ap length event.spelled, ap length on.spelled, a.shorter, service.shorter)) service.good service.goes in
    let end = one_read x.Semicolon ps (firing event.text a.tree service.part fields.fields ∷ is) d fields.rest s fields.good fields.goes in
    let fine_tree = (and_parts (nat_le (level a.tree) 8) (fits d a.tree) a.fine).1 in
    record {
      statement = tree.Activity (tree.Fire event.text a.tree service.part fields.fields);
      rest = end.rest;
      spelled = behind (fixed x.Fire) (event.spelled ∙ behind (t.Text event.text) (on.spelled ∙ behind (fixed x.On) (a.spelled ∙ ap (λ l. spell_expression a.tree ++ l) (service.spelled ∙ ap (λ l. spell_service service.part ++ l) (fields.spelled ∙ ap (λ l. spell_fields fields.fields ++ l) end.spelled)) ∙ fire_spelled (spell_expression a.tree) (spell_service service.part) (spell_fields fields.fields) end.rest)));
      fine = and_join (is_literal event.text) (fits d a.tree && (option_fits is_literal service.part && list_all (field_fits (d + 1)) fields.fields)) event.fine
          (and_join (fits d a.tree) (option_fits is_literal service.part && list_all (field_fits (d + 1)) fields.fields) fine_tree
          (and_join (option_fits is_literal service.part) (list_all (field_fits (d + 1)) fields.fields) service.fine fields.fine));
      shorter = omega (arith, ap length event.spelled, ap length on.spelled, a.shorter, service.shorter, fields.shorter, ap length end.spelled);
      good = end.good;
      goes = end.goes;
    }
  where
    fire_spelled : (a b f rest : List Lexeme) → a ++ (b ++ (f ++ fixed x.Semicolon ∷ rest)) ≡ ((a ++ (b ++ f)) ++ fixed x.Semicolon ∷ []) ++ rest
    fire_spelled a b f rest = simp append_assoc

pub timer_read : (n : ℕ) → Expressions n → (ps : List Part) (is : List Item) (d : ℕ) (ts : List Lexeme) (s : Statements) → length ts ≤ n → d ≤ 64 → list_all is_proper ts ≡ true → verdict (Name ∷ One x.On ∷ Level 8 ∷ One x.At ∷ Level 8 ∷ Make SettingTimer ∷ MoreRepeat ∷ MoreKeep ∷ One x.Semicolon ∷ ps) is d ts ≡ Fine s → ReadStatement ps is d (fixed x.Timer ∷ ts) s
timer_read n reads ps is d ts s le deep g h =
    let last = MoreRepeat ∷ MoreKeep ∷ One x.Semicolon ∷ ps in
    let name = name_before x.On refl (Level 8 ∷ One x.At ∷ Level 8 ∷ Make SettingTimer ∷ last) is d ts s g h in
    let a = before_read n reads x.At refl (Level 8 ∷ Make SettingTimer ∷ last) (AName name.name ∷ is) d name.rest s (omega (arith, le, name.shorter)) deep name.good name.goes in
    let b = reads 8 (Make SettingTimer ∷ last) (ATree a.tree ∷ AName name.name ∷ is) d a.rest s (omega (arith, le, name.shorter, a.shorter)) deep a.good a.goes in
    let made = unmade SettingTimer last (ATree b.tree ∷ ATree a.tree ∷ AName name.name ∷ is) d b.rest s b.goes in
    let repeat = repeat_read n reads name.name a.tree b.tree (MoreKeep ∷ One x.Semicolon ∷ ps) is d b.rest s (omega (arith, le, name.shorter, a.shorter, b.shorter)) deep b.good made in
    let kept = kept_read name.name a.tree b.tree repeat.part (One x.Semicolon ∷ ps) is d repeat.rest s repeat.good repeat.goes in
    let end = one_read x.Semicolon ps (timer name.name a.tree b.tree repeat.part kept.part ∷ is) d kept.rest s kept.good kept.goes in
    let fine_start = (and_parts (nat_le (level b.tree) 8) (fits d b.tree) b.fine).1 in
    record {
      statement = tree.Timer (record { name = name.name; activity = a.tree; start = b.tree; repeat = repeat.part; keep = kept.part });
      rest = end.rest;
      spelled = behind (fixed x.Timer) (name.spelled ∙ behind (t.Name name.name) (behind (fixed x.On) (a.spelled ∙ ap (λ l. spell_expression a.tree ++ fixed x.At ∷ l) (b.spelled ∙ ap (λ l. spell_expression b.tree ++ l) (repeat.spelled ∙ ap (λ l. spell_repeat repeat.part ++ l) (kept.spelled ∙ ap (λ l. spell_keep kept.part ++ l) end.spelled))) ∙ timer_spelled (spell_expression a.tree) (spell_expression b.tree) (spell_repeat repeat.part) (spell_keep kept.part) end.rest)));
      fine = and_join (is_identifier name.name) (fits d a.tree && (fits d b.tree && option_fits (repeat_fits d) repeat.part)) name.fine
          (and_join (fits d a.tree) (fits d b.tree && option_fits (repeat_fits d) repeat.part) a.fine
          (and_join (fits d b.tree) (option_fits (repeat_fits d) repeat.part) fine_start repeat.fine));
      shorter = omega (arith, name.shorter, a.shorter, b.shorter, repeat.shorter, kept.shorter, ap length end.spelled);
      good = end.good;
      goes = end.goes;
    }
  where
    timer_spelled : (a b r k rest : List Lexeme) → a ++ fixed x.At ∷ (b ++ (r ++ (k ++ fixed x.Semicolon ∷ rest))) ≡ ((a ++ fixed x.At ∷ (b ++ (r ++ k))) ++ fixed x.Semicolon ∷ []) ++ rest
    timer_spelled a b r k rest = simp append_assoc
