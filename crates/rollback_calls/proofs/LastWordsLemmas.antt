-- How long lines are, and what a remove script comes to.
use Rattle.std.proofs.Common.{◌≡◌, ◌+◌, ◌<◌, ◌≤◌, ◌-◌, ◌^◌, ℕ, true, false, Bool, List, [], ◌∷◌, ◌++◌, length, map, drop, Option, Some, None, is_some, Ok, refl, sym, ap, ◌∙◌, subst, codes, length-append}
use Rattle.std.specs.Prelude.{nat_le, filter_map, slice_get}
use Rattle.std.specs.List.{flat_map, cons_option}
use Rattle.std.specs.Option.{option_map_or}
use Rattle.std.specs.Fmt.{decimal}
use native.Mathlib.Omega.{arith}
use Rattle.std.proofs.lemmas.Fmt.{length-decimal-le}
use Rattle.script_types.specs.declared.codes.Codes.{Codes as CodesInMemory}
use Rattle.script_types.specs.CodesOf.{codes_of}
use Rattle.script_types.specs.ProgramOf.{IsChecked, kept_program}
use Rattle.script_meaning.specs.Answers.{kept}
use Rattle.script_meaning.specs.Running.{key_limit}
use Rattle.script_laws.specs.Asking.{WereAsked, lacked_in}
use Rattle.script_laws.proofs.AskedKeys.{few_asked_in}
use Rattle.script_laws.proofs.KnownMore.{extends_more, asked_more}
use Rattle.slee_value.specs.Escape.{escaped, spelled_byte}
use Rattle.slee_value.specs.declared.ids.EntityId.{EntityId}
use Rattle.slee_value.specs.declared.value.Value.{Value}
use Rattle.slee_effect.specs.declared.effect.Effect.{Effect}
use Rattle.script_types.specs.Program.{Program, BlockProgram, Steps}
use Rattle.script_meaning.specs.declared.key.Key.{Key}
use Rattle.script_meaning.specs.declared.seen.Seen.{Seen}
use Rattle.script_meaning.specs.declared.outcome.Args.{Args}
use Rattle.script_meaning.specs.declared.which.Part.TheVariants as part
use Rattle.script_meaning.specs.declared.which.Which.{Which}
use Rattle.script_meaning.specs.Answers.{Answers}
use Rattle.script_meaning.specs.Meaning.{Before, nothing_before, Report, Meaning, Done, Need, Unchecked, meaning_in, meaning}
use Rattle.script_meaning.specs.Removal.{said, text_in, lines_of, lines_by, lines_in, no_args, lines_with, removal_lines}
use Rattle.script_laws.specs.Dependence.{Extends}
use Rattle.script_laws.proofs.LikeMeaning.{meaning_stays, meaning_stays_short}
use Rattle.handler_run.specs.Scripts.{script_of_block, script_of}
use Rattle.rollback_calls.specs.LastWords.{line_head, said_len, words_over}
use Rattle.rollback_calls.proofs.CallbackLemmas.{runs_as}

present_in : (o : Option Steps) → is_some o ≡ true → (steps : Steps) × (o ≡ Some steps)
present_in None h = absurd (cc)
present_in (Some steps) h = (steps, refl)

-- one byte more
pub one_byte : (b : ℕ) (bs : List ℕ) → length (escaped false (b ∷ bs)) ≡ length (spelled_byte false b) + length (escaped false bs)
one_byte b bs = length-append (spelled_byte false b) (escaped false bs)

said_length : (e : EntityId) (text : List ℕ) → length (said e text) ≡ line_head e + length (escaped false text)
said_length e text =
    let tail : List ℕ = codes " " ++ escaped false text in
    omega (arith, length-append (codes "  say e") (decimal e.0 ++ tail), length-append (decimal e.0) tail, length-append (codes " ") (escaped false text))

-- how many bytes the lines of effects have
abbrev total : EntityId → List Effect → ℕ
total e effects = length (flat_map (λ line. line) (lines_of e effects))

with_said : (e : EntityId) (o : Option (List ℕ)) (x : Effect) (effects : List Effect) → text_in x ≡ o → total e (x ∷ effects) ≡ said_len e o + total e effects
with_said e None x effects is = omega (arith, ap (λ o. length (flat_map (λ line. line) (map (said e) (cons_option o (filter_map text_in effects))))) is)
with_said e (Some text) x effects is =
    ap (λ o. length (flat_map (λ line. line) (map (said e) (cons_option o (filter_map text_in effects))))) is
    ∙ length-append (said e text) (flat_map (λ line. line) (lines_of e effects)) ∙ ap (λ n. n + total e effects) (said_length e text)

-- one effect more
pub one_effect : (e : EntityId) (x : Effect) (effects : List Effect) → length (flat_map (λ line. line) (lines_of e (x ∷ effects))) ≡ said_len e (text_in x) + length (flat_map (λ line. line) (lines_of e effects))
one_effect e x effects = with_said e (text_in x) x effects refl

pub said_or_not : (e : EntityId) → said_len e None ≡ 0
said_or_not e = refl

block_by : (program : Program) (number : ℕ) (steps : Steps) (x : Option BlockProgram) → slice_get program number ≡ x → script_of_block x (record { block = number; part = part.Remove }) ≡ Some steps → (block : BlockProgram) × (slice_get program number ≡ Some block) × (block.remove ≡ Some steps)
block_by program number steps None is h = cc
block_by program number steps (Some block) is h = (block, is, h)

-- the remove script of a block by its number
abbrev pub removes : Program → ℕ → Option Steps
removes program number = script_of program (record { block = number; part = part.Remove })

-- what it means for an entity
abbrev pub removal_over : Program → ℕ → EntityId → Answers → Meaning
removal_over program number e answers = meaning answers program (record { block = number; part = part.Remove }) e no_args nothing_before

words_by : (answers : Answers) (program : Program) (number : ℕ) (e : EntityId) (block : BlockProgram) (steps : Steps) → slice_get program number ≡ Some block → block.remove ≡ Some steps → words_over answers program number e ≡ lines_in e (meaning_in answers program block steps e no_args nothing_before)
words_by answers program number e block steps is own =
    ap (λ x. option_map_or (λ block. removal_lines answers program block e) x []) is ∙ ap (lines_with answers program block e) own

-- what a run that came to its end over fewer answers says
pub said_by : (answers given : Answers) (program : Program) (number : ℕ) (e : EntityId) (steps : Steps) (q : Report) → removes program number ≡ Some steps → Extends given answers → removal_over program number e given ≡ Done q → words_over answers program number e ≡ lines_by e q.outcome q.effects
said_by answers given program number e steps q there more done =
    let found = block_by program number steps (slice_get program number) refl there in
    words_by answers program number e found.0 steps found.1 found.2
    ∙ ap (lines_in e) (meaning_stays given answers program found.0 steps e no_args nothing_before q more (sym (runs_as given program (record { block = number; part = part.Remove }) e no_args nothing_before found.0 steps found.1 there) ∙ done))

no_end : (e : EntityId) (m : Meaning) → ((q : Report) → m ≡ Done q → ⊥) → lines_in e m ≡ []
no_end e (Done q) never = absurd (never q refl)
no_end e (Need key) never = refl
no_end e Unchecked never = refl

-- a script that lacks a key that has no answer says nothing
pub silent : (answers given : Answers) (program : Program) (number : ℕ) (e : EntityId) (steps : Steps) (key : Key) → removes program number ≡ Some steps → Extends given answers → removal_over program number e given ≡ Need key → answers key ≡ None → words_over answers program number e ≡ []
silent answers given program number e steps key there more lacks unknown =
    let found = block_by program number steps (slice_get program number) refl there in
    words_by answers program number e found.0 steps found.1 found.2
    ∙ no_end e (meaning_in answers program found.0 steps e no_args nothing_before) (λ q done. meaning_stays_short given answers program found.0 steps e no_args nothing_before key q more (sym (runs_as given program (record { block = number; part = part.Remove }) e no_args nothing_before found.0 steps found.1 there) ∙ lacks) unknown done)

no_words_in : (answers : Answers) (program : Program) (number : ℕ) (e : EntityId) (x : Option BlockProgram) → slice_get program number ≡ x → script_of_block x (record { block = number; part = part.Remove }) ≡ None → option_map_or (λ block. removal_lines answers program block e) x [] ≡ []
no_words_in answers program number e None is h = refl
no_words_in answers program number e (Some block) is h = ap (lines_with answers program block e) h

-- an entity whose block has no remove script says nothing
pub no_words : (answers : Answers) (program : Program) (number : ℕ) (e : EntityId) → removes program number ≡ None → words_over answers program number e ≡ []
no_words answers program number e h = no_words_in answers program number e (slice_get program number) refl h

asked_alike : (f g : Answers → Option Key) (known learned : List (Key × Seen)) → ((given : Answers) → f given ≡ g given) → WereAsked f known learned → WereAsked g known learned
asked_alike f g known [] same h = h
asked_alike f g known (pair ∷ learned) same h = (sym (same (kept known)) ∙ h.0, asked_alike f g (known ++ pair ∷ []) learned same h.1)

-- a remove script asks for at most 64 keys
pub few_for_removal : (codes : CodesInMemory) (number : ℕ) (e : EntityId) (steps : Steps) (learned : List (Key × Seen)) (key : Key) → IsChecked codes → removes (kept_program codes) number ≡ Some steps → WereAsked (λ given. lacked_in (removal_over (kept_program codes) number e given)) [] learned → removal_over (kept_program codes) number e (kept learned) ≡ Need key → length learned < key_limit
few_for_removal codes number e steps learned key made there asked lacks =
    let program : Program = kept_program codes in
    let which : Which = record { block = number; part = part.Remove } in
    let found = block_by program number steps (slice_get program number) refl there in
    let same : (given : Answers) → removal_over program number e given ≡ meaning_in given program found.0 steps e no_args nothing_before = λ given. runs_as given program which e no_args nothing_before found.0 steps found.1 there in
    few_asked_in (codes_of codes) program number found.0 part.Remove steps e no_args [] learned key made found.1 found.2
    (asked_alike (λ given. lacked_in (removal_over program number e given)) (λ given. lacked_in (meaning_in given program found.0 steps e no_args nothing_before)) [] learned (λ given. ap lacked_in (same given)) asked) (sym (same (kept learned)) ∙ lacks)

-- a run of it over what is known
pub removal_run : (program : Program) (number : ℕ) (e : EntityId) (known : List (Key × Seen)) (arguments : Args) (before : Before) (m : Meaning) → arguments ≡ no_args → before ≡ nothing_before → m ≡ meaning (kept known) program (record { block = number; part = part.Remove }) e arguments before → removal_over program number e (kept known) ≡ m
removal_run program number e known arguments before m none nothing is =
    ap (λ x. meaning (kept known) program (record { block = number; part = part.Remove }) e no_args x) (sym nothing)
    ∙ ap (λ x. meaning (kept known) program (record { block = number; part = part.Remove }) e x before) (sym none)
    ∙ sym is

-- a run that came to its end says it all
pub said_in_the_end : (answers : Answers) (program : Program) (number : ℕ) (e : EntityId) (known : List (Key × Seen)) (q : Report) → is_some (removes program number) ≡ true → Extends (kept known) answers → removal_over program number e (kept known) ≡ Done q → lines_by e q.outcome q.effects ≡ words_over answers program number e
said_in_the_end answers program number e known q there more done =
    let script = present_in (removes program number) there in
    sym (said_by answers (kept known) program number e script.0 q script.1 more done)

-- a run that asks for what has no answer says nothing
pub silent_for_want : (answers : Answers) (program : Program) (number : ℕ) (e : EntityId) (known : List (Key × Seen)) (key : Key) → is_some (removes program number) ≡ true → Extends (kept known) answers → removal_over program number e (kept known) ≡ Need key → None ≡ answers key → [] ≡ words_over answers program number e
silent_for_want answers program number e known key there more lacks unknown =
    let script = present_in (removes program number) there in
    sym (silent answers (kept known) program number e script.0 key script.1 more lacks (sym unknown))

-- what is known where one answer more is learned
pub answered_more : (answers : Answers) (known more : List (Key × Seen)) (key : Key) (seen : Seen) → Extends (kept known) answers → Some seen ≡ answers key → more ≡ known ++ (key, seen) ∷ [] → Extends (kept more) answers
answered_more answers known more key seen extends own is =
    subst (λ l. Extends (kept l) answers) (sym is) (extends_more answers known (key, seen) extends (sym own))

pub asked_one_more : (program : Program) (number : ℕ) (e : EntityId) (known more : List (Key × Seen)) (key : Key) (seen : Seen) → WereAsked (λ given. lacked_in (removal_over program number e given)) [] known → removal_over program number e (kept known) ≡ Need key → more ≡ known ++ (key, seen) ∷ [] → WereAsked (λ given. lacked_in (removal_over program number e given)) [] more
asked_one_more program number e known more key seen asked lacks is =
    subst (WereAsked (λ given. lacked_in (removal_over program number e given)) []) (sym is)
    (asked_more (λ given. lacked_in (removal_over program number e given)) [] known (key, seen) asked (ap lacked_in lacks))

pub fewer_left : (codes : CodesInMemory) (number : ℕ) (e : EntityId) (known more : List (Key × Seen)) (key : Key) (seen : Seen) → IsChecked codes → is_some (removes (kept_program codes) number) ≡ true → WereAsked (λ given. lacked_in (removal_over (kept_program codes) number e given)) [] known → removal_over (kept_program codes) number e (kept known) ≡ Need key → more ≡ known ++ (key, seen) ∷ [] → 64 - length more < 64 - length known
fewer_left codes number e known more key seen made there asked lacks is =
    let script = present_in (removes (kept_program codes) number) there in
    let few : length known < 64 = few_for_removal codes number e script.0 known key made script.1 asked lacks in
    omega (arith, few, ap length is, length-append known ((key, seen) ∷ []))

-- a number of 64 bits has at most twenty digits
pub few_digits : (n : ℕ) → n < 2 ^ 64 → length (decimal n) ≤ 20
few_digits n h = length-decimal-le 20 n (omega arith) (omega (arith, h)) h
