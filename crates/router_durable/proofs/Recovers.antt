-- What is written is recovered.
use Rattle.std.proofs.Common.{◌≡◌, ◌≢◌, if◌then◌else◌, ℕ, ◌+◌, ◌==◌, ◌≤◌, drop, inl, inr, List, [], ◌∷◌, ◌++◌, length, map, true, false, not, refl, sym, ◌∙◌, ap, subst, Option, Some, None, Ok, arith}
use Rattle.std.specs.Str.{bytes_eq}
use Rattle.std.proofs.lemmas.Bool.{cases_Bool, ne_eqb, not-true, not-false}
use Rattle.std.proofs.lemmas.List.{drop_all}
use Rattle.std.proofs.lemmas.Slice.Eq.{bytes_eq-Decides}
use mathlib.Core.List.{IsPrefix}
use Rattle.slee_disk.specs.Sides.{Sides}
use Rattle.commit_journal.specs.Reading.{Kept, recovered, first_gate}
use Rattle.commit_journal.specs.Spelling.{format_number}
use Rattle.commit_journal.specs.Kept.{Keeps}
use Rattle.commit_journal.specs.declared.format.Format.{Format}
use Rattle.commit_journal.specs.declared.format.Format.TheVariants.{Two}
use Rattle.commit_journal.specs.declared.fault.JournalBad.TheVariants as kinds
use Rattle.commit_journal.specs.Views.{payload_of, located}
use Rattle.trace_history.specs.Histories.{choices_of}
use Rattle.trace_history.specs.declared.choice.Choice.{Choice}
use Rattle.trace_history.specs.declared.entry.Entry.{Entry}
use Rattle.router_state.specs.Restoring.{state_of_snapshot}
use Rattle.router_state.specs.State.{State}
use Rattle.router_steps.specs.Histories.{is_choice, replay, Legal}
use Rattle.router_steps.specs.Payloads.{payload, payloads, choice_in}
use Rattle.router_steps.specs.Steps.{after, is_enabled}
use Rattle.router_durable.specs.Choices.{after_all, AreEnabled, AreChoices, AreReadAgain, written_format}
use Rattle.router_durable.specs.Recovery.{kept_part, wrong_by, wrong_at, after_if, first_wrong, Misfit, misfit, with_choice, choices_in, unless_misfit, past_from, past_of, past, end_of, records_of}
use Rattle.router_durable.specs.Facts.{AreRead, Origin, base_of, records_since, RestartsIn}
use Rattle.router_durable.proofs.HistoryLemmas.{after_all-append, payloads-append, enabled-append, again-append, valid-append, legal_enabled, legal_choices, replay-choices}

pub choices_again : (s : State) (cs : List Choice) → AreReadAgain s cs → choices_in written_format (payloads written_format s cs) ≡ cs
choices_again s [] again = refl
choices_again s (c ∷ cs) again =
    ap (λ x. with_choice x (choices_in written_format (payloads written_format (after s c) cs))) again.0
    ∙ ap (λ (l : List Choice). c ∷ l) (choices_again (after s c) cs again.1)

fits_again : (s : State) (c : Choice) → choice_in written_format (payload written_format s c) ≡ Some c → is_choice c ≡ true → is_enabled s c ≡ true → wrong_at written_format s (payload written_format s c) ≡ None
fits_again s c again valid enabled =
    let same : bytes_eq (payload written_format s c) (payload written_format s c) ≡ true = (bytes_eq-Decides (payload written_format s c) (payload written_format s c)).1 refl in
    ap (wrong_by written_format s (payload written_format s c)) again ∙ rw (valid, enabled, same) refl

pub no_misfit : (s : State) (cs : List Choice) (n : ℕ) → AreReadAgain s cs → AreChoices cs → AreEnabled s cs → misfit written_format s (located n (payloads written_format s cs)) ≡ None
no_misfit s [] n again valid enabled = refl
no_misfit s (c ∷ cs) n again valid enabled =
    let rest = located (n + (5 + length (payload written_format s c))) (payloads written_format (after s c) cs) in
    ap (λ x. first_wrong n x (misfit written_format (after_if s (choice_in written_format (payload written_format s c))) rest)) (fits_again s c again.0 valid.0 enabled.0)
    ∙ ap (λ x. misfit written_format (after_if s x) rest) again.0
    ∙ no_misfit (after s c) cs (n + (5 + length (payload written_format s c))) again.1 valid.1 enabled.1

pub payloads_located : (n : ℕ) (ps : List (List ℕ)) → map payload_of (located n ps) ≡ ps
payloads_located n [] = refl
payloads_located n (p ∷ ps) = ap (λ (l : List (List ℕ)). p ∷ l) (payloads_located (n + (5 + length p)) ps)

-- a snapshot, and the records of choices that may be made behind it
pub past_again : (first start : State) (deployment : List ℕ) (sides : Sides) (kept : Kept) (cs : List Choice) → recovered deployment sides ≡ Ok (Some kept)
    → state_of_snapshot written_format first.deployment first.program kept.head.snapshot ≡ Some start → kept.head.format ≡ Two
    → kept.payloads ≡ payloads written_format start cs → AreReadAgain start cs → AreChoices cs → AreEnabled start cs
    → past first deployment sides ≡ Ok (record { start = start; choices = cs })
past_again first start deployment sides kept cs is based format spelled again valid enabled =
    let rs = located (first_gate kept.head) kept.payloads in
    let last = payloads written_format start cs in
    ap (past_of first) is
    ∙ ap (λ (f : Format). past_from kept.side (format_number f) rs (state_of_snapshot (format_number f) first.deployment first.program kept.head.snapshot)) format
    ∙ ap (λ (s : Option State). past_from kept.side written_format rs s) based
    ∙ ap (λ (ps : List (List ℕ)). past_from kept.side written_format (located (first_gate kept.head) ps) (Some start)) spelled
    ∙ ap (λ (m : Option Misfit). unless_misfit kept.side m (record { start = start; choices = choices_in written_format (map payload_of (located (first_gate kept.head) last)) }))
    (no_misfit start cs (first_gate kept.head) again valid enabled)
    ∙ ap (λ (l : List Choice). Ok (record { start = start; choices = l })) (ap (choices_in written_format) (payloads_located (first_gate kept.head) last) ∙ choices_again start cs again)

-- sides that keep the records found and those of some entries
pub restarts_in : (o : Origin) (history part : List Entry) (least : ℕ) (kept : Kept) (image : Sides)
    → AreRead o.start o.found → kept.head.deployment ≡ o.deployment → state_of_snapshot written_format o.initial.deployment o.initial.program kept.head.snapshot ≡ Some o.start → kept.head.format ≡ Two
    → Keeps kept image → kept.payloads ≡ o.found ++ records_since o part → Legal (base_of o) part → AreReadAgain (base_of o) (choices_of part)
    → IsPrefix part history → least ≤ length part → RestartsIn o history least image
restarts_in o history part least kept image found named based format keeps are legal again front some =
    let first = choices_in written_format o.found in
    let start = o.start in
    let is : recovered o.deployment image ≡ Ok (Some kept) = subst (λ (d : List ℕ). recovered d image ≡ Ok (Some kept)) named keeps in
    let spelled : kept.payloads ≡ payloads written_format start (first ++ choices_of part) = are ∙ ap (λ (ps : List (List ℕ)). ps ++ records_since o part) found.spelled ∙ sym (payloads-append start first (choices_of part)) in
    let enabled : AreEnabled start (first ++ choices_of part) = enabled-append start first (choices_of part) found.enabled (legal_enabled (base_of o) part legal) in
    let read : AreReadAgain start (first ++ choices_of part) = again-append start first (choices_of part) found.again again in
    let given : AreChoices (first ++ choices_of part) = valid-append first (choices_of part) found.given (legal_choices (base_of o) part legal) in
    record {
      part = part;
      front = front;
      some = some;
      state = ap end_of (past_again o.initial start o.deployment image kept (first ++ choices_of part) is based format spelled read given enabled) ∙ ap (λ (s : State). Ok s) (replayed part);
      records = ap records_of is ∙ are;
    }
  where
    replayed : (part : List Entry) → after_all o.start (choices_in written_format o.found ++ choices_of part) ≡ replay (base_of o) part
    replayed part = after_all-append o.start (choices_in written_format o.found) (choices_of part) ∙ sym (replay-choices (base_of o) part)

-- what is wrong with a payload of a choice that may be made
pub wrong_same : (format : ℕ) (s : State) (bytes those : List ℕ) (x : Option Choice) (c : Choice) → x ≡ Some c → is_choice c ≡ true → is_enabled s c ≡ true → those ≡ payload format s c → not (bytes_eq bytes those) ≡ false → wrong_by format s bytes x ≡ None
wrong_same format s bytes those x c is valid enabled made same =
    let equal : bytes_eq bytes (payload format s c) ≡ true = subst (λ (p : List ℕ). bytes_eq bytes p ≡ true) made (not-false (bytes_eq bytes those) same) in
    ap (wrong_by format s bytes) is ∙ rw (valid, enabled, equal) refl

pub wrong_other : (format : ℕ) (s : State) (bytes those : List ℕ) (x : Option Choice) (c : Choice) → x ≡ Some c → is_choice c ≡ true → is_enabled s c ≡ true → those ≡ payload format s c → not (bytes_eq bytes those) ≡ true → wrong_by format s bytes x ≡ Some kinds.Replay
wrong_other format s bytes those x c is valid enabled made other =
    let differs : bytes_eq bytes (payload format s c) ≡ false = subst (λ (p : List ℕ). bytes_eq bytes p ≡ false) made (not-true (bytes_eq bytes those) other) in
    ap (wrong_by format s bytes) is ∙ rw (valid, enabled, differs) refl

-- what a journal of a format keeps of a step, by what one of the second format keeps
pub kept_payload : (format : ℕ) (s : State) (c : Choice) → kept_part format (payload 2 s c) ≡ payload format s c
kept_payload format s c = elim (cases_Bool (format == 2)) [
  | inl two ↦ rw two refl
  | inr other ↦ rw other refl
]

pub kept_whole : (format : ℕ) (bytes : List ℕ) → format ≡ 2 → bytes ≡ kept_part format bytes
kept_whole format bytes two = subst (λ f. bytes ≡ kept_part f bytes) (sym two) refl

pub kept_behind : (format : ℕ) (bytes : List ℕ) → format ≢ 2 → drop 8 bytes ≡ kept_part format bytes
kept_behind format bytes other = subst (λ b. drop 8 bytes ≡ (if b then bytes else drop 8 bytes)) (sym (ne_eqb format 2 other)) refl

pub kept_short : (format : ℕ) (bytes : List ℕ) → format ≢ 2 → length bytes ≤ 8 → [] ≡ kept_part format bytes
kept_short format bytes other short = sym (drop_all 8 bytes short) ∙ kept_behind format bytes other
