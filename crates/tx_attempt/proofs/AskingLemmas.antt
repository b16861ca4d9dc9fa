-- Attempts ask for few keys, of which nothing is known.
use Rattle.std.proofs.Common.{◌≡◌, ◌+◌, ◌*◌, ◌<◌, ◌≤◌, ℕ, List, [], ◌∷◌, ◌++◌, length, Option, Some, None, Ok, refl, sym, ap, ◌∙◌, subst}
use Rattle.std.specs.Prelude.{slice_get}
use Rattle.std.specs.Option.{option_and_then}
use native.Mathlib.Omega.{arith}
use Rattle.script_types.specs.declared.codes.Codes.{Codes as CodesInMemory}
use Rattle.script_types.specs.CodesOf.{codes_of}
use Rattle.script_types.specs.ProgramOf.{IsChecked, kept_program}
use Rattle.script_types.specs.Program.{Program}
use Rattle.script_meaning.specs.declared.key.Key.{Key}
use Rattle.script_meaning.specs.declared.seen.Seen.{Seen}
use Rattle.script_meaning.specs.Answers.{Answers, kept}
use Rattle.script_meaning.specs.Delivery.{Delivery, Wants}
use Rattle.script_laws.specs.Asking.{lacked_by, WereAsked}
use Rattle.script_laws.proofs.AskedKeys.{few_asked, unknown_asked}
use Rattle.script_laws.proofs.KnownMore.{asked_more}
use Rattle.rollback_calls.specs.declared.prepared.PreparedDelivery.{PreparedDelivery}
use Rattle.rollback_calls.specs.Prepared.{delivery_over}
use Rattle.tx_attempt.specs.declared.attempt.Attempt.{Attempt}
use Rattle.tx_attempt.specs.Attempts.{asked_for, HasAsked, IsNeeded, IsSameTask, known_limit}

few_known : (codes : CodesInMemory) (d : PreparedDelivery) (known : List (Key × Seen)) (key : Key) → IsChecked codes → asked_for (λ answers. lacked_by (delivery_over (kept_program codes) d answers)) known → delivery_over (kept_program codes) d (kept known) ≡ Wants key → length known ≤ known_limit
few_known codes d [] key made asked h = omega arith
few_known codes d (pair ∷ learned) key made asked h =
    let few : length learned < 128 = few_asked (codes_of codes) (kept_program codes) d.block d.entity d.arguments.activity d.event d.arguments.fields (pair ∷ []) learned key made asked h in
    omega (arith, few)

-- a key that is wanted is needed
pub is_needed : (codes : CodesInMemory) (a : Attempt) (key : Key) → IsChecked codes → HasAsked (kept_program codes) a → delivery_over (kept_program codes) a.delivery (kept a.known) ≡ Wants key → IsNeeded (kept_program codes) a key
is_needed codes a key made asked h = record {
  wanted = h;
  unknown = unknown_asked (codes_of codes) (kept_program codes) a.delivery.block a.delivery.entity a.delivery.arguments.activity a.delivery.event a.delivery.arguments.fields (kept a.known) key made h;
  few = few_known codes a.delivery a.known key made asked h;
}

-- what is learned of it was asked for
pub learned_asked : (lacks : Answers → Option Key) (known : List (Key × Seen)) (pair : Key × Seen) → asked_for lacks known → lacks (kept known) ≡ Some pair.0 → asked_for lacks (known ++ pair ∷ [])
learned_asked lacks [] pair asked h = tt
learned_asked lacks (x ∷ learned) pair asked h = asked_more lacks (x ∷ []) learned pair asked h

-- the same task has asked for the same
pub same_asked : (program : Program) (a b : Attempt) → IsSameTask a b → HasAsked program a → HasAsked program b
same_asked program a b same asked =
    subst (λ d. asked_for (λ answers. lacked_by (delivery_over program d answers)) b.known) (sym same.delivery)
    (subst (asked_for (λ answers. lacked_by (delivery_over program a.delivery answers))) (sym same.known) asked)
