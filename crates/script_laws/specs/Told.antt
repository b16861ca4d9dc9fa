-- What a script is told of: what it is given, and what answers tell it.
use Rattle.std.specs.Prelude.{◌≡◌, ℕ, ◌+◌, ◌<◌, true, List, [], ◌∷◌, map, length, Option, Some}
use Rattle.std.specs.List.{AllByRecursion, flat_map, list_any}
use Rattle.slee_value.specs.declared.ids.EntityId.{EntityId}
use Rattle.slee_value.specs.declared.value.Value.{Value}
use Rattle.slee_effect.specs.declared.reference.Ref.TheVariants.{Known}
use Rattle.slee_effect.specs.declared.value.Val.TheVariants.{Plain}
use Rattle.script_types.specs.Codes.{Codes}
use Rattle.script_meaning.specs.declared.key.Key.{Key}
use Rattle.script_meaning.specs.declared.key.Key.TheVariants as k
use Rattle.script_meaning.specs.declared.seen.Seen.{Seen}
use Rattle.script_meaning.specs.declared.seen.Seen.TheVariants as s
use Rattle.script_meaning.specs.declared.outcome.Args.{Args}
use Rattle.script_meaning.specs.Seeing.{same_key}
use Rattle.script_meaning.specs.Answers.{Answers}
use Rattle.script_laws.specs.References.{Reference, ToEntity, ToActivity, ToTimer, in_value}

-- what named values refer to
abbrev pub in_values : List (List ℕ × Value) → List Reference
in_values values = flat_map (λ field. in_value (Plain field.1)) values

-- What an answer to a key tells of. That a timer stands on an activity is told, and not on which.
abbrev pub in_answer : Key → Option Seen → List Reference
in_answer (k.Field e name) (Some (s.Held (Some x))) = in_value (Plain x)
in_answer (k.Attr a key) (Some (s.Held (Some x))) = in_value (Plain x)
in_answer (k.Children e relation) (Some (s.Ids ids)) = map (λ n. ToEntity (Known n)) ids
in_answer (k.Activities e) (Some (s.Ids ids)) = map (λ n. ToActivity (Known n)) ids
in_answer (k.Named name) (Some (s.Refers (Some a))) = ToActivity (Known a.0) ∷ []
in_answer (k.Profile table row) (Some (s.Row (Some values))) = in_values values
in_answer _ _ = []

-- Among those that are known are all that a script is given: its entity, its activity, what the fields of its event refer to, `none` as an activity and as a timer, and the activities of the tables, which have the numbers from 1.
pub record HasGiven (known : Reference → Type 0) (all : Codes) (e : EntityId) (arguments : Args) : Type 0 where
  pub entity : known (ToEntity (Known e.0))
  pub activity : known (ToActivity (Known arguments.activity.0))
  pub fields : AllByRecursion known (in_values arguments.fields)
  pub no_activity : known (ToActivity (Known 0))
  pub no_timer : known (ToTimer (Known 0))
  pub tables : (place : ℕ) → place < length all.tables → known (ToActivity (Known (place + 1)))

-- and all that the answers to these keys tell of
abbrev pub HasAnswers : (Reference → Type 0) → Answers → List Key → Type 0
HasAnswers known answers keys = (key : Key) → list_any (same_key key) keys ≡ true → AllByRecursion known (in_answer key (answers key))
