-- What an entity says when it goes, by its fields in the state with the changes so far.
use Rattle.std.proofs.Common.{◌≡◌, ◌==◌, ◌∙◌, ℕ, true, List, [], ◌∷◌, Option, Some, None, refl, sym, ap, subst, inl, inr, arith}
use Rattle.std.specs.Prelude.{option_map}
use Rattle.std.specs.Option.{option_map_or}
use Rattle.std.proofs.lemmas.Bool.{cases_Bool}
use Rattle.std.proofs.lemmas.Bool.Decides.{nat_tests}
use Rattle.slee_value.specs.declared.ids.EntityId.{EntityId}
use Rattle.script_types.specs.declared.codes.Codes.{Codes}
use Rattle.script_types.specs.Program.{Program}
use Rattle.script_types.specs.ProgramOf.{IsChecked, kept_program}
use Rattle.script_meaning.specs.Answers.{Answers}
use Rattle.slee_descriptor.specs.declared.deployment.Deployment.{Deployment}
use Rattle.rollback_calls.specs.LastWords.{own_answers, words_over}
use Rattle.router_state.specs.State.{State}
use Rattle.router_state.specs.Changes.{after_changes}
use Rattle.router_state.specs.Fields.{field_at}
use Rattle.router_state.specs.Trees.{entity_at}
use Rattle.router_state.specs.declared.change.Change.{Change}
use Rattle.router_state.specs.declared.rows.Entity.{Entity}
use Rattle.router_steps.specs.Going.{lines_of_parting}
use Rattle.router_steps.specs.Scripts.{answers_in, last_words}
use Rattle.router_laws.proofs.KeptLemmas.{same_change}
use Rattle.router_basis.specs.Deploying.{IsDeployed}
use Rattle.router_basis.proofs.OwnWords.{words_same}

-- the scripts of a deployment are checked
pub are_checked : (d : Deployment) (s : State) (codes : Codes) → IsDeployed d s → codes ≡ d.codes → IsChecked codes
are_checked d s codes own same = subst IsChecked (sym same) own.checked

-- no change changes the scripts
program_laid : (cs : List Change) (s : State) → (after_changes cs s).program ≡ s.program
program_laid [] s = refl
program_laid (c ∷ cs) s = program_laid cs _ ∙ (same_change c s).1

-- the answers of whoever has the fields of a state
abbrev fields_of : State → Answers
fields_of s = own_answers (λ e name. field_at s.fields e.0 name)

same_number : (m e : ℕ) → (m == e) ≡ true → m ≡ e
same_number m e is = grind (arith, nat_tests, is)

found_own : (rows : List Entity) (e : ℕ) (row : Entity) → entity_at rows e ≡ Some row → row.number.0 ≡ e
found_own [] e row is = absurd cc
found_own (x ∷ xs) e row is = elim (cases_Bool (x.number.0 == e)) [
  | inl own ↦ let same : x ≡ row = let first : Some x ≡ Some row = rw own at is in cc in ap (λ (r : Entity). r.number.0) (sym same) ∙ same_number x.number.0 e own
  | inr other ↦ found_own xs e row (rw other at is)
]

-- the words of the entity's own program over all answers
words_of_row : (s : State) (program : Program) (row : Entity) → program ≡ s.program → words_over (answers_in s) program row.block row.number ≡ last_words s row
words_of_row s program row same = ap (λ (p : Program). words_over (answers_in s) p row.block row.number) same

over_fields : (s : State) (codes : Codes) (e : EntityId) (block : ℕ) (o : Option Entity) → IsChecked codes → kept_program codes ≡ s.program → ((row : Entity) → o ≡ Some row → row.number.0 ≡ e.0) → option_map (λ (row : Entity). row.block) o ≡ Some block
    → words_over (fields_of s) (kept_program codes) block e ≡ option_map_or (last_words s) o []
over_fields s codes e block None made same own is = absurd cc
over_fields s codes e block (Some row) made same own is =
    let first : row.block ≡ block = cc in
    let number : row.number ≡ e = ap (λ (n : ℕ). record { 0 = n }) (own row refl) in
    words_same (fields_of s) (answers_in s) (λ f name. refl) codes block e made
    ∙ ap (λ (n : ℕ). words_over (answers_in s) (kept_program codes) n e) (sym first)
    ∙ ap (λ (f : EntityId). words_over (answers_in s) (kept_program codes) row.block f) (sym number)
    ∙ words_of_row s (kept_program codes) row same

-- an entity that is there says what its script says over its fields
pub says_all : (d : Deployment) (s : State) (cs : List Change) (codes : Codes) (e : EntityId) (block : ℕ) → IsDeployed d s → codes ≡ d.codes
    → Some block ≡ option_map (λ (row : Entity). row.block) (entity_at (after_changes cs s).entities e.0)
    → words_over (own_answers (λ f name. field_at (after_changes cs s).fields f.0 name)) (kept_program codes) block e ≡ lines_of_parting (after_changes cs s) e.0
says_all d s cs codes e block own same is =
    over_fields (after_changes cs s) codes e block (entity_at (after_changes cs s).entities e.0) (are_checked d s codes own same)
    (ap kept_program same ∙ own.program ∙ sym (program_laid cs s)) (found_own (after_changes cs s).entities e.0) (sym is)

none_said : (s : State) (o : Option Entity) → None ≡ option_map (λ (row : Entity). row.block) o → option_map_or (last_words s) o [] ≡ []
none_said s None is = refl
none_said s (Some row) is = absurd cc

-- and one that isn't there says nothing
pub says_nothing : (s : State) (e : ℕ) → None ≡ option_map (λ (row : Entity). row.block) (entity_at s.entities e) → lines_of_parting s e ≡ []
says_nothing s e is = none_said s (entity_at s.entities e) is
