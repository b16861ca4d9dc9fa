-- A delivery that is complete over some answers is the same over more.
use Rattle.std.proofs.Common.{◌≡◌, ℕ, List, Option, Some, None, refl, ap, ◌∙◌}
use Rattle.std.specs.Prelude.{slice_get}
use Rattle.slee_value.specs.declared.ids.EntityId.{EntityId}
use Rattle.slee_value.specs.declared.ids.ActivityId.{ActivityId}
use Rattle.slee_value.specs.declared.value.Value.{Value}
use Rattle.script_types.specs.Program.{Steps, BlockProgram, Program}
use Rattle.script_meaning.specs.declared.outcome.Outcome.{Outcome}
use Rattle.script_meaning.specs.declared.outcome.Outcome.TheVariants as o
use Rattle.script_meaning.specs.Answers.{Answers}
use Rattle.script_meaning.specs.Meaning.{Before, nothing_before, Report, Meaning, Done, Need, Unchecked, meaning_in}
use Rattle.script_meaning.specs.Delivery.{Delivered, Delivery, Complete, Wants, NotChecked, reported, run_callback, on_failure, outcome_of, standing, called_back, behind, callback_args, delivered_by, handled, handler_of, with_block, delivered}
use Rattle.script_laws.specs.Dependence.{Extends}
use Rattle.script_laws.proofs.LikeMeaning.{meaning_stays}

-- how a callback runs, and whatever ends over some answers ends alike over more
abbrev Runs : Type 0
Runs = Steps → Before → Meaning

abbrev StaysDone : Meaning → Meaning → Type 0
StaysDone m n = (q : Report) → m ≡ Done q → n ≡ Done q

reported_stays : (x : Delivered) (m n : Meaning) (f g : Report → Delivery) → StaysDone m n → ((q : Report) → f q ≡ Complete x → g q ≡ Complete x) → reported m f ≡ Complete x → reported n g ≡ Complete x
reported_stays x (Done q) n f g stays go h = ap (λ m. reported m g) (stays q refl) ∙ go q h
reported_stays x (Need key) n f g stays go h = cc
reported_stays x Unchecked n f g stays go h = cc

callback_stays : (x : Delivered) (run other : Runs) (steps : Option Steps) (before : Before) (f g : Option Report → Delivery) → ((s : Steps) (b : Before) → StaysDone (run s b) (other s b)) → ((q : Option Report) → f q ≡ Complete x → g q ≡ Complete x) → run_callback run steps before f ≡ Complete x → run_callback other steps before g ≡ Complete x
callback_stays x run other None before f g stays go h = go None h
callback_stays x run other (Some steps) before f g stays go h = reported_stays x (run steps before) (other steps before) (λ q. f (Some q)) (λ q. g (Some q)) (stays steps before) (λ q. go (Some q)) h

called_back_stays : (x : Delivered) (run other : Runs) (block : BlockProgram) (handler : Report) → ((s : Steps) (b : Before) → StaysDone (run s b) (other s b)) → called_back run block handler ≡ Complete x → called_back other block handler ≡ Complete x
called_back_stays x run other block handler stays h =
    let last : Option Report → Option Report → Delivery = λ exception rolled_back. Complete (record { outcome = handler.outcome; exception = outcome_of exception; rolled_back = outcome_of rolled_back; effects = standing rolled_back }) in
    callback_stays x run other (on_failure handler.outcome block.exception) (record { effects = handler.effects; keys = handler.keys }) (λ exception. run_callback run block.rolled_back nothing_before (last exception)) (λ exception. run_callback other block.rolled_back nothing_before (last exception)) stays
    (λ exception k. callback_stays x run other block.rolled_back nothing_before (last exception) (last exception) stays (λ q z. z) k) h

behind_stays : (x : Delivered) (run other : List ℕ → Runs) (block : BlockProgram) (handler : Report) (outcome : Outcome) → ((t : List ℕ) (s : Steps) (b : Before) → StaysDone (run t s b) (other t s b)) → behind run block handler outcome ≡ Complete x → behind other block handler outcome ≡ Complete x
behind_stays x run other block handler o.Fine stays h = h
behind_stays x run other block handler o.Asked stays h = called_back_stays x (run handler.failure) (other handler.failure) block handler (stays handler.failure) h
behind_stays x run other block handler (o.Broken kind) stays h = called_back_stays x (run handler.failure) (other handler.failure) block handler (stays handler.failure) h

pub delivery_by_stays : (answers other : Answers) (program : Program) (block : BlockProgram) (steps : Steps) (e : EntityId) (a : ActivityId) (fields : List (List ℕ × Value)) (x : Delivered) → Extends answers other → delivered_by answers program block steps e a fields ≡ Complete x → delivered_by other program block steps e a fields ≡ Complete x
unfolding delivered_by
delivery_by_stays answers other program block steps e a fields x more h =
    let run : Answers → List ℕ → Runs = λ answers failure callback before. meaning_in answers program block callback e (callback_args a failure) before in
    reported_stays x _ _ (λ handler. behind (run answers) block handler handler.outcome) (λ handler. behind (run other) block handler handler.outcome)
    (λ q done. meaning_stays answers other program block steps e _ nothing_before q more done)
    (λ handler k. behind_stays x (run answers) (run other) block handler handler.outcome (λ t s b q done. meaning_stays answers other program block s e (callback_args a t) b q more done) k) h

handled_stays : (answers other : Answers) (program : Program) (block : BlockProgram) (steps : Option Steps) (e : EntityId) (a : ActivityId) (fields : List (List ℕ × Value)) (x : Delivered) → Extends answers other → handled steps (λ steps. delivered_by answers program block steps e a fields) ≡ Complete x → handled steps (λ steps. delivered_by other program block steps e a fields) ≡ Complete x
handled_stays answers other program block None e a fields x more h = cc
handled_stays answers other program block (Some steps) e a fields x more h = delivery_by_stays answers other program block steps e a fields x more h

block_stays : (answers other : Answers) (program : Program) (block : Option BlockProgram) (e : EntityId) (a : ActivityId) (event : List ℕ) (fields : List (List ℕ × Value)) (x : Delivered) → Extends answers other →
    with_block block (λ block. handled (handler_of event block) (λ steps. delivered_by answers program block steps e a fields)) ≡ Complete x → with_block block (λ block. handled (handler_of event block) (λ steps. delivered_by other program block steps e a fields)) ≡ Complete x
block_stays answers other program None e a event fields x more h = cc
block_stays answers other program (Some block) e a event fields x more h = handled_stays answers other program block (handler_of event block) e a fields x more h

-- what is complete over some answers is so over more
pub delivery_stays : (answers other : Answers) (program : Program) (number : ℕ) (e : EntityId) (a : ActivityId) (event : List ℕ) (fields : List (List ℕ × Value)) (x : Delivered) → Extends answers other → delivered answers program number e a event fields ≡ Complete x → delivered other program number e a event fields ≡ Complete x
delivery_stays answers other program number e a event fields x more h = block_stays answers other program (slice_get program number) e a event fields x more h
