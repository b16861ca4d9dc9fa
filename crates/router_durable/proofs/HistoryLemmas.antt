-- Histories and lists of choices that grow.
use Rattle.std.proofs.Common.{◌≡◌, ℕ, zero, suc, List, [], ◌∷◌, ◌++◌, take, drop, refl, ap}
use Rattle.trace_history.specs.Histories.{choices_of}
use Rattle.trace_history.specs.declared.choice.Choice.{Choice}
use Rattle.trace_history.specs.declared.entry.Entry.{Entry}
use Rattle.router_state.specs.State.{State}
use Rattle.router_steps.specs.Histories.{replay, Legal}
use Rattle.router_steps.specs.Payloads.{payload, payloads}
use Rattle.router_steps.specs.Steps.{after}
use Rattle.router_durable.specs.Choices.{after_all, AreEnabled, AreChoices, AreReadAgain, written_format}

-- choices

pub after_all-append : (s : State) (h k : List Choice) → after_all s (h ++ k) ≡ after_all (after_all s h) k
after_all-append s [] k = refl
after_all-append s (c ∷ cs) k = after_all-append (after s c) cs k

pub enabled-append : (s : State) (h k : List Choice) → AreEnabled s h → AreEnabled (after_all s h) k → AreEnabled s (h ++ k)
enabled-append s [] k a b = b
enabled-append s (c ∷ cs) k a b = (a.0, enabled-append (after s c) cs k a.1 b)

pub again-append : (s : State) (h k : List Choice) → AreReadAgain s h → AreReadAgain (after_all s h) k → AreReadAgain s (h ++ k)
again-append s [] k a b = b
again-append s (c ∷ cs) k a b = (a.0, again-append (after s c) cs k a.1 b)

pub valid-append : (h k : List Choice) → AreChoices h → AreChoices k → AreChoices (h ++ k)
valid-append [] k a b = b
valid-append (c ∷ cs) k a b = (a.0, valid-append cs k a.1 b)

pub payloads-append : (s : State) (h k : List Choice) → payloads written_format s (h ++ k) ≡ payloads written_format s h ++ payloads written_format (after_all s h) k
payloads-append s [] k = refl
payloads-append s (c ∷ cs) k = ap (λ (ps : List (List ℕ)). payload written_format s c ∷ ps) (payloads-append (after s c) cs k)

-- entries

pub choices_of-append : (h k : List Entry) → choices_of (h ++ k) ≡ choices_of h ++ choices_of k
choices_of-append [] k = refl
choices_of-append (e ∷ es) k = ap (λ (cs : List Choice). e.choice ∷ cs) (choices_of-append es k)

pub replay-append : (s : State) (h k : List Entry) → replay s (h ++ k) ≡ replay (replay s h) k
replay-append s [] k = refl
replay-append s (e ∷ es) k = replay-append (after s e.choice) es k

pub legal-append : (s : State) (h k : List Entry) → Legal s h → Legal (replay s h) k → Legal s (h ++ k)
legal-append s [] k a b = b
legal-append s (e ∷ es) k a b = (a.0, a.1, a.2, legal-append (after s e.choice) es k a.3 b)

-- a history leaves what its choices leave
pub replay-choices : (s : State) (h : List Entry) → replay s h ≡ after_all s (choices_of h)
replay-choices s [] = refl
replay-choices s (e ∷ es) = replay-choices (after s e.choice) es

-- the choices of a legal history may be made
pub legal_enabled : (s : State) (h : List Entry) → Legal s h → AreEnabled s (choices_of h)
legal_enabled s [] l = tt
legal_enabled s (e ∷ es) l = (l.1, legal_enabled (after s e.choice) es l.3)

-- and each is one that a line can give
pub legal_choices : (s : State) (h : List Entry) → Legal s h → AreChoices (choices_of h)
legal_choices s [] l = tt
legal_choices s (e ∷ es) l = (l.0, legal_choices (after s e.choice) es l.3)

-- the first entries of a legal history are one
pub legal_front : (s : State) (h k : List Entry) → Legal s (h ++ k) → Legal s h
legal_front s [] k l = tt
legal_front s (e ∷ es) k l = (l.0, l.1, l.2, legal_front (after s e.choice) es k l.3)

-- and so it is with choices that are read again
pub again_front : (s : State) (h k : List Entry) → AreReadAgain s (choices_of (h ++ k)) → AreReadAgain s (choices_of h)
again_front s [] k l = tt
again_front s (e ∷ es) k l = (l.0, again_front (after s e.choice) es k l.1)

-- so many entries, and those behind them
pub take_drop : (n : ℕ) (h : List Entry) → take n h ++ drop n h ≡ h
take_drop zero h = refl
take_drop (suc n) [] = refl
take_drop (suc n) (e ∷ es) = ap (λ (l : List Entry). e ∷ l) (take_drop n es)
