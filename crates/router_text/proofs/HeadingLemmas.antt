-- Headings that name an activity and its head event.
use Rattle.std.proofs.Common.{◌≡◌, ℕ, List, ◌++◌, append_assoc, codes, ap}
use Rattle.std.specs.Prelude.{decimal}
use Rattle.script_meaning.specs.declared.outcome.Outcome.{Outcome}
use Rattle.router_steps.specs.Lines.{deliver_heading, initial_heading, initial_none_heading, outcome_words}

pub initial_is : (a v : ℕ) (service : List ℕ) (e : ℕ) (how : List ℕ)
    → initial_heading a v service e how ≡ codes "initial a" ++ (decimal a ++ (codes " v" ++ (decimal v ++ (codes " " ++ (service ++ (codes " e" ++ (decimal e ++ (codes " " ++ how))))))))
initial_is a v service e how =
    ap (λ more. codes "initial a" ++ more) (append_assoc (decimal a) (codes " v" ++ decimal v) (codes " " ++ (service ++ (codes " e" ++ (decimal e ++ (codes " " ++ how))))))

pub initial_none_is : (a v : ℕ) (service : List ℕ) → initial_none_heading a v service ≡ codes "initial a" ++ (decimal a ++ (codes " v" ++ (decimal v ++ (codes " " ++ (service ++ codes " none")))))
initial_none_is a v service = ap (λ more. codes "initial a" ++ more) (append_assoc (decimal a) (codes " v" ++ decimal v) (codes " " ++ (service ++ codes " none")))

pub deliver_is : (a v e : ℕ) (outcome : Outcome)
    → deliver_heading a v e outcome ≡ codes "deliver a" ++ (decimal a ++ (codes " v" ++ (decimal v ++ (codes " e" ++ (decimal e ++ (codes " " ++ outcome_words outcome))))))
deliver_is a v e outcome = ap (λ more. codes "deliver a" ++ more) (append_assoc (decimal a) (codes " v" ++ decimal v) (codes " e" ++ (decimal e ++ (codes " " ++ outcome_words outcome))))
