-- Where ends of activities wait.
use Rattle.std.proofs.Common.{◌≡◌, Bool, true, false, List, [], ◌∷◌, ◌++◌, map, refl, ap, ◌∙◌, sym}
use Rattle.std.specs.Prelude.{◌&&◌, not}
use Rattle.std.specs.List.{list_all}
use Rattle.router_state.specs.WellQueues.{has_end_last, has_no_end, is_end}
use Rattle.router_state.specs.declared.rows.Queued.{Queued}

pub none_ends : (events : List Queued) → list_all (λ (q : Queued). not (is_end q.event)) events ≡ has_no_end (map (λ (q : Queued). q.event) events)
none_ends [] = refl
none_ends (q ∷ qs) = ap (λ (rest : Bool). not (is_end q.event) && rest) (none_ends qs)

regrouped : (a b c : Bool) → (a && (b && c)) ≡ ((a && b) && c)
regrouped true b c = refl
regrouped false b c = refl

last_of : (before : List Queued) (last : Queued) → (has_no_end (map (λ (q : Queued). q.event) before) && is_end last.event) ≡ has_end_last (map (λ (q : Queued). q.event) (before ++ last ∷ []))
last_of [] last = refl
last_of (q ∷ []) last = regrouped_one (not (is_end q.event)) (is_end last.event)
  where
    regrouped_one : (a b : Bool) → ((a && true) && b) ≡ (a && b)
    regrouped_one true b = refl
    regrouped_one false b = refl
last_of (q ∷ r ∷ qs) last =
    sym (regrouped (not (is_end q.event)) (has_no_end (map (λ (x : Queued). x.event) (r ∷ qs))) (is_end last.event)) ∙ ap (λ (rest : Bool). not (is_end q.event) && rest) (last_of (r ∷ qs) last)

pub end_last : (events before : List Queued) (last : Queued) → events ≡ before ++ last ∷ [] → (has_no_end (map (λ (q : Queued). q.event) before) && is_end last.event) ≡ has_end_last (map (λ (q : Queued). q.event) events)
end_last events before last is = last_of before last ∙ ap (λ (qs : List Queued). has_end_last (map (λ (q : Queued). q.event) qs)) (sym is)

pub none_last : (events : List Queued) → events ≡ [] → false ≡ has_end_last (map (λ (q : Queued). q.event) events)
none_last events is = ap (λ (qs : List Queued). has_end_last (map (λ (q : Queued). q.event) qs)) (sym is)
