-- Effects done in order, where it doesn't matter how many things were made before.
use Rattle.std.proofs.Common.{◌≡◌, ◌<◌, ℕ, suc, ◌+◌, ◌-◌, Bool, true, false, ◌&&◌, cond, List, [], ◌∷◌, ◌++◌, length, take, get_or, Option, Some, None, refl, sym, ap, ◌∙◌, arith}
use Rattle.std.proofs.Math.Seq.{take-suc}
use Rattle.std.proofs.lemmas.Option.{slice_get_read}
use Rattle.script_run_machine.specs.Lending.{set_by}
use Rattle.std.specs.Prelude.{bytes_eq, unwrap_or, slice_get}
use Rattle.slee_effect.specs.declared.reference.Ref.{Ref}
use Rattle.slee_effect.specs.declared.value.Val.{Val}
use Rattle.slee_effect.specs.declared.effect.Effect.{Effect}
use Rattle.slee_effect.specs.declared.effect.Effect.TheVariants as ef
use Rattle.script_meaning.specs.Overlay.{same_ref, overlay, overlay_from, field_after, attr_after, attached_after, named_after, activities_after, entities_by, activities_by}
use Rattle.slee_value.specs.declared.kind.Kind.{Kind}
use Rattle.script_meaning.specs.declared.key.Key.TheVariants as k
use Rattle.script_meaning.specs.declared.seen.Seen.{Seen}
use Rattle.script_meaning.specs.Answers.{fit, held_in}
use Rattle.script_meaning.specs.Observing as read
use Rattle.script_meaning.specs.Observing.{key_of}
use Rattle.script_meaning.specs.Running.{Setting, State, Ending, Gave, then_run, look}
use Rattle.script_run_reads.specs.Done.{done, sets_field, sets_attribute, set_behind, last_set}

plain : {A : Type 0} (makes : Effect → ℕ) (does : ℕ → Effect → A → A) → ((n : ℕ) (e : Effect) (x : A) → does n e x ≡ does 0 e x) → (n : ℕ) (es : List Effect) (x : A) → overlay_from makes does n es x ≡ done (does 0) es x
plain makes does same n [] x = refl
plain makes does same n (e ∷ es) x = ap (λ y. overlay_from makes does (n + makes e) es y) (same n e x) ∙ plain makes does same (n + makes e) es (does 0 e x)

behind : {A : Type 0} (does : Effect → A → A) (xs ys : List Effect) (x : A) → done does (xs ++ ys) x ≡ done does ys (done does xs x)
behind does [] ys x = refl
behind does (e ∷ xs) ys x = behind does xs ys (does e x)

-- effects of two lists, one behind the other
pub laid : {A : Type 0} (makes : Effect → ℕ) (does : ℕ → Effect → A → A) → ((n : ℕ) (e : Effect) (x : A) → does n e x ≡ does 0 e x) → (xs ys : List Effect) (x : A) → overlay makes does (xs ++ ys) x ≡ done (does 0) ys (done (does 0) xs x)
laid makes does same xs ys x = plain makes does same 0 (xs ++ ys) x ∙ behind (does 0) xs ys x

field_same : (who : Ref) (name : List ℕ) (n : ℕ) (eff : Effect) (x : Val) → field_after who name n eff x ≡ field_after who name 0 eff x
field_same who name n (ef.SetField p q r) x = refl
field_same who name n (ef.SetAttr p q r) x = refl
field_same who name n (ef.Create p q r) x = refl
field_same who name n (ef.Remove p) x = refl
field_same who name n (ef.SetPriority p q) x = refl
field_same who name n (ef.Attach p q) x = refl
field_same who name n (ef.Detach p q) x = refl
field_same who name n (ef.SetMask p q r s) x = refl
field_same who name n (ef.Fire p q r s) x = refl
field_same who name n ef.NewNull x = refl
field_same who name n (ef.EndNull p) x = refl
field_same who name n (ef.SetTimer p q r s t) x = refl
field_same who name n (ef.CancelTimer p) x = refl
field_same who name n (ef.Bind p q) x = refl
field_same who name n (ef.Unbind p) x = refl
field_same who name n (ef.Emit p q) x = refl
field_same who name n (ef.Usage p q r) x = refl
field_same who name n (ef.Suspend p q) x = refl
field_same who name n (ef.Resume p) x = refl

-- effects of two lists, one behind the other
field_laid : (who : Ref) (name : List ℕ) (xs ys : List Effect) (x : Val) → overlay entities_by (field_after who name) (xs ++ ys) x ≡ done (field_after who name 0) ys (done (field_after who name 0) xs x)
field_laid who name xs ys x = plain entities_by (field_after who name) (field_same who name) 0 (xs ++ ys) x ∙ behind (field_after who name 0) xs ys x

attribute_same : (who : Ref) (name : List ℕ) (n : ℕ) (eff : Effect) (x : Val) → attr_after who name n eff x ≡ attr_after who name 0 eff x
attribute_same who name n (ef.SetField p q r) x = refl
attribute_same who name n (ef.SetAttr p q r) x = refl
attribute_same who name n (ef.Create p q r) x = refl
attribute_same who name n (ef.Remove p) x = refl
attribute_same who name n (ef.SetPriority p q) x = refl
attribute_same who name n (ef.Attach p q) x = refl
attribute_same who name n (ef.Detach p q) x = refl
attribute_same who name n (ef.SetMask p q r s) x = refl
attribute_same who name n (ef.Fire p q r s) x = refl
attribute_same who name n ef.NewNull x = refl
attribute_same who name n (ef.EndNull p) x = refl
attribute_same who name n (ef.SetTimer p q r s t) x = refl
attribute_same who name n (ef.CancelTimer p) x = refl
attribute_same who name n (ef.Bind p q) x = refl
attribute_same who name n (ef.Unbind p) x = refl
attribute_same who name n (ef.Emit p q) x = refl
attribute_same who name n (ef.Usage p q r) x = refl
attribute_same who name n (ef.Suspend p q) x = refl
attribute_same who name n (ef.Resume p) x = refl

-- effects of two lists, one behind the other
attribute_laid : (who : Ref) (name : List ℕ) (xs ys : List Effect) (x : Val) → overlay activities_by (attr_after who name) (xs ++ ys) x ≡ done (attr_after who name 0) ys (done (attr_after who name 0) xs x)
attribute_laid who name xs ys x = plain activities_by (attr_after who name) (attribute_same who name) 0 (xs ++ ys) x ∙ behind (attr_after who name 0) xs ys x

chosen : (b : Bool) (value x : Val) (last : Option Val) → cond b value (unwrap_or last x) ≡ unwrap_or (cond b (Some value) last) x
chosen true value x last = refl
chosen false value x last = refl

-- what effects make of a value is that which they set last, or the value itself
set_last : (does : Effect → Val → Val) (sets : Effect → Bool) → ((e : Effect) (last : Option Val) (x : Val) → does e (unwrap_or last x) ≡ unwrap_or (set_behind sets e last) x) → (es : List Effect) (last : Option Val) (x : Val) → done does es (unwrap_or last x) ≡ unwrap_or (done (set_behind sets) es last) x
set_last does sets one [] last x = refl
set_last does sets one (e ∷ es) last x = ap (done does es) (one e last x) ∙ set_last does sets one es (set_behind sets e last) x

field_one : (who : Ref) (name : List ℕ) (e : Effect) (last : Option Val) (x : Val) → field_after who name 0 e (unwrap_or last x) ≡ unwrap_or (set_behind (sets_field who name) e last) x
field_one who name (ef.SetField p q r) last x = chosen (same_ref p who && bytes_eq q name) r x last
field_one who name other last x = refl

-- a field behind effects of two lists
pub field_read : (who : Ref) (name : List ℕ) (xs ys : List Effect) (x : Val) → overlay entities_by (field_after who name) (xs ++ ys) x ≡ unwrap_or (last_set (sets_field who name) ys) (unwrap_or (last_set (sets_field who name) xs) x)
field_read who name xs ys x = field_laid who name xs ys x ∙ ap (done (field_after who name 0) ys) (set_last (field_after who name 0) (sets_field who name) (field_one who name) xs None x) ∙ set_last (field_after who name 0) (sets_field who name) (field_one who name) ys None (unwrap_or (last_set (sets_field who name) xs) x)

-- a field of the kind that is asked for, where its key was looked for
pub field_given : (s : Setting) (name : List ℕ) (q : Kind) (old new : State) (seen : Option Seen) (x : Val) → look s (key_of (λ n. k.Field (record { 0 = n }) name) s.me) old ≡ Gave seen new → x ≡ fit q (unwrap_or (last_set (sets_field s.me name) new.effects) (unwrap_or (last_set (sets_field s.me name) s.effects) (held_in q seen))) → read.field s name q old ≡ Gave x new
field_given s name q old new seen x given is = ap (λ (e : Ending (Option Seen)). then_run e (λ seen st. Gave (fit q (overlay entities_by (field_after s.me name) (s.effects ++ st.effects) (held_in q seen))) st)) given ∙ ap (λ (y : Val). Gave (fit q y) new) (field_read s.me name s.effects new.effects (held_in q seen)) ∙ ap (λ (y : Val). Gave y new) (sym is)

attribute_one : (who : Ref) (name : List ℕ) (e : Effect) (last : Option Val) (x : Val) → attr_after who name 0 e (unwrap_or last x) ≡ unwrap_or (set_behind (sets_attribute who name) e last) x
attribute_one who name (ef.SetAttr p q r) last x = chosen (same_ref p who && bytes_eq q name) r x last
attribute_one who name other last x = refl

-- an attribute behind effects of two lists
pub attribute_read : (who : Ref) (name : List ℕ) (xs ys : List Effect) (x : Val) → overlay activities_by (attr_after who name) (xs ++ ys) x ≡ unwrap_or (last_set (sets_attribute who name) ys) (unwrap_or (last_set (sets_attribute who name) xs) x)
attribute_read who name xs ys x = attribute_laid who name xs ys x ∙ ap (done (attr_after who name 0) ys) (set_last (attr_after who name 0) (sets_attribute who name) (attribute_one who name) xs None x) ∙ set_last (attr_after who name 0) (sets_attribute who name) (attribute_one who name) ys None (unwrap_or (last_set (sets_attribute who name) xs) x)

-- an attribute of the kind that is asked for, where its key was looked for
pub attribute_given : (s : Setting) (key : List ℕ) (q : Kind) (a : Ref) (old new : State) (seen : Option Seen) (x : Val) → look s (key_of (λ n. k.Attr (record { 0 = n }) key) a) old ≡ Gave seen new → x ≡ fit q (unwrap_or (last_set (sets_attribute a key) new.effects) (unwrap_or (last_set (sets_attribute a key) s.effects) (held_in q seen))) → read.attribute s key q a old ≡ Gave x new
attribute_given s key q a old new seen x given is = ap (λ (e : Ending (Option Seen)). then_run e (λ seen st. Gave (fit q (overlay activities_by (attr_after a key) (s.effects ++ st.effects) (held_in q seen))) st)) given ∙ ap (λ (y : Val). Gave (fit q y) new) (attribute_read a key s.effects new.effects (held_in q seen)) ∙ ap (λ (y : Val). Gave y new) (sym is)

-- the effect in a place is the last one of those up to there
pub set_there : (sets : Effect → Bool) (es : List Effect) (i : ℕ) (e : Effect) → i < length es → e ≡ get_or es i e → last_set sets (take (suc i) es) ≡ set_behind sets e (last_set sets (take i es))
set_there sets es i e lt is = ap (λ (xs : List Effect). last_set sets xs) (take-suc es i e lt) ∙ behind (set_behind sets) (take i es) (get_or es i e ∷ []) None ∙ ap (λ (y : Effect). set_behind sets y (last_set sets (take i es))) (sym is)

-- looking from the last effect on, at an effect that sets it
pub set_found : (sets : Effect → Bool) (es : List Effect) (behind : ℕ) (e : Effect) (total : Option Val) → behind < length es → e ≡ get_or es (length es - 1 - behind) e → last_set sets (take (length es - behind) es) ≡ total → sets e ≡ true → Some (set_by (slice_get es (length es - 1 - behind))) ≡ total
set_found sets es k e total lt is inv yes_sets =
    let place : ℕ = length es - 1 - k in
    let inside : place < length es = omega (arith, lt) in
    let there : slice_get es place ≡ Some e = slice_get_read es (length es) place e refl inside is in
    let z : suc place ≡ length es - k = omega (arith, lt) in
    let step : last_set sets (take (length es - k) es) ≡ set_behind sets e (last_set sets (take place es)) = ap (λ (n : ℕ). last_set sets (take n es)) (sym z) ∙ set_there sets es place e inside is in
    let given : set_behind sets e (last_set sets (take place es)) ≡ Some (set_by (Some e)) = ap (λ (b : Bool). cond b (Some (set_by (Some e))) (last_set sets (take place es))) yes_sets in
    ap (λ (x : Option Effect). Some (set_by x)) there ∙ sym given ∙ sym step ∙ inv

-- and at one that doesn't
pub set_passed : (sets : Effect → Bool) (es : List Effect) (behind : ℕ) (e : Effect) (total : Option Val) → behind < length es → e ≡ get_or es (length es - 1 - behind) e → last_set sets (take (length es - behind) es) ≡ total → sets e ≡ false → last_set sets (take (length es - (behind + 1)) es) ≡ total
set_passed sets es k e total lt is inv no_sets =
    let place : ℕ = length es - 1 - k in
    let inside : place < length es = omega (arith, lt) in
    let z : suc place ≡ length es - k = omega (arith, lt) in
    let w : length es - (k + 1) ≡ place = omega (arith, lt) in
    let step : last_set sets (take (length es - k) es) ≡ set_behind sets e (last_set sets (take place es)) = ap (λ (n : ℕ). last_set sets (take n es)) (sym z) ∙ set_there sets es place e inside is in
    let given : set_behind sets e (last_set sets (take place es)) ≡ last_set sets (take place es) = ap (λ (b : Bool). cond b (Some (set_by (Some e))) (last_set sets (take place es))) no_sets in
    ap (λ (n : ℕ). last_set sets (take n es)) w ∙ sym given ∙ sym step ∙ inv

attached_same : (who on : Ref) (n : ℕ) (eff : Effect) (x : Bool) → attached_after who on n eff x ≡ attached_after who on 0 eff x
attached_same who on n (ef.SetField p q r) x = refl
attached_same who on n (ef.SetAttr p q r) x = refl
attached_same who on n (ef.Create p q r) x = refl
attached_same who on n (ef.Remove p) x = refl
attached_same who on n (ef.SetPriority p q) x = refl
attached_same who on n (ef.Attach p q) x = refl
attached_same who on n (ef.Detach p q) x = refl
attached_same who on n (ef.SetMask p q r s) x = refl
attached_same who on n (ef.Fire p q r s) x = refl
attached_same who on n ef.NewNull x = refl
attached_same who on n (ef.EndNull p) x = refl
attached_same who on n (ef.SetTimer p q r s t) x = refl
attached_same who on n (ef.CancelTimer p) x = refl
attached_same who on n (ef.Bind p q) x = refl
attached_same who on n (ef.Unbind p) x = refl
attached_same who on n (ef.Emit p q) x = refl
attached_same who on n (ef.Usage p q r) x = refl
attached_same who on n (ef.Suspend p q) x = refl
attached_same who on n (ef.Resume p) x = refl

-- effects of two lists, one behind the other
pub attached_laid : (who on : Ref) (xs ys : List Effect) (x : Bool) → overlay activities_by (attached_after who on) (xs ++ ys) x ≡ done (attached_after who on 0) ys (done (attached_after who on 0) xs x)
attached_laid who on xs ys x = plain activities_by (attached_after who on) (attached_same who on) 0 (xs ++ ys) x ∙ behind (attached_after who on 0) xs ys x

named_same : (name : List ℕ) (n : ℕ) (eff : Effect) (x : (Option Ref)) → named_after name n eff x ≡ named_after name 0 eff x
named_same name n (ef.SetField p q r) x = refl
named_same name n (ef.SetAttr p q r) x = refl
named_same name n (ef.Create p q r) x = refl
named_same name n (ef.Remove p) x = refl
named_same name n (ef.SetPriority p q) x = refl
named_same name n (ef.Attach p q) x = refl
named_same name n (ef.Detach p q) x = refl
named_same name n (ef.SetMask p q r s) x = refl
named_same name n (ef.Fire p q r s) x = refl
named_same name n ef.NewNull x = refl
named_same name n (ef.EndNull p) x = refl
named_same name n (ef.SetTimer p q r s t) x = refl
named_same name n (ef.CancelTimer p) x = refl
named_same name n (ef.Bind p q) x = refl
named_same name n (ef.Unbind p) x = refl
named_same name n (ef.Emit p q) x = refl
named_same name n (ef.Usage p q r) x = refl
named_same name n (ef.Suspend p q) x = refl
named_same name n (ef.Resume p) x = refl

-- effects of two lists, one behind the other
pub named_laid : (name : List ℕ) (xs ys : List Effect) (x : (Option Ref)) → overlay activities_by (named_after name) (xs ++ ys) x ≡ done (named_after name 0) ys (done (named_after name 0) xs x)
named_laid name xs ys x = plain activities_by (named_after name) (named_same name) 0 (xs ++ ys) x ∙ behind (named_after name 0) xs ys x

activities_same : (who : Ref) (n : ℕ) (eff : Effect) (x : List Ref) → activities_after who n eff x ≡ activities_after who 0 eff x
activities_same who n (ef.Attach p q) x = refl
activities_same who n (ef.Detach p q) x = refl
activities_same who n other x = refl

-- effects of two lists, one behind the other
pub activities_laid : (who : Ref) (xs ys : List Effect) (x : List Ref) → overlay activities_by (activities_after who) (xs ++ ys) x ≡ done (activities_after who 0) ys (done (activities_after who 0) xs x)
activities_laid who xs ys x = laid activities_by (activities_after who) (activities_same who) xs ys x
