-- When an effect suits a delivery: what it names is declared and of its kind, what it refers to was drawn or made before it, and its entity is the one that received the event, or lives below it.
use Rattle.std.specs.Prelude.{ℕ, zero, suc, ◌+◌, ◌<◌, ◌≡◌, Bool, true, List, [], ◌∷◌, ◌++◌, map, Some, is_some}
use Rattle.std.specs.Str.{bytes_eq}
use Rattle.slee_value.specs.declared.kind.Kind.{Kind}
use Rattle.slee_value.specs.declared.value.Value.TheVariants as v
use Rattle.slee_effect.specs.declared.effect.Effect.{Effect}
use Rattle.slee_effect.specs.declared.effect.Effect.TheVariants as ef
use Rattle.slee_effect.specs.declared.next.Next.{Next}
use Rattle.slee_effect.specs.declared.reference.Ref.{Ref}
use Rattle.slee_effect.specs.declared.reference.Ref.TheVariants.{Known, Fresh}
use Rattle.slee_effect.specs.declared.value.Val.{Val}
use Rattle.slee_effect.specs.declared.value.Val.TheVariants.{Plain, NewActivity, NewTimer}
use Rattle.script_meaning.specs.Answers.{is_of}
use Rattle.script_meaning.specs.Overlay.{activities_by, children_after, count_of, entities_by, overlay, timers_by}
use Rattle.script_types.specs.Codes.{named}
use Rattle.script_types.specs.declared.codes.EventCode.{EventCode}
use Rattle.script_types.specs.declared.codes.FieldCode.{FieldCode}
use Rattle.script_types.specs.declared.codes.RelationCode.{RelationCode}
use Rattle.deploy_model.specs.Deployed.{attribute_kind, block_fields, is_event, relation_of, service_named}
use Rattle.router_laws.specs.Forest.{IsIn}
use Rattle.router_laws_effects.specs.Runs.{IsOld}
use Rattle.router_state.specs.Fits.{is_i64, is_priority, is_text, none_or}
use Rattle.router_state.specs.Fitting.{is_spec}
use Rattle.router_state.specs.State.{State}
use Rattle.router_state.specs.Trees.{children_under}
use Rattle.router_steps.specs.Effects.{next_in}

-- the children of a relation that a state tells a run of
abbrev pub children_told : State → Ref → List ℕ → List Ref
children_told s (Known n) relation = map Known (children_under s.entities n relation)
children_told s (Fresh place) relation = []

-- the children of a relation as a run sees them behind these effects
abbrev pub ChildrenAfter : State → List Effect → Ref → List ℕ → List Ref
ChildrenAfter s before p relation = overlay entities_by (children_after p relation) before (children_told s p relation)

-- An entity of a block that lives so many generations below the one that received the event: each is seen as a child of the one before, under a relation that leads to its block.
abbrev pub Lives : State → ℕ → ℕ → List Effect → ℕ → ℕ → Ref → Type 0
Lives s me own before zero block e = (e ≡ Known me) × (block ≡ own)
Lives s me own before (suc n) block e =
    (p : Ref) × (b : ℕ) × (relation : List ℕ) × (r : RelationCode) × Lives s me own before n b p × (relation_of s.deployment b relation ≡ Some r) × (r.block ≡ block) × IsIn e (ChildrenAfter s before p relation)

-- the same, however many generations below
abbrev pub LivesSomewhere : State → ℕ → ℕ → List Effect → ℕ → Ref → Type 0
LivesSomewhere s me own before block e = (n : ℕ) × Lives s me own before n block e

-- it lives, whatever its block
abbrev pub LivesAtAll : State → ℕ → ℕ → List Effect → Ref → Type 0
LivesAtAll s me own before e = (block : ℕ) × LivesSomewhere s me own before block e

-- a value has a spelling, and refers to what was drawn before the run or is made by these effects
abbrev pub ValueFits : Next → List Effect → Val → Type 0
ValueFits next before (Plain (v.Int n)) = is_i64 n ≡ true
ValueFits next before (Plain (v.Text text)) = is_text text ≡ true
ValueFits next before (Plain (v.Bool b)) = Unit {0}
ValueFits next before (Plain (v.Activity a)) = a.0 < next.activity
ValueFits next before (Plain (v.Timer t)) = t.0 < next.timer
ValueFits next before (NewActivity place) = place < count_of activities_by before
ValueFits next before (NewTimer place) = place < count_of timers_by before

-- fields are the declared ones in their order, each of its kind, and their values fit
abbrev pub FieldsSuit : Next → List Effect → List FieldCode → List (List ℕ × Val) → Type 0
FieldsSuit next before [] [] = Unit {0}
FieldsSuit next before [] (f ∷ fs) = ⊥
FieldsSuit next before (d ∷ ds) [] = ⊥
FieldsSuit next before (d ∷ ds) (f ∷ fs) = (bytes_eq d.name f.0 ≡ true) × (is_of d.kind f.1 ≡ true) × ValueFits next before f.1 × FieldsSuit next before ds fs

-- The effect suits the delivery on an activity to an entity of a block, behind these effects.
abbrev pub Suits : State → ℕ → ℕ → ℕ → List Effect → Effect → Type 0
Suits s me own a before (ef.SetField entity name value) =
    (block : ℕ) × LivesSomewhere s me own before block entity × (f : FieldCode) × (named (λ (f : FieldCode). f.name) name (block_fields s.deployment block) ≡ Some f) × (is_of f.kind value ≡ true) × ValueFits (next_in s) before value
Suits s me own a before (ef.SetAttr activity key value) =
    IsOld s.next_activity activity × (kind : Kind) × (attribute_kind s.deployment key ≡ Some kind) × (is_of kind value ≡ true) × ValueFits (next_in s) before value
Suits s me own a before (ef.Create parent relation priority) =
    (block : ℕ) × LivesSomewhere s me own before block parent × (is_some (relation_of s.deployment block relation) ≡ true) × (is_priority priority ≡ true)
Suits s me own a before (ef.Remove entity) = (block : ℕ) × (n : ℕ) × Lives s me own before (suc n) block entity
Suits s me own a before (ef.SetPriority entity priority) = LivesAtAll s me own before entity
Suits s me own a before (ef.Attach entity activity) = LivesAtAll s me own before entity × IsOld s.next_activity activity
Suits s me own a before (ef.Detach entity activity) = LivesAtAll s me own before entity × IsOld s.next_activity activity
Suits s me own a before (ef.SetMask entity activity event on) = LivesAtAll s me own before entity × IsOld s.next_activity activity × (is_event s.deployment event ≡ true)
Suits s me own a before (ef.Fire activity event service fields) =
    IsOld s.next_activity activity × (none_or (λ key. is_some (service_named s.deployment key)) service ≡ true) × (code : EventCode) × (named (λ (e : EventCode). e.name) event s.deployment.events ≡ Some code) × FieldsSuit (next_in s) before code.fields fields
Suits s me own a before ef.NewNull = Unit {0}
Suits s me own a before (ef.EndNull activity) = IsOld s.next_activity activity
Suits s me own a before (ef.SetTimer activity start period times keep) =
    IsOld s.next_activity activity × (is_spec (record { activity = record { 0 = 0 }; start = start; period = period; times = times; keep = keep }) ≡ true)
Suits s me own a before (ef.CancelTimer timer) = Unit {0}
Suits s me own a before (ef.Bind name activity) = IsOld s.next_activity activity × (is_text name ≡ true)
Suits s me own a before (ef.Unbind name) = Unit {0}
Suits s me own a before (ef.Emit entity text) = LivesAtAll s me own before entity
Suits s me own a before (ef.Usage entity name amount) = LivesAtAll s me own before entity
Suits s me own a before (ef.Suspend activity until) = activity ≡ Known a
Suits s me own a before (ef.Resume activity) = IsOld s.next_activity activity

-- so it is with each of these effects, behind those before it
abbrev pub AllSuit : State → ℕ → ℕ → ℕ → List Effect → List Effect → Type 0
AllSuit s me own a before [] = Unit {0}
AllSuit s me own a before (e ∷ es) = Suits s me own a before e × AllSuit s me own a (before ++ e ∷ []) es
