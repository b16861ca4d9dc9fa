-- When an effect suits a delivery as far as it is typed: names are declared, values have their kinds, and its entity lives. What values refer to, and their spelling, are other matters.
use Rattle.std.specs.Prelude.{ℕ, suc, ◌⊎◌, ◌≡◌, true, List, [], ◌∷◌, ◌++◌, Some, is_some}
use Rattle.std.specs.Str.{bytes_eq}
use Rattle.slee_value.specs.declared.kind.Kind.{Kind}
use Rattle.slee_effect.specs.declared.effect.Effect.{Effect}
use Rattle.slee_effect.specs.declared.effect.Effect.TheVariants as ef
use Rattle.slee_effect.specs.declared.reference.Ref.{Ref}
use Rattle.slee_effect.specs.declared.reference.Ref.TheVariants.{Known}
use Rattle.slee_effect.specs.declared.value.Val.{Val}
use Rattle.script_meaning.specs.Answers.{is_of}
use Rattle.script_meaning.specs.Overlay.{is_before, is_removed}
use Rattle.script_types.specs.Codes.{named}
use Rattle.script_types.specs.declared.codes.EventCode.{EventCode}
use Rattle.script_types.specs.declared.codes.FieldCode.{FieldCode}
use Rattle.script_types.specs.declared.codes.RelationCode.{RelationCode}
use Rattle.deploy_model.specs.Deployed.{attribute_kind, block_fields, is_event, relation_of, service_named}
use Rattle.router_laws.specs.Forest.{IsIn}
use Rattle.router_laws_applying.specs.Suited.{ChildrenAfter, Lives, LivesAtAll, LivesSomewhere}
use Rattle.router_state.specs.Fits.{is_priority, none_or}
use Rattle.router_state.specs.Fitting.{is_spec}
use Rattle.router_state.specs.State.{State}

-- fields are the declared ones in their order, each of its kind
abbrev pub FieldsTyped : List FieldCode → List (List ℕ × Val) → Type 0
FieldsTyped [] [] = Unit {0}
FieldsTyped [] (f ∷ fs) = ⊥
FieldsTyped (d ∷ ds) [] = ⊥
FieldsTyped (d ∷ ds) (f ∷ fs) = (bytes_eq d.name f.0 ≡ true) × (is_of d.kind f.1 ≡ true) × FieldsTyped ds fs

-- the effect is typed for the delivery on an activity to an entity of a block, behind these effects
abbrev pub IsTyped : State → ℕ → ℕ → ℕ → List Effect → Effect → Type 0
IsTyped s me own a before (ef.SetField entity name value) =
    (block : ℕ) × LivesSomewhere s me own before block entity × (f : FieldCode) × (named (λ (f : FieldCode). f.name) name (block_fields s.deployment block) ≡ Some f) × (is_of f.kind value ≡ true)
IsTyped s me own a before (ef.SetAttr activity key value) = (kind : Kind) × (attribute_kind s.deployment key ≡ Some kind) × (is_of kind value ≡ true)
IsTyped s me own a before (ef.Create parent relation priority) =
    (block : ℕ) × LivesSomewhere s me own before block parent × (is_some (relation_of s.deployment block relation) ≡ true) × (is_priority priority ≡ true)
IsTyped s me own a before (ef.Remove entity) = (block : ℕ) × (n : ℕ) × Lives s me own before (suc n) block entity
IsTyped s me own a before (ef.SetPriority entity priority) = LivesAtAll s me own before entity
IsTyped s me own a before (ef.Attach entity activity) = LivesAtAll s me own before entity
IsTyped s me own a before (ef.Detach entity activity) = LivesAtAll s me own before entity
IsTyped s me own a before (ef.SetMask entity activity event on) = LivesAtAll s me own before entity × (is_event s.deployment event ≡ true)
IsTyped s me own a before (ef.Fire activity event service fields) =
    (none_or (λ key. is_some (service_named s.deployment key)) service ≡ true) × (code : EventCode) × (named (λ (e : EventCode). e.name) event s.deployment.events ≡ Some code) × FieldsTyped code.fields fields
IsTyped s me own a before (ef.SetTimer activity start period times keep) =
    is_spec (record { activity = record { 0 = 0 }; start = start; period = period; times = times; keep = keep }) ≡ true
IsTyped s me own a before (ef.Emit entity text) = LivesAtAll s me own before entity
IsTyped s me own a before (ef.Usage entity name amount) = LivesAtAll s me own before entity
IsTyped s me own a before (ef.Suspend activity until) = activity ≡ Known a
IsTyped s me own a before _ = Unit {0}

-- so it is with each of these effects, behind those before it
abbrev pub AllTyped : State → ℕ → ℕ → ℕ → List Effect → List Effect → Type 0
AllTyped s me own a before [] = Unit {0}
AllTyped s me own a before (e ∷ es) = IsTyped s me own a before e × AllTyped s me own a (before ++ e ∷ []) es

-- a child of an entity of a block, under a relation that leads to its own block, as a run sees it
abbrev pub IsChildOf : State → List Effect → ℕ → Ref → ℕ → Ref → Type 0
IsChildOf s es b p block e = (relation : List ℕ) × (r : RelationCode) × (relation_of s.deployment b relation ≡ Some r) × (r.block ≡ block) × IsIn e (ChildrenAfter s es p relation)

-- the block and the entity whose script runs: the last that was called, or the one that received the event
abbrev pub frame : ℕ → ℕ → List (ℕ × Ref) → ℕ × Ref
frame me own [] = (own, Known me)
frame me own (x ∷ path) = x

-- each entity that was called is a child of the one that called it
abbrev pub PathLives : State → ℕ → ℕ → List Effect → List (ℕ × Ref) → Type 0
PathLives s me own es [] = Unit {0}
PathLives s me own es (x ∷ path) = IsChildOf s es (frame me own path).0 (frame me own path).1 x.0 x.1 × PathLives s me own es path

-- it is such a child, or was removed
abbrev pub IsKid : State → List Effect → ℕ → Ref → ℕ → Ref → Type 0
IsKid s es b p block c = IsChildOf s es b p block c ⊎ (is_removed c es ≡ true)

-- what an effect removes stands behind the entity
abbrev pub RemovesBehind : Ref → Effect → Type 0
RemovesBehind e x = (r : Ref) → x ≡ ef.Remove r → is_before e r ≡ true
