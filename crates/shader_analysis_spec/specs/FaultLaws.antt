-- Laws about faults, types and filters.
use Rattle.std.specs.Prelude.{◌≡◌, ℕ, Bool, List, Option, Some, slice_get}
use Rattle.shader_ir.specs.declared.module.DiagnosticFilterNode.{DiagnosticFilterNode}
use Rattle.shader_ir.specs.declared.module.Severity.{Severity}
use Rattle.shader_ir.specs.declared.proc.type_resolution.TypeResolution.{TypeResolution}
use Rattle.shader_ir.specs.Key.{Key, key_of}
use Rattle.shader_resolve.specs.Context.{Context}
use Rattle.shader_resolve.specs.Outcome.{Refusal}
use Rattle.shader_resolve.specs.Typing.{typing}
use Rattle.shader_analysis_spec.specs.Program.{Function, Module, Expression}
use Rattle.shader_analysis_spec.specs.Derivable.{Derives, IsRefused}
use Rattle.shader_analysis_spec.specs.Exact.{IsExact}
use Rattle.shader_analysis_spec.specs.Faults.{Settings, Cause, NonUniformControlFlow, Source, IsFault}
use Rattle.shader_analysis_spec.specs.StepFaults.{StepFault}
use Rattle.shader_analysis_spec.specs.Filters.{Governs}
use Rattle.shader_analysis_spec.specs.Needs.{Need}
use Rattle.shader_analysis_spec.specs.Infos.{Info, EachNamed}

-- both causes are the same, but for the source that is named for disrupted flow
pub data AreAlikeButForSource : Cause → Cause → Type 0 where
  are_same : {cause : Cause} → AreAlikeButForSource cause cause
  of_sources : {needs : Need → Bool} {expression h other : ℕ} →
      AreAlikeButForSource (NonUniformControlFlow needs expression (Source h)) (NonUniformControlFlow needs expression (Source other))

-- if the infos of the functions that f names are exact, a fault by these infos is a fault by the interprocedural definitions. Conversely,
-- each interprocedural fault is one by the infos, which may name another source for disrupted flow
abbrev pub FaultsAgree : Type 0
FaultsAgree = (m : Module) (infos : List Info) (f : Function) (settings : Settings) → EachNamed (IsExact m) m infos f →
    ((cause : Cause) → StepFault m infos f settings cause → IsFault m f settings cause)
    × ((cause : Cause) → IsFault m f settings cause →
    (reported : Cause) × AreAlikeButForSource cause reported × StepFault m infos f settings reported)

-- an expression has at most one type, and none if its typing rule rejects it
abbrev pub TypesAreUnique : Type 0
TypesAreUnique = (context : Context) (expressions : List Expression) (e : ℕ) (resolution : TypeResolution) →
    Derives context expressions e resolution →
    ((other : TypeResolution) → Derives context expressions e other → resolution ≡ other)
    × ((refusal : Refusal) → IsRefused context expressions e refusal → ⊥)

-- the key of an expression's type is the key that typing derives from the keys of the expressions' types
abbrev pub DerivedTypesHaveKeys : Type 0
DerivedTypesHaveKeys = (context : Context) (expressions : List Expression) (keys : ℕ → Option Key) →
    ((e : ℕ) (resolution : TypeResolution) → Derives context expressions e resolution → keys e ≡ Some (key_of context.types resolution)) →
    (e : ℕ) (x : Expression) (resolution : TypeResolution) → slice_get expressions e ≡ Some x → Derives context expressions e resolution →
    typing context keys x ≡ Some (key_of context.types resolution)

-- the filters from a leaf outwards give exactly one severity
abbrev pub SeveritiesAreUnique : Type 0
SeveritiesAreUnique = (filters : List DiagnosticFilterNode) (leaf : Option ℕ) (grave other : Severity) → Governs filters leaf grave →
    Governs filters leaf other →
    grave ≡ other
