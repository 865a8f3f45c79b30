-- Constants, variables, arguments, results and filters are determined by their JSON.
use Rattle.std.proofs.Common.{◌≡◌, ◌∙◌, sym, refl, inl, inr, ℕ, List, [], ◌∷◌, Option, Some}
use Rattle.std.proofs.Common.{codes}
use Rattle.json.specs.Json.{Json, null, boolean, number, string, array, object, Items, no_items, item, Members, no_members, member}
use Rattle.shader_json_reader.specs.Numbers.{IsHandle, IsText}
use Rattle.shader_json_reader.specs.Shapes.{IsPair, values_of}
use Rattle.shader_json_reader.specs.Shapes.{Determines}
use Rattle.shader_json_reader.proofs.NumberLemmas.{handle_same, text_same}
use Rattle.shader_json_reader.proofs.ShapeLemmas.{apart, field, list, newtype, optional}
use Rattle.shader_json_reader.proofs.ShapeLemmas.{only, same_array, same_object, same_struct, same_variant, named, name_determines}
use Rattle.shader_ir.specs.declared.function.ShaderStage.{ShaderStage}
use Rattle.shader_ir.specs.declared.module.DiagnosticRule.{DiagnosticRule}
use Rattle.shader_ir.specs.declared.module.DiagnosticRule.TheVariants as diagnostics
use Rattle.shader_ir.specs.declared.module.PredeclaredType.{PredeclaredType}
use Rattle.shader_ir.specs.declared.module.PredeclaredType.TheVariants as predeclared
use Rattle.shader_ir.specs.declared.module.Severity.{Severity}
use Rattle.shader_ir.specs.declared.scalar.Scalar.{Scalar}
use Rattle.shader_ir.specs.declared.function.ShaderStage.TheVariants as stages
use Rattle.shader_ir.specs.declared.module.Severity.TheVariants as severities
use Rattle.shader_json_declarations.specs.Names.{severity_name, stage_name}
use Rattle.shader_json_declarations.specs.Types.{IsBinding, IsSpace}
use Rattle.shader_json_declarations.specs.Declarations.{IsConstant, IsOverride, IsGlobal, IsArgument, IsResult, IsLocal, IsStage}
use Rattle.shader_json_declarations.specs.Filters.{IsFilter, IsFilterNode, IsRule, IsRuleOf, IsSeverity}
use Rattle.shader_json_declarations.specs.NamedExpressions.{AreNamedExpressions, AreNames}
use Rattle.shader_json_declarations.specs.Scalars.{IsScalar, IsSize}
use Rattle.shader_json_declarations.specs.SpecialTypes.{ArePredeclared, AreSpecialTypes, IsDroppedEntry, IsEntry, IsExchangeResult}
use Rattle.shader_json_declarations.specs.SpecialTypes.{IsPredeclared, IsPredeclaredOf, recorded}
use Rattle.shader_json_declarations.proofs.DeterminedScalars.{scalar_same, size_same}
use Rattle.shader_json_declarations.proofs.DeterminedTypes.{binding_same, space_same}

abbrev stage_all : List ShaderStage
stage_all = stages.Vertex ∷ stages.Fragment ∷ stages.Compute ∷ stages.Mesh ∷ stages.Task ∷ []

stage_found : (x : ShaderStage) → named stage_name stage_all (stage_name x) ≡ Some x
stage_found stages.Vertex = refl
stage_found x = refl

pub stage_same : Determines IsStage
stage_same = name_determines stage_name stage_all stage_found

abbrev severity_all : List Severity
severity_all = severities.Off ∷ severities.Info ∷ severities.Warning ∷ severities.Error ∷ []

severity_found : (x : Severity) → named severity_name severity_all (severity_name x) ≡ Some x
severity_found severities.Off = refl
severity_found x = refl

pub severity_same : Determines IsSeverity
severity_same = name_determines severity_name severity_all severity_found

pub constant_same : Determines IsConstant
constant_same j x y u v = same_object _ _ _ _ (λ ms p q i. record {
  name = optional IsText text_same
      (codes "name") ms x.name y.name p.0 q.0 i;
  ty = field IsHandle handle_same (codes "ty") ms x.ty y.ty p.1 q.1 i;
  init =
      field IsHandle handle_same (codes "init") ms x.init y.init p.2 q.2 i;
}) j u v

pub override_same : Determines IsOverride
override_same j x y u v = same_object _ _ _ _ (λ ms p q i. record {
  name = optional IsText text_same
      (codes "name") ms x.name y.name p.0 q.0 i;
  ty = field IsHandle handle_same (codes "ty") ms x.ty y.ty p.1 q.1 i;
  init =
      optional IsHandle handle_same (codes "init") ms x.init y.init p.2 q.2 i;
}) j u v

pub global_same : Determines IsGlobal
global_same j x y u v = same_object _ _ _ _ (λ ms p q i. record {
  name = optional IsText text_same
      (codes "name") ms x.name y.name p.0 q.0 i;
  space = field IsSpace space_same (codes "space") ms x.space y.space p.1 q.1 i;
  ty =
      field IsHandle handle_same (codes "ty") ms x.ty y.ty p.2 q.2 i;
  init = optional IsHandle handle_same
      (codes "init") ms x.init y.init p.3 q.3 i;
}) j u v

pub local_same : Determines IsLocal
local_same j x y u v = same_object _ _ _ _ (λ ms p q i. record {
  name = optional IsText text_same
      (codes "name") ms x.name y.name p.0 q.0 i;
  ty = field IsHandle handle_same (codes "ty") ms x.ty y.ty p.1 q.1 i;
  init =
      optional IsHandle handle_same (codes "init") ms x.init y.init p.2 q.2 i;
}) j u v

pub argument_same : Determines IsArgument
argument_same j x y u v = same_object _ _ _ _ (λ ms p q i. record {
  name = optional IsText text_same
      (codes "name") ms x.name y.name p.0 q.0 i;
  ty = field IsHandle handle_same (codes "ty") ms x.ty y.ty p.1 q.1 i;
  binding =
      optional IsBinding binding_same (codes "binding") ms x.binding y.binding p.2 q.2 i;
}) j u v

pub result_same : Determines IsResult
result_same j x y u v = same_object _ _ _ _ (λ ms p q i. record {
  ty = field IsHandle handle_same (codes "ty") ms x.ty y.ty p.0 q.0 i;
  binding = optional IsBinding binding_same (codes "binding") ms x.binding y.binding p.1 q.1 i;
}) j u v

abbrev pub label_predeclared : PredeclaredType → List ℕ
label_predeclared (predeclared.FrexpResult size scalar) = codes "FrexpResult"
label_predeclared (predeclared.ModfResult size scalar) = codes "ModfResult"

pub labelled_predeclared : (name : List ℕ) (payload : Option Json) (x : PredeclaredType) → IsPredeclaredOf name payload x
    → name ≡ label_predeclared x
labelled_predeclared name payload (predeclared.FrexpResult size scalar) u = u.0
labelled_predeclared name payload x u = u.0

predeclared_of : (name : List ℕ) (payload : Option Json) (x y : PredeclaredType) → IsPredeclaredOf name payload x
    → IsPredeclaredOf name payload y → x ≡ y
predeclared_of name payload (predeclared.FrexpResult size scalar) (predeclared.FrexpResult size′ scalar′) u v = same_struct _ _ _ _
    (λ ms p q i. predeclared.FrexpResult (optional IsSize size_same (codes "size") ms size size′ p.0 q.0 i)
    (field IsScalar scalar_same (codes "scalar") ms scalar scalar′ p.1 q.1 i)) payload u.1 v.1
predeclared_of name payload (predeclared.ModfResult size scalar) (predeclared.ModfResult size′ scalar′) u v = same_struct _ _ _ _
    (λ ms p q i. predeclared.ModfResult (optional IsSize size_same (codes "size") ms size size′ p.0 q.0 i)
    (field IsScalar scalar_same (codes "scalar") ms scalar scalar′ p.1 q.1 i)) payload u.1 v.1
predeclared_of name payload x y u v = apart (label_predeclared x) (label_predeclared y) refl
    (sym (labelled_predeclared name payload x u) ∙ labelled_predeclared name payload y v)

predeclared_same : Determines IsPredeclared
predeclared_same j x y u v = same_variant _ _ _ _ (λ name payload p q. predeclared_of name payload x y p q) j u v

pair_of : (js : Items) (x y : PredeclaredType × ℕ) → IsPair (λ key ty. IsPredeclared key x.0 × IsHandle ty x.1) js
    → IsPair (λ key ty. IsPredeclared key y.0 × IsHandle ty y.1) js → x ≡ y
pair_of no_items x y u v = absurd u
pair_of (item key no_items) x y u v = absurd u
pair_of (item key (item ty no_items)) x y u v = λ i. (predeclared_same key x.0 y.0 u.0 v.0 i, handle_same ty x.1 y.1 u.1 v.1 i)
pair_of (item key (item ty (item j js))) x y u v = absurd u

pub entry_same : Determines IsEntry
entry_same j x y u v = same_array _ _ _ _ (λ js p q. pair_of js x y p q) j u v

exchange_same : Determines IsExchangeResult
exchange_same j x y u v = same_variant _ _ _ _
    (λ name payload p q. newtype IsScalar scalar_same payload x y p.1 q.1) j u v

dropped_pair : (js : Items) (x y : Scalar) → IsPair (λ key ty. IsExchangeResult key x × ((handle : ℕ) × IsHandle ty handle)) js
    → IsPair (λ key ty. IsExchangeResult key y × ((handle : ℕ) × IsHandle ty handle)) js → x ≡ y
dropped_pair no_items x y u v = absurd u
dropped_pair (item key no_items) x y u v = absurd u
dropped_pair (item key (item ty no_items)) x y u v = exchange_same key x y u.0 v.0
dropped_pair (item key (item ty (item j js))) x y u v = absurd u

pub dropped_same : Determines IsDroppedEntry
dropped_same j x y u v = same_array _ _ _ _ (λ js p q. dropped_pair js x y p q) j u v

entries_same : Determines ArePredeclared
entries_same null x y u v = absurd u
entries_same (boolean b) x y u v = absurd u
entries_same (number s) x y u v = absurd u
entries_same (string s) x y u v = absurd u
entries_same (array js) x y u v = list IsEntry entry_same (array (recorded js)) x y u.0 v.0
entries_same (object no_members) x y u v = u ∙ sym v
entries_same (object (member k j ms)) x y u v = absurd u

pub special_types_same : Determines AreSpecialTypes
special_types_same j x y u v = same_object _ _ _ _ (λ ms p q i. record {
  ray_intersection = optional IsHandle handle_same
      (codes "ray_intersection") ms x.ray_intersection y.ray_intersection p.0 q.0 i;
  ray_vertex_return = optional IsHandle handle_same
      (codes "ray_vertex_return") ms x.ray_vertex_return y.ray_vertex_return p.1 q.1 i;
  predeclared_types = field ArePredeclared entries_same
      (codes "predeclared_types") ms x.predeclared_types y.predeclared_types p.2 q.2 i;
}) j u v

names_of : (ms : Members) (xs ys : List (ℕ × List ℕ)) → AreNames ms xs → AreNames ms ys → xs ≡ ys
names_of no_members [] [] u v = refl
names_of no_members [] (y ∷ ys) u v = absurd v
names_of no_members (x ∷ xs) ys u v = absurd u
names_of (member k j ms) [] ys u v = absurd u
names_of (member k j ms) (x ∷ xs) [] u v = absurd v
names_of (member k j ms) (x ∷ xs) (y ∷ ys) u v =
    λ i. (handle_same (number k) x.0 y.0 u.0.1 v.0.1 i, text_same j x.1 y.1 u.1 v.1 i) ∷ names_of ms xs ys u.2 v.2 i

pub named_expressions_same : Determines AreNamedExpressions
named_expressions_same j x y u v = same_object _ _ _ _ (λ ms p q. names_of ms x y p q) j u.0 v.0

rule_of : (name : List ℕ) (payload : Option Json) (x y : DiagnosticRule) → IsRuleOf name payload x → IsRuleOf name payload y → x ≡ y
rule_of name payload diagnostics.DerivativeUniformity diagnostics.DerivativeUniformity u v = refl
rule_of name payload diagnostics.Other diagnostics.Other u v = refl
rule_of name payload diagnostics.DerivativeUniformity diagnostics.Other u v = elim v [
  | inl e ↦ apart (codes "Standard") (codes "Unknown") refl (sym u.0 ∙ e.0)
  | inr e ↦ apart (codes "Standard") (codes "User") refl (sym u.0 ∙ e.0)
]
rule_of name payload diagnostics.Other diagnostics.DerivativeUniformity u v = elim u [
  | inl e ↦ apart (codes "Standard") (codes "Unknown") refl (sym v.0 ∙ e.0)
  | inr e ↦ apart (codes "Standard") (codes "User") refl (sym v.0 ∙ e.0)
]

pub rule_same : Determines IsRule
rule_same j x y u v = same_variant _ _ _ _ (λ name payload p q. rule_of name payload x y p q) j u v

filter_same : Determines (λ j (filter : Severity × DiagnosticRule). IsFilter j filter.0 filter.1)
filter_same j x y u v = same_object _ _ _ _
    (λ ms p q i. (
      field IsSeverity severity_same (codes "new_severity") ms x.0 y.0 p.0 q.0 i,
      field IsRule rule_same
          (codes "triggering_rule") ms x.1 y.1 p.1 q.1 i,
    )) j u v

pub filter_node_same : Determines IsFilterNode
filter_node_same j x y u v = same_object _ _ _ _
    (λ ms p q. let e : (x.severity, x.rule) ≡ (y.severity, y.rule) = only
    (λ k (filter : Severity × DiagnosticRule). IsFilter k filter.0 filter.1) filter_same
    (values_of (codes "inner") ms) (x.severity, x.rule) (y.severity, y.rule) p.0 q.0 in
    λ i. record {
      severity = (e i).0;
      rule = (e i).1;
      parent = optional IsHandle handle_same
          (codes "parent") ms x.parent y.parent p.1 q.1 i;
    }) j u v
