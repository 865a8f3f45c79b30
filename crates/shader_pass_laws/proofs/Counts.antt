-- Reference counts of expressions, if every named expression exists.
use Rattle.std.proofs.Common.{◌≡◌, ◌≢◌, refl, ℕ, ◌<◌, ◌≤◌, ◌^◌, List, [], ◌∷◌, ◌++◌, Bool, true}
use Rattle.std.proofs.Common.{false, Option, Some, None, IfSome, All, length, nat_lt, arith}
use borrow.Author.Tests.{ltb-true, ltb-false}
use Rattle.std.specs.List.{Contains, flat_map}
use Rattle.std.proofs.lemmas.Bool.Decides.{nat_tests}
use Rattle.std.proofs.lemmas.List.Elements.{All-append, All-cons, All-contains, All-head, All-nil, All-tail}
use Rattle.shader_ir.specs.declared.function.LocalVariable.{LocalVariable}
use Rattle.shader_ir.specs.declared.proc.operands.Label.TheVariants.{Read}
use Rattle.shader_ir.specs.Occurs.{local_operands}
use Rattle.shader_ir.specs.Slots.{retained, read_optional}
use Rattle.shader_resolve.specs.Context.{context_of}
use Rattle.shader_resolve.specs.WellFormed.{ExpressionInRange, FunctionInRange, LocalInRange, StatementInRange}
use Rattle.shader_analysis_spec.specs.Counts.{one_of, times, count_of}
use Rattle.shader_analysis_spec.specs.Faults.{Cause, CountFull, Settings, untyped, no_capability, bad_element, no_image_resource}
use Rattle.shader_analysis_spec.specs.StepFaults.{StepFault}
use Rattle.shader_analysis_spec.specs.Faults.{no_sampler_resource, no_image_passed, no_sampler_passed, flow_violation, count_full}
use Rattle.shader_analysis_spec.specs.Infos.{Info}
use Rattle.shader_analysis_spec.specs.Program.{Function, Module, Expression, Label, Step, expression_operands}
use Rattle.shader_analysis_spec.specs.Program.{statement_operands, statements, occurrences}
use Rattle.shader_passes.specs.InfoOf.{infos_of}
use Rattle.shader_pass_laws.specs.Refused.{CountsFit, FullCountsAreFaults}
use Rattle.shader_pass_laws.proofs.Members.{all_flat}

one_other : (i e : ℕ) → i ≢ e → one_of e i ≡ 0
one_other i e h = grind (arith, nat_tests)

abbrev Below : ℕ → ℕ × Label → Type 0
Below n o = o.0 < n

none_named : (n e : ℕ) → n ≤ e → (os : List (ℕ × Label)) → All (Below n) os → times e os ≡ 0
none_named n e le [] all = refl
none_named n e le (o ∷ os) all =
    let first : o.0 < n = All-head (Below n) o os all in
    let apart : o.0 ≢ e = λ same. absurd (omega arith) in
    let others = none_named n e le os (All-tail (Below n) o os all) in
    let none = one_other o.0 e apart in
    omega (arith, others, none)

module _ (m : Module) (f : Function) (fits : FunctionInRange m f) where
  abbrev Within : ℕ × Label → Type 0
  Within o = Below (length f.expressions) o

  init_within : (o : Option ℕ) → IfSome o (λ init. init < length f.expressions) → All Within (retained (read_optional o ∷ []))
  init_within None h = All-nil Within
  init_within (Some e) h = All-cons Within (e, Read) [] h (All-nil Within)

  of_expression : (x : Expression) → Contains f.expressions x → All Within (expression_operands x)
  of_expression x h =
      let Fits : Expression → Type 0 = λ v. ExpressionInRange m (context_of m f.local_variables f.arguments) f.expressions v in
      (All-contains Fits f.expressions x fits.expressions h).operands

  of_local : (v : LocalVariable) → Contains f.local_variables v → All Within (local_operands v)
  of_local v h =
      let Fits : LocalVariable → Type 0 = λ v. LocalInRange m f v in
      init_within v.init (All-contains Fits f.local_variables v fits.locals h).init

  of_statement : (s : Step) → Contains (statements f.body) s → All Within (statement_operands s)
  of_statement s h =
      let Fits : Step → Type 0 = λ v. StatementInRange m f v in
      (All-contains Fits (statements f.body) s fits.statements h).operands

  all_within : All Within (occurrences f)
  all_within =
      let own = flat_map expression_operands f.expressions in
      let locals = flat_map local_operands f.local_variables in
      let others = flat_map statement_operands (statements f.body) in
      let of_own = all_flat Within expression_operands f.expressions of_expression in
      let of_locals = all_flat Within local_operands f.local_variables of_local in
      let of_others = all_flat Within statement_operands (statements f.body) of_statement in
      All-append Within (own ++ locals) others (All-append Within own locals of_own of_locals) of_others

  pub none_past : (e : ℕ) → length f.expressions ≤ e → count_of f e ≡ 0
  none_past e le = none_named (length f.expressions) e le (occurrences f) all_within

  none_full : CountsFit f → (e : ℕ) → 2 ^ 64 ≤ count_of f e → ⊥
  none_full fit e le = at (nat_lt e (length f.expressions)) refl where
    at : (b : Bool) → nat_lt e (length f.expressions) ≡ b → ⊥
    at true h = let small = fit e (omega (arith, ltb-true, h)) in absurd (omega (arith, small, le))
    at false h = let none = none_past e (omega (arith, ltb-false, h)) in absurd (omega (arith, none, le))

module _ (m : Module) (infos : List Info) (f : Function) (settings : Settings) where
  -- the property that a fault of each cause implies
  abbrev Reported : Cause → Type 0
  Reported (CountFull e) = 2 ^ 64 ≤ count_of f e
  Reported _ = Unit {0}

  of_fault : (cause : Cause) → StepFault m infos f settings cause → Reported cause
  of_fault _ (untyped refused) = tt
  of_fault _ (no_capability indexes element has lacks) = tt
  of_fault _ (bad_element indexes none) = tt
  of_fault _ (no_image_resource reported none) = tt
  of_fault _ (no_sampler_resource reported none) = tt
  of_fault _ (no_image_passed passes none pair) = tt
  of_fault _ (no_sampler_passed passes none pair) = tt
  of_fault _ (flow_violation on grave x) = tt
  of_fault _ (count_full most) = most

pub full_counts_are_faults : FullCountsAreFaults
full_counts_are_faults m infos f settings = (
  λ e le. count_full le,
  λ fits fit e fault. none_full m f fits fit e (of_fault m (infos_of infos) f settings (CountFull e) fault),
)
