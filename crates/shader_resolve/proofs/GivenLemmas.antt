-- What typing rules give: types whose handles are in range, and no struct outside the arena unless an operand's type is one.
use Rattle.std.proofs.Common.{ℕ, ◌<◌, List, Option, Some, None, Result, Ok, Err, IfOk, IfSome, All, length}
use Rattle.shader_ir.specs.declared.expression.Expression.{Expression}
use Rattle.shader_ir.specs.declared.expression.Expression.TheVariants as form
use Rattle.shader_ir.specs.declared.types.«Type».{«Type»}
use Rattle.shader_ir.specs.declared.types.TypeInner.{TypeInner}
use Rattle.shader_ir.specs.declared.types.TypeInner.TheVariants.{Struct}
use Rattle.shader_ir.specs.declared.proc.type_resolution.TypeResolution.{TypeResolution}
use Rattle.shader_ir.specs.declared.proc.type_resolution.TypeResolution.TheVariants.{Handle, Value}
use Rattle.shader_ir.specs.Key.{FitsTypes, HoldsNoMembers, IsNoStruct, PointsInRange}
use Rattle.shader_ir.specs.TypeTree.{IsBackward, type_handles}
use Rattle.shader_resolve.specs.declared.error.ResolveError.{ResolveError}
use Rattle.shader_resolve.specs.Context.{Context, IsInRange, TypesInRange}
use Rattle.shader_resolve.specs.DerivesByRule.{AnswerFits, AnswerInRange, DerivesByRule, EachQueried, OperandAnswer}
use Rattle.shader_resolve.specs.Outcome.{Given, Memory, Outcome, Refused}
use Rattle.shader_resolve.specs.TypingRules.{TypingRule, Plain, One, Two, typing_rule}
use Rattle.shader_resolve.proofs.FitsLemmas.{Has, IsBuilt, NamesFit, NamesHave, OutcomeHas, RuleKeeps}
use Rattle.shader_resolve.proofs.FitsLemmas.{derived-has, typing_rule-fits}
use Rattle.shader_resolve.proofs.QueriedLemmas.{each-queried}

always : {X : Type 0} (P : X → Type 0) → ((x : X) → P x) → (xs : List X) → All P xs
always P every xs k d lt = every _

if_some : {X : Type 0} (found : Option X) → IfSome found (λ x. Unit {0})
if_some (Some x) = tt
if_some None = tt

-- nothing is asked of handles
abbrev pub Any : ℕ → Type 0
Any handle = Unit {0}

any_names : (context : Context) → NamesFit context Any
any_names context = record {
  constants = always _ (λ constant. tt) context.constants;
  overrides = always _ (λ override. tt) context.overrides;
  globals = always _ (λ variable. tt) context.globals;
  locals = always _ (λ variable. tt) context.locals;
  results = always _ (λ function. if_some function.result) context.functions;
  arguments = always _ (λ argument. tt) context.arguments;
  ray_intersection = if_some context.special_types.ray_intersection;
  ray_vertex_return = if_some context.special_types.ray_vertex_return;
  predeclared = always _ (λ entry. tt) context.special_types.predeclared_types;
}

any_named : (expression : Expression) → NamesHave Any expression
any_named (form.ZeroValue ty) = tt
any_named (form.Compose ty components) = tt
any_named (form.AtomicResult ty comparison) = tt
any_named (form.WorkGroupUniformLoadResult ty) = tt
any_named (form.SubgroupOperationResult ty) = tt
any_named expression = tt

in_range-named : (context : Context) (expression : Expression) → IsInRange context expression →
    NamesHave (λ handle. handle < length context.types) expression
in_range-named context (form.ZeroValue ty) lt = lt
in_range-named context (form.Compose ty components) lt = lt
in_range-named context (form.AtomicResult ty comparison) lt = lt
in_range-named context (form.WorkGroupUniformLoadResult ty) lt = lt
in_range-named context (form.SubgroupOperationResult ty) lt = lt
in_range-named context expression lt = tt

built-no_struct : (inner : TypeInner) → IsBuilt inner → IsNoStruct inner
built-no_struct (Struct span members) built = absurd built
built-no_struct inner built = tt

has-no_members : (resolution : TypeResolution) → HoldsNoMembers resolution → Has Any IsNoStruct resolution
has-no_members (Handle handle) none = tt
has-no_members (Value inner) none = (always Any (λ handle. tt) (type_handles inner), none)

no_members-has : (resolution : TypeResolution) → Has Any IsNoStruct resolution → HoldsNoMembers resolution
no_members-has (Handle handle) has = tt
no_members-has (Value inner) has = has.1

abbrev pub GivesNoMembers : Outcome → Type 0
GivesNoMembers (Given resolution) = HoldsNoMembers resolution
GivesNoMembers (Refused refusal) = Unit {0}

-- the rule gives no struct outside the arena if no operand's type is one
abbrev pub KeepsNoMembers : TypingRule → Type 0
KeepsNoMembers (Plain outcome) = GivesNoMembers outcome
KeepsNoMembers (One operand answer) = (reported : TypeResolution) → HoldsNoMembers reported → GivesNoMembers (answer reported)
KeepsNoMembers (Two left right answer) = (first second : TypeResolution) → HoldsNoMembers first → HoldsNoMembers second →
    GivesNoMembers (answer first second)

gives-no_members : (outcome : Outcome) → OutcomeHas Any IsNoStruct outcome → GivesNoMembers outcome
gives-no_members (Given resolution) has = no_members-has resolution has
gives-no_members (Refused refusal) has = tt

keeps-no_members : (rule : TypingRule) → RuleKeeps Any IsNoStruct rule → KeepsNoMembers rule
keeps-no_members (Plain outcome) keeps = gives-no_members outcome keeps
keeps-no_members (One operand answer) keeps =
    λ reported none. gives-no_members (answer reported) (keeps reported (has-no_members reported none))
keeps-no_members (Two left right answer) keeps = λ first second first_none second_none. gives-no_members (answer first second)
    (keeps first second (has-no_members first first_none) (has-no_members second second_none))

pub fits-no_members : (types : List «Type») (resolution : TypeResolution) → FitsTypes types resolution → HoldsNoMembers resolution
fits-no_members types (Handle handle) fits = tt
fits-no_members types (Value inner) fits = fits.1

fits-in_range : (types : List «Type») (resolution : TypeResolution) → FitsTypes types resolution → PointsInRange types resolution
fits-in_range types (Handle handle) fits = fits
fits-in_range types (Value inner) fits = fits.0

both-fit : (types : List «Type») (resolution : TypeResolution) → PointsInRange types resolution → HoldsNoMembers resolution →
    FitsTypes types resolution
both-fit types (Handle handle) in_range none = in_range
both-fit types (Value inner) in_range none = (in_range, none)

module _ (types : List «Type») where
  abbrev Below : ℕ → Type 0
  Below handle = handle < length types

  abbrev Each : TypeInner → Type 0
  Each inner = Unit {0}

  has-in_range : (resolution : TypeResolution) → PointsInRange types resolution → Has Below Each resolution
  has-in_range (Handle handle) in_range = in_range
  has-in_range (Value inner) in_range = (in_range, tt)

  in_range-has : (resolution : TypeResolution) → Has Below Each resolution → PointsInRange types resolution
  in_range-has (Handle handle) has = has
  in_range-has (Value inner) has = has.0

  lent-in_range : (reported : OperandAnswer) → AnswerInRange types reported → IfOk reported (λ lent. Has Below Each lent.now)
  lent-in_range (Ok lent) in_range = has-in_range lent.now in_range
  lent-in_range (Err failure) in_range = tt

  lent-no_members : (reported : OperandAnswer) → AnswerFits types reported → IfOk reported (λ lent. Has Any IsNoStruct lent.now)
  lent-no_members (Ok lent) fits = has-no_members lent.now (fits-no_members types lent.now fits)
  lent-no_members (Err failure) fits = tt

  pub answer-in_range : (reported : OperandAnswer) → AnswerFits types reported → AnswerInRange types reported
  answer-in_range (Ok lent) fits = fits-in_range types lent.now fits
  answer-in_range (Err failure) fits = tt

  result-in_range : (result : Result TypeResolution ResolveError) → IfOk result (Has Below Each) → IfOk result (PointsInRange types)
  result-in_range (Ok resolution) has = in_range-has resolution has
  result-in_range (Err failure) has = tt

  result-fits : (result : Result TypeResolution ResolveError) → IfOk result (Has Below Each) → IfOk result (Has Any IsNoStruct) →
      IfOk result (FitsTypes types)
  result-fits (Ok resolution) in_range none =
      both-fit types resolution (in_range-has resolution in_range) (no_members-has resolution none)
  result-fits (Err failure) in_range none = tt

module _ (context : Context) (expression : Expression) where
  -- what all types outside the arena have that rules build, the rule's outcome has if the types of its operands have it
  pub outside_kept : (Outside : TypeInner → Type 0) → ((inner : TypeInner) → IsBuilt inner → Outside inner) →
      RuleKeeps Any Outside (typing_rule context expression)
  outside_kept Outside built = typing_rule-fits context Any Outside built
      (λ position type is. always Any (λ handle. tt) (type_handles type.inner)) (any_names context) expression (any_named expression)

  no_struct_kept : RuleKeeps Any IsNoStruct (typing_rule context expression)
  no_struct_kept = outside_kept IsNoStruct built-no_struct

  pub no_members_kept : KeepsNoMembers (typing_rule context expression)
  no_members_kept = keeps-no_members (typing_rule context expression) no_struct_kept

  module _ (names : IsInRange context expression) (backward : IsBackward context.types) (stored : TypesInRange context) where
    range_kept : RuleKeeps (Below context.types) (Each context.types) (typing_rule context expression)
    range_kept = typing_rule-fits context (Below context.types) (Each context.types) (λ inner built. tt) backward.in_range
        (record {
          constants = stored.constants;
          overrides = stored.overrides;
          globals = stored.globals;
          locals = stored.locals;
          results = stored.results;
          arguments = stored.arguments;
          ray_intersection = stored.ray_intersection;
          ray_vertex_return = stored.ray_vertex_return;
          predeclared = stored.predeclared;
        }) expression (in_range-named context expression names)

    module _ (memory : Memory) (Post : ℕ → OperandAnswer → Type 0) (result : Result TypeResolution ResolveError)
        (lent : EachQueried (λ operand. (reported : OperandAnswer) → Post operand reported → AnswerInRange context.types reported)
        (typing_rule context expression))
        (derives : DerivesByRule memory Post result (typing_rule context expression)) where
      has_range : IfOk result (Has (Below context.types) (Each context.types))
      has_range = derived-has (Below context.types) (Each context.types) memory Post result (typing_rule context expression)
          (each-queried (λ operand. (reported : OperandAnswer) → Post operand reported → AnswerInRange context.types reported) _
          (λ operand given reported posted. lent-in_range context.types reported (given reported posted)) (typing_rule context expression)
          lent)
          range_kept derives

      -- the type has its handles in range
      pub given_in_range : IfOk result (PointsInRange context.types)
      given_in_range = result-in_range context.types result has_range

      -- it is no struct outside the arena, if no operand's type is one
      pub given_fits : EachQueried (λ operand. (reported : OperandAnswer) → Post operand reported → AnswerFits context.types reported)
          (typing_rule context expression) → IfOk result (FitsTypes context.types)
      given_fits fit = result-fits context.types result has_range
          (derived-has Any IsNoStruct memory Post result (typing_rule context expression)
          (each-queried (λ operand. (reported : OperandAnswer) → Post operand reported → AnswerFits context.types reported) _
          (λ operand given reported posted. lent-no_members context.types reported (given reported posted)) (typing_rule context expression)
          fit)
          no_struct_kept derives)
