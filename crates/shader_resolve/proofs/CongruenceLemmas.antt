-- Results that derive by a typing rule from operands of equal keys have equal keys.
use Rattle.std.proofs.Common.{◌≡◌, refl, subst, ◌⊎◌, inl, inr, ℕ, List, Option, Some, None, Result, Ok, Err, slice_get}
use Rattle.shader_ir.specs.declared.types.«Type».{«Type»}
use Rattle.shader_ir.specs.declared.types.StructMember.{StructMember}
use Rattle.shader_ir.specs.declared.types.TypeInner.{TypeInner}
use Rattle.shader_ir.specs.declared.types.TypeInner.TheVariants.{Struct}
use Rattle.shader_ir.specs.declared.proc.type_resolution.TypeResolution.{TypeResolution}
use Rattle.shader_ir.specs.declared.proc.type_resolution.TypeResolution.TheVariants.{Handle, Value}
use Rattle.shader_ir.specs.Key.{HoldsNoMembers, InnerKey, IsNoStruct, canonical, found_key, key_of, shape_key}
use Rattle.shader_resolve.specs.declared.error.ResolveError.{ResolveError}
use Rattle.shader_resolve.specs.CongruenceLaws.{HaveEqualKeys, AnswersHaveEqualKeys, KeysRestOnKeys, Respects}
use Rattle.shader_resolve.specs.CongruenceLaws.{ResultsHaveEqualKeys, RulesRespectKeys, OperandsHaveEqualKeys}
use Rattle.shader_resolve.specs.DerivesByRule.{Answered, DerivesByRule, OperandAnswer, memory_of}
use Rattle.shader_resolve.specs.Outcome.{Given, IsOutOfMemoryForCopy, IsOutOfMemoryForType, Meets, Memory, Outcome, Refused}
use Rattle.shader_resolve.specs.TypingRules.{One, Plain, TypingRule, Two, typing_rule}
use Rattle.shader_resolve.specs.Typing.{outcome_key}
use Rattle.shader_resolve.proofs.DerivationLemmas.{rule_key-agrees}
use Rattle.shader_resolve.proofs.RuleLemmas.{typing_rule-respects}
use Rattle.shader_resolve.proofs.TypingLemmas.{canonical_cases}

module _ (types : List «Type») where
  canonical-no_struct : (inner : TypeInner) → IsNoStruct inner → IsNoStruct (canonical types inner)
  canonical-no_struct = canonical_cases types (λ inner other. IsNoStruct inner → IsNoStruct other) (λ inner none. none)
      (λ base size scalar space none. tt)

  -- no type but itself has the key of a struct outside the arena
  shape-no_struct : (handle span : ℕ) (members : List StructMember) (inner : TypeInner) →
      shape_key types handle inner ≡ InnerKey (Struct span members) → ⊥
  shape-no_struct handle span members (Struct other more) e = absurd (cc)
  shape-no_struct handle span members inner e =
      let same : canonical types inner ≡ Struct span members = cc in subst IsNoStruct same (canonical-no_struct inner tt)

  found-no_struct : (handle span : ℕ) (members : List StructMember) (found : Option «Type») →
      found_key types handle found ≡ InnerKey (Struct span members) → ⊥
  found-no_struct handle span members (Some type) e = shape-no_struct handle span members type.inner e
  found-no_struct handle span members None e = absurd (cc)

  key-no_struct : (span : ℕ) (members : List StructMember) (resolution : TypeResolution) → HoldsNoMembers resolution →
      key_of types resolution ≡ InnerKey (Struct span members) → ⊥
  key-no_struct span members (Handle handle) none e = found-no_struct handle span members (slice_get types handle) e
  key-no_struct span members (Value inner) none e =
      let same : canonical types inner ≡ Struct span members = cc in subst IsNoStruct same (canonical-no_struct inner none)

  no_members-by_key : (first second : TypeResolution) → key_of types first ≡ key_of types second → HoldsNoMembers first →
      HoldsNoMembers second
  no_members-by_key first (Handle handle) same none = tt
  no_members-by_key first (Value (Struct span members)) same none = key-no_struct span members first none same
  no_members-by_key first (Value inner) same none = tt

module _ (types : List «Type») (memory : Memory) where
  -- the type that was given has members as that has which wasn't copied
  one-alone : (given first second : TypeResolution) (failure : ResolveError) → given ≡ first → key_of types first ≡ key_of types second →
      IsOutOfMemoryForType memory failure ⊎ IsOutOfMemoryForCopy second failure →
      IsOutOfMemoryForType memory failure ⊎ IsOutOfMemoryForCopy given failure
  one-alone given first second failure is same (inl for_rule) = inl for_rule
  one-alone given first second failure is same (inr for_copy) =
      inr (λ none. for_copy.0 (no_members-by_key types first second same (subst HoldsNoMembers is none)), for_copy.1)

  meets-alike : (result other : Result TypeResolution ResolveError) (first second : Outcome) →
      outcome_key types first ≡ outcome_key types second
      → Meets memory result first → Meets memory other second → HaveEqualKeys types memory result other
  meets-alike (Err failure) (Err another) first second same met meets = tt
  meets-alike (Ok given) (Ok found) (Given a) (Given b) same met meets = cc
  meets-alike (Ok given) (Err failure) (Given a) (Given b) same met meets =
      let keys : key_of types a ≡ key_of types b = cc in one-alone given a b failure met keys meets
  meets-alike (Err failure) (Ok found) (Given a) (Given b) same met meets =
      let keys : key_of types b ≡ key_of types a = cc in one-alone found b a failure meets keys met
  meets-alike (Ok given) (Err failure) (Given a) (Refused b) same met meets = absurd (cc)
  meets-alike (Err failure) (Ok found) (Refused a) (Given b) same met meets = absurd (cc)
  meets-alike (Ok given) other (Refused a) second same met meets = absurd met
  meets-alike result (Ok found) first (Refused b) same met meets = absurd meets

  module _ (Post Other : ℕ → OperandAnswer → Type 0) (result other : Result TypeResolution ResolveError) where
    -- it suffices to consider operands for which both closures return a type
    answered-alike : (operand : ℕ) (Rest Others : TypeResolution → Type 0)
        → ((reported another : OperandAnswer) → Post operand reported → Other operand another → AnswersHaveEqualKeys types reported another)
        → ((first second : TypeResolution) → key_of types first ≡ key_of types second → Rest first → Others second →
        HaveEqualKeys types memory result other)
        → Answered Post result operand Rest → Answered Other other operand Others → HaveEqualKeys types memory result other
    answered-alike operand Rest Others reports goes (Ok first, posted, rest) (Ok second, reported, others) =
        goes first.now second.now (reports (Ok first) (Ok second) posted reported) rest others
    answered-alike operand Rest Others reports goes (Err failure, posted, is) (Err another, reported, also) = rw (is, also) tt
    answered-alike operand Rest Others reports goes (Ok first, posted, rest) (Err another, reported, also) =
        absurd (reports (Ok first) (Err another) posted reported)
    answered-alike operand Rest Others reports goes (Err failure, posted, is) (Ok second, reported, others) =
        absurd (reports (Err failure) (Ok second) posted reported)

    follows-alike : (queried : TypingRule) → Respects types queried → OperandsHaveEqualKeys types Post Other queried →
        DerivesByRule memory Post result queried →
        DerivesByRule memory Other other queried
        → HaveEqualKeys types memory result other
    follows-alike (Plain outcome) respects reports met meets = meets-alike result other outcome outcome refl met meets
    follows-alike (One operand answer) respects reports met meets =
        answered-alike operand _ _ reports (λ first second same. meets-alike result other (answer first) (answer second)
        (respects first second same)) met meets
    follows-alike (Two left right answer) respects reports met meets =
        answered-alike left _ _ reports.0
        (λ first second same. answered-alike right _ _ reports.1
        (λ third fourth alike. meets-alike result other (answer first third) (answer second fourth)
        (respects first second third fourth same alike)))
        met meets

pub keys-agree : KeysRestOnKeys
keys-agree context expression keys others same = rule_key-agrees context.types (typing_rule context expression) keys others same

pub rows-respect : RulesRespectKeys
rows-respect context expression = typing_rule-respects context expression

pub results-alike : (Post Other : ℕ → OperandAnswer → Type 0) → ResultsHaveEqualKeys Post Other
results-alike Post Other context expression result other reports met meets =
    follows-alike context.types (memory_of expression) Post Other result other (typing_rule context expression)
    (typing_rule-respects context expression)
    reports met meets
