-- The results of both closures for the pointer have one key.
use Rattle.std.proofs.Common.{rules, ◌≡◌, ◌∙◌, ◌<◌, ℕ, ap, sym, subst, List, Option}
use Rattle.std.proofs.Common.{Some, Ok, Err, IsOkAnd, length, slice_get, get_or, arith}
use Rattle.shader_ir.specs.declared.types.«Type».{«Type»}
use Rattle.shader_ir.specs.declared.expression.Expression.TheVariants as form
use Rattle.shader_ir.specs.declared.proc.type_resolution.TypeResolution.{TypeResolution}
use Rattle.shader_ir.specs.Key.{key_of}
use Rattle.shader_overloads.proofs.MaskLemmas.{found}
use Rattle.shader_resolve.specs.CongruenceLaws.{HaveEqualKeys, AnswersHaveEqualKeys}
use Rattle.shader_resolve.specs.DerivesByRule.{OperandAnswer}
use Rattle.shader_resolve.specs.Outcome.{ForNothing}
use Rattle.shader_resolve_tests.proofs.congruence.loads_have_equal_keys.Goals as goal

congruence : (types : List «Type») (here there : Option TypeResolution) (first second : TypeResolution) → here ≡ Some first →
    there ≡ Some second → key_of types first ≡ key_of types second
    → (reported other : OperandAnswer) → IsOkAnd reported (λ type. here ≡ Some type.now) → IsOkAnd other (λ type. there ≡ Some type.now) →
    AnswersHaveEqualKeys types reported other
congruence types here there first second is also same (Ok reported) (Ok other) of others =
    let left : reported.now ≡ first = cc in
    let right : other.now ≡ second = cc in
    ap (λ type. key_of types type) left ∙ same ∙ ap (λ type. key_of types type) (sym right)
congruence types here there first second is also same (Err reported) other of others = absurd of
congruence types here there first second is also same (Ok reported) (Err other) of others = absurd others

at_position : (types : List TypeResolution) (index position : ℕ) (type : TypeResolution) → index ≡ position → position < length types →
    type ≡ get_or types index type → slice_get types position ≡ Some type
at_position types index position type same within is = subst (λ there. slice_get types there ≡ Some type) same
    (found types index type (omega arith) is)

pub returns : goal.returns
returns c =
    let types_are = ap (λ context. context.types) c.context.view_is in
    c.have_equal_keys-congruence.ensures
    (subst (λ types. HaveEqualKeys types ForNothing c.resolve-first.result c.resolve-second.result) (sym types_are)
    (c.equal_operand_types_give_equal_types.ensures c.args.context.now (form.Load c.args.pointer) c.resolve-first.result
    c.resolve-second.result
    (λ reported other posted also.
    congruence c.args.context.now.types (slice_get c.args.stored.now c.args.pointer) (slice_get c.args.others.now c.args.pointer)
    c.index-stored-index.result c.index-others-index.result
    (at_position c.args.stored.now c.index.result c.args.pointer c.index-stored-index.result (search rules) c.requires.there
    c.index-stored-index.is)
    (at_position c.args.others.now c.index-2.result c.args.pointer c.index-others-index.result (search rules) c.requires.others_there
    c.index-others-index.is)
    (subst (λ types. key_of types c.index-stored-index.result ≡ key_of types c.index-others-index.result) types_are
    (c.compare_types.ensures.0 (search rules)))
    reported other posted.1 also.1)
    c.resolve-first.ensures.follows c.resolve-second.ensures.follows))
