use Rattle.std.proofs.Common.{rules, ◌≡◌, sym, subst, ap, ◌∙◌, ℕ, List, [], ◌∷◌, false, length}
use Rattle.std.proofs.lemmas.List.{length-replicate}
use Rattle.std.specs.List.{Contains}
use Rattle.std.specs.Prelude.{replicate}
use Rattle.shader_arena.specs.Positions.{items_of}
use Rattle.shader_analysis_spec.proofs.ListLemmas.{here, there}
use Rattle.shader_analysis_spec.specs.Program.{Expression}
use Rattle.shader_bounds.proofs.AddLemmas.{Brings, brought_at, none_set, nothing_yet, whole_at}
use Rattle.shader_bounds.proofs.SearchLemmas.{operands_there}
use Rattle.shader_bounds.specs.Checked.{Checks, IsCheckedIndex}
use Rattle.shader_bounds.specs.Adds.{Adds, IsIn}
use Rattle.shader_bounds.specs.Typed.{Records}
use Rattle.shader_resolve.specs.WellFormed.{OperandsBelow}
use Rattle.shader_bounds.proofs.checked.find_checked_indexes.Goals as goal

pub loop-expression-init : goal.loop-expression-init
loop-expression-init c =
    let f = c.args.function.now in
    let W : Expression → ℕ → Type 0 = Checks c.args.module.now f (Records c.args.info.now) c.args.policies in
    let items : items_of c.into_iter-expression-iterator.result ≡ f.expressions = cc in
    let built : c.in_ok-checked.checked ≡ replicate (length f.expressions) false = c.in_ok-checked.ensures in
    let P : List Expression → Type 0 = λ v. Adds (Brings W v) (Brings W f.expressions) (IsIn c.in_ok-checked.checked) in
    let none : (e : ℕ) → IsIn c.in_ok-checked.checked e → ⊥ = λ e h. none_set (length f.expressions) e (subst (λ v. IsIn v e) built h) in
    let Q : List Expression → Type 0 = λ v. (x : Expression) → Contains v x → Contains f.expressions x in
    record {
      can_next = tt;
      is_finite = tt;
      count = ap length built ∙ length-replicate (length f.expressions) false;
      left = subst Q (sym items) (λ x h. h);
      whole = subst P (sym items) (nothing_yet W f.expressions (IsIn c.in_ok-checked.checked) none);
    }

pub add_checked-requires : goal.add_checked-requires
add_checked-requires c =
    let f = c.args.function.now in
    let first : items_of c.loop-expression.expression-iterator ≡ c.in-Some.expression.now ∷ items_of c.next.new.self = search rules in
    let holds : Contains (items_of c.loop-expression.expression-iterator) c.in-Some.expression.now =
    let P : List Expression → Type 0 = λ v. Contains v c.in-Some.expression.now in
    subst P (sym first) (here c.in-Some.expression.now (items_of c.next.new.self)) in
    let Q : ℕ → Type 0 = λ v. OperandsBelow v c.in-Some.expression.now in
    subst Q (sym c.loop-expression.invariant.count)
    (operands_there c.args.module.now c.requires.well_formed f c.requires.function c.in-Some.expression.now
    (c.loop-expression.invariant.left c.in-Some.expression.now holds))

pub loop-expression-preserved : goal.loop-expression-preserved
loop-expression-preserved c =
    let f = c.args.function.now in
    let W : Expression → ℕ → Type 0 = Checks c.args.module.now f (Records c.args.info.now) c.args.policies in
    let first : items_of c.loop-expression.expression-iterator ≡ c.in-Some.expression.now ∷ items_of c.next.new.self = search rules in
    let P : Expression → List Expression → Type 0 = λ x v. Contains v x in
    record {
      can_next = tt;
      is_finite = tt;
      count = c.add_checked.ensures.count ∙ c.loop-expression.invariant.count;
      left = λ x h. c.loop-expression.invariant.left x (subst (P x) (sym first)
          (there c.in-Some.expression.now (items_of c.next.new.self) x h));
      whole = brought_at W (items_of c.loop-expression.expression-iterator) c.in-Some.expression.now (items_of c.next.new.self)
          (IsCheckedIndex c.args.module.now f (Records c.args.info.now) c.args.policies)
          (IsIn c.loop-expression.checked) (IsIn c.add_checked.new.checked) first c.loop-expression.invariant.whole
          c.add_checked.ensures.adds;
    }

pub returns-clause-members : goal.returns-clause-members
returns-clause-members c =
    let f = c.args.function.now in
    let W : Expression → ℕ → Type 0 = Checks c.args.module.now f (Records c.args.info.now) c.args.policies in
    let last : items_of c.loop-expression.expression-iterator ≡ [] = search rules in
    whole_at W (items_of c.loop-expression.expression-iterator)
    (IsCheckedIndex c.args.module.now f (Records c.args.info.now) c.args.policies) (IsIn c.loop-expression.checked) last
    c.loop-expression.invariant.whole
