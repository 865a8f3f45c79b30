use Rattle.std.proofs.Common.{◌≡◌, sym, subst, ℕ, List}
use Rattle.shader_arena.specs.Positions.{items_of}
use Rattle.shader_uniformity.specs.Fault.{AreKnown, IsKnownBy, none}
use Rattle.shader_uniformity.specs.Words.{Function}
use Rattle.shader_uniformity.specs.declared.facts.Rule.{Rule}
use Rattle.shader_uniformity.proofs.FunctionsLemmas.{all_left, next_known, next_left, IsLeft}
use Rattle.shader_uniformity.proofs.divergence.known_functions.Goals as goal

pub loop-function-init : goal.loop-function-init
loop-function-init c =
    let functions = c.args.module.now.functions in
    let entries = c.into_iter-function-iterator.result in
    let gives = c.into_iter-function-iterator.ensures.into_iter_gives in
    let items = c.iter-function-items.ensures.items in
    let same : items_of entries ≡ functions = cc in
    let P : List (List Rule) → Type 0 = λ v. AreKnown c.args.module.now v in
    let Q : List (List Rule) → Type 0 = λ v. IsLeft functions entries v in
    record {
      can_next = tt;
      is_finite = tt;
      known = subst P (sym c.new-known.ensures.items) none;
      left = subst Q (sym c.new-known.ensures.items) (all_left functions entries same);
    }

pub loop-function-preserved : goal.loop-function-preserved
loop-function-preserved c =
    let functions = c.args.module.now.functions in
    let known = c.loop-function.known.items in
    let entry : ℕ × Function = (c.in-Some.field-0-0, c.in-Some.function.now) in
    let entries = c.next.new.self in
    let more = c.in_ok-next.next in
    let L : List (ℕ × Function) → Type 0 = λ v. IsLeft functions v known in
    let left = subst L c.in-Some.ensures.steps c.loop-function.invariant.left in
    let P : List (List Rule) → Type 0 = λ v. AreKnown c.args.module.now v in
    let Q : List (List Rule) → Type 0 = λ v. IsLeft functions entries v in
    let K : List (List Rule) → Type 0 = λ v. IsKnownBy c.args.module.now v c.in-Some.function.now more in
    record {
      can_next = tt;
      is_finite = tt;
      known = subst P (sym c.in_ok-push.ensures.items) (next_known c.args.module.now entry entries known more left
          c.loop-function.invariant.known (subst K c.deref.ensures.value c.in_ok-next.ensures));
      left = subst Q (sym c.in_ok-push.ensures.items) (next_left functions entry entries known more left);
    }
