use Rattle.std.proofs.Common.{◌≡◌, ◌+◌, ◌∙◌, inr, refl, sym, ap, subst, length, ◌++◌, [], ◌∷◌, Some, slice_get, arith, length-append}
use Rattle.std.proofs.lemmas.List.{take-append-le}
use Rattle.std.proofs.lemmas.List.Elements.{All-append, All-cons}
use Rattle.std.proofs.Math.Seq.{take-length}
use Rattle.shader_ir.specs.Key.{FitsTypes}
use Rattle.shader_typifier.specs.Grown.{grows, stays}
use Rattle.shader_typifier.proofs.GrownLemmas.{grown_types_are_typed}
use Rattle.shader_typifier.proofs.typifier.Typifier.grow.Goals as goal

pub loop-position-init : goal.loop-position-init
loop-position-init c =
    let long : length c.args.self.now ≡ c.len-position.result = sym c.len-position.ensures in
    record {
      reached = long;
      behind = omega (arith, long);
      most = λ le. omega (arith, le, long);
      idle = λ lt. refl;
      retained = take-length c.args.self.now;
      grown = stays;
      fits = c.requires.fit;
    }

pub loop-position-preserved : goal.loop-position-preserved
loop-position-preserved c =
    let invariant = c.loop-position.invariant in
    let stored = c.loop-position.self in
    let old = c.args.self.now in
    let resolution = c.in_ok-resolution.resolution in
    let fits = FitsTypes c.args.context.now.types in
    let pushed : c.push.new.self.items ≡ stored ++ resolution ∷ [] =
    c.in-Ok.ensures.items ∙ ap (λ v. v ++ resolution ∷ []) c.self.view_is in
    let at : c.from_index-next.result ≡ length stored = c.from_index-next.ensures ∙ sym invariant.reached in
    let here = subst (λ v. slice_get c.args.expressions.now v ≡ Some c.index.result.now) at c.index.ensures in
    let typed = c.in_ok-resolution.ensures.typed in
    let longer : length (stored ++ resolution ∷ []) ≡ length stored + 1 = length-append stored (resolution ∷ []) in
    record {
      reached = rw pushed (omega (arith, longer, invariant.reached));
      behind = omega (arith, invariant.behind);
      most = λ le. omega arith;
      idle = λ lt. absurd (omega (arith, lt, invariant.behind));
      retained = rw pushed (take-append-le (length old) stored (resolution ∷ []) (omega arith) ∙ invariant.retained);
      grown = rw pushed (grows invariant.grown here typed);
      fits = rw pushed (All-append fits stored (resolution ∷ []) invariant.fits
          (All-cons fits resolution [] typed.fits (λ k d lt. absurd (omega arith))));
    }

pub returns-in_err-resolution-clause-typed : goal.returns-in_err-resolution-clause-typed
returns-in_err-resolution-clause-typed c = grown_types_are_typed _ _ _ _ c.loop-position.invariant.grown

pub returns-in-Err-clause-typed : goal.returns-in-Err-clause-typed
returns-in-Err-clause-typed c =
    let same : c.push.new.self.items ≡ c.loop-position.self = cc in rw same (grown_types_are_typed _ _ _ _ c.loop-position.invariant.grown)

pub returns-in-Err-clause-refused : goal.returns-in-Err-clause-refused
returns-in-Err-clause-refused c =
    let same : c.push.new.self.items ≡ c.loop-position.self = cc in
    let at : c.from_index-next.result ≡ length c.loop-position.self = c.from_index-next.ensures ∙ sym c.loop-position.invariant.reached in
    rw same (record {
      expression = c.index.result.now;
      is_there = subst (λ v. slice_get c.args.expressions.now v ≡ Some c.index.result.now) at c.index.ensures;
      refused = inr (record {
        resolution = c.in_ok-resolution.resolution;
        typed = c.in_ok-resolution.ensures.typed;
        out_of_memory = refl;
      });
    })

pub returns-clause-typed : goal.returns-clause-typed
returns-clause-typed c = grown_types_are_typed _ _ _ _ c.loop-position.invariant.grown
