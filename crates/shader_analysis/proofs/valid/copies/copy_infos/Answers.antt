use Rattle.std.proofs.Common.{◌≡◌, ◌∙◌, ◌<◌, ◌∷◌, [], List, Some, ap, arith, length, length-append, refl, slice_get, subst, sym}
use Rattle.std.proofs.lemmas.Option.{same_Some, slice_get_read}
use Rattle.shader_expression_types.proofs.ListLemmas.{one_more}
use Rattle.shader_info.specs.Recorded.{SameInfo}
use Rattle.shader_info.specs.declared.info.FunctionInfo.{FunctionInfo}
use Rattle.shader_analysis.proofs.valid.copies.copy_infos.Goals as goal

pub loop-info-preserved : goal.loop-info-preserved
loop-info-preserved c =
    let copies = c.loop-info.copies.items in
    let copied = c.in_ok-copy.field-0 in
    let before = c.loop-info.invariant in
    let inside : c.loop-info.info-index < length c.args.infos.now = omega arith in
    let next : slice_get c.args.infos.now c.loop-info.info-index ≡ Some c.info-item.result =
    slice_get_read c.args.infos.now (length c.args.infos.now) c.loop-info.info-index c.info-item.result refl inside c.info-item.is in
    let last : (info : FunctionInfo) → slice_get c.args.infos.now (length copies) ≡ Some info → SameInfo info copied =
    λ info at. subst (λ (v : FunctionInfo). SameInfo v copied)
    (same_Some c.info-item.result info (sym next ∙ (ap (slice_get c.args.infos.now) (sym before.as_many) ∙ at))) c.in_ok-copy.ensures in
    record {
      as_many = omega (arith, ap length c.in_ok-push.ensures.items, length-append copies (copied ∷ []), before.as_many);
      each = λ i copy info is_copy is_info.
          one_more (λ e (y : FunctionInfo). (x : FunctionInfo) → slice_get c.args.infos.now e ≡ Some x → SameInfo x y) copies copied
          (λ e y at x is_x. before.each e y x at is_x) last i copy
          (ap (λ (v : List FunctionInfo). slice_get v i) (sym {A = List FunctionInfo} c.in_ok-push.ensures.items) ∙ is_copy) info is_info;
    }
