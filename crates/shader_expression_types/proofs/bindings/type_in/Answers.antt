use Rattle.std.proofs.Common.{◌<◌, ap, sym, subst, ◌∙◌, length, slice_get}
use Rattle.std.proofs.lemmas.Option.{slice_get-map, slice_get-get_or}
use Rattle.std.specs.Option.{option_map}
use Rattle.shader_info.specs.declared.info.ExpressionInfo.{ExpressionInfo}
use Rattle.shader_expression_types.proofs.bindings.type_in.Goals as goal

pub returns : goal.returns
returns c =
    let records = c.args.records.now in
    let at = c.index.ensures.position in
    let found = slice_get-get_or records c.index.result c.index-records-index.result
    (subst (λ v. v < length records) (sym at) c.requires) in
    slice_get-map (λ (one : ExpressionInfo). one.ty) records c.args.expression
    ∙ ap (option_map (λ (one : ExpressionInfo). one.ty)) (ap (slice_get records) (sym at) ∙ found)
