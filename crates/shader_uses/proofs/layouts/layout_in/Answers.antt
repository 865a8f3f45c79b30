use Rattle.std.proofs.Common.{rules, ◌≡◌, length}
use Rattle.shader_uses.proofs.Vertex.{is_laid_out}
use Rattle.shader_uses.specs.Vertex.{vertex_types}
use Rattle.shader_uses.proofs.layouts.layout_in.Goals as goal

pub unreachable-requires : goal.unreachable-requires
unreachable-requires c =
    let types : c.to_ctx.result.types.now ≡ vertex_types = search rules in
    is_laid_out c.to_ctx.result (length c.update.new.self) c.in-Err-Layout.field-0 c.in-Err-Layout.field-0-0 types
    c.in-Err-Layout.field-0-is c.in-Err-Layout.ensures.refused
