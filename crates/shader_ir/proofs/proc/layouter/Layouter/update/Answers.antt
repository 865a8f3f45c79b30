use Rattle.std.proofs.Common.{length}
use Rattle.std.proofs.lemmas.List.Elements.{All-drop}
use Rattle.shader_ir.specs.Sizes.{IsTypeSizeInRange}
use Rattle.shader_ir.specs.declared.types.«Type».{«Type»}
use Rattle.shader_ir.proofs.proc.layouter.Layouter.update.Goals as goal

pub update_added-requires : goal.update_added-requires
update_added-requires c =
    let ctx = c.args.ctx in
    record {
      sizes = All-drop (λ (type : «Type»). IsTypeSizeInRange ctx type.inner) (length c.args.self.now) ctx.types.now
          c.requires.sizes;
    }
