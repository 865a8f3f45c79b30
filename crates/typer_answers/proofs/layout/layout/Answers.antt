use Rattle.std.proofs.Common.{◌∙◌, length, sym, ap}
use Rattle.std.specs.Prelude.{slice_get}
use Rattle.typer_answers.specs.Layouts.{context}
use Rattle.typer_answers.proofs.Laying.{layout_is, no_layouts, position_laid, refused_is, sizes_in_range, types_laid}
use Rattle.typer_answers.proofs.layout.layout.Goals as goal

pub update-requires : goal.update-requires
update-requires c =
    let in_arena = c.in_ok-inner.ensures.alone c.new-types.ensures in
    let types = types_laid c.args.spelled c.insert_type.new.types c.insert.new.self c.in_ok-inner.inner in_arena.0 in_arena.1
    c.in_ok-handle.ensures.inserted in
    record {
      sizes = sizes_in_range (context c.insert.new.self c.new-constants.result c.new-overrides.result
          c.new-global_expressions.result) c.args.spelled types;
    }

pub returns-in-Ok-clause-layout : goal.returns-in-Ok-clause-layout
returns-in-Ok-clause-layout c =
    let in_arena = c.in_ok-inner.ensures.alone c.new-types.ensures in
    let types = types_laid c.args.spelled c.insert_type.new.types c.insert.new.self c.in_ok-inner.inner in_arena.0 in_arena.1
    c.in_ok-handle.ensures.inserted in
    let laid_at = position_laid c.args.spelled c.insert_type.new.types c.in_ok-inner.inner c.in_ok-handle.handle in_arena.0 in_arena.1
    c.in_ok-handle.ensures.handle in
    let layouts = c.update.new.self in
    layout_is (context c.insert.new.self c.new-constants.result c.new-overrides.result c.new-global_expressions.result) c.args.spelled
    (length c.new-layouter.result) layouts c.index.result.now types (ap length c.new-layouter.ensures)
    c.in-Ok.ensures.faultless c.in-Ok.ensures.whole (c.in-Ok.ensures.all (no_layouts _ c.new-layouter.result c.new-layouter.ensures))
    (sym (ap (slice_get layouts) laid_at) ∙ c.index.ensures.0)

pub returns-in-Err-Layout-clause-layout : goal.returns-in-Err-Layout-clause-layout
returns-in-Err-Layout-clause-layout c =
    let in_arena = c.in_ok-inner.ensures.alone c.new-types.ensures in
    let types = types_laid c.args.spelled c.insert_type.new.types c.insert.new.self c.in_ok-inner.inner in_arena.0 in_arena.1
    c.in_ok-handle.ensures.inserted in
    refused_is (context c.insert.new.self c.new-constants.result c.new-overrides.result c.new-global_expressions.result) c.args.spelled
    (length c.update.new.self) c.in-Err-Layout.field-0 c.in-Err-Layout.field-0-0 types c.in-Err-Layout.field-0-is
    c.in-Err-Layout.ensures.refused
