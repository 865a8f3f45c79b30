use Rattle.std.proofs.Common.{◌∙◌}
use Rattle.shader_json_declarations.proofs.DistinctLemmas.{absent_key, not_in_map}
use Rattle.shader_json_declarations.proofs.EntryLemmas.{new_last}
use Rattle.shader_json_declarations.proofs.maps.add_entry.Goals as goal

pub returns-then-is_some-clause-accepts : goal.returns-then-is_some-clause-accepts
returns-then-is_some-clause-accepts g c = λ decides absent.
    not_in_map g.K.PartialEq.eq decides c.args.key c.args.entries.now c.in_ok-insert.field-0 c.in_ok-insert.ensures.old
    c.if-is_some.ensures absent

pub returns : goal.returns
returns g c =
    record {
      added = c.in_ok-insert.ensures.entries
          ∙ new_last _ c.args.entries.now c.args.key c.args.value c.in_ok-insert.field-0 c.in_ok-insert.ensures.old c.if-is_some.ensures;
      absent = absent_key g.K.PartialEq.eq g.met.K.Eq.laws c.args.key c.args.entries.now c.in_ok-insert.field-0
          c.in_ok-insert.ensures.old c.if-is_some.ensures;
      accepts = λ decides absent. tt;
    }
