use Rattle.json.specs.Value.{members_view, value_view}
use Rattle.shader_json_functions.proofs.PartsLemmas.{next_entry_point}
use Rattle.shader_json_functions.proofs.functions.EntryPointReadNext.read_next.Goals as goal

pub returns : goal.returns
returns c =
    let parts = c.in_ok-parts.parts in
    record {
      next = next_entry_point c.args.depth c.args.reader.now c.read_next.new.reader (value_view parts.rest)
          (members_view c.in_ok-fields.fields.members.now)
          (record { name = c.in_ok-name.name; stage = parts.second; function = parts.first }) c.in_ok-parts.ensures
          c.in_ok-fields.ensures.reads c.in_ok-name.ensures.reads c.in_ok-check_workgroup_size.ensures.reads;
    }
