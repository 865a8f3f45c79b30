use Rattle.std.proofs.Common.{ℕ, List, flat_map, subst}
use Rattle.std.specs.List.{enumerate_from}
use Rattle.shader_info.specs.declared.flags.GlobalUse.{GlobalUse}
use Rattle.shader_report_resources.specs.Entries.{pair_tokens, use_tokens, uses_members}
use Rattle.report_json.specs.Tokens.{Adds}
use Rattle.report_json.proofs.WritingLemmas.{adds_then, writes_last, writes_then}
use Rattle.shader_report_resources.proofs.entries.write_uses.Goals as goal

pub returns : goal.returns
unfolding uses_members
returns c =
    let used =
    subst (λ (v : List GlobalUse). Adds c.begin_array.new.self c.write_each_use.new.writer (flat_map use_tokens (enumerate_from 0 v)))
    c.as_slice.ensures c.in_ok-write_each_use.ensures in
    let sampled =
    subst (λ (v : List (ℕ × ℕ)). Adds c.begin_array-2.new.self c.write_pairs.new.writer (flat_map pair_tokens v)) c.as_slice-2.ensures
    c.in_ok-write_pairs.ensures in
    writes_then c.in_ok-key.ensures (writes_then c.in_ok-begin_array.ensures (adds_then used (writes_then c.in_ok-end_array.ensures
    (writes_then c.in_ok-key-2.ensures (writes_then c.in_ok-begin_array-2.ensures (adds_then sampled
    (writes_last c.in_ok-end_array-2.ensures)))))))
