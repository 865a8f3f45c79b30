use Rattle.std.proofs.Common.{◌≡◌, Option, ℕ, List, subst}
use Rattle.json.specs.Written.{Written}
use Rattle.shader_report_resources.specs.Entries.{axes_tokens, size_members}
use Rattle.report_json.specs.Tokens.{Adds}
use Rattle.report_json.proofs.WritingLemmas.{adds_then}
use Rattle.shader_report_resources.proofs.entries.write_size.Goals as goal

with_axes : (name : List ℕ) {old new : Written} {x y z u v w : Option ℕ} → x ≡ u → y ≡ v → z ≡ w →
    Adds old new (axes_tokens name x y z) → Adds old new (axes_tokens name u v w)
with_axes name {old} {new} {x} {y} {z} {u} {v} {w} first second third added =
    subst (λ (c : Option ℕ). Adds old new (axes_tokens name u v c)) third
    (subst (λ (b : Option ℕ). Adds old new (axes_tokens name u b z)) second
    (subst (λ (a : Option ℕ). Adds old new (axes_tokens name a y z)) first added))

pub returns : goal.returns
unfolding size_members
returns c =
    adds_then (with_axes _ c.workgroup_size-x.ensures c.workgroup_size-y.ensures c.workgroup_size-z.ensures c.in_ok-write_axes.ensures)
    (with_axes _ c.workgroup_override-x.ensures c.workgroup_override-y.ensures c.workgroup_override-z.ensures c.in_ok-write_axes-2.ensures)
