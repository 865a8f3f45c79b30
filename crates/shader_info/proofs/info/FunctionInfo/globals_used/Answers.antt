use Rattle.std.proofs.Common.{◌≡◌, ◌∙◌, ◌++◌, [], ap, rules, sym}
use Rattle.std.proofs.lemmas.List.{append-nil}
use Rattle.std.specs.List.{filter}
use Rattle.shader_info.specs.Recorded.{is_used_for}
use Rattle.shader_info.proofs.UsedLemmas.{used_reported}
use Rattle.shader_info.proofs.info.FunctionInfo.globals_used.Goals as goal

pub returns-clause-used : goal.returns-clause-used
returns-clause-used c =
    let found = c.loop-global.globals.items in
    let used = filter (is_used_for c.args.self.now c.args.uses) in
    let none_left : c.loop-global.global-iterator ≡ [] = search rules in
    let all = sym (append-nil found) ∙ (ap (λ left. found ++ used left) (sym none_left) ∙ c.loop-global.invariant.2) in
    used_reported c.args.self.now c.args.uses found all
