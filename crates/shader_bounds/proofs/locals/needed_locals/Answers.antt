use Rattle.std.proofs.Common.{◌≡◌, ap, ◌∙◌, subst, ℕ, ◌↔◌, List, []}
use Rattle.std.specs.List.{Contains}
use Rattle.shader_analysis_spec.proofs.ListLemmas.{nowhere}
use Rattle.shader_analysis_spec.specs.Program.{Step, statements}
use Rattle.shader_bounds.proofs.AddLemmas.{from_nothing}
use Rattle.shader_bounds.specs.Locals.{AllPass}
use Rattle.shader_bounds.specs.Typed.{Records}
use Rattle.shader_passes.specs.StatementLists.{steps_of}
use Rattle.shader_bounds.proofs.locals.needed_locals.Goals as goal

pub returns : goal.returns
returns c =
    let m = c.args.module.now in
    let f = c.args.function.now in
    let value : c.as_slice.result.now ≡ c.in_ok-all.all.items = c.as_slice.ensures.value in
    let listed_all : steps_of c.as_slice.result.now ≡ statements f.body = ap steps_of value ∙ c.in_ok-all.ensures in
    let empty : c.new-locals.result.keys ≡ [] = cc in
    let none : (ty : ℕ) → Contains c.new-locals.result.keys ty → ⊥ = λ ty h. let P : List ℕ → Type 0 = λ v. Contains v ty in
    nowhere ty (subst P empty h) in
    let Q : List Step → Type 0 = λ v. (ty : ℕ) → Contains c.add_statements.new.locals.keys ty
    ↔ AllPass m f (Records c.args.info.now) v ty in
    subst Q listed_all
    (from_nothing (Contains c.new-locals.result.keys) (Contains c.add_statements.new.locals.keys)
    (AllPass m f (Records c.args.info.now) (steps_of c.as_slice.result.now)) none c.in_ok-add_statements.ensures)
