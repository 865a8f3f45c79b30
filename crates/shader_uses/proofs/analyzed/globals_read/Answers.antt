use Rattle.std.proofs.Common.{◌≡◌, ◌≤◌, ◌<◌, ◌↔◌, ℕ, Contains, Some, arith, length, slice_get}
use Rattle.std.proofs.lemmas.Result.{IfErr-weaker, IfOk-weaker}
use Rattle.shader_typing.specs.ArenaPositions.{most_items}
use Rattle.shader_typing.specs.InfoRecorded.{AreUsed, IsAnyUsed}
use Rattle.shader_typing.specs.Infos.{Reads}
use Rattle.shader_typing.specs.Program.{Function}
use Rattle.shader_typing.specs.Uses.{Uses}
use Rattle.shader_uses.proofs.GlobalsRead.{all_listed, read, some_read}
use Rattle.shader_uses.proofs.analyzed.globals_read.Goals as goal

pub returns-clause-read : goal.returns-clause-read
returns-clause-read c =
    let m = c.args.module.now in
    let i = c.args.function in
    let of = c.index.result.now in
    let most : length m.global_variables ≤ most_items = omega (arith, c.len-count.ensures.len, c.len-count.ensures.most) in
    IfOk-weaker c.globals_used.result (λ globals. AreUsed of read globals.items)
    (λ globals. (f : Function) (global : ℕ) → slice_get m.functions i ≡ Some f → global < length m.global_variables →
    Contains globals.items global ↔ Uses m f global Reads)
    (λ globals used f global at there.
    all_listed m c.args.info.now i f of c.requires.exact at c.index.ensures most globals.items used global there) c.globals_used.ensures.used

pub returns-clause-memory : goal.returns-clause-memory
returns-clause-memory c =
    let m = c.args.module.now in
    let i = c.args.function in
    let of = c.index.result.now in
    IfErr-weaker c.globals_used.result (λ _. IsAnyUsed of read)
    (λ _. (f : Function) → slice_get m.functions i ≡ Some f → (global : ℕ) × Uses m f global Reads)
    (λ _ any f at. some_read m c.args.info.now i f of c.requires.exact at c.index.ensures any) c.globals_used.ensures.memory
