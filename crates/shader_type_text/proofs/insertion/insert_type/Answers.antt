use Rattle.std.proofs.Common.{refl}
use Rattle.shader_type_text.proofs.InsertionLemmas.{base_inserted}
use Rattle.shader_type_text.proofs.insertion.insert_type.Goals as goal

pub returns-in_ok-base-in-Array-clause-in_arena : goal.returns-in_ok-base-in-Array-clause-in_arena
returns-in_ok-base-in-Array-clause-in_arena c =
    let in_arena = base_inserted c.args.types.now c.insert.new.self c.in-Array.base c.inner-in-Array.result c.in_ok-base-in-Array.base
    c.inner-in-Array.ensures c.in_ok-base-in-Array.ensures.handle c.in_ok-base-in-Array.ensures.inserted in
    rw c.in-Array.is (c.in_ok-base-in-Array.base, in_arena, refl)
