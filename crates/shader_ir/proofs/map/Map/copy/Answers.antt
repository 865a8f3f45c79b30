use Rattle.std.proofs.Common.{rules, ◌≡◌, ◌∷◌}
use Rattle.shader_ir.proofs.CopyLemmas.{next_entry}
use Rattle.shader_ir.proofs.map.Map.copy.Goals as goal

pub loop-key-preserved-in_ok-insert : goal.loop-key-preserved-in_ok-insert
loop-key-preserved-in_ok-insert g c =
    let first : c.loop-key.key-iterator ≡ (c.in-Some.key.now, c.in-Some.value.now) ∷ c.next.new.self = search rules in (
      tt,
      tt,
      next_entry g.K.PartialEq.eq g.met.K.Eq.laws c.args.self.now c.loop-key.entries.entries c.loop-key.key-iterator c.next.new.self
          c.insert.new.self.entries c.len.ensures.distinct c.loop-key.invariant.2 first c.in_ok-try_copy.ensures c.in_ok-try_copy-2.ensures
          c.in_ok-insert.ensures.entries,
    )

pub loop-key-preserved : goal.loop-key-preserved
loop-key-preserved g c =
    let first : c.loop-key.key-iterator ≡ (c.in-Some.key.now, c.in-Some.value.now) ∷ c.next.new.self = search rules in (
      tt,
      tt,
      next_entry g.K.PartialEq.eq g.met.K.Eq.laws c.args.self.now c.loop-key.entries.entries c.loop-key.key-iterator c.next.new.self
          c.insert.new.self.entries c.len.ensures.distinct c.loop-key.invariant.2 first c.in_ok-try_copy.ensures c.in_ok-try_copy-2.ensures
          c.in_ok-insert.ensures.entries,
    )
