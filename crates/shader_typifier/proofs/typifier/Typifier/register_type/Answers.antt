use Rattle.std.proofs.Common.{rules, ◌∙◌, ap, length, take, None}
use Rattle.std.proofs.Math.Seq.{take-length}
use Rattle.shader_typifier.proofs.RegisterLemmas.{copy_needs_memory, handle_added, handle_registered, insert_needs_memory}
use Rattle.shader_typifier.proofs.RegisterLemmas.{retained, registered, value_added, value_registered}
use Rattle.shader_typifier.proofs.typifier.Typifier.register_type.Goals as goal

pub returns-in_err-inner-in-Value-clause-retained : goal.returns-in_err-inner-in-Value-clause-retained
returns-in_err-inner-in-Value-clause-retained c = take-length c.args.types.now

pub returns-in_err-insert-in-Value-clause-retained : goal.returns-in_err-insert-in-Value-clause-retained
returns-in_err-insert-in-Value-clause-retained c = ap (λ v. take (length c.args.types.now) v) c.in_err-insert-in-Value.ensures.err ∙
    take-length c.args.types.now

pub returns-in-Handle-clause-registered : goal.returns-in-Handle-clause-registered
returns-in-Handle-clause-registered c =
    handle_registered c.args.types.now c.args.self.now c.args.handle c.index.result.now c.index.ensures c.in-Handle.ty (search rules)

pub returns-in-Handle-clause-retained : goal.returns-in-Handle-clause-retained
returns-in-Handle-clause-retained c = take-length c.args.types.now

pub returns-in-Handle-clause-added : goal.returns-in-Handle-clause-added
returns-in-Handle-clause-added c =
    handle_added c.args.types.now c.args.self.now c.args.handle c.index.result.now c.index.ensures c.in-Handle.ty (search rules)

pub returns-in_ok-insert-in-Value-clause-registered : goal.returns-in_ok-insert-in-Value-clause-registered
returns-in_ok-insert-in-Value-clause-registered c = λ resolution is.
    value_registered c.insert.new.self c.args.self.now c.args.handle c.index.result.now c.index.ensures c.in-Value.inner
    c.in_ok-inner-in-Value.inner (search rules) c.in_ok-inner-in-Value.ensures.copy resolution is c.in_ok-insert-in-Value.field-0
    (registered c.insert.new.self (record { name = None; inner = c.in_ok-inner-in-Value.inner }) c.in_ok-insert-in-Value.field-0
    c.in_ok-insert-in-Value.ensures.only)

pub returns-in_ok-insert-in-Value-clause-added : goal.returns-in_ok-insert-in-Value-clause-added
returns-in_ok-insert-in-Value-clause-added c = λ resolution is.
    value_added c.args.types.now c.args.self.now c.args.handle c.index.result.now c.index.ensures c.in-Value.inner
    c.in_ok-inner-in-Value.inner (search rules) c.in_ok-inner-in-Value.ensures.copy resolution is c.insert.new.self
    c.in_ok-insert-in-Value.ensures.inserted

pub returns-in_ok-insert-in-Value-clause-retained : goal.returns-in_ok-insert-in-Value-clause-retained
returns-in_ok-insert-in-Value-clause-retained c = retained c.args.types.now c.insert.new.self
    (record { name = None; inner = c.in_ok-inner-in-Value.inner }) c.in_ok-insert-in-Value.ensures.inserted

pub returns-in_err-inner-in-Value-clause-needs_memory : goal.returns-in_err-inner-in-Value-clause-needs_memory
returns-in_err-inner-in-Value-clause-needs_memory c =
    copy_needs_memory c.args.types.now c.args.self.now c.args.handle c.index.result.now c.index.ensures _ c.in-Value.inner (search rules)
    (λ none. absurd (cc (c.in_err-inner-in-Value.ensures.ok none)))

pub returns-in_err-insert-in-Value-clause-needs_memory : goal.returns-in_err-insert-in-Value-clause-needs_memory
returns-in_err-insert-in-Value-clause-needs_memory c =
    insert_needs_memory c.args.types.now c.args.self.now c.args.handle c.index.result.now c.index.ensures _ c.in-Value.inner (search rules)
    c.in_ok-inner-in-Value.inner c.in_ok-inner-in-Value.ensures.copy c.in_err-insert-in-Value.ensures.absent
