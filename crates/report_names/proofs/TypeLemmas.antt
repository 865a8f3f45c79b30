-- A type of which at least one level is shown.
use Rattle.std.proofs.Common.{◌≡◌, ◌≢◌, ℕ, ◌-◌, zero, suc, refl, sub-one, slice_get}
use Rattle.shader_ir.specs.declared.«module».Module.{Module}
use Rattle.report_names.specs.Types.{found_text, type_text}

pub type_text_found : (m : Module) (nested i : ℕ) → nested ≢ 0 →
    type_text m nested i ≡ found_text (λ base. type_text m (nested - 1) base) m i (slice_get m.types i)
type_text_found m zero i some = absurd (some refl)
type_text_found m (suc nested) i some = rw sub-one refl
