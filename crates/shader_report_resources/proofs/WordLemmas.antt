-- Words of types, a level deeper.
use Rattle.std.proofs.Common.{◌≡◌, ◌∙◌, ap, ℕ, suc, [], Option, Some, None}
use Rattle.shader_ir.specs.declared.«module».Module.{Module}
use Rattle.shader_report_resources.specs.Words.{base_at, told_words, words_of_base, words_within}

within_more : (m : Module) (levels less position : ℕ) (base : Option ℕ) → levels ≡ suc less → base_at m position ≡ base →
    words_within m levels position ≡ told_words m (words_of_base (words_within m less) base) position
within_more m levels less position base more is =
    ap (λ (n : ℕ). words_within m n position) more
    ∙ ap (λ (b : Option ℕ). told_words m (words_of_base (words_within m less) b) position) is

pub within_over : (m : Module) (levels less position base : ℕ) → levels ≡ suc less → base_at m position ≡ Some base →
    words_within m levels position ≡ told_words m (words_within m less base) position
within_over m levels less position base more is = within_more m levels less position (Some base) more is

pub within_alone : (m : Module) (levels less position : ℕ) → levels ≡ suc less → base_at m position ≡ None →
    words_within m levels position ≡ told_words m [] position
within_alone m levels less position more is = within_more m levels less position None more is
