-- Texts in a caller's buffer.
use Rattle.std.specs.Prelude.{◌≡◌, ◌≤◌, ◌<◌, ◌++◌, ℕ, List, length, drop}

-- the length of the text is told; where the buffer has room, it begins with the text and is otherwise as before, and else it is as before
pub record IsCopy (text before after : List ℕ) (told : ℕ) : Type 0 where
  pub long : told ≡ length text
  pub written : length text ≤ length before → after ≡ text ++ drop (length text) before
  pub kept : length before < length text → after ≡ before

-- nothing is told and nothing is written
pub record IsUntouched (before after : List ℕ) (told : ℕ) : Type 0 where
  pub none : told ≡ 0
  pub kept : after ≡ before
