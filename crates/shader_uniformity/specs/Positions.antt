-- Positions number the statements and blocks of a body in the order of the text.
use Rattle.std.specs.Prelude.{ℕ, ◌+◌, Option, Some, None}
use Rattle.shader_uniformity.specs.Words.{Body, End, Then, Step, Leaf, Nested, If, Switch, Loop, Cases, NoCase, Case}

-- the position behind what stands at n. The end of a block has a position of its own, as have the cases of a Switch together and
-- the rounds of a Loop
abbrev mutual
  pub step_end : ℕ → Step → ℕ
  step_end n (Leaf simple) = n + 1
  step_end n (Nested x) = block_end (n + 1) x
  step_end n (If c x y) = block_end (block_end (n + 1) x) y
  step_end n (Switch e cs) = cases_end ((n + 1) + 1) cs
  step_end n (Loop x y k) = block_end (block_end ((n + 1) + 1) x) y

  pub block_end : ℕ → Body → ℕ
  block_end n End = n + 1
  block_end n (Then s b) = block_end (step_end n s) b

  pub cases_end : ℕ → Cases → ℕ
  cases_end n NoCase = n
  cases_end n (Case v x fall cs) = cases_end (block_end n x) cs

-- A Loop is one moment: what is stored anywhere in it may have been stored before anything in it. `around` is the position of the
-- outermost Loop around a statement. The moment of what the statement at n reads
abbrev pub reads_at : ℕ → Option ℕ → ℕ
reads_at n (Some loop) = loop
reads_at n None = n

-- and of what it writes
abbrev pub writes_at : ℕ → Option ℕ → ℕ
writes_at n (Some loop) = loop
writes_at n None = n + 1
