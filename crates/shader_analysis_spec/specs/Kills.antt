-- Functions that may end some invocations of a group while others go on.
use Rattle.std.specs.Prelude.{◌≡◌, ℕ, Bool, List, Option, Some, IsTrue, slice_get}
use Rattle.std.specs.List.{Contains}
use Rattle.shader_analysis_spec.specs.Program.{Function, Module, Leaf, Call, Kill, Body, Then, statements}
use Rattle.shader_analysis_spec.specs.Calls.{CallPath}
use Rattle.shader_analysis_spec.specs.Origins.{Origin}
use Rattle.shader_analysis_spec.specs.Flow.{At, Disrupted}

abbrev pub HasOrigin : Module → Function → ℕ → Type 0
HasOrigin m f e = (r : Function) × (h : ℕ) × Origin m f e r h

-- the function at position c is called by f, and counts as one that kills
abbrev pub Counts : Function → (ℕ → Bool) → ℕ → Type 0
Counts f known c =
    IsTrue (known c) × (arguments : List ℕ) × (result : Option ℕ) × Contains (statements f.body) (Leaf (Call c arguments result))

-- f kills if it reaches a function r with a disrupted Kill, where every function counted as killing is there and kills
pub data Kills (m : Module) : Function → Type 0 where
  kills : {f r : Function} {b : Body} → CallPath m f r → (known : ℕ → Bool) (target : ℕ → Function) →
      ((c : ℕ) → Counts r known c → slice_get m.functions c ≡ Some (target c)) →
      ((c : ℕ) → Counts r known c → Kills m (target c)) →
      (p : At r.body (Then (Leaf Kill) b)) → Disrupted (HasOrigin m r) (λ c. IsTrue (known c)) r.body _ p → Kills m f

-- the function at position c kills
abbrev pub KillsAt : Module → ℕ → Type 0
KillsAt m c = (d : Function) × (slice_get m.functions c ≡ Some d) × Kills m d
