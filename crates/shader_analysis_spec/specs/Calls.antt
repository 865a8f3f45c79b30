-- Call paths: sequences of Call statements from one function to another.
use Rattle.std.specs.Prelude.{◌≡◌, ℕ, List, Option, Some, slice_get}
use Rattle.std.specs.List.{Contains}
use Rattle.shader_analysis_spec.specs.Program.{Function, Module, Leaf, Call, statements}

-- a Call statement of f, at any depth, that calls r, a function of the module m
pub record CallsTo (m : Module) (f r : Function) : Type 0 where
  pub callee : ℕ
  pub arguments : List ℕ
  pub result : Option ℕ
  pub holds : Contains (statements f.body) (Leaf (Call callee arguments result))
  pub calls : slice_get m.functions callee ≡ Some r

-- a call path from one function to another: the empty one, or a Call statement and a call path from its callee. f reaches every r to which
-- it has a call path
pub data CallPath (m : Module) : Function → Function → Type 0 where
  here : {f : Function} → CallPath m f f
  via : {f c r : Function} → CallsTo m f c → CallPath m c r → CallPath m f r
