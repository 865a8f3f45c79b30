-- Laws on the calls that narrow a set.
use Rattle.std.specs.Prelude.{◌≡◌, ℕ, Bool, List, filter}
use Rattle.shader_ir.specs.declared.types.«Type».{«Type»}
use Rattle.shader_ir.specs.declared.types.TypeInner.{TypeInner}
use Rattle.shader_overloads.specs.declared.overload_set.SetCall.{SetCall}
use Rattle.shader_overloads.specs.declared.rule.Rule.{Rule}
use Rattle.shader_overloads.specs.Remaining.{passes}

-- the rules that pass a call, in order
abbrev pub after_call : (List «Type» → ℕ → TypeInner → Rule → Bool) → List «Type» → SetCall → List Rule → List Rule
after_call accepting types call rules = filter (λ rule. passes accepting types rule call) rules

-- two calls leave the same rules in either order
abbrev pub CallsCommute : Type 0
CallsCommute =
    (accepting : List «Type» → ℕ → TypeInner → Rule → Bool) (types : List «Type») (first second : SetCall) (rules : List Rule)
    → after_call accepting types second (after_call accepting types first rules)
    ≡ after_call accepting types first (after_call accepting types second rules)

-- repeating a call rules out nothing more
abbrev pub CallsRepeat : Type 0
CallsRepeat =
    (accepting : List «Type» → ℕ → TypeInner → Rule → Bool) (types : List «Type») (call : SetCall) (rules : List Rule)
    → after_call accepting types call (after_call accepting types call rules) ≡ after_call accepting types call rules
