-- The results for a block, from the results for its statements.
use Rattle.std.proofs.Common.{◌≡◌, refl, ap, ◌∙◌, Bool, true, false, ◌||◌, Option, Some, None}
use Rattle.std.proofs.Math.Bool.{or_assoc, and-false}
use Rattle.shader_passes.specs.declared.flow.Exits.{Exits}
use Rattle.shader_passes.specs.Ends.{either, no_exit}
use Rattle.std.specs.Option.{option_or}

pub either_assoc : (a b c : Exits) → either (either a b) c ≡ either a (either b c)
either_assoc a b c =
    let p : ((a.returns || b.returns) || c.returns) ≡ (a.returns || (b.returns || c.returns)) = rw or_assoc in
    let q : ((a.kills || b.kills) || c.kills) ≡ (a.kills || (b.kills || c.kills)) = rw or_assoc in cc

pub or_none : (a : Bool) → (a || false) ≡ a
or_none true = refl
or_none false = refl

pub either_none : (a : Exits) → either a no_exit ≡ a
either_none a =
    let one : Bool → Bool → Exits = λ v w. record { returns = v; kills = w } in
    ap (λ v. one v (a.kills || false)) (or_none a.returns) ∙ ap (one a.returns) (or_none a.kills)

pub first_assoc : {X : Type 0} (a b c : Option X) → option_or (option_or a b) c ≡ option_or a (option_or b c)
first_assoc (Some x) b c = refl
first_assoc None b c = refl

pub first_none : {X : Type 0} (a : Option X) → option_or a None ≡ a
first_none (Some x) = refl
first_none None = refl

pub ruleset ors = (or_assoc, and-false, either_assoc, either_none, first_assoc, first_none)
