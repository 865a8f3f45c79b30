-- Laws of repeated updates.
use Rattle.std.specs.Prelude.{◌≡◌, ℕ, ◌<◌, List, [], ◌∷◌, length, take}
use Rattle.shader_ir.specs.KnownNumbers.{override_size}
use Rattle.shader_ir.specs.Sizes.{AreTypeSizesInRange}
use Rattle.shader_ir.specs.Layout.{AreFaultless, AreFirstLayouts, IsRefusalAt, layouts_of}
use Rattle.shader_ir.specs.declared.module.GlobalCtx.{GlobalCtx}
use Rattle.shader_ir.specs.declared.proc.layouter.LayoutError.{LayoutError}
use Rattle.shader_ir.specs.declared.proc.layouter.TypeLayout.{TypeLayout}
use Rattle.shader_ir.specs.declared.proc.layouter.UpdateError.{UpdateError}
use Rattle.shader_ir.specs.declared.proc.layouter.UpdateError.TheVariants.{Layout}

-- types were only added, and the values of the existing overrides are unchanged
pub record OnlyAdds (earlier later : GlobalCtx) : Type 0 where
  pub types : take (length earlier.types.now) later.types.now ≡ earlier.types.now
  pub sizes : (handle : ℕ) → handle < length earlier.overrides.now → override_size later handle ≡ override_size earlier handle

-- the guarantees of a successful update about the layouts before and after it
pub record IsUpdated (ctx : GlobalCtx) (stored new : List TypeLayout) : Type 0 where
  pub ranged : AreTypeSizesInRange ctx
  pub laid_out : AreFirstLayouts ctx stored → AreFirstLayouts ctx new
  pub all : AreFirstLayouts ctx stored → new ≡ layouts_of ctx

-- a context and the layouts after an update over it
abbrev pub Updated : Type 0
Updated = GlobalCtx × List TypeLayout

-- each update succeeds over a context that extends the one before it, and starts from the layouts that the one before it left
abbrev pub AreUpdates : Updated → List Updated → Type 0
AreUpdates before [] = Unit {0}
AreUpdates before (update ∷ later) = OnlyAdds before.0 update.0 × IsUpdated update.0 before.1 update.1 × AreUpdates update later

-- the last of a first update and later ones
abbrev pub last_of : Updated → List Updated → Updated
last_of update [] = update
last_of update (next ∷ later) = last_of next later

-- successful updates that start with no layouts leave the layouts of all types of the last context, as a single update over that context
-- does
pub record EqualsOneUpdate (ctx : GlobalCtx) (layouts : List TypeLayout) : Type 0 where
  pub whole : layouts ≡ layouts_of ctx
  pub single : (once : List TypeLayout) → IsUpdated ctx [] once → layouts ≡ once

abbrev pub UpdatesCompose : Type 0
UpdatesCompose = (first : Updated) (later : List Updated) → IsUpdated first.0 [] first.1 → AreUpdates first later
    → EqualsOneUpdate (last_of first later).0 (last_of first later).1

-- if the next type to lay out has an error, a call lays out nothing, can't be Ok, as types remain, and returns that error
pub record StaysRefused (ctx : GlobalCtx) (stored new : List TypeLayout) (error : LayoutError) : Type 0 where
  pub unchanged : new ≡ stored
  pub unfinished : length new < length ctx.types.now
  pub alike : (again : UpdateError) → IsRefusalAt ctx (length new) again → again ≡ Layout error

abbrev pub RefusalsRepeat : Type 0
RefusalsRepeat = (ctx : GlobalCtx) (stored new : List TypeLayout) (error : LayoutError) → IsRefusalAt ctx (length stored) (Layout error)
    → take (length stored) new ≡ stored → AreFaultless ctx (length stored) (length new) → StaysRefused ctx stored new error
