-- Lookups in tables of words.
use Rattle.std.proofs.Common.{◌≡◌, ℕ, Bool, true, false, cond, Option, Some, None, List, [], ◌∷◌, refl, sym}
use Rattle.std.specs.Prelude.{find}
use Rattle.std.specs.Option.{option_map}
use Rattle.std.specs.Str.{bytes_eq}
use Rattle.std.proofs.lemmas.Option.{same_Some}
use Rattle.std.proofs.lemmas.Slice.Eq.{bytes_eq-Decides}

at_entry : {X : Type 0} (text : X → List ℕ) (y : X) (later : Option X) (word : List ℕ) (x : X) (b : Bool) → b ≡ bytes_eq (text y) word
    → cond b (Some y) later ≡ Some x → (later ≡ Some x → word ≡ text x) → word ≡ text x
at_entry text y later word x true same found further = let h = (bytes_eq-Decides (text y) word).0 (sym same) in cc
at_entry text y later word x false other found further = further found

-- the entry that a table returns for a word has the word as its text
pub found_is : {X : Type 0} (text : X → List ℕ) (xs : List X) (word : List ℕ) (x : X)
    → find (λ y. bytes_eq (text y) word) xs ≡ Some x → word ≡ text x
found_is text [] word x found = cc
found_is text (y ∷ ys) word x found =
    at_entry text y (find (λ z. bytes_eq (text z) word) ys) word x (bytes_eq (text y) word) refl found (found_is text ys word x)

-- the source of a mapped option
pub mapped : {X Y : Type 0} (f : X → Y) (o : Option X) (y : Y) → option_map f o ≡ Some y → (x : X) × (o ≡ Some x) × (f x ≡ y)
mapped f None y e = cc
mapped f (Some x) y e = (x, refl, same_Some (f x) y e)
