-- The lines of a member, behind those before it.
use Rattle.std.proofs.Common.{◌≡◌, ◌∙◌, ◌<◌, ◌+◌, ◌++◌, ◌∷◌, [], ℕ, List, suc, add-one, ap, append_assoc, drop, get_or, length, sym}
use Rattle.std.proofs.Math.Seq.{drop-cons}
use Rattle.shader_ir.specs.declared.«module».Module.{Module}
use Rattle.shader_ir.specs.declared.proc.layouter.TypeLayout.{TypeLayout}
use Rattle.shader_ir.specs.declared.types.StructMember.{StructMember}
use Rattle.report_layouts.specs.Columns.{Row}
use Rattle.report_layouts.specs.Declarations.{end_of, member_line, member_lines, padding}

-- the rest of a list begins with its item
pub drop_item : {X : Type 0} (xs : List X) (i : ℕ) (x : X) → i < length xs → x ≡ get_or xs i x → drop i xs ≡ x ∷ drop (i + 1) xs
drop_item xs i x lt e = rw add-one (drop-cons xs i x lt ∙ ap (λ v. v ∷ drop (suc i) xs) (sym e))

module _ (layouts : List TypeLayout) (m : Module) (last : ℕ → List Row) where
  -- the padding before a member and its line, if the lines of this member and of those behind it follow
  pub one_more : (index start next : ℕ) (member : StructMember) (left rest : List StructMember) (before padded after whole : List Row)
      (line : Row) → left ≡ member ∷ rest → padded ≡ before ++ padding start member.offset → after ≡ padded ++ line ∷ []
      → line ≡ member_line layouts m index member → next ≡ end_of layouts member
      → before ++ member_lines layouts m last index start left ≡ whole
      → after ++ member_lines layouts m last (index + 1) next rest ≡ whole
  one_more index start next member left rest before padded after whole line here pad pushed is ends so =
      let hole = padding start member.offset in
      let own = member_line layouts m index member in
      let others = member_lines layouts m last (index + 1) (end_of layouts member) rest in
      let made : after ≡ (before ++ hole) ++ own ∷ [] =
      pushed ∙ (ap (λ (rows : List Row). rows ++ line ∷ []) pad ∙ ap (λ (row : Row). (before ++ hole) ++ row ∷ []) is) in
      ap (λ (rows : List Row). rows ++ member_lines layouts m last (index + 1) next rest) made
      ∙ (ap (λ (at : ℕ). ((before ++ hole) ++ own ∷ []) ++ member_lines layouts m last (index + 1) at rest) ends
      ∙ (append_assoc (before ++ hole) (own ∷ []) others
      ∙ (append_assoc before hole (own ∷ others)
      ∙ (ap (λ (ms : List StructMember). before ++ member_lines layouts m last index start ms) (sym here)
      ∙ so))))
