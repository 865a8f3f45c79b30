-- The trees of the members of a struct.
use Rattle.std.proofs.Common.{◌≡◌, ◌∙◌, ap, sym, ℕ, zero, suc, ◌+◌, ◌<◌, List, [], ◌∷◌, Option, Some}
use Rattle.std.proofs.Common.{None, Bool, ◌&&◌, map, drop, length, slice_get, get_or, arith}
use Rattle.std.proofs.Math.Seq.{drop-cons}
use Rattle.shader_ir.specs.declared.types.«Type».{«Type»}
use Rattle.shader_ir.specs.declared.types.StructMember.{StructMember}
use Rattle.shader_ir.specs.TypeTree.{IsBackward, TypeTree, TypeTrees, NoTree, OneTree, put_tree, trees_at, tree_within, tree_of}
use Rattle.shader_ir.specs.TreeQueries.{is_constructible, are_constructible}
use Rattle.shader_ir.proofs.TypeTreeLemmas.{child, child_is}

abbrev pub member_trees : List «Type» → List StructMember → TypeTrees
member_trees types members = trees_at (tree_within (length types) types) types (map (λ (member : StructMember). member.ty) members)

module _ (types : List «Type») (backward : IsBackward types) where
  -- a test of the last tree alone is a test of the last member's type
  module _ (last : Bool → TypeTrees → Bool) (test : TypeTree → Bool)
      (none : (answer : Bool) → last answer NoTree ≡ answer)
      (one : (answer : Bool) (tree : TypeTree) (trees : TypeTrees) → last answer (OneTree tree trees) ≡ last (test tree) trees) where
    pub last_member : (members : List StructMember) (n : ℕ) (member : StructMember) (type : «Type») → length members ≡ suc n →
        slice_get members n ≡ Some member → slice_get types member.ty ≡ Some type
        → (answer : Bool) → last answer (member_trees types members) ≡ test (tree_of types type.inner)
    last_member [] n member type whole stored at answer = absurd (omega arith)
    last_member (m ∷ []) zero member type whole stored at answer =
        let same : m ≡ member = cc in
        let tree = child types backward type.inner in
        ap (λ (s : StructMember). last answer (put_tree (child types backward) (slice_get types s.ty) NoTree)) same
        ∙ ap (λ o. last answer (put_tree (child types backward) o NoTree)) at
        ∙ one answer tree NoTree ∙ none (test tree) ∙ ap test (child_is types backward member.ty type at)
    last_member (m ∷ other ∷ rest) zero member type whole stored at answer = absurd (omega arith)
    last_member (m ∷ rest) (suc n) member type whole stored at answer =
        by (last_member rest n member type (omega arith) stored at) (slice_get types m.ty) answer
      where
        by : ((answer : Bool) → last answer (member_trees types rest) ≡ test (tree_of types type.inner))
            → (o : Option «Type») (answer : Bool) → last answer (put_tree (child types backward) o (member_trees types rest))
            ≡ test (tree_of types type.inner)
        by others None answer = others answer
        by others (Some first) answer =
            let tree = child types backward first.inner in
            one answer tree (member_trees types rest) ∙ others (test tree)

  -- the members from an index on are constructible if its member's type is and those after it are
  pub constructible_from : (members : List StructMember) (index : ℕ) (member : StructMember) (type : «Type») → index < length members →
      member ≡ get_or members index member → slice_get types member.ty ≡ Some type
      → are_constructible (member_trees types (drop index members))
      ≡ (is_constructible (tree_of types type.inner) && are_constructible (member_trees types (drop (index + 1) members)))
  constructible_from members index member type lt same at =
      let next : suc index ≡ index + 1 = omega arith in
      let rest = member_trees types (drop (index + 1) members) in
      ap (λ (l : List StructMember). are_constructible (member_trees types l)) (drop-cons members index member lt
      ∙ ap (λ k. get_or members index member ∷ drop k members) next)
      ∙ ap (λ (m : StructMember). are_constructible (put_tree (child types backward) (slice_get types m.ty) rest)) (sym same)
      ∙ ap (λ o. are_constructible (put_tree (child types backward) o rest)) at
      ∙ ap (λ t. is_constructible t && are_constructible rest) (child_is types backward member.ty type at)
