-- The globals that an info lists as read.
use Rattle.std.proofs.Common.{◌≡◌, ◌∙◌, ◌/◌, ◌^◌, ◌==◌, ◌↔◌, ◌<◌, ◌≤◌, inl, inr, sym, ap, subst, arith, ℕ, true, false, IsTrue}
use Rattle.std.proofs.Common.{Option, Some, List, Contains, bit_and, length, slice_get, unwrap_or}
use Rattle.std.proofs.lemmas.Bool.Decides.{nat_tests}
use Rattle.std.proofs.lemmas.Nat.{bit_set_by_shift}
use Rattle.std.proofs.lemmas.Option.{slice_get_cases}
use Rattle.std.specs.Int.{IsBitSet}
use Rattle.std.specs.Option.{option_map}
use Rattle.shader_typing.proofs.Answering.{exact_records_answer}
use Rattle.shader_typing.specs.AnalysisLocation.TheVariants as location
use Rattle.shader_typing.specs.ArenaPositions.{most_items}
use Rattle.shader_typing.specs.ExactRecord.{IsExactRecord}
use Rattle.shader_typing.specs.FunctionInfo.{FunctionInfo}
use Rattle.shader_typing.specs.GlobalUse.{GlobalUse}
use Rattle.shader_typing.specs.InfoAnswers.{InfoAnswers}
use Rattle.shader_typing.specs.InfoRecorded.{AreUsed, IsAnyUsed, is_used_for}
use Rattle.shader_typing.specs.Infos.{Reads}
use Rattle.shader_typing.specs.ModuleRecorded.{Recorded}
use Rattle.shader_typing.specs.Program.{Function, Module}
use Rattle.shader_typing.specs.Uses.{Uses}

-- the set of uses that has a read alone
abbrev pub read : GlobalUse
read = record { 0 = 1 }

-- a set of uses contains a read exactly if its first bit is set
has_first : (n : ℕ) → IsTrue (bit_and n 1 == 1) ↔ IsBitSet n 0
has_first n =
    let whole : n / 2 ^ 0 ≡ n = omega arith in
    let same : bit_and (n / 2 ^ 0) 1 ≡ bit_and n 1 = ap (λ v. bit_and v 1) whole in
    let means = bit_set_by_shift n 0 in (
      λ is. means.0 (same ∙ grind (arith, nat_tests, is)),
      λ set. let one = sym same ∙ means.1 set in grind (arith, nat_tests, one),
    )

-- the uses of a global, if it has some, contain a read
abbrev HasRead : Option GlobalUse → Type 0
HasRead used = IsTrue (unwrap_or (option_map (λ at. bit_and at.0 1 == 1) used) false)

module _ (m : Module) (info : Recorded) (i : ℕ) (f : Function) (of : FunctionInfo) (known : IsExactRecord m info)
    (at : slice_get m.functions i ≡ Some f) (recorded : slice_get info.functions i ≡ Some of) where
  answers : InfoAnswers m f of
  answers = (exact_records_answer m info known).each (location.Function i) f of at recorded

  is_read : (global : ℕ) → IsTrue (is_used_for of read global) → Uses m f global Reads
  is_read global used = elim (slice_get_cases of.global_uses global).1 [
    | inl inside ↦
        (answers.uses global inside.0 Reads inside.2).0 ((has_first (inside.0).0).0 (subst HasRead inside.2 used))
    | inr past ↦ let none : false ≡ true = subst HasRead past.1 used in absurd (cc)
  ]

  is_listed : (global : ℕ) → global < length m.global_variables → Uses m f global Reads → IsTrue (is_used_for of read global)
  is_listed global there reads = elim (slice_get_cases of.global_uses global).1 [
    | inl inside ↦
        subst HasRead (sym inside.2) ((has_first (inside.0).0).1 ((answers.uses global inside.0 Reads inside.2).1 reads))
    | inr past ↦ let all = answers.globals in absurd (omega (arith, past.0, there, all))
  ]

  pub all_listed : length m.global_variables ≤ most_items → (globals : List ℕ) → AreUsed of read globals → (global : ℕ) →
      global < length m.global_variables → Contains globals global ↔ Uses m f global Reads
  all_listed most globals used global there = (
    λ listed. is_read global ((used.members global).0 listed).1,
    λ reads. (used.members global).1 (omega (arith, there, most), is_listed global there reads),
  )

  pub some_read : IsAnyUsed of read → (global : ℕ) × Uses m f global Reads
  some_read any = (any.0, is_read any.0 any.1)
