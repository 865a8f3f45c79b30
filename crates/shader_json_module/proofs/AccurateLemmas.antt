-- What an error for a value says of each text that spells it.
use Rattle.std.proofs.Common.{◌≡◌, ◌⊎◌, refl, sym, subst, inl, inr, ℕ, List, Option, Some, IsSome, MatchOption}
use Rattle.std.specs.Str.{IsUtf8}
use Rattle.json.specs.Json.{Json, document}
use Rattle.shader_ir.specs.declared.«module».Module.{Module}
use Rattle.shader_json_reader.specs.Answers.{IsOfMemory}
use Rattle.shader_json_reader.specs.Errors.{IsAccurate, IsOfModule}
use Rattle.shader_json_reader.specs.declared.error.ReadError.{ReadError}
use Rattle.shader_json_reader.specs.declared.error.ReadError.TheVariants.{OutOfMemory, TooLong, NotJson, TooDeep, NotModule}
use Rattle.shader_json_reader.specs.declared.failure.Failure.{Failure}
use Rattle.shader_json_reader.specs.declared.failure.Failure.TheVariants as failures
use Rattle.shader_json_module.specs.Modules.{IsModule, IsErrorOf, IsOfValue, IsTextOf}

module _ (j : Json) where
  accurate_of : (error : ReadError) → IsOfModule error → (text : List ℕ) → IsUtf8 text → document text ≡ Some j → IsAccurate text error
  accurate_of OutOfMemory is = absurd is
  accurate_of TooLong is = absurd is
  accurate_of (NotJson byte) is = absurd is
  accurate_of (TooDeep byte) is = absurd is
  accurate_of (NotModule path wanted found) is =
      λ text utf8 parses. (utf8, subst (λ (spelled : Option Json). IsSome spelled) (sym parses) refl)

  -- a failure for want of memory is no error of a module
  no_module_of : (failure : Failure) (error : ReadError) → (failure ≡ failures.OutOfMemory → error ≡ OutOfMemory)
      → ((m : Module) → IsModule j m → IsOfMemory failure) → IsOfModule error → (m : Module) → IsModule j m → ⊥
  no_module_of failures.OutOfMemory error memory accepts is m stands = subst IsOfModule (memory refl) is
  no_module_of (failures.Refused refusal) error memory accepts is m stands = accepts m stands

  -- what the error of a failure says of the value
  pub of_value : (failure : Failure) (error : ReadError) → (failure ≡ failures.OutOfMemory → error ≡ OutOfMemory)
      → (error ≡ OutOfMemory) ⊎ IsOfModule error → ((m : Module) → IsModule j m → IsOfMemory failure) → IsOfValue j error
  of_value failure error memory (inl e) accepts = record {
    accurate = λ text utf8 parses. subst (λ (e : ReadError). IsAccurate text e) (sym e) tt;
    no_module = no_module_of failure error memory accepts;
  }
  of_value failure error memory (inr is) accepts = record {
    accurate = accurate_of error is;
    no_module = no_module_of failure error memory accepts;
  }

  stands_of : (text : List ℕ) (m : Module) → document text ≡ Some j → IsTextOf text m → IsModule j m
  stands_of text m parses stands = subst (λ found. MatchOption found ⊥ (λ k. IsModule k m)) parses stands

  pub of_text : (text : List ℕ) (error : ReadError) → IsUtf8 text → document text ≡ Some j → IsOfValue j error → IsErrorOf text error
  of_text text error utf8 parses of = record {
    accurate = of.accurate text utf8 parses;
    no_module = λ is m stands. of.no_module is m (stands_of text m parses stands);
  }

-- an error that is none of a module
pub of_json : (text : List ℕ) (error : ReadError) → IsAccurate text error → (IsOfModule error → ⊥) → IsErrorOf text error
of_json text error accurate other = record {
  accurate = accurate;
  no_module = λ is. absurd (other is);
}
