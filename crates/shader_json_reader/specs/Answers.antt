-- What a refusal says about a value.
use Rattle.std.specs.Prelude.{Result, Ok, Err, ⊤}
use Rattle.shader_json_reader.specs.declared.failure.Failure.{Failure}
use Rattle.shader_json_reader.specs.declared.failure.Failure.TheVariants.{OutOfMemory, Refused}

-- memory ran out
abbrev pub IsOfMemory : Failure → Type 0
IsOfMemory OutOfMemory = ⊤
IsOfMemory (Refused refusal) = ⊥

-- something was read, or memory ran out
abbrev pub IsUnrefused : {A : Type 0} → Result A Failure → Type 0
IsUnrefused (Ok x) = ⊤
IsUnrefused (Err failure) = IsOfMemory failure

-- what is such is not refused
abbrev pub Accepts : {A B : Type 0} → (A → Type 0) → Result B Failure → Type 0
Accepts P result = (x : _) → P x → IsUnrefused result
