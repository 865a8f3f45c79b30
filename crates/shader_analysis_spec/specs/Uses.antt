-- Uses of the globals by a function, interprocedurally.
use Rattle.std.specs.Prelude.{ℕ, Bool, true, false, IsTrue}
use Rattle.std.specs.List.{Contains}
use Rattle.std.specs.Map.{keys_of}
use Rattle.shader_ir.specs.declared.proc.operands.Label.TheVariants as label
use Rattle.shader_analysis_spec.specs.Program.{Function, Module, Label, occurrences, Root}
use Rattle.shader_analysis_spec.specs.Infos.{Use, Reads, Writes, Queries, Atomics}
use Rattle.shader_analysis_spec.specs.Calls.{CallPath}

-- true if a label adds a use of the global; a base in a chain of accesses adds none
abbrev pub adds_use : Label → Use → Bool
adds_use label.Read Reads = true
adds_use label.Write Writes = true
adds_use label.ReadWrite Reads = true
adds_use label.ReadWrite Writes = true
adds_use label.Query Queries = true
adds_use label.Atomic Atomics = true
adds_use _ _ = false

-- an occurrence in f adds the use u of the global g
pub record UsesDirectly (f : Function) (g : ℕ) (u : Use) : Type 0 where
  pub occurrence : ℕ × Label
  pub occurs : Contains (occurrences f) occurrence
  pub root : Root f.expressions occurrence.0 g
  pub label : IsTrue (adds_use occurrence.1 u)

-- a named expression of f has root g
pub record Names (f : Function) (g : ℕ) : Type 0 where
  pub expression : ℕ
  pub named : Contains (keys_of f.named_expressions) expression
  pub root : Root f.expressions expression g

-- no function that r reaches uses g
abbrev pub NeverUsed : Module → Function → ℕ → Type 0
NeverUsed m r g = (s : Function) (u : Use) → CallPath m r s → UsesDirectly s g u → ⊥

-- f uses g for u if a function that f reaches does so directly, or if one that f reaches names g and reaches no function that uses g
pub data Uses (m : Module) (f : Function) (g : ℕ) : Use → Type 0 where
  directly : {r : Function} {u : Use} → CallPath m f r → UsesDirectly r g u → Uses m f g u
  by_name : {r : Function} → CallPath m f r → Names r g → NeverUsed m r g → Uses m f g Queries
