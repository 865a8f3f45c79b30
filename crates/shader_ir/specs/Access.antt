-- Accesses of storage pointers and storage images.
use Rattle.std.specs.Prelude.{◌==◌, Bool, bit_and}
use Rattle.shader_ir.specs.declared.flags.StorageAccess.{StorageAccess}

-- whether what has the access may be written: the bit STORE is set
abbrev pub allows_store : StorageAccess → Bool
allows_store access = bit_and access.0 2 == 2
