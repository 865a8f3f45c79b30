-- Numbers, texts and flags determine what they stand for.
use Rattle.std.specs.Prelude.{ℤ, pos, negsuc}
use Rattle.std.proofs.Common.{◌≡◌, ◌≢◌, ◌∙◌, ap, sym, refl, ℕ, codes, true, List, Option, Some, None, Result, Ok, MatchOption}
use Rattle.std.specs.Int.{w64}
use Rattle.std.specs.Float.{binary32, binary64, float_is_finite}
use Rattle.std.specs.Float.Ieee.{to_bits}
use Rattle.std.specs.Str.Parse.{ParsesSigned, ParsesUnsigned}
use Rattle.bitflags.specs.Sets.{Row}
use Rattle.bitflags.specs.Text.{read_text, name_piece}
use Rattle.json.specs.Find.{as_bool, as_number, as_str}
use Rattle.shader_json_reader.specs.Numbers.{AreFlags, IsCount, IsDouble, IsHandle, IsI16, IsI32, IsI64, IsSigned, IsSingle, IsText}
use Rattle.shader_json_reader.specs.Numbers.{IsTruth, IsU16, IsU32, IsU64, IsU8, IsUnsigned, double_of, single_of}
use Rattle.shader_json_reader.specs.Shapes.{Determines}

-- what two texts, numbers or the like have in common
found_same : {S A : Type 0} (P : S → A → Type 0) (same : (s : S) (x y : A) → P s x → P s y → x ≡ y) (s : Option S) (x y : A)
    → MatchOption s ⊥ (λ t. P t x) → MatchOption s ⊥ (λ t. P t y) → x ≡ y
found_same P same None x y u v = absurd u
found_same P same (Some s) x y u v = same s x y u v

unsigned_same : (most : ℕ) → Determines (IsUnsigned most)
unsigned_same most j x y u v =
    found_same (λ s n. ParsesUnsigned {E = ℕ} 64 10 s (Ok n)) (λ s m n p q. p.1 ∙ sym q.1) (as_number j) x y u.0 v.0

signed_same : (least most : ℤ) → Determines (IsSigned least most)
signed_same least most j x y u v =
    found_same (λ s n. (s ≢ codes "-0") × ParsesSigned {E = ℕ} w64 10 s (Ok n)) (λ s m n p q. p.1.1 ∙ sym q.1.1) (as_number j) x y u.0 v.0

pub u8_same : Determines IsU8
u8_same = unsigned_same 255

pub u16_same : Determines IsU16
u16_same = unsigned_same 65535

pub u32_same : Determines IsU32
u32_same = unsigned_same 4294967295

pub u64_same : Determines IsU64
u64_same = unsigned_same 18446744073709551615

pub i16_same : Determines IsI16
i16_same = signed_same (negsuc 32767) (pos 32767)

pub i32_same : Determines IsI32
i32_same = signed_same (negsuc 2147483647) (pos 2147483647)

pub i64_same : Determines IsI64
i64_same = signed_same (negsuc 9223372036854775807) (pos 9223372036854775807)

pub handle_same : Determines IsHandle
handle_same = unsigned_same 4294967294

pub count_same : Determines IsCount
count_same j x y u v = u32_same j x y u.0 v.0

pub double_same : Determines IsDouble
double_same j x y u v = found_same (λ z bits. (bits ≡ to_bits binary64 z) × (float_is_finite z ≡ true)) (λ z m n p q. p.0 ∙ sym q.0)
    (double_of j) x y u v

pub single_same : Determines IsSingle
single_same j x y u v = found_same (λ z bits. (bits ≡ to_bits binary32 z) × (float_is_finite z ≡ true)) (λ z m n p q. p.0 ∙ sym q.0)
    (single_of j) x y u v

some_inverse : {A : Type 0} (x y : A) → Some x ≡ Some y → x ≡ y
some_inverse x y e = cc

ok_inverse : {A E : Type 0} (x y : A) (r s : Result A E) → r ≡ Ok x → s ≡ Ok y → r ≡ s → x ≡ y
ok_inverse x y r s p q e = cc

pub truth_same : Determines IsTruth
truth_same j x y u v = some_inverse x y (ap as_bool (sym u ∙ v))

pub text_same : Determines IsText
text_same j x y u v = some_inverse x y (ap as_str (sym u ∙ v))

pub flags_same : (table : List Row) → Determines (AreFlags table)
flags_same table j x y u v = found_same (λ s bits. read_text (name_piece table) s ≡ Ok bits)
    (λ s m n p q. ok_inverse m n (read_text (name_piece table) s) (read_text (name_piece table) s) p q refl) (as_str j) x y u v
