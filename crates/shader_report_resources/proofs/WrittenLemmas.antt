-- The same tokens, of values that are the same.
use Rattle.std.proofs.Common.{◌≡◌, subst, ℕ, List, Option}
use Rattle.json.specs.Written.{Written}
use Rattle.report_json.specs.Tokens.{Adds}
use Rattle.shader_report_resources.specs.Written.{number_member, text_member}

pub with_number : {old new : Written} {name : List ℕ} {n other : Option ℕ} → n ≡ other → Adds old new (number_member name n) →
    Adds old new (number_member name other)
with_number {old} {new} {name} is = subst (λ (v : Option ℕ). Adds old new (number_member name v)) is

pub with_text : {old new : Written} {name : List ℕ} {text other : Option (List ℕ)} → text ≡ other →
    Adds old new (text_member name text) → Adds old new (text_member name other)
with_text {old} {new} {name} is = subst (λ (v : Option (List ℕ)). Adds old new (text_member name v)) is
