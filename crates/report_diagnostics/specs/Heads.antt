-- The head of an answer as JSON.
use Rattle.std.specs.Prelude.{ℕ, List, ◌∷◌, ◌++◌, codes}
use Rattle.std.specs.List.{flat_map}
use Rattle.json.specs.Token.{Token, key}
use Rattle.report_json.specs.Tokens.{array, text_tokens}
use Rattle.report_diagnostics.specs.Diagnostics.{diagnostic_tokens}
use Rattle.report_diagnostics.specs.declared.diagnostic.Diagnostic.{Diagnostic}
use Rattle.report_diagnostics.specs.declared.head.Verdict.{Verdict}
use Rattle.report_diagnostics.specs.declared.head.Verdict.TheVariants.{Accepted, Refused, InvalidInput}

abbrev pub verdict_text : Verdict → List ℕ
verdict_text Accepted = codes "accepted"
verdict_text Refused = codes "refused"
verdict_text InvalidInput = codes "invalid_input"

-- version, verdict and diagnostics
abbrev pub head_members : Verdict → List Diagnostic → List Token
head_members verdict diagnostics =
    key (codes "version") ∷ text_tokens (codes "1.0")
    ++ (key (codes "verdict") ∷ text_tokens (verdict_text verdict)
    ++ key (codes "diagnostics") ∷ array (flat_map diagnostic_tokens diagnostics))
