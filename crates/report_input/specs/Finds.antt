-- Where the value at a path stands in a text of JSON.
use Rattle.std.specs.Prelude.{◌≡◌, ◌⊎◌, ℕ, List, Option, IfSome, option_and_then, option_map}
use Rattle.report_input.specs.Spans.{IsRepeatedKeySpan, IsSpanOf}
use Rattle.report_input.specs.Steps.{path_text, pointer_text}
use Rattle.report_input.specs.declared.finds.Found.{Found}
use Rattle.report_input.specs.declared.finds.Part.{Part}
use Rattle.report_input.specs.declared.finds.Part.TheVariants.{Value, SecondKey}
use Rattle.report_input.specs.declared.spans.Span.{Span}
use Rattle.report_input.specs.declared.steps.Step.{Step}

abbrev pub IsSpanFor : Part → List ℕ → List Step → Span → Type 0
IsSpanFor Value text steps span = IsSpanOf text steps span
IsSpanFor SecondKey text steps span = IsRepeatedKeySpan text steps span ⊎ IsSpanOf text steps span

-- the steps are those of the path, and the bytes are those of the part of the value to which they lead
pub record IsFound (part : Part) (text path : List ℕ) (found : Found) : Type 0 where
  pub path_is : path_text found.steps.items ≡ path
  pub span_is : IfSome found.span (IsSpanFor part text found.steps.items)

abbrev pub pointer_of : Option Found → Option (List ℕ)
pointer_of found = option_map (λ found. pointer_text found.steps.items) found

abbrev pub begin_of : Option Found → Option ℕ
begin_of found = option_map (λ span. span.begin) (option_and_then (λ found. found.span) found)

abbrev pub end_of : Option Found → Option ℕ
end_of found = option_map (λ span. span.end) (option_and_then (λ found. found.span) found)

-- the pointer to what is at a path, and its first byte and the one behind it, as far as the text has it
pub record IsLookedUp (part : Part) (text path : List ℕ) (pointer : Option (List ℕ)) (begin end : Option ℕ) : Type 0 where
  pub found : Option Found
  pub is : IfSome found (IsFound part text path)
  pub pointer_is : pointer ≡ pointer_of found
  pub begin_is : begin ≡ begin_of found
  pub end_is : end ≡ end_of found
