-- Places in a module as JSON.
use Rattle.std.specs.Prelude.{List, codes}
use Rattle.json.specs.Token.{Token}
use Rattle.report_json.specs.Tokens.{number_tokens, text_tokens, variant}
use Rattle.report_places.specs.Pointers.{statement_text}
use Rattle.report_places.specs.declared.body_place.BodyPlace.{BodyPlace}
use Rattle.report_places.specs.declared.body_place.BodyPlace.TheVariants as body
use Rattle.report_places.specs.declared.paths.StatementPath.{StatementPath}

unfoldable pub body_tokens : BodyPlace → List Token
body_tokens (body.ConstExpression i) = variant (codes "ConstExpression") (number_tokens i)
body_tokens (body.Function i) = variant (codes "Function") (number_tokens i)
body_tokens (body.EntryPoint i) = variant (codes "EntryPoint") (number_tokens i)

-- a way is one text
abbrev pub path_tokens : StatementPath → List Token
path_tokens path = text_tokens (statement_text path.steps)
