use Rattle.report_json.proofs.FormLemmas.{of_form}
use Rattle.shader_report_bounds.specs.Tokens.{index_tokens}
use Rattle.shader_report_bounds.proofs.written.AccessIndexWriteJson.write_json.Goals as goal

pub returns-in-Computed : goal.returns-in-Computed
unfolding index_tokens
returns-in-Computed c = of_form _ _ _ index_tokens c.args.self.now _ c.in-Computed.is c.write_variant-in-Computed.ensures
