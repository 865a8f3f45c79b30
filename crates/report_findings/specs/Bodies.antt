-- The body whose needs are reported.
use Rattle.shader_ir.specs.declared.module.Module.{Module}
use Rattle.report_places.specs.Outlines.{IsOutlineAt}
use Rattle.report_findings.specs.declared.bodies.OutlinedBody.{OutlinedBody}

-- it has the way to each statement at its place
abbrev pub IsOutlined : Module → OutlinedBody → Type 0
IsOutlined m body = IsOutlineAt m body.place body.outline.rows.items
