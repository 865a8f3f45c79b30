use Rattle.std.proofs.Common.{◌≡◌, drop}
use Rattle.report_json.specs.Flags.{flags_text, rows_of}
use Rattle.report_json.proofs.flags.FlagsTextDisplay.fmt.Given as goal

-- no flag so far is set
abbrev pub invariant-loop-position : goal.invariant-loop-position
invariant-loop-position g l =
    (flags_text (rows_of (drop l.position l.self.table.now)) l.bits ≡ flags_text (rows_of l.self.table.now) l.bits) × (l.f ≡ l.initial.f)
