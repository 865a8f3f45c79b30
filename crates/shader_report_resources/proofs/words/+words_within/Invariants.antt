use Rattle.shader_report_resources.proofs.words.+words_within.Given as goal

abbrev pub decreases-words_within : goal.decreases-words_within
decreases-words_within l = l.levels
