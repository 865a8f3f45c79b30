use Rattle.report_answers.proofs.WordLemmas.{twice_is_of_two_words, words_change_places}
use Rattle.report_answers.proofs.laws.words_stand_in_any_order.Goals as goal

pub returns : goal.returns
returns c = record { order = words_change_places; twice = twice_is_of_two_words }
