mod IntegerLemmas
