use Rattle.shader_report_bounds.proofs.function.checked_indexes_of.Goals as goal

pub returns : goal.returns
returns c = record {
  ascending = c.in_ok-indexes.ensures.ascending;
  members = λ e.
      let of_set = c.in_ok-indexes.ensures.members e in
      let found = c.in_ok-checked.ensures.members e in ((λ h. found.0 (of_set.0 h)), (λ h. of_set.1 (found.1 h)));
}
