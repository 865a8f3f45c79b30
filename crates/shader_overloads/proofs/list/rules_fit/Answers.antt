use Rattle.shader_overloads.proofs.list.rules_fit.Goals as goal

pub returns : goal.returns
returns c = (λ fit. record { each = c.all_fit.ensures.0 fit }, λ fits. c.all_fit.ensures.1 fits.each)
