use Rattle.sending_core.proofs.laws.nothing_is_owed.Goals as goal

pub returns : goal.returns
returns c = λ text before behind. ((λ h. h), (λ h. h))
