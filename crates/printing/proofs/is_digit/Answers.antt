use Rattle.printing.proofs.is_digit.Goals as goal

pub returns : goal.returns
returns c = cc
