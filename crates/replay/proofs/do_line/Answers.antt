use Rattle.replay.proofs.Texts.{line_unknown, line_quiet, line_asks}
use Rattle.replay.proofs.do_line.Goals as goal

pub returns-in_default-clause-is : goal.returns-in_default-clause-is
returns-in_default-clause-is g c = line_unknown _ _ c.in_default.is

pub returns-in-Some-asked_text-clause-is : goal.returns-in-Some-asked_text-clause-is
returns-in-Some-asked_text-clause-is g c =
    line_asks _ _ c.in-Some.line c.in-Some.is _ c.asked_text.ensures _ _ c.in-Some-asked_text.is _ c.text_line.ensures.is

pub returns-clause-is : goal.returns-clause-is
returns-clause-is g c = line_quiet _ _ c.in-Some.line c.in-Some.is _ c.asked_text.ensures c.in_default-asked_text.is
