use Rattle.moves.proofs.StepsLies.{put_segment_done}
use Rattle.std.proofs.Common.{rules}
use Rattle.moves.proofs.put_segment.Goals as goal

pub returns : goal.returns
returns c = search (put_segment_done, rules)
