-- `is_done` says whether no byte is left: past the text's end there is none. Assumes nothing.
use Rattle.text.proofs.LineLaws.{past_end}
use Rattle.text.proofs.lines.Lines.is_done.Goals as goal

pub returns : goal.returns
returns c = past_end c.args.self.now.text.now c.args.self.now.at
