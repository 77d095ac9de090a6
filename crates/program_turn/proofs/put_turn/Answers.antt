-- `put_turn` meets its promise: the lines, and `again` behind them. Assumes nothing.
use Rattle.program_turn.proofs.Turning.{turn-puts}
use Rattle.program_turn.proofs.put_turn.Goals as goal

pub returns : goal.returns
returns c =
    let a = c.args in
    let p = turn-puts _ a.out.now a.n a.told a.text.now _ _ _ _ c.requires.1 c.requires.2 c.put_lines-a.ensures c.put_again.ensures in
    record { prefix_len = p.0; text_after = p.1 }
