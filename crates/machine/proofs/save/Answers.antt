-- The five fields are written one after the other. Assumes nothing.
use Rattle.std.proofs.Common.{◌≡◌, ap, ◌∙◌, List, length, rules}
use Rattle.numbers.specs.Number.{digits, placed}
use Rattle.machine.specs.Program.{counter_count}
use Rattle.machine.specs.Record.{four_bytes}
use Rattle.machine.proofs.Records.{placed-flow}
use Rattle.machine.proofs.save.Goals as goal

pub returns : goal.returns
returns c =
    let x = c.args.x in
    let l : length x.counters ≡ counter_count = search rules in
    c.put_counters.ensures
    ∙ ap (λ (b : List _). placed b 16 (four_bytes x.counters))
    (c.put_number-4.ensures
    ∙ ap (λ (b : List _). placed b 8 (digits 8 8 x.bits))
    (c.put_number-3.ensures
    ∙ ap (λ (b : List _). placed b 4 (digits 8 4 c.args.offset))
    (c.put_number-2.ensures ∙ ap (λ (b : List _). placed b 2 (digits 8 2 0)) c.put_number.ensures)))
    ∙ placed-flow c.args.flow.now x c.args.offset c.requires l
