-- The frontiers are kept, and read on the way back.
use Rattle.std.proofs.Common.{◌≡◌, ap, ◌∙◌, ◌≤◌, ◌<◌, ◌*◌, ◌^◌, suc, length}
use Rattle.sets.specs.Set.{states, set_size, set_words, set_of}
use Rattle.numbers.proofs.Placing.{length-placed}
use Rattle.sets.proofs.Whole.{valid-of}
use Rattle.sets.proofs.Sets.{words-lt}
use Rattle.list_why.proofs.Keeping.{kept-fronts}
use Rattle.list_why.proofs.tell_run.Goals as goal

pub trace_back-requires : goal.trace_back-requires
trace_back-requires c =
    let a = c.args in
    let same : length c.keep_fronts.new.work ≡ length a.work.now = ap length c.keep_fronts.ensures ∙ length-placed a.work.now 0 _ in
    let fits : set_size * suc a.n ≤ length c.keep_fronts.new.work = rw same c.requires.2 in
    let small : set_of a.first < 2 ^ states = words-lt set_words a.first.words (valid-of a.first _ c.well_formed.1.0) in
    let k = kept-fronts a.list.now (set_of a.first) a.piece.now a.work.now _ a.n c.requires.0 small c.requires.2 c.keep_fronts.ensures in
    (c.requires.0, c.requires.1, fits, rw k.0 small, k.1, rw k.0 c.requires.3)

pub returns : goal.returns
returns c =
    let a = c.args in
    let small : set_of a.first < 2 ^ states = words-lt set_words a.first.words (valid-of a.first _ c.well_formed.1.0) in
    let k = kept-fronts a.list.now (set_of a.first) a.piece.now a.work.now _ a.n c.requires.0 small c.requires.2 c.keep_fronts.ensures in
    (rw k.0 at c.trace_back.ensures, c.keep_fronts.ensures)
