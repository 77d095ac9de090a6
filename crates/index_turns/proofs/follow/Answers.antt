-- The signatures are read only where the word tells and a whole entry stands there.
use Rattle.std.proofs.Common.{◌-◌, sym, refl}
use borrow.Author.Tests.{lt-ltb, le-ltb}
use Rattle.index.specs.Entry.{limit, telling, told_of}
use Rattle.feed.proofs.Fitting.{told-as}
use Rattle.index_turns.proofs.Striding.{none_told}
use Rattle.index_turns.proofs.follow.Goals as goal

pub returns-then-word-lt-TELLING : goal.returns-then-word-lt-TELLING
unfolding told_of
returns-then-word-lt-TELLING c =
    let l = lt-ltb c.args.word telling c.if-word-lt-TELLING.true in
    record { place = sym (rw l); told = none_told c.args.index.now c.args.word (rw l) _ _ _ }

pub returns-then-index-place : goal.returns-then-index-place
unfolding told_of
returns-then-index-place c =
    let l = le-ltb c.args.word telling c.if-word-lt-TELLING.false in
    let h = le-ltb (c.args.word - telling) (limit c.args.index.now) c.if-index-place.true in
    record { place = sym (rw l); told = none_told c.args.index.now c.args.word (rw (l, h)) _ _ _ }

pub returns-in_err-words-clause-told : goal.returns-in_err-words-clause-told
unfolding told_of
returns-in_err-words-clause-told c =
    let l = le-ltb c.args.word telling c.if-word-lt-TELLING.false in
    let h = lt-ltb (c.args.word - telling) (limit c.args.index.now) c.if-index-place.false in
    rw (l, h, c.from_residual.ensures) (told-as refl (sym c.in_err-words.was) (rw c.from_bytes-signatures.ensures at c.tell_all.ensures))

pub returns : goal.returns
unfolding told_of
returns c =
    let l = le-ltb c.args.word telling c.if-word-lt-TELLING.false in
    let h = lt-ltb (c.args.word - telling) (limit c.args.index.now) c.if-index-place.false in
    record { place = sym (rw l); told = rw (l, h) (told-as refl (sym c.in_ok-words.was) (rw c.from_bytes-signatures.ensures at c.tell_all.ensures)) }
