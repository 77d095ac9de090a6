-- `enter` meets its promise. Assumes nothing.
use borrow.Author.Rules.{rules}
use Prim.Native.Nat.{◌<◌, ◌*◌, ◌^◌}
use mathlib.Core.Path.{sym, ap, subst, ◌∙◌}
use Rattle.sets.specs.Set.{states, set_words, set_of, join}
use Rattle.sets.proofs.Sets.{words-lt, set-at-lt}
use Rattle.sets.proofs.Whole.{valid-of}
use Rattle.text_walk.specs.inner.Rows.{row_size, prior_at}
use Rattle.text_walk.proofs.Loops.{join-lt, entered}
use Rattle.text_walk.proofs.enter.Statement.{statement}
use Rattle.text_walk.proofs.enter.Tie as tie

mul-from-bytes : tie.Need-overflow_mul-t
mul-from-bytes c = search rules

from-bytes-requires : tie.Need-from_bytes-old-requires
from-bytes-requires c κs = search rules

union-requires : tie.Need-union-more-requires
union-requires c κs = search rules

mul-store : tie.Need-overflow_mul-t-2
mul-store c = search rules

store-requires : tie.Need-store-requires
store-requires c κs = search rules

same_length : tie.Need-shape_of-rows
same_length c =
    c.store.auto.b

returns : tie.Need-returns
returns c =
    let s = c in
    let a = s.args in
    let q = c.union-more.ensures ∙ ap (λ z. join z (set_of a.from)) c.from_bytes-old.ensures in
    let l = join-lt states (prior_at a.rows.now a.t) (set_of a.from) (set-at-lt a.rows.now (row_size * a.t) (λ i. (c.slice_known-1.given i).fits)) (words-lt set_words a.from.words (valid-of a.from _ s.well_formed.1.1.0)) in
    entered a.rows.now c.store.new.b a.t (set_of a.from) (set_of c.union-more.result) s.requires.1 s.requires.0 (subst (λ z. z < 2 ^ states) (sym q) l) q c.store.ensures

pub enter_spec : {M : Type 1} → statement M
enter_spec =
    tie.close
    (tie.spec mul-from-bytes from-bytes-requires union-requires mul-store store-requires same_length returns)
