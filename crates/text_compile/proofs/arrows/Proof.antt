-- `arrows` meets its promise. Assumes nothing.
use borrow.Author.Rules.{rules}
use Prim.Native.Nat.{suc}
use mathlib.Core.Path.{sym, ap, subst, ◌∙◌}
use mathlib.Core.Bool.{not}
use Rattle.sets.specs.Set.{set_of, byte_set_of, holds}
use Rattle.text.specs.Exp.{size}
use Rattle.text_records.specs.inner.Front.{Below}
use Rattle.text_compile.specs.inner.Code.{exp_of, free_of, Arrive}
use Rattle.text_compile.proofs.Listing.{arrive_none, arrows-first, arrows-later, arrows-below, below-with, below_none}
use Rattle.text_compile.proofs.arrows.Statement.{statement}
use Rattle.text_compile.proofs.arrows.Tie as tie

any-arrows-requires : tie.Need-any_arrows-requires
any-arrows-requires c κs = search rules

returns : tie.Need-returns-then-t-eq0
returns c =
    let a = c.args in
    let r = c.any_arrows in
    λ x w few l. (
      subst (λ z. Arrive (free_of x) (exp_of x) z (set_of r.result.from) (holds (byte_set_of r.result.letter))) (sym c.if-t-eq0.true)
          (arrive_none (free_of x) a.bound (exp_of x) (set_of r.result.from) (holds (byte_set_of r.result.letter)) (ap not (sym w.1)) r.ensures.0 r.ensures.1),
      below_none a.bound (set_of r.result.from) (size (exp_of x)) r.ensures.0,
    )

mul-from-bytes : tie.Need-overflow_mul-t
mul-from-bytes c = search rules

from-bytes-requires : tie.Need-from_bytes-from-requires
from-bytes-requires c κs = search rules

mul-from-bytes-2 : tie.Need-overflow_mul-t-2
mul-from-bytes-2 c = search rules

add-from-bytes : tie.Need-overflow_add-t
add-from-bytes c = search rules

from-bytes-requires-2 : tie.Need-from_bytes-letter-requires
from-bytes-requires-2 c κs = search rules

has-requires : tie.Need-has-requires
has-requires c κs = search rules

with-requires : tie.Need-with-requires
with-requires c κs = search rules

returns-2 : tie.Need-returns-then-has
returns-2 c =
    let a = c.args in
    λ x w few l. (
      arrows-first (free_of x) a.rows.now (exp_of x) a.shape w.0 few a.t (set_of c.with.result) (set_of c.from_bytes-from.result) (byte_set_of c.from_bytes-letter.result) c.if-t-eq0.false l c.from_bytes-from.ensures c.from_bytes-letter.ensures (sym c.has.ensures ∙ c.if-has.true) c.with.ensures,
      below-with (set_of c.from_bytes-from.result) (set_of c.with.result) (size (exp_of x)) c.with.ensures (subst (λ z. Below z (suc (size (exp_of x)))) (sym c.from_bytes-from.ensures) (arrows-below (free_of x) a.rows.now (exp_of x) a.shape w.0 few a.t c.if-t-eq0.false l)),
    )

returns-3 : tie.Need-returns
returns-3 c =
    let a = c.args in
    λ x w few l. (
      arrows-later (free_of x) a.rows.now (exp_of x) a.shape w.0 few a.t (set_of c.from_bytes-from.result) (byte_set_of c.from_bytes-letter.result) c.if-t-eq0.false l c.from_bytes-from.ensures c.from_bytes-letter.ensures (sym c.has.ensures ∙ c.if-has.false),
      subst (λ z. Below z (suc (size (exp_of x)))) (sym c.from_bytes-from.ensures) (arrows-below (free_of x) a.rows.now (exp_of x) a.shape w.0 few a.t c.if-t-eq0.false l),
    )

pub arrows_spec : {M : Type 1} → statement M
arrows_spec =
    tie.close
    (tie.spec
    any-arrows-requires
    returns
    mul-from-bytes
    from-bytes-requires
    mul-from-bytes-2
    add-from-bytes
    from-bytes-requires-2
    has-requires
    with-requires
    returns-2
    returns-3)
