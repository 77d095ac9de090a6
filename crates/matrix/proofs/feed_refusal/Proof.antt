-- `feed_refusal` tests the list and the flow, then the length. Assumes nothing.
use borrow.Author.Rules.{rules}
use native.Mathlib.Omega.{arith}
use Prim.Native.Nat.{◌*◌}
use mathlib.Core.Path.{◌≡◌, refl, sym, ap, ◌∙◌}
use mathlib.Core.Bool.{not}
use mathlib.Core.List.{[], ◌∷◌}
use borrow.Author.Tests.{eq-eqb, ne_eqb}
use Rattle.rules.specs.Rules.{verdict}
use Rattle.rules.proofs.Rules.{stop, last, verdict-then, verdict-refused}
use Rattle.list_flow.specs.Flow.{feed_rules}
use Rattle.matrix.specs.Matrix.{matrix_length, wrong_matrix, matrix_rules}
use borrow.Author.Rules.{rules}
use Rattle.matrix.proofs.feed_refusal.Statement.{statement}
use Rattle.matrix.proofs.feed_refusal.Tie as tie

feed-refusal-requires : tie.Need-feed_refusal-met-requires
feed-refusal-requires c κs = search rules

-- past the list and the flow the length decides
past : (c : tie.Else-met-ne-PASSED)
    → let a = c.args in
    verdict (matrix_rules a.list.now a.matrix.now a.flow.now a.start a.piece.now) ≡ verdict ((8, wrong_matrix a.list.now a.matrix.now) ∷ [])
past c =
    let a = c.args in
    verdict-then (feed_rules a.list.now a.flow.now a.start a.piece.now) ((8, wrong_matrix a.list.now a.matrix.now) ∷ []) refl (sym c.feed_refusal-met.ensures ∙ c.if-met-ne-PASSED.false)

sized : (c : tie.Else-met-ne-PASSED) → let a = c.args in matrix_length a.list.now ≡ 32768 * a.n
sized c = omega (arith, c.requires.0)

returns : tie.Need-returns-then-met-ne-PASSED
returns c =
    let a = c.args in
    let e = c.feed_refusal-met.ensures in
    e ∙ sym (verdict-refused (feed_rules a.list.now a.flow.now a.start a.piece.now) ((8, wrong_matrix a.list.now a.matrix.now) ∷ []) (λ z. c.if-met-ne-PASSED.true (e ∙ z)))

mul-if2 : tie.Need-overflow_mul-n
mul-if2 c = search rules

returns-2 : tie.Need-returns-then-matrix-n
returns-2 c = sym (past c.before ∙ stop 8 [] (ap not (ne_eqb _ _ (λ e. c.if-matrix-n.true (e ∙ sized c.before)))))

returns-3 : tie.Need-returns
returns-3 c = sym (past c.before ∙ last 8 (ap not (eq-eqb _ _ (c.if-matrix-n.false ∙ sym (sized c.before)))))

pub feed_refusal_spec : {M : Type 1} → statement M
feed_refusal_spec = tie.close (tie.spec feed-refusal-requires returns mul-if2 returns-2 returns-3)
