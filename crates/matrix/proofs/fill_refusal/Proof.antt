-- `fill_refusal` tests the list, then the length. Assumes nothing.
use borrow.Author.Rules.{rules}
use native.Mathlib.Omega.{arith}
use Prim.Native.Nat.{◌*◌}
use mathlib.Core.Path.{◌≡◌, refl, sym, ap, ◌∙◌}
use mathlib.Core.Bool.{not}
use mathlib.Core.List.{[], ◌∷◌}
use borrow.Author.Tests.{eq-eqb, ne_eqb}
use Rattle.rules.specs.Rules.{verdict}
use Rattle.rules.proofs.Rules.{stop, last, verdict-then, verdict-refused}
use Rattle.list.specs.List.{list_rules}
use Rattle.matrix.specs.Matrix.{matrix_length, wrong_matrix, fill_rules}
use borrow.Author.Rules.{rules}
use Rattle.matrix.proofs.fill_refusal.Statement.{statement}
use Rattle.matrix.proofs.fill_refusal.Tie as tie

check-list-requires : tie.Need-check_list-listed-requires
check-list-requires c κs = search rules

-- past the list the length decides
past : (c : tie.Else-listed-ne-PASSED)
    → let a = c.args in verdict (fill_rules a.list.now a.matrix.now) ≡ verdict ((8, wrong_matrix a.list.now a.matrix.now) ∷ [])
past c =
    let a = c.args in
    verdict-then (list_rules a.list.now) ((8, wrong_matrix a.list.now a.matrix.now) ∷ []) refl (sym c.check_list-listed.ensures ∙ c.if-listed-ne-PASSED.false)

sized : (c : tie.Else-listed-ne-PASSED) → let a = c.args in matrix_length a.list.now ≡ 32768 * a.n
sized c = omega (arith, c.requires.0)

returns : tie.Need-returns-then-listed-ne-PASSED
returns c =
    let a = c.args in
    let e = c.check_list-listed.ensures in
    e ∙ sym (verdict-refused (list_rules a.list.now) ((8, wrong_matrix a.list.now a.matrix.now) ∷ []) (λ z. c.if-listed-ne-PASSED.true (e ∙ z)))

mul-if2 : tie.Need-overflow_mul-n
mul-if2 c = search rules

returns-2 : tie.Need-returns-then-matrix-n
returns-2 c = sym (past c.before ∙ stop 8 [] (ap not (ne_eqb _ _ (λ e. c.if-matrix-n.true (e ∙ sized c.before)))))

returns-3 : tie.Need-returns
returns-3 c = sym (past c.before ∙ last 8 (ap not (eq-eqb _ _ (c.if-matrix-n.false ∙ sym (sized c.before)))))

pub fill_refusal_spec : {M : Type 1} → statement M
fill_refusal_spec = tie.close (tie.spec check-list-requires returns mul-if2 returns-2 returns-3)
