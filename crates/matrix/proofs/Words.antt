-- What the filler writes, and what a byte does by any matrix, in words. Assumes nothing.
use Prim.Native.Nat.{ℕ, suc, ◌+◌, ◌*◌, ◌^◌, ◌≤◌, ◌<◌}
use mathlib.Core.Path.{◌≡◌, refl, sym, ap, ◌∙◌}
use mathlib.Core.Bool.{true}
use mathlib.Core.List.{List}
use mathlib.Core.Logic.{◌↔◌}
use native.Mathlib.Omega.{arith}
use borrow.Author.Tests.{eqb-true, eq-eqb}
use Rattle.sets.specs.Set.{states, holds, set_at}
use Rattle.sets.proofs.Sets.{holds-pow}
use Rattle.sets.proofs.Members.{members-size}
use Rattle.list.specs.List.{records, from, target}
use Rattle.list.specs.Automaton.{edge, step, highest}
use Rattle.list.proofs.Steps.{edge-exactly, step-exactly, accepted-exactly}
use Rattle.matrix.specs.Matrix.{cell, matrix_step, filled}
use Rattle.matrix.specs.Words.{MatrixFilled, MatrixMoves}
use Rattle.matrix.proofs.Unions.{union-exactly}
use Rattle.matrix.proofs.Exact.{filled-long, filled-cell}

module _ (L : List ℕ) where
  -- where the list leads from one state alone
  alone : (s c t : ℕ) → holds (step L (2 ^ s) c) t ≡ true ↔ ((t < states) × ((i : ℕ) × (i < records L) × (edge L c i ≡ true) × (from L i ≡ s) × (target L i ≡ t)))
  alone s c t = (
    λ h. let w = (step-exactly L (2 ^ s) c t).0 h in
        (w.0, (w.1.0, w.1.1, (edge-exactly L c w.1.0).1 w.1.2, eqb-true (from L w.1.0) s (sym (holds-pow s (from L w.1.0)) ∙ w.1.3), w.1.4)),
    λ w. (step-exactly L (2 ^ s) c t).1
        (w.0, (w.1.0, w.1.1, (edge-exactly L c w.1.0).0 w.1.2, holds-pow s (from L w.1.0) ∙ eq-eqb (from L w.1.0) s w.1.3, w.1.4)),
  )

  set_there : (s c : ℕ) → s ≤ highest L → c < 256 → set_at (filled L) (128 * (256 * s + c)) ≡ step L (2 ^ s) c
  unfolding cell
  set_there s c h l = filled-cell L s c h l

pub matrix-filled : MatrixFilled
matrix-filled L =
    record {
      long = filled-long L;
      stored = λ s c t h l. (
        λ e. (alone L s c t).0 (ap (λ (n : ℕ). holds n t) (sym (set_there L s c h l)) ∙ e),
        λ w. ap (λ (n : ℕ). holds n t) (set_there L s c h l) ∙ (alone L s c t).1 w,
      );
    }

pub matrix-moves : MatrixMoves
matrix-moves L X F c =
    let u = union-exactly (λ s. cell X s c) F (suc (highest L)) in
    record {
      leads = λ t. (
        λ h. let w = (u t).0 h in (w.0, omega (arith, w.1), w.2, w.3),
        λ w. (u t).1 (w.0, omega (arith, w.1), w.2, w.3),
      );
      tells = accepted-exactly L (matrix_step L X F c);
      costs = sym (members-size states F);
      goes_on = refl;
    }
