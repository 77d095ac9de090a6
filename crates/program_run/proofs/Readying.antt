-- What a run goes by is checked for its list: the index that is made straight from it, its matrix, or the list itself. Assumes nothing.
use Prim.Native.Nat.{ℕ, ◌-◌, ◌≤◌}
use mathlib.Core.Path.{◌≡◌, refl, sym, ap, ◌∙◌}
use mathlib.Core.List.{List}
use native.Mathlib.Omega.{arith}
use lib.ListN.{length, take, replicate, length-append}
use Rattle.rules.proofs.Rules.{passes-front}
use Rattle.list.specs.List.{list_rules}
use Rattle.list.specs.Automaton.{start}
use Rattle.list.proofs.Steps.{start-lt}
use Rattle.feed.proofs.Lawful.{reached-start}
use Rattle.list_flow.proofs.Records.{frontier-flow, flow-good}
use Rattle.list_flow.specs.Opening.{opened}
use Rattle.list_feed.specs.Means.{list_automata}
use Rattle.matrix.specs.Matrix.{filled}
use Rattle.table_build.proofs.Outcomes.{fronts-of}
use Rattle.index_prepare.specs.Prepare.{Preparing, Prepares, refuses, passes_limit, prepares, splits_of, made_index}
use Rattle.index_prepare.proofs.Right.{prepared-checked}
use Rattle.program_run.specs.declared.By.{By}
use Rattle.program_run.specs.declared.By.TheVariants.{Plain, Matrix, Index}
use Rattle.program_run.specs.Run.{Readied, Alike, means_by}

-- ---- the three engines

pub ready-index : (L S X : List ℕ) (o : Preparing) → Prepares L S X o → o.refusal ≡ 0
    → Readied L o.made o.indexed (Index o.splits o.index)
ready-index L S X o (refuses n e) z = absurd (n (sym (ap (λ (x : Preparing). x.refusal) e) ∙ z))
ready-index L S X o (passes_limit v m e) z = absurd (omega (arith, sym (ap (λ (x : Preparing). x.refusal) e) ∙ z))
ready-index L S X o (prepares v xs n a e) z =
    rw e
    (record {
      fits = (
        omega (arith, length-append (splits_of xs) (replicate (length S - length (splits_of xs)) 0)),
        omega (arith, length-append (made_index L xs) (replicate (length X - length (made_index L xs)) 0)),
      );
      checked = λ h. rw (fronts-of (splits_of xs) S, fronts-of (made_index L xs) X) (prepared-checked L (passes-front (list_rules L) _ v) xs a n h);
    })

pub ready-matrix : (L S X : List ℕ) (m : ℕ) → m ≤ length X → take m X ≡ filled L → Readied L S X (Matrix m)
ready-matrix L S X m l e = record { fits = l; checked = λ h. e }

pub ready-list : (L S X : List ℕ) → Readied L S X Plain
ready-list L S X = record { fits = omega arith; checked = λ h. tt }

-- ---- an opened flow stands as the program's own does

pub alike-opened : (L R : List ℕ) → R ≡ opened L → Alike L R R
alike-opened L R e =
    rw e
    (record {
      frontier = refl;
      offset = refl;
      whole = flow-good (start L) 0 0 (omega arith) (omega arith);
      good = flow-good (start L) 0 0 (omega arith) (omega arith);
      reached = rw (frontier-flow (start L) 0 0 (start-lt L)) (reached-start list_automata L);
    })

-- and it is checked from any split
pub ready-from : (L S X : List ℕ) (by : By) (h : ℕ) → Readied L S X by → (means_by by S X h).Checked L
ready-from L S X by h r = r.checked h
