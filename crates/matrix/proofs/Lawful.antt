-- The matrix feed is lawful: by the matrix that the filler writes it is the plain feed. Assumes nothing.
use Prim.Native.Nat.{ℕ}
use mathlib.Core.Path.{◌≡◌, refl, sym, ap, ◌∙◌}
use mathlib.Core.Bool.{true≢false}
use mathlib.Core.List.{List, [], ◌∷◌}
use lib.Dec.{lit<}
use Rattle.sets.specs.Set.{states, size}
use Rattle.rules.proofs.Rules.{passes-front, exactly, verdict-lt}
use Rattle.feed.specs.Lawful.{Lawful}
use Rattle.feed.proofs.Alike.{feed-same}
use Rattle.list_flow.specs.Flow.{flow_bytes, flow_layout, feed_rules}
use Rattle.list_feed.specs.Plain.{plain}
use Rattle.list_feed.specs.Means.{list_automata}
use Rattle.list_feed.proofs.Lawful as plain
use Rattle.list_feed.proofs.Lawful.{list-passes, list-shorter}
use Rattle.matrix.specs.Matrix.{matrixed, wrong_matrix, matrix_rules}
use Rattle.matrix.specs.Means.{matrix_means}
use Rattle.matrix.proofs.Exact.{follows, same-verdict, matrix-is-plain}
use Rattle.matrix.proofs.Feeding.{matrix-cheap}

pub lawful : (X : List ℕ) → Lawful list_automata (matrix_means X)
lawful X =
    record {
      passes = λ L R at piece v. list-passes L R at piece (passes-front (feed_rules L R at piece) ((8, wrong_matrix L X) ∷ []) v);
      below-14 = λ L R at piece. verdict-lt 14 (matrix_rules L X R at piece) (lit< tt) refl;
      not-4 = λ L R at piece n f e. true≢false (sym ((exactly (matrix_rules L X R at piece) refl 3 (lit< tt)).0 e).0 ∙ rw (f.0, f.1));
      shorter = λ L. list-shorter ((8, wrong_matrix L X) ∷ []) L;
      cheap = λ l L F. matrix-cheap L X F;
      counts = matrix-cheap [] [];
      same = λ L k R at piece. rw k (same-verdict L R at piece);
      goes = λ L k R at piece out h r.
          feed-same (matrixed L X) (plain L) flow_layout flow_layout R refl refl (λ F G. F ≡ G) (rw k (follows L)) (λ F G e. ap (size states) e)
          (λ F G i n e. ap (λ (H : ℕ). flow_bytes H i n) e) refl (matrix_rules L X R at piece) (matrix_rules L X R at piece) refl piece out h;
      few = λ L k F r. matrix-cheap L X F;
      fits = λ L k R at piece out h f. rw (k, matrix-is-plain L R at piece out h) ((plain.lawful).fits L tt R at piece out h f);
    }
