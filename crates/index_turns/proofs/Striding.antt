-- The loop that tells: a byte followed, the two ends, and what adds up. Assumes nothing.
use Prim.Native.Nat.{ℕ, suc, ◌+◌, ◌*◌, ◌-◌, ◌/◌, ◌≤◌, ◌<◌}
use mathlib.Core.Path.{◌≡◌, refl, sym, ap, ◌∙◌, subst}
use mathlib.Core.Bool.{Bool, true, false}
use mathlib.Core.List.{List}
use mathlib.Core.Logic.{inl}
use native.Mathlib.Omega.{arith}
use native.Mathlib.Nat.{lt_of_not-le}
use native.Mathlib.Decide.{dec_lt}
use lib.ListN.{length, get_or}
use lib.Dec.{eqb}
use borrow.Author.Tests.{lt-leb, le-leb, ne_eqb, leb-true}
use Rattle.sets.specs.Set.{signatures, size, members}
use Rattle.numbers.proofs.Placing.{length-placed}
use Rattle.feed.specs.Engine.{pairs_at}
use Rattle.feed.proofs.Going.{stop, finish}
use Rattle.std.specs.Prelude.{Option, Some, None, is_some}
use Rattle.feed.specs.inner.Told.{TellsAll}
use Rattle.feed.proofs.Fitting.{all_none, goes_on, stops}
use Rattle.index_blocks.specs.Block.{word_at}
use Rattle.index.specs.Entry.{limit, place_of, told_of, cost_at}
use Rattle.index.specs.Stand.{stand_at, stands_at}
use Rattle.index_quiet.specs.inner.Moves.{Moves}
use Rattle.index_turns.specs.inner.Goes.{Goes, Stops}

-- bytes that tell nothing leave the words
pub quietly : {X P : List ℕ} {i p j q n : ℕ} → Moves X P i p j q n → (k : ℕ) (out : List ℕ) (w : ℕ) → Goes X P k i p out w j q out w n
quietly m k out w = record { going = λ S F x₀ out₀ l g. m.going S F x₀ k out₀ out w l g }

pub here : (X P : List ℕ) (k i p : ℕ) (out : List ℕ) (w : ℕ) → Goes X P k i p out w i p out w 0
here X P k i p out w = record { going = λ S F x₀ out₀ m g. let a : m + 0 ≡ m = omega arith in rw a g }

pub then : {X P : List ℕ} {k i p : ℕ} {out : List ℕ} {w j q : ℕ} {mid : List ℕ} {v n l r : ℕ} {left : List ℕ} {u m : ℕ}
    → Goes X P k i p out w j q mid v n → Goes X P k j q mid v l r left u m → (t : ℕ) → t ≡ n + m → Goes X P k i p out w l r left u t
then {n = n} {m = m} a b t e =
    record {
      going = λ S F x₀ out₀ l g.
          let s : l + t ≡ l + n + m = omega (arith, e) in
          rw s (b.going S F x₀ out₀ (l + n) (a.going S F x₀ out₀ l g));
    }

-- at a place by another name
pub led-to : {X P : List ℕ} {k i p : ℕ} {out : List ℕ} {w j q : ℕ} {left : List ℕ} {v n : ℕ} → Goes X P k i p out w j q left v n → (r : ℕ) → q ≡ r → Goes X P k i p out w j r left v n
led-to {X} {P} {k} {i} {p} {out} {w} {j} {q} {left} {v} {n} g r e = subst (λ (x : ℕ). Goes X P k i p out w j x left v n) e g

-- ---- what telling leaves of the words

module _ {G : ℕ} {out : List ℕ} {w k : ℕ} {t : Option ℕ} {left : List ℕ} (told : TellsAll G out w k t left) where
  pub not-told : t ≡ None → left ≡ out
  not-told f = told.wrote ∙ rw f

  pub told-many : length left ≡ length out
  told-many = go (is_some t) refl
    where
      go : (b : Bool) → is_some t ≡ b → length left ≡ length out
      go true f = rw (told.wrote, f) (length-placed out w (pairs_at k (members signatures G)))
      go false f = rw (told.wrote, f)

  pub told-within : w ≤ length out → (m : ℕ) → t ≡ Some m → m ≤ length left
  told-within h m f =
      let a : m ≡ w + 2 * size signatures G = rw f at told.words in
      let l = leb-true (size signatures G) ((length out - w) / 2) (sym told.fits ∙ ap is_some f) in
      omega (arith, told-many)

-- ---- a byte whose word is followed

module _ (X P : List ℕ) (k i p : ℕ) {out : List ℕ} {w : ℕ} (l : i < length P) (h : p < limit X) (word : ℕ) (e : word ≡ word_at X p (get_or P i 0)) {t : Option ℕ} {left : List ℕ}
    (told : TellsAll (told_of X word) out w (k + i + 1) t left) where
  -- its pairs fit
  pub followed : (v : ℕ) → t ≡ Some v → (q : ℕ) → q ≡ place_of word → (r : ℕ) → r ≡ cost_at X p → Goes X P k i p out w (i + 1) q left v r
  followed v f q eq r er =
      record {
        going = λ S F x₀ out₀ m g.
            let z : eqb (i + 1) 0 ≡ false = ne_eqb (i + 1) 0 (λ y. omega arith) in
            goes_on g l told (ap (told_of X) e) v f (lt-leb (limit X) p h) (stands_at S X F (i + 1) q) (rw z (ap (stand_at S X) (eq ∙ ap place_of e))) r er;
      }

  -- they do not
  pub full : t ≡ None → Stops X P k i p left w
  full f =
      record {
        ends = λ S F x₀ out₀ m g. (stops (rw (not-told told f) at g) l told (ap (told_of X) e) f).0;
      }

-- no whole entry stands there
pub lost : (X P : List ℕ) (k j q : ℕ) (out : List ℕ) (w : ℕ) → limit X ≤ q → Stops X P k j q out w
lost X P k j q out w h =
    record {
      ends = λ S F x₀ out₀ m g.
          elim (dec_lt j (length P)) [
            | yes l ↦ stop g l (inl (le-leb (limit X) q h))
            | no n ↦ finish g (omega (arith, g.short, lt_of_not-le (λ (l : suc j ≤ length P). n l)))
          ];
    }

-- a word below 2^31, and one whose place has no whole entry, tell nothing
pub none_told : (X : List ℕ) (word : ℕ) → told_of X word ≡ 0 → (out : List ℕ) (w k : ℕ) → TellsAll (told_of X word) out w k (Some w) out
none_told X word z out w k = all_none (told_of X word) out w k z
