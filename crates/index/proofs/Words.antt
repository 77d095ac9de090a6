-- What a byte does by any index, in words of its bytes. Assumes nothing.
use Prim.Native.Nat.{ℕ, ◌+◌, ◌-◌, ◌/◌, ◌≤◌, ◌<◌}
use mathlib.Core.Path.{◌≡◌, refl, sym, ap, ◌∙◌}
use mathlib.Core.Bool.{Bool, true, false, cond, true≢false}
use mathlib.Core.List.{List}
use mathlib.Core.Logic.{◌↔◌}
use native.Mathlib.Omega.{arith}
use lib.ListN.{length}
use lib.Dec.{ltb}
use borrow.Author.Tests.{lt-ltb, le-ltb, ltb-true, ltb-false, leb-true, le-leb}
use Rattle.sets.specs.Set.{holds, sigs_at}
use Rattle.sets.proofs.Sets.{holds-empty}
use Rattle.table.specs.Table.{split_count, split_set}
use Rattle.index_blocks.specs.Block.{word_at}
use Rattle.index.specs.Entry.{sigs_place, telling, limit, place_of, told_of, split_at}
use Rattle.index.specs.Words.{IndexMoves}

silent : (g : ℕ) → holds 0 g ≡ true → ⊥
silent g h = true≢false (sym h ∙ holds-empty g)

told-words : (X : List ℕ) (w g : ℕ) → holds (told_of X w) g ≡ true ↔ ((2147483648 ≤ w) × (place_of w + 1088 ≤ length X) × (holds (sigs_at X (place_of w + 1024)) g ≡ true))
unfolding told_of
told-words X w g = go (ltb w telling) refl (ltb (w - telling) (limit X)) refl
  where
    go : (s : Bool) → ltb w telling ≡ s → (t : Bool) → ltb (w - telling) (limit X) ≡ t
        → holds (cond s 0 (cond t (sigs_at X (w - telling + sigs_place)) 0)) g ≡ true
        ↔ ((2147483648 ≤ w) × (cond s w (w - telling) + 1088 ≤ length X) × (holds (sigs_at X (cond s w (w - telling) + 1024)) g ≡ true))
    go true e t f = (λ h. absurd (silent g h), λ p. absurd (omega (arith, ltb-true w telling e, p.0)))
    go false e true f = (λ h. (ltb-false w telling e, omega (arith, ltb-true (w - telling) (limit X) f), h), λ p. p.2)
    go false e false f = (λ h. absurd (silent g h), λ p. absurd (omega (arith, ltb-false (w - telling) (limit X) f, p.1)))

-- the split of a place where a whole entry follows, and where none does
split-of : (S X : List ℕ) (p : ℕ) → p + 1088 ≤ length X → split_at S X p ≡ (p - 128) / 1088
unfolding split_at
split-of S X p l = rw (lt-ltb p (limit X) (omega (arith, l)))

split-lost : (S X : List ℕ) (p : ℕ) → length X < p + 1088 → split_at S X p ≡ split_count S
unfolding split_at
split-lost S X p l = rw (le-ltb p (limit X) (omega (arith, l)))

pub index-moves : IndexMoves
index-moves S X x c =
    let w = word_at X x.place c in
    record {
      quiet = λ l. rw (lt-ltb w telling l);
      loud = λ l. rw (le-ltb w telling l) (omega (arith, l));
      stands = λ l. ap (split_set S) (split-of S X (place_of w) l);
      lost = λ l. ap (split_set S) (split-lost S X (place_of w) l);
      tells = λ g. told-words X w g;
      costs = refl;
      halts = (λ h. omega (arith, leb-true (limit X) x.place h), λ l. le-leb (limit X) x.place (omega (arith, l)));
    }
