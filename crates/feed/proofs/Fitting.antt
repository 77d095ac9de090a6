-- Telling a set of signatures: nothing is due, all of it fits, or it does not; and a turn of a feed's loop that goes by it. Assumes nothing.
use Prim.Native.Nat.{ℕ, ◌+◌, ◌*◌, ◌-◌, ◌/◌, ◌<◌}
use mathlib.Core.Path.{◌≡◌, refl, sym, ap, ◌∙◌}
use mathlib.Core.Bool.{true, false}
use mathlib.Core.List.{List}
use native.Mathlib.Omega.{arith}
use lib.ListN.{length, get_or}
use lib.Dec.{leb}
use borrow.Author.Tests.{le-leb, leb-true, leb-false}
use Rattle.sets.specs.Set.{signatures, size}
use Rattle.feed.specs.Engine.{Engine, room, consumed}
use Rattle.feed.specs.inner.Going.{Going}
use Rattle.feed.proofs.Looping.{more_by, stop-by}
use Rattle.feed.proofs.Telling.{tells_none}
use Rattle.std.specs.Prelude.{Option, Some, None, is_some}
use Rattle.feed.specs.inner.Tells.{Tells}
use Rattle.feed.specs.inner.Told.{TellsAll}

-- ---- what is told

module _ (G : ℕ) (out : List ℕ) (w k : ℕ) where
  -- nothing is due
  pub all_none : G ≡ 0 → TellsAll G out w k (Some w) out
  all_none e =
      let z = tells_none out w k G e in
      record { fits = sym (le-leb (size signatures G) ((length out - w) / 2) (omega (arith, z.next))); words = z.next; wrote = z.wrote }

  -- they fit
  pub all-fits : true ≡ leb (size signatures G) ((length out - w) / 2) → (n : ℕ) (left : List ℕ) → Tells G out w k n left → TellsAll G out w k (Some n) left
  all-fits e n left h = record { fits = e; words = h.next; wrote = h.wrote }

  -- or they do not
  pub all-not : false ≡ leb (size signatures G) ((length out - w) / 2) → TellsAll G out w k None out
  all-not e = record { fits = e; words = tt; wrote = refl }

-- told by another name
pub told-as : {G : ℕ} {out : List ℕ} {w k : ℕ} {t s : Option ℕ} {left end : List ℕ} → left ≡ end → t ≡ s → TellsAll G out w k s end → TellsAll G out w k t left
told-as p q h = rw (p, q) h

-- ---- a turn of a feed's loop, at a byte whose alerts are told

module _ {C : Type 0} {E : Engine C} {x₀ : C} {k₀ : ℕ} {piece out₀ : List ℕ} {x : C} {out : List ℕ} {i w n : ℕ} (g : Going E x₀ k₀ piece out₀ x out i w n)
    (l : i < length piece) {G : ℕ} {t : Option ℕ} {left : List ℕ} (told : TellsAll G out w (k₀ + i + 1) t left) (alerts : G ≡ E.alerts x (get_or piece i 0)) where
  -- they fit: the byte is consumed
  pub goes_on : (m : ℕ) → t ≡ Some m → E.halts x ≡ false → (y : C) → y ≡ E.next x (get_or piece i 0) → (r : ℕ) → r ≡ E.cost x
      → Going E x₀ k₀ piece out₀ y left (i + 1) m (n + r)
  goes_on m f h y ey r er =
      let e : m ≡ w + 2 * size signatures G = rw f at told.words in
      rw e
      (more_by g G (size signatures G) l alerts refl h (leb-true (size signatures G) ((length out - w) / 2) (sym told.fits ∙ ap is_some f)) y ey left (rw f at told.wrote) r er)

  -- they do not: the loop ends where it stands
  pub stops : t ≡ None → (consumed E x₀ (room out₀) piece ≡ i) × Going E x₀ k₀ piece out₀ x left i w n
  stops f = (stop-by g G (size signatures G) l alerts refl (leb-false (size signatures G) ((length out - w) / 2) (sym told.fits ∙ ap is_some f)), rw (rw f at told.wrote) g)
