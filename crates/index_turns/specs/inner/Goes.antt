-- What the loops of a feed by places promise: from byte i at place p to byte j at place q, whatever the splits are, wherever the feed began, and whatever it told before.
use Rattle.std.specs.Prelude.{ℕ, ◌+◌, ◌*◌, ◌≤◌, ◌<◌, ◌≡◌, Bool, true, false, List, length}
use Rattle.std.specs.declared.ops.ControlFlow.{ControlFlow}
use Rattle.std.specs.declared.ops.ControlFlow.TheVariants.{Continue, Break}
use Rattle.feed.specs.Engine.{room, consumed}
use Rattle.feed.specs.inner.Going.{Going}
use Rattle.index.specs.Entry.{limit}
use Rattle.index.specs.Stand.{Stand, stands_at, indexed}
use Rattle.index_turns.specs.declared.Stands.{Stands}

-- over bytes of a call that began at offset k: w words are written and then v, for n rows
pub record Goes (X P : List ℕ) (k i p : ℕ) (out : List ℕ) (w j q : ℕ) (left : List ℕ) (v n : ℕ) : Type 0 where
  pub going : (S : List ℕ) (F : ℕ) (x₀ : Stand) (out₀ : List ℕ) (m : ℕ)
      → Going (indexed S X) x₀ k P out₀ (stands_at S X F i p) out i w m → Going (indexed S X) x₀ k P out₀ (stands_at S X F j q) left j v (m + n)

-- the feed ends at byte j at place q, with w words written
pub record Stops (X P : List ℕ) (k j q : ℕ) (out : List ℕ) (w : ℕ) : Type 0 where
  pub ends : (S : List ℕ) (F : ℕ) (x₀ : Stand) (out₀ : List ℕ) (m : ℕ)
      → Going (indexed S X) x₀ k P out₀ (stands_at S X F j q) out j w m → consumed (indexed S X) x₀ (room out₀) P ≡ j

-- where a loop stands, and whether it goes on from there
abbrev pub stands_of : ControlFlow Stands Stands → Stands
stands_of (Continue r) = r
stands_of (Break r) = r

abbrev pub goes_on : ControlFlow Stands Stands → Bool
goes_on (Continue r) = true
goes_on (Break r) = false

-- from byte i at place p with w words written it comes to r, and goes on from there or not: it comes to byte `stop`, at a whole entry, or the feed ends before
pub record Strode (X P : List ℕ) (k i p : ℕ) (out : List ℕ) (w stop : ℕ) (b : Bool) (r : Stands) (left : List ℕ) : Type 0 where
  pub since : i ≤ r.bytes
  pub upto : r.bytes ≤ stop
  pub few : r.rows + 255 * i ≤ 255 * r.bytes
  pub many : length left ≡ length out
  pub within : r.words ≤ length left
  pub goes : Goes X P k i p out w r.bytes r.place left r.words r.rows
  pub on : b ≡ true → (r.place < limit X) × (r.bytes ≡ stop)
  pub off : b ≡ false → Stops X P k r.bytes r.place left r.words

abbrev pub Strides : List ℕ → List ℕ → ℕ → ℕ → ℕ → List ℕ → ℕ → ℕ → ControlFlow Stands Stands → List ℕ → Type 0
Strides X P k i p out w stop r left = Strode X P k i p out w stop (goes_on r) (stands_of r) left
