-- From the promise of a feed or an opening of the C face to its one equation. Assumes nothing.
use Prim.Native.Nat.{ℕ}
use mathlib.Core.Path.{◌≡◌}
use mathlib.Core.List.{List}
use Rattle.feed.specs.Engine.{Outcome}
use Rattle.feed.specs.Opening.{Opening}
use Rattle.watch_c.specs.declared.WatchFed.{WatchFed}
use Rattle.watch_c.specs.declared.WatchOpened.{WatchOpened}
use Rattle.watch_c.specs.Face.{held, FaceAnswers, FaceOpens}
use Rattle.watch_c_laws.specs.Faced.{held_open}

pub held-so : (o : Outcome) (w : WatchFed) (words saved : List ℕ) → FaceAnswers o w words saved → held w words saved ≡ o
held-so o w words saved a = a

pub held-open-so : (o : Opening) (w : WatchOpened) (words saved : List ℕ) → FaceOpens o w words saved → held_open w words saved ≡ o
held-open-so o w words saved a = rw (a.refusal, a.pairs, a.words, a.saved)
