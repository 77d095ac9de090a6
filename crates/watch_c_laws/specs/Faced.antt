-- What a caller of the C face holds after an opening: one equation with the definition then says every number and both buffers.
use Rattle.std.specs.Prelude.{ℕ, List}
use Rattle.feed.specs.Opening.{Opening}
use Rattle.watch_c.specs.declared.WatchOpened.{WatchOpened}

abbrev pub held_open : WatchOpened → List ℕ → List ℕ → Opening
held_open w words saved = record { refusal = w.refusal; pairs = w.pairs; words = words; saved = saved }
