-- The C face's answers against the library's, and against what a feed or an opening is defined to do.
use Rattle.std.specs.Prelude.{ℕ, ◌≡◌, List}
use Rattle.feed.specs.Engine.{Outcome}
use Rattle.feed.specs.Opening.{Opening}
use Rattle.feed.specs.declared.Fed.{Fed}
use Rattle.table.specs.Table.{Table}
use Rattle.table_build.specs.Build.{Building}
use Rattle.index_prepare.specs.Prepare.{Preparing}
use Rattle.text_compile.specs.declared.Compiled.{Compiled}
use Rattle.list_join.specs.declared.Joined.{Joined}
use Rattle.list_fold.specs.declared.Folded.{Folded}
use Rattle.watch_c.specs.declared.WatchBuilt.{WatchBuilt}
use Rattle.watch_c.specs.declared.WatchCompiled.{WatchCompiled}
use Rattle.watch_c.specs.declared.WatchFed.{WatchFed}
use Rattle.watch_c.specs.declared.WatchJoined.{WatchJoined}
use Rattle.watch_c.specs.declared.WatchMade.{WatchMade}
use Rattle.watch_c.specs.declared.WatchOpened.{WatchOpened}
use Rattle.watch_c.specs.declared.WatchStood.{WatchStood}

-- the version of the face, which rises with each change of a name, a size, a limit or a meaning in it
abbrev pub version : ℕ
version = 20

-- the same four values
pub record Faces (f : Fed) (w : WatchFed) : Type 0 where
  pub bytes : w.bytes ≡ f.bytes
  pub pairs : w.pairs ≡ f.pairs
  pub refusal : w.refusal ≡ f.refusal
  pub all : w.all ≡ f.all

-- what a caller of a feed holds: the answer, and the words and the record at exit
abbrev pub held : WatchFed → List ℕ → List ℕ → Outcome
held w words saved =
    record { refusal = w.refusal; bytes = w.bytes; pairs = w.pairs; all = w.all; words = words; saved = saved }

-- the face answers w, and leaves the words `ws` and the record `sv`: those of an outcome
abbrev pub FaceAnswers : Outcome → WatchFed → List ℕ → List ℕ → Type 0
FaceAnswers o w ws sv = held w ws sv ≡ o

-- what a feed by an index answers as every feed does: all but the split
abbrev pub stood_fed : WatchStood → WatchFed
stood_fed w = record { bytes = w.bytes; pairs = w.pairs; refusal = w.refusal; all = w.all }

-- so of an opening
pub record FaceOpens (o : Opening) (w : WatchOpened) (ws sv : List ℕ) : Type 0 where
  pub pairs : w.pairs ≡ o.pairs
  pub refusal : w.refusal ≡ o.refusal
  pub words : ws ≡ o.words
  pub saved : sv ≡ o.saved

-- what a caller of the builder holds: the answer, and the four lists at exit
abbrev pub face_built : WatchBuilt → Table → Building
face_built w T = record { refusal = w.refusal; classes = w.classes; parts = w.parts; rows = w.rows; splits = w.splits; lists = T }

-- what a caller of the preparation holds: the answer, and the two lists at exit
abbrev pub face_made : WatchMade → List ℕ → List ℕ → Preparing
face_made w S X = record { refusal = w.refusal; splits = w.splits; index = w.index; made = S; indexed = X }

-- the compiler's answer, as the library gives it
abbrev pub face_compiled : WatchCompiled → Compiled
face_compiled w = record { refusal = w.refusal; place = w.place; length = w.length }

-- the answer of joining, and that of folding, as the library gives them
abbrev pub face_joined : WatchJoined → Joined
face_joined w = record { refusal = w.refusal; length = w.length }

abbrev pub face_folded : WatchJoined → Folded
face_folded w = record { refusal = w.refusal; length = w.length }
