-- The face of an answer answers the same outcome, and only one face does; so of an opening, of building and of compiling. Assumes nothing.
use Prim.Native.Nat.{ℕ, ◌≤◌, ◌<◌}
use mathlib.Core.Path.{◌≡◌, sym, ap, ◌∙◌}
use mathlib.Core.List.{List}
use native.Mathlib.Omega.{arith}
use Rattle.feed.specs.Engine.{Outcome}
use Rattle.feed.specs.Opening.{Opening}
use Rattle.feed.specs.declared.Fed.{Fed}
use Rattle.feed.specs.Fed.{Answers}
use Rattle.feed.specs.Calls.{Bytes}
use Rattle.table.specs.Table.{Table}
use Rattle.index.specs.Stand.{stood_at}
use Rattle.index.proofs.Lawful.{stood-few}
use Rattle.table_build.specs.Build.{Building, Builds}
use Rattle.table_build.proofs.Reached.{unique-build}
use Rattle.index_prepare.specs.Prepare.{Preparing, Prepares}
use Rattle.index_prepare.proofs.Ends.{unique-prepare}
use Rattle.text_compile.specs.Compile.{Compiles}
use Rattle.text_compile.proofs.Exactly.{unique-compile}
use Rattle.watch_c.specs.declared.WatchBuilt.{WatchBuilt}
use Rattle.watch_c.specs.declared.WatchCompiled.{WatchCompiled}
use Rattle.watch_c.specs.declared.WatchFed.{WatchFed}
use Rattle.watch_c.specs.declared.WatchMade.{WatchMade}
use Rattle.watch_c.specs.declared.WatchOpened.{WatchOpened}
use Rattle.watch_c.specs.Face.{Faces, held, FaceAnswers, FaceOpens, face_built, face_made, face_compiled}

pub faced : {o : Outcome} {f : Fed} {w : WatchFed} {ws sv : List ℕ} → Answers o f ws sv → Faces f w → FaceAnswers o w ws sv
faced a h = rw (h.refusal, h.bytes, h.pairs, h.all, a.refusal, a.bytes, a.pairs, a.all, a.words, a.saved)

-- the split that a feed by an index answers fits the face
pub stood-fits : (S X : List ℕ) (h : ℕ) (R : List ℕ) (at : ℕ) (piece out : List ℕ) (n : ℕ) → n ≡ stood_at S X h R at piece out → h < 4294967296 → n ≤ 4294967295
stood-fits S X h R at piece out n e l = rw e (stood-few S X h R at piece out 4294967295 (omega (arith, l)) (omega arith))

-- two faces, words and records that answer one outcome are the same
pub unique-face : (o : Outcome) (v w : WatchFed) (vs ws rv rw2 : List ℕ) → FaceAnswers o v vs rv → FaceAnswers o w ws rw2 → (v ≡ w) × (vs ≡ ws) × (rv ≡ rw2)
unique-face o v w vs ws rv rw2 a b =
    let p : held v vs rv ≡ held w ws rw2 = a ∙ sym b in (
      ap {B = WatchFed} (λ (x : Outcome). record { bytes = x.bytes; pairs = x.pairs; refusal = x.refusal; all = x.all }) p,
      ap (λ (x : Outcome). x.words) p,
      ap (λ (x : Outcome). x.saved) p,
    )

-- so of an opening
pub unique-face-open : (o : Opening) (v w : WatchOpened) (vs ws rv rw2 : List ℕ) → FaceOpens o v vs rv → FaceOpens o w ws rw2 → (v ≡ w) × (vs ≡ ws) × (rv ≡ rw2)
unique-face-open o v w vs ws rv rw2 a b = (
  ap {B = WatchOpened} (λ (n : ℕ). record { pairs = n; refusal = v.refusal }) (a.pairs ∙ sym b.pairs)
      ∙ ap {B = WatchOpened} (λ (n : ℕ). record { pairs = w.pairs; refusal = n }) (a.refusal ∙ sym b.refusal),
  a.words ∙ sym b.words,
  a.saved ∙ sym b.saved,
)

-- and of building: two answers and lists that one list and the lists lent allow are the same, the answer and the lists each
pub unique-face-build : (L : List ℕ) (T : Table) (v w : WatchBuilt) (X Y : Table) → Builds L T (face_built v X) → Builds L T (face_built w Y) → (v ≡ w) × (X ≡ Y)
unique-face-build L T v w X Y a b =
    let p = unique-build L T (face_built v X) (face_built w Y) a b in (
      ap {B = WatchBuilt} (λ (o : Building). record { classes = o.classes; parts = o.parts; rows = o.rows; splits = o.splits; refusal = o.refusal }) p,
      ap (λ (o : Building). o.lists) p,
    )

-- and of preparing
pub unique-face-prepare : (L S X : List ℕ) (v w : WatchMade) (S₁ X₁ S₂ X₂ : List ℕ) → Prepares L S X (face_made v S₁ X₁) → Prepares L S X (face_made w S₂ X₂) → (v ≡ w) × (S₁ ≡ S₂) × (X₁ ≡ X₂)
unique-face-prepare L S X v w S₁ X₁ S₂ X₂ a b =
    let p = unique-prepare L S X (face_made v S₁ X₁) (face_made w S₂ X₂) a b in (
      ap {B = WatchMade} (λ (o : Preparing). record { splits = o.splits; index = o.index; refusal = o.refusal }) p,
      ap (λ (o : Preparing). o.made) p,
      ap (λ (o : Preparing). o.indexed) p,
    )

-- and of compiling a text of bytes
pub unique-face-compile : (T : List ℕ) (g : ℕ) (A : List ℕ) (v w : WatchCompiled) (B C : List ℕ) → Bytes T → Compiles T g A (face_compiled v) B → Compiles T g A (face_compiled w) C
    → (v ≡ w) × (B ≡ C)
unique-face-compile T g A v w B C bytes a b =
    let (p, q, r, s) = unique-compile T g A (face_compiled v) (face_compiled w) B C bytes a b in (
      ap {B = WatchCompiled} (λ (n : ℕ). record { place = n; length = v.length; refusal = v.refusal }) q
          ∙ ap {B = WatchCompiled} (λ (n : ℕ). record { place = w.place; length = n; refusal = v.refusal }) r
          ∙ ap {B = WatchCompiled} (λ (n : ℕ). record { place = w.place; length = w.length; refusal = n }) p,
      s,
    )
