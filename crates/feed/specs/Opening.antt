-- Opening a flow of any kind: what it answers and leaves, where the pairs of some words are due before any byte; and that the code does so.
use Rattle.std.specs.Prelude.{ℕ, ◌/◌, Bool, cond, List, ◌++◌, ◌≡◌, length, drop, ltb, eqb}
use Rattle.rules.specs.Rules.{Rule, verdict}
use Rattle.feed.specs.Engine.{room}
use Rattle.feed.specs.declared.Opened.{Opened}

-- what opening answers, and the words and the record at its exit
pub record Opening : Type 0 where
  pub refusal : ℕ
  pub pairs : ℕ
  pub words : List ℕ
  pub saved : List ℕ

-- 15: the words ws hold more pairs than there is room for
abbrev pub no_room : List ℕ → List ℕ → Bool
no_room ws out = ltb (room out) (length ws / 2)

-- the first rule that applies refuses it: zero pairs, and no buffer changes; else the pairs of ws are told, and the record is Q
unfoldable pub opening : List Rule → List ℕ → List ℕ → List ℕ → List ℕ → Opening
opening rules ws Q R out =
    cond (eqb (verdict rules) 0)
    (record { refusal = 0; pairs = length ws / 2; words = ws ++ drop (length ws) out; saved = Q })
    (record { refusal = verdict rules; pairs = 0; words = out; saved = R })

-- the code answers f, and leaves the words `vs` and the record `sv`: those of an opening
pub record Opens (o : Opening) (f : Opened) (vs sv : List ℕ) : Type 0 where
  pub refusal : f.refusal ≡ o.refusal
  pub pairs : f.pairs ≡ o.pairs
  pub words : vs ≡ o.words
  pub saved : sv ≡ o.saved
