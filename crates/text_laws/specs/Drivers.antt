-- What the driver of texts promises: the pairs of the text's language, said of the numbers that the code answered and the buffers that it left.
use Rattle.std.specs.Prelude.{ℕ, ◌*◌, ◌≡◌, List, ◌++◌, take}
use Rattle.list.specs.List.{list_refusal}
use Rattle.feed.specs.Fed.{Answers}
use Rattle.feed.specs.Opening.{Opens}
use Rattle.list_flow.specs.Opening.{open_flow}
use Rattle.list_feed.specs.Plain.{plain_feed}
use Rattle.text.specs.Grammar.{Text}
use Rattle.text_compile.specs.Words.{Reading}
use Rattle.text_laws.specs.declared.Served.{Served}
use Rattle.text_laws.specs.declared.Drove.{Drove}
use Rattle.text_laws.specs.Flows.{Past, Tells}

-- the check of L, an opening on the record R with the words `out`, and a feed of a piece from offset 0 with the words `more` answered r, and left the words ws and vs
pub record Tries (L R out piece more : List ℕ) (r : Served) (ws vs : List ℕ) : Type 0 where
  pub left : List ℕ
  pub end : List ℕ
  pub checked : r.checked ≡ list_refusal L
  pub opens : Opens (open_flow L R out) r.opened ws left
  pub feeds : Answers (plain_feed L left 0 piece more) r.fed vs end

-- the text T was compiled under the signature g, and what that wrote was checked, opened and fed a piece: where compiling answered 0, the list passes its check and is
-- refused with 1 to 3 nowhere; and where opening answered 0 too, its words and then the feed's are the pairs of the text's language on the bytes consumed
pub record TextServed (T : List ℕ) (g : ℕ) (piece : List ℕ) (r : Drove) (ws vs : List ℕ) : Type 0 where
  pub passes : r.compiled.refusal ≡ 0 → (r.served.checked ≡ 0) × Past r.served.opened.refusal × Past r.served.fed.refusal
  pub tells : r.compiled.refusal ≡ 0 → r.served.opened.refusal ≡ 0
      → (x : Text) × Reading T x × Tells x g (take r.served.fed.bytes piece) (take (2 * r.served.opened.pairs) ws ++ take (2 * r.served.fed.pairs) vs)
