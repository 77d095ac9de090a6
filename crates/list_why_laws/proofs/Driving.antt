-- From the promises of the functions that the driver calls to what it promises. Assumes nothing.
use Prim.Native.Nat.{ℕ, suc, ◌+◌, ◌*◌, ◌≤◌, ◌<◌}
use mathlib.Core.Path.{◌≡◌, refl, sym, ap, ◌∙◌}
use mathlib.Core.List.{List}
use mathlib.Core.Logic.{◌↔◌}
use native.Mathlib.Omega.{arith}
use native.Mathlib.Decide.{ℕ_discrete, dec_lt}
use lib.ListN.{length, get_or, take}
use lib.Seq.{length-take-le, get_or-take}
use Rattle.rules.specs.Rules.{verdict}
use Rattle.list.specs.List.{list_refusal}
use Rattle.feed.specs.Engine.{Outcome}
use Rattle.feed.specs.Calls.{Bytes, outcome, ruled}
use Rattle.feed.specs.Fed.{Answers}
use Rattle.feed.specs.declared.Fed.{Fed}
use Rattle.feed.specs.declared.Opened.{Opened}
use Rattle.feed.specs.Opening.{Opens}
use Rattle.feed.proofs.Feeds.{each-feed}
use Rattle.list_flow.specs.Opening.{opened, open_flow}
use Rattle.table.specs.Table.{Table, table_refusal}
use Rattle.matrix.specs.Matrix.{Fills}
use Rattle.matrix.proofs.Exact.{filled-left}
use Rattle.index_fill.specs.Filled.{FillsIndex}
use Rattle.list_why.specs.Run.{Question, of_signature}
use Rattle.list_why.specs.Reason.{why_rules}
use Rattle.laws.specs.Calls.{Via, Checked, Call, way_of}
use Rattle.laws.specs.declared.Kind.{Kind}
use Rattle.laws.specs.Drivers.{via_by, call_of}
use Rattle.laws.proofs.Demand1.{demand-1}
use Rattle.laws.proofs.Due.{begins}
use Rattle.laws.proofs.Driving.{checked-by}
use Rattle.list_why_laws.specs.Drivers.{AllAnswered, WhyDriven}
use Rattle.list_why_laws.proofs.Telling.{opened-list, asked-told}

-- a question looks at the lengths of its buffers alone
pub same_answer : (L R : List ℕ) (at : ℕ) (piece : List ℕ) (q : Question) (k : ℕ) (out work xs ws : List ℕ) → length out ≡ length xs → length work ≡ length ws
    → verdict (why_rules L R at piece q k out work) ≡ verdict (why_rules L R at piece q k xs ws)
same_answer L R at piece q k out work xs ws e f = rw (e, f)

-- one question more is answered
pub all_more : (L R bs ws : List ℕ) (i : ℕ) (out work : List ℕ) → AllAnswered L R bs ws i out work
    → verdict (why_rules L R 0 bs (of_signature (get_or ws (2 * i) 0)) (get_or ws (2 * i + 1) 0) out work) ≡ 0 → AllAnswered L R bs ws (i + 1) out work
all_more L R bs ws i out work h e j l = elim (ℕ_discrete j i) [ yes q ↦ rw q e | no n ↦ h j (below n) ]
  where
    below : (j ≡ i → ⊥) → j < i
    below n = elim (dec_lt j i) [ yes k ↦ k | no k ↦ absurd (n (omega arith)) ]

-- what a feed consumes is bytes of its piece, and what it tells fits its words
bytes_most : (R : List ℕ) (c : Call) → (outcome way_of R c).bytes ≤ length c.piece
bytes_most R c =
    let f = each-feed (way_of c.by) R c.at c.piece c.out in
    elim (ℕ_discrete (verdict (ruled way_of R c)) 0) [ yes v ↦ (f.longest v).front | no n ↦ omega (arith, ap (λ (o : Outcome). o.bytes) (f.refused n).1) ]

pub eaten-fit : (R : List ℕ) (c : Call) (f : Fed) (ws Q : List ℕ) → Answers (outcome way_of R c) f ws Q → f.bytes ≤ length c.piece
eaten-fit R c f ws Q a = rw a.bytes (bytes_most R c)

pub told_fit : (R : List ℕ) (c : Call) (f : Fed) (ws Q : List ℕ) → Answers (outcome way_of R c) f ws Q → 2 * f.pairs ≤ length ws
told_fit R c f ws Q a = let d = each-feed (way_of c.by) R c.at c.piece c.out in rw (a.pairs, a.words) (omega (arith, d.pairs-fit, d.words-many))

-- each pair of the answer is one of the words told
module _ (L : List ℕ) (ok : list_refusal L ≡ 0) (via : Via) (checked : Checked L via) (piece lent : List ℕ) (hb : Bytes piece) (f : Fed) (ws Q : List ℕ)
    (a : Answers (outcome way_of (opened L) (call_of L via 0 piece lent)) f ws Q) where
  all-answered : (out work : List ℕ) → length piece < length out → 128 * suc (length piece) ≤ length work → AllAnswered L (opened L) (take f.bytes piece) ws f.pairs out work
  all-answered out work l m i h =
      let c = call_of L via 0 piece lent in
      let fit = told_fit (opened L) c f ws Q a in
      let long = length-take-le (2 * f.pairs) ws fit in
      rw a.bytes
      (asked-told L ok c hb (λ v. (refl, checked)) out work (l, m) (get_or ws (2 * i) 0) (get_or ws (2 * i + 1) 0)
      (rw (← a.pairs, ← a.words) (i, omega (arith, long, h), get_or-take (2 * f.pairs) ws (2 * i) 0 (omega arith), get_or-take (2 * f.pairs) ws (2 * i + 1) 0 (omega arith))))

pub why-driven : (L : List ℕ) (b : ℕ) (T : Table) (R S out X₀ X Y₀ Y : List ℕ) (kind : Kind) (piece run work : List ℕ) (checked filled indexed : ℕ) (first again : Opened) (fed : Fed)
    (ws Q : List ℕ) (refusal : ℕ) (ws₁ A ws₂ B : List ℕ)
    → checked ≡ table_refusal L b T → Fills L X₀ filled X → FillsIndex L b T Y₀ indexed Y → Opens (open_flow L R out) first ws₁ A → Opens (open_flow L S ws₁) again ws₂ B
    → Answers (outcome way_of B (call_of L (via_by b T X Y kind) 0 piece ws₂)) fed ws Q
    → (refusal ≡ 0) ↔ AllAnswered L A (take fed.bytes piece) ws fed.pairs run work → Bytes T.splits → Bytes piece
    → WhyDriven L b T R S out X₀ X Y₀ Y kind piece run work checked filled indexed first again fed ws Q refusal
why-driven L b T R S out X₀ X Y₀ Y kind piece run work checked filled indexed first again fed ws Q refusal ws₁ A ws₂ B tables matrices indexes opens opens-again feeds asks hs hb =
    let again-so : Opens (open_flow L S (open_flow L R out).words) again ws₂ B = rw opens.words at opens-again in
    record {
      tables = tables;
      matrices = matrices;
      indexes = indexes;
      opens = opens.refusal;
      opens-again = again-so.refusal;
      feeds = rw (again-so.saved, again-so.words) at feeds;
      asks = rw opens.saved at asks;
      never-26 = λ t m x z y l w.
          let c = checked-by L b T X Y (sym tables ∙ t) (filled-left L X₀ filled X matrices m) (demand-1.indexes-passes L b T Y₀ indexed Y indexes x).1 hs kind in
          let a : A ≡ opened L = opens.saved ∙ (begins L R out (sym opens.refusal ∙ z)).1 in
          let d : B ≡ opened L = opens-again.saved ∙ (begins L S ws₁ (sym opens-again.refusal ∙ y)).1 in
          asks.1 (rw a (all-answered L (opened-list L R out (sym opens.refusal ∙ z)) (via_by b T X Y kind) c piece ws₂ hb fed ws Q (rw d at feeds) run work l w));
    }
