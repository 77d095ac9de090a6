-- From the promises of the functions that the driver calls to the demands that it promises: the feeds made so far are the witness. Assumes nothing.
use Prim.Native.Nat.{ℕ, suc, ◌+◌, ◌-◌, ◌*◌, ◌≤◌}
use mathlib.Core.Path.{◌≡◌, refl, sym, ap, ◌∙◌}
use mathlib.Core.List.{List, [], ◌∷◌, ◌++◌, append-nil, append_assoc}
use native.Mathlib.Omega.{arith}
use native.Mathlib.Nat.{zero-add}
use native.Mathlib.Decide.{ℕ_discrete}
use lib.ListN.{length, get_or, set, take, drop, length-append}
use lib.Seq.{length-take-le, take-append-add, take-append-le, take-take, take-add, take_at, get_or-drop}
use borrow.Rule.Slice.PartMut.{mid_of, post_of, put_mid, same_len_mid, mid_len}
use Rattle.numbers.specs.Number.{placed}
use Rattle.numbers.proofs.Placing.{placed-fits, placed-none, placed_one}
use Rattle.rules.specs.Rules.{verdict}
use Rattle.list.specs.List.{list_refusal}
use Rattle.feed.specs.Calls.{Bytes, record_after, all_told, all_bytes, outcome, ruled, asked, Along}
use Rattle.feed.specs.Fed.{Answers}
use Rattle.feed.specs.Made.{Made, made, calls_of, AsDefined}
use Rattle.feed.specs.declared.Fed.{Fed}
use Rattle.feed.specs.declared.Opened.{Opened}
use Rattle.feed.specs.Opening.{Opens}
use Rattle.feed.specs.Demands.{open_told}
use Rattle.feed.proofs.Runs.{bytes_take}
use Rattle.feed.proofs.Feeds.{each-feed}
use Rattle.feed.proofs.Calls.{along-more, pieces_more, after_more, eaten-more, told_more}
use Rattle.feed.proofs.Made.{as-defined, pieces-calls}
use Rattle.list_flow.specs.Flow.{frontier_of, offset_of}
use Rattle.list_flow.specs.Opening.{open_flow}
use Rattle.list_feed.specs.Plain.{plain}
use Rattle.list.specs.Automaton.{start}
use Rattle.feed.specs.Engine.{Outcome, run}
use Rattle.table.specs.Table.{Table, table_refusal}
use Rattle.matrix.specs.Matrix.{filled, Fills}
use Rattle.matrix.proofs.Exact.{filled-left}
use Rattle.index_fill.specs.Filled.{filled_index, FillsIndex}
use Rattle.index_fill.proofs.Made.{filled-checked}
use Rattle.laws.specs.declared.Kind.{Kind}
use Rattle.laws.specs.declared.Kind.TheVariants.{Plain, Split, Matrix, Prepared}
use Rattle.laws.specs.Calls.{Via, Checked, Call, way_of}
use Rattle.laws.specs.Demands.{Swaps, Swapped, Due}
use Rattle.laws.specs.Drivers.{via_by, call_of, piece_of, does, nearest, Plan, planned, Turn, Meant, AsMeant, answer, answers, Came, Driven}
use Rattle.laws.proofs.Demand1.{demand-1}
use Rattle.laws.proofs.Swapping.{swapped}

-- what opening tells fits the words
pub open-fits : (L R out : List ℕ) (f : Opened) (vs sv : List ℕ) → Opens (open_flow L R out) f vs sv → 2 * f.pairs ≤ length vs
open-fits L R out f vs sv o = let d = demand-1.opens L R out in rw (o.pairs, o.words) (omega (arith, d.pairs-fit, d.words-many))

-- ---- one feed more

-- the planned call, by equal numbers
pub planned-so : (L : List ℕ) (b : ℕ) (T : Table) (X Y : List ℕ) (kinds : List Kind) (starts cuts rooms stream : List ℕ) (room k n w : ℕ) (kind : Kind) (start cut most e v : ℕ) (out : List ℕ)
    → kind ≡ get_or kinds k Plain → start ≡ get_or starts k 0 → e ≡ nearest n cut (length stream) → cut ≡ get_or cuts k 0 → v ≡ nearest w most room → most ≡ get_or rooms k 0
    → length out ≡ v - w → Meant L (planned b T X Y kinds starts cuts rooms stream room) k n w (call_of L (via_by b T X Y kind) start (take (e - n) (drop n stream)) out)
planned-so L b T X Y kinds starts cuts rooms stream room k n w kind start cut most e v out hk hs he hc hv hm ho =
    record {
      list = refl;
      via = ap (via_by b T X Y) hk;
      at = hs;
      piece = ap (λ (j : ℕ). take (j - n) (drop n stream)) (he ∙ ap (λ (j : ℕ). nearest n j (length stream)) hc);
      room = ho ∙ ap (λ (j : ℕ). j - w) (hv ∙ ap (λ (j : ℕ). nearest w j room) hm);
    }

-- four numbers written one after the other
pub four-placed : (ns : List ℕ) (at a b c d : ℕ) → at + 4 ≤ length ns → set (set (set (set ns at a) (at + 1) b) (at + 2) c) (at + 3) d ≡ placed ns at (a ∷ b ∷ c ∷ d ∷ [])
four-placed ns at a b c d h =
    let z : at + 0 ≡ at = omega arith in
    let e₁ : set ns at a ≡ placed ns at (a ∷ []) = ap (λ (xs : List ℕ). set xs at a) (placed-none ns at (omega arith)) ∙ rw z at (placed_one ns at [] a (omega arith)) in
    ap (λ (xs : List ℕ). set (set (set xs (at + 1) b) (at + 2) c) (at + 3) d) e₁
    ∙ ap (λ (xs : List ℕ). set (set xs (at + 2) c) (at + 3) d) (placed_one ns at (a ∷ []) b (omega arith))
    ∙ ap (λ (xs : List ℕ). set xs (at + 3) d) (placed_one ns at (a ∷ b ∷ []) c (omega arith))
    ∙ placed_one ns at (a ∷ b ∷ c ∷ []) d (omega arith)

-- what is noted behind the notes so far
noted_more : (notes : List ℕ) (i : ℕ) (f : Fed) (left : List ℕ) → 4 * i + 4 ≤ length notes → left ≡ placed notes (4 * i) (answer f)
    → take (4 * (i + 1)) left ≡ take (4 * i) notes ++ answer f
noted_more notes i f left h e =
    let l : length (take (4 * i) notes ++ answer f) ≡ 4 * (i + 1) = length-append (take (4 * i) notes) (answer f) ∙ omega (arith, length-take-le (4 * i) notes (omega arith)) in
    ap (take (4 * (i + 1))) (e ∙ placed-fits notes (4 * i) (answer f) (omega arith)) ∙ take_at (take (4 * i) notes ++ answer f) (drop (4 * i + length (answer f)) notes) (4 * (i + 1)) l

module _ (L : List ℕ) (P : Plan) where
  pub came-none : (B : List ℕ) (w : ℕ) (out notes : List ℕ) → Came L P 0 B w (take w out) 0 w out notes B
  unfolding record_after all_told all_bytes
  came-none B w out notes =
      record { feeds = []; as_many = refl; meant = (refl, refl); in_bytes = tt; promised = tt; noted = refl; eaten = refl; told = append-nil (take w out); left = refl }

  -- the same number of feeds
  pub ended : (i many : ℕ) (B : List ℕ) (w₀ : ℕ) (front : List ℕ) (n w : ℕ) (ws notes Q : List ℕ) → i ≡ many → Came L P i B w₀ front n w ws notes Q → Came L P many B w₀ front n w ws notes Q
  ended i many B w₀ front n w ws notes Q e c = rw e at c

  meant-more : (k n w : ℕ) (ms : List (Made Call)) (e v : ℕ) (m : Made Call) → AsMeant L P k n w ms e v → Meant L P (k + length ms) e v m.call
      → AsMeant L P k n w (ms ++ (m ∷ [])) (e + m.fed.bytes) (v + 2 * m.fed.pairs)
  meant-more k n w [] e v m h s = let z : k + 0 ≡ k = omega arith in (rw (h.0, h.1) (rw z at s), (rw h.0, rw h.1))
  meant-more k n w (j ∷ ms) e v m h s = (h.0, meant-more (suc k) (n + j.fed.bytes) (w + 2 * j.fed.pairs) ms e v m h.1 (rw (next k (length ms)) s))
    where
      next : (a b : ℕ) → suc a + b ≡ a + suc b
      next a b = omega arith

  answers-more : (ms : List (Made Call)) (m : Made Call) → answers (ms ++ (m ∷ [])) ≡ answers ms ++ answer m.fed
  answers-more [] m = append-nil (answer m.fed)
  answers-more (k ∷ ms) m = ap (λ (ns : List ℕ). answer k.fed ++ ns) (answers-more ms m) ∙ sym (append_assoc (answer k.fed) (answers ms) (answer m.fed))

  pub came-more : (B : List ℕ) (w₀ : ℕ) (front : List ℕ) (i n e : ℕ) (out : List ℕ) (w v : ℕ) (R : List ℕ) (via : Via) (at : ℕ) (f : Fed) (words Q notes left : List ℕ)
      → Came L P i B w₀ front n w out notes R → Meant L P i n w (call_of L via at (take (e - n) (drop n P.stream)) (take (v - w) (drop w out)))
      → Turn L via at R P.stream n e out w v f words Q → 4 * i + 4 ≤ length notes → left ≡ placed notes (4 * i) (answer f)
      → Came L P (i + 1) B w₀ front (n + f.bytes) (w + 2 * f.pairs) words left Q
  came-more B w₀ front i n e out w v R via at f words Q notes left c d t h p =
      let m : Made Call = record { call = call_of L via at (take (e - n) (drop n P.stream)) (take (v - w) (drop w out)); fed = f; words = t.left; saved = Q } in
      let ms = c.feeds in
      let ask = made piece_of in
      record {
        feeds = ms ++ (m ∷ []);
        as_many = rw length-append (omega (arith, c.as_many));
        meant = meant-more 0 0 w₀ ms n w m c.meant (rw (zero-add (length ms), c.as_many) d);
        in_bytes = pieces_more ask m ms c.in_bytes t.in_bytes;
        promised = along-more ask m _ B ms c.promised (rw c.left t.answers);
        noted = answers-more ms m ∙ ap (λ (ns : List ℕ). ns ++ answer f) c.noted ∙ sym (noted_more notes i f left h p);
        eaten = eaten-more ask m B ms ∙ ap (λ (bs : List ℕ). bs ++ take f.bytes m.call.piece) c.eaten ∙ sym t.eats;
        told =
            ap (λ (ws : List ℕ). front ++ ws) (told_more ask m B ms)
            ∙ sym (append_assoc front (all_told (made piece_of) B ms) (take (2 * f.pairs) t.left))
            ∙ ap (λ (ws : List ℕ). ws ++ take (2 * f.pairs) t.left) c.told ∙ sym t.tells;
        left = after_more ask m B ms;
      }

-- ---- a feed of parts of the stream and of the words is such a turn

bytes_most : (R : List ℕ) (c : Call) → (outcome way_of R c).bytes ≤ length c.piece
bytes_most R c =
    let f = each-feed (way_of c.by) R c.at c.piece c.out in
    elim (ℕ_discrete (verdict (ruled way_of R c)) 0) [ yes v ↦ (f.longest v).front | no n ↦ omega (arith, ap (λ (o : Outcome). o.bytes) (f.refused n).1) ]

pub turned : (L : List ℕ) (via : Via) (at : ℕ) (R stream : List ℕ) (n e : ℕ) (out : List ℕ) (w v : ℕ) (f : Fed) (ys Q : List ℕ)
    → e ≤ length stream → w ≤ v → v ≤ length out → n ≤ e → Bytes stream → length ys ≡ length (mid_of w (v - w) out)
    → Answers (outcome way_of R (call_of L via at (mid_of n (e - n) stream) (mid_of w (v - w) out))) f ys Q
    → Turn L via at R stream n e out w v f (put_mid w (v - w) out ys) Q
turned L via at R stream n e out w v f ys Q he hw hv hn hb hl a =
    let c = call_of L via at (mid_of n (e - n) stream) (mid_of w (v - w) out) in
    let few : f.bytes ≤ e - n = omega (arith, a.bytes, bytes_most R c, mid_len n e stream he) in
    let fit : 2 * f.pairs ≤ length ys = omega (arith, a.pairs, (each-feed (way_of (record { list = L; via = via })) R at c.piece c.out).pairs-fit, hl) in
    let long : length ys ≡ v - w = hl ∙ mid_len w v out hv in
    let before : length (take w out) ≡ w = length-take-le w out (omega (arith, hw, hv)) in
    record {
      left = ys;
      room = mid_len w v out hv;
      answers = a;
      in_bytes = bytes_take (e - n) (drop n stream) (λ i. rw (get_or-drop n stream i 0) (hb (n + i)));
      eats = take-add n f.bytes stream ∙ ap (λ (bs : List ℕ). take n stream ++ bs) (sym (take-take f.bytes (e - n) (drop n stream) few));
      tells =
          rw before at (take-append-add (take w out) (ys ++ post_of w (v - w) out) (2 * f.pairs))
          ∙ ap (λ (ws : List ℕ). take w out ++ ws) (take-append-le (2 * f.pairs) ys (post_of w (v - w) out) fit);
      short = omega (arith, few, he, hn);
      fits = rw (same_len_mid w (v - w) out ys hl) (omega (arith, fit, long, hw, hv));
    }

-- ---- the demands of what came

due-as : (L bs cs ws vs : List ℕ) → bs ≡ cs → ws ≡ vs → Due L bs ws → Due L cs vs
due-as L bs cs ws vs p q h = rw (p, q) at h

-- by the list, an accepted table, and what the fillers wrote: of whatever kind a feed is, what it goes by is checked
pub checked-by : (L : List ℕ) (b : ℕ) (T : Table) (X Y : List ℕ) → table_refusal L b T ≡ 0 → X ≡ filled L → Y ≡ filled_index L T → Bytes T.splits → (k : Kind) → Checked L (via_by b T X Y k)
checked-by L b T X Y ok x y h Plain = tt
checked-by L b T X Y ok x y h Split = ok
checked-by L b T X Y ok x y h Matrix = x
checked-by L b T X Y ok x y h (Prepared split) = rw y (filled-checked L b T ok h split)

-- so the calls change between what is checked
meant-swaps : (L : List ℕ) (P : Plan) → ((i : ℕ) → Checked L (P.via i)) → (R : List ℕ) (k n w : ℕ) (ms : List (Made Call)) (e v : ℕ) → AsMeant L P k n w ms e v → Along (asked way_of) (Swaps L) R (calls_of ms)
meant-swaps L P ok R k n w [] e v h = tt
meant-swaps L P ok R k n w (m ∷ ms) e v h =
    (λ z. (h.0.list, rw h.0.via (ok k)), meant-swaps L P ok (outcome way_of R m.call).saved (suc k) (n + m.fed.bytes) (w + 2 * m.fed.pairs) ms e v h.1)

module _ (L : List ℕ) (b : ℕ) (T : Table) (R out X₀ X Y₀ Y : List ℕ) (kinds : List Kind) (starts cuts rooms stream : List ℕ) (many listed checked written indexed : ℕ) (f : Opened) (vs B : List ℕ) (n w : ℕ) (ws notes Q : List ℕ)
    (lists : listed ≡ list_refusal L) (tables : checked ≡ table_refusal L b T) (matrices : Fills L X₀ written X) (indexes : FillsIndex L b T Y₀ indexed Y)
    (opens : Opens (open_flow L R out) f vs B) (bytes : Bytes T.splits)
    (came : Came L (planned b T X Y kinds starts cuts rooms stream (length vs)) many B (2 * f.pairs) (take (2 * f.pairs) vs) n w ws notes Q) where
  abbrev plan : Plan
  plan = planned b T X Y kinds starts cuts rooms stream (length out)

  -- on the record and behind the words that opening leaves by its definition
  came-so : Came L plan many (open_flow L R out).saved (2 * (open_flow L R out).pairs) (open_told (open_flow L R out)) n w ws notes Q
  came-so = rw (opens.saved, opens.pairs, opens.words, (demand-1.opens L R out).words-many) at came

  swaps : f.refusal ≡ 0 → checked ≡ 0 → written ≡ 0 → indexed ≡ 0 → Swapped L (open_flow L R out) (calls_of came-so.feeds)
  swaps z y x u =
      swapped L R out (sym opens.refusal ∙ z) (calls_of came-so.feeds) (pieces-calls piece_of does came-so.feeds came-so.in_bytes)
      (meant-swaps L plan (λ i. checked-by L b T X Y (sym tables ∙ y) (filled-left L X₀ written X matrices x) (demand-1.indexes-passes L b T Y₀ indexed Y indexes u).1 bytes (get_or kinds i Plain))
      (open_flow L R out).saved 0 0 (2 * (open_flow L R out).pairs) came-so.feeds n w came-so.meant)

  eaten : AsDefined piece_of does (open_flow L R out).saved came-so.feeds → all_bytes (asked way_of) (open_flow L R out).saved (calls_of came-so.feeds) ≡ take n stream
  eaten a = sym a.bytes ∙ came-so.eaten

  pub driven : Driven L b T R out X₀ X Y₀ Y kinds starts cuts rooms stream many listed checked written indexed f n w ws notes Q
  driven =
      let c = came-so in
      let a = as-defined piece_of does (open_flow L R out).saved c.feeds c.promised in
      record {
        lists = lists;
        tables = tables;
        matrices = matrices;
        indexes = indexes;
        opens = (opens.refusal, opens.pairs);
        came = came-so;
        due = λ z y x u. due-as L _ _ _ _ (eaten a) (ap (λ (vs : List ℕ). open_told (open_flow L R out) ++ vs) (sym a.words) ∙ c.told) (swaps z y x u).flows.due;
        frontier = λ z y x u. ap frontier_of (sym c.left ∙ a.left) ∙ (swaps z y x u).flows.config ∙ ap (run (plain L) (start L)) (eaten a);
        offset = λ z y x u. ap offset_of (sym c.left ∙ a.left) ∙ (swaps z y x u).flows.offset ∙ ap (λ (xs : List ℕ). length xs) (eaten a);
        swapped = swaps;
      }
