-- Any calls on one flow, each of which does what a feed by G does, at costs of its own: what they tell, where the flow stands after them, and the rows they read. Assumes nothing.
use Prim.Native.Nat.{ℕ, suc, ◌+◌, ◌*◌, ◌/◌, ◌≤◌, ◌<◌}
use mathlib.Core.Path.{◌≡◌, refl, sym, ap, ◌∙◌}
use mathlib.Core.Bool.{false}
use mathlib.Core.List.{List, [], ◌∷◌}
use native.Mathlib.Omega.{arith}
use native.Mathlib.Nat.{mul-add}
use native.Mathlib.Decide.{ℕ_discrete}
use lib.ListN.{length, take, drop, length-append}
use lib.Seq.{take_at}
use Rattle.sets.specs.Set.{signatures, members}
use Rattle.rules.specs.Rules.{Rule, verdict}
use Rattle.feed.specs.Engine.{Engine, Layout, Outcome, room, refused, ended, feed, due, run, costs, pairs_at, told, amount, consumed, most_offset}
use Rattle.feed.specs.Calls.{Bytes, Asked, asking, record_after, all_told, all_bytes, Along, Pieces, Follows, costing}
use Rattle.feed.specs.Demands.{Answered, open_told, Runs, Counts, Flowed, Alike}
use Rattle.feed.specs.Opening.{Opening}
use Rattle.feed.proofs.Runs.{run-append, costs-append, told-append, told-length, bytes_take, take-front, length-take-most, costs-most}
use Rattle.feed.proofs.Due.{told-exactly, told-ordered}
use Rattle.feed.proofs.Going.{unfed}
use Rattle.feed.proofs.Moves.{feed-ends, rules-alone}
use Rattle.feed.proofs.Alike.{answered}
use Rattle.feed.proofs.Calls.{all-bytes}
use Rattle.feed.proofs.Opening.{due_all}

-- ---- one feed

-- its rules refuse it, or a front of its piece is consumed
pub by-feed : {C : Type 0} (rules : List Rule) (E : Engine C) (K : Layout C) (R piece out : List ℕ) (Q : Outcome → Type 0)
    → (verdict rules ≡ 0 → (n : ℕ) → Q (ended E K R (take n piece) (length piece) out)) → ((verdict rules ≡ 0 → ⊥) → Q (refused (verdict rules) R out))
    → Q (feed rules E K R piece out)
by-feed rules E K R piece out Q f g =
    elim (ℕ_discrete (verdict rules) 0) [
      | yes v ↦ rw (feed-ends E K R rules piece out v) (f v (consumed E (K.config R) (room out) piece))
      | no n ↦ rw (unfed E K R piece out rules n) (g n)
    ]

-- it looks at its rules' verdict alone
pub feed-ruled : {C : Type 0} (rules others : List Rule) (E : Engine C) (K : Layout C) (R piece out : List ℕ) → verdict rules ≡ verdict others
    → feed rules E K R piece out ≡ feed others E K R piece out
unfolding feed
feed-ruled rules others E K R piece out e = rw e

-- what each move keeps, all keep
pub run-good : {D : Type 0} (G : Engine D) (Good : D → Type 0) → ((x : D) (c : ℕ) → c < 256 → Good x → Good (G.next x c)) → (x : D) (cs : List ℕ) → Bytes cs → Good x → Good (run G x cs)
unfolding run
run-good G Good stays x [] h g = g
run-good G Good stays x (c ∷ cs) h g = run-good G Good stays (G.next x c) cs (λ i. h (suc i)) (stays x c (h 0) g)

-- other costs: the same moves and pairs
module _ {D : Type 0} (G : Engine D) (cost : D → ℕ) where
  pub run-costing : (x : D) (cs : List ℕ) → run (costing G cost) x cs ≡ run G x cs
  unfolding run
  run-costing x [] = refl
  run-costing x (c ∷ cs) = run-costing (G.next x c) cs

  pub told-costing : (x : D) (k : ℕ) (cs : List ℕ) → told (costing G cost) x k cs ≡ told G x k cs
  unfolding told due
  told-costing x k [] = refl
  told-costing x k (c ∷ cs) = rw (told-costing (G.next x c) (k + 1) cs)

  pub follows-costing : Follows (costing G cost) G (λ x y. x ≡ y)
  follows-costing = record { same = λ x y c l e. ap (λ (z : D). G.alerts z c) e; goes = λ x y e. ap G.halts e; stays = λ x y c l e. ap (λ (z : D). G.next z c) e }

-- ---- what a layout must keep

-- what is saved of a good configuration is read again, up to the largest offset and `most` rows for each byte
pub record Sound {D : Type 0} (K : Layout D) (Good : D → Type 0) (most : ℕ) : Type 0 where
  pub reads : (x : D) (k n : ℕ) → Good x → k ≤ most_offset → n ≤ most * k
      → (K.config (K.save x k n) ≡ x) × (K.offset (K.save x k n) ≡ k) × (K.rows (K.save x k n) ≡ n)

-- R is what is saved of what is read of it
abbrev pub Written : {D : Type 0} → Layout D → List ℕ → Type 0
Written K R = K.save (K.config R) (K.offset R) (K.rows R) ≡ R

-- R has at most `most` rows for each byte, and an offset no larger than the largest
abbrev pub Within : {D : Type 0} → Layout D → ℕ → List ℕ → Type 0
Within K most R = (K.rows R ≤ most * K.offset R) × (K.offset R ≤ most_offset)

-- ---- calls that do what an engine G does: of a kind of calls, the rules of each on a record, and what it counts for a byte; and the configurations that are good: G keeps them, and so does the layout

pub record Kind (A D : Type 0) : Type 1 where
  pub piece : A → List ℕ
  pub out : A → List ℕ
  pub does : A → List ℕ → Outcome
  pub layout : Layout D
  pub engine : Engine D
  pub Good : D → Type 0
  pub most : ℕ
  pub rules : List ℕ → A → List Rule
  pub cost : A → D → ℕ
  pub sound : Sound layout Good most
  pub stays : (x : D) (c : ℕ) → c < 256 → Good x → Good (engine.next x c)

module _ {A D : Type 0} (X : Kind A D) where
  abbrev piece : A → List ℕ
  piece = X.piece

  abbrev out : A → List ℕ
  out = X.out

  abbrev does : A → List ℕ → Outcome
  does = X.does

  abbrev ask : A → Asked (List ℕ)
  ask c = asking (X.piece c) (X.does c)

  abbrev K : Layout D
  K = X.layout

  abbrev G : Engine D
  G = X.engine

  abbrev Good : D → Type 0
  Good = X.Good

  abbrev most : ℕ
  most = X.most

  abbrev rules : List ℕ → A → List Rule
  rules = X.rules

  abbrev cost : A → D → ℕ
  cost = X.cost

  -- on the record R the call c is a feed by G; one that no rule refuses is cheap, the record's rows are few, and the piece ends at an offset
  pub record Acts (R : List ℕ) (c : A) : Type 0 where
    pub is : does c R ≡ feed (rules R c) (costing G (cost c)) K R (piece c) (out c)
    pub cheap : verdict (rules R c) ≡ 0 → (x : D) → Good x → cost c x ≤ most
    pub rows_few : verdict (rules R c) ≡ 0 → K.rows R ≤ most * K.offset R
    pub short : verdict (rules R c) ≡ 0 → K.offset R + length (piece c) ≤ most_offset

  -- what it meets
  pub record Met (R : List ℕ) (c : A) : Type 0 where
    pub good : Good (K.config R)
    pub bytes : Bytes (piece c)
    pub acts : Acts R c

  -- what it leaves
  record Done (R : List ℕ) (c : A) (o : Outcome) : Type 0 where
    tells : take (2 * o.pairs) o.words ≡ told G (K.config R) (K.offset R) (take o.bytes (piece c))
    config : K.config o.saved ≡ run G (K.config R) (take o.bytes (piece c))
    moved : K.offset o.saved ≡ K.offset R + length (take o.bytes (piece c))
    rows : K.rows o.saved ≡ K.rows R + costs (costing G (cost c)) (K.config R) (take o.bytes (piece c))
    again : Written K R → Written K o.saved
    within : Within K most R → Within K most o.saved

  module _ where
    ended-done : (R : List ℕ) (c : A) (n : ℕ) → Met R c → verdict (rules R c) ≡ 0 → Done R c (ended (costing G (cost c)) K R (take n (piece c)) (length (piece c)) (out c))
    unfolding ended
    ended-done R c n m v =
        let E = costing G (cost c) in
        let x = K.config R in
        let front = take n (piece c) in
        let hb : Bytes front = bytes_take n (piece c) m.bytes in
        let ws = told E x (K.offset R) front in
        let len : length ws ≡ 2 * amount E x front = told-length E x (K.offset R) front in
        let half : length ws ≡ 2 * (length ws / 2) = omega arith in
        let hk : K.offset R + length front ≤ most_offset = omega (arith, length-take-most n (piece c), m.acts.short v) in
        let hn : K.rows R + costs E x front ≤ most * (K.offset R + length front) =
        rw mul-add (omega (arith, m.acts.rows_few v, costs-most E Good X.stays most (m.acts.cheap v) x front m.good hb)) in
        let e : run E x front ≡ run G x front = run-costing G (cost c) x front in
        let q = X.sound.reads (run E x front) (K.offset R + length front) (K.rows R + costs E x front) (rw e (run-good G Good X.stays x front hb m.good)) hk hn in
        record {
          tells = rw (take-front n (piece c)) (take_at ws (drop (length ws) (out c)) (2 * (length ws / 2)) half ∙ told-costing G (cost c) x (K.offset R) front);
          config = rw (take-front n (piece c)) (q.0 ∙ e);
          moved = rw (take-front n (piece c)) q.1;
          rows = rw (take-front n (piece c)) q.2;
          again = λ w. rw (q.0, q.1, q.2);
          within = λ w. rw (q.1, q.2) (hn, hk);
        }

    refused-done : (R : List ℕ) (c : A) (n : ℕ) → Done R c (refused n R (out c))
    unfolding run told costs
    refused-done R c n = record { tells = refl; config = refl; moved = omega arith; rows = omega arith; again = λ w. w; within = λ w. w }

    call-done : (R : List ℕ) (c : A) → Met R c → Done R c (does c R)
    call-done R c m =
        rw m.acts.is
        (by-feed (rules R c) (costing G (cost c)) K R (piece c) (out c) (Done R c) (λ v n. ended-done R c n m v) (λ v. refused-done R c (verdict (rules R c))))

    -- ---- of one call

    -- the rows that it adds
    pub call_rows : (R : List ℕ) (c : A) → Met R c → K.rows (does c R).saved ≡ K.rows R + costs (costing G (cost c)) (K.config R) ((ask c).eaten R)
    call_rows R c m = (call-done R c m).rows

    -- it answers what a feed by G does, where the rules give the same
    pub call-answered : (R : List ℕ) (c : A) → Met R c → (others : List Rule) → verdict (rules R c) ≡ verdict others
        → Answered (does c R) (feed others G K R (piece c) (out c))
    call-answered R c m others e = rw m.acts.is (answered (costing G (cost c)) G (λ x y. x ≡ y) (follows-costing G (cost c)) K K R R refl refl (piece c) (out c) m.bytes (rules R c) others e)

    -- where G never halts, its refusal is that of its rules
    pub call-refusal : ((x : D) → G.halts x ≡ false) → (R : List ℕ) (c : A) → Met R c → (does c R).refusal ≡ verdict (rules R c)
    call-refusal f R c m = ap (λ (o : Outcome). o.refusal) m.acts.is ∙ rules-alone (costing G (cost c)) K R (rules R c) (piece c) (out c) f

    -- one that is refused by its rules consumes nothing
    pub none-eaten : (R : List ℕ) (c : A) → Met R c → (verdict (rules R c) ≡ 0 → ⊥) → (ask c).eaten R ≡ []
    none-eaten R c m n = rw (m.acts.is, unfed (costing G (cost c)) K R (piece c) (out c) (rules R c) n)

    -- ---- of calls in a row

    -- what each meets, from a record with a good configuration on
    pub met : (R : List ℕ) (cs : List A) → Along ask (λ R c. Bytes (piece c) → Good (K.config R) → Acts R c) R cs → Pieces ask cs → Good (K.config R) → Along ask Met R cs
    met R [] f h g = tt
    met R (c ∷ cs) f h g =
        let m : Met R c = record { good = g; bytes = h.0; acts = f.0 h.0 g } in (
          m,
          met (does c R).saved cs f.1 h.1 (rw (call-done R c m).config (run-good G Good X.stays (K.config R) ((ask c).eaten R) (bytes_take (does c R).bytes (piece c) h.0) g)),
        )

    -- and where it is written and within, from one that is
    pub met-within : (R : List ℕ) (cs : List A) → Along ask Met R cs → Written K R → Within K most R → Along ask (λ R c. Written K R × Within K most R) R cs
    met-within R [] m w q = tt
    met-within R (c ∷ cs) m w q =
        let d = call-done R c m.0 in ((w, q), met-within (does c R).saved cs m.1 (d.again w) (d.within q))

    -- what is told, and where the flow stands
    record All (R : List ℕ) (cs : List A) : Type 0 where
      tells : all_told ask R cs ≡ told G (K.config R) (K.offset R) (all_bytes ask R cs)
      config : K.config (record_after ask R cs) ≡ run G (K.config R) (all_bytes ask R cs)
      moved : K.offset (record_after ask R cs) ≡ K.offset R + length (all_bytes ask R cs)
      again : Written K R → Written K (record_after ask R cs)

    whole : (R : List ℕ) (cs : List A) → Along ask Met R cs → All R cs
    unfolding record_after all_told all_bytes run told
    whole R [] m = record { tells = refl; config = refl; moved = omega arith; again = λ w. w }
    whole R (c ∷ cs) m =
        let d = call-done R c m.0 in
        let front = (ask c).eaten R in
        let bs = all_bytes ask (does c R).saved cs in
        let ih = whole (does c R).saved cs m.1 in
        record {
          tells = rw (d.tells, ih.tells, d.moved, d.config) (sym (told-append G (K.config R) (K.offset R) front bs));
          config = rw (run-append G (K.config R) front bs, ← d.config) ih.config;
          moved = rw (ih.moved, d.moved, length-append) (omega arith);
          again = λ w. ih.again (d.again w);
        }

    pub runs : (R : List ℕ) (cs : List A) → Along ask Met R cs → Runs ask K G R cs
    runs R cs m =
        let w = whole R cs m in
        record {
          tells = w.tells;
          due = λ g k. rw w.tells (told-exactly G (K.config R) (K.offset R) (all_bytes ask R cs) g k);
          ordered = rw w.tells (told-ordered G (K.config R) (K.offset R) (all_bytes ask R cs));
          config = w.config;
          offset = w.moved;
        }

    -- from an opening on: it told the pairs of `first` at offset 0, and left a record at offset 0 with the configuration x
    pub flowed : (x : D) (first : ℕ) (o : Opening) (cs : List A) → open_told o ≡ pairs_at 0 (members signatures first) → K.config o.saved ≡ x → K.offset o.saved ≡ 0
        → Along ask Met o.saved cs → Flowed ask K G x first o cs
    flowed x first o cs t e k m =
        let w = whole o.saved cs m in
        let bs = all_bytes ask o.saved cs in
        record {
          due = rw t (due_all G x first bs _ (w.tells ∙ rw (e, k)));
          config = w.config ∙ ap (λ (y : D). run G y bs) e;
          offset = w.moved ∙ rw k (omega arith);
        }

    -- where all that pass count alike, the rows in all
    pub counts : (h : D → ℕ) (R : List ℕ) (cs : List A) → Along ask Met R cs → Along ask (λ R c. verdict (rules R c) ≡ 0 → cost c ≡ h) R cs → Counts ask K (costing G h) R cs
    unfolding record_after all_bytes costs
    counts h R [] m same = omega arith
    counts h R (c ∷ cs) m same =
        let d = call-done R c m.0 in
        let front = (ask c).eaten R in
        let bs = all_bytes ask (does c R).saved cs in
        let here : costs (costing G (cost c)) (K.config R) ((ask c).eaten R) ≡ costs (costing G h) (K.config R) ((ask c).eaten R) =
        elim (ℕ_discrete (verdict (rules R c)) 0) [
          | yes v ↦ ap (λ (k : D → ℕ). costs (costing G k) (K.config R) ((ask c).eaten R)) (same.0 v)
          | no n ↦ rw (none-eaten R c m.0 n)
        ] in
        rw (counts h (does c R).saved cs m.1 same.1, d.rows, here, d.config, costs-append (costing G h) (K.config R) front bs, run-costing G h (K.config R) front)
        (omega arith)

    -- then the bytes consumed fix the record after them
    pub closed : (h : D → ℕ) (R : List ℕ) (cs : List A) → Along ask Met R cs → Along ask (λ R c. verdict (rules R c) ≡ 0 → cost c ≡ h) R cs → Written K R
        → record_after ask R cs
        ≡ K.save (run G (K.config R) (all_bytes ask R cs)) (K.offset R + length (all_bytes ask R cs)) (K.rows R + costs (costing G h) (K.config R) (all_bytes ask R cs))
    closed h R cs m same w =
        let a = whole R cs m in
        sym (a.again w) ∙ rw (a.config, a.moved, counts h R cs m same)

    pub cuts : (h : D → ℕ) (R : List ℕ) (cs ds : List A) → Written K R → Along ask Met R cs → Along ask (λ R c. verdict (rules R c) ≡ 0 → cost c ≡ h) R cs
        → Along ask Met R ds → Along ask (λ R c. verdict (rules R c) ≡ 0 → cost c ≡ h) R ds → all_bytes ask R cs ≡ all_bytes ask R ds → Alike ask ask R cs ds
    cuts h R cs ds w m same n alike e =
        record {
          words = rw ((whole R cs m).tells, (whole R ds n).tells, e);
          record-after = rw (closed h R cs m same w, closed h R ds n alike w, e);
        }

-- calls of feeds whose pieces are bytes consume bytes
pub all-fed : {A : Type 0} (piece : A → List ℕ) (does : A → List ℕ → Outcome) (R : List ℕ) (cs : List A) → Pieces (λ c. asking (piece c) (does c)) cs
    → Bytes (all_bytes (λ c. asking (piece c) (does c)) R cs)
all-fed {A} piece does R cs h = all-bytes (λ (c : A). asking (piece c) (does c)) R cs (each R cs h)
  where
    each : (R : List ℕ) (cs : List A) → Pieces (λ c. asking (piece c) (does c)) cs → Along (λ c. asking (piece c) (does c)) (λ R c. Bytes (take (does c R).bytes (piece c))) R cs
    each R [] h = tt
    each R (c ∷ cs) h = (bytes_take (does c R).bytes (piece c) h.0, each (does c R).saved cs h.1)
