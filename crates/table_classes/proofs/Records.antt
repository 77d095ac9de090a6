-- The steps from one state, record by record: a record alone is a list of one, and a list's step is the union of its records'. Assumes nothing.
use Prim.Native.Nat.{ℕ, suc, ◌+◌, ◌*◌, ◌/◌, ◌^◌, ◌≤◌, ◌<◌}
use mathlib.Core.Path.{◌≡◌, refl, sym, ap, ap₂, ◌∙◌}
use mathlib.Core.Bool.{Bool, true, false, cond, not, ◌&&◌, ◌||◌, true≢false, false≢true}
use mathlib.Core.Logic.{◌⊎◌, inl}
use mathlib.Core.List.{List}
use native.Mathlib.Omega.{arith}
use native.Mathlib.Numerals.{add-one}
use native.Mathlib.Decide.{ℕ_discrete, dec_lt}
use native.Mathlib.Nat.{lt_of_not-le}
use lib.ListN.{length, get_or, take, drop, length-drop}
use lib.Seq.{get_or-take, get_or-drop, length-take-le}
use lib.Dec.{lit<, eqb, ltb}
use lib.Bits.{or_lt}
use borrow.Author.Tests.{eq-eqb, eqb-true}
use Rattle.sets.specs.Set.{states, set_size, holds, join, insert}
use Rattle.sets.proofs.Sets.{or-false, holds-join, holds-insert, set-ext, insert-join, join-comm, join-assoc, join-empty}
use Rattle.rules.specs.Scan.{gather}
use Rattle.list.specs.List.{record_size, records, byte_of, word_of, is_edge, low, high, from, target}
use Rattle.list.proofs.Steps.{edge-exactly}
use Rattle.list.specs.Words.{Takes}
use Rattle.list.specs.Automaton.{edge, leaves, step}
use Rattle.rules.proofs.Scanning.{and-false, choose, both, some-intro, gather-holds}
use Rattle.table.specs.Table.{byte_values, part}
use Rattle.table_classes.specs.inner.Loops.{SetsAre, wide}
use Rattle.table_classes.proofs.Fronts.{put, put-length, put_same, put_other}

-- ---- the first n records

abbrev pub step_to : List ℕ → ℕ → ℕ → ℕ → ℕ
step_to L F n c = gather states (leaves L F (edge L c)) (target L) n

pub step-none : (L : List ℕ) (F c : ℕ) → step_to L F 0 c ≡ 0
unfolding gather
step-none L F c = refl

pub step-to-all : (L : List ℕ) (F n c : ℕ) → n ≡ records L → step_to L F n c ≡ step L F c
unfolding step
step-to-all L F n c e = rw e

-- record i as a list of its own
abbrev pub alone : List ℕ → ℕ → List ℕ
alone L i = take record_size (drop (record_size * i) L)

module _ (L : List ℕ) (i : ℕ) (h : i < records L) where
  byte-alone : (k : ℕ) → k < record_size → byte_of (alone L i) 0 k ≡ byte_of L i k
  byte-alone k l =
      let e : record_size * 0 + k ≡ k = omega arith in
      ap (λ (n : ℕ). get_or (alone L i) n 0) e ∙ get_or-take record_size (drop (record_size * i) L) k 0 l ∙ get_or-drop (record_size * i) L k 0

  word-alone : (k : ℕ) → k + 1 < record_size → word_of (alone L i) 0 k ≡ word_of L i k
  word-alone k l =
      let e : record_size * 0 + k + 1 ≡ record_size * 0 + (k + 1) = omega arith in
      let d : record_size * i + (k + 1) ≡ record_size * i + k + 1 = omega arith in
      let y : get_or (alone L i) (record_size * 0 + k + 1) 0 ≡ get_or L (record_size * i + k + 1) 0 =
      ap (λ (n : ℕ). get_or (alone L i) n 0) e ∙ byte-alone (k + 1) l ∙ ap (λ (n : ℕ). get_or L n 0) d in
      ap₂ (λ (a b : ℕ). a + 256 * b) (byte-alone k (omega arith)) y

  pub one-record : records (alone L i) ≡ 1
  one-record = ap (λ (n : ℕ). n / record_size) (length-take-le record_size (drop (record_size * i) L) (omega (arith, length-drop (record_size * i) L)))

  -- what it leads to
  step-alone : (F c : ℕ) → step (alone L i) F c ≡ cond (leaves L F (edge L c) i) (insert states 0 (target L i)) 0
  unfolding step gather
  step-alone F c =
      let m : edge (alone L i) c 0 ≡ edge L c i = rw (byte-alone 0 (lit< tt), byte-alone 1 (lit< tt), byte-alone 2 (lit< tt), byte-alone 3 (lit< tt)) in
      rw (one-record, m, word-alone 4 (lit< tt), word-alone 6 (lit< tt))

  -- the step of one record more
  pub step-more : (F c : ℕ) → join (step_to L F i c) (step (alone L i) F c) ≡ step_to L F (i + 1) c
  unfolding gather
  step-more F c = rw (add-one i, step-alone F c) (go (leaves L F (edge L c) i))
    where
      go : (b : Bool) → join (step_to L F i c) (cond b (insert states 0 (target L i)) 0) ≡ cond b (insert states (step_to L F i c) (target L i)) (step_to L F i c)
      go true = rw (insert-join states 0 (target L i), insert-join states (step_to L F i c) (target L i), join-empty)
      go false = join-comm (step_to L F i c) 0 ∙ join-empty (step_to L F i c)

  -- a record that leaves a state outside F adds nothing
  pub step_other : (F c : ℕ) → holds F (from L i) ≡ false → step_to L F (i + 1) c ≡ step_to L F i c
  unfolding gather
  step_other F c ne = rw (add-one i, ne, and-false (edge L c i))

-- a record alone that the byte does not take leads nowhere
pub step-untaken : (L : List ℕ) (F c : ℕ) → records L ≡ 1 → edge L c 0 ≡ false → step L F c ≡ 0
unfolding step gather
step-untaken L F c e n = rw (e, n)

-- a byte outside its range does not take it, where case counts
pub not_taken : (L : List ℕ) (c : ℕ) → (byte_of L 0 3 ≡ 1 → ⊥) → (c < low L 0) ⊎ (high L 0 < c) → edge L c 0 ≡ false
not_taken L c ne out = go (edge L c 0) refl
  where
    no : Takes L c 0 → (c < low L 0) ⊎ (high L 0 < c) → ⊥
    no t o =
        choose t.range
        (λ (r : (low L 0 ≤ c) × (c ≤ high L 0)). choose o (λ (l : c < low L 0). absurd (omega (arith, r.0, l))) (λ (l : high L 0 < c). absurd (omega (arith, r.1, l))))
        (λ r. absurd (ne r.0))

    go : (b : Bool) → edge L c 0 ≡ b → edge L c 0 ≡ false
    go true e = absurd (no ((edge-exactly L c 0).0 e) out)
    go false e = e

-- what a byte that does not take it has, is what it gets
pub untaken-same : (L : List ℕ) (F c x : ℕ) → records L ≡ 1 → edge L c 0 ≡ false → x ≡ join x (step L F c)
untaken-same L F c x e n = sym (ap (join x) (step-untaken L F c e n) ∙ join-comm x 0 ∙ join-empty x)

-- ---- states that every byte leads to

-- every byte takes an edge from byte 0 to byte 255
wide-edge : (L : List ℕ) (i c : ℕ) → c < byte_values → wide L i ≡ true → edge L c i ≡ true
wide-edge L i c l e =
    let a = both (is_edge L i && eqb (low L i) 0) (eqb (high L i) 255) e in
    let b = both (is_edge L i) (eqb (low L i) 0) a.0 in
    (edge-exactly L c i).1 (record {
      kind = b.0;
      range = inl (omega (arith, eqb-true (low L i) 0 b.1), omega (arith, eqb-true (high L i) 255 a.1));
    })

or-in : (a x s : Bool) → (a || s) ≡ s → (x ≡ true → s ≡ true) → ((a || x) || s) ≡ s
or-in true x true e h = refl
or-in true x false e h = absurd (true≢false e)
or-in false true true e h = refl
or-in false true false e h = absurd (false≢true (h refl))
or-in false false s e h = refl

or-drop : (a b x : Bool) → (x ≡ true → a ≡ true) → (a || (b || x)) ≡ (a || b)
or-drop true b x h = refl
or-drop false b true h = absurd (false≢true (h refl))
or-drop false b false h = or-false b

-- a state of S put into a part of S: still a part
join-keeps : (B S t : ℕ) → join B S ≡ S → (ltb t states ≡ true → holds S t ≡ true) → join (insert states B t) S ≡ S
join-keeps B S t e h =
    set-ext (join (insert states B t) S) S
    (λ s. holds-join (insert states B t) S s
    ∙ rw (holds-insert states B t s) (or-in (holds B s) (ltb t states && eqb s t) (holds S s) (sym (holds-join B S s) ∙ ap (λ (x : ℕ). holds x s) e)
    (λ q. let b = both (ltb t states) (eqb s t) q in rw (eqb-true s t b.1) (h b.0))))

-- a state that is there already
join-absorbs : (B S t : ℕ) → holds B t ≡ true → join B (insert states S t) ≡ join B S
join-absorbs B S t h =
    set-ext (join B (insert states S t)) (join B S)
    (λ s. holds-join B (insert states S t) s
    ∙ rw (holds-insert states S t s) (or-drop (holds B s) (holds S s) (ltb t states && eqb s t) (λ q. let b = both (ltb t states) (eqb s t) q in rw (eqb-true s t b.1) h))
    ∙ sym (holds-join B S s))

-- one record more that every byte takes
pub always-more : (L : List ℕ) (F B i : ℕ) → i < records L → (holds F (from L i) && wide L i) ≡ true → (c : ℕ) → c < byte_values → join B (step L F c) ≡ step L F c
    → join (insert states B (target L i)) (step L F c) ≡ step L F c
unfolding step
always-more L F B i h e c l k =
    let b = both (holds F (from L i)) (wide L i) e in
    let p : ℕ → Bool = λ j. leaves L F (edge L c) j && (ltb (target L j) states && eqb (target L i) (target L j)) in
    join-keeps B (step L F c) (target L i) k
    (λ q. gather-holds states (leaves L F (edge L c)) (target L) (records L) (target L i)
    ∙ some-intro (records L) p i h (rw (wide-edge L i c l b.1, b.0, q, eq-eqb (target L i) (target L i) refl)))

-- ---- a set for each byte

pub sets-start : (W : List ℕ) (f : ℕ → ℕ) → SetsAre W W f 0
sets-start W f = record { long = refl; sets = λ c h. absurd (omega arith); rest = λ c h. refl }

-- the first n have what they get already; and so have those from n on
pub sets-from : (W : List ℕ) (f : ℕ → ℕ) (n : ℕ) → ((c : ℕ) → c < n → part W c ≡ f c) → SetsAre W W f n
sets-from W f n h = record { long = refl; sets = h; rest = λ c l. refl }

pub sets-all : (W X : List ℕ) (f : ℕ → ℕ) (n m : ℕ) → SetsAre W X f n → ((c : ℕ) → n ≤ c → c < m → part W c ≡ f c) → ((c : ℕ) → m ≤ c → part X c ≡ part W c) → SetsAre W X f m
sets-all W X f n m g h r =
    record {
      long = g.long;
      sets = λ c l. elim (dec_lt c n) [ yes k ↦ g.sets c k | no k ↦ let z : n ≤ c = omega (arith, lt_of_not-le (λ (y : suc c ≤ n). k y)) in g.rest c z ∙ h c z l ];
      rest = r;
    }

pub sets_more : (W X : List ℕ) (f : ℕ → ℕ) (c t : ℕ) → set_size * byte_values ≤ length W → c < byte_values → SetsAre W X f c → t ≡ f c → t < 2 ^ states → SetsAre W (put X c t) f (c + 1)
sets_more W X f c t room h g e l =
    let r : set_size * c + set_size ≤ length X = omega (arith, g.long) in
    record {
      long = put-length X c t r ∙ g.long;
      sets = λ d k. elim (ℕ_discrete d c) [
        | yes q ↦ rw (q, put_same X c t r l) e
        | no q ↦ put_other X c t r d q ∙ g.sets d (omega (arith, q))
      ];
      rest = λ d k. put_other X c t r d (λ q. omega arith) ∙ g.rest d (omega arith);
    }

-- or the byte's set stays
pub sets-kept : (W X : List ℕ) (f : ℕ → ℕ) (c : ℕ) → SetsAre W X f c → part W c ≡ f c → SetsAre W X f (c + 1)
sets-kept W X f c g e =
    record {
      long = g.long;
      sets = λ d k. elim (ℕ_discrete d c) [
        | yes q ↦ rw q (g.rest c (omega arith) ∙ e)
        | no q ↦ g.sets d (omega (arith, q))
      ];
      rest = λ d k. g.rest d (omega arith);
    }

-- the loop over records, from F, over sets that begin with B
pub record Filling (L W X : List ℕ) (B F i : ℕ) : Type 0 where
  pub long : length X ≡ length W
  pub sets : (c : ℕ) → c < byte_values → part X c ≡ join B (step_to L F i c)

pub filling-start : (L W X : List ℕ) (B F : ℕ) → SetsAre W X (λ c. B) byte_values → Filling L X X B F 0
filling-start L W X B F g = record { long = refl; sets = λ c h. g.sets c h ∙ sym (ap (join B) (step-none L F c) ∙ join-comm B 0 ∙ join-empty B) }

module _ (L W X : List ℕ) (B F i : ℕ) (h : i < records L) (g : Filling L W X B F i) where
  pub filling-more : (Y : List ℕ) → SetsAre X Y (λ c. join (part X c) (step (alone L i) F c)) byte_values → Filling L W Y B F (i + 1)
  filling-more Y a =
      record {
        long = a.long ∙ g.long;
        sets = λ c l. a.sets c l ∙ ap (λ (x : ℕ). join x (step (alone L i) F c)) (g.sets c l) ∙ join-assoc B (step_to L F i c) (step (alone L i) F c) ∙ ap (join B) (step-more L i h F c);
      }

  -- a record that leads to a state of B adds nothing
  step_in : (c : ℕ) → holds B (target L i) ≡ true → join B (step_to L F (i + 1) c) ≡ join B (step_to L F i c)
  unfolding gather
  step_in c e = rw (add-one i) (go (leaves L F (edge L c) i))
    where
      go : (b : Bool) → join B (cond b (insert states (step_to L F i c) (target L i)) (step_to L F i c)) ≡ join B (step_to L F i c)
      go true = join-absorbs B (step_to L F i c) (target L i) e
      go false = refl

  skips : (c : ℕ) (p q : Bool) → holds F (from L i) ≡ p → holds B (target L i) ≡ q → (p && not q) ≡ false → join B (step_to L F (i + 1) c) ≡ join B (step_to L F i c)
  skips c false q e d z = ap (join B) (step_other L i h F c e)
  skips c true true e d z = step_in c d
  skips c true false e d z = absurd (true≢false z)

  pub filling-other : (holds F (from L i) && not (holds B (target L i))) ≡ false → Filling L W X B F (i + 1)
  filling-other ne = record { long = g.long; sets = λ c l. g.sets c l ∙ sym (skips c (holds F (from L i)) (holds B (target L i)) refl refl ne) }

pub filling-end : (L W X : List ℕ) (B F i : ℕ) → i ≡ records L → ((c : ℕ) → c < byte_values → join B (step L F c) ≡ step L F c) → Filling L W X B F i → (c : ℕ) → c < byte_values → part X c ≡ step L F c
filling-end L W X B F i e k g c l = g.sets c l ∙ ap (join B) (step-to-all L F i c e) ∙ k c l

pub join-lt : (a b : ℕ) → a < 2 ^ states → b < 2 ^ states → join a b < 2 ^ states
unfolding join
join-lt a b ha hb = or_lt states a b ha hb
