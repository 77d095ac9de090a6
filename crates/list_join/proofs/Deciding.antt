-- What the code knows before it writes, and while it writes. Assumes nothing.
use Prim.Native.Nat.{ℕ, zero, suc, ◌+◌, ◌-◌, ◌*◌, ◌≤◌, ◌<◌}
use mathlib.Core.Path.{◌≡◌, refl, sym, ap, ◌∙◌}
use mathlib.Core.Bool.{Bool, true, false, ◌&&◌, ◌||◌, not}
use mathlib.Core.List.{List, [], ◌∷◌, ◌++◌}
use mathlib.Core.Logic.{◌⊎◌, inl, inr}
use native.Mathlib.Decide.{dec_lt}
use Rattle.std.specs.Prelude.{min}
use native.Mathlib.Omega.{arith}
use lib.ListN.{length, take, drop, length-append}
use lib.Seq.{take_all, length-take-le}
use lib.Dec.{eqb, ltb, leb}
use borrow.Author.Tests.{eq-eqb, ne_eqb, ltb-true, ltb-false, eqb-true, not-false, le-leb, lt-leb}
use Rattle.numbers.specs.Number.{placed}
use Rattle.numbers.proofs.Placing.{placed-fits, placed-after}
use Rattle.rules.specs.Scan.{every, stack}
use Rattle.rules.proofs.Scanning.{neither, choose}
use Rattle.rules.specs.Rules.{verdict}
use Rattle.rules.proofs.Rules.{passes-front, verdict-refused, verdict-then, stop, last, passes}
use Rattle.list.specs.List.{most_records, records, list_rules, list_refusal}
use Rattle.list.proofs.Listed.{whole-records}
use Rattle.list_join.specs.inner.Found.{overfull, fits, Plans}
use Rattle.list_join.specs.Join.{naming, renamed_record, spare, adds, added, kept, joined, other_refused, pair_rules, too_big, join_refusal}
use Rattle.list_join.specs.declared.Naming.{Naming}
use Rattle.list_join.specs.declared.Plan.{Plan}
use Rattle.list_join.proofs.Places.{kept_in, kept_out, added-length}
use Rattle.list_join.proofs.Fields.{joined_length}
use Rattle.list_join.proofs.Fitting.{joined-passes}

-- ---- what a record adds

module _ (n : Naming) (B : List ℕ) where
  pub adds-out : (i : ℕ) → spare n B i ≡ true → adds n B i ≡ []
  adds-out i e = rw e

  pub adds-in : (i : ℕ) → spare n B i ≡ false → adds n B i ≡ renamed_record n B i
  adds-in i e = rw e

  pub added_more : (i : ℕ) → added n B (suc i) ≡ added n B i ++ adds n B i
  unfolding stack
  added_more i = refl

  kept_step : (i : ℕ) → kept n B i ≤ kept n B (suc i)
  kept_step i = go (spare n B i) refl
    where
      go : (b : Bool) → spare n B i ≡ b → kept n B i ≤ kept n B (suc i)
      go true e = rw (kept_out n B i e) (omega arith)
      go false e = rw (kept_in n B i e) (omega arith)

  kept-mono : (d i : ℕ) → kept n B i ≤ kept n B (d + i)
  kept-mono zero i = let e : zero + i ≡ i = omega arith in rw e (omega arith)
  kept-mono (suc d) i = let e : suc d + i ≡ suc (d + i) = omega arith in rw e (omega (arith, kept-mono d i, kept_step (d + i)))

  pub added-room : (i m : ℕ) → i < m → length (added n B i) + length (adds n B i) ≤ length (added n B m)
  added-room i m h = go (kept-mono (m - suc i) (suc i))
    where
      go : kept n B (suc i) ≤ kept n B ((m - suc i) + suc i) → length (added n B i) + length (adds n B i) ≤ length (added n B m)
      go k =
          let e : (m - suc i) + suc i ≡ m = omega arith in
          omega (arith, rw e at k, added-length n B m, added-length n B (suc i), ap length (added_more i), length-append (added n B i) (adds n B i))

  -- one record more is written
  pub add-more : (list : List ℕ) (used i m : ℕ) → i < m → used + length (added n B m) ≤ length list
      → placed (placed list used (added n B i)) (used + length (added n B i)) (adds n B i) ≡ placed list used (added n B (suc i))
  add-more list used i m h l =
      rw (added_more i) (placed-after list used (added n B i) (adds n B i) (used + length (added n B i)) refl (omega (arith, added-room i m h)))

-- ---- the refusal

pub stops : (A : List ℕ) (used lent : ℕ) (B : List ℕ) (p : Plan) (r : ℕ) → join_refusal A used lent B ≡ r → p.refusal ≡ r → (r ≡ 0 → ⊥) → Plans A used lent B p
stops A used lent B p r e a n = record { refusal = a ∙ sym e; named = λ z. absurd (n (sym e ∙ z)); top = λ z. absurd (n (sym e ∙ z)) }

-- of the two lists
module _ (A B : List ℕ) where
  pub pair-front : (list_refusal A ≡ 0 → ⊥) → verdict (pair_rules A B) ≡ list_refusal A
  pair-front n = verdict-refused (list_rules A) _ n

  pair-behind : list_refusal A ≡ 0 → verdict (pair_rules A B) ≡ verdict ((27, other_refused B) ∷ [])
  pair-behind a = verdict-then (list_rules A) _ refl a

  pub pair-other : list_refusal A ≡ 0 → (list_refusal B ≡ 0 → ⊥) → verdict (pair_rules A B) ≡ 27
  pair-other a n = pair-behind a ∙ stop 27 _ (ap not (ne_eqb (list_refusal B) 0 n))

  pub pair-none : list_refusal A ≡ 0 → list_refusal B ≡ 0 → verdict (pair_rules A B) ≡ 0
  pair-none a b = pair-behind a ∙ last 27 (ap not (eq-eqb (list_refusal B) 0 b))

  -- where neither is refused
  pub good-lists : verdict (pair_rules A B) ≡ 0 → (list_refusal A ≡ 0) × (list_refusal B ≡ 0)
  good-lists e =
      let a = passes-front (list_rules A) ((27, other_refused B) ∷ []) e in
      let p = passes 26 (other_refused B) [] (sym (pair-behind a) ∙ e) in
      (a, eqb-true (list_refusal B) 0 (not-false (eqb (list_refusal B) 0) p.0))

module _ (A : List ℕ) (used lent : ℕ) (B : List ℕ) where
  pub refuses-pair : (verdict (pair_rules A B) ≡ 0 → ⊥) → join_refusal A used lent B ≡ verdict (pair_rules A B)
  refuses-pair n = verdict-refused (pair_rules A B) _ n

  module _ (a : list_refusal A ≡ 0) (b : list_refusal B ≡ 0) where
    behind : join_refusal A used lent B ≡ verdict ((28, too_big A used lent B) ∷ [])
    behind = verdict-then (pair_rules A B) _ refl (pair-none A B a b)

    pub joined-long : length (joined A B) ≡ length A + 8 * kept (naming A B) B (records B)
    joined-long = joined_length A B (whole-records A a)

    -- the code's test is rule 28
    pub big-test : too_big A used lent B ≡ (ltb lent used || ltb lent (length A + 8 * kept (naming A B) B (records B))
        || not (every (records B) (fits (naming A B) B) && leb (records A + kept (naming A B) B (records B)) most_records))
    unfolding too_big
    big-test = rw (joined-passes A B a b, joined-long)

    pub refuses-big : too_big A used lent B ≡ true → join_refusal A used lent B ≡ 28
    refuses-big e = behind ∙ stop 28 _ e

    pub refuses-none : too_big A used lent B ≡ false → join_refusal A used lent B ≡ 0
    refuses-none e = behind ∙ last 28 e

-- ---- where nothing refuses

-- neither list is refused, nor is the joined one, and the lent list holds the front and the joined one
pub record Fine (A : List ℕ) (used lent : ℕ) (B : List ℕ) : Type 0 where
  pub front : list_refusal A ≡ 0
  pub other : list_refusal B ≡ 0
  pub whole : list_refusal (joined A B) ≡ 0
  pub within : used ≤ lent
  pub room : length (joined A B) ≤ lent

pub fine : (A : List ℕ) (used lent : ℕ) (B : List ℕ) → join_refusal A used lent B ≡ 0 → Fine A used lent B
unfolding too_big
fine A used lent B e =
    let v = passes-front (pair_rules A B) ((28, too_big A used lent B) ∷ []) e in
    let g = good-lists A B v in
    let q = passes 27 (too_big A used lent B) [] (sym (verdict-then (pair_rules A B) ((28, too_big A used lent B) ∷ []) refl v) ∙ e) in
    let x = neither (ltb lent used || ltb lent (length (joined A B))) (not (eqb (list_refusal (joined A B)) 0)) q.0 in
    let y = neither (ltb lent used) (ltb lent (length (joined A B))) x.0 in
    record {
      front = g.0;
      other = g.1;
      whole = eqb-true (list_refusal (joined A B)) 0 (not-false _ x.1);
      within = ltb-false lent used y.0;
      room = ltb-false lent (length (joined A B)) y.1;
    }

-- what is written stands behind the front
pub joined_at : (list : List ℕ) (used : ℕ) (B : List ℕ) → Fine (take used list) used (length list) B
    → (used + length (added (naming (take used list) B) B (records B)) ≤ length list)
    × (placed list used (added (naming (take used list) B) B (records B)) ≡ joined (take used list) B ++ drop (length (joined (take used list) B)) list)
    × (used + length (added (naming (take used list) B) B (records B)) ≡ length (joined (take used list) B))
unfolding joined
joined_at list used B f =
    let X = added (naming (take used list) B) B (records B) in
    let l : length (take used list) ≡ used = length-take-le used list f.within in
    let e : length (take used list ++ X) ≡ used + length X = length-append (take used list) X ∙ ap (λ (k : ℕ). k + length X) l in
    let r : used + length X ≤ length list = omega (arith, e, f.room) in
    (r, placed-fits list used X r ∙ ap (λ (k : ℕ). (take used list ++ X) ++ drop k list) (sym e), sym e)

-- the front by the shorter of two lengths
pub front_by : (list : List ℕ) (used end : ℕ) → (((used < length list) × (end ≡ used)) ⊎ ((length list ≤ used) × (end ≡ length list))) → take end list ≡ take used list
front_by list used end s = choose s (λ p. rw p.1) (λ p. rw p.1 (take_all (length list) list (omega arith) ∙ sym (take_all used list p.0)))

pub front-min : (list : List ℕ) (used end : ℕ) → end ≡ min used (length list) → take end list ≡ take used list
front-min list used end e =
    front_by list used end (elim (dec_lt used (length list)) [
      | yes l ↦ inl (l, omega arith)
      | no n ↦ inr (omega arith, omega arith)
    ])

-- ---- the code's own test

-- as the code puts the three parts together
big-parts : (u l e m : Bool) → (u || l || not (e && not m)) ≡ (u || (l || m) || not e)
big-parts true l e m = refl
big-parts false true e m = refl
big-parts false false true true = refl
big-parts false false true false = refl
big-parts false false false true = refl
big-parts false false false false = refl

not-over : (x m : ℕ) → leb x m ≡ not (ltb m x)
not-over x m = go (ltb m x) refl
  where
    go : (t : Bool) → ltb m x ≡ t → leb x m ≡ not t
    go true e = lt-leb x m (ltb-true m x e)
    go false e = le-leb x m (ltb-false m x e)

module _ (A : List ℕ) (used lent : ℕ) (B : List ℕ) (a : list_refusal A ≡ 0) (b : list_refusal B ≡ 0) (n : Naming) (e : n ≡ naming A B) (l f : Bool)
    (u : l ≡ overfull A lent (kept n B (records B))) (v : f ≡ every (records B) (fits n B)) where
  pub big-as : too_big A used lent B ≡ (ltb lent used || l || not f)
  big-as =
      big-test A used lent B a b ∙ over-as (naming A B) ∙ big-parts (ltb lent used) (ltb lent (length A + 8 * kept (naming A B) B (records B))) (every (records B) (fits (naming A B) B)) (ltb most_records (records A + kept (naming A B) B (records B))) ∙ sym code-as
    where
      over-as : (n : Naming) → (ltb lent used || ltb lent (length A + 8 * kept n B (records B)) || not (every (records B) (fits n B) && leb (records A + kept n B (records B)) most_records))
          ≡ (ltb lent used || ltb lent (length A + 8 * kept n B (records B)) || not (every (records B) (fits n B) && not (ltb most_records (records A + kept n B (records B)))))
      over-as n = rw (not-over (records A + kept n B (records B)) most_records)

      code-as : (ltb lent used || l || not f)
          ≡ (ltb lent used || (ltb lent (length A + 8 * kept (naming A B) B (records B)) || ltb most_records (records A + kept (naming A B) B (records B))) || not (every (records B) (fits (naming A B) B)))
      code-as = rw (u, v, e)
