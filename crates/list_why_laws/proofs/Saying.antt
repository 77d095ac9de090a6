-- What the questions say holds of every answer that meets their promises; and these determine the outcome. Assumes nothing.
use Prim.Native.Nat.{ℕ, suc, ◌+◌, ◌-◌, ◌*◌, ◌≤◌, ◌<◌}
use mathlib.Core.Path.{◌≡◌, refl, sym, ap, ◌∙◌}
use mathlib.Core.Bool.{Bool, true, false, ◌&&◌, ◌||◌, not, true≢false}
use mathlib.Core.List.{List, [], ◌∷◌, ◌++◌}
use mathlib.Core.Logic.{◌↔◌}
use native.Mathlib.Omega.{arith}
use native.Mathlib.Decide.{ℕ_discrete}
use lib.ListN.{length, get_or, take, drop, length-append, length-drop}
use lib.Seq.{take_at, get_or-append-add, get_or-drop}
use lib.Dec.{ltb, eqb}
use borrow.Author.Tests.{ne_eqb, eq-eqb, eqb-true, ltb-true, lt-ltb, not-true}
use Rattle.sets.specs.Set.{set_size, set_at}
use Rattle.sets.proofs.Sets.{set-at-lt}
use Rattle.rules.specs.Scan.{rising, some, first}
use Rattle.rules.specs.Rules.{Rule, verdict}
use Rattle.rules.specs.Words.{InWords}
use Rattle.rules.proofs.Rules.{stop, last, rises, passes-front, verdict-then}
use Rattle.rules.proofs.Saying.{Says, says-append, tells}
use Rattle.rules.proofs.Scanning.{both, either-words, over-words, some-intro, some-elim, first_found, none-some}
use Rattle.list.specs.List.{records, from, target, list_rules}
use Rattle.list.specs.Automaton.{edge}
use Rattle.feed.specs.Calls.{Bytes}
use Rattle.list_flow.specs.Flow.{frontier_of, offset_of, feed_rules}
use Rattle.list_why.specs.Run.{Edge, Question, Run, Runs}
use Rattle.list_why.specs.Reason.{front, reason, end_of, fronts, due, not_due, outside, too_short, place_rules, why_rules, Explains, Reasoned, links, edge_rules, Finds}
use Rattle.list_why.specs.declared.Found.{Found}
use Rattle.list_why.proofs.Traces.{trace-length, reasoned}
use Rattle.list_why.proofs.Keeping.{sets-length, kept-all, kept-fronts}
use Rattle.list_why.proofs.Placed.{knows}
use Rattle.laws.specs.Words.{list_words, feed_words}
use Rattle.laws.proofs.Saying.{list-says, feed-says}
use Rattle.list_why_laws.specs.Words.{place_words, why_words, edge_words}
use Rattle.list_why_laws.specs.Said.{Said, EdgeSaid, Demand1}
use Rattle.list_why_laws.proofs.Last.{said-last}

same : {A : Type 0} → A ↔ A
same = (λ x. x, λ x. x)

-- ---- what stands behind a front stays

behind : (xs ys : List ℕ) (m : ℕ) → length xs ≡ m → (i : ℕ) → m ≤ i → get_or (xs ++ drop m ys) i 0 ≡ get_or ys i 0
behind xs ys m e i l =
    let p : i ≡ length xs + (i - m) = omega (arith, e) in
    let q : m + (i - m) ≡ i = omega arith in
    ap (λ (j : ℕ). get_or (xs ++ drop m ys) j 0) p ∙ get_or-append-add xs (drop m ys) (i - m) 0 ∙ get_or-drop m ys (i - m) 0 ∙ ap (λ (j : ℕ). get_or ys j 0) q

many : (xs ys : List ℕ) (m : ℕ) → length xs ≡ m → m ≤ length ys → length (xs ++ drop m ys) ≡ length ys
many xs ys m e l = rw (length-append, length-drop) (omega (arith, e, l))

-- ---- a question

module _ (L R : List ℕ) (at : ℕ) (piece : List ℕ) (q : Question) (k : ℕ) (out work : List ℕ) where
  abbrev n : ℕ
  n = k - offset_of R

  abbrev F : ℕ
  F = frontier_of R

  abbrev placed_by : List Rule
  placed_by = place_rules L R at piece k out work

  abbrev why-by : List Rule
  why-by = why_rules L R at piece q k out work

  place-says : Says placed_by (feed_words L R at piece ++ place_words R piece k out work)
  place-says =
      says-append (feed_rules L R at piece) ((25, outside R piece k || too_short n out work) ∷ []) (feed_words L R at piece) (place_words R piece k out work) (feed-says L R at piece) (
        refl,
        either-words _ _ (outside R piece k) (too_short n out work)
            (either-words _ _ (ltb k (offset_of R)) (ltb (offset_of R + length piece) k) (over-words k (offset_of R)) (over-words (offset_of R + length piece) k))
            (either-words _ _ (ltb (length out) (suc n)) (ltb (length work) (set_size * suc n)) (over-words (length out) (suc n)) (over-words (length work) (set_size * suc n))),
        tt,
      )

  past : verdict placed_by ≡ 0 → verdict why-by ≡ verdict ((26, not_due L F piece n q) ∷ [])
  past v = verdict-then placed_by ((26, not_due L F piece n q) ∷ []) refl v

  -- the answer is 0 where it is so, and 26 where it is not
  pub due-0 : verdict placed_by ≡ 0 → due L (front L F piece n) q ≡ true → verdict why-by ≡ 0
  due-0 v h = past v ∙ last 26 (ap not h)

  pub due-26 : verdict placed_by ≡ 0 → due L (front L F piece n) q ≡ false → verdict why-by ≡ 26
  due-26 v h = past v ∙ stop 26 [] (ap not h)

  -- an answer 0 has passed 25, and it is so
  passed : verdict why-by ≡ 0 → verdict placed_by ≡ 0
  passed v = passes-front placed_by ((26, not_due L F piece n q) ∷ []) v

  due-of : verdict why-by ≡ 0 → due L (front L F piece n) q ≡ true
  due-of v = go (due L (front L F piece n) q) refl
    where
      go : (b : Bool) → due L (front L F piece n) q ≡ b → due L (front L F piece n) q ≡ true
      go true e = e
      go false e = absurd (omega (arith, sym v ∙ due-26 (passed v) e))

  module _ (bytes : Bytes R) where
    -- past 25 there is a run exactly when what is asked is so
    known-runs : verdict placed_by ≡ 0 → Reasoned L F piece n q
    known-runs v =
        let w = knows L R at piece k out work v in
        reasoned L F piece (set-at-lt R 0 bytes) w.listed n (omega (arith, w.start, w.before, w.behind)) q

    -- so 26 in words
    not-runs : verdict placed_by ≡ 0 → (not_due L F piece n q ≡ true) ↔ (Runs L F piece n q → ⊥)
    not-runs v = (λ e r. true≢false (sym ((known-runs v).exactly.0 r) ∙ not-true _ e), λ never. go never (due L (front L F piece n) q) refl)
      where
        go : (Runs L F piece n q → ⊥) → (b : Bool) → due L (front L F piece n) q ≡ b → not (due L (front L F piece n) q) ≡ true
        go never true h = absurd (never ((known-runs v).exactly.1 h))
        go never false h = ap not h

    pub why-said : InWords (why_words L R at piece q k out work) (verdict why-by)
    why-said =
        said-last 26 (not_due L F piece n q ≡ true) (Runs L F piece n q → ⊥) (feed_words L R at piece ++ place_words R piece k out work)
        (λ none. not-runs ((tells placed_by (feed_words L R at piece ++ place_words R piece k out work) refl place-says).passes.1 none)) (verdict why-by)
        (tells why-by ((feed_words L R at piece ++ place_words R piece k out work) ++ ((26, not_due L F piece n q ≡ true) ∷ [])) refl
        (says-append placed_by ((26, not_due L F piece n q) ∷ []) (feed_words L R at piece ++ place_words R piece k out work) ((26, not_due L F piece n q ≡ true) ∷ []) place-says (refl, same, tt)))

    module _ (r : ℕ) (left held : List ℕ) (e : Explains L R at piece q k out work r left held) where
      long : length (reason L F piece n q) ≡ suc n
      long = trace-length L F piece n (end_of L (front L F piece n) q)

      stays-not : (r ≡ 0 → ⊥) → (left ≡ out) × (held ≡ work)
      stays-not ne = let z = ne_eqb (verdict why-by) 0 (λ v. ne (e.refuses ∙ v)) in (rw z at e.wrote, rw z at e.worked)

      -- what is left where the answer is 0
      wrote-0 : r ≡ 0 → left ≡ reason L F piece n q ++ drop (suc n) out
      wrote-0 z = rw (eq-eqb (verdict why-by) 0 (sym e.refuses ∙ z)) at e.wrote

      worked-0 : r ≡ 0 → held ≡ fronts L F piece n ++ drop (set_size * suc n) work
      worked-0 z = rw (eq-eqb (verdict why-by) 0 (sym e.refuses ∙ z)) at e.worked

      front-0 : r ≡ 0 → take (suc n) left ≡ reason L F piece n q
      front-0 z = ap (take (suc n)) (wrote-0 z) ∙ take_at (reason L F piece n q) (drop (suc n) out) (suc n) long

      told-0 : r ≡ 0 → Run L F piece n q (take (suc n) left)
      told-0 z = let v = sym e.refuses ∙ z in rw (front-0 z) ((known-runs (passed v)).told (due-of v))

      some-0 : verdict placed_by ≡ 0 → (r ≡ 0) ↔ Runs L F piece n q
      some-0 v = (λ z. (take (suc n) left, told-0 z), λ w. e.refuses ∙ due-0 v ((known-runs v).exactly.0 w))

      -- the buffers are long enough
      room_0 : r ≡ 0 → (suc n ≤ length out) × (set_size * suc n ≤ length work)
      room_0 z = let w = knows L R at piece k out work (passed (sym e.refuses ∙ z)) in (rw w.start at w.states-fit, rw w.start at w.work-fits)

      fronts-0 : r ≡ 0 → (i : ℕ) → i ≤ n → set_at held (set_size * i) ≡ front L F piece i
      fronts-0 z i l =
          let w = knows L R at piece k out work (passed (sym e.refuses ∙ z)) in
          let fit = (room_0 z).1 in
          let f = kept-fronts L F piece work held n (omega (arith, w.start, w.before, w.behind)) (set-at-lt R 0 bytes) fit (worked-0 z ∙ sym (kept-all (front L F piece) work (suc n) fit)) in
          f.1 i l ∙ ap (λ (G : ℕ). front L G piece i) f.0

      -- whether refused or not
      either : (P : List ℕ → List ℕ → Type 0) → (r ≡ 0 → P (reason L F piece n q ++ drop (suc n) out) (fronts L F piece n ++ drop (set_size * suc n) work)) → P out work → P left held
      either P f g = elim (ℕ_discrete r 0) [ yes z ↦ rw (wrote-0 z, worked-0 z) (f z) | no ne ↦ let s = stays-not ne in rw (s.0, s.1) g ]

      frames : length (fronts L F piece n) ≡ set_size * suc n
      frames = sets-length (front L F piece) (suc n)

      pub said : Said L R at piece q k out work r left held
      said =
          record {
            said = rw e.refuses why-said;
            stays = stays-not;
            some = some-0;
            told = told-0;
            lowest = λ z ys y. rw (front-0 z) ((known-runs (passed (sym e.refuses ∙ z))).lowest-told ys y);
            fronts = fronts-0;
            states-stay = λ i l. either (λ xs ws. get_or xs i 0 ≡ get_or out i 0) (λ z. behind (reason L F piece n q) out (suc n) long i l) refl;
            work-stays = λ i l. either (λ xs ws. get_or ws i 0 ≡ get_or work i 0) (λ z. behind (fronts L F piece n) work (set_size * suc n) frames i l) refl;
            states-many = either (λ xs ws. length xs ≡ length out) (λ z. many (reason L F piece n q) out (suc n) long (room_0 z).0) refl;
            work-many = either (λ xs ws. length ws ≡ length work) (λ z. many (fronts L F piece n) work (set_size * suc n) frames (room_0 z).1) refl;
          }

-- ---- an edge

module _ (L : List ℕ) (s c t : ℕ) where
  linked : (i : ℕ) → links L s c t i ≡ true → (c < 256) × (edge L c i ≡ true) × (from L i ≡ s) × (target L i ≡ t)
  linked i h =
      let a = both (ltb c 256) (eqb (from L i) s && (eqb (target L i) t && edge L c i)) h in
      let b = both (eqb (from L i) s) (eqb (target L i) t && edge L c i) a.1 in
      let d = both (eqb (target L i) t) (edge L c i) b.1 in
      (ltb-true c 256 a.0, d.1, eqb-true (from L i) s b.0, eqb-true (target L i) t d.0)

  some-edge : some (records L) (links L s c t) ≡ true ↔ ((c < 256) × Edge L c s t)
  some-edge = (
    λ h. let w = some-elim (records L) (links L s c t) h in let x = linked w.0 w.2 in (x.0, (w.0, w.1, x.1, x.2, x.3)),
    λ w. some-intro (records L) (links L s c t) w.1.0 w.1.1
        (rw (lt-ltb c 256 w.0, eq-eqb (from L w.1.0) s w.1.3, eq-eqb (target L w.1.0) t w.1.4) w.1.2),
  )

  no_edge : (not (some (records L) (links L s c t)) ≡ true) ↔ ((c < 256) × Edge L c s t → ⊥)
  no_edge = (λ e w. true≢false (sym (some-edge.1 w) ∙ not-true _ e), λ never. go never (some (records L) (links L s c t)) refl)
    where
      go : ((c < 256) × Edge L c s t → ⊥) → (b : Bool) → some (records L) (links L s c t) ≡ b → not (some (records L) (links L s c t)) ≡ true
      go never true h = absurd (never (some-edge.0 h))
      go never false h = ap not h

  edge-says : Says (edge_rules L s c t) (edge_words L s c t)
  edge-says = says-append (list_rules L) ((26, not (some (records L) (links L s c t))) ∷ []) (list_words L) ((26, (c < 256) × Edge L c s t → ⊥) ∷ []) (list-says L) (refl, no_edge, tt)

  -- without a refusal there is one
  some_of : verdict (edge_rules L s c t) ≡ 0 → some (records L) (links L s c t) ≡ true
  some_of v = go (some (records L) (links L s c t)) refl
    where
      go : (b : Bool) → some (records L) (links L s c t) ≡ b → some (records L) (links L s c t) ≡ true
      go true e = e
      go false e =
          absurd (omega (
            arith,
            sym v ∙ verdict-then (list_rules L) ((26, not (some (records L) (links L s c t))) ∷ []) refl (passes-front (list_rules L) ((26, not (some (records L) (links L s c t))) ∷ []) v)
                ∙ stop 26 [] (ap not e),
          ))

  pub edge-said : (f : Found) → Finds L s c t f → EdgeSaid L s c t f
  edge-said f e =
      record {
        said = rw e.refuses (tells (edge_rules L s c t) (edge_words L s c t) refl edge-says);
        none = λ ne. rw (ne_eqb (verdict (edge_rules L s c t)) 0 (λ v. ne (e.refuses ∙ v))) at e.place;
        found = λ z. let x = at_first z in let y = linked (first (records L) (links L s c t)) x.1 in rw (place-0 z) (x.0, y.1, y.2, y.3);
        earliest = λ z i l. none-some (first (records L) (links L s c t)) (links L s c t) (at_first z).2 i (rw (place-0 z) at l);
      }
    where
      place-0 : f.refusal ≡ 0 → f.place ≡ first (records L) (links L s c t)
      place-0 z = rw (eq-eqb (verdict (edge_rules L s c t)) 0 (sym e.refuses ∙ z)) at e.place

      at_first : f.refusal ≡ 0 → (first (records L) (links L s c t) < records L) × (links L s c t (first (records L) (links L s c t)) ≡ true) × (some (first (records L) (links L s c t)) (links L s c t) ≡ false)
      at_first z = first_found (records L) (links L s c t) (some_of (sym e.refuses ∙ z))

pub demand-1 : Demand1
unfolding rising
demand-1 =
    record {
      lowest = λ L R at piece q k out work s c t. (rises 0 (why_rules L R at piece q k out work) refl, rises 0 (edge_rules L s c t) refl);
      whys = λ L R at piece q k out work r left held b e. said L R at piece q k out work b r left held e;
      edges = λ L s c t f e. edge-said L s c t f e;
      whys-one = λ L R at piece q k out work r p xs ys ws vs a b. (a.refuses ∙ sym b.refuses, a.wrote ∙ sym b.wrote, a.worked ∙ sym b.worked);
      edges-one = λ L s c t f g a b. (a.refuses ∙ sym b.refuses, a.place ∙ sym b.place);
    }
