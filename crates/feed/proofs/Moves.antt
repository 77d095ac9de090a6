-- A feed that gives no refusal consumes a front of its piece, and with room for all signatures at least a byte. Assumes nothing.
use Prim.Native.Nat.{ℕ, zero, suc, ◌+◌, ◌*◌, ◌-◌, ◌/◌, ◌≤◌, ◌<◌}
use mathlib.Core.Path.{◌≡◌, refl, sym, ap, ◌∙◌}
use mathlib.Core.Bool.{Bool, true, false}
use mathlib.Core.List.{List, [], ◌∷◌, ◌++◌}
use mathlib.Core.Logic.{◌↔◌}
use native.Mathlib.Omega.{arith}
use native.Mathlib.Decide.{ℕ_discrete}
use lib.ListN.{length, get_or, take, drop, length-append, length-drop}
use lib.Seq.{length-take-le, get_or-append-add, get_or-drop}
use lib.Dec.{ltb}
use borrow.Author.Tests.{eq-eqb, lt-ltb}
use Rattle.sets.specs.Set.{signatures}
use Rattle.rules.specs.Rules.{Rule, verdict}
use Rattle.rules.proofs.Scanning.{and-false, equal_words}
use Rattle.feed.specs.Engine.{Engine, Layout, Outcome, room, run, told, consumed, ended, feed}
use Rattle.feed.proofs.Runs.{told-length, consumed-most, consumed-fits, moves}
use Rattle.feed.proofs.Going.{unfed}

-- the words of m pairs, and the words lent from there on: these stay, an odd last word too; there are as many as were lent
pub behind-stay : (ws out : List ℕ) (m : ℕ) → length ws ≡ 2 * m → (i : ℕ) → 2 * (length ws / 2) ≤ i → get_or (ws ++ drop (length ws) out) i 0 ≡ get_or out i 0
behind-stay ws out m e i h =
    let d : length ws + (i - length ws) ≡ i = omega arith in
    ap (λ (j : ℕ). get_or (ws ++ drop (length ws) out) j 0) (sym d) ∙ get_or-append-add ws (drop (length ws) out) (i - length ws) 0
    ∙ get_or-drop (length ws) out (i - length ws) 0 ∙ ap (λ (j : ℕ). get_or out j 0) d

pub behind-many : (ws out : List ℕ) (m : ℕ) → length ws ≡ 2 * m → m ≤ room out → length (ws ++ drop (length ws) out) ≡ length out
behind-many ws out m e h = simp (length-append, length-drop) (omega arith)

module _ {C : Type 0} (E : Engine C) (K : Layout C) (R : List ℕ) where
  -- an engine that halts at once consumes nothing, and the refusal is 14
  halts-first : (n c : ℕ) (cs : List ℕ) → E.halts (K.config R) ≡ true → consumed E (K.config R) n (c ∷ cs) ≡ 0
  unfolding consumed
  halts-first n c cs h = rw h

  halts-14 : (out : List ℕ) (c : ℕ) (cs : List ℕ) → E.halts (K.config R) ≡ true
      → (ended E K R (take (consumed E (K.config R) (room out) (c ∷ cs)) (c ∷ cs)) (suc (length cs)) out).refusal ≡ 14
  unfolding ended run
  halts-14 out c cs h = rw (halts-first (room out) c cs h, lt-ltb 0 (suc (length cs)) (omega arith), h)

  -- so one that ends without a refusal does not
  ends-free : (out piece : List ℕ) → zero < length piece
      → (ended E K R (take (consumed E (K.config R) (room out) piece) piece) (length piece) out).refusal ≡ 0 → E.halts (K.config R) ≡ false
  ends-free out [] l z = absurd (omega arith)
  ends-free out (c ∷ cs) l z = go (E.halts (K.config R)) refl
    where
      go : (t : Bool) → E.halts (K.config R) ≡ t → t ≡ false
      go true e = absurd (omega (arith, z, halts-14 out c cs e))
      go false e = refl

  moves-on : (n : ℕ) (piece : List ℕ) → zero < length piece → signatures ≤ n → E.halts (K.config R) ≡ false → zero < consumed E (K.config R) n piece
  moves-on n [] l r h = absurd (omega arith)
  moves-on n (c ∷ cs) l r h = moves E (K.config R) n c cs r h

  module _ (rules : List Rule) (piece out : List ℕ) where
    -- where no rule refuses, the front consumed is the longest
    pub feed-ends : verdict rules ≡ 0 → feed rules E K R piece out ≡ ended E K R (take (consumed E (K.config R) (room out) piece) piece) (length piece) out
    unfolding feed
    feed-ends v = rw (eq-eqb (verdict rules) 0 v)

    pub feed-bytes : verdict rules ≡ 0 → (feed rules E K R piece out).bytes ≡ consumed E (K.config R) (room out) piece
    unfolding ended
    feed-bytes v =
        rw (feed-ends v) (length-take-le (consumed E (K.config R) (room out) piece) piece (consumed-most E (K.config R) (room out) piece))

    -- the pairs fit the room, also where a rule refuses
    pub feed-fits : (feed rules E K R piece out).pairs ≤ room out
    unfolding ended
    feed-fits =
        elim (ℕ_discrete (verdict rules) 0) [
          | yes v ↦ rw (feed-ends v, told-length E (K.config R) (K.offset R) (take (consumed E (K.config R) (room out) piece) piece))
              (omega (arith, consumed-fits E (K.config R) (room out) piece))
          | no n ↦ rw (unfed E K R piece out rules n) (omega arith)
        ]

    -- the words from the pairs on stay, an odd last word too; there are as many; the pairs are whole
    pub feed-rest : (i : ℕ) → 2 * (feed rules E K R piece out).pairs ≤ i → get_or (feed rules E K R piece out).words i 0 ≡ get_or out i 0
    unfolding ended
    feed-rest i l =
        elim (ℕ_discrete (verdict rules) 0) [
          | yes v ↦ rw (feed-ends v) (behind-stay (told E (K.config R) (K.offset R) front) out _ (told-length E (K.config R) (K.offset R) front) i (rw (feed-ends v) at l))
          | no n ↦ rw (unfed E K R piece out rules n)
        ]
      where
        front : List ℕ
        front = take (consumed E (K.config R) (room out) piece) piece

    pub feed-length : length (feed rules E K R piece out).words ≡ length out
    unfolding ended
    feed-length =
        elim (ℕ_discrete (verdict rules) 0) [
          | yes v ↦ rw (feed-ends v) (behind-many (told E (K.config R) (K.offset R) front) out _ (told-length E (K.config R) (K.offset R) front) (consumed-fits E (K.config R) (room out) piece))
          | no n ↦ rw (unfed E K R piece out rules n)
        ]
      where
        front : List ℕ
        front = take (consumed E (K.config R) (room out) piece) piece

    -- all exactly when as many bytes are consumed as the piece has
    pub feed-all : verdict rules ≡ 0 → (feed rules E K R piece out).all ≡ true ↔ ((feed rules E K R piece out).bytes ≡ length piece)
    unfolding ended
    feed-all v = rw (feed-ends v) (equal_words (length (take (consumed E (K.config R) (room out) piece) piece)) (length piece))

    -- where one does, the refusal is its number
    pub feed-refused : (verdict rules ≡ 0 → ⊥) → (feed rules E K R piece out).refusal ≡ verdict rules
    feed-refused v = rw (unfed E K R piece out rules v)

    -- where nothing halts, a feed refuses by its rules alone
    pub rules-alone : ((x : C) → E.halts x ≡ false) → (feed rules E K R piece out).refusal ≡ verdict rules
    unfolding ended
    rules-alone f = elim (ℕ_discrete (verdict rules) 0) [ yes v ↦ free v | no n ↦ feed-refused n ]
      where
        front : List ℕ
        front = take (consumed E (K.config R) (room out) piece) piece

        free : verdict rules ≡ 0 → (feed rules E K R piece out).refusal ≡ verdict rules
        free v = rw (feed-ends v, f (run E (K.config R) front), and-false (ltb (length front) (length piece)), v)

    -- no refusal: no rule applies
    pub no-refusal : (feed rules E K R piece out).refusal ≡ 0 → verdict rules ≡ 0
    no-refusal z = elim (ℕ_discrete (verdict rules) 0) [ yes v ↦ v | no n ↦ absurd (n (sym (feed-refused n) ∙ z)) ]

    -- no refusal, room for all signatures, and a byte to feed: at least a byte
    pub feed-moves : (feed rules E K R piece out).refusal ≡ 0 → zero < length piece → signatures ≤ room out → zero < (feed rules E K R piece out).bytes
    feed-moves z l r =
        let v = no-refusal z in
        rw (feed-bytes v)
        (moves-on (room out) piece l r (ends-free out piece l (sym (ap (λ (o : Outcome). o.refusal) (feed-ends v)) ∙ z)))
