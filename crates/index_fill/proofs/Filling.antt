-- What the filler cites: what is written one after the other, and what a word written before is. Assumes nothing.
use Prim.Native.Nat.{ℕ, suc, ◌+◌, ◌*◌, ◌-◌, ◌≤◌, ◌<◌}
use mathlib.Core.Path.{◌≡◌, refl, sym, ap, ◌∙◌}
use mathlib.Core.Bool.{Bool, true, false, not, cond, true≢false, false≢true}
use mathlib.Core.List.{List, [], ◌∷◌, ◌++◌, append_assoc}
use native.Mathlib.Omega.{arith}
use native.Mathlib.Numerals.{add-one}
use native.Mathlib.Decide.{ℕ_discrete}
use lib.ListN.{replicate, length, get_or, take, drop, set, length-append, length-take, length-drop}
use lib.Seq.{get_or-set_same, get_or-set_other, take_all, drop_at, drop-drop, drop-append-le, take-append-le}
use lib.Dec.{eqb}
use Rattle.numbers.specs.Number.{num, digits, placed}
use Rattle.sets.specs.Set.{set_size, sig_size, set_bytes, sig_bytes, within}
use Rattle.numbers.proofs.Laws.{num-zeros, length_digits, num-digits}
use Rattle.numbers.proofs.Placing.{placed-after, placed-fits}
use borrow.Author.Tests.{eq-eqb, eqb-true}
use Rattle.rules.specs.Scan.{some, stack}
use Rattle.rules.proofs.Scanning.{some-intro, first_found}
use Rattle.rules.proofs.Stacks.{stack_same, stack-length, stack-part}
use Rattle.list.specs.Automaton.{step, accepted, named}
use Rattle.table.specs.Table.{byte_values, most_splits, split_count, split_set, split_of, taken_slots, unused_slot}
use Rattle.table.proofs.Joined.{taken-stop, taken_more}
use Rattle.index.specs.Entry.{sigs_place, cost_place, entry_size, entry_place, telling}
use Rattle.index_fill.specs.inner.Lows.{Led, low_in}
use Rattle.index_fill.specs.Filled.{word_of, words_of, cost_of, note_of, entry_of, index_of}
use Rattle.index_fill.proofs.Reading.{word-most, words-length, entry_length}

-- ---- the note, and a word

pub note-word : (m v : ℕ) → num 64 (set (replicate (suc m) 0) 0 v) ≡ v
unfolding num
note-word m v = rw (num-zeros 64 m) (omega arith)

pub word-telling : (L S : List ℕ) (T j at : ℕ) → j ≡ split_of S T → at ≡ entry_place j → not (eqb (accepted L T) 0) ≡ true → at + telling ≡ word_of L S T
unfolding word_of
word-telling L S T j at e p t = rw (p, e) (go (eqb (accepted L T) 0) t)
  where
    go : (b : Bool) → not b ≡ true → entry_place (split_of S T) + telling ≡ entry_place (split_of S T) + cond b 0 telling
    go false q = refl
    go true q = absurd (false≢true q)

pub word-silent : (L S : List ℕ) (T j at : ℕ) → j ≡ split_of S T → at ≡ entry_place j → not (eqb (accepted L T) 0) ≡ false → at ≡ word_of L S T
unfolding word_of
word-silent L S T j at e p t = rw (p, e) (go (eqb (accepted L T) 0) t)
  where
    go : (b : Bool) → not b ≡ false → entry_place (split_of S T) ≡ entry_place (split_of S T) + cond b 0 telling
    go true q = omega arith
    go false q = absurd (true≢false q)

-- ---- the lowest byte of a class

pub low-there : (C : List ℕ) (c : ℕ) → c < byte_values → some byte_values (λ d. eqb (get_or C d 0) (get_or C c 0)) ≡ true
low-there C c l = some-intro byte_values (λ d. eqb (get_or C d 0) (get_or C c 0)) c l (eq-eqb (get_or C c 0) (get_or C c 0) refl)

-- it leads where the byte does if all bytes of a class lead to one set
pub low-led : (t : ℕ → ℕ) (C D : List ℕ) (c : ℕ) → c < byte_values → get_or D c 0 ≡ low_in C c → ((d e : ℕ) → d < byte_values → e < byte_values → get_or C d 0 ≡ get_or C e 0 → t d ≡ t e) → Led t D c
low-led t C D c l e alike = λ low. rw e (alike (low_in C c) c r.0 l (eqb-true (get_or C (low_in C c) 0) (get_or C c 0) r.1))
  where
    p : ℕ → Bool
    p d = eqb (get_or C d 0) (get_or C c 0)

    r : (low_in C c < byte_values) × (p (low_in C c) ≡ true) × (some (low_in C c) p ≡ false)
    r = first_found byte_values p (low-there C c l)

-- one byte more has the lowest of its class
pub lows-more : (C D : List ℕ) (c v : ℕ) → c < length D → v ≡ low_in C c → ((d : ℕ) → d < c → get_or D d 0 ≡ low_in C d) → (d : ℕ) → d < c + 1 → get_or (set D c v) d 0 ≡ low_in C d
lows-more C D c v l e h d k =
    elim (ℕ_discrete d c) [
      | yes q ↦ rw (q, get_or-set_same D c v 0 l) e
      | no ne ↦ get_or-set_other D c d v 0 ne ∙ h d (omega (arith, ne))
    ]

-- the same of sets that are those of the steps
pub led-by : (t u : ℕ → ℕ) (D : List ℕ) (c : ℕ) → ((d : ℕ) → d < byte_values → u d ≡ t d) → c < byte_values → Led t D c → Led u D c
led-by t u D c same l h = λ low. same (get_or D c 0) (omega (arith, low, l)) ∙ h low ∙ sym (same c l)

-- ---- what is written, one after the other

-- one word more
pub words_more : (X L S : List ℕ) (t : ℕ → ℕ) (c at : ℕ) → at + 4 * c + 4 ≤ length X
    → placed (placed X at (words_of L S t c)) (at + 4 * c) (digits 8 4 (word_of L S (t c))) ≡ placed X at (words_of L S t (c + 1))
unfolding words_of stack
words_more X L S t c at l =
    rw (add-one c)
    (placed-after X at (words_of L S t c) (digits 8 4 (word_of L S (t c))) (at + 4 * c) (omega (arith, words-length L S t c)) (omega (arith, length_digits 8 4 (word_of L S (t c)))))

-- a word that is written
pub word-written : (X Y L S : List ℕ) (t : ℕ → ℕ) (c at : ℕ) → split_count S ≤ most_splits → Y ≡ placed X at (words_of L S t c) → at + 4 * c ≤ length X → (d : ℕ) → d < c
    → num 8 (take 4 (drop (at + 4 * d) Y)) ≡ word_of L S (t d)
unfolding words_of
word-written X Y L S t c at few e l d h =
    let ws = words_of L S t c in
    let n = words-length L S t c in
    let front : length (take at X) ≡ at = simp length-take (omega arith) in
    let f : Y ≡ take at X ++ (ws ++ drop (at + length ws) X) = e ∙ placed-fits X at ws (omega arith) ∙ append_assoc (take at X) ws (drop (at + length ws) X) in
    let z : 4 * d ≡ 4 * d + 0 = omega arith in
    let one : digits 8 4 (word_of L S (t d)) ≡ take 4 (drop (4 * d) ws) =
    sym (ap (λ (x : ℕ). take 4 (drop x ws)) z ∙ stack-part (λ x. digits 8 4 (word_of L S (t x))) 4 (λ x. length_digits 8 4 (word_of L S (t x))) c d h 0 4 (omega arith) ∙ take_all 4 (digits 8 4 (word_of L S (t d))) (omega (arith, length_digits 8 4 (word_of L S (t d))))) in
    ap (λ (Z : List ℕ). num 8 (take 4 (drop (at + 4 * d) Z))) f
    ∙ ap (λ (Z : List ℕ). num 8 (take 4 Z)) (sym (drop-drop (4 * d) at (take at X ++ (ws ++ drop (at + length ws) X))) ∙ ap (drop (4 * d)) (drop_at (take at X) (ws ++ drop (at + length ws) X) at front) ∙ drop-append-le (4 * d) ws (drop (at + length ws) X) (omega arith))
    ∙ ap (num 8) (take-append-le 4 (drop (4 * d) ws) (drop (at + length ws) X) (simp length-drop (omega arith)) ∙ sym one)
    ∙ num-digits 8 4 (word_of L S (t d)) (word-most L S (t d) few)

-- words of the same sets
pub words_same : (L S : List ℕ) (t u : ℕ → ℕ) (n : ℕ) → ((c : ℕ) → c < n → t c ≡ u c) → words_of L S t n ≡ words_of L S u n
unfolding words_of
words_same L S t u n h = stack_same (λ c. digits 8 4 (word_of L S (t c))) (λ c. digits 8 4 (word_of L S (u c))) n (λ c l. ap (λ (T : ℕ). digits 8 4 (word_of L S T)) (h c l))

-- the words, the set and the note, written from a place p on, are the entry
pub entry-placed : (X L : List ℕ) (m : ℕ) (S : List ℕ) (i p : ℕ) → p + entry_size ≤ length X → (F : ℕ) → F ≡ split_set S i → (G : ℕ) → G ≡ accepted L F → (N : ℕ)
    → N ≡ note_of (cost_of m S i) (within F (named L))
    → placed (placed (placed X p (words_of L S (step L F) byte_values)) (p + sigs_place) (sig_bytes G)) (p + cost_place) (sig_bytes N)
    ≡ placed X p (entry_of L m S i)
unfolding entry_of
entry-placed X L m S i p l F f G g N n =
    let w = words-length L S (step L F) byte_values in
    let a = length_digits 8 sig_size G in
    let b = length_digits 8 sig_size N in
    let c : length (words_of L S (step L F) byte_values ++ sig_bytes G) ≡ cost_place = simp length-append (omega arith) in
    rw (
      placed-after X p (words_of L S (step L F) byte_values) (sig_bytes G) (p + sigs_place) (omega arith) (omega arith),
      placed-after X p (words_of L S (step L F) byte_values ++ sig_bytes G) (sig_bytes N) (p + cost_place) (omega arith) (omega arith),
      append_assoc,
      n,
      g,
      f,
    )

-- one entry more
entries-more : (X L : List ℕ) (m : ℕ) (S : List ℕ) (i : ℕ) → entry_place i + entry_size ≤ length X
    → placed (placed X set_size (stack (entry_of L m S) i)) (entry_place i) (entry_of L m S i) ≡ placed X set_size (stack (entry_of L m S) (i + 1))
unfolding stack
entries-more X L m S i l =
    rw (add-one i)
    (placed-after X set_size (stack (entry_of L m S) i) (entry_of L m S i) (entry_place i) (omega (arith, stack-length (entry_of L m S) entry_size (entry_length L m S) i)) (omega (arith, entry_length L m S i)))

pub entries_next : (X Y Z L : List ℕ) (m : ℕ) (S : List ℕ) (i : ℕ) → Z ≡ placed Y (entry_place i) (entry_of L m S i) → Y ≡ placed X set_size (stack (entry_of L m S) i) → entry_place i + entry_size ≤ length X
    → Z ≡ placed X set_size (stack (entry_of L m S) (i + 1))
entries_next X Y Z L m S i z y l = z ∙ ap (λ (U : List ℕ). placed U (entry_place i) (entry_of L m S i)) y ∙ entries-more X L m S i l

-- the states that are named, and the entries behind them, are the index
pub entries-done : (O X Y L : List ℕ) (m : ℕ) (S : List ℕ) (n i N : ℕ) → Y ≡ placed X set_size (stack (entry_of L m S) i) → X ≡ placed O 0 (set_bytes N) → N ≡ named L → i ≡ n → entry_place n ≤ length O
    → Y ≡ placed O 0 (index_of L m S n)
unfolding index_of
entries-done O X Y L m S n i N y x e q l =
    y ∙ ap (λ (Z : List ℕ). placed Z set_size (stack (entry_of L m S) i)) x
    ∙ rw (e, q)
    (placed-after O 0 (set_bytes (named L)) (stack (entry_of L m S) n) set_size (omega (arith, length_digits 8 set_size (named L))) (omega (arith, stack-length (entry_of L m S) entry_size (entry_length L m S) n)))

-- ---- the slots of a split: those taken are j and those taken of the rest

pub taken-on : (ss : List ℕ) (j x : ℕ) → drop j ss ≡ x ∷ drop (j + 1) ss → unused_slot x ≡ false → length (taken_slots ss) ≡ j + length (taken_slots (drop j ss))
    → length (taken_slots ss) ≡ j + 1 + length (taken_slots (drop (j + 1) ss))
taken-on ss j x d e h =
    let u : taken_slots (drop j ss) ≡ x ∷ taken_slots (drop (j + 1) ss) = ap taken_slots d ∙ taken_more x (drop (j + 1) ss) e in
    h ∙ rw u (omega arith)

pub taken-end : (ss : List ℕ) (j : ℕ) → taken_slots (drop j ss) ≡ [] → length (taken_slots ss) ≡ j + length (taken_slots (drop j ss)) → j ≡ length (taken_slots ss)
taken-end ss j e h = sym (h ∙ rw e (omega arith))

pub rest-unused : (ss : List ℕ) (j x : ℕ) → drop j ss ≡ x ∷ drop (j + 1) ss → unused_slot x ≡ true → taken_slots (drop j ss) ≡ []
rest-unused ss j x d e = ap taken_slots d ∙ taken-stop x (drop (j + 1) ss) e

pub rest-none : (ss : List ℕ) (j : ℕ) → drop j ss ≡ [] → taken_slots (drop j ss) ≡ []
unfolding taken_slots
rest-none ss j d = ap taken_slots d
