-- Laws of what is read: a unit of a recording, what is left of it, and the next one. Assumes nothing.
use Rattle.std.proofs.Common.{◌≡◌, ℕ, suc, Some, ◌+◌, ◌-◌, ◌<◌, ◌≤◌, Bool, true, false, List, length, take, drop, sym, refl, ap, ◌∙◌, lt_of_not-le, arith, length-drop, drop_of_length-le, length-take, drop-drop, le-ltb, lt-ltb, eq-eqb, ne_eqb, le-leb}
use native.Mathlib.Decide.{dec_lt}
use borrow.Author.Tests.{lt-leb}
use Rattle.numbers.proofs.Laws.{drop-take}
use Rattle.program_text.specs.Text.{Puts}
use Rattle.program_text.proofs.Texts.{puts_whole, puts-front}
use Rattle.program_turn.specs.State.{short_at}
use Rattle.program_turn.specs.Turn.{most_unit}
use Rattle.program_live.specs.Live.{Unit, no_unit_yet, size_at, unit_at, next_of, less_by, none_at, none_left, less_of, Stands}
use Rattle.program_live.specs.declared.Unit as unit

pub unit-none : (B : List ℕ) (at : ℕ) (r : unit.Unit) (array : List ℕ) → length array ≡ most_unit → r ≡ none_at at → length B < at + 6 + size_at B at → Stands (unit_at B at) r array
unfolding unit_at
unit-none B at r array a e l =
    rw (lt-leb (at + 6 + size_at B at) (length B) l, e) (record { more = refl; start = refl; at = refl; full = a; inside = omega arith; short = omega arith; bytes = refl })

pub unit-is : (B : List ℕ) (at n start m to : ℕ) (array left : List ℕ) → n ≡ size_at B at → at + 6 + n ≤ length B → start ≡ short_at B at → length array ≡ most_unit → n ≤ 65535
    → Puts m (take (at + 6 + n - (at + 6)) (drop (at + 6) B)) array 0 to left
    → Stands (unit_at B at) (record { start = Some start; from = 0; to = to; at = at + 6 + n }) left
unfolding unit_at
unit-is B at n start m to array left e l s a b p =
    let d : at + 6 + n - (at + 6) ≡ n = omega arith in
    let xs = take n (drop (at + 6) B) in
    let k : length xs ≡ n = length-take n (drop (at + 6) B) ∙ omega (arith, l, length-drop (at + 6) B) in
    let q : Puts m xs array 0 to left = rw d at p in
    let z : to - 0 ≡ to = omega arith in
    rw (← e, le-leb (at + 6 + n) (length B) l)
    (record {
      more = refl;
      start = s;
      at = refl;
      full = q.3 ∙ a;
      inside = omega arith;
      short = omega (arith, q.0, k, b);
      bytes = rw z (puts-front (length xs) xs array to left (omega (arith, k, a, b)) (puts_whole m xs array 0 to left q));
    })

module _ (B : List ℕ) (saving : Bool) (u : Unit) (r : unit.Unit) (array : List ℕ) (s : Stands u r array) where
  pub next-saving : saving ≡ true → Stands (next_of B saving u) r array
  unfolding next_of
  next-saving e = rw e s

  left-long : length u.bytes ≡ r.to - r.from
  left-long =
      ap length (sym s.bytes) ∙ length-take (r.to - r.from) (drop r.from array) ∙ omega (arith, s.full, s.inside, s.short, length-drop r.from array)

  pub next-left : saving ≡ false → r.from < r.to → Stands (next_of B saving u) r array
  unfolding next_of
  next-left e l = rw (e, ne_eqb (length u.bytes) 0 (λ y. omega (arith, y, left-long, l))) s

  pub next-read : saving ≡ false → r.to ≤ r.from → (q : unit.Unit) (left : List ℕ) → Stands (unit_at B r.at) q left → Stands (next_of B saving u) q left
  unfolding next_of
  next-read e l q left t = rw (e, eq-eqb (length u.bytes) 0 (omega (arith, left-long, l)), ← s.at) t

  -- n bytes more are done with
  pub less-stands : (n : ℕ) → Stands (less_by n u) (less_of r n) array
  less-stands n =
      elim (dec_lt (r.to - r.from) n) [
        | yes l ↦
            let z : r.to - r.to ≡ 0 = omega arith in
            rw (lt-ltb (r.to - r.from) n l)
            (record {
              more = s.more;
              start = s.start;
              at = s.at;
              full = s.full;
              inside = omega arith;
              short = s.short;
              bytes = rw z (sym (drop_of_length-le u.bytes {i = n} (omega (arith, left-long, l))));
            })
        | no h ↦
            let g : n ≤ r.to - r.from = omega (arith, lt_of_not-le (λ (l : suc (r.to - r.from) ≤ n). h l)) in
            let d : r.to - (r.from + n) ≡ r.to - r.from - n = omega arith in
            let f : r.to - r.from - n + n ≡ r.to - r.from = omega (arith, g) in
            rw (le-ltb (r.to - r.from) n g)
            (record {
              more = s.more;
              start = s.start;
              at = s.at;
              full = s.full;
              inside = omega (arith, g, s.inside);
              short = s.short;
              bytes = rw (d, ← drop-drop n r.from array, ← drop-take n (r.to - r.from - n) (drop r.from array), f) (ap (drop n) s.bytes);
            })
      ]

-- before the first one
pub first-stands : (r : unit.Unit) (array : List ℕ) → r ≡ none_left → length array ≡ most_unit → Stands no_unit_yet r array
first-stands r array e a = rw e (record { more = refl; start = refl; at = refl; full = a; inside = omega arith; short = omega arith; bytes = refl })

pub first-within : (r : unit.Unit) → r ≡ none_left → (r.from ≤ r.to) × (r.to ≤ most_unit)
first-within r e = rw e (omega arith, omega arith)

pub less-within : (r w : unit.Unit) (n : ℕ) → w ≡ less_of r n → r.from ≤ r.to → r.to ≤ most_unit → (w.from ≤ w.to) × (w.to ≤ most_unit)
less-within r w n e l h =
    elim (dec_lt (r.to - r.from) n) [
      | yes k ↦ rw (e, lt-ltb (r.to - r.from) n k) (omega arith, h)
      | no k ↦
          let g : n ≤ r.to - r.from = omega (arith, lt_of_not-le (λ (j : suc (r.to - r.from) ≤ n). k j)) in
          rw (e, le-ltb (r.to - r.from) n g) (omega (arith, g, l), h)
    ]

pub part-short : (r : unit.Unit) (array : List ℕ) → r.to ≤ most_unit → length (take (r.to - r.from) (drop r.from array)) ≤ most_unit
part-short r array l = omega (arith, l, length-take (r.to - r.from) (drop r.from array))
