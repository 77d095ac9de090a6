use Rattle.std.proofs.Common.{◌≡◌, ◌≤◌, ◌<◌, ◌+◌, ◌-◌, ◌*◌, ℕ, length, drop, get_or, ltb, leb, ◌&&◌, true, false, cond, sym, ap, ◌∙◌, arith}
use borrow.Author.Tests.{le-leb, lt-leb, lt-ltb, le-ltb, leb-true}
use Rattle.text.specs.Grammar.{is_digit}
use Rattle.text.specs.Acceptor.{live, num, can, verdict}
use Rattle.text.proofs.Places.{both}
use Rattle.text_parse.proofs.Steps.{can-small}
use Rattle.text_parse.proofs.Moves.{num-cut, num-ends, num-refused, num-none, num-other, num-over, num-on}
use Rattle.text_parse.proofs.number.Goals as goal
use Rattle.text_parse.proofs.number.Goals.{else-left-lt3-via-then-left-lt3+else-low-value, else-left-lt3-via-else-left-lt3, then-left-eq0-via-then-left-eq0, then-left-eq0-via-else-left-eq0+then-not-is_digit}

digit-low : (c : ℕ) → is_digit c ≡ true → 48 ≤ c
unfolding is_digit
digit-low c h = leb-true 48 c (both (leb 48 c) (leb c 57) h).0

pub returns-then-low-value : goal.returns-then-low-value
returns-then-low-value c =
    let a = c.args in
    let x = c.loop-next in
    let i = x.invariant in
    let p : x.next < length a.text.now = omega arith in
    let e : get_or a.text.now x.next 0 ≡ cond a.second 125 44 = c.if-c-end.true ∙ i.3 in
    let h : (ltb x.left 3 && leb a.low x.value) ≡ true = rw (lt-ltb x.left 3 c.if-left-lt3.true, le-leb a.low x.value c.if-low-value.true) in
    ((λ d l. i.4 d l ∙ num-ends a.text.now x.next a.second a.low x.left x.value d l p e h i.2), (omega arith, omega arith, i.2))

pub returns-then-c-end : goal.returns-then-c-end
returns-then-c-end c =
    let a = c.args in
    let x = c.loop-next in
    let i = x.invariant in
    let p : x.next < length a.text.now = omega arith in
    let e : get_or a.text.now x.next 0 ≡ cond a.second 125 44 = c.if-c-end.true ∙ i.3 in
    let h : (ltb x.left 3 && leb a.low x.value) ≡ false =
    elim c.else-left-lt3.branch [
      | else-left-lt3-via-then-left-lt3+else-low-value w ↦ rw (lt-ltb x.left 3 w.if-left-lt3.true, lt-leb a.low x.value w.if-low-value.false)
      | else-left-lt3-via-else-left-lt3 w ↦ rw (le-ltb x.left 3 w.if-left-lt3.false)
    ] in
    ((λ d l. i.4 d l ∙ num-refused a.text.now x.next a.second a.low x.left x.value d l p e h), tt)

pub returns-then-left-eq0 : goal.returns-then-left-eq0
returns-then-left-eq0 c =
    let a = c.args in
    let x = c.loop-next in
    let i = x.invariant in
    let p : x.next < length a.text.now = omega arith in
    let e : get_or a.text.now x.next 0 ≡ cond a.second 125 44 → ⊥ = λ z. c.if-c-end.false (z ∙ sym i.3) in
    elim c.then-left-eq0.branch [
      | then-left-eq0-via-then-left-eq0 w ↦ ((λ d l. i.4 d l ∙ num-none a.text.now x.next a.second a.low x.left x.value d l p e w.if-left-eq0.true), tt)
      | then-left-eq0-via-else-left-eq0+then-not-is_digit w ↦ ((λ d l. i.4 d l ∙ num-other a.text.now x.next a.second a.low x.left x.value d l p e w.if-left-eq0.false (sym w.is_digit.ensures ∙ w.if-not-is_digit.true)), tt)
    ]

pub overflow_sub-c : goal.overflow_sub-c
overflow_sub-c c = digit-low _ (sym c.is_digit.ensures ∙ c.if-not-is_digit.false)

pub returns-then-not-can_end : goal.returns-then-not-can_end
returns-then-not-can_end c =
    let a = c.args in
    let x = c.loop-next in
    let i = x.invariant in
    let p : x.next < length a.text.now = omega arith in
    let e : get_or a.text.now x.next 0 ≡ cond a.second 125 44 → ⊥ = λ z. c.if-c-end.false (z ∙ sym i.3) in
    let q : c.from.result ≡ get_or a.text.now x.next 0 - 48 = omega arith in
    let w : can a.low (x.left - 1) (10 * x.value + (get_or a.text.now x.next 0 - 48)) ≡ false = sym (ap (λ z. can a.low (x.left - 1) (10 * x.value + z)) q) ∙ sym c.can_end.ensures ∙ c.if-not-can_end.true in
    ((λ d l. i.4 d l ∙ num-over a.text.now x.next a.second a.low x.left x.value d l p e c.if-left-eq0.false (sym c.is_digit.ensures ∙ c.if-not-is_digit.false) w), tt)

pub loop-next-preserved : goal.loop-next-preserved
loop-next-preserved c =
    let a = c.args in
    let x = c.loop-next in
    let i = x.invariant in
    let T = a.text.now in
    let n = x.next in
    let p : n < length T = omega arith in
    let e : get_or T n 0 ≡ cond a.second 125 44 → ⊥ = λ z. c.if-c-end.false (z ∙ sym i.3) in
    let q : c.from.result ≡ get_or T n 0 - 48 = omega arith in
    let w : can a.low (x.left - 1) (10 * x.value + (get_or T n 0 - 48)) ≡ true = sym (ap (λ z. can a.low (x.left - 1) (10 * x.value + z)) q) ∙ sym c.can_end.ensures ∙ c.if-not-can_end.false in
    let s : 10 * x.value + (get_or T n 0 - 48) ≤ 300 = can-small a.low (x.left - 1) (10 * x.value + (get_or T n 0 - 48)) w in
    let g : is_digit (get_or T n 0) ≡ true = sym c.is_digit.ensures ∙ c.if-not-is_digit.false in
    (omega arith, omega arith, omega arith, i.3, λ d l. i.4 d l ∙ num-on T n a.second a.low x.left x.value d l p e c.if-left-eq0.false g w ∙ ap (λ z. verdict (live d (num a.second a.low (x.left - 1) (10 * x.value + z))) (n + 1) (drop (n + 1) T)) (sym q))

pub returns : goal.returns
returns c =
    let a = c.args in
    let x = c.loop-next in
    let i = x.invariant in
    let n : x.next ≡ length a.text.now = omega arith in
    ((λ d l. i.4 d l ∙ num-cut a.text.now x.next a.second a.low x.left x.value d l (omega arith) ∙ ap (λ z. (19, z)) n), tt)
