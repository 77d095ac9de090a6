-- `survey_list` tests the rules in their order; the records passed are good, and the words hold what they name until all that is sought is found. Assumes nothing.
use borrow.Author.Rules.{rules}
use mathlib.Core.Path.{◌≡◌, refl, sym, ap, ◌∙◌}
use mathlib.Core.Bool.{Bool, true, false, ◌&&◌, not, true≢false, and-false}
use mathlib.Core.List.{List}
use Prim.Native.Nat.{ℕ, zero, ◌<◌, ◌≤◌, ◌-◌}
use native.Mathlib.Omega.{arith}
use native.Mathlib.Decide.{dec_lt}
use lib.ListN.{length}
use lib.Dec.{ltb}
use borrow.Author.Tests.{not-true, not-false, ltb-true, ltb-false}
use Rattle.numbers.specs.Number.{num}
use Rattle.sets.specs.Set.{set_words, set_at}
use Rattle.sets.proofs.Sets.{empty-words}
use Rattle.rules.specs.Scan.{every}
use Rattle.rules.proofs.Rules.{skip, stop, last}
use Rattle.rules.proofs.Scanning.{both, every-short}
use Rattle.list.specs.List.{records, good_record, bad_length, bad_record, no_start, list_refusal}
use Rattle.list.specs.Automaton.{named_by}
use Rattle.list.proofs.Listed.{no-start}
use Rattle.list.proofs.Named.{Seeks, by-none, seeks-more, seeks-end, surveys-not, surveys-all}
use Rattle.list.proofs.survey_list.Statement.{statement}
use Rattle.list.proofs.survey_list.Tie as tie

abbrev invariant-loop : tie.invariant-loop-known
invariant-loop list flow n w₀ known₀ i₀ w known i =
    (i ≤ n) × (length w ≡ set_words) × (every i (good_record list) ≡ true) × (num 64 w ≡ named_by list i) × Seeks list (set_at flow 0) i known

abbrev decreases-loop : tie.decreases-loop-known
decreases-loop list flow n w₀ known₀ i₀ w known i = n - i

-- the way back from the loop's head to where the length has passed, and to the entry
abbrev passed : tie.At-loop-known invariant-loop decreases-loop → tie.Else-bad_length invariant-loop decreases-loop
passed c = c.before.before.before

abbrev entry : tie.At-loop-known invariant-loop decreases-loop → tie.Start invariant-loop decreases-loop
entry c = (passed c).before.before.before.before

-- the length is good there
long : (c : tie.Else-bad_length invariant-loop decreases-loop) → bad_length c.args.list.now ≡ false
long c = sym c.bad_length.ensures ∙ c.if-bad_length.false

-- records i to e that are not all good refuse the list; all of them do not
bad : (L : List ℕ) (i e n : ℕ) (r : Bool) → e ≤ n → n ≡ records L → (every i (good_record L) && r) ≡ every e (good_record L) → r ≡ false → bad_record L ≡ true
unfolding bad_record
bad L i e n r l q f z =
    ap not (every-short e (records L) (good_record L) (omega (arith, l, q)) (sym f ∙ ap (λ (b : Bool). every i (good_record L) && b) z ∙ and-false (every i (good_record L))))

good : (L : List ℕ) (i n : ℕ) (r : Bool) → n ≡ records L → (every i (good_record L) && r) ≡ every n (good_record L) → every i (good_record L) ≡ true → r ≡ true → bad_record L ≡ false
unfolding bad_record
good L i n r q f g z =
    let e : every (records L) (good_record L) ≡ true = ap (λ (m : ℕ). every m (good_record L)) (sym q) ∙ sym f ∙ ap (λ (b : Bool). b && r) g ∙ z in
    ap not e

-- a list with a start record has a record
some-record : (L : List ℕ) → no_start L ≡ false → zero < records L
some-record L e =
    elim (dec_lt zero (records L)) [ yes l ↦ l | no n ↦ absurd (true≢false (sym ((no-start L).1 (λ i h. absurd (n (omega (arith, h))))) ∙ e)) ]

-- where the loop has ended and not all is found, all records are passed
ended : (known : Bool) (i n : ℕ) → i ≤ n → (not known && ltb i n) ≡ false → known ≡ false → i ≡ n
ended true i n l e t = absurd (true≢false t)
ended false i n l e t = omega (arith, l, ltb-false i n e)

bad-length-requires : tie.Need-bad_length-requires invariant-loop decreases-loop
bad-length-requires c κs = search rules

returns : tie.Need-returns-then-bad_length invariant-loop decreases-loop
returns c =
    let a = c.args in
    let e : list_refusal a.list.now ≡ 1 = stop 1 _ (sym c.bad_length.ensures ∙ c.if-bad_length.true) in
    surveys-not a.list.now (set_at a.flow.now 0) _ (λ z. omega (arith, e, z)) (sym e) refl

records-requires : tie.Need-records-n-requires invariant-loop decreases-loop
records-requires c κs = search rules

loop-holds : tie.Need-loop-known-init invariant-loop decreases-loop
unfolding every
loop-holds c = (search rules, search rules, refl, empty-words set_words ∙ sym (by-none _), ((λ t. absurd (true≢false (sym t))), λ t z. absurd (omega arith)))

block-end-requires : tie.Need-block_end-end-requires invariant-loop decreases-loop
block-end-requires c κs = let l = c.loop-known in ltb-true _ _ (both (not l.known) _ c.loop-known-test.true).1

slice-aggregate-put-from : tie.Need-slice_bounds-put_from-end invariant-loop decreases-loop
slice-aggregate-put-from c = search rules

put-from-requires : tie.Need-put_from-requires invariant-loop decreases-loop
put-from-requires c κs =
    let e = c.block_end-end.ensures in
    let h = c.before.before.before in
    (omega (arith, e.0), rw h.records-n.ensures at e.1, h.loop-known.invariant.1, h.loop-known.invariant.3)

returns-2 : tie.Need-returns-then-not-put_from invariant-loop decreases-loop
returns-2 c =
    let p = c.before.before in
    let b = p.before.before in
    let h = b.before.before in
    let a = (entry h).args in
    let n = h.records-n in
    let e : list_refusal a.list.now ≡ 2 =
    skip 1 _ (long (passed h)) ∙ stop 2 _ (bad a.list.now h.loop-known.i b.block_end-end.result n.result p.put_from.result b.block_end-end.ensures.1 n.ensures p.put_from.ensures.0 (not-true _ c.if-not-put_from.true-raw)) in
    surveys-not a.list.now (set_at a.flow.now 0) _ (λ z. omega (arith, e, z)) (sym e) refl

of-words-requires : tie.Need-of_words-requires invariant-loop decreases-loop
of-words-requires c κs = search rules

covers-whole-requires : tie.Need-covers_whole-known-requires invariant-loop decreases-loop
covers-whole-requires c κs = search rules

loop-less : tie.Need-loop-known-smaller invariant-loop decreases-loop
loop-less c =
    let b = c.before.before.before.before.before.before in
    omega (arith, b.block_end-end.ensures.0, b.block_end-end.ensures.1)

loop-again : tie.Need-loop-known-preserved invariant-loop decreases-loop
loop-again c =
    let p = c.before.before.before.before in
    let b = p.before.before in
    let h = b.before.before in
    let a = (entry h).args in
    let l = h.loop-known in
    let n = h.records-n in
    let good : p.put_from.result ≡ true = not-false _ c.if-not-put_from.false-raw in
    let named = p.put_from.ensures.1 good in (
      b.block_end-end.ensures.1,
      search rules,
      sym p.put_from.ensures.0 ∙ rw (good, l.invariant.2),
      named,
      seeks-more a.list.now (set_at a.flow.now 0) b.block_end-end.result _ (rw n.ensures at b.block_end-end.ensures.1)
          (c.covers_whole-known.ensures ∙ rw (c.of_words.ensures, named) refl),
    )

good-from-requires : tie.Need-good_from-requires invariant-loop decreases-loop
good-from-requires c κs = search rules

returns-3 : tie.Need-returns-then-not-good_from invariant-loop decreases-loop
returns-3 c =
    let f = c.before in
    let h = f.before.before in
    let a = (entry h).args in
    let n = h.records-n in
    let e : list_refusal a.list.now ≡ 2 =
    skip 1 _ (long (passed h)) ∙ stop 2 _ (bad a.list.now h.loop-known.i n.result n.result f.good_from.result (omega arith) n.ensures f.good_from.ensures (not-true _ c.if-not-good_from.true-raw)) in
    surveys-not a.list.now (set_at a.flow.now 0) _ (λ z. omega (arith, e, z)) (sym e) refl

no-start-requires : tie.Need-no_start-requires invariant-loop decreases-loop
no-start-requires c κs = search rules

-- past the loop and the rest all records are good
all-good : (c : tie.Else-not-good_from invariant-loop decreases-loop) → bad_record (entry c.before.before.before).args.list.now ≡ false
all-good c =
    let h = c.before.before.before in
    let n = h.records-n in
    good (entry h).args.list.now h.loop-known.i n.result c.good_from.result n.ensures c.good_from.ensures h.loop-known.invariant.2 (not-false _ c.if-not-good_from.false-raw)

returns-4 : tie.Need-returns-then-no_start invariant-loop decreases-loop
returns-4 c =
    let else = c.before.before in
    let h = else.before.before.before in
    let a = (entry h).args in
    let e : list_refusal a.list.now ≡ 3 = skip 1 _ (long (passed h)) ∙ skip 2 _ (all-good else) ∙ stop 3 _ (sym c.no_start.ensures ∙ c.if-no_start.true) in
    surveys-not a.list.now (set_at a.flow.now 0) _ (λ z. omega (arith, e, z)) (sym e) refl

returns-5 : tie.Need-returns invariant-loop decreases-loop
returns-5 c =
    let else = c.before.before in
    let h = else.before.before.before in
    let a = (entry h).args in
    let n = h.records-n in
    let start : no_start a.list.now ≡ false = sym c.no_start.ensures ∙ c.if-no_start.false in
    let e : list_refusal a.list.now ≡ 0 = skip 1 _ (long (passed h)) ∙ skip 2 _ (all-good else) ∙ last 3 start in
    surveys-all a.list.now (set_at a.flow.now 0) _ e refl
    (seeks-end a.list.now (set_at a.flow.now 0) h.loop-known.i h.loop-known.known (some-record a.list.now start) h.loop-known.invariant.4
    (λ t. ended h.loop-known.known h.loop-known.i n.result h.loop-known.invariant.0 else.loop-known-test.false t ∙ n.ensures))

pub survey_list_spec : {M : Type 1} → statement M
survey_list_spec =
    tie.close
    (tie.spec
    invariant-loop
    decreases-loop
    bad-length-requires
    returns
    records-requires
    loop-holds
    block-end-requires
    slice-aggregate-put-from
    put-from-requires
    returns-2
    of-words-requires
    covers-whole-requires
    loop-less
    loop-again
    good-from-requires
    returns-3
    no-start-requires
    returns-4
    returns-5)
