-- A byte's pairs are all told, or none fit; and the frontier has no state past the words that are read.
use Rattle.std.proofs.Common.{rules, ◌≡◌, ◌+◌, ◌*◌, ◌/◌, ◌^◌, ◌≤◌, ◌<◌, false, length, get_or, refl, sym, ap, ◌∙◌, arith, Fits, w8}
use Rattle.sets.specs.Set.{states, set_words, set_at, meets}
use Rattle.sets.proofs.Sets.{words-lt, set-at-lt}
use Rattle.sets.proofs.Whole.{valid-of}
use Rattle.list.specs.Automaton.{accepted, accepting}
use Rattle.feed.specs.inner.Told.{TellsAll}
use Rattle.feed.proofs.Going.{start, finish}
use Rattle.feed.proofs.Looping.{rows-most, refused-free}
use Rattle.feed.proofs.Fitting.{told-as, goes_on, stops}
use Rattle.list_flow.proofs.Accepting.{all_quiet}
use Rattle.list_flow.proofs.Ending.{leaves}
use Rattle.matrix.specs.Matrix.{cell, union_over, matrix_step, matrixed}
use Rattle.matrix.proofs.Feeding.{matrix-cheap, reach-as}
use Rattle.matrix.proofs.feed_bytes.Goals as goal
use Rattle.matrix.proofs.feed_bytes.Goals.{then-meet, else-meet}

pub loop-i-init : goal.loop-i-init
loop-i-init c = (
  rw c.bytes_of-f.ensures (start (matrixed c.args.list.now c.args.matrix.now) _ c.args.offset c.args.piece.now c.args.pairs.now),
  omega arith,
  rw c.bytes_of-f.ensures (words-lt set_words c.args.first.words (valid-of c.args.first _ c.well_formed.1.1.1.0)),
  search rules,
)

pub overflow_add-rows : goal.overflow_add-rows
overflow_add-rows c =
    let cheap = matrix-cheap c.args.list.now c.args.matrix.now in
    let few : c.loop-i.rows ≤ states * c.loop-i.i = rows-most c.loop-i.invariant.0 states cheap (λ i. (c.type_inv.piece i).fits) in
    omega (arith, few, c.requires.0, c.step-s.ensures.rows, cheap (set_at c.loop-i.f 0))

pub loop-i-preserved : goal.loop-i-preserved
loop-i-preserved c =
    let L = c.args.list.now in
    let M = c.args.matrix.now in
    let l = c.loop-i in
    let b = c.step-s.result.next in
    let byte = get_or c.args.piece.now l.i 0 in
    let F = set_at b 0 in
    let moves : F ≡ matrix_step L M (set_at l.f 0) byte = c.step-s.ensures.next ∙ ap (union_over (λ s. cell M s byte) (set_at l.f 0)) c.requires.1 in
    let small : F < 2 ^ states = set-at-lt b 0 (λ i. let f : Fits w8 (get_or b i 0) = search rules in f.fits) in
    let unmet : c.meet.result ≡ false → (meets F (accepting L) ≡ false) × (F < 2 ^ (64 * ((c.args.n + 63) / 64))) =
    (λ e. let m = c.meet.ensures in
    let r = c.watched.ensures F small (rw c.bytes_of-watch.ensures at (sym m ∙ e)) in
    (rw c.accepting.ensures at r.0, r.1)) in
    let told : TellsAll (accepted L F) l.pairs l.words (c.args.offset + l.i + 1) c.if-meet.told c.if-meet.pairs =
    elim c.if-meet.branch [
      | then-meet w ↦ told-as w.pairs-is w.told-is (rw w.from_bytes.ensures at w.tell_accepted-told.ensures)
      | else-meet w ↦ told-as w.pairs-is w.told-is (all_quiet L F small (unmet w.if-meet.false).0 _ _ _)
    ] in
    let reaches : (c.if-meet.wide ≤ set_words) × (F < 2 ^ (64 * c.if-meet.wide)) =
    elim c.if-meet.branch [
      | then-meet w ↦ reach-as w.wide-is (omega arith, small)
      | else-meet w ↦ reach-as w.wide-is (omega (arith, c.requires.2), (unmet w.if-meet.false).1)
    ] in
    (goes_on l.invariant.0 (omega arith) told (ap (accepted L) moves) _ c.in-Some.is refl F moves c.step-s.result.rows c.step-s.ensures.rows, reaches.0, reaches.1, search rules)

pub returns-in_default : goal.returns-in_default
returns-in_default c =
    let L = c.args.list.now in
    let M = c.args.matrix.now in
    let l = c.loop-i in
    let b = c.step-s.result.next in
    let byte = get_or c.args.piece.now l.i 0 in
    let F = set_at b 0 in
    let moves : F ≡ matrix_step L M (set_at l.f 0) byte = c.step-s.ensures.next ∙ ap (union_over (λ s. cell M s byte) (set_at l.f 0)) c.requires.1 in
    let small : F < 2 ^ states = set-at-lt b 0 (λ i. let f : Fits w8 (get_or b i 0) = search rules in f.fits) in
    let unmet : c.meet.result ≡ false → (meets F (accepting L) ≡ false) × (F < 2 ^ (64 * ((c.args.n + 63) / 64))) =
    (λ e. let m = c.meet.ensures in
    let r = c.watched.ensures F small (rw c.bytes_of-watch.ensures at (sym m ∙ e)) in
    (rw c.accepting.ensures at r.0, r.1)) in
    let told : TellsAll (accepted L F) l.pairs l.words (c.args.offset + l.i + 1) c.if-meet.told c.if-meet.pairs =
    elim c.if-meet.branch [
      | then-meet w ↦ told-as w.pairs-is w.told-is (rw w.from_bytes.ensures at w.tell_accepted-told.ensures)
      | else-meet w ↦ told-as w.pairs-is w.told-is (all_quiet L F small (unmet w.if-meet.false).0 _ _ _)
    ] in
    let e = stops l.invariant.0 (omega arith) told (ap (accepted L) moves) c.in_default.is in
    leaves _ (rw (← c.from_bytes-in_default.ensures) at e.1) refl e.0 (refused-free l.i (length c.args.piece.now) _ refl)

pub returns : goal.returns
returns c =
    let l = c.loop-i in
    let e : l.i ≡ length c.args.piece.now = omega arith in
    leaves _ (rw (← c.from_bytes-2.ensures) at l.invariant.0) (sym e) (finish l.invariant.0 e) (refused-free l.i (length c.args.piece.now) _ refl)
