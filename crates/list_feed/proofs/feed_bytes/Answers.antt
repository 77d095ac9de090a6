-- A byte's pairs are all told, or none fit; so each turn of the loop is a turn of the definition, and it ends where that does.
use Rattle.std.proofs.Common.{◌≡◌, ◌+◌, ◌*◌, ◌≤◌, length, refl, sym, ap, ◌∙◌, arith}
use Rattle.sets.specs.Set.{set_words, states, set_of}
use Rattle.sets.proofs.Sets.{words-lt}
use Rattle.sets.proofs.Whole.{valid-of}
use Rattle.list.specs.Automaton.{accepted}
use Rattle.feed.specs.inner.Told.{TellsAll}
use Rattle.feed.proofs.Going.{start, finish}
use Rattle.feed.proofs.Looping.{rows-most, refused-free}
use Rattle.feed.proofs.Fitting.{told-as, goes_on, stops}
use Rattle.list_flow.proofs.Accepting.{all_quiet}
use Rattle.list_flow.proofs.Ending.{leaves}
use Rattle.list_feed.specs.Plain.{plain}
use Rattle.list_feed.proofs.Plain.{plain-cheap}
use Rattle.list_feed.proofs.feed_bytes.Goals as goal
use Rattle.list_feed.proofs.feed_bytes.Goals.{then-meets, else-meets}

pub loop-i-init : goal.loop-i-init
loop-i-init c = start (plain c.args.list.now) (set_of c.args.first) c.args.offset c.args.piece.now c.args.pairs.now

pub returns-in_default : goal.returns-in_default
returns-in_default c =
    let L = c.args.list.now in
    let l = c.loop-i in
    let F = set_of c.step-next.result in
    let small = words-lt set_words c.step-next.result.words (valid-of c.step-next.result _ c.step-next.type_inv) in
    let told : TellsAll (accepted L F) l.pairs l.words (c.args.offset + l.i + 1) c.if-meets.told c.if-meets.pairs =
    elim c.if-meets.branch [
      | then-meets w ↦ told-as w.pairs-is w.told-is w.tell_accepted-told.ensures
      | else-meets w ↦ told-as w.pairs-is w.told-is (all_quiet L F small (rw c.accepting-accepting.ensures at (sym c.meets.ensures ∙ w.if-meets.false)) _ _ _)
    ] in
    let e = stops l.invariant (omega arith) told (ap (accepted L) c.step-next.ensures) c.in_default.is in
    leaves _ e.1 refl e.0 (refused-free l.i (length c.args.piece.now) _ refl)

pub overflow_add-rows : goal.overflow_add-rows
overflow_add-rows c =
    let few : c.loop-i.rows ≤ states * c.loop-i.i = rows-most c.loop-i.invariant states (plain-cheap c.args.list.now) (λ i. (c.type_inv.piece i).fits) in
    omega (arith, few, c.count.ensures, plain-cheap c.args.list.now (set_of c.loop-i.f))

pub loop-i-preserved : goal.loop-i-preserved
loop-i-preserved c =
    let L = c.args.list.now in
    let l = c.loop-i in
    let F = set_of c.step-next.result in
    let small = words-lt set_words c.step-next.result.words (valid-of c.step-next.result _ c.step-next.type_inv) in
    let told : TellsAll (accepted L F) l.pairs l.words (c.args.offset + l.i + 1) c.if-meets.told c.if-meets.pairs =
    elim c.if-meets.branch [
      | then-meets w ↦ told-as w.pairs-is w.told-is w.tell_accepted-told.ensures
      | else-meets w ↦ told-as w.pairs-is w.told-is (all_quiet L F small (rw c.accepting-accepting.ensures at (sym c.meets.ensures ∙ w.if-meets.false)) _ _ _)
    ] in
    goes_on l.invariant (omega arith) told (ap (accepted L) c.step-next.ensures) _ c.in-Some.is refl F c.step-next.ensures c.count.result c.count.ensures

pub returns : goal.returns
returns c =
    let l = c.loop-i in
    let e : l.i ≡ length c.args.piece.now = omega arith in
    leaves _ l.invariant (sym e) (finish l.invariant e) (refused-free l.i (length c.args.piece.now) _ refl)
