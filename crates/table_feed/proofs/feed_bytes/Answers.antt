-- `feed_bytes` meets its promise: its loop keeps `Going`.
use Rattle.std.proofs.Common.{◌≡◌, refl, sym, ap, ◌∙◌, true, false, ◌+◌, ◌^◌, ◌≤◌, ◌<◌, ◌*◌, inl, length, get_or, Fits, w64, rules, arith}
use Rattle.sets.specs.Set.{set_words, states, set_of}
use Rattle.sets.proofs.Sets.{words-lt}
use Rattle.list.specs.Automaton.{accepted}
use Rattle.feed.proofs.Going.{start, stop, finish}
use Rattle.feed.proofs.Looping.{rows-most, refused-halted, refused-free, refused-ended}
use Rattle.feed.specs.inner.Told.{TellsAll}
use Rattle.feed.proofs.Fitting.{told-as, goes_on, stops}
use Rattle.list_flow.proofs.Accepting.{all_quiet}
use Rattle.list_flow.proofs.Ending.{leaves}
use Rattle.table.specs.Table.{table}
use Rattle.table_feed.specs.Split.{split}
use Rattle.table_feed.proofs.Stepping.{split-cheap}
use Rattle.table_feed.proofs.feed_bytes.Goals.{Joined-meets, then-meets, else-meets}
use Rattle.table_feed.proofs.feed_bytes.Goals as goal

-- the step makes a set of states
small : (c : Joined-meets) → set_of c.in-Some.t.next < 2 ^ states
small c =
    let ws = c.in-Some.t.next.words in
    words-lt set_words ws (record { long = (let l : length ws ≡ set_words = search rules in l); small = λ i. let f : Fits w64 (get_or ws i 0) = search rules in f.fits })

-- all its pairs are told, or none fit
told : (c : Joined-meets)
    → TellsAll (accepted c.args.list.now (set_of c.in-Some.t.next)) c.loop-i.pairs c.loop-i.ran.words (c.args.offset + c.loop-i.i + 1) c.if-meets.told c.if-meets.pairs
told c =
    elim c.if-meets.branch [
      | then-meets w ↦ told-as w.pairs-is w.told-is w.tell_accepted-told.ensures
      | else-meets w ↦
          told-as w.pairs-is w.told-is (all_quiet c.args.list.now (set_of c.in-Some.t.next) (small c) (rw c.accepting-accepting.ensures at (sym c.meets.ensures ∙ w.if-meets.false)) _ _ _)
    ]

-- what is told is what the step tells
alerts : (c : Joined-meets)
    → accepted c.args.list.now (set_of c.in-Some.t.next)
    ≡ (split c.args.list.now c.args.bound (table c.args.classes.now c.args.parts.now c.args.rows.now c.args.splits.now)).alerts (set_of c.loop-i.ran.frontier) (get_or c.args.piece.now c.loop-i.i 0)
alerts c = ap (accepted c.args.list.now) c.in-Some.ensures.takes.1

pub loop-i-init : goal.loop-i-init
loop-i-init c =
    let a = c.args in
    (start (split a.list.now a.bound (table a.classes.now a.parts.now a.rows.now a.splits.now)) (set_of a.first) a.offset a.piece.now a.pairs.now, refl, refl)

pub returns-in_default : goal.returns-in_default
returns-in_default c =
    let l = c.loop-i in
    let halts = sym c.in_default.ensures.halts in
    leaves _ l.invariant.0 l.invariant.1 (stop l.invariant.0 c.loop-i-test.true (inl halts)) (refused-halted l.i (length c.args.piece.now) _ c.loop-i-test.true halts)

pub returns-in_default-told : goal.returns-in_default-told
returns-in_default-told c =
    let l = c.loop-i in
    let j = (goal.at.returns-in_default-told c).Joined-meets in
    let s = stops l.invariant.0 c.loop-i-test.true (told j) (alerts j) c.in_default-told.is in
    leaves _ s.1 l.invariant.1 s.0 (l.invariant.2 ∙ refused-free l.i (length c.args.piece.now) _ (sym c.in-Some.ensures.halts))

pub overflow_add-rows : goal.overflow_add-rows
overflow_add-rows c =
    let a = c.args in
    let l = c.loop-i in
    let T = table a.classes.now a.parts.now a.rows.now a.splits.now in
    let cost : c.in-Some.t.rows ≤ 4 = omega (arith, c.in-Some.ensures.takes.0, split-cheap T (set_of l.ran.frontier)) in
    let few : l.ran.rows ≤ 4 * l.i = rows-most l.invariant.0 4 (split-cheap T) (λ i. (c.type_inv.piece i).fits) in
    omega (arith, c.requires.0)

pub loop-i-preserved : goal.loop-i-preserved
loop-i-preserved c =
    let j = (goal.at.loop-i-preserved c).Joined-meets in
    let t = c.in-Some.t in
    let s = c.in-Some.ensures in (
      goes_on c.loop-i.invariant.0 c.loop-i-test.true (told j) (alerts j) _ c.in-Some-told.is (sym s.halts) (set_of t.next) s.takes.1 t.rows s.takes.0,
      refl,
      refl,
    )

pub returns : goal.returns
returns c =
    let l = c.loop-i in
    let e : l.i ≡ length c.args.piece.now = omega arith in
    leaves _ l.invariant.0 l.invariant.1 (finish l.invariant.0 e) (l.invariant.2 ∙ refused-ended l.i (length c.args.piece.now) _ e)
