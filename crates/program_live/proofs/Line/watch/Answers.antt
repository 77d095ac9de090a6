-- `watch` meets its promise: the opening's text is handed over, and, unless it is the last or is cut, those of the run. Assumes nothing.
use Rattle.std.proofs.Common.{◌≡◌, ℕ, List, sym, ap, ◌∙◌}
use Rattle.program_turn.specs.Turn.{number_of}
use Rattle.program_turn.specs.State.{fresh_state}
use Rattle.program_turn.specs.Turn.{is_last, saves, saves_next}
use Rattle.program_live.proofs.Handing.{begun-last, begun-cut, begun-then}
use Rattle.program_live.proofs.Arrays.{on_one, on_two}
use Rattle.program_live.proofs.Line.watch.Goals as goal

pub returns-in_default : goal.returns-in_default
returns-in_default c =
    let a = c.args in
    let L = a.self.now.list.now in
    let fresh = (rw c.number.ensures at c.fresh_state.ensures) ∙ ap (λ (z : List ℕ). fresh_state L (number_of a.kind) z) c.state_buffer-state.ensures in
    on_one a.self.now.ends _ _ c.hand_over-taken.ensures.takes
    (λ input answers hand. begun-last _ (number_of a.kind) L input answers a.log.now _ fresh _ _ _ c.begin-said.ensures _ _ hand (ap is_last c.in_default.is))

pub returns-then-taken : goal.returns-then-taken
returns-then-taken c =
    let a = c.args in
    let L = a.self.now.list.now in
    let fresh = (rw c.number.ensures at c.fresh_state.ensures) ∙ ap (λ (z : List ℕ). fresh_state L (number_of a.kind) z) c.state_buffer-state.ensures in
    on_one a.self.now.ends _ _ c.hand_over-taken.ensures.takes
    (λ input answers hand. begun-cut _ (number_of a.kind) L input answers a.log.now _ fresh _ _ _ c.begin-said.ensures _ _ hand c.if-taken.true)

pub returns : goal.returns
returns c =
    let a = c.args in
    let L = a.self.now.list.now in
    let fresh = (rw c.number.ensures at c.fresh_state.ensures) ∙ ap (λ (z : List ℕ). fresh_state L (number_of a.kind) z) c.state_buffer-state.ensures in
    on_two a.self.now.ends _ _ _ c.hand_over-taken.ensures.takes c.run.ensures
    (λ input answers hand ran.
    let e : saves c.in-Some.next ≡ saves_next c.begin-said.result.next = sym (ap saves_next c.in-Some.is) in
    begun-then _ (number_of a.kind) L input answers a.log.now _ fresh _ _ _ c.begin-said.ensures _ _ hand (ap is_last c.in-Some.is) c.if-taken.false _ _
    (rw e at ran))
