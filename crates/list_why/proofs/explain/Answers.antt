-- A refusal of 1 to 25, 26, or the run.
use Rattle.std.proofs.Common.{◌≡◌, refl, sym, ◌∙◌, ◌≤◌, ◌<◌, ◌-◌, ◌^◌, ℕ, List, length, arith}
use Rattle.std.proofs.lemmas.List.{length-take-le}
use Rattle.sets.specs.Set.{states, set_words, set_of}
use Rattle.sets.proofs.Whole.{valid-of}
use Rattle.sets.proofs.Sets.{words-lt}
use Rattle.rules.specs.Rules.{verdict}
use Rattle.list_why.specs.inner.Asked.{question}
use Rattle.list_why.specs.Reason.{front, place_rules}
use Rattle.list_why.proofs.Sources.{end_told, end-not}
use Rattle.list_why.proofs.Traces.{front-lt}
use Rattle.list_why.proofs.Explained.{refused-explains, none, told}
use Rattle.list_why.proofs.Placed.{Knows, knows}
use Rattle.list_why.proofs.explain.Goals as goal

-- past the check none of 1 to 6 and 25 refuses; the bytes up to the offset are bytes of the piece
passed : (L R : List ℕ) (at : ℕ) (piece : List ℕ) (k : ℕ) (out work : List ℕ) (r : ℕ) → r ≡ verdict (place_rules L R at piece k out work) → r ≡ 0
    → Knows L R at piece k out work
passed L R at piece k out work r e z = knows L R at piece k out work (sym e ∙ z)

within : (L R : List ℕ) (at : ℕ) (piece : List ℕ) (k : ℕ) (out work : List ℕ) → Knows L R at piece k out work → k - at ≤ length piece
within L R at piece k out work w = omega (arith, w.before, w.behind)

pub returns-then-refusal-ne-PASSED : goal.returns-then-refusal-ne-PASSED
returns-then-refusal-ne-PASSED c =
    let a = c.args in
    refused-explains a.list.now a.flow.now a.start a.piece.now (question a.asked) a.offset a.run.now a.work.now _ c.place_refusal-refusal.ensures c.if-refusal-ne-PASSED.true

pub overflow_sub-n : goal.overflow_sub-n
overflow_sub-n c = (passed _ _ _ _ _ _ _ _ c.place_refusal-refusal.ensures c.if-refusal-ne-PASSED.false).behind

pub from_bytes-first-requires : goal.from_bytes-first-requires
from_bytes-first-requires c =
    let w = passed _ _ _ _ _ _ _ _ c.place_refusal-refusal.ensures c.if-refusal-ne-PASSED.false in omega (arith, w.flow-long)

pub slice_bounds-front-end : goal.slice_bounds-front-end
slice_bounds-front-end c =
    let w = passed _ _ _ _ _ _ _ _ c.place_refusal-refusal.ensures c.if-refusal-ne-PASSED.false in
    sym (length-take-le _ _ (within _ _ _ _ _ _ _ w))

pub returns-in_default : goal.returns-in_default
returns-in_default c =
    let a = c.args in
    let f = c.from_bytes-first in
    let w = passed _ _ _ _ _ _ _ _ c.place_refusal-refusal.ensures c.if-refusal-ne-PASSED.false in
    let small : set_of f.result < 2 ^ states = words-lt set_words f.result.words (valid-of f.result _ f.type_inv) in
    let few = front-lt a.list.now (set_of f.result) a.piece.now small (a.offset - a.start) (within _ _ _ _ _ _ _ w) in
    let z = end-not a.list.now (front a.list.now (set_of f.result) a.piece.now (a.offset - a.start)) few (question a.asked) _ _ c.answering.ensures c.front.ensures c.in_default.is in
    none a.list.now a.flow.now a.start a.piece.now (question a.asked) a.offset a.run.now a.work.now w (set_of f.result) f.ensures small _ refl z

pub tell_run-requires : goal.tell_run-requires
tell_run-requires c =
    let a = c.args in
    let f = c.from_bytes-first in
    let w = passed _ _ _ _ _ _ _ _ c.place_refusal-refusal.ensures c.if-refusal-ne-PASSED.false in
    let small : set_of f.result < 2 ^ states = words-lt set_words f.result.words (valid-of f.result _ f.type_inv) in
    let n = within _ _ _ _ _ _ _ w in
    let few = front-lt a.list.now (set_of f.result) a.piece.now small (a.offset - a.start) n in
    let t = end_told a.list.now (front a.list.now (set_of f.result) a.piece.now (a.offset - a.start)) few (question a.asked) _ _ _ c.answering.ensures c.front.ensures c.in-Some.is in
    (n, w.states-fit, w.work-fits, t.2)

pub returns : goal.returns
returns c =
    let a = c.args in
    let f = c.from_bytes-first in
    let w = passed _ _ _ _ _ _ _ _ c.place_refusal-refusal.ensures c.if-refusal-ne-PASSED.false in
    let small : set_of f.result < 2 ^ states = words-lt set_words f.result.words (valid-of f.result _ f.type_inv) in
    let few = front-lt a.list.now (set_of f.result) a.piece.now small (a.offset - a.start) (within _ _ _ _ _ _ _ w) in
    let t = end_told a.list.now (front a.list.now (set_of f.result) a.piece.now (a.offset - a.start)) few (question a.asked) _ _ _ c.answering.ensures c.front.ensures c.in-Some.is in
    rw (c.tell_run.ensures.0, c.tell_run.ensures.1)
    (told a.list.now a.flow.now a.start a.piece.now (question a.asked) a.offset a.run.now a.work.now w (set_of f.result) f.ensures small c.in-Some.end t.0 (λ z. omega (arith, z, t.1)))
