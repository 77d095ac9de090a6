-- `fill_entry` writes the words, the set and the note, one after the other. Assumes nothing.
use borrow.Author.Rules.{rules}
use mathlib.Core.Path.{◌≡◌, ap, ap₂, ◌∙◌}
use mathlib.Core.Bool.{Bool}
use mathlib.Core.List.{List}
use Prim.Native.Nat.{ℕ, ◌+◌, ◌≤◌, ◌<◌}
use native.Mathlib.Omega.{arith}
use lib.ListN.{length}
use Rattle.numbers.specs.Number.{placed}
use Rattle.sets.specs.Set.{set_of, sig_bytes, sigs_of, within}
use Rattle.list.specs.Automaton.{step, named}
use Rattle.list.proofs.Steps.{step-lt}
use Rattle.table.specs.Table.{byte_values, split_set, part}
use Rattle.table_feed.proofs.Taking.{taken-most}
use Rattle.index.specs.Entry.{entry_size, sigs_place, cost_place}
use Rattle.index_fill.specs.Filled.{words_of, cost_of, note_of, entry_of}
use Rattle.index_fill.proofs.Filling.{led-by, words_same, entry-placed}
use Rattle.index_fill.proofs.fill_entry.Statement.{statement}
use Rattle.index_fill.proofs.fill_entry.Tie as tie

-- the ways back: from the split's set to the entry, from the steps to the set, from its signatures to the steps, and from its slots to the signatures
abbrev begun : tie.After-split_set-f → tie.Start
begun c = c.before.before.before.before.before.before.before

abbrev stepped : tie.After-fill_steps → tie.After-split_set-f
stepped c = c.before.before

abbrev worded : tie.After-accepted → tie.After-fill_words
worded c = c.before.before.before

abbrev stood : tie.After-accepted → tie.After-split_set-f
stood c = stepped (worded c).before.before.before.before

abbrev told : tie.After-taken → tie.After-accepted
told c = c.before.before.before.before.before

-- the sets of `work` are the steps
steps : (c : tie.After-fill_steps) → let a = (begun (stepped c)).args in (d : ℕ) → d < byte_values → part c.fill_steps.new.rows d ≡ step a.list.now (split_set a.splits.now a.i) d
steps c d h = let a = (begun (stepped c)).args in c.fill_steps.ensures.1 d h ∙ ap (λ (F : ℕ). step a.list.now F d) (stepped c).split_set-f.ensures

-- four slots at most
few : (c : tie.After-taken) → c.taken.result ≤ 4
few c = let a = (begun (stood (told c))).args in omega (arith, c.taken.ensures, taken-most a.splits.now a.i)

-- the note is the cost, and whether all states are named
noted : (c : tie.After-note) → let sp = stood (told c.before.before) in
    let a = (begun sp).args in
    sigs_of c.note.result ≡ note_of (cost_of a.m a.splits.now a.i) (within (set_of sp.split_set-f.result) (named a.list.now))
unfolding cost_of
noted c =
    let t = c.before.before in
    let sp = stood (told t) in
    let s = begun sp in
    c.note.ensures
    ∙ ap₂ (λ (n : ℕ) (b : Bool). note_of n b) (ap (λ (x : ℕ). s.args.m + x) t.taken.ensures) (c.covers.ensures ∙ ap (within (set_of sp.split_set-f.result)) s.requires.1)

entry-place-requires : tie.Need-entry_place-at-requires
entry-place-requires c κs = let s = c in omega (arith, s.requires.2, s.requires.6)

-- the entry that is written is within the index
inside : (c : tie.After-entry_place-at) → let s = c.before.before.before.before.before.before in c.entry_place-at.result + entry_size ≤ length s.args.index.now
inside c = omega (arith, c.entry_place-at.ensures, c.requires.7)

add-set-at : tie.Need-overflow_add-set_at
add-set-at c = omega (arith, inside c)

add-note-at : tie.Need-overflow_add-note_at
add-note-at c = omega (arith, inside c)

split-set-requires : tie.Need-split_set-f-requires
split-set-requires c κs = search rules

fill-steps-requires : tie.Need-fill_steps-requires
fill-steps-requires c κs = (begun c.before).requires.8

fill-words-requires : tie.Need-fill_words-requires
fill-words-requires c κs =
    let st = c.before.before.before in
    let s = begun (stepped st) in
    let a = s.args in
    let t = step a.list.now (split_set a.splits.now a.i) in
    let w = part st.fill_steps.new.rows in (
      s.requires.0,
      s.requires.2,
      s.requires.3,
      s.requires.4,
      omega (arith, st.fill_steps.ensures.0, s.requires.8),
      inside (stepped st).before,
      λ d h. (led-by t w a.lows.now d (steps st) h (s.requires.9 d h), rw (steps st d h) (step-lt a.list.now (split_set a.splits.now a.i) d)),
    )

accepted-requires : tie.Need-accepted-requires
accepted-requires c κs = search rules

store-requires : tie.Need-store-requires
store-requires c κs = search rules

taken-requires : tie.Need-taken-requires
taken-requires c κs = (begun (stood c.before.before.before.before)).requires.6

add-note : tie.Need-overflow_add-m
add-note c = omega (arith, few c, (begun (stood (told c))).requires.5)

covers-requires : tie.Need-covers-requires
covers-requires c κs = search rules

note-requires : tie.Need-note-requires
note-requires c κs = omega (arith, few c.before, (begun (stood (told c.before))).requires.5)

store-requires-2 : tie.Need-store-requires-2
store-requires-2 c κs = search rules

same_length : tie.Need-shape_of-work
same_length c = search rules

same-length-2 : tie.Need-shape_of-index
same-length-2 c = search rules

returns : tie.Need-returns
returns c =
    let note = c.before.before.before.before in
    let t = note.before.before in
    let acc = told t in
    let st = (worded acc).before.before.before.before in
    let sp = stood acc in
    let s = begun sp in
    let a = s.args in
    let F = set_of sp.split_set-f.result in
    let same : words_of a.list.now a.splits.now (part st.fill_steps.new.rows) byte_values ≡ words_of a.list.now a.splits.now (step a.list.now F) byte_values =
    words_same a.list.now a.splits.now (part st.fill_steps.new.rows) (step a.list.now F) byte_values st.fill_steps.ensures.1 in
    let place = sp.entry_place-at in
    let words = (worded acc).fill_words.ensures ∙ ap (λ (ws : List ℕ). placed a.index.now place.result ws) same in
    let set = t.store.ensures in (
      st.fill_steps.ensures.0,
      c.store-2.ensures
          ∙ ap (λ (Y : List ℕ). placed Y (place.result + cost_place) (sig_bytes (sigs_of note.note.result))) (set ∙ ap (λ (Y : List ℕ). placed Y (place.result + sigs_place) (sig_bytes (sigs_of acc.accepted.result))) words)
          ∙ entry-placed a.index.now a.list.now a.m a.splits.now a.i place.result (inside sp.before) F sp.split_set-f.ensures (sigs_of acc.accepted.result) acc.accepted.ensures
          (sigs_of note.note.result) (noted note)
          ∙ ap (λ (p : ℕ). placed a.index.now p (entry_of a.list.now a.m a.splits.now a.i)) place.ensures,
    )

pub fill_entry_spec : {M : Type 1} → statement M
fill_entry_spec =
    tie.close
    (tie.spec
    entry-place-requires
    add-set-at
    add-note-at
    split-set-requires
    fill-steps-requires
    fill-words-requires
    accepted-requires
    store-requires
    taken-requires
    add-note
    covers-requires
    note-requires
    store-requires-2
    same_length
    same-length-2
    returns)
