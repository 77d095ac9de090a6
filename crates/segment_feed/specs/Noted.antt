-- The note that the looks leave: that of the last feed among them, of what a feed says beside the rest of a record, from a stated start, of a piece, with the words to write to.
use Rattle.std.specs.Prelude.{ℕ, zero, suc, ◌*◌, ◌≡◌, cond, List, length, drop, ◌==◌}
use Rattle.feed.specs.Calls.{Way}
use Rattle.segment_feed.specs.Segment.{Sent, Kept, Look, due_of, looked, most_looks, at_door}
use Rattle.segment_feed.specs.Post.{Looked, Looks}

module _ {N : Type 0} (W : Way) (says : List ℕ → ℕ → List ℕ → List ℕ → N) (g : Sent) where
  -- after one look more, where n was noted before it: what its feed says, where the look follows and something is due
  unfoldable pub noted_more : Look → N → N
  noted_more l n =
      let K = l.heard.kept in
      let d = due_of W g K in
      cond l.on (cond (length d == 0) n (says K.flow (W.layout.offset K.flow) d (drop (2 * l.heard.pairs) l.heard.words))) n

  -- after k looks from l on, where n was noted before them
  unfoldable pub noted_after : ℕ → Look → N → N
  noted_after zero l n = n
  noted_after (suc k) l n = noted_more (looked k W g l) (noted_after k l n)

  abbrev pub noted_by : Kept → List ℕ → N → N
  noted_by S out n = noted_after most_looks (at_door W g S out) n

  -- the code of one look more, where it stands so far, leaves the note m
  abbrev pub Notes : Looked → List ℕ → List ℕ → List ℕ → N → N → Type 0
  Notes so ws R H n m = (l : Look) → Looks l so ws R H → m ≡ noted_more l n
