-- What the code of a turn says is what the definition says: lines, the last line, the state. Assumes nothing.
use Rattle.std.proofs.Common.{◌≡◌, ℕ, Option, Some, None, ◌++◌, ◌+◌, ◌*◌, ◌≤◌, Bool, true, false, eqb, List, length, take, sym, refl, ap, ◌∙◌, arith, length-take, eq-eqb, ne_eqb}
use Rattle.io.specs.Counts.{IsPrefixLen}
use Rattle.io.proofs.Counting.{prefix_len_of_le}
use Rattle.numbers.specs.Number.{placed, digits}
use Rattle.feed.specs.Opening.{Opening, Opens}
use Rattle.feed.specs.declared.Opened.{Opened}
use Rattle.list_flow.specs.Opening.{open_flow}
use Rattle.list_flow.proofs.Opening.{opened-fits}
use Rattle.program_text.specs.Text.{line_size, Puts}
use Rattle.program_text.proofs.Texts.{puts-after, puts-front}
use Rattle.program_turn.specs.State.{long_at, before_at, place_at, lines_at, flow_at, length_at, sum_at, kind_at, sum_of, plus_number, numbered, renew_on, is_state_of, fresh_state}
use Rattle.program_turn.specs.Turn.{Given, Gives, Says, no_words, no_record, most_pairs, text_size, lines_from, again_text, again_of, sent_again, told_of, saves, turn_text, is_told, is_end, given_of, last_turn, lines_turn, feed_turn, turn_of, open_turn}
use Rattle.program_turn.specs.declared.Given as given
use Rattle.program_turn.specs.declared.Said as said
use Rattle.program_turn.specs.declared.Next.{Next}
use Rattle.program_turn.specs.declared.Next.TheVariants.{Feed}

-- ---- the list of a state

pub fresh-is : (L S : List ℕ) (kind n : ℕ) (T U X : List ℕ) → T ≡ placed S length_at (digits 8 8 (length L)) → n ≡ sum_of L → U ≡ placed T sum_at (digits 8 8 n)
    → X ≡ placed U kind_at (digits 8 4 kind) → X ≡ fresh_state L kind S
fresh-is L S kind n T U X t e u x = x ∙ rw (u, t, e)

pub not_ours : (L S : List ℕ) (k : ℕ) → k ≡ long_at S length_at → (k ≡ length L → ⊥) → false ≡ is_state_of L S
unfolding is_state_of
not_ours L S k e h = rw (ne_eqb (long_at S length_at) (length L) (λ y. h (e ∙ y)))

pub ours-by : (L S : List ℕ) (k j n : ℕ) → k ≡ long_at S length_at → k ≡ length L → j ≡ long_at S sum_at → n ≡ sum_of L → eqb j n ≡ is_state_of L S
unfolding is_state_of
ours-by L S k j n e h f g = rw (eq-eqb (long_at S length_at) (length L) (sym e ∙ h), f, g)

-- ---- texts

-- lines, and `again` behind them
pub turn-puts : (before : ℕ) (ws : List ℕ) (n : ℕ) (told : Option ℕ) (text : List ℕ) (a r : ℕ) (T U : List ℕ) → n ≤ most_pairs → text_size ≤ length text
    → Puts (line_size * n) (lines_from before ws n) text 0 a T → Puts line_size (again_of told) T a r U
    → IsPrefixLen r U × (take r U ≡ lines_from before ws n ++ again_of told)
turn-puts before ws n told text a r T U l h p q =
    let b = puts-after (line_size * n) line_size (lines_from before ws n) (again_of told) text 0 a T r U (omega (arith, l, h)) p q in
    (prefix_len_of_le _ _ (omega (arith, b.0, b.1, b.3, l, h)), puts-front (line_size * n + line_size) _ text r U (omega (arith, l, h)) b)

-- what is told is the text of a turn
told-text : (keeping again : Bool) (start : ℕ) → again_of (told_of keeping (sent_again again start)) ≡ again_text (is_told keeping again) start
unfolding again_text is_told
told-text true true start = refl
told-text true false start = refl
told-text false true start = refl
told-text false false start = refl

-- the lines of a unit, or of the opening; the counts move on
pub says-lines : (keeping : Bool) (n done moved : ℕ) (ws S : List ℕ) (before k : ℕ) (sent told : Option ℕ) (next : Next) (buffer T U : List ℕ)
    → before ≡ long_at S before_at → told ≡ told_of keeping sent → IsPrefixLen k buffer → take k buffer ≡ lines_from before ws n ++ again_of told
    → T ≡ plus_number S place_at moved → U ≡ plus_number T lines_at k → saves next ≡ keeping
    → (again : Bool) (start : ℕ) → sent ≡ sent_again again start
    → Says (lines_turn keeping n done moved again ws S start) (record { length = k; next = Some next; done = done; again = sent }) buffer U
says-lines keeping n done moved ws S before k sent told next buffer T U e f c t p q v again start x =
    let w : again_of told ≡ again_text (is_told keeping again) start = ap again_of (f ∙ ap (told_of keeping) x) ∙ told-text keeping again start in
    let s : take k buffer ≡ turn_text (long_at S before_at) ws n (is_told keeping again) start = t ∙ rw (e, w) in
    let l : k ≡ length (turn_text (long_at S before_at) ws n (is_told keeping again) start) = omega (arith, c.0, length-take k buffer, ap length s) in
    record { last = refl; saving = v; done = refl; counts = c; text = s; saved = q ∙ rw (p, l) }

-- ---- a unit is fed

module _ (keeping : Bool) (L S : List ℕ) (start : ℕ) (rest S₁ S₂ : List ℕ) (first : S₁ ≡ numbered start S) (renews : S₂ ≡ renew_on S₁)
    (g : given.Given) (ws T : List ℕ) (gives : Gives (given_of L S₂ start rest no_words) start g ws T) (s : said.Said) (buffer X : List ℕ) where
  abbrev G : Given
  G = given_of L (renew_on (numbered start S)) start rest no_words

  pub gives_so : Gives G start g ws T
  gives_so = rw (renews, first) at gives

  pub feed-refused : (g.refusal ≡ 0 → ⊥) → Says (last_turn g.refusal T) s buffer X → Says (feed_turn keeping L S start rest) s buffer X
  unfolding feed_turn
  feed-refused z h =
      rw (ne_eqb G.refusal 0 (λ y. z (gives_so.refusal ∙ y)), ← gives_so.refusal, ← gives_so.saved) h

  pub feed-lines : g.refusal ≡ 0 → ((again : Bool) (n : ℕ) → g.again ≡ sent_again again n → Says (lines_turn keeping g.pairs g.done g.moved again ws T n) s buffer X)
      → Says (feed_turn keeping L S start rest) s buffer X
  unfolding feed_turn
  feed-lines z h =
      rw
      (eq-eqb G.refusal 0 (sym gives_so.refusal ∙ z), ← gives_so.pairs, ← gives_so.done, ← gives_so.moved, ← gives_so.words, ← gives_so.saved)
      (h G.again start gives_so.again)

-- ---- a turn

-- the state
pub turn-saves : (keeping : Bool) (L S : List ℕ) (more : Bool) (start : ℕ) (rest : List ℕ) (m n : ℕ) (text buffer : List ℕ) → length S ≤ length text → Puts m S text 0 n buffer
    → Says (turn_of keeping true L S more start rest) (record { length = n; next = Some Feed; done = 0; again = None }) buffer S
unfolding turn_of
turn-saves keeping L S more start rest m n text buffer l p =
    record {
      last = refl;
      saving = refl;
      done = refl;
      counts = prefix_len_of_le _ _ (omega (arith, p.0, p.3, l));
      text = puts-front (length S) S text n buffer l (p.0, omega arith, p.2, p.3);
      saved = refl;
    }

-- no unit was read
pub turn-none : (keeping : Bool) (L S : List ℕ) (start : ℕ) (rest : List ℕ) (s : said.Said) (buffer X : List ℕ)
    → Says (last_turn 0 S) s buffer X → Says (turn_of keeping false L S false start rest) s buffer X
unfolding turn_of is_end
turn-none keeping L S start rest s buffer X h = h

-- one was
module _ (keeping : Bool) (L S : List ℕ) (start : ℕ) (rest : List ℕ) (b : Bool) (ends : b ≡ is_end S true (length rest)) (s : said.Said) (buffer X : List ℕ) where
  pub turn-ends : b ≡ true → Says (last_turn 0 S) s buffer X → Says (turn_of keeping false L S true start rest) s buffer X
  unfolding turn_of
  turn-ends y h = rw (sym ends ∙ y) h

  pub turn-feeds : b ≡ false → Says (feed_turn keeping L S start rest) s buffer X → Says (turn_of keeping false L S true start rest) s buffer X
  unfolding turn_of
  turn-feeds y h = rw (sym ends ∙ y) h

-- ---- the opening

module _ (keeping : Bool) (L S : List ℕ) (f : Opened) (ws Q : List ℕ) (a : Opens (open_flow L no_record no_words) f ws Q) (s : said.Said) (buffer X : List ℕ) where
  abbrev o : Opening
  o = open_flow L no_record no_words

  pub open-refused : (f.refusal ≡ 0 → ⊥) → Says (last_turn f.refusal S) s buffer X → Says (open_turn keeping L S) s buffer X
  unfolding open_turn
  open-refused z h = rw (ne_eqb o.refusal 0 (λ y. z (a.refusal ∙ y)), ← a.refusal) h

  pub open-lines : (T : List ℕ) → f.refusal ≡ 0 → T ≡ placed S flow_at Q
      → ((again : Bool) (n : ℕ) → None ≡ sent_again again n → Says (lines_turn keeping f.pairs 0 0 again ws T n) s buffer X) → Says (open_turn keeping L S) s buffer X
  unfolding open_turn
  open-lines T z t h =
      let t' : T ≡ placed S flow_at o.saved = t ∙ rw a.saved in
      rw (eq-eqb o.refusal 0 (sym a.refusal ∙ z), ← a.pairs, ← a.words, ← t') (h false 0 refl)

pub open-fits : (L : List ℕ) (f : Opened) (ws Q : List ℕ) → Opens (open_flow L no_record no_words) f ws Q → 2 * f.pairs ≤ 2 * most_pairs
open-fits L f ws Q a = omega (arith, a.pairs, opened-fits L no_record no_words)
