-- The parts of a state of a line of segments: what the first number, a renewal and a turn put into it, and that all else stays. Assumes nothing.
use Prim.Native.Nat.{ℕ, ◌+◌, ◌-◌, ◌%◌, ◌<◌}
use mathlib.Core.Path.{◌≡◌, refl, ap, ◌∙◌}
use mathlib.Core.List.{List, [], ◌∷◌}
use native.Mathlib.Omega.{arith}
use lib.ListN.{length, take, replicate, length-replicate}
use lib.Seq.{take_all}
use Rattle.numbers.specs.Number.{num, digits, placed}
use Rattle.numbers.proofs.Laws.{num-digits, length_digits}
use Rattle.list_flow.specs.Flow.{flow_size}
use Rattle.segment.specs.Resend.{circle, held_size}
use Rattle.segment_feed.specs.Segment.{Kept}
use Rattle.segment_feed.specs.Post.{kept}
use Rattle.program_turn.specs.State.{state_size, whole_numbers, long_at, word_at, short_at, flow_of, held_of, kind_at, first_at, held_start_at, held_length_at, before_at, place_at, lines_at, flow_at, held_at, plus_number, kept_state, fresh_state}
use Rattle.program_live_laws.proofs.Parts.{Put, number, all_put, Fit, put-size, put_other, put_same, zeros-drop, fresh-size, fresh-kind, fresh-part, fresh-number}

-- its kind, the first number, the bytes before the last renewal, the length of the lines, and what is kept of the flow
pub record Marks (T : List ℕ) (kind first b n : ℕ) (K : Kept) : Type 0 where
  pub size : length T ≡ state_size
  pub kinds : word_at T kind_at ≡ kind
  pub firsts : short_at T first_at ≡ first
  pub before : long_at T before_at ≡ b
  pub lines : long_at T lines_at ≡ n
  pub flow : flow_of T ≡ K.flow
  pub held : held_of T ≡ K.held
  pub start : short_at T held_start_at ≡ K.start
  pub long : short_at T held_length_at ≡ K.length

-- what is kept of the flow
abbrev pub kept_in : List ℕ → Kept
kept_in S = kept (flow_of S) (held_of S) (short_at S held_start_at) (short_at S held_length_at)

pub marks-kept : {T : List ℕ} {kind first b n : ℕ} {K : Kept} → Marks T kind first b n K → kept_in T ≡ K
marks-kept {K = K} m = rw (m.flow, m.held, m.start, m.long)

-- as it stands
pub marks-of : (S : List ℕ) → length S ≡ state_size → Marks S (word_at S kind_at) (short_at S first_at) (long_at S before_at) (long_at S lines_at) (kept_in S)
marks-of S z = record { size = z; kinds = refl; firsts = refl; before = refl; lines = refl; flow = refl; held = refl; start = refl; long = refl }

-- a number of 4 bytes
short-same : (v : ℕ) → v < circle → num 8 (digits 8 4 v) % circle ≡ v
short-same v l = ap (λ (x : ℕ). x % circle) (num-digits 8 4 v l) ∙ omega (arith, l)

-- the first number
pub marks-numbered : {S : List ℕ} {kind first b n : ℕ} {K : Kept} (v : ℕ) → v < circle → Marks S kind first b n K
    → Marks (placed (placed S first_at (digits 8 4 v)) kind_at (digits 8 4 2)) 2 v b n K
marks-numbered {S = S} v l m =
    let p : Put = number first_at 4 v in
    let q : Put = number kind_at 4 2 in
    let ps : List Put = p ∷ q ∷ [] in
    let g : Fit (q ∷ []) = (length_digits 8 4 2, refl, tt) in
    let f : Fit ps = (length_digits 8 4 v, refl, g) in
    let other = put_other ps S m.size f in
    record {
      size = put-size ps S ∙ m.size;
      kinds = ap (num 8) (put_same q [] (placed S first_at (digits 8 4 v)) (put-size (p ∷ []) S ∙ m.size) g refl) ∙ num-digits 8 4 2 (omega arith);
      firsts = ap (λ (x : List ℕ). num 8 x % circle) (put_same p (q ∷ []) S m.size f refl) ∙ short-same v l;
      before = ap (num 8) (other before_at 8 refl) ∙ m.before;
      lines = ap (num 8) (other lines_at 8 refl) ∙ m.lines;
      flow = other flow_at flow_size refl ∙ m.flow;
      held = other held_at held_size refl ∙ m.held;
      start = ap (λ (x : List ℕ). num 8 x % circle) (other held_start_at 4 refl) ∙ m.start;
      long = ap (λ (x : List ℕ). num 8 x % circle) (other held_length_at 4 refl) ∙ m.long;
    }

-- a count of 8 bytes to which c is added
plus-is : (S : List ℕ) (at a c : ℕ) → long_at S at ≡ a → a + c < whole_numbers → num 8 (digits 8 8 ((long_at S at + c) % whole_numbers)) ≡ a + c
plus-is S at a c e l =
    let v : (long_at S at + c) % whole_numbers ≡ a + c = rw e (omega (arith, l)) in
    rw v (num-digits 8 8 (a + c) l)

-- a renewal: another record, the bytes before it, and the first number
pub marks-renewed : {S : List ℕ} {kind first b n : ℕ} {K : Kept} (R : List ℕ) (o v : ℕ) → length R ≡ flow_size → b + o < whole_numbers → v < circle → Marks S kind first b n K
    → Marks (placed (plus_number (placed S flow_at R) before_at o) first_at (digits 8 4 v)) kind v (b + o) n (record { flow = R; held = K.held; start = K.start; length = K.length })
marks-renewed {S = S} {b = b} R o v r l h m =
    let T₁ = placed S flow_at R in
    let w = (long_at T₁ before_at + o) % whole_numbers in
    let p : Put = record { at = flow_at; size = flow_size; bytes = R } in
    let q : Put = number before_at 8 w in
    let t : Put = number first_at 4 v in
    let ps : List Put = p ∷ q ∷ t ∷ [] in
    let g₂ : Fit (t ∷ []) = (length_digits 8 4 v, refl, tt) in
    let g₁ : Fit (q ∷ t ∷ []) = (length_digits 8 8 w, refl, g₂) in
    let f : Fit ps = (r, refl, g₁) in
    let other = put_other ps S m.size f in
    let s₁ = put-size (p ∷ []) S ∙ m.size in
    let b₁ : long_at T₁ before_at ≡ b = ap (num 8) (put_other (p ∷ []) S m.size (r, refl, tt) before_at 8 refl) ∙ m.before in
    record {
      size = put-size ps S ∙ m.size;
      kinds = ap (num 8) (other kind_at 4 refl) ∙ m.kinds;
      firsts =
          ap (λ (x : List ℕ). num 8 x % circle) (put_same t [] (placed T₁ before_at (digits 8 8 w)) (put-size (p ∷ q ∷ []) S ∙ m.size) g₂ refl)
          ∙ short-same v h;
      before = ap (num 8) (put_same q (t ∷ []) T₁ s₁ g₁ refl) ∙ plus-is T₁ before_at b o b₁ l;
      lines = ap (num 8) (other lines_at 8 refl) ∙ m.lines;
      flow = put_same p (q ∷ t ∷ []) S m.size f refl;
      held = other held_at held_size refl ∙ m.held;
      start = ap (λ (x : List ℕ). num 8 x % circle) (other held_start_at 4 refl) ∙ m.start;
      long = ap (λ (x : List ℕ). num 8 x % circle) (other held_length_at 4 refl) ∙ m.long;
    }

-- what is kept fits its places
pub record Sized (K : Kept) : Type 0 where
  pub flow : length K.flow ≡ flow_size
  pub held : length K.held ≡ held_size
  pub start : K.start < circle
  pub long : K.length < circle

-- a turn: what is kept then, the place in the line, and the length of the lines
pub marks-turned : {S : List ℕ} {kind first b n : ℕ} {K : Kept} (J : Kept) (c t : ℕ) → Sized J → n + t < whole_numbers → Marks S kind first b n K
    → Marks (plus_number (plus_number (kept_state S J.flow J.held J.start J.length) place_at c) lines_at t) kind first b (n + t) J
marks-turned {S = S} {n = n} J c t z l m =
    let p₁ : Put = record { at = flow_at; size = flow_size; bytes = J.flow } in
    let p₂ : Put = record { at = held_at; size = held_size; bytes = J.held } in
    let p₃ : Put = number held_start_at 4 J.start in
    let p₄ : Put = number held_length_at 4 J.length in
    let T₄ = kept_state S J.flow J.held J.start J.length in
    let w = (long_at T₄ place_at + c) % whole_numbers in
    let T₅ = plus_number T₄ place_at c in
    let y = (long_at T₅ lines_at + t) % whole_numbers in
    let p₅ : Put = number place_at 8 w in
    let p₆ : Put = number lines_at 8 y in
    let ps : List Put = p₁ ∷ p₂ ∷ p₃ ∷ p₄ ∷ p₅ ∷ p₆ ∷ [] in
    let f₆ : Fit (p₆ ∷ []) = (length_digits 8 8 y, refl, tt) in
    let f₅ : Fit (p₅ ∷ p₆ ∷ []) = (length_digits 8 8 w, refl, f₆) in
    let f₄ : Fit (p₄ ∷ p₅ ∷ p₆ ∷ []) = (length_digits 8 4 J.length, refl, f₅) in
    let f₃ : Fit (p₃ ∷ p₄ ∷ p₅ ∷ p₆ ∷ []) = (length_digits 8 4 J.start, refl, f₄) in
    let f₂ : Fit (p₂ ∷ p₃ ∷ p₄ ∷ p₅ ∷ p₆ ∷ []) = (z.held, refl, f₃) in
    let f : Fit ps = (z.flow, refl, f₂) in
    let other = put_other ps S m.size f in
    let early : Fit (p₁ ∷ p₂ ∷ p₃ ∷ p₄ ∷ p₅ ∷ []) = (z.flow, refl, (z.held, refl, (f₃.0, refl, (f₄.0, refl, (f₅.0, refl, tt))))) in
    let n₅ : long_at T₅ lines_at ≡ n = ap (num 8) (put_other (p₁ ∷ p₂ ∷ p₃ ∷ p₄ ∷ p₅ ∷ []) S m.size early lines_at 8 refl) ∙ m.lines in
    record {
      size = put-size ps S ∙ m.size;
      kinds = ap (num 8) (other kind_at 4 refl) ∙ m.kinds;
      firsts = ap (λ (x : List ℕ). num 8 x % circle) (other first_at 4 refl) ∙ m.firsts;
      before = ap (num 8) (other before_at 8 refl) ∙ m.before;
      lines = ap (num 8) (put_same p₆ [] T₅ (put-size (p₁ ∷ p₂ ∷ p₃ ∷ p₄ ∷ p₅ ∷ []) S ∙ m.size) f₆ refl) ∙ plus-is T₅ lines_at n t n₅ l;
      flow = put_same p₁ (p₂ ∷ p₃ ∷ p₄ ∷ p₅ ∷ p₆ ∷ []) S m.size f refl;
      held = put_same p₂ (p₃ ∷ p₄ ∷ p₅ ∷ p₆ ∷ []) (all_put S (p₁ ∷ [])) (put-size (p₁ ∷ []) S ∙ m.size) f₂ refl;
      start =
          ap (λ (x : List ℕ). num 8 x % circle) (put_same p₃ (p₄ ∷ p₅ ∷ p₆ ∷ []) (all_put S (p₁ ∷ p₂ ∷ [])) (put-size (p₁ ∷ p₂ ∷ []) S ∙ m.size) f₃ refl)
          ∙ short-same J.start z.start;
      long =
          ap (λ (x : List ℕ). num 8 x % circle) (put_same p₄ (p₅ ∷ p₆ ∷ []) (all_put S (p₁ ∷ p₂ ∷ p₃ ∷ [])) (put-size (p₁ ∷ p₂ ∷ p₃ ∷ []) S ∙ m.size) f₄ refl)
          ∙ short-same J.length z.long;
    }

-- what is kept then has no say in the bytes before the last renewal
pub kept-before : {S : List ℕ} {kind first b n : ℕ} {K : Kept} (J : Kept) → Sized J → Marks S kind first b n K
    → long_at (kept_state S J.flow J.held J.start J.length) before_at ≡ b
kept-before {S = S} J z m =
    let ps : List Put =
    record { at = flow_at; size = flow_size; bytes = J.flow } ∷ record { at = held_at; size = held_size; bytes = J.held } ∷ number held_start_at 4 J.start ∷ number held_length_at 4 J.length ∷ [] in
    ap (num 8) (put_other ps S m.size (z.flow, refl, (z.held, refl, (length_digits 8 4 J.start, refl, (length_digits 8 4 J.length, refl, tt)))) before_at 8 refl) ∙ m.before

-- an opening: the record, and the length of the lines
pub marks-opened : {S : List ℕ} {kind first b n : ℕ} {K : Kept} (R : List ℕ) (c t : ℕ) → length R ≡ flow_size → n + t < whole_numbers → Marks S kind first b n K
    → Marks (plus_number (plus_number (placed S flow_at R) place_at c) lines_at t) kind first b (n + t) (record { flow = R; held = K.held; start = K.start; length = K.length })
marks-opened {S = S} {n = n} R c t r l m =
    let T₁ = placed S flow_at R in
    let w = (long_at T₁ place_at + c) % whole_numbers in
    let T₂ = plus_number T₁ place_at c in
    let y = (long_at T₂ lines_at + t) % whole_numbers in
    let p₁ : Put = record { at = flow_at; size = flow_size; bytes = R } in
    let p₂ : Put = number place_at 8 w in
    let p₃ : Put = number lines_at 8 y in
    let ps : List Put = p₁ ∷ p₂ ∷ p₃ ∷ [] in
    let f₃ : Fit (p₃ ∷ []) = (length_digits 8 8 y, refl, tt) in
    let f : Fit ps = (r, refl, (length_digits 8 8 w, refl, f₃)) in
    let other = put_other ps S m.size f in
    let n₂ : long_at T₂ lines_at ≡ n = ap (num 8) (put_other (p₁ ∷ p₂ ∷ []) S m.size (r, refl, (length_digits 8 8 w, refl, tt)) lines_at 8 refl) ∙ m.lines in
    record {
      size = put-size ps S ∙ m.size;
      kinds = ap (num 8) (other kind_at 4 refl) ∙ m.kinds;
      firsts = ap (λ (x : List ℕ). num 8 x % circle) (other first_at 4 refl) ∙ m.firsts;
      before = ap (num 8) (other before_at 8 refl) ∙ m.before;
      lines = ap (num 8) (put_same p₃ [] T₂ (put-size (p₁ ∷ p₂ ∷ []) S ∙ m.size) f₃ refl) ∙ plus-is T₂ lines_at n t n₂ l;
      flow = put_same p₁ (p₂ ∷ p₃ ∷ []) S m.size f refl;
      held = other held_at held_size refl ∙ m.held;
      start = ap (λ (x : List ℕ). num 8 x % circle) (other held_start_at 4 refl) ∙ m.start;
      long = ap (λ (x : List ℕ). num 8 x % circle) (other held_length_at 4 refl) ∙ m.long;
    }

-- a fresh state
pub marks-fresh : (L : List ℕ) (kind : ℕ) → kind < circle
    → let F = fresh_state L kind (replicate state_size 0) in Marks F kind 0 0 0 (record { flow = flow_of F; held = replicate held_size 0; start = 0; length = 0 })
marks-fresh L kind l =
    record {
      size = fresh-size L kind;
      kinds = fresh-kind L kind l;
      firsts = ap (λ (x : ℕ). x % circle) (fresh-number L kind first_at 4 refl);
      before = fresh-number L kind before_at 8 refl;
      lines = fresh-number L kind lines_at 8 refl;
      flow = refl;
      held = fresh-part L kind held_at held_size refl ∙ ap (take {A = ℕ} held_size) (zeros-drop held_at state_size) ∙ all_of;
      start = ap (λ (x : ℕ). x % circle) (fresh-number L kind held_start_at 4 refl);
      long = ap (λ (x : ℕ). x % circle) (fresh-number L kind held_length_at 4 refl);
    }
  where
    all_of : take {A = ℕ} held_size (replicate (state_size - held_at) 0) ≡ replicate held_size 0
    all_of = take_all held_size (replicate held_size 0) (omega (arith, length-replicate {A = ℕ} held_size 0))
