-- The demands are no empty promises: openings, and calls that follow, to which the theorems apply. Assumes nothing.
use Prim.Native.Nat.{ℕ, zero, suc, ◌<◌}
use mathlib.Core.Path.{◌≡◌, refl, sym, ◌∙◌}
use mathlib.Core.List.{List, [], ◌∷◌, ◌++◌}
use mathlib.Core.Logic.{inl, inr}
use native.Mathlib.Omega.{arith}
use lib.ListN.{replicate}
use lib.Dec.{lit<}
use Rattle.numbers.specs.Number.{digits}
use Rattle.sets.specs.Set.{set_bytes}
use Rattle.numbers.proofs.Laws.{small-digits}
use Rattle.list.specs.List.{bad_length}
use Rattle.rules.specs.Rules.{Rule, verdict}
use Rattle.rules.proofs.Rules.{stop}
use Rattle.feed.specs.Calls.{Bytes, asked, Pieces}
use Rattle.feed.proofs.Runs.{bytes-append}
use Rattle.list_flow.specs.Opening.{open_flow}
use Rattle.table.specs.Table.{table_refusal}
use Rattle.matrix.specs.Matrix.{filled}
use Rattle.index.specs.Stand.{stand_rules}
use Rattle.index.proofs.Sizes.{lists-said}
use Rattle.index.proofs.Lawful.{stand-passes}
use Rattle.index_fill.specs.Filled.{filled_index}
use Rattle.index_fill.proofs.Made.{filled-checked}
use Rattle.laws.specs.Calls.{Via, by_list, by_table, by_matrix, by_index, by_slots, Call, way_of}
use Rattle.laws.specs.Demands.{Flows, Demand2, Demand3, Swapped}
use Rattle.laws_examples.specs.Examples.{L, L₀, split_of₂, s0, s01, s02, T₃, T₁, a, b, room, full, begin, swaps}
use Rattle.laws_examples.proofs.Examples.{open-agrees, opened-agrees, accepted-agrees, accepted-agrees₁, accepted-agrees₀}
use Rattle.laws.proofs.Swapping.{demand-2-opened, demand-3, swapped}

-- four calls: "aba"; start 0 again, which is refused with 5; an empty list, which is refused with 1; then "b" from 3
abbrev fed : Via → List ℕ → ℕ → List ℕ → Call
fed via list at piece = record { by = record { list = list; via = via }; at = at; piece = piece; out = room 3 }

abbrev calls : Via → List Call
calls via = fed via L₀ 0 (a ∷ b ∷ a ∷ []) ∷ fed via L₀ 0 (b ∷ []) ∷ fed via [] 3 (b ∷ []) ∷ fed via L₀ 3 (b ∷ []) ∷ []

one : (x : ℕ) → x < 256 → Bytes (x ∷ [])
one x h zero = h
one x h (suc i) = lit< tt

three : Bytes (a ∷ b ∷ a ∷ [])
three zero = lit< tt
three (suc zero) = lit< tt
three (suc (suc zero)) = lit< tt
three (suc (suc (suc i))) = lit< tt

in_bytes : (via : Via) → Pieces (asked way_of) (calls via)
in_bytes via = (three, (one b (lit< tt), (one b (lit< tt), (one b (lit< tt), tt))))

-- the start state accepts, the table is accepted, and the opening passes: rows of the table of examples
one_number : (x y : ℕ) (xs ys : List ℕ) → x ∷ xs ≡ y ∷ ys → x ≡ y
one_number x y xs ys e = cc

accepts : table_refusal L₀ 2 T₃ ≡ 0
accepts = one_number (table_refusal L₀ 2 T₃) 0 [] [] accepted-agrees₀

passes : (begin full 5).refusal ≡ 0
passes = one_number (begin full 5).refusal 0 _ _ opened-agrees

-- a call whose first rule is that of a list of no records is refused
none : (P : Type 0) (rest : List Rule) → verdict ((1, bad_length []) ∷ rest) ≡ 0 → P
unfolding bad_length
none P rest v = absurd (omega (arith, sym (stop 1 _ refl) ∙ v))

pub plain-applies : Flows L₀ (begin full 5) (calls by_list) × Demand2 L₀ (begin full 5).saved (calls by_list)
plain-applies =
    demand-2-opened L₀ full (replicate 5 9) passes (calls by_list) (in_bytes by_list)
    (λ v. (refl, refl), (λ v. (refl, refl), (λ v. none _ _ v, (λ v. (refl, refl), tt))))

pub split-applies : Demand3 L₀ 2 T₃ (begin full 5) (calls (by_table 2 T₃))
split-applies =
    demand-3 L₀ 2 T₃ accepts full (replicate 5 9) passes (calls (by_table 2 T₃)) (in_bytes (by_table 2 T₃))
    (λ v. (refl, inl refl), (λ v. (refl, inl refl), (λ v. none _ _ v, (λ v. (refl, inl refl), tt))))

-- "abab" with the engine swapped twice
two : Bytes (a ∷ b ∷ [])
two zero = lit< tt
two (suc zero) = lit< tt
two (suc (suc i)) = lit< tt

opens : (open_flow L full []).refusal ≡ 0
opens = one_number (open_flow L full []).refusal 0 _ _ open-agrees

accepts₂ : table_refusal L 2 T₃ ≡ 0
accepts₂ = one_number (table_refusal L 2 T₃) 0 [] [] accepted-agrees

accepts₁ : table_refusal L 1 T₁ ≡ 0
accepts₁ = one_number (table_refusal L 1 T₁) 0 [] [] accepted-agrees₁

pub swapped-applies : Swapped L (open_flow L full []) swaps
swapped-applies =
    swapped L full [] opens swaps (one a (lit< tt), (one b (lit< tt), (two, tt)))
    (λ v. (refl, tt), (λ v. (refl, accepts₂), (λ v. (refl, accepts₁), tt)))

-- five calls, the first plain, the fourth through a table and the last by the list's matrix, and between them the two that are refused
abbrev mixed : List Call
mixed =
    fed by_list L₀ 0 (a ∷ b ∷ a ∷ []) ∷ fed by_list L₀ 0 (b ∷ []) ∷ fed (by_table 2 T₃) [] 3 (b ∷ [])
    ∷ fed (by_table 2 T₃) L₀ 3 (b ∷ []) ∷ fed (by_matrix (filled L₀)) L₀ 4 (b ∷ []) ∷ []

pub mixed-applies : Swapped L₀ (begin full 5) mixed
mixed-applies =
    swapped L₀ full (replicate 5 9) passes mixed (three, (one b (lit< tt), (one b (lit< tt), (one b (lit< tt), (one b (lit< tt), tt)))))
    (λ v. (refl, tt), (λ v. (refl, tt), (λ v. none _ _ v, (λ v. (refl, accepts), (λ v. (refl, refl), tt)))))

-- five calls of "abab": "a" plain; "b" by the index of T, from the split where the flow stands; an index of no bytes, which is refused with 8; "a" by the index of the table of bound 1,
-- from a hint that names no split, and "b" by the list's matrix
abbrev along : Via → ℕ → List ℕ → Call
along via at piece = record { by = record { list = L; via = via }; at = at; piece = piece; out = room 1 }

abbrev indexed : List Call
indexed =
    along by_list 0 (a ∷ []) ∷ along (by_index 2 (by_slots T₃) T₃.splits (filled_index L T₃) 1) 1 (b ∷ []) ∷ along (by_index 2 (by_slots T₃) T₃.splits [] 2) 2 (a ∷ [])
    ∷ along (by_index 1 (by_slots T₁) T₁.splits (filled_index L T₁) 9) 2 (a ∷ []) ∷ along (by_matrix (filled L)) 3 (b ∷ []) ∷ []

-- an index of no bytes is refused
no_index : (P : Type 0) (R : List ℕ) → verdict (stand_rules T₃.splits [] 2 R 2 (a ∷ [])) ≡ 0 → P
no_index P R v = absurd (omega (arith, (lists-said T₃.splits [] (stand-passes T₃.splits [] 2 R 2 (a ∷ []) v).3).long))

-- the splits of both tables are bytes
split-bytes : (n p q : ℕ) → Bytes (split_of₂ n p q)
split-bytes n p q =
    bytes-append (set_bytes n) (digits 8 2 p ++ (digits 8 2 q ++ digits 8 4 0xFFFFFFFF)) (small-digits 8 128 n)
    (bytes-append (digits 8 2 p) (digits 8 2 q ++ digits 8 4 0xFFFFFFFF) (small-digits 8 2 p) (bytes-append (digits 8 2 q) (digits 8 4 0xFFFFFFFF) (small-digits 8 2 q) (small-digits 8 4 0xFFFFFFFF)))

splits-bytes : (x y z : List ℕ) → Bytes x → Bytes y → Bytes z → Bytes (x ++ (y ++ z))
splits-bytes x y z p q r = bytes-append x (y ++ z) p (bytes-append y z q r)

bytes₃ : Bytes T₃.splits
bytes₃ = splits-bytes s0 s01 s02 (split-bytes 1 0 65535) (split-bytes 3 0 1) (split-bytes 5 0 2)

bytes₁ : Bytes T₁.splits
bytes₁ = splits-bytes (split_of₂ 1 0 65535) (split_of₂ 3 1 65535) (split_of₂ 5 2 65535) (split-bytes 1 0 65535) (split-bytes 3 1 65535) (split-bytes 5 2 65535)

pub indexed-applies : Swapped L (open_flow L full []) indexed
indexed-applies =
    swapped L full [] opens indexed (one a (lit< tt), (one b (lit< tt), (one a (lit< tt), (one a (lit< tt), (one b (lit< tt), tt)))))
    (λ v. (refl, tt), (λ v. (refl, filled-checked L 2 T₃ accepts₂ bytes₃ 1), (λ v. no_index _ _ v, (λ v. (refl, filled-checked L 1 T₁ accepts₁ bytes₁ 9), (λ v. (refl, refl), tt)))))

-- two calls through T at 2, split and then prepared
pub through-applies : Demand3 L 2 T₃ (open_flow L full []) (along (by_table 2 T₃) 0 (a ∷ []) ∷ along (by_index 2 (by_slots T₃) T₃.splits (filled_index L T₃) 1) 1 (b ∷ []) ∷ [])
through-applies =
    demand-3 L 2 T₃ accepts₂ full [] opens _ (one a (lit< tt), (one b (lit< tt), tt)) (λ v. (refl, inl refl), (λ v. (refl, inr (1, refl, bytes₃)), tt))
