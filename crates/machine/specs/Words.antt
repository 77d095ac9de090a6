-- The automaton with bits and counters in words, every size as a number: how the two lists write it down, what an instruction, a program and a
-- byte do, and what each refusal is given for. Each is beside the definition that computes it, and a law says that it is that (Said, Stepping).
use Rattle.std.specs.Prelude.{ℕ, suc, ◌+◌, ◌*◌, ◌/◌, ◌%◌, ◌≤◌, ◌<◌, ◌≡◌, true, false, List, [], ◌∷◌, ◌++◌, ◌⊎◌, ◌↔◌, length, get_or, replicate, take, drop}
use Rattle.numbers.specs.Number.{num}
use Rattle.sets.specs.Set.{size, holds}
use Rattle.rules.specs.Words.{Row}
use Rattle.feed.specs.Piece.{piece_words}
use Rattle.machine.specs.declared.Config.{Config}
use Rattle.machine.specs.Program.{kind_of, which_of, number_of}
use Rattle.machine.specs.Machine.{move, machine, first, first_alerts}

-- ---- the two lists, byte by byte

pub record Written : Type 0 where
  -- byte c leads from state q to the number of two bytes, low byte first; a state has 256 of them
  pub target : (M : List ℕ) (q c : ℕ) → 512 * q + 2 * c + 2 ≤ length M → move M q c ≡ get_or M (512 * q + 2 * c) 0 + 256 * get_or M (512 * q + 2 * c + 1) 0
  -- record j of the program of state q has four bytes: its kind, the bit or counter, and the number or signature, low byte first; a program has 8
  pub kind : (P : List ℕ) (q j : ℕ) → kind_of P (8 * q + j) ≡ get_or P (32 * q + 4 * j) 0
  pub which : (P : List ℕ) (q j : ℕ) → which_of P (8 * q + j) ≡ get_or P (32 * q + 4 * j + 1) 0
  pub number : (P : List ℕ) (q j : ℕ) → 32 * q + 4 * j + 4 ≤ length P → number_of P (8 * q + j) ≡ get_or P (32 * q + 4 * j + 2) 0 + 256 * get_or P (32 * q + 4 * j + 3) 0

-- ---- an instruction: kind k, bit or counter w, number or signature n

-- it makes y of the configuration x; what is not named here stays as it is
pub record Does (k w n : ℕ) (x y : Config) : Type 0 where
  -- 1 sets bit w, 2 clears it
  pub sets-bit : k ≡ 1 → w < 64 → holds y.bits w ≡ true
  pub clears-bit : k ≡ 2 → holds y.bits w ≡ false
  pub bits-stay : (t : ℕ) → ((k ≡ 1) ⊎ (k ≡ 2) → t ≡ w → ⊥) → holds y.bits t ≡ holds x.bits t
  -- 3 sets counter w to n, 4 turns it off, 5 lowers it by one: 0 becomes off, and off stays
  pub sets-counter : k ≡ 3 → w < length x.counters → get_or y.counters w 0 ≡ n
  pub turns-off : k ≡ 4 → w < length x.counters → get_or y.counters w 0 ≡ 65536
  pub lowers : (m : ℕ) → k ≡ 5 → w < length x.counters → get_or x.counters w 0 ≡ suc m → m < 65535 → get_or y.counters w 0 ≡ m
  pub lowers-none : k ≡ 5 → w < length x.counters → (get_or x.counters w 0 ≡ 0) ⊎ (get_or x.counters w 0 ≡ 65536) → get_or y.counters w 0 ≡ 65536
  pub counters-stay : (t : ℕ) → ((k ≡ 3) ⊎ ((k ≡ 4) ⊎ (k ≡ 5)) → t ≡ w → ⊥) → get_or y.counters t 0 ≡ get_or x.counters t 0
  pub state-stays : y.state ≡ x.state

-- it alerts g: 6 at once, 7 where bit w is set, 8 where counter w is 0
abbrev pub Alerts : ℕ → ℕ → ℕ → Config → ℕ → Type 0
Alerts k w n x g = (((k ≡ 6) ⊎ ((k ≡ 7) × (holds x.bits w ≡ true))) ⊎ ((k ≡ 8) × (get_or x.counters w 0 ≡ 0))) × (n ≡ g)

-- ---- a program, and a byte

-- the 8 records of state q, run in order on x, leave y and alert the set A
pub record InOrder (P : List ℕ) (q : ℕ) (x y : Config) (A : ℕ) : Type 0 where
  -- what the first so many of them leave: each meets what those before it left
  pub after : ℕ → Config
  pub begins : after 0 ≡ x
  pub goes : (j : ℕ) → j < 8 → Does (kind_of P (8 * q + j)) (which_of P (8 * q + j)) (number_of P (8 * q + j)) (after j) (after (suc j))
  pub ends : after 8 ≡ y
  -- a signature is alerted exactly where one of them alerts it, at what it meets
  pub alerts : (g : ℕ) → (holds A g ≡ true) ↔ ((j : ℕ) × (j < 8) × (g < 256) × Alerts (kind_of P (8 * q + j)) (which_of P (8 * q + j)) (number_of P (8 * q + j)) (after j) g)

-- byte c, at the configuration x
pub record OneByte (M P : List ℕ) (x : Config) (c : ℕ) : Type 0 where
  -- variables never steer a move: the new state is the target of the old state on the byte, and that of any other configuration in that state
  pub moves : ((machine M P).next x c).state ≡ move M x.state c
  pub unsteered : (y : Config) → y.state ≡ x.state → ((machine M P).next y c).state ≡ ((machine M P).next x c).state
  -- the new state's program meets the bits and counters from before the byte
  pub runs : InOrder P (move M x.state c) (record { state = move M x.state c; bits = x.bits; counters = x.counters }) ((machine M P).next x c) ((machine M P).alerts x c)

-- every byte; and at opening the program of state 0 meets clear bits and counters that are off
pub record Moving : Type 0 where
  pub each-byte : (M P : List ℕ) (x : Config) (c : ℕ) → OneByte M P x c
  pub opening : (P : List ℕ) → InOrder P 0 (record { state = 0; bits = 0; counters = replicate 16 65536 }) (first P) (first_alerts P)

-- ---- 24

-- a length is 0, that of more than 1,024 states, or no whole number of states; or there are more or fewer programs than states
abbrev pub Miscounted : List ℕ → List ℕ → Type 0
Miscounted M P = (((length M ≡ 0) ⊎ (524288 < length M)) ⊎ (length M % 512 ≡ 0 → ⊥)) ⊎ (length P ≡ 32 * (length M / 512) → ⊥)

-- byte c leads state q to what is no state
abbrev pub Astray : List ℕ → Type 0
Astray M = (q : ℕ) × (c : ℕ) × (q < length M / 512) × (c < 256) × (length M / 512 ≤ move M q c)

-- an instruction that is good: by its kind the bit, counter, number and signature that it names are there, and what it does not use is 0
abbrev pub Instruction : ℕ → ℕ → ℕ → Type 0
Instruction k w n =
    ((k ≡ 0) × (w ≡ 0) × (n ≡ 0))
    ⊎ ((((k ≡ 1) ⊎ (k ≡ 2)) × (w < 64) × (n ≡ 0))
    ⊎ (((k ≡ 3) × (w < 16) × (n < 65536))
    ⊎ ((((k ≡ 4) ⊎ (k ≡ 5)) × (w < 16) × (n ≡ 0))
    ⊎ (((k ≡ 6) × (w ≡ 0) × (n < 256))
    ⊎ (((k ≡ 7) × (w < 64) × (n < 256))
    ⊎ ((k ≡ 8) × (w < 16) × (n < 256)))))))

-- record j of the program of state q is not good
abbrev pub Faulty : List ℕ → List ℕ → Type 0
Faulty M P =
    (q : ℕ) × (j : ℕ) × (q < length M / 512) × (j < 8) × (Instruction (kind_of P (8 * q + j)) (which_of P (8 * q + j)) (number_of P (8 * q + j)) → ⊥)

-- ---- 4, when fed: another length, a state that is not in the table, a reserved byte that is not zero, or a counter over 65,536

-- the number of two or four bytes at a place
abbrev pub two : List ℕ → ℕ → ℕ
two R at = num 8 (take 2 (drop at R))

abbrev pub four : List ℕ → ℕ → ℕ
four R at = num 8 (take 4 (drop at R))

abbrev pub BadFlow : ℕ → List ℕ → Type 0
BadFlow n R = (((length R ≡ 80 → ⊥) ⊎ (n ≤ two R 0)) ⊎ (two R 2 ≡ 0 → ⊥)) ⊎ ((i : ℕ) × (i < 16) × (65536 < four R (16 + 4 * i)))

-- ---- the table of refusals: the check 24, opening 24, 4 and 15, the feed 24 and 4 to 6

abbrev pub machine_words : List ℕ → List ℕ → List Row
machine_words M P = (24, (Miscounted M P ⊎ Astray M) ⊎ Faulty M P) ∷ []

-- 15: fewer words than two for each signature that the start state's program alerts
abbrev pub open_words : List ℕ → List ℕ → List ℕ → List ℕ → List Row
open_words M P R out = machine_words M P ++ ((4, length R ≡ 80 → ⊥) ∷ (15, length out < 2 * size 256 (first_alerts P)) ∷ [])

abbrev pub feed_words : List ℕ → List ℕ → List ℕ → ℕ → List ℕ → List Row
feed_words M P R k piece = machine_words M P ++ ((4, BadFlow (length M / 512) R) ∷ piece_words (four R 4) k piece)
