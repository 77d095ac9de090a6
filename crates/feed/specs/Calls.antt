-- Calls on one saved flow, of any kind: what each consumes, tells and leaves of what is kept, and any number of them in a row. A feed as a way to call; and when one engine follows another.
use Rattle.std.specs.Prelude.{ℕ, ◌*◌, ◌<◌, ◌≡◌, List, [], ◌∷◌, ◌++◌, take, get_or}
use Rattle.rules.specs.Rules.{Rule}
use Rattle.feed.specs.Engine.{Engine, Layout, Outcome, feed}

-- a list of bytes
abbrev pub Bytes : List ℕ → Type 0
Bytes cs = (i : ℕ) → get_or cs i 0 < 256

-- ---- a way to feed: its rules, of a record, a stated start and a piece; what moves it; and how the record holds that

pub record Way : Type 1 where
  pub Config : Type 0
  pub rules : List ℕ → ℕ → List ℕ → List Rule
  pub engine : Engine Config
  pub layout : Layout Config

-- what a feed of the record R answers and leaves, from a stated start, with the words `out`
abbrev pub fed_by : Way → List ℕ → ℕ → List ℕ → List ℕ → Outcome
fed_by W R at piece out = feed (W.rules R at piece) W.engine W.layout R piece out

-- ---- a call on what is kept of a flow, of type S: a record, or a record and what is held beside it. Of a kind A of calls, `ask` says so of each

-- the bytes that it brings; and of what is kept: the bytes that it consumes, the words of the pairs that it tells, and what it leaves
pub record Asked (S : Type 0) : Type 0 where
  pub piece : List ℕ
  pub eaten : S → List ℕ
  pub spoken : S → List ℕ
  pub left : S → S

-- a call that answers and leaves an outcome of each record
abbrev pub asking : List ℕ → (List ℕ → Outcome) → Asked (List ℕ)
asking piece does =
    record { piece = piece; eaten = λ R. take (does R).bytes piece; spoken = λ R. take (2 * (does R).pairs) (does R).words; left = λ R. (does R).saved }

-- ---- a feed that a caller makes, by what he goes: the list or the lists, and the engine. Of a kind B of these, `way` says how each feeds

pub record Call (B : Type 0) : Type 0 where
  pub by : B
  pub at : ℕ
  pub piece : List ℕ
  pub out : List ℕ

-- what it answers, and leaves of the record R; its rules there; and the call that this is
abbrev pub outcome : {B : Type 0} → (B → Way) → List ℕ → Call B → Outcome
outcome way R c = fed_by (way c.by) R c.at c.piece c.out

abbrev pub ruled : {B : Type 0} → (B → Way) → List ℕ → Call B → List Rule
ruled way R c = (way c.by).rules R c.at c.piece

abbrev pub asked : {B : Type 0} → (B → Way) → Call B → Asked (List ℕ)
asked way c = asking c.piece (λ R. outcome way R c)

-- ---- one after the other, each on what the one before it left

-- what all of them leave
unfoldable pub record_after : {S A : Type 0} → (A → Asked S) → S → List A → S
record_after ask R [] = R
record_after ask R (c ∷ cs) = record_after ask ((ask c).left R) cs

-- the words of all pairs told, call after call
unfoldable pub all_told : {S A : Type 0} → (A → Asked S) → S → List A → List ℕ
all_told ask R [] = []
all_told ask R (c ∷ cs) = (ask c).spoken R ++ all_told ask ((ask c).left R) cs

-- all bytes consumed
unfoldable pub all_bytes : {S A : Type 0} → (A → Asked S) → S → List A → List ℕ
all_bytes ask R [] = []
all_bytes ask R (c ∷ cs) = (ask c).eaten R ++ all_bytes ask ((ask c).left R) cs

-- P holds of each call, at what it meets
abbrev pub Along : {S A : Type 0} → (A → Asked S) → (S → A → Type 0) → S → List A → Type 0
Along ask P R [] = Unit {0}
Along ask P R (c ∷ cs) = P R c × Along ask P ((ask c).left R) cs

-- each call's piece is bytes
abbrev pub Pieces : {S A : Type 0} → (A → Asked S) → List A → Type 0
Pieces ask [] = Unit {0}
Pieces ask (c ∷ cs) = Bytes (ask c).piece × Pieces ask cs

-- ---- one engine follows another

-- E follows G on related configurations: the same alerts, the same halts, and related again after a byte
pub record Follows {C D : Type 0} (E : Engine C) (G : Engine D) (Rel : C → D → Type 0) : Type 0 where
  pub same : (x : C) (y : D) (c : ℕ) → c < 256 → Rel x y → E.alerts x c ≡ G.alerts y c
  pub goes : (x : C) (y : D) → Rel x y → E.halts x ≡ G.halts y
  pub stays : (x : C) (y : D) (c : ℕ) → c < 256 → Rel x y → Rel (E.next x c) (G.next y c)

-- an engine with other costs
abbrev pub costing : {C : Type 0} → Engine C → (C → ℕ) → Engine C
costing G cost = record { next = G.next; alerts = G.alerts; cost = cost; halts = G.halts }
