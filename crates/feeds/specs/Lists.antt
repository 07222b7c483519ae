-- Lists of feeds: each is a feed on the session that the one before returned, with its own input and output, and each
-- step is the feed's own `ensures` clause. So what is shown of a list is shown of the code.
use Rattle.std.specs.Prelude.{ℕ, zero, suc, ◌+◌, Bool, cond, List, [], ◌∷◌, ◌++◌, eqb, length, take, drop}
use Rattle.bits.specs.Texts.{bits}
use Rattle.calls.specs.Calls.{Calls}
use Rattle.rules.specs.Rules.{units_in}
use Rattle.modes.specs.declared.session.Session.{Session}
use Rattle.modes.specs.declared.session.Fed.{Fed}
use Rattle.modes.specs.Sessions.{FedBy, session_register}
use Rattle.feeds.specs.Machine.{Opening, Machine, machine_start, machine_number, machine_feed, feed_registers}

-- One feed: what it was handed, what it returned, and the output afterwards.
pub record Call : Type 0 where
  pub input : List ℕ
  pub count : ℕ
  pub out : List ℕ
  pub place : ℕ
  pub result : Fed
  pub after : List ℕ

-- The call, made on the session s: the feed's own `ensures` clause.
abbrev pub FedCall : Session → Call → Type 0
FedCall s c = FedBy s c.input c.count c.out c.place c.result c.after

-- It leaves the session that it returned.
pub data Feed : Session → Call → Session → Type 0 where
  fed : {s : Session} {c : Call} → FedCall s c → Feed s c c.result.session

-- The feeds, one after the other, take the session s to the session `end`.
abbrev pub Feeds : Session → List Call → Session → Type 0
Feeds = Calls Feed

-- The bits that a call was fed, and those that it wrote, where it was accepted.
unfoldable pub accepted : Call → Bool
accepted c = eqb c.result.number 0

unfoldable pub fed_bits : Call → List Bool
fed_bits c = cond (accepted c) (take c.count (bits c.input)) []

unfoldable pub written_bits : Call → List Bool
written_bits c = cond (accepted c) (take c.count (bits (drop c.place c.after))) []

-- Joined in order.
unfoldable pub all_fed : List Call → List Bool
all_fed [] = []
all_fed (c ∷ cs) = fed_bits c ++ all_fed cs

unfoldable pub all_written : List Call → List Bool
all_written [] = []
all_written (c ∷ cs) = written_bits c ++ all_written cs

-- The runs of the block cipher that the calls made, together.
unfoldable pub all_runs : List Call → ℕ
all_runs [] = 0
all_runs (c ∷ cs) = c.result.runs + all_runs cs

-- ---- registers

-- f 0, f 1, .. f (k - 1).
unfoldable pub along : {A : Type 0} → ℕ → (ℕ → A) → List A
along zero f = []
along (suc k) f = f 0 ∷ along k (λ t. f (suc t))

-- R before each unit that the calls processed, in order, from the session s on: in CTR the counter blocks they used.
unfoldable pub registers_used : Session → List Call → List (List ℕ)
registers_used s [] = []
registers_used s (c ∷ cs) =
    along (units_in s.n (length (fed_bits c))) (session_register s (fed_bits c)) ++ registers_used c.result.session cs

-- ---- the plain machine

-- What it answers to a call, what it holds after it, and its R after each unit of it.
abbrev pub machine_answer : Machine → Call → ℕ
machine_answer machine c = machine_number machine (length c.input) c.count (length c.out) c.place

abbrev pub machine_fed : Machine → Call → Machine
machine_fed machine c = machine_feed machine c.input c.count (length c.out) c.place

abbrev pub call_registers : Machine → Call → List (List ℕ)
call_registers machine c = feed_registers machine c.input c.count (length c.out) c.place

-- The machine after the same list.
unfoldable pub machine_after : Machine → List Call → Machine
machine_after machine [] = machine
machine_after machine (c ∷ cs) = machine_after (machine_fed machine c) cs

-- The registers of demand 3: the machine's R before its first unit, and after each unit, along the list.
unfoldable pub registers_after : Machine → List Call → List (List ℕ)
registers_after machine [] = []
registers_after machine (c ∷ cs) = call_registers machine c ++ registers_after (machine_fed machine c) cs

unfoldable pub registers : Opening → List Call → List (List ℕ)
registers o calls = (machine_start o).register ∷ registers_after (machine_start o) calls
