-- Request 06: what an answer says of counting up, for every m together. Counting is `increment` of request 05, repeated
-- (`counter`).
use Rattle.std.specs.Prelude.{ℕ, ◌^◌, ◌≤◌, ◌<◌, ◌≡◌, List, [], length, get_or, replicate}
use Rattle.bits.specs.Blocks.{Bytes, Block}
use Rattle.bits.specs.Counter.{number, number_bytes}
use Rattle.rules.specs.declared.Mode.TheVariants.{Ctr}
use Rattle.rules.specs.declared.Direction.{Direction}
use Rattle.rules.specs.Standard.{counter}
use Rattle.modes.specs.declared.session.Session.{Session}
use Rattle.modes.specs.declared.session.Opened.{Opened}
use Rattle.modes.specs.Sessions.{Arrays, OpenedBy}
use Rattle.feeds.specs.Lists.{Call, Feeds, registers_used}
use Rattle.places.specs.Answers.{Place}
use Rattle.places.specs.Answers.{ToldBy}

-- ---- an answer

-- Accepted, and the answer is k, as 16 bytes.
pub record Answers (r : Place) (k : ℕ) : Type 0 where
  pub accepted : r.number ≡ 0
  pub increments : r.increments ≡ number_bytes 16 k

-- The IV counted up k times is the block, and k is below 2^m.
pub record CountsUp (m : ℕ) (iv block : List ℕ) (k : ℕ) : Type 0 where
  pub below : k < 2 ^ m
  pub there : counter m iv k ≡ block

-- No number of increments leads from the IV to the block.
unfoldable pub Unreached : ℕ → List ℕ → List ℕ → Type 0
Unreached m iv block = (j : ℕ) → counter m iv j ≡ block → ⊥

pub record NumberTold (iv block : List ℕ) (m : ℕ) (r : Place) : Type 0 where
  -- an accepted answer counts up from the IV to the block
  pub leads : r.number ≡ 0 → CountsUp m iv block (number r.increments)
  -- the IV counted up k times is accepted, and answers k
  pub back : 1 ≤ m → m ≤ 128 → (k : ℕ) → CountsUp m iv block k → Answers r k
  -- for an m from 1 to 128, number 16 exactly where no number of increments leads there
  pub only_unreached : r.number ≡ 16 → Unreached m iv block
  pub unreached : 1 ≤ m → m ≤ 128 → Unreached m iv block → r.number ≡ 16
  -- number 14 exactly where m is not from 1 to 128
  pub bad_length : (1 ≤ m → m ≤ 128 → ⊥) → r.number ≡ 14
  pub good_length : 1 ≤ m → m ≤ 128 → r.number ≡ 14 → ⊥
  -- refused, it is zero bytes
  pub zeros : (r.number ≡ 0 → ⊥) → r.increments ≡ replicate 16 0

unfoldable pub NumbersTold : Type 0
NumbersTold = (iv block : List ℕ) (m : ℕ) (r : Place) → Block iv → Block block → ToldBy iv block m r → NumberTold iv block m r

-- ---- a session's blocks

-- From any session in CTR, whoever made it, over a list of feeds, refused ones included: the register before unit t
-- from there on, with the session's R for the IV, answers t.
unfoldable pub RegistersTell : Type 0
RegistersTell =
    (s end : Session) (calls : List Call) (t : ℕ) (r : Place) → s.mode ≡ Ctr → Arrays s → Feeds s calls end → t < length (registers_used s calls)
    → ToldBy s.register (get_or (registers_used s calls) t []) s.m r → Answers r t

-- From an accepted opening, with its IV: for each unit t that was done.
unfoldable pub OpenedRegistersTell : Type 0
OpenedRegistersTell =
    (dir : Direction) (n m : ℕ) (key iv : List ℕ) (opened : Opened) (calls : List Call) (s : Session) (t : ℕ) (r : Place)
    → Bytes key → Bytes iv → OpenedBy Ctr dir n m key iv opened → opened.number ≡ 0 → Feeds opened.session calls s → t < s.units
    → ToldBy iv (get_or (registers_used opened.session calls) t []) m r → Answers r t

-- So does the session's own R, which is the register before the next unit: it answers the units done, while fewer than
-- 2^m are.
unfoldable pub NextRegisterTells : Type 0
NextRegisterTells =
    (dir : Direction) (n m : ℕ) (key iv : List ℕ) (opened : Opened) (calls : List Call) (s : Session) (r : Place)
    → Bytes key → Bytes iv → OpenedBy Ctr dir n m key iv opened → opened.number ≡ 0 → Feeds opened.session calls s → s.units < 2 ^ m
    → ToldBy iv s.register m r → Answers r s.units
