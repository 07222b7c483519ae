-- Request 05: which counter blocks a session uses, that none is used twice, and that with m = 128 all is as before it.
use Rattle.std.specs.Prelude.{ℕ, ◌+◌, ◌^◌, ◌≤◌, ◌<◌, ◌≡◌, ◌&&◌, List, [], ◌∷◌, ◌++◌, length, get_or}
use Rattle.bits.specs.Blocks.{Bytes}
use Rattle.cipher.specs.Cipher.{rounds_ok}
use Rattle.rules.specs.declared.Mode.{Mode}
use Rattle.rules.specs.declared.Mode.TheVariants.{Ctr}
use Rattle.rules.specs.declared.Direction.{Direction}
use Rattle.rules.specs.Lengths.{unit_length_ok}
use Rattle.rules.specs.Rules.{units_in}
use Rattle.rules.specs.Standard.{counter}
use Rattle.questions.specs.Questions.{ask, max_units, key_length, iv_length, unit_length, not_closed, unit_limit, text_questions}
use Rattle.modes.specs.declared.session.Session.{Session}
use Rattle.modes.specs.declared.session.Opened.{Opened}
use Rattle.modes.specs.Sessions.{Arrays, open_number, OpenedBy, feed_number}
use Rattle.feeds.specs.Lists.{Call, Feeds, registers_used}

-- Over a list of feeds, refused ones among them, from the session s to the session `end`.
pub record EachOnce (s : Session) (calls : List Call) (end : Session) : Type 0 where
  -- the counter blocks are pairwise different
  pub different : (i j : ℕ) → i < j → j < length (registers_used s calls) → get_or (registers_used s calls) i [] ≡ get_or (registers_used s calls) j [] → ⊥
  -- each unit accepted used one
  pub counted : end.units ≡ s.units + length (registers_used s calls)
  -- and there are no more of them than m bits have
  pub at_most : length (registers_used s calls) ≤ 2 ^ s.m
  -- block i is the session's R counted up i times: the T of `standard_at`, with R for T_1
  pub block : (i : ℕ) → i < length (registers_used s calls) → get_or (registers_used s calls) i [] ≡ counter s.m s.register i

-- From any session in CTR, whoever made it.
unfoldable pub CounterBlocksDiffer : Type 0
CounterBlocksDiffer = (s end : Session) (calls : List Call) → s.mode ≡ Ctr → Arrays s → Feeds s calls end → EachOnce s calls end

-- From an accepted opening, in either direction, over the whole of a list, and from any later session of it on. At most
-- 2^m units are accepted in all.
pub record OpenedOnce (m : ℕ) (first : Session) (before : List Call) (s : Session) (calls : List Call) (end : Session) : Type 0 where
  pub in_all : EachOnce first (before ++ calls) end
  pub from_here : EachOnce s calls end
  pub units : end.units ≤ 2 ^ m

unfoldable pub OpenedBlocksDiffer : Type 0
OpenedBlocksDiffer =
    (dir : Direction) (n m : ℕ) (key iv : List ℕ) (r : Opened) (before calls : List Call) (s end : Session) → Bytes key → Bytes iv
    → OpenedBy Ctr dir n m key iv r → r.number ≡ 0 → Feeds r.session before s → Feeds s calls end → OpenedOnce m r.session before s calls end

-- From an accepted opening, for each unit i that was done, block i is the T of `standard_at` for the opening's m and
-- IV.
unfoldable pub OpenedBlocksCountUp : Type 0
OpenedBlocksCountUp =
    (dir : Direction) (n m : ℕ) (key iv : List ℕ) (r : Opened) (calls : List Call) (end : Session) → Bytes key → Bytes iv
    → OpenedBy Ctr dir n m key iv r → r.number ≡ 0 → Feeds r.session calls end
    → (i : ℕ) → i < end.units → get_or (registers_used r.session calls) i [] ≡ counter m iv i

-- ---- m = 128

-- An opening asks 1, 2 and 3.
unfoldable pub WholeBlockOpening : Type 0
WholeBlockOpening =
    (mode : Mode) (n : ℕ) (key iv : List ℕ)
    → open_number mode n 128 key iv ≡ ask (key_length key ∷ iv_length mode iv ∷ unit_length mode n ∷ [])

-- A feed asks 4, of rounds and n, and 5 to 9.
unfoldable pub WholeBlockFeed : Type 0
WholeBlockFeed =
    (s : Session) (bytes count size place : ℕ) → s.m ≡ 128
    → feed_number s bytes count size place
    ≡ ask
    (record { yes = rounds_ok s.rounds && unit_length_ok s.mode s.n; number = 4 } ∷ not_closed s.closed
    ∷ text_questions s.mode s.n bytes count size place ++ unit_limit max_units s.units (units_in s.n count) ∷ [])
