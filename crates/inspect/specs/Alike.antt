-- Document 01, "Padding, one block, comparison": when two sessions are alike, as a test and as what it means.
use Rattle.std.specs.Prelude.{ℕ, zero, suc, ◌+◌, ◌*◌, min, ◌≡◌, Bool, true, ◌&&◌, List, eqb, get_or, take}
use Rattle.std.specs.Bool.{beq}
use Rattle.rules.specs.Numbers.{mode_number, is_decrypt}
use Rattle.modes.specs.declared.session.Session.{Session}

-- The first 16 × (rounds + 1) round key bytes, at most 240.
unfoldable pub keys_used : ℕ → ℕ
keys_used rounds = min 240 (16 * (rounds + 1))

-- What it means.
pub record Alike (a b : Session) : Type 0 where
  pub mode : a.mode ≡ b.mode
  pub direction : a.direction ≡ b.direction
  pub unit : a.n ≡ b.n
  pub counter : a.m ≡ b.m
  pub rounds : a.rounds ≡ b.rounds
  pub keys : take (keys_used a.rounds) a.keys ≡ take (keys_used a.rounds) b.keys
  pub register : a.register ≡ b.register

-- ---- the test

-- Do two lists have the same first k bytes?
unfoldable pub same_first : ℕ → List ℕ → List ℕ → Bool
same_first zero a b = true
same_first (suc k) a b = eqb (get_or a k 0) (get_or b k 0) && same_first k a b

unfoldable pub same_settings : Session → Session → Bool
same_settings a b =
    eqb (mode_number a.mode) (mode_number b.mode) && beq (is_decrypt a.direction) (is_decrypt b.direction)
    && eqb a.n b.n && eqb a.m b.m && eqb a.rounds b.rounds

unfoldable pub alike_to : Session → Session → Bool
alike_to a b =
    same_settings a b && same_first (keys_used a.rounds) a.keys b.keys && same_first 16 a.register b.register
