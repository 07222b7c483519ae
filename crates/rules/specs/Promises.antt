-- What is promised of the unit rules for any two block functions: demand 2 for whole texts, demand 3 for two
-- ciphertexts.
use Rattle.std.specs.Prelude.{ℕ, suc, ◌+◌, ◌*◌, ◌≤◌, ◌<◌, ◌≡◌, ◌↔◌, Bool, true, false, List, length, get_or}
use Rattle.std.proofs.Math.Option.{none, some}
use Rattle.bits.specs.Blocks.{Block, BlockCipher}
use Rattle.rules.specs.declared.Mode.{Mode}
use Rattle.rules.specs.declared.Mode.TheVariants.{Ecb, Cbc, Cfb, Ctr}
use Rattle.rules.specs.declared.Direction.{Direction}
use Rattle.rules.specs.declared.Direction.TheVariants.{Encrypt, Decrypt}
use Rattle.rules.specs.Lengths.{unit_length_ok, whole_units}
use Rattle.rules.specs.Rules.{start, unit_at, register_at, worked, units_in}
use Rattle.rules.specs.Standard.{standard}
use Rattle.rules.specs.Recovery.{recovery_units}

-- Demand 2, for a text x that the mode takes. The other direction, from the same IV, gives the text back.
unfoldable pub other : Direction → Direction
other Encrypt = Decrypt
other Decrypt = Encrypt

pub record Texts (enc dec : List ℕ → List ℕ) (mode : Mode) (dir : Direction) (n m : ℕ) (iv : List ℕ) (x : List Bool) : Type 0 where
  pub standard_text : worked enc dec mode dir n m (start mode iv) x ≡ standard enc dec mode dir n m iv x
  pub same_length : length (worked enc dec mode dir n m (start mode iv) x) ≡ length x
  pub undone : worked enc dec mode (other dir) n m (start mode iv) (worked enc dec mode dir n m (start mode iv) x) ≡ x
  -- and both registers are then the same
  pub same_register : (t : ℕ) → t ≤ units_in n (length x) → register_at enc dec mode (other dir) n m (start mode iv) (worked enc dec mode dir n m (start mode iv) x) t ≡ register_at enc dec mode dir n m (start mode iv) x t

-- A common run of k units: neighbouring units that are equal one by one, from unit i of x and unit j of y.
pub record CommonRun (n : ℕ) (x y : List Bool) (i j k : ℕ) : Type 0 where
  pub inside_x : (i + k) * n ≤ length x
  pub inside_y : (j + k) * n ≤ length y
  pub equal : (t : ℕ) → t < k → unit_at n x (i + t) ≡ unit_at n y (j + t)

-- Two texts differ at bit b.
abbrev pub Differ : List Bool → List Bool → ℕ → Type 0
Differ x y b = get_or x b false ≡ get_or y b false → ⊥

-- Two ciphertexts of equal length in which unit j, and no other, is changed.
pub record OneUnitChanged (n : ℕ) (x y : List Bool) (j : ℕ) : Type 0 where
  pub same_length : length x ≡ length y
  pub inside : suc j * n ≤ length x
  pub changed : unit_at n x j ≡ unit_at n y j → ⊥
  pub others : (t : ℕ) → (t ≡ j → ⊥) → unit_at n x t ≡ unit_at n y t

abbrev pub OneBlockChanged : List Bool → List Bool → ℕ → Type 0
OneBlockChanged = OneUnitChanged 128

-- What then holds of the two plaintexts p and q. In ECB:
pub record OnlyBlockDamaged (p q : List Bool) (j : ℕ) : Type 0 where
  pub here : unit_at 128 p j ≡ unit_at 128 q j → ⊥
  pub others : (t : ℕ) → (t ≡ j → ⊥) → unit_at 128 p t ≡ unit_at 128 q t

-- In CBC:
pub record OneBlockDamaged (x y p q : List Bool) (j : ℕ) : Type 0 where
  pub here : unit_at 128 p j ≡ unit_at 128 q j → ⊥
  -- the next block, if there is one, differs in exactly the changed bits, counted from the block's start
  pub following : suc (suc j) * 128 ≤ length x → (b : ℕ) → Differ (unit_at 128 p (suc j)) (unit_at 128 q (suc j)) b ↔ Differ (unit_at 128 x j) (unit_at 128 y j) b
  pub others : (t : ℕ) → (t ≡ j → ⊥) → (t ≡ suc j → ⊥) → unit_at 128 p t ≡ unit_at 128 q t

-- In CFB: the segment itself differs in exactly the changed bits, and after as many segments more as replace the
-- register all is right.
pub record OneSegmentDamaged (n : ℕ) (x y p q : List Bool) (j : ℕ) : Type 0 where
  pub here : (b : ℕ) → Differ (unit_at n p j) (unit_at n q j) b ↔ Differ (unit_at n x j) (unit_at n y j) b
  pub before : (t : ℕ) → t < j → unit_at n p t ≡ unit_at n q t
  pub behind : (t : ℕ) → suc j + units_in n 128 ≤ t → unit_at n p t ≡ unit_at n q t

-- Demand 3 for two ciphertexts x and y that were decrypted from the IVs v and w, with counters of m and m' bits,
-- whatever came before a common run.
module _ (enc dec : List ℕ → List ℕ) (mode : Mode) (n m m' : ℕ) (v w : List ℕ) (x y : List Bool) where
  abbrev plain_x : List Bool
  plain_x = worked enc dec mode Decrypt n m (start mode v) x

  abbrev plain_y : List Bool
  plain_y = worked enc dec mode Decrypt n m' (start mode w) y

  pub record RecoveryAndDamage : Type 0 where
    -- recovery after loss: plaintext units and registers
    pub run-plain : (needed : ℕ) → recovery_units mode n ≡ some needed → (i j k : ℕ) → CommonRun n x y i j k → (t : ℕ) → needed ≤ t → t < k → unit_at n plain_x (i + t) ≡ unit_at n plain_y (j + t)
    pub run-registers : (needed : ℕ) → recovery_units mode n ≡ some needed → (i j k : ℕ) → CommonRun n x y i j k → (t : ℕ) → needed ≤ t → t ≤ k → register_at enc dec mode Decrypt n m (start mode v) x (i + t) ≡ register_at enc dec mode Decrypt n m' (start mode w) y (j + t)
    -- reach of damage in ECB, CBC and CFB
    pub one-block-ecb : mode ≡ Ecb → (j : ℕ) → OneBlockChanged x y j → OnlyBlockDamaged plain_x plain_y j
    pub one_block : mode ≡ Cbc → v ≡ w → (j : ℕ) → OneBlockChanged x y j → OneBlockDamaged x y plain_x plain_y j
    pub one-segment : mode ≡ Cfb → v ≡ w → (j : ℕ) → OneUnitChanged n x y j → OneSegmentDamaged n x y plain_x plain_y j
    -- and in OFB and CTR; in CTR where m is the same
    pub same_bits : recovery_units mode n ≡ none → v ≡ w → (mode ≡ Ctr → m ≡ m') → length x ≡ length y → (b : ℕ) → Differ plain_x plain_y b ↔ Differ x y b

-- What is assumed: two block functions that undo each other, a start register of 16 bytes, a unit length and texts that
-- the mode takes.
unfoldable pub TextsHold : Type 0
TextsHold =
    (enc dec : List ℕ → List ℕ) (mode : Mode) (dir : Direction) (n m : ℕ) (iv : List ℕ) (x : List Bool) → BlockCipher enc dec
    → unit_length_ok mode n ≡ true → whole_units mode n (length x) ≡ true → Block (start mode iv) → Texts enc dec mode dir n m iv x

unfoldable pub RecoveryHolds : Type 0
RecoveryHolds =
    (enc dec : List ℕ → List ℕ) (mode : Mode) (n m m' : ℕ) (v w : List ℕ) (x y : List Bool) → BlockCipher enc dec
    → unit_length_ok mode n ≡ true → whole_units mode n (length x) ≡ true → whole_units mode n (length y) ≡ true
    → Block (start mode v) → Block (start mode w) → RecoveryAndDamage enc dec mode n m m' v w x y
