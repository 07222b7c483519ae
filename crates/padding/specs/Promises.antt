-- What is promised of padded texts, by the rule for every text, and by the calls.
use Rattle.std.specs.Prelude.{ℕ, ◌+◌, ◌*◌, ◌%◌, ◌≤◌, ◌<◌, ◌≡◌, ◌↔◌, Bool, true, false, List, ◌∷◌, ◌++◌, length, get_or, drop, replicate}
use Rattle.bits.specs.Texts.{bytes_for}
use Rattle.padding.specs.Padding.{Padded}
use Rattle.padding.specs.Padding.{Unpadded}
use Rattle.modes.specs.Sessions.{fed_text}
use Rattle.padding.specs.Padding.{zeros_for, padded, padded_length, last_block, unpadded_length, PaddedBy, UnpaddedBy}

-- A padded text is a multiple of 128 bits, 1 to 128 bits longer than the text, and no fewer 0 bits would do.
pub record WholeBlocks (x : List Bool) : Type 0 where
  pub multiple : length (padded x) % 128 ≡ 0
  pub longer : length x < length (padded x)
  pub at_most : length (padded x) ≤ length x + 128
  pub fewest : (z : ℕ) → (length x + 1 + z) % 128 ≡ 0 → zeros_for (length x) ≤ z

unfoldable pub PaddedWhole : Type 0
PaddedWhole = (x : List Bool) → WholeBlocks x

-- Unpadding a padded text gives its length.
unfoldable pub UnpadsPadded : Type 0
UnpadsPadded = (x : List Bool) → unpadded_length (padded x) ≡ length x

-- The calls. Refused means unchanged for pad, which then gives the length 0, and so does a refused unpad.
unfoldable pub PadRefusedUnchanged : Type 0
PadRefusedUnchanged =
    (input : List ℕ) (count : ℕ) (out : List ℕ) (place : ℕ) (r : Padded) (after : List ℕ) → PaddedBy input count out place r after
    → (r.number ≡ 0 → ⊥) → (r.bits ≡ 0) × (after ≡ out)

unfoldable pub UnpadRefusedZero : Type 0
UnpadRefusedZero = (input : List ℕ) (count : ℕ) (r : Unpadded) → UnpaddedBy input count r → (r.number ≡ 0 → ⊥) → r.bits ≡ 0

-- Which texts pad takes, in plain numbers: exactly these.
pub record AcceptablePad (input : List ℕ) (count : ℕ) (out : List ℕ) (place : ℕ) : Type 0 where
  -- 6. The bits are at most 8 × input bytes and 524,287.
  pub there : count ≤ 8 * length input
  pub at_most : count ≤ 524287
  -- 8. The output place is at most the output's length, with enough bytes from there for the padded text.
  pub room : place + bytes_for (padded_length count) ≤ length out

unfoldable pub PadAccepts : Type 0
PadAccepts =
    (input : List ℕ) (count : ℕ) (out : List ℕ) (place : ℕ) (r : Padded) (after : List ℕ) → PaddedBy input count out place r after
    → (r.number ≡ 0) ↔ AcceptablePad input count out place

-- Unpad, of what pad wrote, answers its length.
unfoldable pub UnpadAfterPad : Type 0
UnpadAfterPad =
    (input : List ℕ) (count : ℕ) (out : List ℕ) (place : ℕ) (r : Padded) (after : List ℕ) (u : Unpadded)
    → PaddedBy input count out place r after → r.number ≡ 0 → UnpaddedBy (drop place after) r.bits u
    → (u.number ≡ 0) × (u.bits ≡ count)

-- Which texts unpad takes, in plain numbers: exactly those of whole blocks, whatever their bits are.
pub record AcceptableUnpad (input : List ℕ) (count : ℕ) : Type 0 where
  -- 6. The bits are at most 8 × input bytes and 524,288.
  pub there : count ≤ 8 * length input
  pub at_most : count ≤ 524288
  -- 7. They are a positive multiple of 128.
  pub some : 0 < count
  pub whole : count % 128 ≡ 0

unfoldable pub UnpadAccepts : Type 0
UnpadAccepts = (input : List ℕ) (count : ℕ) (u : Unpadded) → UnpaddedBy input count u → (u.number ≡ 0) ↔ AcceptableUnpad input count

-- What it answers lies 1 to 128 bits before the end.
unfoldable pub UnpadInLastBlock : Type 0
UnpadInLastBlock = (input : List ℕ) (count : ℕ) (u : Unpadded) → UnpaddedBy input count u → u.number ≡ 0 → (u.bits < count) × (count ≤ u.bits + 128)

-- What is cut off is padding and nothing else: 0 bits after a 1, or a whole last block of 0 bits. One length only is
-- such a cut.
pub record Cut (x : List Bool) (k : ℕ) : Type 0 where
  pub before_end : k < length x
  pub in_last_block : length x ≤ k + 128
  pub zeros_behind : (i : ℕ) → k < i → i < length x → get_or x i false ≡ false
  pub one_there : length x < k + 128 → get_or x k false ≡ true

unfoldable pub UnpadCuts : Type 0
UnpadCuts =
    (input : List ℕ) (count : ℕ) (u : Unpadded) → UnpaddedBy input count u → u.number ≡ 0
    → Cut (fed_text input count) u.bits × ((k : ℕ) → Cut (fed_text input count) k → u.bits ≡ k)

-- Nothing before the last 128 bits counts: two inputs that hold the bits and agree there get the same answer.
unfoldable pub UnpadByLastBlock : Type 0
UnpadByLastBlock =
    (s t : List ℕ) (count : ℕ) (u v : Unpadded) → UnpaddedBy s count u → UnpaddedBy t count v
    → count ≤ 8 * length s → count ≤ 8 * length t → last_block (fed_text s count) ≡ last_block (fed_text t count)
    → (u.number ≡ v.number) × (u.bits ≡ v.bits)

-- A last block of 0 bits is answered as 80 and fifteen 00 there is. It is accepted where the blocks are whole and no
-- more than the largest feed's, and the answer is all bits before it, whatever these are and whatever stands after the
-- text.
pub record AnsweredAs80 (before : List ℕ) (u v : Unpadded) : Type 0 where
  pub same_number : u.number ≡ v.number
  pub same_bits : u.bits ≡ v.bits
  pub accepted : length before % 16 ≡ 0 → 8 * length before + 128 ≤ 524288 → u.number ≡ 0
  pub all-before : u.number ≡ 0 → u.bits ≡ 8 * length before

unfoldable pub ZeroBlockAs80 : Type 0
ZeroBlockAs80 =
    (before after : List ℕ) (u v : Unpadded)
    → UnpaddedBy (before ++ replicate 16 0x00 ++ after) (8 * length before + 128) u
    → UnpaddedBy (before ++ (0x80 ∷ replicate 15 0x00) ++ after) (8 * length before + 128) v
    → AnsweredAs80 before u v

-- Number 10 is never answered.
unfoldable pub UnpadNever10 : Type 0
UnpadNever10 = (input : List ℕ) (count : ℕ) (u : Unpadded) → UnpaddedBy input count u → u.number ≡ 10 → ⊥
