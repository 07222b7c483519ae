-- The unit rules of document 01, "The five modes", over any two block functions `enc` and `dec`.
-- M is a plaintext unit, C its ciphertext, R the register; a text is a list of bits and a register a list of 16 bytes.
use Rattle.std.specs.Prelude.{ℕ, zero, suc, ◌+◌, ◌-◌, ◌*◌, ◌/◌, Bool, List, [], ◌++◌, length, take, drop, replicate}
use Rattle.bits.specs.Xor.{xor_bytes}
use Rattle.bits.specs.Texts.{bits, pack, xor_bits, shift_in}
use Rattle.bits.specs.Counter.{increment}
use Rattle.rules.specs.declared.Mode.{Mode}
use Rattle.rules.specs.declared.Mode.TheVariants.{Ecb, Cbc, Cfb, Ofb, Ctr}
use Rattle.rules.specs.declared.Direction.{Direction}
use Rattle.rules.specs.declared.Direction.TheVariants.{Encrypt, Decrypt}

-- msb takes the first n bits.
unfoldable pub msb : ℕ → List Bool → List Bool
msb n x = take n x

-- A unit XOR the first bits of a block, as many as the unit has.
unfoldable pub mask : List Bool → List ℕ → List Bool
mask u block = xor_bits u (msb (length u) (bits block))

-- The register at the start: the IV, and zero bytes in ECB, which has none.
unfoldable pub start : Mode → List ℕ → List ℕ
start Ecb iv = replicate 16 0
start Cbc iv = iv
start Cfb iv = iv
start Ofb iv = iv
start Ctr iv = iv

module _ (enc dec : List ℕ → List ℕ) where
  -- R after the unit whose ciphertext is C. It moves by the ciphertext, in both directions. m is the counter's bits in
  -- CTR.
  unfoldable pub next : Mode → ℕ → List ℕ → List Bool → List ℕ
  next Ecb m r c = r
  next Cbc m r c = pack c
  next Cfb m r c = pack (shift_in (bits r) c)
  next Ofb m r c = enc r
  next Ctr m r c = increment m r

  -- C from M. OFB moves R first.
  unfoldable pub cipher_unit : Mode → List ℕ → List Bool → List Bool
  cipher_unit Ecb r u = bits (enc (pack u))
  cipher_unit Cbc r u = bits (enc (xor_bytes (pack u) r))
  cipher_unit Cfb r u = mask u (enc r)
  cipher_unit Ofb r u = mask u (next Ofb 128 r u)
  cipher_unit Ctr r u = mask u (enc r)

  -- M from C.
  unfoldable pub plain_unit : Mode → List ℕ → List Bool → List Bool
  plain_unit Ecb r c = bits (dec (pack c))
  plain_unit Cbc r c = bits (xor_bytes (dec (pack c)) r)
  plain_unit Cfb r c = mask c (enc r)
  plain_unit Ofb r c = mask c (next Ofb 128 r c)
  plain_unit Ctr r c = mask c (enc r)

  -- A direction's work on a unit, and the register after it.
  unfoldable pub out_of : Mode → Direction → List ℕ → List Bool → List Bool
  out_of mode Encrypt r u = cipher_unit mode r u
  out_of mode Decrypt r u = plain_unit mode r u

  unfoldable pub next_of : Mode → Direction → ℕ → List ℕ → List Bool → List ℕ
  next_of mode Encrypt m r u = next mode m r (cipher_unit mode r u)
  next_of mode Decrypt m r u = next mode m r u

-- ---- whole texts, unit by unit

-- Unit t of a text, counted from 0. The last one may be shorter than n bits.
unfoldable pub unit_at : ℕ → List Bool → ℕ → List Bool
unit_at n x t = take n (drop (t * n) x)

-- How many units a text of this many bits has, a short last one included.
unfoldable pub units_in : ℕ → ℕ → ℕ
units_in n bits = (bits + (n - 1)) / n

-- f 0, f 1, .. f (k - 1), joined.
unfoldable pub joined : ℕ → (ℕ → List Bool) → List Bool
joined zero f = []
joined (suc k) f = joined k f ++ f k

module _ (enc dec : List ℕ → List ℕ) (mode : Mode) (dir : Direction) (n m : ℕ) (r : List ℕ) (x : List Bool) where
  -- The register before unit t of the text x, which is the register after t units.
  unfoldable pub register_at : ℕ → List ℕ
  register_at zero = r
  register_at (suc t) = next_of enc dec mode dir m (register_at t) (unit_at n x t)

  -- What unit t becomes.
  unfoldable pub out_at : ℕ → List Bool
  out_at t = out_of enc dec mode dir (register_at t) (unit_at n x t)

  -- What the text becomes.
  unfoldable pub worked : List Bool
  worked = joined (units_in n (length x)) out_at
