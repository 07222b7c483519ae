-- Document 01's twelve examples: one list of rows, one test over the list, one promise that it passes.
use Rattle.std.specs.Prelude.{ℕ, ◌≡◌, Bool, true, false, ◌&&◌, List, [], ◌∷◌, ◌++◌, map, length, replicate}
use Rattle.bits.specs.Texts.{bits, pack, digit}
use Rattle.bits.specs.Counter.{increment}
use Rattle.field.specs.Field.{product}
use Rattle.boxes.specs.Boxes.{sub_byte}
use Rattle.cipher.specs.Cipher.{Enc, Dec}
use Rattle.aes.specs.Calls.{key_rounds, key_bytes}
use Rattle.rules.specs.declared.Mode.TheVariants.{Cbc, Cfb}
use Rattle.rules.specs.declared.Direction.TheVariants.{Encrypt, Decrypt}
use Rattle.rules.specs.Rules.{worked}
use Rattle.header.specs.Header.{same}
use Rattle.padding.specs.Padding.{padded, unpadded_length, unpad_number}

-- ---- a row, and the test

-- What the rules give, and what document 01 says.
pub record Row : Type 0 where
  pub given : List ℕ
  pub said : List ℕ

unfoldable pub all_pass : List Row → Bool
all_pass [] = true
all_pass (r ∷ rs) = same r.given r.said && all_pass rs

-- ---- what the rows use

-- The key and the IV of the 8-CFB example, and a block.
abbrev pub key : List ℕ
key = 0x2b ∷ 0x7e ∷ 0x15 ∷ 0x16 ∷ 0x28 ∷ 0xae ∷ 0xd2 ∷ 0xa6 ∷ 0xab ∷ 0xf7 ∷ 0x15 ∷ 0x88 ∷ 0x09 ∷ 0xcf ∷ 0x4f ∷ 0x3c ∷ []

abbrev pub iv : List ℕ
iv = 0x00 ∷ 0x01 ∷ 0x02 ∷ 0x03 ∷ 0x04 ∷ 0x05 ∷ 0x06 ∷ 0x07 ∷ 0x08 ∷ 0x09 ∷ 0x0a ∷ 0x0b ∷ 0x0c ∷ 0x0d ∷ 0x0e ∷ 0x0f ∷ []

abbrev pub iv_encrypted : List ℕ
iv_encrypted = 0x50 ∷ 0xfe ∷ 0x67 ∷ 0xcc ∷ 0x99 ∷ 0x6d ∷ 0x32 ∷ 0xb6 ∷ 0xda ∷ 0x09 ∷ 0x37 ∷ 0xe9 ∷ 0x9b ∷ 0xaf ∷ 0xec ∷ 0x60 ∷ []

abbrev pub block : List ℕ
block = 0x6b ∷ 0xc1 ∷ 0xbe ∷ 0xe2 ∷ 0x2e ∷ 0x40 ∷ 0x9f ∷ 0x96 ∷ 0xe9 ∷ 0x3d ∷ 0x7e ∷ 0x11 ∷ 0x73 ∷ 0x93 ∷ 0x17 ∷ 0x2a ∷ []

abbrev pub block_encrypted : List ℕ
block_encrypted = 0x76 ∷ 0x49 ∷ 0xab ∷ 0xac ∷ 0x81 ∷ 0x19 ∷ 0xb2 ∷ 0x46 ∷ 0xce ∷ 0xe9 ∷ 0x8e ∷ 0x9b ∷ 0x12 ∷ 0xe9 ∷ 0x19 ∷ 0x7d ∷ []

-- The bits of a text as numbers.
unfoldable pub digits : List Bool → List ℕ
digits x = map digit x

abbrev pub four_bits : List Bool
four_bits = false ∷ true ∷ true ∷ false ∷ []

-- ---- the table, over Enc and Dec

unfoldable pub examples : (List ℕ → List ℕ) → (List ℕ → List ℕ) → List Row
examples enc dec =
    -- 57 times 83
    record { given = product 0x57 0x83 ∷ []; said = 0xc1 ∷ [] }
    -- SubBytes of 00 and of 53
    ∷ record { given = sub_byte 0x00 ∷ []; said = 0x63 ∷ [] }
    ∷ record { given = sub_byte 0x53 ∷ []; said = 0xed ∷ [] }
    -- Enc of the IV, and Dec back
    ∷ record { given = enc iv; said = iv_encrypted }
    ∷ record { given = dec iv_encrypted; said = iv }
    -- CBC of one block
    ∷ record { given = pack (worked enc dec Cbc Encrypt 128 128 iv (bits block)); said = block_encrypted }
    -- 8-CFB of 6bc1
    ∷ record { given = pack (worked enc dec Cfb Encrypt 8 128 iv (bits (0x6b ∷ 0xc1 ∷ []))); said = 0x3b ∷ 0x79 ∷ [] }
    -- 1-CFB of the bits 0110, and of what they become, back
    ∷ record { given = digits (worked enc dec Cfb Encrypt 1 128 iv four_bits ++ worked enc dec Cfb Decrypt 1 128 iv four_bits); said = digits (four_bits ++ four_bits) }
    -- ff sixteen times, plus 1
    ∷ record { given = increment 128 (replicate 16 0xff); said = replicate 16 0x00 }
    -- pad of 0 bits, and of 128
    ∷ record { given = pack (padded []); said = 0x80 ∷ replicate 15 0x00 }
    ∷ record { given = length (padded (bits block)) ∷ []; said = 256 ∷ [] }
    -- unpad of sixteen 00: the number, and the bits
    ∷ record { given = unpad_number 16 128 ∷ unpadded_length (bits (replicate 16 0x00)) ∷ []; said = 0 ∷ 0 ∷ [] }
    ∷ []

-- Enc and Dec are AES under that key.
unfoldable pub ExamplesPass : Type 0
ExamplesPass = all_pass (examples (Enc (key_rounds key) (key_bytes key)) (Dec (key_rounds key) (key_bytes key))) ≡ true
