-- Key expansion, FIPS 197 section 5.2, over the schedule's bytes: word i is bytes 4i to 4i + 3.
use Rattle.std.specs.Prelude.{ℕ, zero, suc, ◌+◌, ◌-◌, ◌*◌, ◌/◌, ◌%◌, Bool, true, cond, List, [], ◌∷◌, ◌++◌, eqb, ltb, length, get_or, replicate}
use Rattle.bits.specs.Xor.{xor_bytes}
use Rattle.field.specs.Field.{double}
use Rattle.boxes.specs.Boxes.{sub_byte}
use Rattle.field.specs.Rows.{four, word_at}

unfoldable pub sub_word : List ℕ → List ℕ
sub_word t = four (λ j. sub_byte (get_or t j 0))

unfoldable pub rot_word : List ℕ → List ℕ
rot_word t = four (λ j. get_or t ((j + 1) % 4) 0)

-- x^j: 01, doubled j times.
unfoldable pub power : ℕ → ℕ
power zero = 1
power (suc j) = double (power j)

unfoldable pub rcon : ℕ → List ℕ
rcon j = power (j - 1) ∷ 0 ∷ 0 ∷ 0 ∷ []

-- What is added to word i - nk, from the word before i.
unfoldable pub temp : ℕ → ℕ → List ℕ → List ℕ
temp nk i t =
    cond (eqb (i % nk) 0) (xor_bytes (sub_word (rot_word t)) (rcon (i / nk)))
    (cond (ltb 6 nk) (cond (eqb (i % nk) 4) (sub_word t) t) t)

-- Word i, from the bytes before it.
unfoldable pub next_word : ℕ → List ℕ → ℕ → List ℕ
next_word nk w i = xor_bytes (word_at w (i - nk)) (temp nk i (word_at w (i - 1)))

-- The key's nk words, and k words more.
unfoldable pub schedule : ℕ → List ℕ → ℕ → List ℕ
schedule nk key zero = key
schedule nk key (suc k) = schedule nk key k ++ next_word nk (schedule nk key k) (nk + k)

-- 10, 12 or 14 rounds for 4, 6 or 8 words.
unfoldable pub rounds_for : ℕ → ℕ
rounds_for nk = nk + 6

-- The 240 bytes of round keys: 4 (rounds + 1) words, then 0.
unfoldable pub round_keys : List ℕ → List ℕ
round_keys key =
    let nk = length key / 4 in
    let w = schedule nk key (4 * (rounds_for nk + 1) - nk) in w ++ replicate (240 - length w) 0

-- Question 1: is the key 16, 24 or 32 bytes long?
unfoldable pub key_ok : List ℕ → Bool
key_ok key = cond (eqb (length key) 16) true (cond (eqb (length key) 24) true (eqb (length key) 32))
