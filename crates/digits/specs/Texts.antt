-- Texts as lists of bytes (ASCII): the pieces before and after a byte, digits, and numbers written in them.
use Rattle.std.specs.Prelude.{ℕ, suc, ◌+◌, ◌-◌, ◌*◌, ◌/◌, ◌%◌, Bool, true, false, cond, ◌&&◌, ◌||◌, List, [], ◌∷◌, ◌++◌, Option, Some, None, leb, ltb, eqb, length, take, drop}
use Rattle.std.specs.Borrow.{Bor}
use Rattle.std.proofs.Math.Seq.{paste}

-- The value where a test holds, and then what is made of it.
abbrev pub given : {A : Type 0} → Bool → A → Option A
given true a = Some a
given false a = None

infixl 20 ◌>>=◌
abbrev pub ◌>>=◌ : {A B : Type 0} → Option A → (A → Option B) → Option B
◌>>=◌ None f = None
◌>>=◌ (Some a) f = f a

-- ---- cut at a byte

-- How many bytes stand before the first `stop`; all of them where there is none.
unfoldable pub up_to : ℕ → List ℕ → ℕ
up_to stop [] = 0
up_to stop (b ∷ s) = cond (eqb b stop) 0 (suc (up_to stop s))

pub record Cut : Type 0 where
  pub before : List ℕ
  pub behind : List ℕ

-- A text that has a `stop`: what stands before the first one, and what after it.
unfoldable pub cut : ℕ → List ℕ → Option Cut
cut stop s = given (ltb (up_to stop s) (length s)) (record { before = take (up_to stop s) s; behind = drop (up_to stop s + 1) s })

-- What two parts that a call lends are.
abbrev pub cut_in : Bor (List ℕ) × Bor (List ℕ) → Cut
cut_in parts = record { before = parts.0.now; behind = parts.1.now }

-- ---- digits

unfoldable pub between : ℕ → ℕ → ℕ → Bool
between low high b = leb low b && leb b high

-- 0 to 9, and a to f: lower case.
unfoldable pub is_decimal : ℕ → Bool
is_decimal b = between 48 57 b

unfoldable pub is_hex : ℕ → Bool
is_hex b = between 48 57 b || between 97 102 b

unfoldable pub all : (ℕ → Bool) → List ℕ → Bool
all p [] = true
all p (b ∷ s) = p b && all p s

-- The value of a digit; 0 for any other byte.
unfoldable pub value : ℕ → ℕ
value b = cond (between 48 57 b) (b - 48) (cond (between 97 102 b) (b - 97 + 10) 0)

-- The digit of a number below 16.
unfoldable pub digit : ℕ → ℕ
digit x = cond (leb x 9) (48 + x) (87 + x)

-- An even count of digits, at most `limit`.
abbrev pub digits_fit : ℕ → List ℕ → Bool
digits_fit limit w = leb (length w) limit && eqb (length w % 2) 0 && all is_hex w

-- ---- numbers

-- A number's value, from the value n of its first decimal digits and the digits that follow them.
unfoldable pub count_on : ℕ → List ℕ → ℕ
count_on n [] = n
count_on n (b ∷ s) = count_on (n * 10 + value b) s

-- Two digits are a byte, the higher one first.
unfoldable pub hex_bytes : List ℕ → List ℕ
hex_bytes [] = []
hex_bytes (a ∷ []) = []
hex_bytes (a ∷ b ∷ s) = (value a * 16 + value b) ∷ hex_bytes s

unfoldable pub hex_text : List ℕ → List ℕ
hex_text [] = []
hex_text (b ∷ s) = digit (b / 16) ∷ digit (b % 16) ∷ hex_text s

-- Written to the front of `out`, or from an index on, where there is room for all of it; else `out` stays as it was.
unfoldable pub decoded_into : List ℕ → List ℕ → List ℕ
decoded_into s out = cond (leb (length s / 2) (length out)) (hex_bytes s ++ drop (length s / 2) out) out

unfoldable pub encoded_into : List ℕ → List ℕ → ℕ → List ℕ
encoded_into bytes out at = cond (leb (at + length bytes * 2) (length out)) (paste out at (hex_text bytes) (length bytes * 2)) out

-- A number below 100 in decimal.
unfoldable pub decimal_text : ℕ → List ℕ
decimal_text n = cond (leb n 9) (digit n ∷ []) (digit (n / 10) ∷ digit (n % 10) ∷ [])
