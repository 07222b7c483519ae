-- What is promised of the inverse in the field (document 01, "The block cipher").
use Rattle.std.specs.Prelude.{ℕ, ◌<◌, ◌≡◌}
use Rattle.field.specs.Field.{product, inverse}

-- The inverse of a byte: their product is 01. It is 00 for 00.
pub record InverseOfBytes : Type 0 where
  pub byte : (b : ℕ) → inverse b < 256
  pub inverts : (b : ℕ) → b < 256 → (b ≡ 0 → ⊥) → product b (inverse b) ≡ 1
  pub of_zero : inverse 0 ≡ 0
