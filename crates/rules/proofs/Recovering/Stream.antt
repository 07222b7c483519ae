-- OFB and CTR: the register moves by itself, so the text is masked with a stream that does not depend on it, and a
-- changed bit of the ciphertext changes that bit of the plaintext and no other. Assumes nothing.
use Prim.Native.Nat.{ℕ, zero, suc, ◌*◌, ◌≤◌, ◌<◌}
use mathlib.Core.Path.{◌≡◌, refl, sym, ap, ◌∙◌}
use mathlib.Core.Logic.{◌↔◌}
use mathlib.Core.Bool.{Bool}
use mathlib.Core.List.{List, []}
use mathlib.Core.Option.{none}
use native.Mathlib.Nat.{le_of_lt, zero-mul, suc-mul}
use native.Mathlib.Omega.{arith}
use lib.ListN.{length, take, length-take}
use lib.Seq.{take_all, take-add}
use Rattle.bits.specs.Texts.{bits, xor_bits}
use Rattle.bits.specs.Blocks.{Block, BlockCipher}
use Rattle.bits.proofs.Texts.{bits-block}
use Rattle.bits.proofs.Xors.{xor_bits-append}
use Rattle.rules.specs.declared.Mode.{Mode}
use Rattle.rules.specs.declared.Mode.TheVariants.{Ecb, Cbc, Cfb, Ofb, Ctr}
use Rattle.rules.specs.declared.Direction.TheVariants.{Decrypt}
use Rattle.rules.specs.Rules.{mask, next, plain_unit, out_of, next_of, unit_at, units_in, joined, register_at, out_at, worked}
use Rattle.rules.specs.Recovery.{recovery_units}
use Rattle.rules.specs.Promises.{Differ}
use Rattle.rules.proofs.Counts.{unit_there, units_cover}
use Rattle.rules.proofs.Joined.{unit_short, joined_length}
use Rattle.rules.proofs.Taken.{Taken}
use Rattle.rules.proofs.Undo.{registers-block, worked_by}
use Rattle.rules.proofs.Recovering.Differ.{xor-differ, mask-xor}

-- Units masked one by one are the text masked once.
joined-xor : (n : ℕ) (x : List Bool) (f : ℕ → List Bool) (k : ℕ) → ((t : ℕ) → t < k → length (f t) ≡ n) → ((t : ℕ) → t < k → t * n ≤ length x)
    → joined k (λ t. xor_bits (unit_at n x t) (f t)) ≡ xor_bits (take (k * n) x) (joined k f)
unfolding joined unit_at xor_bits
joined-xor n x f zero full inside = rw zero-mul
joined-xor n x f (suc k) full inside =
    let before = joined_length k f (λ t h. full t (omega arith)) in
    let here = inside k (omega arith) in
    rw (joined-xor n x f k (λ t h. full t (omega arith)) (λ t h. inside t (omega arith)), suc-mul, take-add)
    (sym (xor_bits-append (take (k * n) x) (unit_at n x k) (joined k f) (f k) (rw length-take (omega arith))))

module _ (enc dec : List ℕ → List ℕ) where
  next-free : (mode : Mode) (m : ℕ) (r : List ℕ) (c d : List Bool) → recovery_units mode 128 ≡ none → next enc dec mode m r c ≡ next enc dec mode m r d
  unfolding next recovery_units
  next-free Ecb m r c d free = cc
  next-free Cbc m r c d free = cc
  next-free Cfb m r c d free = cc
  next-free Ofb m r c d free = refl
  next-free Ctr m r c d free = refl

  plain-stream : (mode : Mode) (r : List ℕ) (c : List Bool) → recovery_units mode 128 ≡ none → plain_unit enc dec mode r c ≡ mask c (enc r)
  unfolding plain_unit next recovery_units
  plain-stream Ecb r c free = cc
  plain-stream Cbc r c free = cc
  plain-stream Cfb r c free = cc
  plain-stream Ofb r c free = refl
  plain-stream Ctr r c free = refl

  register-free : (mode : Mode) (n m : ℕ) (r : List ℕ) (x y : List Bool) → recovery_units mode 128 ≡ none → (t : ℕ)
      → register_at enc dec mode Decrypt n m r x t ≡ register_at enc dec mode Decrypt n m r y t
  unfolding register_at next_of
  register-free mode n m r x y free zero = refl
  register-free mode n m r x y free (suc t) =
      next-free mode m (register_at enc dec mode Decrypt n m r x t) (unit_at n x t) (unit_at n y t) free
      ∙ ap (λ (s : List ℕ). next enc dec mode m s (unit_at n y t)) (register-free mode n m r x y free t)

  -- The stream: the blocks that the register gives with no text, k of them.
  stream_at : Mode → ℕ → List ℕ → ℕ → List ℕ
  stream_at mode m r t = enc (register_at enc dec mode Decrypt 128 m r [] t)

  stream : Mode → ℕ → List ℕ → ℕ → List Bool
  stream mode m r k = joined k (λ t. bits (stream_at mode m r t))

module _ {enc dec : List ℕ → List ℕ} (ciphers : BlockCipher enc dec) (m : ℕ) where
  module _ (mode : Mode) (free : recovery_units mode 128 ≡ none) {r : List ℕ} (block : Block r) (x : List Bool) (text : Taken mode 128 x) where
    stream-block : (t : ℕ) → t < units_in 128 (length x) → Block (stream_at enc dec mode m r t)
    unfolding stream_at
    stream-block t h = rw (register-free enc dec mode 128 m r [] x free t) (ciphers.enc_block _ (registers-block ciphers m Decrypt block text t (le_of_lt h)))

    stream-length : length x ≤ length (stream enc dec mode m r (units_in 128 (length x)))
    unfolding stream
    stream-length = rw (joined_length (units_in 128 (length x)) _ (λ t h. bits-block (stream-block t h))) (units_cover (length x) text.some)

    stream-out : (t : ℕ) → t < units_in 128 (length x) → out_at enc dec mode Decrypt 128 m r x t ≡ xor_bits (unit_at 128 x t) (bits (stream_at enc dec mode m r t))
    unfolding out_at out_of stream_at
    stream-out t h =
        plain-stream enc dec mode (register_at enc dec mode Decrypt 128 m r x t) (unit_at 128 x t) free
        ∙ ap (λ (s : List ℕ). mask (unit_at 128 x t) (enc s)) (register-free enc dec mode 128 m r x [] free t)
        ∙ mask-xor (unit_at 128 x t) (unit_short 128 x t) (stream-block t h)

    worked-stream : worked enc dec mode Decrypt 128 m r x ≡ xor_bits x (stream enc dec mode m r (units_in 128 (length x)))
    unfolding stream
    worked-stream =
        worked_by enc dec mode Decrypt 128 m r x (units_in 128 (length x)) (λ t. xor_bits (unit_at 128 x t) (bits (stream_at enc dec mode m r t))) refl stream-out
        ∙ joined-xor 128 x (λ t. bits (stream_at enc dec mode m r t)) (units_in 128 (length x)) (λ t h. bits-block (stream-block t h))
        (λ t h. le_of_lt ((unit_there (length x) t text.some).0 h))
        ∙ ap (λ (z : List Bool). xor_bits z (stream enc dec mode m r (units_in 128 (length x)))) (take_all (units_in 128 (length x) * 128) x (units_cover (length x) text.some))

  pub stream-damage : (mode : Mode) → recovery_units mode 128 ≡ none → {r : List ℕ} → Block r → (x y : List Bool) → Taken mode 128 x → Taken mode 128 y
      → length x ≡ length y → (b : ℕ) → Differ (worked enc dec mode Decrypt 128 m r x) (worked enc dec mode Decrypt 128 m r y) b ↔ Differ x y b
  stream-damage mode free {r} block x y tx ty same b =
      rw (worked-stream mode free block x tx, worked-stream mode free block y ty, ← same)
      (xor-differ x y (stream enc dec mode m r (units_in 128 (length x))) same (stream-length mode free block x tx) b)
