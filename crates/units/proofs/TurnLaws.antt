-- One unit, left-aligned in a block: what the block operations of each mode's code give is what the unit rules say.
-- Assumes nothing.
use mathlib.Core.Path.{◌≡◌, refl, sym, ap, ◌∙◌}
use mathlib.Core.Bool.{Bool, true}
use mathlib.Core.Logic.{◌⊎◌, inl, inr}
use borrow.Author.Tests.{eqb-true, leb-true}
use mathlib.Core.List.{List, ◌++◌}
use Prim.Native.Nat.{ℕ, ◌≤◌}
use native.Mathlib.Nat.{min-eq_left}
use native.Mathlib.Omega.{arith}
use lib.ListN.{length, take, drop, length-take, length-drop, length-append}
use lib.Seq.{take_all}
use Rattle.bits.specs.Xor.{xor_bytes}
use Rattle.bits.specs.Texts.{bits, pack, pack_to, bytes_for, xor_bits, shift_in}
use Rattle.bits.specs.Blocks.{Block}
use Rattle.bits.specs.Counter.{increment}
use Rattle.bits.proofs.Texts.{bits-block, block-pack-bits, pack-block}
use Rattle.bits.proofs.Xors.{bits-xor_bytes, take-xor_bits, xor_bytes-block}
use Rattle.prepared.specs.declared.counted.Ran.{Ran}
use Rattle.prepared.specs.Prepared.{Counted}
use Rattle.rules.specs.declared.Mode.{Mode}
use Rattle.rules.specs.declared.Mode.TheVariants.{Ecb, Cbc, Cfb, Ofb, Ctr}
use Rattle.rules.specs.declared.Direction.TheVariants.{Encrypt, Decrypt}
use Rattle.rules.specs.declared.Direction.{Direction}
use Rattle.rules.specs.Numbers.{is_decrypt}
use Rattle.rules.specs.Rules.{msb, mask, next, cipher_unit, plain_unit, out_of, next_of}
use Rattle.rules.proofs.Units.{UnitLength}
use Rattle.units.specs.declared.unit.Step.{Step}
use Rattle.units.specs.Inner.Turns.{runs_dec, Runs, out_block, Turned, unit_size_ok}

-- ---- a whole block

whole : {b : List ℕ} → Block b → take 128 (bits b) ≡ bits b
whole {b} h = take_all 128 (bits b) (omega (arith, bits-block h))

packed : {b : List ℕ} → Block b → pack (take 128 (bits b)) ≡ b
packed h = ap pack (whole h) ∙ block-pack-bits h

-- ---- a unit of `size` bits

unit_size : {b : List ℕ} (size : ℕ) → Block b → size ≤ 128 → length (take size (bits b)) ≡ size
unit_size {b} size h le = length-take size (bits b) ∙ min-eq_left (omega (arith, bits-block h))

masked : {unit block : List ℕ} (size : ℕ) → Block unit → Block block → size ≤ 128
    → take size (bits (xor_bytes unit block)) ≡ mask (take size (bits unit)) block
unfolding mask msb
masked {unit} {block} size hu hb le =
    ap (take size) (bits-xor_bytes unit block hu.bytes hb.bytes) ∙ take-xor_bits size (bits unit) (bits block)
    ∙ ap (λ k. xor_bits (take size (bits unit)) (take k (bits block))) (sym (unit_size size hu le))

shifted : {register segment : List ℕ} (size : ℕ) → Block register → Block segment → size ≤ 128
    → pack_to 16 (drop size (bits register) ++ take size (bits segment)) ≡ pack (shift_in (bits register) (take size (bits segment)))
unfolding pack shift_in bytes_for
shifted {register} {segment} size hr hs le =
    let s : length (take size (bits segment)) ≡ size = unit_size size hs le in
    let f : length (drop size (bits register) ++ take size (bits segment)) ≡ 128 = length-append (drop size (bits register)) (take size (bits segment)) ∙ simp length-drop (omega (arith, bits-block hr)) in
    sym (ap (λ k. pack (drop k (bits register) ++ take size (bits segment))) s ∙ ap (λ k. pack_to (bytes_for k) (drop size (bits register) ++ take size (bits segment))) f ∙ refl)

-- ---- the modes

-- A unit's result, by the run that was made for it.
abbrev step_by : Ran → List ℕ → List ℕ → Step
step_by ran out after = record { out = out; register = after; runs = ran.runs }

module _ (f : List ℕ → List ℕ) {register unit : List ℕ} (hr : Block register) (hu : Block unit) {ran : Ran} (hb : Block ran.block) where
  by-run : {block : List ℕ} {mode : Mode} {dir : Direction} {m size : ℕ} {out after : List ℕ} → Counted f block ran → out ≡ out_block f mode dir register unit
      → take size (bits out) ≡ out_of f f mode dir register (take size (bits unit)) → after ≡ next_of f f mode dir m register (take size (bits unit))
      → Turned f mode dir m register unit size (step_by ran out after)
  by-run run all text next = record { out_bits = text; out-block = all; register_after = next; one_run = run.one_run }

  pub ecb-turned : (dir : Direction) (m : ℕ) → Counted f unit ran → Turned f Ecb dir m register unit 128 (step_by ran ran.block register)
  unfolding out_block out_of next_of cipher_unit plain_unit next
  ecb-turned Encrypt m run = by-run run run.made (whole hb ∙ ap bits (run.made ∙ ap f (sym (packed hu)))) refl
  ecb-turned Decrypt m run = by-run run run.made (whole hb ∙ ap bits (run.made ∙ ap f (sym (packed hu)))) refl

  pub cbc-encrypted : {added : List ℕ} (m : ℕ) → added ≡ xor_bytes unit register → Counted f added ran
      → Turned f Cbc Encrypt m register unit 128 (step_by ran ran.block ran.block)
  unfolding out_block out_of next_of cipher_unit next
  cbc-encrypted m e run =
      let same : ran.block ≡ f (xor_bytes (pack (take 128 (bits unit))) register) = run.made ∙ ap f (e ∙ ap (λ u. xor_bytes u register) (sym (packed hu))) in
      by-run run (run.made ∙ ap f e) (whole hb ∙ ap bits same) (sym (block-pack-bits hb) ∙ ap (λ b. pack (bits b)) same)

  pub cbc-decrypted : {out : List ℕ} (m : ℕ) → Block out → Counted f unit ran → out ≡ xor_bytes ran.block register
      → Turned f Cbc Decrypt m register unit 128 (step_by ran out unit)
  unfolding out_block out_of next_of plain_unit next
  cbc-decrypted m ho run e = by-run run (e ∙ ap (λ b. xor_bytes b register) run.made) (whole ho ∙ ap bits (e ∙ ap (λ b. xor_bytes b register) (run.made ∙ ap f (sym (packed hu))))) (sym (packed hu))

  -- the first bits of the register's block are added
  pub ofb-turned : (dir : Direction) (m : ℕ) {out : List ℕ} → Counted f register ran → out ≡ xor_bytes unit ran.block
      → (size : ℕ) → size ≤ 128 → Turned f Ofb dir m register unit size (step_by ran out ran.block)
  unfolding out_block out_of next_of cipher_unit plain_unit next
  ofb-turned dir m {out} run g size le = go dir
    where
      text : take size (bits out) ≡ mask (take size (bits unit)) (f register)
      text = ap (λ b. take size (bits b)) g ∙ masked size hu hb le ∙ ap (mask (take size (bits unit))) run.made

      go : (dir : Direction) → Turned f Ofb dir m register unit size (step_by ran out ran.block)
      go Encrypt = by-run run (g ∙ ap (xor_bytes unit) run.made) text run.made
      go Decrypt = by-run run (g ∙ ap (xor_bytes unit) run.made) text run.made

-- In CFB and CTR a unit becomes the same, and only the register after it is another.
module _ {f : List ℕ → List ℕ} {m : ℕ} {register unit : List ℕ} {size : ℕ} {s : Step} {after : List ℕ} where
  pub cfb-encrypted : Block register → Block s.out → size ≤ 128 → Turned f Ofb Encrypt m register unit size s
      → after ≡ pack_to 16 (drop size (bits register) ++ take size (bits s.out)) → Turned f Cfb Encrypt m register unit size (record { out = s.out; register = after; runs = s.runs })
  unfolding out_block out_of next_of cipher_unit next
  cfb-encrypted hr ho le t h =
      record {
        out_bits = t.out_bits;
        out-block = t.out-block;
        register_after = h ∙ shifted size hr ho le ∙ ap (λ c. pack (shift_in (bits register) c)) t.out_bits;
        one_run = t.one_run;
      }

  pub cfb-decrypted : Block register → Block unit → size ≤ 128 → Turned f Ofb Decrypt m register unit size s
      → after ≡ pack_to 16 (drop size (bits register) ++ take size (bits unit)) → Turned f Cfb Decrypt m register unit size (record { out = s.out; register = after; runs = s.runs })
  unfolding out_block out_of next_of plain_unit next
  cfb-decrypted hr hu le t h =
      record { out_bits = t.out_bits; out-block = t.out-block; register_after = h ∙ shifted size hr hu le; one_run = t.one_run }

  pub ctr-turned : (dir : Direction) → Turned f Ofb dir m register unit size s → after ≡ increment m register
      → Turned f Ctr dir m register unit size (record { out = s.out; register = after; runs = s.runs })
  unfolding out_block out_of next_of cipher_unit plain_unit next
  ctr-turned Encrypt t h = record { out_bits = t.out_bits; out-block = t.out-block; register_after = h; one_run = t.one_run }
  ctr-turned Decrypt t h = record { out_bits = t.out_bits; out-block = t.out-block; register_after = h; one_run = t.one_run }

-- ---- a unit's bits, by the mode

pub block_size : {mode : Mode} {size : ℕ} → unit_size_ok mode size ≡ true → (mode ≡ Ecb) ⊎ (mode ≡ Cbc) → size ≡ 128
unfolding unit_size_ok
block_size {size = size} h (inl e) = eqb-true size 128 (sym (ap (λ m. unit_size_ok m size) e) ∙ h)
block_size {size = size} h (inr e) = eqb-true size 128 (sym (ap (λ m. unit_size_ok m size) e) ∙ h)

pub stream_size : {mode : Mode} {size : ℕ} → unit_size_ok mode size ≡ true → (mode ≡ Cfb) ⊎ ((mode ≡ Ofb) ⊎ (mode ≡ Ctr)) → size ≤ 128
unfolding unit_size_ok
stream_size {size = size} h (inl e) = leb-true size 128 (sym (ap (λ m. unit_size_ok m size) e) ∙ h)
stream_size {size = size} h (inr (inl e)) = leb-true size 128 (sym (ap (λ m. unit_size_ok m size) e) ∙ h)
stream_size {size = size} h (inr (inr e)) = leb-true size 128 (sym (ap (λ m. unit_size_ok m size) e) ∙ h)

-- ---- the one block function that a mode runs

module _ {f enc dec : List ℕ → List ℕ} {r : List ℕ} (block : Block r) (u : List Bool) where
  pub out-same : (mode : Mode) (dir : Direction) → Runs f enc dec mode dir → UnitLength mode (length u) → out_of f f mode dir r u ≡ out_of enc dec mode dir r u
  unfolding out_of cipher_unit plain_unit next runs_dec is_decrypt UnitLength
  out-same Ecb Encrypt runs l = rw (runs.same (pack u) (pack-block u l))
  out-same Ecb Decrypt runs l = rw (runs.same (pack u) (pack-block u l))
  out-same Cbc Encrypt runs l = rw (runs.same (xor_bytes (pack u) r) (xor_bytes-block (pack-block u l) block))
  out-same Cbc Decrypt runs l = rw (runs.same (pack u) (pack-block u l))
  out-same Cfb Encrypt runs l = rw (runs.same r block)
  out-same Cfb Decrypt runs l = rw (runs.same r block)
  out-same Ofb Encrypt runs l = rw (runs.same r block)
  out-same Ofb Decrypt runs l = rw (runs.same r block)
  out-same Ctr Encrypt runs l = rw (runs.same r block)
  out-same Ctr Decrypt runs l = rw (runs.same r block)

  pub next-same : (mode : Mode) (dir : Direction) (m : ℕ) → Runs f enc dec mode dir → UnitLength mode (length u) → next_of f f mode dir m r u ≡ next_of enc dec mode dir m r u
  unfolding next_of cipher_unit next runs_dec is_decrypt UnitLength
  next-same Ecb Encrypt m runs l = refl
  next-same Ecb Decrypt m runs l = refl
  next-same Cbc Encrypt m runs l = rw (runs.same (xor_bytes (pack u) r) (xor_bytes-block (pack-block u l) block))
  next-same Cbc Decrypt m runs l = refl
  next-same Cfb Encrypt m runs l = rw (runs.same r block)
  next-same Cfb Decrypt m runs l = refl
  next-same Ofb Encrypt m runs l = rw (runs.same r block)
  next-same Ofb Decrypt m runs l = rw (runs.same r block)
  next-same Ctr Encrypt m runs l = refl
  next-same Ctr Decrypt m runs l = refl
