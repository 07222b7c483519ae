-- Units read from bytes and written to bytes: what the window over the input reads is the unit, and each written unit
-- goes after those before it. Assumes nothing.
use Prim.Native.Nat.{ℕ, zero, suc, ◌+◌, ◌-◌, ◌*◌, ◌/◌, ◌%◌, ◌≤◌, ◌<◌, min}
use mathlib.Core.Path.{◌≡◌, refl, sym, ap, ap₂, ◌∙◌}
use mathlib.Core.Bool.{Bool, true}
use mathlib.Core.List.{List, [], ◌∷◌, ◌++◌}
use native.Mathlib.Nat.{sub-zero, zero-sub, suc-sub-suc, zero-min, min-zero, suc-min-suc, suc-add, zero-add, div-add-mod', min-eq_left, min-eq_right, le_refl, add-sub_of_le, suc-ne-zero}
use native.Mathlib.Omega.{arith}
use borrow.Author.Tests.{eq-eqb, le-leb, eqb-true}
use lib.ListN.{length, take, drop, replicate, length-take, length-drop, length-append}
use lib.Seq.{drop-drop, take-nil, take_all}
use Rattle.bits.specs.Texts.{bits, byte_of, pack, pack_to, bytes_for, put_bits}
use Rattle.bits.specs.Blocks.{Bytes, Block, BlockCipher}
use Rattle.bits.proofs.Packed.{pack_to_nil}
use Rattle.bits.proofs.Texts.{pack_to-bits, length-bits, drop_bits, take-bits_packed, put_after}
use Rattle.rules.specs.declared.Mode.{Mode}
use Rattle.rules.specs.declared.Mode.TheVariants.{Ecb, Cbc, Cfb, Ofb, Ctr}
use Rattle.rules.specs.Rules.{start, unit_at, units_in}
use Rattle.rules.specs.Rules.{out_of, next_of, joined, register_at, out_at, worked}
use Rattle.rules.specs.declared.Direction.{Direction}
use Rattle.rules.proofs.Counts.{unit_there, units_cover}
use Rattle.rules.proofs.Joined.{unit_length}
use Rattle.rules.proofs.Taken.{unit_bounds, Taken, taken}
use Rattle.rules.proofs.Units.{UnitLength}
use Rattle.rules.proofs.Undo.{part_length, registers-block}
use Rattle.cipher.specs.Cipher.{Enc, Dec}
use Rattle.cipher.specs.Promises.{UndoEachOther}
use Rattle.cipher.proofs.CipherLaws.{undo_each_other}
use Rattle.questions.specs.Questions.{iv_ok}
use Rattle.units.specs.declared.unit.Step.{Step}
use Rattle.units.specs.Inner.Turns.{Turned, unit_size_ok}
use Rattle.modes.specs.declared.work.Progress.{Progress}
use Rattle.modes.specs.Inner.Works.{Workable, RunsUnder, UnitWorked, Worked}
use Rattle.units.proofs.TurnLaws.{out-same, next-same}

pub drop-take : {A : Type 0} (a c : ℕ) (z : List A) → drop a (take c z) ≡ take (c - a) (drop a z)
drop-take zero c z = ap (λ k. take k z) (sym (sub-zero c))
drop-take (suc a) zero z = sym (ap (λ k. take k (drop (suc a) z)) (zero-sub (suc a)))
drop-take (suc a) (suc c) [] = sym (take-nil (suc c - suc a))
drop-take (suc a) (suc c) (x ∷ z) = drop-take a c z ∙ ap (λ k. take k (drop a z)) (sym (suc-sub-suc c a))

take_min : {A : Type 0} (n m : ℕ) (z : List A) → take n (take m z) ≡ take (min n m) z
take_min zero m z = sym (ap (λ k. take k z) (zero-min m))
take_min (suc n) zero z = sym (ap (λ k. take k z) (min-zero (suc n)))
take_min (suc n) (suc m) [] = sym (take-nil (min (suc n) (suc m)))
take_min (suc n) (suc m) (x ∷ z) = ap (λ l. x ∷ l) (take_min n m z) ∙ ap (λ k. take k (x ∷ z)) (sym (suc-min-suc n m))

-- The bits from bit `at` on, by the byte that holds it and the bit's place there.
from_byte : (at : ℕ) (input : List ℕ) → drop (at % 8) (bits (drop (at / 8) input)) ≡ drop at (bits input)
from_byte at input =
    ap (drop (at % 8)) (sym (drop_bits (at / 8) input)) ∙ drop-drop (at % 8) (at / 8 * 8) (bits input)
    ∙ ap (λ k. drop k (bits input)) (div-add-mod' at 8)

-- Unit t, as the window reads it.
pub unit_read : (n t count : ℕ) (input : List ℕ)
    → take (min n (count - t * n)) (drop (t * n % 8) (bits (drop (t * n / 8) input))) ≡ unit_at n (take count (bits input)) t
unfolding unit_at
unit_read n t count input =
    ap (take (min n (count - t * n))) (from_byte (t * n) input)
    ∙ sym (ap (take n) (drop-take (t * n) count (bits input)) ∙ take_min n (count - t * n) (drop (t * n) (bits input)))

eight_more : (k : ℕ) → 8 + k * 8 ≡ suc k * 8
eight_more k = omega arith

pack_to_split : (k j : ℕ) (x : List Bool) → pack_to (k + j) x ≡ pack_to k x ++ pack_to j (drop (k * 8) x)
unfolding pack_to
pack_to_split zero j x = ap (λ i. pack_to i x) (zero-add j)
pack_to_split (suc k) j x =
    ap (λ i. pack_to i x) (suc-add k j) ∙ ap (λ l. byte_of x ∷ l) (pack_to_split k j (drop 8 x))
    ∙ ap (λ l. byte_of x ∷ pack_to k (drop 8 x) ++ pack_to j l) (drop-drop (k * 8) 8 x ∙ ap (λ i. drop i x) (eight_more k))

few : (l : ℕ) → l ≤ 128 → bytes_for l ≤ 16
unfolding bytes_for
few l h = omega arith

-- A unit that stands left-aligned in a block is found there.
pub aligned : (u : List Bool) → length u ≤ 128 → take (length u) (bits (pack_to 16 u)) ≡ u
unfolding pack
aligned u h =
    let k : bytes_for (length u) ≤ 16 = few (length u) h in
    ap (λ i. take (length u) (bits (pack_to i u))) (sym (add-sub_of_le k))
    ∙ ap (λ l. take (length u) (bits l)) (pack_to_split (bytes_for (length u)) (16 - bytes_for (length u)) u)
    ∙ take-bits_packed u (pack_to (16 - bytes_for (length u)) (drop (bytes_for (length u) * 8) u))

pub size_ok : (mode : Mode) (size : ℕ) → UnitLength mode size → unit_size_ok mode size ≡ true
unfolding UnitLength unit_size_ok
size_ok Ecb size e = eq-eqb size 128 e
size_ok Cbc size e = eq-eqb size 128 e
size_ok Cfb size h = le-leb size 128 h
size_ok Ofb size h = le-leb size 128 h
size_ok Ctr size h = le-leb size 128 h

-- ---- the register at the start

whole_iv : (iv : List ℕ) → Bytes iv → length iv ≡ 16 → pack_to 16 (take 128 (bits iv)) ≡ iv
whole_iv iv h e =
    ap (pack_to 16) (take_all 128 (bits iv) (omega (arith, length-bits iv))) ∙ ap (λ k. pack_to k (bits iv)) (sym e) ∙ pack_to-bits iv h

no_iv : (iv : List ℕ) → length iv ≡ 0 → pack_to 16 (take 128 (bits iv)) ≡ replicate 16 0
unfolding bits
no_iv [] e = pack_to_nil 16
no_iv (b ∷ iv) e = absurd (suc-ne-zero (length iv) e)

-- The IV's bits as a block: the IV itself, and zero bytes where there is none.
pub start_window : (mode : Mode) (iv : List ℕ) → Bytes iv → iv_ok mode iv ≡ true → pack_to 16 (take 128 (drop 0 (bits iv))) ≡ start mode iv
unfolding iv_ok start
start_window Ecb iv h e = no_iv iv (eqb-true (length iv) 0 e)
start_window Cbc iv h e = whole_iv iv h (eqb-true (length iv) 16 e)
start_window Cfb iv h e = whole_iv iv h (eqb-true (length iv) 16 e)
start_window Ofb iv h e = whole_iv iv h (eqb-true (length iv) 16 e)
start_window Ctr iv h e = whole_iv iv h (eqb-true (length iv) 16 e)

-- A part up to the end.
pub part_all : (a : ℕ) (l : List ℕ) → take (length l - a) (drop a l) ≡ drop a l
part_all a l = take_all (length l - a) (drop a l) (omega (arith, length-drop a l))

-- ---- one unit

module _ {mode : Mode} {n : ℕ} {input : List ℕ} {count : ℕ} {out : List ℕ} (w : Workable mode n input count out) {t : ℕ} (h : t < units_in n count) where
  text-length : length (take count (bits input)) ≡ count
  text-length = length-take count (bits input) ∙ min-eq_left (omega (arith, length-bits input, w.within))

  pub unit-inside : t * n < count
  unit-inside = (unit_there count t (unit_bounds mode n w.unit_length).0).0 h

  unit-bits : length (unit_at n (take count (bits input)) t) ≡ min n (count - t * n)
  unit-bits = unit_length n (take count (bits input)) t ∙ ap (λ k. min n (k - t * n)) text-length

  pub unit-taken : UnitLength mode (length (unit_at n (take count (bits input)) t))
  unit-taken =
      (taken mode n (take count (bits input)) w.unit_length (rw text-length w.whole)).unit t (rw text-length h)

  pub unit-size-ok : unit_size_ok mode (min n (count - t * n)) ≡ true
  unit-size-ok = size_ok mode (min n (count - t * n)) (rw unit-bits at unit-taken)

  pub unit-fits : (min n (count - t * n) ≤ 128) × (t * n + min n (count - t * n) ≤ length out * 8)
  unfolding bytes_for
  unit-fits = (omega (arith, unit_bounds mode n w.unit_length), omega (arith, unit-inside, w.room))

  pub unit-worked : {f : List ℕ → List ℕ} {dir : Direction} {m : ℕ} {register : List ℕ} {size : ℕ} {unit after : List ℕ} {step : Step} → size ≡ min n (count - t * n)
      → unit ≡ pack_to 16 (take size (drop (t * n % 8) (bits (drop (t * n / 8) input))))
      → Turned f mode dir m register unit size step → after ≡ put_bits out (t * n) (take size (bits step.out))
      → UnitWorked f mode dir n m register input count out t (record { register = step.register; runs = step.runs }) after
  unit-worked {f} {dir} {m} {register} {size} {unit} e u turned put =
      record {
        register_after = turned.register_after ∙ ap (next_of f f mode dir m register) found;
        out_after = put ∙ ap (put_bits out (t * n)) (turned.out_bits ∙ ap (out_of f f mode dir register) found);
        one_run = turned.one_run;
      }
    where
      whole : unit ≡ pack_to 16 (unit_at n (take count (bits input)) t)
      whole = u ∙ ap (pack_to 16) (ap (λ k. take k (drop (t * n % 8) (bits (drop (t * n / 8) input)))) e ∙ unit_read n t count input)

      found : take size (bits unit) ≡ unit_at n (take count (bits input)) t
      found =
          ap₂ (λ k b. take k (bits b)) (e ∙ sym unit-bits) whole
          ∙ aligned (unit_at n (take count (bits input)) t) (omega (arith, unit-bits, unit-fits))

-- ---- the loop

fewer : (a b : ℕ) → a ≤ b → bytes_for a ≤ bytes_for b
unfolding bytes_for
fewer a b h = omega arith

-- A unit's bits go after those before it.
pub put_next : (x s : List Bool) (old : List ℕ) (at : ℕ) {out after : List ℕ} → length x ≡ at → out ≡ pack x ++ drop (bytes_for (length x)) old → after ≡ put_bits out at s
    → after ≡ pack (x ++ s) ++ drop (bytes_for (length (x ++ s))) old
put_next x s old at e o p =
    p ∙ ap₂ (λ b k. put_bits b k s) o (sym e) ∙ put_after x s old ∙ ap (λ k. pack (x ++ s) ++ drop (bytes_for k) old) (sym (length-append x s))

-- After t units: the register, the runs, and what they became in front of the rest of the old output.
pub record Through (mode : Mode) (dir : Direction) (n m rounds : ℕ) (keys register input : List ℕ) (count : ℕ) (old : List ℕ) (t : ℕ) (r : Progress) (out : List ℕ) : Type 0 where
  pub runs_now : r.runs ≡ t
  pub register_now : r.register ≡ register_at (Enc rounds keys) (Dec rounds keys) mode dir n m register (take count (bits input)) t
  pub out_now : out ≡ pack (joined t (out_at (Enc rounds keys) (Dec rounds keys) mode dir n m register (take count (bits input)))) ++ drop (bytes_for (length (joined t (out_at (Enc rounds keys) (Dec rounds keys) mode dir n m register (take count (bits input)))))) old

module _ {mode : Mode} {dir : Direction} {n rounds : ℕ} {keys input : List ℕ} {f : List ℕ → List ℕ} {count : ℕ} {old : List ℕ} (w : Workable mode n input count old) (under : RunsUnder rounds keys mode dir f) (m : ℕ) {register : List ℕ} (hr : Block register) where
  abbrev text : List Bool
  text = take count (bits input)

  abbrev become : ℕ → List Bool
  become = out_at (Enc rounds keys) (Dec rounds keys) mode dir n m register text

  count_bits : length (take count (bits input)) ≡ count
  count_bits = length-take count (bits input) ∙ min-eq_left (omega (arith, length-bits input, w.within))

  ciphers : BlockCipher (Enc rounds keys) (Dec rounds keys)
  unfolding UndoEachOther
  ciphers = undo_each_other rounds keys under.rounds-ok under.keys_bytes

  text-taken : Taken mode n (take count (bits input))
  text-taken = taken mode n (take count (bits input)) w.unit_length (rw count_bits w.whole)

  become-length : (t : ℕ) → t ≤ units_in n count → length (joined t become) ≡ min (t * n) count
  become-length t h = part_length ciphers m dir hr text-taken t (rw count_bits h) ∙ ap (min (t * n)) count_bits

  pub none-through : Through mode dir n m rounds keys register input count old 0 (record { register = register; runs = 0 }) old
  unfolding register_at joined pack pack_to bytes_for
  none-through = record { runs_now = refl; register_now = refl; out_now = refl }

  pub one-through : (t : ℕ) → t < units_in n count → {r unit : Progress} {before out after : List ℕ} → Through mode dir n m rounds keys register input count old t r out
      → UnitWorked f mode dir n m before input count out t unit after → before ≡ r.register
      → Through mode dir n m rounds keys register input count old (suc t) (record { register = unit.register; runs = r.runs + unit.runs }) after
  unfolding register_at joined out_at
  one-through t h {out = out} s u e =
      let at : length (joined t become) ≡ t * n = become-length t (omega arith) ∙ min-eq_left (omega (arith, (unit_there count t (unit_bounds mode n w.unit_length).0).0 h)) in
      let block = registers-block ciphers m dir hr text-taken t (rw count_bits (omega arith)) in
      let size = unit-taken w h in
      let now = e ∙ s.register_now in
      record {
        runs_now = omega (arith, s.runs_now, u.one_run);
        register_now = u.register_after ∙ ap (λ r. next_of f f mode dir m r (unit_at n text t)) now ∙ next-same block (unit_at n text t) mode dir m under.runs size;
        out_now = put_next (joined t become) (become t) old (t * n) at s.out_now
            (u.out_after ∙ ap (put_bits out (t * n)) (ap (λ r. out_of f f mode dir r (unit_at n text t)) now ∙ out-same block (unit_at n text t) mode dir under.runs size));
      }

  pub all-through : {r : Progress} {out : List ℕ} → Through mode dir n m rounds keys register input count old (units_in n count) r out → Worked mode dir n m rounds keys register input count old r out
  unfolding worked
  all-through s =
      let all : length (joined (units_in n count) become) ≡ count = become-length (units_in n count) (le_refl (units_in n count)) ∙ min-eq_right (units_cover count (unit_bounds mode n w.unit_length).0) in
      record {
        all_runs = s.runs_now;
        register_after = s.register_now;
        out_after = s.out_now ∙ ap₂ (λ k l. pack (joined (units_in n k) become) ++ drop (bytes_for l) old) (sym count_bits) all;
      }
