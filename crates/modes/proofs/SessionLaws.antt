-- A session that may be fed: what it makes of a text is as long as the text, it stays such a session, and a text in two
-- parts is as the two fed one after the other. Assumes nothing.
use Prim.Native.Nat.{ℕ, ◌*◌, ◌%◌, ◌<◌}
use mathlib.Core.Path.{◌≡◌, refl}
use mathlib.Core.Bool.{Bool, true, false}
use mathlib.Core.List.{List, [], ◌++◌}
use native.Mathlib.Nat.{zero-mod, add-zero, add_assoc, le_refl, mul-add-mod_self_right}
use lib.Dec.{eqb}
use lib.ListN.{length, length-append}
use borrow.Author.Tests.{eqb-true, not-false}
use Rattle.bits.specs.Blocks.{BlockCipher}
use Rattle.cipher.specs.Cipher.{Enc, Dec, rounds_ok}
use Rattle.cipher.specs.Promises.{UndoEachOther}
use Rattle.cipher.proofs.CipherLaws.{undo_each_other}
use Rattle.rules.specs.declared.Mode.{Mode}
use Rattle.rules.specs.declared.Mode.TheVariants.{Ecb, Cbc, Cfb, Ofb, Ctr}
use Rattle.rules.specs.Lengths.{unit_length_ok, whole_units}
use Rattle.rules.specs.Rules.{units_in, joined, register_at, worked}
use Rattle.rules.proofs.Counts.{units_none, whole-units}
use Rattle.rules.proofs.Append.{register-second, worked-append, units-append}
use Rattle.rules.proofs.Taken.{unit_bounds, Taken, taken, whole_append}
use Rattle.rules.proofs.Undo.{registers-block, worked-length}
use Rattle.modes.specs.declared.session.Session.{Session}
use Rattle.modes.specs.Sessions.{Arrays, session_text, session_register, fed_session}

-- Arrays as the type says, and a 'yes' to question 4.
pub record Ready (s : Session) : Type 0 where
  pub arrays : Arrays s
  pub rounds_good : rounds_ok s.rounds ≡ true
  pub unit : unit_length_ok s.mode s.n ≡ true

-- A feed that leaves it open was of whole units.
pub whole_fed : (s : Session) (x : List Bool) → (fed_session s x).closed ≡ false → length x % s.n ≡ 0
unfolding fed_session
whole_fed s x free = eqb-true (length x % s.n) 0 (not-false (eqb (length x % s.n) 0) free)

-- No bits are whole units.
pub whole_none : (mode : Mode) (n : ℕ) → whole_units mode n 0 ≡ true
unfolding whole_units
whole_none Ecb n = rw zero-mod
whole_none Cbc n = rw zero-mod
whole_none Cfb n = rw zero-mod
whole_none Ofb n = refl
whole_none Ctr n = refl

-- The block functions of a session.
abbrev pub enc_by : Session → List ℕ → List ℕ
enc_by s = Enc s.rounds s.keys

abbrev pub dec_by : Session → List ℕ → List ℕ
dec_by s = Dec s.rounds s.keys

module _ {s : Session} (ready : Ready s) where
  pub ciphers : BlockCipher (Enc s.rounds s.keys) (Dec s.rounds s.keys)
  unfolding UndoEachOther
  ciphers = undo_each_other s.rounds s.keys ready.rounds_good ready.arrays.keys

  pub some_bits : 0 < s.n
  some_bits = (unit_bounds s.mode s.n ready.unit).0

  -- whole units, then the rest
  module _ (x y : List Bool) (units : length x % s.n ≡ 0) where
    pub bits-of-units : length x ≡ units_in s.n (length x) * s.n
    bits-of-units = whole-units (length x) some_bits units

    rest-of-bits : length (x ++ y) % s.n ≡ length y % s.n
    rest-of-bits = rw (length-append, bits-of-units) (mul-add-mod_self_right (units_in s.n (length x)) s.n (length y))

    pub text-append : session_text s (x ++ y) ≡ session_text s x ++ session_text (fed_session s x) y
    unfolding session_text fed_session session_register
    text-append =
        worked-append (enc_by s) (dec_by s) s.mode s.direction s.n s.m s.register x y (units_in s.n (length x)) bits-of-units some_bits

    pub fed-append : fed_session s (x ++ y) ≡ fed_session (fed_session s x) y
    unfolding fed_session session_register
    fed-append =
        rw (
          units-append (enc_by s) (dec_by s) s.mode s.direction s.n s.m s.register x y (units_in s.n (length x)) bits-of-units some_bits,
          register-second (enc_by s) (dec_by s) s.mode s.direction s.n s.m s.register x y (units_in s.n (length x)) bits-of-units (units_in s.n (length y)),
          ← add_assoc,
          rest-of-bits,
        )

    pub whole-units-append : whole_units s.mode s.n (length (x ++ y)) ≡ whole_units s.mode s.n (length y)
    whole-units-append = rw (length-append, bits-of-units) (whole_append s.mode s.n (units_in s.n (length x)) (length y))

  module _ (x : List Bool) (whole : whole_units s.mode s.n (length x) ≡ true) where
    text : Taken s.mode s.n x
    text = taken s.mode s.n x ready.unit whole

    pub text-length : length (session_text s x) ≡ length x
    unfolding session_text
    text-length = worked-length ciphers s.m s.direction ready.arrays.register text

    pub fed-ready : Ready (fed_session s x)
    unfolding fed_session session_register
    fed-ready =
        record {
          arrays = record {
            register = registers-block ciphers s.m s.direction ready.arrays.register text (units_in s.n (length x)) (le_refl (units_in s.n (length x)));
            keys = ready.arrays.keys;
            keys_size = ready.arrays.keys_size;
          };
          rounds_good = ready.rounds_good;
          unit = ready.unit;
        }

-- No text.
module _ (s : Session) (some : 0 < s.n) where
  pub text-none : session_text s [] ≡ []
  unfolding session_text worked joined
  text-none = rw (units_none some)

  pub fed-none : s.closed ≡ false → fed_session s [] ≡ s
  unfolding fed_session session_register register_at
  fed-none free = rw (units_none some, zero-mod, add-zero, ← free)
