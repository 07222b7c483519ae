-- Where reading has ended, no text that begins this way is of the form, whatever follows: a complete line stays as it
-- is, and one that is open and too long only becomes longer. Assumes nothing.
use mathlib.Core.Path.{◌≡◌, refl, sym, ap, ◌∙◌}
use mathlib.Core.Bool.{Bool, true, false, cond}
use mathlib.Core.List.{List, [], ◌∷◌, ◌++◌}
use Rattle.std.specs.Prelude.{Option, None, Some, is_some}
use Prim.Native.Nat.{ℕ, suc, ◌+◌, ◌≤◌, ◌<◌}
use native.Mathlib.Omega.{arith}
use borrow.Author.Tests.{lt-ltb, ltb-true, ltb-false, ne_eqb}
use lib.Dec.{ltb, eqb}
use lib.ListN.{length, take, drop, length-append}
use lib.Seq.{length-take-le, take-append-le, drop-append-le}
use Rattle.digits.specs.Texts.{given, ◌>>=◌, up_to, Cut, cut, hex_bytes, digits_fit}
use Rattle.header.specs.declared.line.Header.{Header}
use Rattle.header.specs.Header.{first_of}
use Rattle.grammar.specs.Grammar.{max_key_digits, max_data_digits, HexLine, hex_line, behind_first, request}
use Rattle.grammar.specs.Reading.{LineForm, first_form, digits_form, text_lines, by_cut, ends_in, reading_ends}
use Rattle.digits.proofs.DigitLaws.{fit_size}
use Rattle.grammar.proofs.SizeLaws.{never, given_true, first_size}

-- ---- the line that a text begins with, when more follows the text

up_to_same : (stop : ℕ) (front more : List ℕ) → up_to stop front < length front → up_to stop (front ++ more) ≡ up_to stop front
unfolding up_to
up_to_same stop [] more h = absurd (omega arith)
up_to_same stop (b ∷ front) more h = by-test (eqb b stop) (up_to_same stop front more) h
  where
    by-test : (t : Bool) {u v n : ℕ} → (u < n → v ≡ u) → cond t 0 (suc u) < suc n → cond t 0 (suc v) ≡ cond t 0 (suc u)
    by-test true next h = refl
    by-test false next h = ap suc (next (omega arith))

up_to_longer : (stop : ℕ) (front more : List ℕ) → length front ≤ up_to stop front → length front ≤ up_to stop (front ++ more)
unfolding up_to
up_to_longer stop [] more h = omega arith
up_to_longer stop (b ∷ front) more h = by-test (eqb b stop) (up_to_longer stop front more) h
  where
    by-test : (t : Bool) {u v n : ℕ} → (n ≤ u → n ≤ v) → suc n ≤ cond t 0 (suc u) → suc n ≤ cond t 0 (suc v)
    by-test true next h = absurd (omega arith)
    by-test false next h = omega (arith, next (omega arith))

abbrev found : List ℕ → Cut
found s = record { before = take (up_to 10 s) s; behind = drop (up_to 10 s + 1) s }

given_false : {A : Type 0} (b : Bool) (a : A) → given b a ≡ None → b ≡ false
given_false true a e = absurd (never (sym e))
given_false false a e = refl

module _ (front more : List ℕ) where
  complete-cut : {c : Cut} → cut 10 front ≡ Some c → cut 10 (front ++ more) ≡ Some (record { before = c.before; behind = c.behind ++ more })
  unfolding cut
  complete-cut e =
      let n = up_to 10 front in
      let (test, is) = given_true (ltb n (length front)) {a = found front} e in
      let inside = ltb-true n (length front) test in
      rw (up_to_same 10 front more inside, lt-ltb n (length (front ++ more)) (rw length-append (omega arith)))
      (rw (take-append-le n front more (omega arith), drop-append-le (n + 1) front more (omega arith), ← is))

  open-cut : {c : Cut} → cut 10 front ≡ None → cut 10 (front ++ more) ≡ Some c → length front ≤ length c.before
  unfolding cut
  open-cut e f =
      let s = front ++ more in
      let (test, is) = given_true (ltb (up_to 10 s) (length s)) {a = found s} f in
      let inside = ltb-true (up_to 10 s) (length s) test in
      let long = ltb-false (up_to 10 front) (length front) (given_false (ltb (up_to 10 front) (length front)) (found front) e) in
      rw (← is, length-take-le (up_to 10 s) s (omega arith)) (up_to_longer 10 front more long)

-- ---- a reader of texts that gives nothing once reading has ended

abbrev Refuses : {A : Type 0} → List LineForm → (List ℕ → Option A) → Type 0
Refuses lines read = (front more : List ℕ) → ends_in lines front ≡ true → read (front ++ more) ≡ None

nothing_more : {A : Type 0} (a : A) → Refuses [] (λ s. given (eqb (length s) 0) a)
unfolding ends_in
nothing_more a front more e = rw (ne_eqb (length (front ++ more)) 0 (λ z. omega (arith, ltb-true 0 (length front) e, simp length-append at z)))

module _ {A : Type 0} (line : LineForm) (lines : List LineForm) (read : Cut → Option A)
    (short : (w : List ℕ) → line.good w ≡ true → length w ≤ line.most)
    (bad : (c : Cut) → line.good c.before ≡ false → read c ≡ None)
    (behind : (w : List ℕ) → Refuses lines (λ s. read (record { before = w; behind = s }))) where
  too_long : (c : Cut) (t : Bool) → line.good c.before ≡ t → line.most < length c.before → read c ≡ None
  too_long c true good h = absurd (omega (arith, short c.before good))
  too_long c false good h = bad c good

  open-line : (front more : List ℕ) (o : Option Cut) → cut 10 front ≡ None → cut 10 (front ++ more) ≡ o → line.most < length front → (o >>= read) ≡ None
  open-line front more None e f h = refl
  open-line front more (Some c) e f h = too_long c (line.good c.before) refl (omega (arith, open-cut front more e f))

  complete-line : (c : Cut) (more : List ℕ) (t : Bool) → line.good c.before ≡ t → cond t (ends_in lines c.behind) true ≡ true
      → read (record { before = c.before; behind = c.behind ++ more }) ≡ None
  complete-line c more true good e = behind c.before c.behind more e
  complete-line c more false good e = bad (record { before = c.before; behind = c.behind ++ more }) good

  a-line : Refuses (line ∷ lines) (λ s. cut 10 s >>= read)
  unfolding ends_in
  a-line front more e = by-cut (cut 10 front) refl e
    where
      by-cut : (o : Option Cut) → cut 10 front ≡ o
          → by_cut o (ltb line.most (length front)) (λ c. cond (line.good c.before) (ends_in lines c.behind) true) ≡ true
          → (cut 10 (front ++ more) >>= read) ≡ None
      by-cut None f e = open-line front more (cut 10 (front ++ more)) f refl (ltb-true line.most (length front) e)
      by-cut (Some c) f e = rw (complete-cut front more f) (complete-line c more (line.good c.before) refl e)

-- ---- the four lines

pub bind_bind : {A B C : Type 0} (o : Option A) (f : A → Option B) (g : B → Option C) → ((o >>= f) >>= g) ≡ (o >>= (λ a. f a >>= g))
bind_bind None f g = refl
bind_bind (Some a) f g = refl

hex-line : {A : Type 0} (limit : ℕ) (lines : List LineForm) (read : HexLine → Option A)
    → ((bytes : List ℕ) → Refuses lines (λ s. read (record { bytes = bytes; behind = s }))) → Refuses (digits_form limit ∷ lines) (λ s. hex_line limit s >>= read)
unfolding hex_line
hex-line limit lines read behind front more e =
    bind_bind (cut 10 (front ++ more)) as-digits read
    ∙ a-line (digits_form limit) lines (λ c. as-digits c >>= read) (fit_size limit) (λ c other. rw other) by-fit front more e
  where
    as-digits : Cut → Option HexLine
    as-digits c = given (digits_fit limit c.before) (record { bytes = hex_bytes c.before; behind = c.behind })

    by-fit : (w : List ℕ) → Refuses lines (λ s. as-digits (record { before = w; behind = s }) >>= read)
    by-fit w front more e = by-test (digits_fit limit w)
      where
        by-test : (t : Bool) → (given t (record { bytes = hex_bytes w; behind = front ++ more }) >>= read) ≡ None
        by-test true = behind (hex_bytes w) front more e
        by-test false = refl

first_line : {A : Type 0} (lines : List LineForm) (read : Header → List ℕ → Option A) → ((first : Header) → Refuses lines (read first))
    → Refuses (first_form ∷ lines) (λ s. cut 10 s >>= (λ line. first_of line.before >>= (λ first. read first line.behind)))
first_line lines read behind =
    a-line first_form lines (λ line. first_of line.before >>= (λ first. read first line.behind)) (λ w good. short w (first_of w) refl good)
    (λ line other. bad (first_of line.before) line.behind other) (λ w front more e. known (first_of w) front more e)
  where
    short : (w : List ℕ) (o : Option Header) → first_of w ≡ o → is_some o ≡ true → length w ≤ 9
    short w None e good = absurd (let z : ◌≡◌ {A = ℕ} 0 1 = cc in omega arith)
    short w (Some first) e good = first_size w e

    bad : (o : Option Header) (s : List ℕ) → is_some o ≡ false → (o >>= (λ first. read first s)) ≡ None
    bad None s other = refl
    bad (Some first) s other = absurd (let z : ◌≡◌ {A = ℕ} 0 1 = cc in omega arith)

    known : (o : Option Header) → Refuses lines (λ s. o >>= (λ first. read first s))
    known None front more e = refl
    known (Some first) front more e = behind first front more e

pub ended_refuses : (front more : List ℕ) → reading_ends front ≡ true → request (front ++ more) ≡ None
unfolding reading_ends text_lines request behind_first
ended_refuses =
    first_line (digits_form max_key_digits ∷ digits_form max_key_digits ∷ digits_form max_data_digits ∷ []) behind_first
    (λ first. hex-line max_key_digits (digits_form max_key_digits ∷ digits_form max_data_digits ∷ []) _
    (λ key. hex-line max_key_digits (digits_form max_data_digits ∷ []) _
    (λ iv. hex-line max_data_digits [] _
    (λ message. nothing_more (record { mode = first.mode; n = first.n; direction = first.direction; key = key; iv = iv; message = message })))))
