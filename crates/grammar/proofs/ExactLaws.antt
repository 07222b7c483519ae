-- Where the lines that are due are complete, reading has ended exactly where a reader of them gives nothing: each line
-- is of its form for both, or for neither. Assumes nothing.
use mathlib.Core.Path.{◌≡◌, refl, sym, ap, ◌∙◌}
use mathlib.Core.Bool.{Bool, true, false, cond, not}
use mathlib.Core.List.{List, [], ◌∷◌}
use Rattle.std.specs.Prelude.{Option, None, Some, is_some}
use Prim.Native.Nat.{ℕ}
use native.Mathlib.Omega.{arith}
use borrow.Author.Tests.{lt-ltb, ne_eqb}
use lib.Dec.{eqb}
use lib.ListN.{length}
use Rattle.digits.specs.Texts.{given, ◌>>=◌, Cut, cut, hex_bytes, digits_fit}
use Rattle.header.specs.declared.line.Header.{Header}
use Rattle.header.specs.Header.{first_of}
use Rattle.grammar.specs.Grammar.{max_key_digits, max_data_digits, HexLine, hex_line, behind_first, request}
use Rattle.grammar.specs.Reading.{LineForm, first_form, digits_form, text_lines, ends_in, reading_ends, open_in, EndsExactly}
use Rattle.grammar.proofs.EndedLaws.{bind_bind}

abbrev Exact : {A : Type 0} → List LineForm → (List ℕ → Option A) → Type 0
Exact lines read = (s : List ℕ) → open_in lines s ≡ false → ends_in lines s ≡ not (is_some (read s))

still_open : (line : LineForm) (lines : List LineForm) (s : List ℕ) → cut 10 s ≡ None → open_in (line ∷ lines) s ≡ true
unfolding open_in
still_open line lines s e = rw e refl

true_not_false : true ≡ false → ⊥
true_not_false h = let z : ◌≡◌ {A = ℕ} 0 1 = cc in omega arith

nothing_more : {A : Type 0} (a : A) → Exact [] (λ s. given (eqb (length s) 0) a)
unfolding ends_in
nothing_more a [] h = refl
nothing_more a (b ∷ s) h = rw (lt-ltb 0 (length (b ∷ s)) (omega arith), ne_eqb (length (b ∷ s)) 0 (λ z. omega arith))

module _ {A : Type 0} (line : LineForm) (lines : List LineForm) (read : Cut → Option A)
    (bad : (c : Cut) → line.good c.before ≡ false → read c ≡ None)
    (behind : (w : List ℕ) → line.good w ≡ true → Exact lines (λ s. read (record { before = w; behind = s }))) where
  complete-line : (c : Cut) (t : Bool) → line.good c.before ≡ t → open_in lines c.behind ≡ false
      → cond t (ends_in lines c.behind) true ≡ not (is_some (read c))
  complete-line c true good h = behind c.before good c.behind h
  complete-line c false good h = rw (bad c good)

  a-line : Exact (line ∷ lines) (λ s. cut 10 s >>= read)
  unfolding ends_in open_in
  a-line s h = by-cut (cut 10 s) refl
    where
      by-cut : (o : Option Cut) → cut 10 s ≡ o → ends_in (line ∷ lines) s ≡ not (is_some (cut 10 s >>= read))
      by-cut None e = absurd (true_not_false (sym (still_open line lines s e) ∙ h))
      by-cut (Some c) e = rw e (complete-line c (line.good c.before) refl (rw e at h))

hex-line : {A : Type 0} (limit : ℕ) (lines : List LineForm) (read : HexLine → Option A)
    → ((bytes : List ℕ) → Exact lines (λ s. read (record { bytes = bytes; behind = s }))) → Exact (digits_form limit ∷ lines) (λ s. hex_line limit s >>= read)
unfolding hex_line
hex-line limit lines read behind s h =
    a-line (digits_form limit) lines (λ c. as-digits c >>= read) (λ c other. rw other) (λ w good t h. rw good (behind (hex_bytes w) t h)) s h
    ∙ ap (λ o. not (is_some o)) (sym (bind_bind (cut 10 s) as-digits read))
  where
    as-digits : Cut → Option HexLine
    as-digits c = given (digits_fit limit c.before) (record { bytes = hex_bytes c.before; behind = c.behind })

first_line : {A : Type 0} (lines : List LineForm) (read : Header → List ℕ → Option A) → ((first : Header) → Exact lines (read first))
    → Exact (first_form ∷ lines) (λ s. cut 10 s >>= (λ line. first_of line.before >>= (λ first. read first line.behind)))
first_line lines read behind =
    a-line first_form lines (λ line. first_of line.before >>= (λ first. read first line.behind))
    (λ line other. bad (first_of line.before) line.behind other) (λ w good s h. known (first_of w) good s h)
  where
    bad : (o : Option Header) (s : List ℕ) → is_some o ≡ false → (o >>= (λ first. read first s)) ≡ None
    bad None s other = refl
    bad (Some first) s other = absurd (let z : ◌≡◌ {A = ℕ} 0 1 = cc in omega arith)

    known : (o : Option Header) → is_some o ≡ true → Exact lines (λ s. o >>= (λ first. read first s))
    known None good s h = absurd (let z : ◌≡◌ {A = ℕ} 0 1 = cc in omega arith)
    known (Some first) good s h = behind first s h

pub ends_exactly : EndsExactly
unfolding EndsExactly reading_ends text_lines request behind_first
ends_exactly =
    first_line (digits_form max_key_digits ∷ digits_form max_key_digits ∷ digits_form max_data_digits ∷ []) behind_first
    (λ first. hex-line max_key_digits (digits_form max_key_digits ∷ digits_form max_data_digits ∷ []) _
    (λ key. hex-line max_key_digits (digits_form max_data_digits ∷ []) _
    (λ iv. hex-line max_data_digits [] _
    (λ message. nothing_more (record { mode = first.mode; n = first.n; direction = first.direction; key = key; iv = iv; message = message })))))
