-- The bytes of a packed text one by one: which bits each holds, and what a store of one of them makes. Assumes nothing.
use mathlib.Core.Path.{◌≡◌, refl, sym, ap, ap₂, ◌∙◌}
use mathlib.Core.Bool.{Bool}
use mathlib.Core.List.{List, [], ◌∷◌}
use Prim.Native.Nat.{ℕ, zero, suc, ◌+◌, ◌-◌, ◌*◌, ◌/◌, ◌%◌, ◌^◌, ◌≤◌, ◌<◌}
use native.Mathlib.Nat.{le_refl, zero-add, suc-add, not-suc-le-zero, le_of_suc-le-suc}
use native.Mathlib.Omega.{arith}
use lib.Dec.{lit≤}
use lib.ListN.{get_or, take, drop, set, replicate, length-take, drop_of_length-le}
use lib.Seq.{take-nil, take-take, drop-drop}
use Rattle.bits.specs.Texts.{digit, byte_of, pack_to}
use Rattle.bits.proofs.Texts.{byte_of_take}
use Rattle.bits.proofs.Windows.{keep}

pub get_or-pack_to : (k : ℕ) (x : List Bool) (i : ℕ) → i < k → get_or (pack_to k x) i 0 ≡ byte_of (drop (i * 8) x)
unfolding pack_to
get_or-pack_to zero x i h = absurd (not-suc-le-zero h)
get_or-pack_to (suc k) x zero h = refl
get_or-pack_to (suc k) x (suc i) h =
    let e : 8 + i * 8 ≡ suc i * 8 = omega arith in
    rw (get_or-pack_to k (drop 8 x) i (le_of_suc-le-suc h), drop-drop, e)

pub pack_to_nil : (k : ℕ) → pack_to k [] ≡ replicate k 0
unfolding pack_to byte_of digit
pack_to_nil zero = refl
pack_to_nil (suc k) = ap (λ (l : List ℕ). 0 ∷ l) (pack_to_nil k)

-- ---- a byte of a text that is cut off after m bits

drop-take : (a k : ℕ) (x : List Bool) → drop a (take (a + k) x) ≡ take k (drop a x)
drop-take zero k x = rw zero-add
drop-take (suc a) k [] = rw (suc-add, take-nil)
drop-take (suc a) k (b ∷ x) = rw suc-add (drop-take a k x)

byte_of_cut : (k : ℕ) (x : List Bool) → 8 ≤ k → byte_of (take k x) ≡ byte_of x
byte_of_cut k x h = sym (byte_of_take (take k x)) ∙ ap byte_of (take-take 8 k x h) ∙ byte_of_take x

byte_before : (x : List Bool) (m a : ℕ) → a + 8 ≤ m → byte_of (drop a (take m x)) ≡ byte_of (drop a x)
byte_before x m a h =
    let e : m ≡ a + (m - a) = omega arith in
    let l : 8 ≤ m - a = omega arith in
    ap (λ (n : ℕ). byte_of (drop a (take n x))) e ∙ rw drop-take (byte_of_cut (m - a) (drop a x) l)

-- k bytes hold no bit past the first k * 8
pub pack_to-cut : (k m : ℕ) (x : List Bool) → k * 8 ≤ m → pack_to k (take m x) ≡ pack_to k x
unfolding pack_to
pack_to-cut zero m x h = refl
pack_to-cut (suc k) m x h =
    let e : m ≡ 8 + (m - 8) = omega arith in
    ap₂ (λ (b : ℕ) (bs : List ℕ). b ∷ bs) (byte_of_cut m x (omega arith))
    (ap (λ (n : ℕ). pack_to k (drop 8 (take n x))) e ∙ rw drop-take (pack_to-cut k (m - 8) (drop 8 x) (omega arith)))

-- ---- a store

none : (m : ℕ) (x : List Bool) → m ≤ 8 → drop 8 (take m x) ≡ []
none m x h = drop_of_length-le (take m x) {i = 8} (simp length-take (omega arith))

-- byte i, whole or in part, of a text that so far ends in that byte
store_byte : (k i : ℕ) (x : List Bool) (s t : ℕ) → i < k → s ≤ 8 → t ≤ 8
    → set (pack_to k (take (i * 8 + s) x)) i (byte_of (take t (drop (i * 8) x))) ≡ pack_to k (take (i * 8 + t) x)
unfolding pack_to
store_byte zero i x s t h hs ht = absurd (not-suc-le-zero h)
store_byte (suc k) zero x s t h hs ht = rw (zero-add, zero-add, none s x hs, none t x ht)
store_byte (suc k) (suc i) x s t h hs ht =
    let e : (z : ℕ) → suc i * 8 + z ≡ 8 + (i * 8 + z) = λ z. omega arith in
    let d : suc i * 8 ≡ 8 + i * 8 = omega arith in
    rw (e s, e t, d, byte_of_cut (8 + (i * 8 + s)) x (omega arith), byte_of_cut (8 + (i * 8 + t)) x (omega arith), drop-take, drop-take, ← drop-drop)
    (ap (λ (l : List ℕ). byte_of x ∷ l) (store_byte k i (drop 8 x) s t (le_of_suc-le-suc h) hs ht))

-- the next whole byte
pub store_next : (k i : ℕ) (x : List Bool) {l : List ℕ} {v : ℕ} → l ≡ pack_to k (take (i * 8) x) → v ≡ byte_of (drop (i * 8) x) → i < k
    → set l i v ≡ pack_to k (take ((i + 1) * 8) x)
store_next k i x e f h =
    let e₈ : (i + 1) * 8 ≡ i * 8 + 8 = omega arith in
    let e₀ : i * 8 ≡ i * 8 + 0 = omega arith in
    ap₂ (λ (m : List ℕ) (w : ℕ). set m i w) (e ∙ ap (λ (n : ℕ). pack_to k (take n x)) e₀) (f ∙ sym (byte_of_take (drop (i * 8) x)))
    ∙ store_byte k i x 0 8 h (lit≤ tt) (lit≤ tt)
    ∙ ap (λ (n : ℕ). pack_to k (take n x)) (sym e₈)

-- the last byte, with only the text's own bits kept
pub pack_to_last : (k n : ℕ) (x : List Bool) → n / 8 < k
    → get_or (pack_to k (take n x)) (n / 8) 0 ≡ byte_of (drop (n / 8 * 8) x) / 2 ^ (8 - n % 8) * 2 ^ (8 - n % 8)
pack_to_last k n x h =
    let all : n ≡ n / 8 * 8 + n % 8 = omega arith in
    get_or-pack_to k (take n x) (n / 8) h
    ∙ ap (λ (m : ℕ). byte_of (drop (n / 8 * 8) (take m x))) all
    ∙ rw drop-take (keep (drop (n / 8 * 8) x) (n % 8) (omega arith))

-- the last byte again, cleared after the text's bits
pub store_last : (k n : ℕ) (x : List Bool) {l : List ℕ} {v : ℕ} → l ≡ pack_to k (take (n / 8 * 8 + 8) x)
    → v ≡ get_or l (n / 8) 0 / 2 ^ (8 - n % 8) * 2 ^ (8 - n % 8) → n / 8 < k → set l (n / 8) v ≡ pack_to k (take n x)
store_last k n x {l} e f h =
    let whole : get_or l (n / 8) 0 ≡ byte_of (drop (n / 8 * 8) x) =
    ap (λ (m : List ℕ). get_or m (n / 8) 0) e ∙ get_or-pack_to k (take (n / 8 * 8 + 8) x) (n / 8) h
    ∙ byte_before x (n / 8 * 8 + 8) (n / 8 * 8) (le_refl (n / 8 * 8 + 8)) in
    let part = f ∙ ap (λ (b : ℕ). b / 2 ^ (8 - n % 8) * 2 ^ (8 - n % 8)) whole ∙ sym (keep (drop (n / 8 * 8) x) (n % 8) (omega arith)) in
    let all : n / 8 * 8 + n % 8 ≡ n = omega arith in
    ap₂ (λ (m : List ℕ) (w : ℕ). set m (n / 8) w) e part
    ∙ store_byte k (n / 8) x 8 (n % 8) h (lit≤ tt) (omega arith)
    ∙ ap (λ (m : ℕ). pack_to k (take m x)) all
