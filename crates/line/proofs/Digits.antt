-- What digits spell: a digit by its ranges, a number that is one digit longer, and the byte at a place.
-- Assumes nothing.
use Prim.Native.Nat.{ℕ, zero, suc, ◌+◌, ◌*◌, ◌/◌, ◌%◌, ◌^◌, ◌≤◌, ◌<◌}
use mathlib.Core.Path.{◌≡◌, refl, sym, ◌∙◌}
use mathlib.Core.List.{List, [], ◌∷◌, ◌++◌}
use native.Mathlib.Omega.{arith}
use native.Mathlib.Nat.{zero-add, pow-suc}
use native.Mathlib.Numerals.{add-one}
use lib.ListN.{length, get_or, take, drop, set, length-append}
use lib.Seq.{take-suc, paste-suc}
use Rattle.std.proofs.lemmas.Bool.Decides.{nat_tests}
use Rattle.line.specs.Hex.{digit_of, hex_number, hex_bytes}

-- ---- a digit

pub digit_small : (b : ℕ) → digit_of b ≤ 15
unfolding digit_of
digit_small b = grind (arith, nat_tests)

-- ---- a number

one_digit_more : (ds : List ℕ) (d : ℕ) → hex_number (ds ++ (d ∷ [])) ≡ hex_number ds * 16 + digit_of d
unfolding hex_number
one_digit_more [] d = omega arith
one_digit_more (x ∷ ds) d =
    let long : length (ds ++ (d ∷ [])) ≡ suc (length ds) = length-append ds (d ∷ []) ∙ add-one (length ds) in
    let power : 16 ^ suc (length ds) ≡ 16 ^ length ds * 16 = pow-suc 16 (length ds) in
    rw (long, power, one_digit_more ds d) (omega arith)

pub one_more : (ds : List ℕ) (i n d : ℕ) → i < length ds → d ≡ digit_of (get_or ds i 0) → n ≡ hex_number (take i ds) % 2 ^ 64
    → n * 16 % 2 ^ 64 + d ≡ hex_number (take (i + 1) ds) % 2 ^ 64
one_more ds i n d h e w =
    rw (add-one i, take-suc ds i 0 h, one_digit_more (take i ds) (get_or ds i 0))
    (omega (arith, w, e, digit_small (get_or ds i 0)))

-- ---- bytes

pub length_bytes : (ds : List ℕ) → length (hex_bytes ds) ≡ length ds / 2
unfolding hex_bytes
length_bytes [] = omega arith
length_bytes (d ∷ []) = omega arith
length_bytes (d ∷ e ∷ ds) = omega (arith, length_bytes ds)

pub byte_at : (ds : List ℕ) (i : ℕ) → i < length ds / 2 → get_or (hex_bytes ds) i 0 ≡ digit_of (get_or ds (2 * i) 0) * 16 + digit_of (get_or ds (2 * i + 1) 0)
unfolding hex_bytes
byte_at [] i h = absurd (omega arith)
byte_at (d ∷ []) i h = absurd (omega arith)
byte_at (d ∷ e ∷ ds) zero h = refl
byte_at (d ∷ e ∷ ds) (suc i) h =
    let first : 2 * suc i ≡ suc (suc (2 * i)) = omega arith in
    let second : 2 * suc i + 1 ≡ suc (suc (2 * i + 1)) = omega arith in
    rw (second, first) (byte_at ds i (omega arith))

-- one more is stored, where i are
pub byte_laid : (ds out₀ out : List ℕ) (i b : ℕ) → i < length out₀ → i < length ds / 2 → b ≡ digit_of (get_or ds (2 * i) 0) * 16 + digit_of (get_or ds (2 * i + 1) 0)
    → out ≡ take i (hex_bytes ds) ++ drop i out₀ → set out i b ≡ take (i + 1) (hex_bytes ds) ++ drop (i + 1) out₀
byte_laid ds out₀ out i b room here e same =
    let start : 0 + i < length out₀ = omega arith in
    let byte : i < length (hex_bytes ds) = omega (arith, length_bytes ds) in
    let right : b ≡ get_or (hex_bytes ds) i 0 = e ∙ sym (byte_at ds i here) in
    rw (add-one i, right, same) (simp zero-add at (paste-suc out₀ 0 (hex_bytes ds) i 0 start byte))
