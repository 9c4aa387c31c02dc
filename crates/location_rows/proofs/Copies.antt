-- The loop that copies words.
-- Assumes nothing.
use mathlib.Core.Path.{◌≡◌, sym, ap, ◌∙◌}
use Prim.Native.Nat.{ℕ, ◌+◌, ◌<◌, ◌≤◌}
use native.Mathlib.Numerals.{add-one}
use native.Mathlib.Omega.{arith}
use mathlib.Core.List.{List}
use lib.ListN.{length, get_or, set, drop, length-drop}
use lib.Seq.{paste, paste-zero, paste-suc, length-paste, get_or-drop}

-- the first i words are copied
pub record Copied (before incoming : List ℕ) (at from len i : ℕ) (words : List ℕ) : Type 0 where
  pub within : i ≤ len
  pub copied : words ≡ paste before at (drop from incoming) i

pub copied_none : (before incoming : List ℕ) (at from len : ℕ) → Copied before incoming at from len 0 before
copied_none before incoming at from len = record { within = omega arith; copied = paste-zero before at (drop from incoming) }

module _ {before incoming : List ℕ} {at from len i : ℕ} {words : List ℕ} (w : Copied before incoming at from len i words)
    (room : (at + len ≤ length before) × (from + len ≤ length incoming)) where
  pub copied_length : length words ≡ length before
  copied_length =
      ap length w.copied ∙ length-paste before at (drop from incoming) i (omega (arith, room.0, w.within)) (omega (arith, room.1, w.within, length-drop from incoming))

  pub copied_room : i < len → at + i < length words
  copied_room l = omega (arith, copied_length, room.0)

  pub copied_next : i < len → Copied before incoming at from len (i + 1) (set words (at + i) (get_or incoming (from + i) 0))
  copied_next l =
      record {
        within = omega arith;
        copied =
            ap (λ (v : List ℕ). set v (at + i) (get_or incoming (from + i) 0)) w.copied
            ∙ ap (λ (x : ℕ). set (paste before at (drop from incoming) i) (at + i) x) (sym (get_or-drop from incoming i 0))
            ∙ paste-suc before at (drop from incoming) i 0 (omega (arith, room.0)) (omega (arith, room.1, length-drop from incoming))
            ∙ ap (λ (k : ℕ). paste before at (drop from incoming) k) (sym (add-one i));
      }

  pub copied_all : len ≤ i → words ≡ paste before at (drop from incoming) len
  copied_all l = w.copied ∙ ap (λ (k : ℕ). paste before at (drop from incoming) k) same
    where
      same : i ≡ len
      same = omega (arith, w.within)
