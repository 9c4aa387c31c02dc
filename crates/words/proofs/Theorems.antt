-- A word that was written is read back, and each answer with its reason, proved of the definitions that the contracts cite.
-- Assumes nothing.
use Prim.Native.Nat.{ℕ, ◌+◌, ◌^◌, ◌≤◌, ◌<◌}
use mathlib.Core.Path.{◌≡◌, ap, ◌∙◌}
use mathlib.Core.List.{List, ◌++◌}
use native.Mathlib.Omega.{arith}
use native.Mathlib.Nat.{mod-eq_of_lt}
use lib.ListN.{length, take, drop, length-append}
use lib.Seq.{drop-append_seam, take_at}
use borrow.Author.Tests.{le-leb, lt-leb}
use Rattle.std.specs.Prelude.{Some}
use Rattle.refusal.specs.declared.Reason.TheVariants.{HeaderShort, NoContent, OutputShort}
use Rattle.words.specs.Word.{big_endian, little_endian, big_endian_bytes, little_endian_bytes, piece, read_u64, read_u32}
use Rattle.words.specs.Write.{wrote_at}
use Rattle.words.specs.Got.{got, refused, u64_got, u32_got, wrote_got}
use Rattle.words.proofs.Words.{length_big, length_little, big_endian_back, little_endian_back}

-- The k bytes that stand between xs and ys are the k bytes at that place.
between : (xs bs ys : List ℕ) (k : ℕ) → length bs ≡ k → take k (drop (length xs) (xs ++ (bs ++ ys))) ≡ bs
between xs bs ys k e = rw (drop-append_seam xs (bs ++ ys)) (take_at bs ys k e)

room : (xs bs ys : List ℕ) (k : ℕ) → length bs ≡ k → length xs + k ≤ length (xs ++ (bs ++ ys))
room xs bs ys k e = simp (length-append) (omega arith)

-- Reading after writing gives the word and the next place: big-endian, 64 bits.
pub read_written_u64 : (w : ℕ) → w < 2 ^ 64 → (xs ys : List ℕ) → read_u64 (xs ++ (big_endian_bytes 8 w ++ ys)) (length xs) ≡ Some (piece w (length xs + 8))
unfolding read_u64
read_written_u64 w h xs ys =
    rw (le-leb _ _ (room xs (big_endian_bytes 8 w) ys 8 (length_big 8 w)), between xs (big_endian_bytes 8 w) ys 8 (length_big 8 w))
    (ap (λ (x : ℕ). Some (piece x (length xs + 8))) (big_endian_back 8 w ∙ mod-eq_of_lt h))

-- Reading after writing gives the word and the next place: little-endian, 32 bits.
pub read_written_u32 : (w : ℕ) → w < 2 ^ 32 → (xs ys : List ℕ) → read_u32 (xs ++ (little_endian_bytes 4 w ++ ys)) (length xs) ≡ Some (piece w (length xs + 4))
unfolding read_u32
read_written_u32 w h xs ys =
    rw (le-leb _ _ (room xs (little_endian_bytes 4 w) ys 4 (length_little 4 w)), between xs (little_endian_bytes 4 w) ys 4 (length_little 4 w))
    (ap (λ (x : ℕ). Some (piece x (length xs + 4))) (little_endian_back 4 w h))

-- A word with the place after it where all its bytes are there, else why it is refused.
module _ (s : List ℕ) (at : ℕ) where
  pub u64_number : (at + 8 ≤ length s → u64_got (read_u64 s at) ≡ got (big_endian (take 8 (drop at s))) (at + 8))
      × (length s < at + 8 → u64_got (read_u64 s at) ≡ refused HeaderShort)
  unfolding read_u64
  u64_number = (λ h. rw (le-leb _ _ h), λ h. rw (lt-leb _ _ h))

  pub u32_number : (at + 4 ≤ length s → u32_got (read_u32 s at) ≡ got (little_endian (take 4 (drop at s))) (at + 4))
      × (length s < at + 4 → u32_got (read_u32 s at) ≡ refused NoContent)
  unfolding read_u32
  u32_number = (λ h. rw (le-leb _ _ h), λ h. rw (lt-leb _ _ h))

-- The place after what is written where it fits, else OutputShort.
pub wrote_number : (out : List ℕ) (at : ℕ) (bs : List ℕ) → (at + length bs ≤ length out → wrote_got (wrote_at out at bs) ≡ got tt (at + length bs))
    × (length out < at + length bs → wrote_got (wrote_at out at bs) ≡ refused OutputShort)
wrote_number out at bs = (λ h. rw (le-leb _ _ h), λ h. rw (lt-leb _ _ h))
