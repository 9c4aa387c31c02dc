-- A batch by its parts: two words of eight bytes, block, body, and what stands past them; what its header states, and what stands where it says.
-- Assumes nothing.
use Rattle.std.proofs.Common.{◌≡◌, ℕ, ◌+◌, ◌-◌, ◌*◌, ◌/◌, ◌%◌, ◌≤◌, List, ◌++◌, length, take, drop, sym, refl, ap, ◌∙◌, ap₂, append_assoc, arith, length-append, take_at, drop_at, le-leb}
use Rattle.words.specs.Word.{big_endian}
use Rattle.refusal.specs.First.{fine}
use Rattle.log_item.specs.Got.{got}
use Rattle.log_batch.specs.Seal.{block_check}
use Rattle.log_batch.specs.declared.LogBatch.{LogBatch}
use Rattle.log_batch.specs.Header.{frame, header}
use Rattle.log_batch.specs.Batch.{block_of, body_of, front_batch}
use Rattle.log_batch.proofs.Frames.{frame_good, front_good}

abbrev pub all : List ℕ → List ℕ → List ℕ → List ℕ → List ℕ → List ℕ
all first second block body past = first ++ second ++ block ++ body ++ past

abbrev pub stated : List ℕ → List ℕ → LogBatch
stated block body = record { offset = 16 + length block; len = 16 + length block + length body; compression = 0 }

module _ (first second block body past : List ℕ) (eight : length first ≡ 8) (again : length second ≡ 8) where
  long : length (all first second block body past) ≡ 16 + length block + length body + length past
  long = simp length-append (omega arith)

  words_first : all first second block body past ≡ first ++ (second ++ (block ++ (body ++ past)))
  words_first = simp append_assoc

  first_word : take 8 (all first second block body past) ≡ first
  first_word = ap (take 8) words_first ∙ take_at first (second ++ (block ++ (body ++ past))) 8 eight

  second_word : take 8 (drop 8 (all first second block body past)) ≡ second
  second_word =
      ap (λ (l : List ℕ). take 8 (drop 8 l)) words_first ∙ ap (take 8) (drop_at first (second ++ (block ++ (body ++ past))) 8 eight)
      ∙ take_at second (block ++ (body ++ past)) 8 again

  -- What stands behind the two words.
  pub behind_words : drop 16 (all first second block body past) ≡ block ++ (body ++ past)
  behind_words =
      let two : length (first ++ second) ≡ 16 = omega (arith, length-append first second) in
      ap (drop 16) (words_first ∙ sym (append_assoc first second (block ++ (body ++ past)))) ∙ drop_at (first ++ second) (block ++ (body ++ past)) 16 two

  pub block_there : block_of (stated block body) (all first second block body past) ≡ block
  block_there =
      let size : length block ≡ 16 + length block - 16 = omega arith in
      ap (take (16 + length block - 16)) behind_words ∙ take_at block (body ++ past) _ size

  pub body_there : body_of (stated block body) (all first second block body past) ≡ body
  body_there =
      let front : length (first ++ second ++ block) ≡ 16 + length block = simp length-append (omega arith) in
      let size : length body ≡ 16 + length block + length body - (16 + length block) = omega arith in
      ap (body_of (stated block body)) (append_assoc (first ++ second ++ block) body past)
      ∙ ap (take (16 + length block + length body - (16 + length block))) (drop_at (first ++ second ++ block) (body ++ past) _ front) ∙ take_at body past _ size

  module _ (whole : big_endian first ≡ (16 + length block + length body) * 256) (offset : big_endian second ≡ 16 + length block) where
    pub header_there : header (all first second block body past) 0 ≡ got (stated block body) 16
    unfolding header
    header_there =
        let len : ℕ = 16 + length block + length body in
        let there : 16 ≤ length (all first second block body past) = omega (arith, long) in
        let good = frame_good (len * 256) (16 + length block) (omega arith) (omega arith) (omega arith) in
        let size : len * 256 / 256 ≡ len = omega arith in
        let none : len * 256 % 256 ≡ 0 = omega arith in
        rw (le-leb 16 (length (all first second block body past)) there)
        (ap₂ (λ (x y : ℕ). frame x y 0) (ap big_endian first_word ∙ whole) (ap big_endian second_word ∙ offset) ∙ good
        ∙ ap₂ (λ (x y : ℕ). got (record { offset = 16 + length block; len = x; compression = y }) 16) size none)

    pub front_there : block_check block ≡ fine → front_batch (all first second block body past) 0 ≡ got (stated block body) 16
    front_there good =
        front_good (all first second block body past) header_there (omega (arith, long)) refl (ap block_check block_there ∙ good)
