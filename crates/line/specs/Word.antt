-- The words of a line: what stands between its spaces, counted from 0. Between two spaces in a row stands an empty word.
-- Assumes nothing.
use Rattle.std.specs.Prelude.{ℕ, zero, suc, ◌+◌, ◌-◌, ◌<◌, min, ◌≡◌, ◌==◌, cond, List, leb, length, get_or, take, drop}
use Rattle.std.specs.List.{position_or_len}
use Rattle.std.specs.Borrow.{Bor}
use Rattle.words.specs.Part.{Part, part_at, front_of}

-- how many elements stand before the first b, or all where there is none
abbrev pub index_of : ℕ → List ℕ → ℕ
index_of b = position_or_len (λ x. x == b)

-- the ASCII code of a space
abbrev pub space : ℕ
space = 32

-- the line from word k on: each word before it is dropped with the space behind it
unfoldable pub words_from : List ℕ → ℕ → List ℕ
words_from line zero = line
words_from line (suc k) = words_from (drop (suc (index_of space line)) line) k

-- word k: what stands from it on, up to the next space
unfoldable pub word_of : List ℕ → ℕ → List ℕ
word_of line k = take (index_of space (words_from line k)) (words_from line k)

-- no space stands in w
abbrev pub Solid : List ℕ → Type 0
Solid w = (i : ℕ) → i < length w → get_or w i 0 ≡ space → ⊥

-- ---- where they stand in a text that is lent

-- what stands from one place up to another; where the first lies behind the second or behind the text, nothing, at the text's start
unfoldable pub between : Bor (List ℕ) → ℕ → ℕ → Part
between text start end = cond (leb start (min end (length text.now))) (part_at text start (end - start)) (front_of text 0)

-- where the last bytes of a text begin
abbrev pub ending : Bor (List ℕ) → List ℕ → ℕ × ℕ
ending text rest = (text.ref_ptr.0, length text.now - length rest + text.ref_ptr.1)

-- the line from word k on, and word k, which begins where that does
abbrev pub words_part : Bor (List ℕ) → ℕ → Part
words_part line k = record { place = ending line (words_from line.now k); bytes = words_from line.now k }

abbrev pub word_part : Bor (List ℕ) → ℕ → Part
word_part line k = record { place = ending line (words_from line.now k); bytes = word_of line.now k }
