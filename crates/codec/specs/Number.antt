-- What reading a number at a place answers, and that answer in document 01's numbers.
-- Assumes nothing.
use Rattle.std.specs.Prelude.{ℕ, zero, suc, ◌+◌, ◌-◌, ◌*◌, Result, Ok, Err, cond, List, [], ◌∷◌, ltb, leb, drop}
use Rattle.refusal.specs.declared.Reason.TheVariants.{NumberBroken}
use Rattle.words.specs.declared.Piece.{Piece}
use Rattle.words.specs.Word.{piece}
use Rattle.words.specs.Got.{Got, got, refused}
use Rattle.codec.specs.declared.NumberError.{NumberError}
use Rattle.codec.specs.declared.NumberError.TheVariants.{Eof, Overflow}

-- a number and the place after it, or why there is none
abbrev pub NumberRead : Type 0
NumberRead = Result (Piece ℕ) NumberError

-- a byte b with its top bit set, below the number that the later bytes give
abbrev pub under : ℕ → NumberRead → NumberRead
under b (Ok n) = Ok (piece (b - 128 + 128 * n.value) n.next)
under b (Err e) = Err e

-- the number at the head of the bytes, which stand at place p, where room more bytes may follow the first
unfoldable pub read_from : ℕ → List ℕ → ℕ → NumberRead
read_from room [] p = Err Eof
read_from zero (b ∷ bs) p = cond (leb b 1) (Ok (piece b (suc p))) (Err Overflow)
read_from (suc room) (b ∷ bs) p = cond (ltb b 128) (Ok (piece b (suc p))) (under b (read_from room bs (suc p)))

-- the number at the place `at` of s
unfoldable pub read_number : List ℕ → ℕ → NumberRead
read_number s at = read_from 9 (drop at s) at

-- the bytes end inside or before the number, or its tenth byte is above 1: 7
abbrev pub number_got : NumberRead → Got ℕ
number_got (Ok n) = got n.value n.next
number_got (Err e) = refused NumberBroken
