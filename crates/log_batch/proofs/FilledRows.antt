-- A table of n rows of which the first k are filled and the others blank, for rows of any type.
-- Assumes nothing.
use Rattle.std.proofs.Common.{◌≡◌, ℕ, suc, ◌+◌, ◌-◌, ◌<◌, ◌≤◌, List, [], ◌∷◌, ◌++◌, length, take, drop, set, replicate, sym, ap, ◌∙◌, add-one, arith, length-set, take-append-drop, length-take-le, drop-drop, take-suc-set, drop-set-lt}
use lib.ListN.{length-replicate}
use Rattle.log_batch.specs.Table.{pad}

pub record FilledRows {A : Type 0} (z : A) (n k : ℕ) (xs : List A) : Type 0 where
  pub size : length xs ≡ n
  pub blank : drop k xs ≡ replicate (n - k) z

module _ {A : Type 0} {z : A} where
  -- No row is filled.
  pub rows_none : (n : ℕ) → FilledRows z n 0 (replicate n z)
  rows_none n =
      let all : n ≡ n - 0 = omega arith in
      record { size = length-replicate n z; blank = ap (λ (m : ℕ). replicate m z) all }

  module _ {n k : ℕ} {xs : List A} (r : FilledRows z n k xs) where
    -- The row after the filled ones is filled.
    pub rows_set : (v : A) → k < n → FilledRows z n (k + 1) (set xs k v)
    rows_set v h =
        let one : n - k ≡ suc (n - (k + 1)) = omega arith in
        record {
          size = length-set xs k v ∙ r.size;
          blank =
              drop-set-lt (k + 1) xs k v (omega arith) ∙ sym (drop-drop 1 k xs) ∙ ap (drop 1) r.blank
              ∙ ap (λ (m : ℕ). drop 1 (replicate m z)) one;
        }

    pub rows_take : (v : A) → k < n → take (k + 1) (set xs k v) ≡ take k xs ++ (v ∷ [])
    rows_take v h = rw add-one (take-suc-set xs k v (omega (arith, r.size)))

    -- The filled rows, and the table of them.
    pub rows_length : k ≤ n → length (take k xs) ≡ k
    rows_length h = length-take-le k xs (omega (arith, r.size))

    pub rows_pad : k ≤ n → xs ≡ pad z n (take k xs)
    rows_pad h =
        sym (take-append-drop k xs) ∙ ap (λ (l : List A). take k xs ++ l) r.blank
        ∙ ap (λ (m : ℕ). take k xs ++ replicate (n - m) z) (sym (rows_length h))
