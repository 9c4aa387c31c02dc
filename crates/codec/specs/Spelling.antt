-- Which bytes spell which number: a relation, with no reading procedure.
-- Assumes nothing.
use Rattle.std.specs.Prelude.{ℕ, ◌+◌, ◌-◌, ◌*◌, ◌≤◌, ◌<◌, List, [], ◌∷◌, length, get_or}

-- Seven bits a byte, lowest first; the top bit, worth 128, is set on all but the last byte.
pub data Groups : ℕ → List ℕ → Type 0 where
  last : {b : ℕ} → b < 128 → Groups b (b ∷ [])
  more : {b n : ℕ} {bs : List ℕ} → 128 ≤ b → Groups n bs → Groups (b - 128 + 128 * n) (b ∷ bs)

-- The bytes spell the number: at most ten of them, and a tenth, which stands at place 9, is 0 or 1.
pub record SpellsNumber (n : ℕ) (bs : List ℕ) : Type 0 where
  pub groups : Groups n bs
  pub few : length bs ≤ 10
  pub tenth : get_or bs 9 0 ≤ 1
