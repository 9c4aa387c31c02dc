-- An item is read at a place exactly when it is spelled there, within the limits.
-- Assumes nothing.
use Prim.Native.Nat.{ℕ, ◌≤◌}
use mathlib.Core.Path.{◌≡◌}
use mathlib.Core.Logic.{◌↔◌}
use mathlib.Core.List.{List}
use Rattle.log_item.specs.declared.Form.{Form}
use Rattle.log_item.specs.Got.{got}
use Rattle.log_item.specs.Reading.{Read, one_item}
use Rattle.log_item.proofs.Holds.{of_got}
use Rattle.words.specs.Place.{Found}
use Rattle.log_item.specs.ItemSpelled.{Asks, ItemSpelled}
use Rattle.log_item.proofs.Complete.{complete_item}
use Rattle.log_item.proofs.Sound.{sound_item}

-- With e entries and the total t before it, an item is read from p up to q exactly when it is spelled from p up to q, within the limits.
pub read_iff_spelled : (form : Form) (s : List ℕ) → Asks form s → (e t p : ℕ) → e ≤ 1024 → (r : Read) (q : ℕ)
    → (one_item form s e t p ≡ got r q) ↔ Found s (ItemSpelled form e t p r) p q
read_iff_spelled form s asks e t p small r q = (to, from)
  where
    to : one_item form s e t p ≡ got r q → Found s (ItemSpelled form e t p r) p q
    to h = of_got (sound_item form s asks e t p small) h

    from : Found s (ItemSpelled form e t p r) p q → one_item form s e t p ≡ got r q
    from f = complete_item form e f.has.spelled f.has.each f.has.few f.at
