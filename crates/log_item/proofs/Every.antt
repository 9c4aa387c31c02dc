-- What each member of a list has, each member of two lists together has, and the other way round.
-- Assumes nothing.
use mathlib.Core.List.{List, [], ◌∷◌, ◌++◌}
use Rattle.log_item.specs.Each.{Each, none, one}

module _ {A : Type 0} {P : A → Type 0} where
  -- What each member of two lists has, each member of both together has.
  pub each_append : {a b : List A} → Each P a → Each P b → Each P (a ++ b)
  each_append none f = f
  each_append (one h e) f = one h (each_append e f)

  -- What each member of two lists together has, each member of the one and of the other has.
  pub each_split : (a : List A) {b : List A} → Each P (a ++ b) → Each P a × Each P b
  each_split [] e = (none, e)
  each_split (r ∷ a) (one h e) = let parts = each_split a e in (one h parts.0, parts.1)
