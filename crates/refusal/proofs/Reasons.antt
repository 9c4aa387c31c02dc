-- A refusal is of a reason where its number is one reason's; an answer is for reasons where each refusal in it is of one.
-- Assumes nothing.
use Prim.Native.Nat.{ℕ}
use mathlib.Core.Path.{◌≡◌, refl, sym, ◌∙◌}
use mathlib.Core.Bool.{Bool, true, false, cond}
use Rattle.std.specs.Prelude.{Result, Ok, Err}
use Rattle.refusal.specs.declared.Reason.{Reason}
use Rattle.refusal.specs.declared.Refusal.{Refusal}
use Rattle.refusal.specs.Number.{number_of, refusal_of}
use Rattle.refusal.specs.First.{◌>>=◌}
use Rattle.refusal.proofs.Numbers.{not_none}

abbrev pub OfReason : Refusal → Type 0
OfReason x = (r : Reason) × (x.number ≡ number_of r)

pub never_0 : (x : Refusal) → OfReason x → x.number ≡ 0 → ⊥
never_0 x h e = not_none h.0 (sym h.1 ∙ e)

abbrev pub ForReasons : {A : Type 0} → Result A Refusal → Type 0
ForReasons m = (x : Refusal) → m ≡ Err x → OfReason x

pub refused_for : {A : Type 0} (r : Reason) (i : ℕ) → ForReasons {A = A} (Err (refusal_of r i))
refused_for r i x e = let same : x ≡ refusal_of r i = cc in rw same (r, refl)

pub done_for : {A : Type 0} (v : A) → ForReasons (Ok v)
done_for v x e = cc

-- What is worked out of an answer for reasons, and one of two by a test.
pub then_for : {A B : Type 0} (m : Result A Refusal) {f : A → Result B Refusal} → ForReasons m → ((v : A) → ForReasons (f v)) → ForReasons (◌>>=◌ m f)
then_for (Ok v) h g x e = g v x e
then_for (Err y) h g x e = let same : x ≡ y = cc in rw same (h y refl)

pub test_for : {A : Type 0} (b : Bool) {m n : Result A Refusal} → ForReasons m → ForReasons n → ForReasons (cond b m n)
test_for true h g = h
test_for false h g = g
