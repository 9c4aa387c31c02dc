-- What holds of whatever a reading gets: a rule for each way to put readings together.
-- Assumes nothing.
use Prim.Native.Nat.{ℕ, ◌≤◌, ◌<◌}
use mathlib.Core.Path.{◌≡◌, refl}
use mathlib.Core.Bool.{Bool, true, false, cond}
use lib.Dec.{T, leb, ltb, eqb, leb→le, ltb→lt, eqb→eq}
use Rattle.refusal.specs.declared.Reason.{Reason}
use Rattle.log_item.specs.Got.{Got, got, refused, Reading, bind, ◌>>◌, ◌else◌}

-- What is got has the property.
pub data Holds {A : Type 0} (P : A → ℕ → Type 0) : Got A → Type 0 where
  holds : {x : A} {q : ℕ} → P x q → Holds P (got x q)
  refuses : {r : Reason} → Holds P (refused r)

module _ {A : Type 0} {P : A → ℕ → Type 0} where
  pub only : {x : A} {q : ℕ} → Holds P (got x q) → P x q
  only (holds h) = h

  pub of_got : {m : Got A} {x : A} {q : ℕ} → Holds P m → m ≡ got x q → P x q
  of_got h e = only (rw e at h)

-- What a reading got comes of what its first piece got.
pub bind_got : {A B : Type 0} (m : Got A) (f : A → Reading B) {y : B} {z : ℕ} → bind m f ≡ got y z → (x : A) × (q : ℕ) × (m ≡ got x q) × (f x q ≡ got y z)
bind_got (got x q) f e = (x, q, refl, e)
bind_got (refused r) f e = cc

-- A piece, and what is read after it.
pub after : {A B : Type 0} {P : A → ℕ → Type 0} {Q : B → ℕ → Type 0} {m : Got A} {f : A → Reading B}
    → Holds P m → ((x : A) (q : ℕ) → P x q → Holds Q (f x q)) → Holds Q (bind m f)
after (holds h) k = k _ _ h
after refuses k = refuses

-- The same after a piece of which nothing is asked.
pub later : {A B : Type 0} {P : A → ℕ → Type 0} (m : Got B) {f : B → Reading A} → ((x : B) (q : ℕ) → Holds P (f x q)) → Holds P (bind m f)
later (got x q) k = k x q
later (refused r) k = refuses

module _ {B : Type 0} {Q : B → ℕ → Type 0} where
  -- A test, and what is read where it passes.
  tested : (b : Bool) (r : Reason) (m : Reading B) (p : ℕ) → (T b → Holds Q (m p)) → Holds Q (◌>>◌ (b else r) m p)
  tested true r m p k = k tt
  tested false r m p k = refuses

  -- The same where the test is an order or an equation.
  pub at_most : (x y : ℕ) (r : Reason) (m : Reading B) (p : ℕ) → (x ≤ y → Holds Q (m p)) → Holds Q (◌>>◌ (leb x y else r) m p)
  at_most x y r m p k = tested (leb x y) r m p λ t. k (leb→le x y t)

  pub below : (x y : ℕ) (r : Reason) (m : Reading B) (p : ℕ) → (x < y → Holds Q (m p)) → Holds Q (◌>>◌ (ltb x y else r) m p)
  below x y r m p k = tested (ltb x y) r m p λ t. k (ltb→lt x y t)

  pub equal : (x y : ℕ) (r : Reason) (m : Reading B) (p : ℕ) → (x ≡ y → Holds Q (m p)) → Holds Q (◌>>◌ (eqb x y else r) m p)
  equal x y r m p k = tested (eqb x y) r m p λ t. k (eqb→eq x y t)

  -- One of two readings.
  pub chosen : (b : Bool) (m n : Reading B) (p : ℕ) → (T b → Holds Q (m p)) → Holds Q (n p) → Holds Q (cond b m n p)
  chosen true m n p k l = k tt
  chosen false m n p k l = l

  -- The same where the first is for an equation.
  pub is : (x y : ℕ) (m n : Reading B) (p : ℕ) → (x ≡ y → Holds Q (m p)) → Holds Q (n p) → Holds Q (cond (eqb x y) m n p)
  is x y m n p k l = chosen (eqb x y) m n p (λ t. k (eqb→eq x y t)) l
