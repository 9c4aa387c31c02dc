-- What is left at the head of the writer's loops: the tails of the item begun, then the items after it.
-- Assumes nothing.
use Prim.Native.Nat.{ℕ, suc, ◌+◌, ◌-◌, ◌≤◌, ◌<◌}
use mathlib.Core.Path.{◌≡◌, refl, sym, ap, ◌∙◌}
use mathlib.Core.Bool.{Bool, true, false, not, cond}
use mathlib.Core.List.{List, [], ◌∷◌, ◌++◌, append_assoc}
use native.Mathlib.Omega.{arith}
use native.Mathlib.Numerals.{add-one}
use lib.Dec.{ltb}
use lib.ListN.{length, take, drop, get_or, length-drop, drop_of_length-le}
use lib.Seq.{drop-cons, drop-drop}
use borrow.Author.Tests.{ltb-true, lt-ltb, le-ltb}
use Rattle.std.specs.Prelude.{Result, Ok, Err}
use Rattle.refusal.specs.First.{fine}
use Rattle.refusal.specs.declared.Refusal.{Refusal}
use Rattle.codec.specs.Shortest.{shortest}
use Rattle.log_item.specs.Entries.{entries_of}
use Rattle.log_item.specs.declared.LogItem.{LogItem}
use Rattle.log_item.specs.Bytes.{head_bytes, tails_bytes}
use Rattle.log_item.specs.Refusing.{content_refusal}
use Rattle.log_item.specs.Written.{sum_of, item_bytes}
use Rattle.log_item.proofs.Tails.{sum_rises}
use Rattle.log_item.specs.Blank.{blank_item}
use Rattle.list_writer.specs.Bytes.{items_bytes}
use Rattle.list_writer.specs.Refusing.{refused, items_verdict}
use Rattle.list_writer.proofs.Heads.{unless_item}
use Rattle.refusal.specs.declared.Reason.TheVariants.{TailTooLarge}

one_more : (n : ℕ) → 0 < n → suc (n - 1) ≡ n
one_more n h = omega arith

next_length : (ns : List ℕ) (j n : ℕ) → j < length ns → take (suc n) (drop j ns) ≡ get_or ns j 0 ∷ take n (drop (j + 1) ns)
next_length ns j n h = rw (add-one, drop-cons ns j 0)

next_item : (xs : List LogItem) (i : ℕ) → i < length xs → drop i xs ≡ get_or xs i blank_item ∷ drop (i + 1) xs
next_item xs i h = drop-cons xs i blank_item h ∙ ap (λ (m : ℕ). get_or xs i blank_item ∷ drop m xs) (sym (add-one i))

unless_cond : (c : Bool) (k : ℕ) (v : Result ℕ Refusal) → unless_item (cond (not c) fine (Err TailTooLarge)) k v ≡ cond c (refused TailTooLarge k) v
unless_cond true k v = refl
unless_cond false k v = refl

-- item i is the next, row j the next; so many tails of the item before are left, and t is the total
module _ (s : List ℕ) (xs : List LogItem) (ns : List ℕ) where
  unfoldable pub rest_bytes : ℕ → ℕ → ℕ → ℕ → List ℕ
  rest_bytes i j tails t =
      tails_bytes (take tails (drop j ns)) t ++ items_bytes s (drop i xs) (drop (j + tails) ns) (sum_of t (take tails (drop j ns)))

  row_suc : (i j n t : ℕ) → j < length ns → rest_bytes i j (suc n) t ≡ shortest (t + get_or ns j 0) ++ rest_bytes i (j + 1) n (t + get_or ns j 0)
  unfolding rest_bytes tails_bytes sum_of
  row_suc i j n t h =
      let e : j + suc n ≡ j + 1 + n = omega arith in
      let u : ℕ = t + get_or ns j 0 in
      let l = take n (drop (j + 1) ns) in
      ap (λ (l : List ℕ). tails_bytes l t ++ items_bytes s (drop i xs) (drop (j + suc n) ns) (sum_of t l)) (next_length ns j n h)
      ∙ append_assoc (shortest u) (tails_bytes l u) (items_bytes s (drop i xs) (drop (j + suc n) ns) (sum_of u l))
      ∙ ap (λ (m : ℕ). shortest u ++ (tails_bytes l u ++ items_bytes s (drop i xs) (drop m ns) (sum_of u l))) e

  pub bytes_row : (i j tails t : ℕ) → 0 < tails → j + tails ≤ length ns
      → rest_bytes i j tails t ≡ shortest (t + get_or ns j 0) ++ rest_bytes i (j + 1) (tails - 1) (t + get_or ns j 0)
  bytes_row i j tails t h r = ap (λ (n : ℕ). rest_bytes i j n t) (sym (one_more tails h)) ∙ row_suc i j (tails - 1) t (omega arith)

  pub bytes_item : (i j t : ℕ) → i < length xs
      → rest_bytes i j 0 t ≡ head_bytes s (get_or xs i blank_item) ++ rest_bytes (i + 1) j (entries_of (get_or xs i blank_item).content).count t
  unfolding rest_bytes tails_bytes sum_of items_bytes item_bytes
  bytes_item i j t h =
      let z : j + 0 ≡ j = omega arith in
      let x = get_or xs i blank_item in
      let n = (entries_of x.content).count in
      let l = take n (drop j ns) in
      ap (λ (m : ℕ). items_bytes s (drop i xs) (drop m ns) t) z
      ∙ ap (λ (l : List LogItem). items_bytes s l (drop j ns) t) (next_item xs i h)
      ∙ append_assoc (head_bytes s x) (tails_bytes l t) (items_bytes s (drop (i + 1) xs) (drop n (drop j ns)) (sum_of t l))
      ∙ ap (λ (k : List ℕ). head_bytes s x ++ (tails_bytes l t ++ items_bytes s (drop (i + 1) xs) k (sum_of t l))) (drop-drop n j ns)

  pub bytes_end : (i j t : ℕ) → length xs ≤ i → rest_bytes i j 0 t ≡ []
  unfolding rest_bytes tails_bytes sum_of items_bytes
  bytes_end i j t h = ap (λ (l : List LogItem). items_bytes s l (drop (j + 0) ns) t) (drop_of_length-le xs h)

  pub bytes_start : rest_bytes 0 0 0 0 ≡ items_bytes s xs ns 0
  unfolding rest_bytes tails_bytes sum_of
  bytes_start = refl

  module _ (checked : Bool) where
    unfoldable pub rest_verdict : ℕ → ℕ → ℕ → ℕ → Result ℕ Refusal
    rest_verdict i j tails t =
        let u = sum_of t (take tails (drop j ns)) in
        cond (ltb 4294967295 u) (refused TailTooLarge (i - 1)) (items_verdict s checked (drop i xs) (drop (j + tails) ns) (j + tails) i u)

    -- A tail above the ceiling is a 16, and so is the last of the item's.
    over : (i j tails t : ℕ) → rest_verdict i j tails t ≡ cond (ltb 4294967295 t) (refused TailTooLarge (i - 1)) (rest_verdict i j tails t)
    unfolding rest_verdict
    over i j tails t = go (ltb 4294967295 t) refl
      where
        go : (b : Bool) → ltb 4294967295 t ≡ b → rest_verdict i j tails t ≡ cond b (refused TailTooLarge (i - 1)) (rest_verdict i j tails t)
        go true e = rw (lt-ltb 4294967295 (sum_of t (take tails (drop j ns))) (omega (arith, ltb-true 4294967295 t e, sum_rises t (take tails (drop j ns)))))
        go false e = refl

    told_suc : (i j n t : ℕ) → j < length ns → rest_verdict i j (suc n) t ≡ rest_verdict i (j + 1) n (t + get_or ns j 0)
    unfolding rest_verdict sum_of
    told_suc i j n t h =
        let e : j + suc n ≡ j + 1 + n = omega arith in
        let w : ℕ = sum_of (t + get_or ns j 0) (take n (drop (j + 1) ns)) in
        ap (λ (l : List ℕ). cond (ltb 4294967295 (sum_of t l)) (refused TailTooLarge (i - 1)) (items_verdict s checked (drop i xs) (drop (j + suc n) ns) (j + suc n) i (sum_of t l))) (next_length ns j n h)
        ∙ ap (λ (m : ℕ). cond (ltb 4294967295 w) (refused TailTooLarge (i - 1)) (items_verdict s checked (drop i xs) (drop m ns) m i w)) e

    pub told_row : (i j tails t : ℕ) → 0 < tails → j + tails ≤ length ns
        → rest_verdict i j tails t ≡ cond (ltb 4294967295 (t + get_or ns j 0)) (refused TailTooLarge (i - 1)) (rest_verdict i (j + 1) (tails - 1) (t + get_or ns j 0))
    told_row i j tails t h r =
        ap (λ (n : ℕ). rest_verdict i j n t) (sym (one_more tails h)) ∙ told_suc i j (tails - 1) t (omega arith) ∙ over i (j + 1) (tails - 1) (t + get_or ns j 0)

    -- Where no tails are left, the items are.
    told_next : (i j t : ℕ) → t ≤ 4294967295 → rest_verdict i j 0 t ≡ items_verdict s checked (drop i xs) (drop j ns) j i t
    unfolding rest_verdict sum_of
    told_next i j t low =
        let z : j + 0 ≡ j = omega arith in
        rw (le-ltb 4294967295 t low) (ap (λ (m : ℕ). items_verdict s checked (drop i xs) (drop m ns) m i t) z)

    pub told_item : (i j t : ℕ) → t ≤ 4294967295 → i < length xs → j ≤ length ns
        → rest_verdict i j 0 t
        ≡ unless_item (content_refusal s checked j (length ns) (get_or xs i blank_item).content) i
        (rest_verdict (i + 1) j (entries_of (get_or xs i blank_item).content).count t)
    unfolding rest_verdict items_verdict
    told_item i j t low h r =
        let x = get_or xs i blank_item in
        let n = (entries_of x.content).count in
        let u = sum_of t (take n (drop j ns)) in
        let q : j + length (drop j ns) ≡ length ns = omega (arith, length-drop j ns) in
        let k : i ≡ i + 1 - 1 = omega arith in
        let b : Bool = ltb 4294967295 u in
        let rest = items_verdict s checked (drop (i + 1) xs) (drop n (drop j ns)) (j + n) (i + 1) u in
        told_next i j t low
        ∙ ap (λ (l : List LogItem). items_verdict s checked l (drop j ns) j i t) (next_item xs i h)
        ∙ ap (λ (m : ℕ). unless_item (content_refusal s checked j m x.content) i (unless_item (cond (not b) fine (Err TailTooLarge)) i rest)) q
        ∙ ap (unless_item (content_refusal s checked j (length ns) x.content) i) (unless_cond b i rest)
        ∙ ap (λ (l : List ℕ). unless_item (content_refusal s checked j (length ns) x.content) i (cond b (refused TailTooLarge i) (items_verdict s checked (drop (i + 1) xs) l (j + n) (i + 1) u))) (drop-drop n j ns)
        ∙ ap (λ (m : ℕ). unless_item (content_refusal s checked j (length ns) x.content) i (cond b (refused TailTooLarge m) (items_verdict s checked (drop (i + 1) xs) (drop (j + n) ns) (j + n) (i + 1) u))) k

    pub told_end : (i j t : ℕ) → t ≤ 4294967295 → length xs ≤ i → rest_verdict i j 0 t ≡ Ok t
    unfolding items_verdict
    told_end i j t low h = told_next i j t low ∙ ap (λ (l : List LogItem). items_verdict s checked l (drop j ns) j i t) (drop_of_length-le xs h)

    pub told_start : rest_verdict 0 0 0 0 ≡ items_verdict s checked xs ns 0 0 0
    told_start = told_next 0 0 0 (omega arith)
