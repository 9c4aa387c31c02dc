-- What holds at the head of the measure's loop, how a turn keeps it, and the answer of each way out.
-- Assumes nothing.
use Prim.Native.Nat.{ℕ, ◌+◌, ◌-◌, ◌*◌, ◌≤◌, ◌<◌}
use mathlib.Core.Path.{◌≡◌, refl, sym, ap, ◌∙◌}
use mathlib.Core.Bool.{Bool, true, false}
use mathlib.Core.List.{List, ◌++◌}
use native.Mathlib.Omega.{arith}
use lib.Dec.{ltb, leb}
use lib.ListN.{length, get_or, length-append}
use borrow.Author.Tests.{lt-ltb, le-ltb, ltb-true, ltb-false, lt-leb, le-leb, leb-true}
use Rattle.std.specs.Prelude.{Result, Ok, Err}
use Rattle.refusal.specs.First.{Checked}
use Rattle.refusal.specs.declared.Reason.{Reason}
use Rattle.refusal.specs.declared.Refusal.{Refusal}
use Rattle.codec.specs.Shortest.{shortest}
use Rattle.codec.proofs.Theorems.{shortest_spells}
use Rattle.log_item.specs.Entries.{entries_of}
use Rattle.log_item.specs.declared.LogItem.{LogItem}
use Rattle.log_item.specs.declared.HeadSize.{HeadSize}
use Rattle.log_item.specs.Bytes.{head_bytes}
use Rattle.log_item.specs.Refusing.{content_refusal}
use Rattle.log_item.specs.Written.{capped, measure_item}
use Rattle.log_item.proofs.Refusals.{content_allowed}
use Rattle.log_item.specs.Blank.{blank_item}
use Rattle.list_writer.specs.declared.Measured.{Measured}
use Rattle.list_writer.specs.Bytes.{items_bytes, list_bytes}
use Rattle.list_writer.specs.Refusing.{refused, items_verdict, list_verdict}
use Rattle.list_writer.specs.Answers.{measured, measured_of, measure_of}
use Rattle.list_writer.proofs.Heads.{unless_item, head_fine, unless_refused, else_fine}
use Rattle.list_writer.proofs.Rest.{rest_bytes, bytes_row, bytes_item, bytes_end, bytes_start, rest_verdict, told_row, told_item, told_end, told_start}
use Rattle.refusal.specs.declared.Reason.TheVariants.{ItemsTooMany, TailTooLarge, OutputTooLong}

-- A number up to the largest tail has at most ten bytes.
pub number_short : (n : ℕ) → n ≤ 4294967295 → length (shortest n) ≤ 10
number_short n h = (shortest_spells n (omega arith)).few

-- ---- what a measure tells

-- The list is not refused, and its length is four bytes more than the list.
pub record HasLength (v : Result ℕ Refusal) (n : ℕ) (m : Measured) : Type 0 where
  pub told : v ≡ Ok m.total
  pub long : m.length ≡ n + 4
  pub small : m.length ≤ 4294967295

pub sized_where : (v : Result ℕ Refusal) (n : ℕ) {m : Measured} → measured_of v n ≡ Ok m → HasLength v n m
unfolding measured_of
sized_where (Err r) n e = cc
sized_where (Ok t) n {m} e =
    let k = else_fine (leb (n + 4) 4294967295) _ _ e in
    let same : measured (n + 4) t ≡ m = cc in
    let small : n + 4 ≤ 4294967295 = leb-true _ _ k.0 in
    rw (← same) (record { told = refl; long = refl; small = small })

-- A list that is not refused has few enough items, and none of them is refused.
pub list_fine : (s : List ℕ) (checked : Bool) (xs : List LogItem) (ns : List ℕ) {t : ℕ} → list_verdict s checked xs ns ≡ Ok t
    → (length xs ≤ 256) × (items_verdict s checked xs ns 0 0 0 ≡ Ok t)
unfolding list_verdict
list_fine s checked xs ns {t} h = let k = else_fine (leb (length xs) 256) _ _ h in (leb-true (length xs) 256 k.0, k.1)

-- ---- the ways out

pub measured_22 : (t size : ℕ) → 4294967291 < size → refused OutputTooLong 0 ≡ measured_of (Ok t) size
unfolding measured_of
measured_22 t size h = rw (lt-leb (size + 4) 4294967295 (omega arith))

measured_capped : (t size n : ℕ) → capped size ≡ capped n → measured_of (Ok t) size ≡ measured_of (Ok t) n
measured_capped t size n e = go (ltb 4294967291 size) refl
  where
    go : (b : Bool) → ltb 4294967291 size ≡ b → measured_of (Ok t) size ≡ measured_of (Ok t) n
    go true h =
        let l = ltb-true 4294967291 size h in
        sym (measured_22 t size l) ∙ measured_22 t n (omega arith)
    go false h =
        let l = ltb-false 4294967291 size h in
        let q : size ≡ n = omega arith in
        ap (λ (k : ℕ). measured_of (Ok t) k) q

module _ (s : List ℕ) (checked : Bool) (xs : List LogItem) (ns : List ℕ) where
  pub measured_9 : 256 < length xs → refused ItemsTooMany 0 ≡ measure_of s checked xs ns
  unfolding measure_of list_verdict measured_of
  measured_9 h = rw (lt-leb (length xs) 256 h)

-- ---- the loop

-- All is as the whole list has it: the size so far with what is left, and the verdict on what is left. `first` bytes stand before the items.
pub record Measuring (s : List ℕ) (checked : Bool) (xs : List LogItem) (ns : List ℕ) (first i j tails t size : ℕ) : Type 0 where
  pub most : i ≤ length xs
  pub room : j + tails ≤ length ns
  pub within : j + tails ≤ 1024
  pub begun : tails ≤ i * 1024
  pub low : t ≤ 4294967295
  pub small : size ≤ 10 + i * 4294967296 + j * 10
  pub sum : capped (size + length (rest_bytes s xs ns i j tails t)) ≡ capped (first + length (items_bytes s xs ns 0))
  pub told : rest_verdict s xs ns checked i j tails t ≡ items_verdict s checked xs ns 0 0 0

module _ (s : List ℕ) (checked : Bool) (xs : List LogItem) (ns : List ℕ) where
  pub measuring_start : (size n : ℕ) → n ≤ 256 → size ≡ length (shortest n) → Measuring s checked xs ns size 0 0 0 0 size
  measuring_start size n few e =
      record {
        most = omega arith;
        room = omega arith;
        within = omega arith;
        begun = omega arith;
        low = omega arith;
        small = omega (arith, number_short n (omega arith));
        sum = omega (arith, ap length (bytes_start s xs ns));
        told = told_start s xs ns checked;
      }

  module _ {first i j tails t size : ℕ} (m : Measuring s checked xs ns first i j tails t size) where
    -- a tail
    pub measuring_row : (r n : ℕ) → 0 < tails → get_or ns j 0 ≡ r → t + r ≤ 4294967295 → n ≡ length (shortest (t + r))
        → Measuring s checked xs ns first i (j + 1) (tails - 1) (t + r) (size + n)
    measuring_row r n h e l p =
        let b : rest_bytes s xs ns i j tails t ≡ shortest (t + r) ++ rest_bytes s xs ns i (j + 1) (tails - 1) (t + r) =
        rw e at (bytes_row s xs ns i j tails t h m.room) in
        let v = rw e at (told_row s xs ns checked i j tails t h m.room) in
        record {
          most = m.most;
          room = omega (arith, m.room);
          within = omega (arith, m.within);
          begun = omega (arith, m.begun);
          low = l;
          small = omega (arith, m.small, number_short (t + r) l);
          sum = omega (arith, m.sum, ap length b, length-append (shortest (t + r)) (rest_bytes s xs ns i (j + 1) (tails - 1) (t + r)));
          told = sym (rw (le-ltb 4294967295 (t + r) l) at v) ∙ m.told;
        }

    -- the same at places and sums that are equal to these
    pub measuring_entry : (r u n : ℕ) {next left : ℕ} → 0 < tails → get_or ns j 0 ≡ r → u ≡ t + r → u ≤ 4294967295 → n ≡ length (shortest u)
        → next ≡ j + 1 → left ≡ tails - 1 → Measuring s checked xs ns first i next left u (size + n)
    measuring_entry r u n h e q l p a b = rw (a, b, q) (measuring_row r n h e (omega arith) (rw q at p))

    pub measuring_same : {next left : ℕ} → next ≡ j → left ≡ tails → Measuring s checked xs ns first i next left t size
    measuring_same a b = rw (a, b) m

    pub measuring_row_refused : (r : ℕ) → 0 < tails → get_or ns j 0 ≡ r → 4294967295 < t + r → items_verdict s checked xs ns 0 0 0 ≡ refused TailTooLarge (i - 1)
    measuring_row_refused r h e l =
        let v = rw e at (told_row s xs ns checked i j tails t h m.room) in
        sym m.told ∙ (rw (lt-ltb 4294967295 (t + r) l) at v)

    none : tails ≤ 0 → tails ≡ 0
    none h = omega arith

    told_now : (x : LogItem) → tails ≤ 0 → i < length xs → get_or xs i blank_item ≡ x
        → unless_item (content_refusal s checked j (length ns) x.content) i (rest_verdict s xs ns checked (i + 1) j (entries_of x.content).count t)
        ≡ items_verdict s checked xs ns 0 0 0
    told_now x z h e =
        sym (rw e at (told_item s xs ns checked i j t m.low h (omega (arith, m.room)))) ∙ sym (ap (λ (n : ℕ). rest_verdict s xs ns checked i j n t) (none z))
        ∙ m.told

    -- an item
    pub measuring_item : (x : LogItem) {g : HeadSize} {rows : ℕ} → length ns ≡ rows → tails ≤ 0 → i < length xs → get_or xs i blank_item ≡ x
        → measure_item s checked j rows x ≡ Ok g → Measuring s checked xs ns first (i + 1) j g.count t (size + g.len)
    measuring_item x {g} all z h e f =
        let k = head_fine s checked j (length ns) x {h = g} (rw all f) in
        let n = (entries_of x.content).count in
        let y : rest_bytes s xs ns i j tails t ≡ head_bytes s x ++ rest_bytes s xs ns (i + 1) j n t =
        ap (λ (n : ℕ). rest_bytes s xs ns i j n t) (none z) ∙ (rw e at (bytes_item s xs ns i j t h)) in
        let q = content_allowed s checked j (length ns) x.content k.0 in
        let few : j + n ≤ 1024 = q.few (omega (arith, m.within)) in
        rw k.2
        (record {
          most = omega arith;
          room = q.lent (omega (arith, m.room));
          within = few;
          begun = omega arith;
          low = m.low;
          small = omega (arith, m.small, k.1);
          sum = omega (arith, m.sum, k.1, ap length y, length-append (head_bytes s x) (rest_bytes s xs ns (i + 1) j n t));
          told = sym (ap (λ (r : Checked Reason). unless_item r i (rest_verdict s xs ns checked (i + 1) j n t)) k.0) ∙ told_now x z h e;
        })

    pub measuring_item_refused : (x : LogItem) {r : Reason} {rows : ℕ} → length ns ≡ rows → tails ≤ 0 → i < length xs → get_or xs i blank_item ≡ x
        → measure_item s checked j rows x ≡ Err r → items_verdict s checked xs ns 0 0 0 ≡ refused r i
    measuring_item_refused x all z h e f = sym (told_now x z h e) ∙ unless_refused s checked j (length ns) x i _ (rw all f)

    -- the end
    pub told_all : tails ≤ 0 → length xs ≤ i → items_verdict s checked xs ns 0 0 0 ≡ Ok t
    told_all z h = sym m.told ∙ ap (λ (n : ℕ). rest_verdict s xs ns checked i j n t) (none z) ∙ told_end s xs ns checked i j t m.low h

    pub measuring_end : length xs ≤ 256 → first ≡ length (shortest (length xs)) → tails ≤ 0 → length xs ≤ i
        → measured_of (Ok t) size ≡ measure_of s checked xs ns
    unfolding measure_of list_verdict measured_of list_bytes
    measuring_end few e z h =
        let y = ap (λ (n : ℕ). rest_bytes s xs ns i j n t) (none z) ∙ bytes_end s xs ns i j t h in
        rw (le-leb (length xs) 256 few, told_all z h)
        (measured_capped t size (length (list_bytes s xs ns)) (omega (arith, m.sum, ap length y, length-append (shortest (length xs)) (items_bytes s xs ns 0))))
