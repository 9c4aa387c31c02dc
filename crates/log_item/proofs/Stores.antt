-- Runs of stores, one after the other, and what a function that tests for room answers.
-- Assumes nothing.
use Prim.Native.Nat.{ℕ, suc, ◌+◌, ◌-◌, ◌≤◌, ◌<◌, ◌^◌}
use mathlib.Core.Path.{◌≡◌, refl, sym, ap, ◌∙◌}
use mathlib.Core.Bool.{Bool, true, false}
use mathlib.Core.List.{List, [], ◌∷◌, ◌++◌, append_assoc}
use native.Mathlib.Omega.{arith}
use lib.Dec.{leb}
use lib.ListN.{length, take, drop, set, length-append}
use lib.Seq.{sets, length-sets, sets-eq, drop-drop, drop_at, length-take-le}
use borrow.Rule.Slice.PartMut.{put_mid}
use borrow.Author.Tests.{le-leb, lt-leb, leb-true, leb-false}
use Rattle.words.specs.Write.{next_at, placed}
use Rattle.words.proofs.Writing.{room_for}
use Rattle.std.specs.Prelude.{Ok, Err}
use Rattle.refusal.specs.First.{fine}
use Rattle.refusal.specs.declared.Reason.{Reason}
use Rattle.log_item.specs.Written.{piece_refusal, PieceWritten}
use Rattle.words.specs.Place.{At}
use Rattle.log_item.specs.Private.{Room, Stored, fitted}
use Rattle.log_item.proofs.Refusals.{passed}

sets_append : (bs cs out : List ℕ) (at : ℕ) → sets out at (bs ++ cs) ≡ sets (sets out at bs) (at + length bs) cs
sets_append [] cs out at = let e : at ≡ at + 0 = omega arith in ap (λ (k : ℕ). sets out k cs) e
sets_append (b ∷ bs) cs out at =
    let e : suc at + length bs ≡ at + suc (length bs) = omega arith in
    sets_append bs cs (set out at b) (suc at) ∙ ap (λ (k : ℕ). sets (sets (set out at b) (suc at) bs) k cs) e

-- Nothing is stored by nothing.
pub stored_none : (out : List ℕ) (at : ℕ) → Stored out at [] at out
stored_none out at = record { after = omega arith; stored = refl }

-- One after the other.
pub stored_then : {out mid later : List ℕ} {at m n : ℕ} {bs cs : List ℕ} → Stored out at bs m mid → Stored mid m cs n later → Stored out at (bs ++ cs) n later
stored_then {out} {mid} {later} {at} {m} {n} {bs} {cs} p q =
    record {
      after = omega (arith, length-append bs cs, p.after, q.after);
      stored =
          q.stored ∙ ap (λ (l : List ℕ). sets l m cs) p.stored ∙ ap (λ (k : ℕ). sets (sets out at bs) k cs) p.after
          ∙ sym (sets_append bs cs out at);
    }

pub stored_length : {out later : List ℕ} {at n : ℕ} {bs : List ℕ} → Stored out at bs n later → length later ≡ length out
stored_length {out} {later} {at} {n} {bs} p = ap length p.stored ∙ length-sets out at bs

pub stored_same : {out later : List ℕ} {at n : ℕ} {bs cs : List ℕ} → cs ≡ bs → Stored out at bs n later → Stored out at cs n later
stored_same e w = rw e w

pub room_same : {out : List ℕ} {at : ℕ} {bs cs : List ℕ} → cs ≡ bs → Room out at cs → Room out at bs
room_same e h = rw e at h

-- Room for the second, after the first.
pub room_then : {out mid : List ℕ} {at m : ℕ} {bs : List ℕ} (cs : List ℕ) → Stored out at bs m mid → Room out at (bs ++ cs) → Room mid m cs
room_then {bs = bs} cs p h = record { fits = omega (arith, length-append bs cs, stored_length p, p.after, h.fits) }

pub room_first : {out : List ℕ} {at : ℕ} (bs cs : List ℕ) → Room out at (bs ++ cs) → Room out at bs
room_first bs cs h = record { fits = omega (arith, length-append bs cs, h.fits) }

-- For bytes that are stored one after the other
pub ruleset in_turn = (room_first, room_then, stored_then)

-- Bytes that there is room for are stored where they are placed.
pub stored_placed : {out later : List ℕ} {at n : ℕ} {bs : List ℕ} → Room out at bs → n ≡ at + length bs → later ≡ placed out at bs → Stored out at bs n later
stored_placed {out} {later} {at} {n} {bs} h e p = record { after = e; stored = (simp (le-leb _ _ h.fits) at p) ∙ sym (sets-eq bs out at h.fits) }

-- Bytes that were copied to a place.
pub stored_copied : {out : List ℕ} {at : ℕ} {bs : List ℕ} (k next : ℕ) (copied : List ℕ) → Room out at bs → k ≡ length bs → next ≡ at + length bs → copied ≡ bs
    → Stored out at bs next (put_mid at k out copied)
stored_copied {out} {at} {bs} k next copied h e n same =
    record {
      after = n;
      stored = rw (e, same, drop-drop (length bs) at out) (sym (append_assoc (take at out) bs (drop (at + length bs) out)) ∙ sym (sets-eq bs out at h.fits));
    }

-- Bytes that were stored at a place stand there.
pub stored_stands : {out later : List ℕ} {at n : ℕ} {bs : List ℕ} → Room out at bs → Stored out at bs n later → At later at n bs
stored_stands {out} {later} {at} {n} {bs} h w =
    let tail : List ℕ = drop (at + length bs) out in
    let whole : later ≡ take at out ++ bs ++ tail = w.stored ∙ sets-eq bs out at h.fits in
    let front : length (take at out) ≡ at = length-take-le at out (omega (arith, h.fits)) in
    let first : drop at later ≡ bs ++ tail = ap (drop at) (whole ∙ append_assoc (take at out) bs tail) ∙ drop_at (take at out) (bs ++ tail) at front in
    let second : drop n later ≡ tail = ap (drop n) whole ∙ drop_at (take at out ++ bs) tail n (omega (arith, length-append (take at out) bs, w.after)) in
    record { stand = first ∙ ap (λ (l : List ℕ). bs ++ l) (sym second); ends = w.after }

pub stored_at : {out later : List ℕ} {at next : ℕ} {bs : List ℕ} → Room out at bs → (next ≡ next_at out at bs) × (later ≡ placed out at bs) → Stored out at bs next later
unfolding next_at
stored_at h p = stored_placed h (simp (le-leb _ _ h.fits) at p.0) p.1

-- Bytes for which there is room are not refused.
pub none_refused : {b : Bool} {out bs : List ℕ} {at : ℕ} → b ≡ true → Room out at bs → piece_refusal b at (length bs) (length out) ≡ fine
unfolding piece_refusal
none_refused i h = rw (i, le-leb _ _ h.fits)

-- A length, none above the largest number, tells whether bytes fit: no buffer is that long.
pub refusal_told : (b : Bool) (at m n all : ℕ) → (b ≡ true → n ≡ m) → all < 2 ^ 64 - 1 → piece_refusal b at (fitted m) all ≡ piece_refusal b at n all
unfolding piece_refusal
refusal_told b at m n all e small = go b e
  where
    told : n ≡ m → (c : Bool) → leb (at + n) all ≡ c → leb (at + fitted m) all ≡ c
    told f true h = let k : at + n ≤ all = leb-true _ _ h in le-leb (at + fitted m) all (omega arith)
    told f false h = let k : all < at + n = leb-false _ _ h in lt-leb (at + fitted m) all (omega arith)

    go : (d : Bool) → (d ≡ true → n ≡ m) → piece_refusal d at (fitted m) all ≡ piece_refusal d at n all
    go true f = rw (told (f refl) (leb (at + n) all) refl)
    go false f = refl

-- The answers of a function that tests first whether spans lie in the store and whether bytes fit.
module _ (b : Bool) (out bs : List ℕ) (at : ℕ) where
  pub piece_refused : {x : Reason} → piece_refusal b at (length bs) (length out) ≡ Err x → PieceWritten b bs out at (Err x) out
  piece_refused e = record { answer = rw e; written = rw e }

  module _ (z : piece_refusal b at (length bs) (length out) ≡ fine) where
    pub piece_ready : Room out at bs
    unfolding piece_refusal
    piece_ready = record { fits = leb-true _ _ (passed (leb (at + length bs) (length out)) _ (passed b _ z).1).0 }

    pub piece_stored : {next : ℕ} {later : List ℕ} → Stored out at bs next later → PieceWritten b bs out at (Ok next) later
    piece_stored {next} {later} w =
        let p = room_for out at bs later next piece_ready.fits (w.stored, w.after) in
        record { answer = rw z (ap Ok w.after); written = rw z p.1 }
