-- A cursor that was started on a body, and a reader that was opened on one, refuse for a reason alone, at each step.
-- Assumes nothing.
use Rattle.std.proofs.Common.{◌≡◌, ℕ, zero, suc, Bool, true, false, cond, List, Option, Some, None, Ok, Bor, nat_lt}
use Rattle.refusal.specs.declared.Refusal.{Refusal}
use Rattle.refusal.proofs.Reasons.{OfReason, ForReasons, refused_for, done_for}
use Rattle.log_item.specs.Got.{Got, got, refused}
use Rattle.log_item.specs.declared.ItemRead.{ItemRead}
use Rattle.log_item.specs.declared.Form.TheVariants.{Any}
use Rattle.log_item.specs.Answers.{counted_item}
use Rattle.log_batch.specs.Reading.{Answer, accepted, rejected}
use Rattle.log_batch.specs.Seal.{sealed_part}
use Rattle.log_batch.specs.Body.{read_body}
use Rattle.item_reader.specs.declared.Cursor.{Cursor}
use Rattle.item_reader.specs.declared.Stepped.{Stepped}
use Rattle.item_reader.specs.declared.ItemReader.{ItemReader}
use Rattle.item_reader.specs.Steps.{stayed, step_over, unless_refused, stepped}
use Rattle.item_reader.specs.Cursor.{after_count, start_by, started}
use Rattle.item_reader.specs.Reader.{opened, after_calls, nth_of}

-- the refusal of a cursor, where it has one, is of a reason
abbrev pub Reasoned : Cursor → Type 0
Reasoned c = (x : Refusal) → c.refusal ≡ Some x → OfReason x

-- A step by such a cursor answers for reasons, and leads to such a cursor.
abbrev pub StepFor : Stepped → Type 0
StepFor s = ForReasons s.answer × Reasoned s.cursor

pub step_for : (body : List ℕ) (c : Cursor) → Reasoned c → StepFor (stepped body c)
unfolding stepped
step_for body c h =
    by c.refusal _ h (one (nat_lt c.item c.count) _ (stayed c (Ok None)) (over (counted_item Any (sealed_part body) c.used c.total c.at)) (done_for _, h))
  where
    over : (g : Got ItemRead) → StepFor (step_over c g)
    over (got x q) = (done_for _, h)
    over (refused r) = (refused_for r c.item, h)

    one : (b : Bool) (s t : Stepped) → StepFor s → StepFor t → StepFor (cond b s t)
    one true s t u v = u
    one false s t u v = v

    by : (why : Option Refusal) (s : Stepped) → ((x : Refusal) → why ≡ Some x → OfReason x) → StepFor s → StepFor (unless_refused why c s)
    by (Some r) s k u = (λ x e. k x cc, h)
    by None s k u = u

-- Where both begin, and each later step.
pub started_for : (body : List ℕ) (signature : ℕ) → Reasoned (started body signature)
unfolding started
started_for body signature = by (after_count (sealed_part body)) (read_body body signature)
  where
    by : (p : ℕ) (a : Answer) → Reasoned (start_by p a)
    by p (accepted xs rows u q) x e = cc
    by p (rejected r i) x e = refused_for {A = ℕ} r i x cc

steps_for : (r : ItemReader) (k : ℕ) → Reasoned r.cursor → Reasoned (after_calls r k).cursor
unfolding after_calls
steps_for r zero h = h
steps_for r (suc k) h = let q = after_calls r k in (step_for q.body.now q.cursor (steps_for r k h)).1

pub nth_for : (body : Bor (List ℕ)) (signature k : ℕ) → ForReasons (nth_of (opened body signature) k)
nth_for body signature k = (step_for _ _ (steps_for (opened body signature) k (started_for body.now signature))).0
