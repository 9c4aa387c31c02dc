-- An export that answers 0 refused nothing, where the function that it calls refuses for reasons alone.
-- Assumes nothing.
use Rattle.std.proofs.Common.{◌≡◌, ℕ, Bool, List, Result, Ok, Err, refl, sym, ◌∙◌}
use Rattle.refusal.specs.declared.Refusal.{Refusal}
use Rattle.refusal.proofs.Reasons.{ForReasons, never_0}
use Rattle.item_row.specs.Reply.{Reply, reply}
use Rattle.log_batch.specs.declared.BodyCheck.{BodyCheck}
use Rattle.batch_rows.specs.declared.BatchCheck.{BatchCheck}
use Rattle.raft_log.specs.Answers.{check_reply, batch_reply, plain_reply, written_reply}

accepted_by_0 : {A : Type 0} (replyOf : Result A Refusal → Reply) (words_of : Refusal → List ℕ) → ((x : Refusal) → replyOf (Err x) ≡ reply x.number (words_of x))
    → (m : Result A Refusal) → ForReasons m → {words : List ℕ} → replyOf m ≡ reply 0 words → (v : A) × (m ≡ Ok v)
accepted_by_0 replyOf words_of told (Ok v) h e = (v, refl)
accepted_by_0 replyOf words_of told (Err x) h {words} e = let same : reply x.number (words_of x) ≡ reply 0 words = sym (told x) ∙ e in absurd (never_0 x (h x refl) cc)

pub check_0 : (m : Result BodyCheck Refusal) → ForReasons m → {words : List ℕ} → check_reply m ≡ reply 0 words → (c : BodyCheck) × (m ≡ Ok c)
check_0 = accepted_by_0 check_reply _ (λ x. refl)

pub batch_0 : (m : Result BatchCheck Refusal) → ForReasons m → {words : List ℕ} → batch_reply m ≡ reply 0 words → (c : BatchCheck) × (m ≡ Ok c)
batch_0 = accepted_by_0 batch_reply _ (λ x. refl)

pub plain_0 : (m : Result Bool Refusal) → ForReasons m → {words : List ℕ} → plain_reply m ≡ reply 0 words → (yes : Bool) × (m ≡ Ok yes)
plain_0 = accepted_by_0 plain_reply _ (λ x. refl)

pub written_0 : (m : Result ℕ Refusal) → ForReasons m → {words : List ℕ} → written_reply m ≡ reply 0 words → (n : ℕ) × (m ≡ Ok n)
written_0 = accepted_by_0 written_reply _ (λ x. refl)
