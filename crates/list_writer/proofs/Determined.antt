-- No second answer: two results that meet one contract are equal, and so are the buffers that they leave.
-- Assumes nothing.
use Prim.Native.Nat.{ℕ}
use mathlib.Core.Path.{◌≡◌, sym, ◌∙◌}
use mathlib.Core.List.{List}
use mir.Syntax.{Dict}
use denote.RattleType.{RattleType}
use denote.Param.Laws.{Laws}
use Rattle.one_answer.specs.OneAnswer.{OneAnswer}
use Rattle.item_row.specs.declared.ItemRow as item_row
use Rattle.item_row.specs.declared.EntryRow as entry_row
use Rattle.list_writer.proofs.measure_list.Kinds as measure_list_kinds
use Rattle.list_writer.proofs.measure_list.Reads as measure_list_reads
use Rattle.list_writer.proofs.encode_list.Kinds as encode_list_kinds
use Rattle.list_writer.proofs.encode_list.Reads as encode_list_reads
use Rattle.list_writer.proofs.measure.Kinds as measure_kinds
use Rattle.list_writer.proofs.measure.Reads as measure_reads
use Rattle.list_writer.proofs.finish.Kinds as finish_kinds
use Rattle.list_writer.proofs.finish.Reads as finish_reads
use Rattle.list_writer.specs.declared.Measured.{Measured}
use Rattle.std.specs.Prelude.{Result}
use Rattle.refusal.specs.declared.Refusal.{Refusal}
use Rattle.list_writer.specs.Answers.{MeasuredWritten}
use Rattle.list_writer.proofs.encode.Kinds as encode_kinds
use Rattle.list_writer.proofs.encode.Reads as encode_reads
use Rattle.list_writer.proofs.placing.Kinds as placing_kinds
use Rattle.list_writer.proofs.placing.Reads as placing_reads
use Rattle.list_writer.proofs.write_head.Kinds as write_head_kinds
use Rattle.list_writer.proofs.write_head.Reads as write_head_reads
use Rattle.list_writer.proofs.write_footer.Kinds as write_footer_kinds
use Rattle.list_writer.proofs.write_footer.Reads as write_footer_reads

pub measure : OneAnswer 1 measure_kinds.ps measure_kinds.r measure_reads.Post (λ κs x y s t. x ≡ y)
measure κs a x y s t p q = p ∙ sym q

pub finish : OneAnswer 0 finish_kinds.ps finish_kinds.r finish_reads.Post (λ κs x y s t. x ≡ y)
finish κs a x y s t p q = p ∙ sym q

-- A measured body has one answer, and leaves one buffer.
pub written_once : {m : Result Measured Refusal} {bytes out : List ℕ} {at : ℕ} {x y : Result ℕ Refusal} {later other : List ℕ} → MeasuredWritten m bytes out at x later
    → MeasuredWritten m bytes out at y other → (x ≡ y) × (later ≡ other)
written_once {x = x} {y = y} p q = let e : x ≡ y = p.answer ∙ sym q.answer in (e, p.written ∙ (rw e (sym q.written)))

pub encode : OneAnswer 2 encode_kinds.ps encode_kinds.r encode_reads.Post (λ κs x y s t. (x ≡ y) × (s.1.1.1.1.1.1.1.0.now ≡ t.1.1.1.1.1.1.1.0.now))
encode κs a x y s t p q = written_once p q

pub placing : OneAnswer 0 placing_kinds.ps placing_kinds.r placing_reads.Post (λ κs x y s t. x ≡ y)
placing κs a x y s t p q = p ∙ sym q

pub write_head : OneAnswer 2 write_head_kinds.ps write_head_kinds.r write_head_reads.Post (λ κs x y s t. (x ≡ y) × (s.1.1.0.now ≡ t.1.1.0.now))
write_head κs a x y s t p q = (p.0 ∙ sym q.0, p.1 ∙ sym q.1)

pub write_footer : OneAnswer 1 write_footer_kinds.ps write_footer_kinds.r write_footer_reads.Post (λ κs x y s t. (x ≡ y) × (s.1.0.now ≡ t.1.0.now))
write_footer κs a x y s t p q = (p.0 ∙ sym q.0, p.1 ∙ sym q.1)

-- rows of any kind
module _ (I E : RattleType) (i : Laws I) (e : Laws E) (item : item_row.Ghosts I.Denot) (d : Dict) (entry : entry_row.Ghosts E.Denot) (f : Dict) where
  pub measure_list : OneAnswer 5 (measure_list_kinds.ps I E i e) (measure_list_kinds.r I E i e) (measure_list_reads.Post I E i e item d entry f) (λ κs x y s t. x ≡ y)
  measure_list κs a x y s t p q = p ∙ sym q

  pub encode_list : OneAnswer 6 (encode_list_kinds.ps I E i e) (encode_list_kinds.r I E i e) (encode_list_reads.Post I E i e item d entry f)
      (λ κs x y s t. (x ≡ y) × (s.1.1.1.1.1.0.now ≡ t.1.1.1.1.1.0.now))
  encode_list κs a x y s t p q = written_once p q
