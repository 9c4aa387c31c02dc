-- The first row that stops the run is as far from lo as the run is long, and one that nothing stops goes on to the end.
-- Assumes nothing.
use Rattle.std.proofs.Common.{◌≡◌, ◌∙◌, ◌+◌, ◌-◌, sym, ap, ℕ, List, rules, arith, take, drop, length, length-take, length-drop}
use Rattle.std.specs.Prelude.{Option, unwrap_or}
use Rattle.std.proofs.lemmas.Iterator.{YieldsList-from_slice, IsFirst-from_position}
use borrow.Author.Tests.{tests}
use Rattle.pipe_log.specs.declared.Location.{Location}
use Rattle.memtable.specs.Rows.{run_of}
use Rattle.memtable.proofs.RunPlaces.{Stops, Passes, run_place, run_before}
use Rattle.memtable.proofs.RecordsLayout.scan.Goals as goal

pub returns-in-Some : goal.returns-in-Some
returns-in-Some c =
    let part : List Location = take (c.min-end.result - c.args.lo) (drop c.args.lo c.args.rows.now) in
    let h = run_place c.args.stop part _ (IsFirst-from_position _ _ _ (Stops c.args.stop) (Passes c.args.stop) c.position-first.ensures.ran (YieldsList-from_slice part cc) (λ x q k. search (rules, tests)) (λ x q k. search (rules, tests))) in
    ap (λ (n : ℕ). c.args.lo + n) (sym (h ∙ ap (λ (o : Option ℕ). unwrap_or o (length part)) c.in-Some.is) ∙ run_before c.args.stop _ _ _ _ c.min-end.ensures)

pub returns-in-None : goal.returns-in-None
returns-in-None c =
    let part : List Location = take (c.min-end.result - c.args.lo) (drop c.args.lo c.args.rows.now) in
    let h = run_place c.args.stop part _ (IsFirst-from_position _ _ _ (Stops c.args.stop) (Passes c.args.stop) c.position-first.ensures.ran (YieldsList-from_slice part cc) (λ x q k. search (rules, tests)) (λ x q k. search (rules, tests))) in
    let all : run_of c.args.stop part ≡ length part = h ∙ ap (λ (o : Option ℕ). unwrap_or o (length part)) c.in-None.is in
    omega (arith, all, run_before c.args.stop c.args.rows.now c.args.lo c.args.hi _ c.min-end.ensures, length-take (c.min-end.result - c.args.lo) (drop c.args.lo c.args.rows.now), length-drop c.args.lo c.args.rows.now)
