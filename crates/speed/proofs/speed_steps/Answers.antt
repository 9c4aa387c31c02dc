-- `speed::speed_steps` meets its contract: each item that a step hands out is one of those that are left.
-- Assumes nothing.
use native.Mathlib.Omega.{arith}
use Rattle.std.proofs.Common.{rules, ◌≡◌, Ok, Some}
use Rattle.speed.proofs.Counting.{item_more, few_counted, refusal_counted}
use Rattle.speed.proofs.speed_steps.Goals as goal

pub overflow_add-entries : goal.overflow_add-entries
overflow_add-entries c =
    let answer : c.step-step.result.answer ≡ Ok (Some c.in-Ok-Some.found) = search rules in
    omega (arith, (few_counted (item_more c.loop-found.invariant c.step-step.ensures answer c.count_rows-entries.ensures)).1)

pub loop-found-smaller : goal.loop-found-smaller
loop-found-smaller c =
    let answer : c.step-step.result.answer ≡ Ok (Some c.in-Ok-Some.found) = search rules in
    omega (arith, (few_counted (item_more c.loop-found.invariant c.step-step.ensures answer c.count_rows-entries.ensures)).0)

pub returns-in-Err : goal.returns-in-Err
returns-in-Err c = refusal_counted c.loop-found.invariant c.step-step.ensures c.in-Err.is
