-- `line::find` meets its contract.
-- Assumes nothing.
use native.Mathlib.Omega.{arith}
use lib.ListN.{drop, length, take, length-drop}
use lib.Seq.{take_all}
use Rattle.std.proofs.Common.{◌≡◌, ◌-◌}
use Rattle.line.specs.Word.{index_of}
use Rattle.line.proofs.Places.{found_or_end}
use Rattle.line.proofs.find.Goals as goal

pub returns : goal.returns
returns c =
    let all : take (length c.args.text.now - c.args.at) (drop c.args.at c.args.text.now) ≡ drop c.args.at c.args.text.now = take_all _ _ (omega (arith, length-drop c.args.at c.args.text.now)) in
    let place : c.unwrap_or.result ≡ index_of c.args.b (drop c.args.at c.args.text.now) = found_or_end _ _ (rw all at c.first.ensures) (rw all at c.unwrap_or.ensures) in
    rw place
