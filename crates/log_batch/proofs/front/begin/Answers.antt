-- `log_batch::front::begin` meets its contract: a batch of some bytes has room for header and block.
-- Assumes nothing.
use Rattle.std.proofs.Common.{◌≤◌, arith}
use Rattle.std.proofs.lemmas.Grind.{common_steps}
use Rattle.log_batch.specs.Front.{measured_length}
use Rattle.log_batch.proofs.Fronts.{front_asked}
use Rattle.log_batch.proofs.front.begin.Goals as goal

pub write_front-requires : goal.write_front-requires
write_front-requires c =
    let small : measured_length c.match-m.m ≤ 4294967295 = grind (arith, common_steps) in
    front_asked c.match-m.m c.args.items c.args.content.now c.args.out.now small c.in_ok-len.ensures c.if-len-ne0.true
