use Rattle.std.proofs.Common.{rules, sym, pow-suc, arith, ◌<◌, ◌+◌, ◌^◌, suc}
use Rattle.block.specs.Chunks.{chunk-is}
use Rattle.block.proofs.chunk.Goals as goal

pub returns : goal.returns
returns c =
    let high : c.args.index + 1 < 2 ^ suc c.ilog2.result = simp pow-suc (let h = c.ilog2.ensures.next_power_gt in omega arith) in
    (sym (chunk-is c.args.index c.ilog2.result (search rules) (record { low = c.ilog2.ensures.power_le; high = high })), search rules)
