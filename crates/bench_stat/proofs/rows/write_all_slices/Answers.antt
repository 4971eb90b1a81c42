use Rattle.std.proofs.Common.{refl}
use Rattle.std.specs.Prelude.{codes}
use Rattle.bench_stat.specs.RowText.{all_slices, slices_of}
use Rattle.bench_stat.proofs.Appending.{all_got, goes_on}
use Rattle.bench_stat.proofs.rows.write_all_slices.Goals as goal

pub loop-channel-preserved : goal.loop-channel-preserved
loop-channel-preserved g c =
    goes_on (slices_of c.args.told.now) c.args.figures.now c.loop-channel.channel-index _ _ _ _ _ (codes "\nchannel,begin_us,end_us,load_percent\n") refl c.loop-channel-test.true c.loop-channel.invariant c.in_ok-write_slices_of.ensures

pub returns : goal.returns
unfolding all_slices
returns g c = all_got (slices_of c.args.told.now) c.args.figures.now c.loop-channel.channel-index _ _ (codes "\nchannel,begin_us,end_us,load_percent\n") c.loop-channel-test.false c.loop-channel.invariant
