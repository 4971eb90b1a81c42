-- The header with which a packet goes over, by what is lost of its channel.
use Rattle.std.specs.Prelude.{ℕ, ◌+◌, ◌-◌, ◌%◌}
use Rattle.ch11_header.specs.declared.header.Header.{Header}
use Rattle.bench_cut.specs.Cut.{flags_with}
use Rattle.bench_cut.specs.Losses.{or_nought}
use Rattle.bench_cut.specs.declared.losses.ChannelLoss.{ChannelLoss}

abbrev pub number_for : ChannelLoss → ℕ → ℕ
number_for loss sequence = (sequence + (256 - or_nought loss.lost)) % 256

abbrev pub header_for : ChannelLoss → Header → Header
header_for loss h = record h {
  sequence = number_for loss h.sequence;
  flags = flags_with loss.owed h.flags;
}
